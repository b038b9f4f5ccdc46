use Rattle.std.proofs.Common.{arith}
use Rattle.space_layout.proofs.PageNumbers.{own_end}
use Rattle.space_layout.proofs.fields.full_of.Goals as goal

pub returns-clause-small : goal.returns-clause-small
returns-clause-small c =
    let end = own_end c.args.sizes.now c.args.s c.requires.within in
    let fits = c.requires.shape.fits in
    omega arith
