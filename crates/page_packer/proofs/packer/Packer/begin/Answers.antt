use Rattle.std.proofs.Common.{List, ap}
use Rattle.page_packer.specs.Packing.{Pushed}
use Rattle.page_packer.proofs.Fills.{filled_none, none_in}
use Rattle.page_packer.proofs.packer.Packer.begin.Goals as goal

pub invariant_of-self : goal.invariant_of-self
invariant_of-self c = filled_none c.self.inside.page c.self.inside.spots.items c.self.invariant.room

pub returns : goal.returns
returns c =
    ap (λ (rs : List Pushed). record { level = c.args.level; records = rs })
    (none_in c.self.inside.page c.self.inside.spots.items)
