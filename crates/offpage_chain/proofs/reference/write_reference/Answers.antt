use Rattle.std.proofs.Common.{◌∙◌, ap}
use Rattle.offpage_chain.specs.Reference.{reference_in}
use Rattle.offpage_chain.proofs.References.{reference_read}
use Rattle.offpage_chain.proofs.reference.write_reference.Goals as goal

pub returns-clause-read : goal.returns-clause-read
returns-clause-read c =
    ap reference_in c.put_fields.ensures.exact ∙ reference_read c.args.reference.now c.put_fields.ensures.fits
