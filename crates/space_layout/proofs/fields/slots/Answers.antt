use Rattle.std.proofs.Common.{length-set, ◌∙◌, arith}
use Rattle.std.proofs.lemmas.List.FromFn.{fill_by_all}
use Rattle.std.proofs.lemmas.List.Edits.{fill_by_more}
use Rattle.space_layout.specs.Fields.{slot_of}
use Rattle.space_layout.proofs.fields.slots.Goals as goal

pub loop-i-preserved : goal.loop-i-preserved
loop-i-preserved c =
    let so_far = c.loop-i.invariant in (
      length-set c.loop-i.slots c.loop-i.i _ ∙ so_far.0,
      rw c.slot_of.ensures (fill_by_more (slot_of c.args.sizes.now c.args.s) c.loop-i.slots c.loop-i.i 0
          (omega (arith, so_far.0)) so_far.1),
    )

pub returns : goal.returns
returns c =
    let so_far = c.loop-i.invariant in
    fill_by_all (slot_of c.args.sizes.now c.args.s) c.loop-i.slots 32 0 so_far.0 (λ k h. so_far.1 k (omega arith))
