use Rattle.std.proofs.Common.{ℕ, ◌+◌, ◌*◌, length-set, ◌∙◌, arith}
use Rattle.std.proofs.lemmas.List.FromFn.{fill_by_all}
use Rattle.std.proofs.lemmas.List.Edits.{fill_by_more}
use Rattle.page_source.specs.Pages.{num}
use Rattle.inode_segments.specs.Inodes.{slots_at}
use Rattle.inode_segments.proofs.inode.read_slots.Goals as goal

pub loop-i-preserved : goal.loop-i-preserved
loop-i-preserved c =
    let so_far = c.loop-i.invariant in
    let slot = λ (i : ℕ). num c.args.page.now (c.args.at + 4 * i) 4 in (
      length-set c.loop-i.slots c.loop-i.i _ ∙ so_far.0,
      rw c.read_be.ensures.number (fill_by_more slot c.loop-i.slots c.loop-i.i 0 (omega (arith, so_far.0)) so_far.1),
    )

pub returns : goal.returns
unfolding slots_at
returns c =
    let so_far = c.loop-i.invariant in
    fill_by_all (λ i. num c.args.page.now (c.args.at + 4 * i) 4) c.loop-i.slots 32 0 so_far.0
    (λ k h. so_far.1 k (omega arith))
