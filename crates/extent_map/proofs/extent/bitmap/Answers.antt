use Rattle.std.proofs.Common.{length-set, ◌∙◌, arith}
use Rattle.std.proofs.lemmas.List.FromFn.{fill_by_all}
use Rattle.std.proofs.lemmas.List.Edits.{fill_by_more}
use Rattle.extent_map.specs.Writing.{bitmap_byte, bitmap_bytes}
use Rattle.extent_map.proofs.extent.bitmap.Goals as goal

pub loop-i-preserved : goal.loop-i-preserved
loop-i-preserved c =
    let so_far = c.loop-i.invariant in (
      length-set c.loop-i.bytes c.loop-i.i _ ∙ so_far.0,
      rw c.four_pages.ensures (fill_by_more (bitmap_byte c.args.used) c.loop-i.bytes c.loop-i.i 0
          (omega (arith, so_far.0)) so_far.1),
    )

pub returns : goal.returns
unfolding bitmap_bytes
returns c =
    let so_far = c.loop-i.invariant in
    fill_by_all (bitmap_byte c.args.used) c.loop-i.bytes 16 0 so_far.0 (λ k h. so_far.1 k (omega arith))
