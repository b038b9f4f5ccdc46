use Rattle.std.proofs.Common.{◌≡◌, ℕ, suc, ◌+◌, ◌-◌, ◌<◌, ◌≤◌, List, length, slice_index, arith}
use Rattle.tree_layout.specs.Places.{pages_above}
use Rattle.tree_layout.proofs.Numbers.{above_none, above_more}
use Rattle.space_builder.proofs.places.pages_above.Goals as goal

above_step : (counts : List ℕ) (i : ℕ) → 1 ≤ i → i < length counts
    → pages_above counts (i - 1) ≡ slice_index counts i + pages_above counts i
above_step counts i some inside =
    let e : suc (i - 1) ≡ i = omega arith in rw e at (above_more counts (i - 1) (omega arith))

pub overflow_add-sum : goal.overflow_add-sum
overflow_add-sum c =
    let low = c.loop-i.auto.i in
    let step = above_step c.args.counts.now c.loop-i.i (omega arith) (omega arith) in
    omega arith

pub loop-i-preserved : goal.loop-i-preserved
loop-i-preserved c =
    let low = c.loop-i.auto.i in
    let step = above_step c.args.counts.now c.loop-i.i (omega arith) (omega arith) in
    let back : c.loop-i.i + 1 - 1 ≡ c.loop-i.i = omega arith in
    rw back (omega arith)

pub returns : goal.returns
returns c =
    let low = c.loop-i.auto.i in
    let none = above_none c.args.counts.now (c.loop-i.i - 1) (omega arith) in
    omega arith
