use Rattle.std.proofs.Common.{◌≢◌, ℕ, ◌<◌, ap, arith}
use Rattle.std.specs.Int.{bit_at}
use Rattle.std.proofs.lemmas.Nat.Bits.{bit_at-zero}
use Rattle.row_text.proofs.Vectors.{plain_run}
use Rattle.row_text.proofs.read.lanes.plain_length.Goals as goal

pub returns-then-bits-eq0-clause-plain : goal.returns-then-bits-eq0-clause-plain
returns-then-bits-eq0-clause-plain c =
    let none : (k : ℕ) → k < 16 → bit_at c.top_bits-bits.result k ≢ 1 = λ k lt is.
    omega (arith, is, ap (λ m. bit_at m k) c.if-bits-eq0.true, bit_at-zero k) in
    plain_run c.args.run.now c.load.result c.special.result c.top_bits-bits.result 16 c.requires c.load.ensures
    c.special.ensures c.top_bits-bits.ensures none (omega arith)

pub returns-clause-plain : goal.returns-clause-plain
returns-clause-plain c =
    plain_run c.args.run.now c.load.result c.special.result c.top_bits-bits.result c.min.result
    c.requires c.load.ensures
    c.special.ensures c.top_bits-bits.ensures
    (λ k lt is. omega (arith, is, c.lowest.ensures.below k (omega (arith, lt, c.min.ensures))))
    (omega (arith, c.min.ensures))
