use Rattle.std.proofs.Common.{◌≡◌, ℕ, ◌+◌, ◌*◌, ◌/◌, ◌%◌, ◌<◌, slice_index, slice_set, take, ap, ◌∙◌, arith}
use Rattle.std.proofs.lemmas.List.{length-set, take_more_set}
use Rattle.hex.specs.Hex.{lower_digits}
use Rattle.row_text.proofs.LeadingBytes.{hexed_none, hexed_more}
use Rattle.row_text.proofs.read.bytes.write_bytes.Goals as goal

pub loop-i-init : goal.loop-i-init
loop-i-init c = record { size = c.requires; done = λ _. hexed_none c.args.digits.now }

pub loop-i-preserved : goal.loop-i-preserved
loop-i-preserved c =
    let digits = c.args.digits.now in
    let room = c.loop-i.room in
    let i = c.loop-i.i in
    let high = c.number_of-high.result in
    let low = c.number_of-low.result in
    let byte : ℕ = high % 16 * 16 + low % 16 in
    let so = c.loop-i.invariant in
    record {
      size = omega (arith, so.size, length-set room i byte);
      done = λ all.
          let of_high : high < 16 = omega (arith, all, c.max.ensures, c.max-greatest.ensures) in
          let of_low : low < 16 = omega (arith, all, c.max-greatest.ensures) in
          let before : c.loop-i.greatest < 16 = omega (arith, all, c.max.ensures, c.max-greatest.ensures) in
          let first : byte / 16 ≡ high = omega (arith, of_high, of_low) in
          let second : byte % 16 ≡ low = omega (arith, of_high, of_low) in
          hexed_more digits (take i room) (take (i + 1) (slice_set room i byte)) i byte (so.done before)
          (omega (arith, so.size, c.loop-i-test.true)) (omega (arith, of_high, of_low))
          (ap (λ (k : ℕ). slice_index lower_digits k) first ∙ c.number_of-high.ensures.is of_high)
          (ap (λ (k : ℕ). slice_index lower_digits k) second ∙ c.number_of-low.ensures.is of_low)
          (take_more_set room i byte (omega (arith, c.loop-i-test.true)));
    }
