use Rattle.std.proofs.Common.{◌≡◌, ◌*◌, ◌-◌, ◌%◌, ◌^◌, ◌<◌, ◌≤◌, inl, inr, refl, arith, ltb-true}
use Rattle.std.proofs.Math.Pow.{pow_mono}
use Rattle.std.proofs.lemmas.Bool.{eqb-true}
use Rattle.std.proofs.lemmas.Bool.Decides.{eqb_tells}
use Rattle.extent_map.proofs.Uses.{use_of, used_is_mask, within_from, from_within, below_test}
use Rattle.extent_map.proofs.Masks.{mask_fits}
use Rattle.extent_map.proofs.checks.is_within.Goals as goal

pub returns-then-size-first : goal.returns-then-size-first
returns-then-size-first c = λ file is.
    let x = c.args.extent.now in
    let e = c.args.e in
    let size = c.args.size in
    let enough : 64 ≤ size - 64 * e = omega arith in
    let fits : x.used < 2 ^ 64 = omega (arith, used_is_mask file e x is, mask_fits (use_of file e) 64) in
    let small : x.used < 2 ^ (size - 64 * e) = omega (arith, fits, pow_mono enough) in
    (λ _. within_from file e size x is small, λ _. refl)

pub returns-then-size-first-2 : goal.returns-then-size-first-2
returns-then-size-first-2 c = λ file is.
    let x = c.args.extent.now in
    let e = c.args.e in
    let size = c.args.size in
    let none : size - 64 * e ≡ 0 = omega arith in (
      λ t. within_from file e size x is (rw none (omega (arith, eqb-true x.used 0 t))),
      λ within.
          let small : x.used < 2 ^ 0 = rw none at (from_within file e size x is within) in
          elim (eqb_tells x.used 0) [ inl q ↦ q.0 | inr q ↦ absurd (q.1 (omega (arith, small))) ],
    )

pub returns : goal.returns
returns c = λ file is.
    let x = c.args.extent.now in
    let e = c.args.e in
    let size = c.args.size in
    let room : size - 64 * e ≤ 63 = omega arith in
    let power : 1 * 2 ^ (size - 64 * e) % 18446744073709551616 ≡ 2 ^ (size - 64 * e) = omega (arith, pow_mono room) in (
      λ t. within_from file e size x is (rw power at (ltb-true x.used _ t)),
      λ within. below_test x.used _ (rw power (from_within file e size x is within)),
    )
