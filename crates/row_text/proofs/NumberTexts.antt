-- Texts of numbers as texts of utf8, and back.
use Rattle.std.proofs.Common.{◌≡◌, ℕ, ◌<◌, ◌^◌, Bool, true, false, List, Some, None, IsTrue, Result, Ok, Err}
use Rattle.std.proofs.Common.{sym, ap, subst, ℤ, pos, negsuc, arith}
use lib.Signed.{mag}
use Rattle.std.proofs.lemmas.Int.{ints}
use Rattle.std.proofs.lemmas.Fmt.{IsAscii-decimal_wide, IsAscii-signed}
use Rattle.std.proofs.lemmas.Str.{IsUtf8-from_ascii}
use Rattle.std.specs.Str.{IsUtf8}
use Rattle.std.specs.Result.{MatchResult, result_ok}
use Rattle.std.specs.Fmt.{decimal, signed_decimal}
use Rattle.std.specs.Bool.{then_some}
use Rattle.std.specs.Borrow.{Bor}
use Rattle.row_text.specs.calls.Words.{FitsLong}

pub utf8_wide : {E : Type 0} (F : E → Type 0) (s : List ℕ) (n : ℕ) (r : Result (Bor (List ℕ)) E)
    → MatchResult r (λ t. (t.now ≡ s) × IsUtf8 s) (λ e. ¬ (IsUtf8 s) × F e) → None ≡ result_ok r → n < 10 ^ 64
    → s ≡ decimal n → ⊥
utf8_wide F s n (Ok x) h e fits t = cc
utf8_wide F s n (Err x) h e fits t = h.0
    (subst IsUtf8 (sym t) (IsUtf8-from_ascii (decimal n) (IsAscii-decimal_wide n fits)))

pub long_mag : (z : ℤ) → FitsLong z → mag z < 2 ^ 63
long_mag (pos n) fits = omega (arith, ints, fits.1)
long_mag (negsuc n) fits = omega (arith, ints, fits.0)

pub utf8_signed : {E : Type 0} (F : E → Type 0) (s : List ℕ) (z : ℤ) (r : Result (Bor (List ℕ)) E)
    → MatchResult r (λ t. (t.now ≡ s) × IsUtf8 s) (λ e. ¬ (IsUtf8 s) × F e) → None ≡ result_ok r → FitsLong z
    → s ≡ signed_decimal z → ⊥
utf8_signed F s z (Ok x) h e fits t = cc
utf8_signed F s z (Err x) h e fits t = h.0
    (subst IsUtf8 (sym t) (IsUtf8-from_ascii (signed_decimal z) (IsAscii-signed z (long_mag z fits))))

pub ok_signed_some : {E : Type 0} (r : Result ℤ E) (z : ℤ) → None ≡ result_ok r → r ≡ Ok z → ⊥
ok_signed_some (Ok m) z none e = cc
ok_signed_some (Err x) z none e = cc

pub ok_signed_is : {E : Type 0} (r : Result ℤ E) (y z : ℤ) → Some y ≡ result_ok r → r ≡ Ok z → y ≡ z
ok_signed_is (Ok k) y z some e = cc
ok_signed_is (Err x) y z some e = cc

pub then_signed_is : (b : Bool) (y z : ℤ) → y ≡ z → IsTrue b → then_some b y ≡ Some z
then_signed_is true y z e h = ap Some e
then_signed_is false y z e h = cc
