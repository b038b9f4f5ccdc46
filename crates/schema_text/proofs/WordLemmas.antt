-- What is left of a text behind a front, before an end, and round a byte.
use Rattle.std.proofs.Common.{◌≡◌, ◌≢◌, ℕ, ◌+◌, ◌-◌, ◌<◌, ◌^◌, Bool, true, false, eqb, List, [], ◌∷◌, ◌++◌, length}
use Rattle.std.proofs.Common.{get_or, take, drop, Option, Some, None, IsTrue, Result, Ok, Err, IfSome, IsSomeAnd}
use Rattle.std.proofs.Common.{MatchOption, refl, sym, ap, ◌∙◌, subst, arith}
use Rattle.std.specs.Prelude.{position}
use Rattle.std.proofs.lemmas.List.{append_cancel_left, append_cancel_right, append_assoc, get_or_append_left, get_or_at}
use Rattle.std.proofs.lemmas.List.{length-append, length-take-le, get_or-take, get_or_default, take_at, drop_at}
use Rattle.std.proofs.lemmas.List.{take_rest, drop_more, take-append-drop}
use Rattle.std.proofs.lemmas.List.Sums.{position_or_len_is}
use Rattle.std.proofs.lemmas.Bool.{lt-ltb, eqb-true, eq-eqb, false≢true}
use Rattle.schema_text.proofs.Positions.{none_passes}
use Rattle.std.proofs.lemmas.Bool.Decides.{nat_tests}
use Rattle.std.specs.List.{position_or_len}
use Rattle.schema_text.specs.Cuts.{Lacks}
use Rattle.std.proofs.lemmas.List.Quantifiers.{position-Some}
use Rattle.std.proofs.lemmas.Fmt.{IsAscii-decimal}
use Rattle.std.proofs.lemmas.Str.{IsUtf8-from_ascii}
use Rattle.std.specs.Str.{IsUtf8}
use Rattle.std.specs.Result.{MatchResult, result_ok}
use Rattle.std.specs.Fmt.{decimal}
use Rattle.std.specs.Bool.{then_some}
use Rattle.std.specs.Borrow.{Bor}

-- the first such byte stands behind what lacks it
pub place_between : (byte : ℕ) (first rest : List ℕ) → Lacks byte first
    → position (λ b. eqb b byte) (first ++ byte ∷ rest) ≡ Some (length first)
place_between byte first rest lacks =
    let size : length (first ++ byte ∷ rest)
    ≡ length first + (length rest + 1) = omega (arith, length-append first (byte ∷ rest)) in
    let is : position_or_len (λ b. eqb b byte) (first ++ byte ∷ rest)
    ≡ length first = position_or_len_is (λ b. eqb b byte) (first ++ byte ∷ rest) (length first) 0 (omega arith)
    (λ k below. rw get_or_append_left (let ne = lacks k 0 below in
    grind (arith, nat_tests))) (λ _. rw (get_or_at first byte rest 0 (length first) refl)
    (grind (arith, nat_tests))) in
    rw (is, lt-ltb (length first) (length (first ++ byte ∷ rest)) (omega arith)) refl

pub parts_between : (byte at : ℕ) (s first rest : List ℕ) → at ≡ length first → s ≡ first ++ byte ∷ rest
    → (take at s ≡ first) × (take (length s - (at + 1)) (drop (at + 1) s) ≡ rest)
parts_between byte at s first rest e t =
    let regrouped : s ≡ (first ++ byte ∷ []) ++ rest = t ∙ sym (append_assoc first (byte ∷ []) rest) in
    let place : length (first ++ byte ∷ []) ≡ at + 1 = omega (arith, length-append first (byte ∷ [])) in (
      ap (take at) t ∙ take_at first (byte ∷ rest) at (sym e),
      take_rest s (at + 1) ∙ ap (drop (at + 1)) regrouped
          ∙ drop_at (first ++ byte ∷ []) rest (at + 1) place,
    )

pub found_place : (byte at : ℕ) (s : List ℕ) → Some at ≡ position (λ b. eqb b byte) s
    → s ≡ take at s ++ byte ∷ take (length s - (at + 1)) (drop (at + 1) s)
found_place byte at s e =
    let p = position-Some (λ b. eqb b byte) s at 0 (sym e) in
    let within : at < length s = p.0 in
    let here : get_or s at 0 ≡ byte = eqb-true (get_or s at 0) byte p.1 in
    sym (take-append-drop at s) ∙ ap (λ x. take at s ++ x) (drop_more s at 0 within
    ∙ ap (λ b. b ∷ drop (at + 1) s) here ∙ ap (λ r. byte ∷ r) (sym (take_rest s (at + 1))))

pub no_place : (byte : ℕ) (s first rest : List ℕ) → None ≡ position (λ b. eqb b byte) s → Lacks byte first
    → s ≡ first ++ byte ∷ rest → ⊥
no_place byte s first rest none lacks e =
    let some : position (λ b. eqb b byte) s ≡ Some (length first) = ap (position (λ b. eqb b byte)) e
    ∙ place_between byte first rest lacks in
    let bad : None ≡ Some (length first) = none ∙ some in
    cc

pub one_place : (byte at : ℕ) (s first rest : List ℕ) → Some at ≡ position (λ b. eqb b byte) s → Lacks byte first
    → s ≡ first ++ byte ∷ rest → (take at s ≡ first) × (take (length s - (at + 1)) (drop (at + 1) s) ≡ rest)
one_place byte at s first rest some lacks e =
    let same : Some at ≡ Some (length first) = some ∙ ap (position (λ b. eqb b byte)) e
    ∙ place_between byte first rest lacks in
    let at_is : at ≡ length first = cc in
    parts_between byte at s first rest at_is e

-- from the cases of `from_utf8`
pub utf8_text : {E : Type 0} (F : E → Type 0) (s : List ℕ) (r : Result (Bor (List ℕ)) E) (t : Bor (List ℕ))
    → MatchResult r (λ t. (t.now ≡ s) × IsUtf8 s) (λ e. ¬ (IsUtf8 s) × F e) → Some t ≡ result_ok r → t.now ≡ s
utf8_text F s (Ok x) t h e = let same : t ≡ x = cc in ap (λ (b : Bor (List ℕ)). b.now) same ∙ h.0
utf8_text F s (Err x) t h e = absurd (cc)

pub utf8_decimal : {E : Type 0} (F : E → Type 0) (s : List ℕ) (n : ℕ) (r : Result (Bor (List ℕ)) E)
    → MatchResult r (λ t. (t.now ≡ s) × IsUtf8 s) (λ e. ¬ (IsUtf8 s) × F e) → None ≡ result_ok r → n < 2 ^ 64
    → s ≡ decimal n → ⊥
utf8_decimal F s n (Ok x) h e fits t = cc
utf8_decimal F s n (Err x) h e fits t = h.0
    (subst IsUtf8 (sym t) (IsUtf8-from_ascii (decimal n) (IsAscii-decimal n fits)))

pub ok_part_some : {E : Type 0} (r : Result ℕ E) (n : ℕ) → None ≡ result_ok r → r ≡ Ok n → ⊥
ok_part_some (Ok m) n none e = cc
ok_part_some (Err x) n none e = cc

pub ok_part_is : {E : Type 0} (r : Result ℕ E) (m n : ℕ) → Some m ≡ result_ok r → r ≡ Ok n → m ≡ n
ok_part_is (Ok k) m n some e = cc
ok_part_is (Err x) m n some e = cc

pub then_some_is : (b : Bool) (m n : ℕ) → m ≡ n → IsTrue b → then_some b m ≡ Some n
then_some_is true m n e h = ap Some e
then_some_is false m n e h = cc

-- nothing before the first such byte is one
pub lacks_before : (byte at : ℕ) (s : List ℕ) → Some at ≡ position (λ b. eqb b byte) s → Lacks byte (take at s)
lacks_before byte at s e = λ k d below same.
    let p = position-Some (λ b. eqb b byte) s at 0 (sym e) in
    let short = length-take-le at s (omega (arith, p.0)) in
    let here : get_or (take at s) k d ≡ get_or s k 0 = get_or-take at s k d (omega arith)
    ∙ get_or_default s k d 0 (omega (arith, p.0)) in
    let fails = p.2 k (omega arith) in
    absurd (false≢true (sym fails ∙ eq-eqb (get_or s k 0) byte (sym here ∙ same)))

pub lacks_all : (byte : ℕ) (s : List ℕ) → None ≡ position (λ b. eqb b byte) s → Lacks byte s
lacks_all byte s none = λ k d below same.
    let passes : eqb (get_or s k d) byte ≡ true = eq-eqb (get_or s k d) byte same in
    let fails = none_passes (λ b. eqb b byte) s (sym none) k d below in
    absurd (false≢true (sym fails ∙ passes))
