-- What was passed of the rest of an image after some turns, each of which passes a sector at least.
use Rattle.std.proofs.Common.{◌≡◌, ◌≢◌, ℕ, ◌+◌, ◌-◌, ◌*◌, ◌^◌, ◌<◌, ◌≤◌, List, [], ◌++◌, length, drop}
use Rattle.std.proofs.Common.{Option, Some, None, Result, Ok, Err, IsErrAnd, sym, ap, ◌∙◌, subst, refl, arith, inl, inr}
use Rattle.std.proofs.Common.{length-append, length-drop}
use Rattle.std.proofs.lemmas.Bool.{cases_lt}
use Rattle.std.proofs.lemmas.Option.{none-some, same_Some}
use Rattle.std.proofs.lemmas.List.{drop-append-le, drop-drop, append-nil}
use Rattle.page_source.specs.declared.errors.Failed.{Failed}
use Rattle.page_scan.specs.Found.{IsPageOf, page_at}
use Rattle.page_scan.proofs.Places.{page_at_front, page_at_rest}
use Rattle.page_scan.specs.declared.scanner.FoundPage.{FoundPage}
use Rattle.page_scan.specs.Scan.{NothingBelow, IsNext, ScansTold, IsReadOut, rest_of}
use Rattle.page_scan.specs.Window.{Passes, IsNoPage, SeesFirst, Looks, HasNothingLeft}

-- at least so many sectors were passed
pub record Passed (rest now : List ℕ) (turns : ℕ) : Type 0 where
  pub o : ℕ
  pub passes : Passes rest o
  pub after : now ≡ drop o rest
  pub least : 512 * turns ≤ o

abbrev pub PassedTold : Option (List ℕ) → Option (List ℕ) → ℕ → Type 0
PassedTold None rest_now turns = rest_now ≡ None
PassedTold (Some rest) rest_now turns = (now : List ℕ) × (rest_now ≡ Some now) × Passed rest now turns

passes_front : (ahead left : List ℕ) (o : ℕ) → Passes ahead o → Passes (ahead ++ left) o
passes_front ahead left o passes = record {
  sector = passes.sector;
  each = λ p below at.
      let here = passes.each p below at in
      let whole : p + 16384 ≤ length (ahead ++ left) = omega (arith, here.0, length-append ahead left) in
      (whole, subst IsNoPage (sym (page_at_front ahead left p here.0)) here.1);
}

passes_rest : (rest : List ℕ) (o q : ℕ) → Passes rest o → Passes (drop o rest) q → Passes rest (o + q)
passes_rest rest o q first second = record {
  sector = omega (arith, first.sector, second.sector);
  each = λ p below at. elim (cases_lt p o) [
    | inl before ↦ first.each p before at
    | inr from ↦
        let sector = first.sector in
        let here = second.each (p - o) (omega arith) (omega arith) in
        let whole : p + 16384 ≤ length rest = omega (arith, here.0, length-drop o rest) in
        let place : o + (p - o) ≡ p = omega arith in
        (whole, subst IsNoPage (page_at_rest rest o (p - o) ∙ ap (page_at rest) place) here.1)
  ];
}

pub nothing_below : (rest : List ℕ) (o : ℕ) → Passes rest o → NothingBelow rest o
nothing_below rest o passes = λ p space n below found. (passes.each p below found.place.sector).1 space n found.page

-- a read failed
pub failed_told : {E : Type 0} (start before now : Option (List ℕ)) (turns : ℕ) (page : List ℕ)
    (result : Result (Option FoundPage) E) (P : E → Type 0) → IsErrAnd result P
    → PassedTold start before turns → now ≡ before → ScansTold start result page now
failed_told start before now turns page (Ok found) P is passed same = absurd is
failed_told None before now turns page (Err e) P is passed same = same ∙ passed
failed_told (Some rest) before now turns page (Err e) P is passed same = λ fits. (
  passed.0,
  same ∙ passed.1,
  record {
    o = passed.2.o;
    sector = passed.2.passes.sector;
    none = nothing_below rest passed.2.o passed.2.passes;
    after = passed.2.after;
  },
)

-- the source has nothing left, and no whole page is ahead
pub ends : (start : Option (List ℕ)) (turns : ℕ) (ahead before : List ℕ) (left next : Option (List ℕ))
    (page : List ℕ) → PassedTold start (rest_of before left) turns → rest_of ahead next ≡ rest_of before left
    → length ahead < 16384 → HasNothingLeft left next
    → ScansTold {E = Failed} start (Ok None) page (rest_of ahead next) × IsReadOut start next
ends None turns ahead before None next page passed same few none = (same ∙ passed, none)
ends None turns ahead before (Some left) next page passed same few none = cc
ends (Some rest) turns ahead before None next page passed same few none = absurd (none-some passed.0 passed.1)
ends (Some rest) turns ahead before (Some left) next page passed same few none =
    let told : Some (ahead ++ []) ≡ Some passed.0 = ap (rest_of ahead) (sym none) ∙ same ∙ passed.1 in
    let all : ahead ++ [] ≡ passed.0 = cc in
    let size : length ahead ≡ length rest - passed.2.o =
    ap length (sym (append-nil ahead) ∙ all ∙ passed.2.after) ∙ length-drop passed.2.o rest in (
      λ fits. (
        passed.0,
        same ∙ passed.1,
        λ o space n found. elim (cases_lt o passed.2.o) [
          | inl below ↦ nothing_below rest passed.2.o passed.2.passes o space n below found
          | inr from ↦ absurd (omega (arith, found.place.whole))
        ],
      ),
      λ fits. none,
    )

-- what is ahead and what is left, after the bytes that were passed
rest_after : (rest ahead ahead_now left : List ℕ) (o passed : ℕ) → ahead ++ left ≡ drop o rest → passed ≤ length ahead
    → ahead_now ≡ drop passed ahead → ahead_now ++ left ≡ drop (o + passed) rest
rest_after rest ahead ahead_now left o passed before within now =
    ap (λ (xs : List ℕ). xs ++ left) now ∙ sym (drop-append-le passed ahead left within)
    ∙ ap (drop passed) before ∙ drop-drop passed o rest

-- a page was found
found_next : (rest ahead ahead_now left : List ℕ) (o passed : ℕ) (found : FoundPage) (page : List ℕ) → Passes rest o
    → ahead ++ left ≡ drop o rest → passed ≤ length ahead → ahead_now ≡ drop passed ahead
    → SeesFirst ahead passed found page → IsNext rest found page (ahead_now ++ left)
found_next rest ahead ahead_now left o passed found page passes before within now seen =
    let bytes : page ≡ page_at rest (o + seen.o) =
    seen.sees.0 ∙ sym (page_at_front ahead left seen.o seen.place.whole)
    ∙ ap (λ (xs : List ℕ). page_at xs seen.o) before
    ∙ page_at_rest rest o seen.o in
    let all : Passes rest (o + seen.o) = passes_rest rest o seen.o passes
    (subst (λ (xs : List ℕ). Passes xs seen.o) before (passes_front ahead left seen.o seen.before)) in
    let size : length ahead + length left ≡ length rest - o =
    sym (length-append ahead left) ∙ ap length before ∙ length-drop o rest in
    let step : o + passed ≡ o + seen.o + 512 = omega (arith, seen.after) in
    record {
      o = o + seen.o;
      is_found = record {
        place = record { sector = all.sector; whole = omega (arith, seen.place.whole) };
        page = subst (λ (p : List ℕ). IsPageOf p found.space found.number) bytes seen.sees.1;
      };
      first = nothing_below rest (o + seen.o) all;
      bytes = bytes;
      after = rest_after rest ahead ahead_now left o passed before within now ∙ ap (λ (n : ℕ). drop n rest) step;
    }

pub found_told : (start before : Option (List ℕ)) (turns : ℕ) (ahead ahead_now : List ℕ)
    (left : Option (List ℕ)) (found : Option FoundPage) (page : List ℕ) → PassedTold start before turns
    → rest_of ahead left ≡ before → Looks ahead ahead_now found page → found ≢ None
    → ScansTold {E = Failed} start (Ok found) page (rest_of ahead_now left)
found_told None before turns ahead ahead_now None found page passed same seen some = refl
found_told None before turns ahead ahead_now (Some left) found page passed same seen some = cc
found_told (Some rest) before turns ahead ahead_now None found page passed same seen some =
    absurd (none-some passed.0 (same ∙ passed.1))
found_told (Some rest) before turns ahead ahead_now (Some left) None page passed same seen some = absurd (some refl)
found_told (Some rest) before turns ahead ahead_now (Some left) (Some found) page passed same seen some =
    let all : ahead ++ left ≡ passed.0 = same_Some _ _ (same ∙ passed.1) in
    λ fits. (
      ahead_now ++ left,
      refl,
      found_next rest ahead ahead_now left passed.2.o seen.0 found page passed.2.passes
          (all ∙ passed.2.after) seen.1 seen.2 seen.3,
    )

-- no page was found, and a sector was passed
pub passed_more : (start before : Option (List ℕ)) (turns : ℕ) (ahead ahead_now : List ℕ) (left : Option (List ℕ))
    (found : Option FoundPage) (page : List ℕ) → PassedTold start before turns → rest_of ahead left ≡ before
    → Looks ahead ahead_now found page → found ≡ None → 16384 ≤ length ahead
    → PassedTold start (rest_of ahead_now left) (turns + 1)
passed_more None before turns ahead ahead_now None found page passed same seen none whole = refl
passed_more None before turns ahead ahead_now (Some left) found page passed same seen none whole = cc
passed_more (Some rest) before turns ahead ahead_now None found page passed same seen none whole =
    absurd (none-some passed.0 (same ∙ passed.1))
passed_more (Some rest) before turns ahead ahead_now (Some left) (Some found) page passed same seen none whole = cc
passed_more (Some rest) before turns ahead ahead_now (Some left) None page passed same seen none whole =
    let all : ahead ++ left ≡ passed.0 = same_Some _ _ (same ∙ passed.1) in
    let front : ahead ++ left ≡ drop passed.2.o rest = all ∙ passed.2.after in
    let one : 512 ≤ seen.0 = seen.3.1 whole in (
      ahead_now ++ left,
      refl,
      record {
        o = passed.2.o + seen.0;
        passes = passes_rest rest passed.2.o seen.0 passed.2.passes
            (subst (λ (xs : List ℕ). Passes xs seen.0) front (passes_front ahead left seen.0 seen.3.0));
        after = rest_after rest ahead ahead_now left passed.2.o seen.0 front seen.1 seen.2;
        least = omega (arith, passed.2.least);
      },
    )

-- no image has so many sectors
too_many : (rest : List ℕ) (o turns : ℕ) → Passes rest o → 512 * turns ≤ o → length rest < 2 ^ 64
    → turns ≡ 18446744073709551615 → ⊥
too_many rest o turns passes least fits many =
    let sector = passes.sector in
    let last = passes.each (o - 512) (omega arith) (omega arith) in
    omega (arith, last.0)

pub never_told : (start rest_now : Option (List ℕ)) (next : Option (List ℕ)) (ahead : List ℕ) (turns : ℕ)
    (page : List ℕ) → PassedTold start rest_now turns → rest_now ≡ rest_of ahead next
    → turns ≡ 18446744073709551615 → ScansTold {E = Failed} start (Ok None) page rest_now × IsReadOut start next
never_told None rest_now None ahead turns page passed same many = (passed, refl)
never_told None rest_now (Some left) ahead turns page passed same many = cc
never_told (Some rest) rest_now next ahead turns page passed same many = (
  λ fits. absurd (too_many rest passed.2.o turns passed.2.passes passed.2.least fits many),
  λ fits. absurd (too_many rest passed.2.o turns passed.2.passes passed.2.least fits many),
)
