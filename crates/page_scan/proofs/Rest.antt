-- What is found in the rest of an image is found in the image.
use Rattle.std.proofs.Common.{◌≡◌, ℕ, ◌+◌, ◌-◌, ◌%◌, ◌<◌, ◌≤◌, List, drop, sym, ap, ◌∙◌, subst, inl, inr, arith}
use Rattle.std.proofs.Common.{length-drop}
use Rattle.std.proofs.lemmas.Bool.{cases_lt}
use Rattle.page_scan.specs.Found.{IsFound, IsPageOf, page_at}
use Rattle.page_scan.specs.declared.scanner.FoundPage.{FoundPage}
use Rattle.page_scan.specs.Scan.{IsNext}
use Rattle.page_scan.proofs.Places.{page_at_rest}

pub found_in_image : (image : List ℕ) (p o space n : ℕ) → p % 512 ≡ 0 → IsFound (drop p image) o space n
    → IsFound image (p + o) space n
found_in_image image p o space n sector found = record {
  place = record {
    sector = omega (arith, sector, found.place.sector);
    whole = omega (arith, found.place.whole, length-drop p image);
  };
  page = subst (λ (page : List ℕ). IsPageOf page space n) (page_at_rest image p o) found.page;
}

pub found_in_rest : (image : List ℕ) (p q space n : ℕ) → p % 512 ≡ 0 → p ≤ q → IsFound image q space n
    → IsFound (drop p image) (q - p) space n
found_in_rest image p q space n sector from found =
    let place : p + (q - p) ≡ q = omega (arith, from) in
    record {
      place = record {
        sector = omega (arith, sector, from, found.place.sector);
        whole = omega (arith, from, found.place.whole, length-drop p image);
      };
      page = subst (λ (page : List ℕ). IsPageOf page space n)
          (sym (page_at_rest image p (q - p) ∙ ap (page_at image) place)) found.page;
    }

-- up to the sector after the page that is found next there is this page alone
pub only_next : (image : List ℕ) (p : ℕ) (found : FoundPage) (page now : List ℕ) → p % 512 ≡ 0
    → (next : IsNext (drop p image) found page now) → (q space n : ℕ) → p ≤ q → q < p + (next.o + 512)
    → IsFound image q space n → q ≡ p + next.o
only_next image p found page now sector next q space n from to it =
    let rest = found_in_rest image p q space n sector from it in
    elim (cases_lt (q - p) next.o) [
      | inl before ↦ absurd (next.first (q - p) space n before rest)
      | inr after ↦ omega (arith, from, to, after, sector, it.place.sector, next.is_found.place.sector)
    ]

-- a place has one page
pub one_page : (image : List ℕ) (o space n other m : ℕ) → IsFound image o space n → IsFound image o other m
    → (other ≡ space) × (m ≡ n)
one_page image o space n other m it found =
    (sym found.page.has_space ∙ it.page.has_space, sym found.page.stands.has_number ∙ it.page.stands.has_number)
