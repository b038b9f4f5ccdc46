-- The newest versions in an image that is cut after the last page that was looked at.
use Rattle.std.proofs.Common.{◌≡◌, ◌<◌, ◌≤◌, ◌+◌, ◌%◌, ℕ, List, length, take, drop, Option, Some, None}
use Rattle.std.proofs.Common.{sym, ap, ◌∙◌, subst, arith}
use Rattle.std.proofs.lemmas.List.{length-take, take-append-drop}
use Rattle.page_scan.specs.Found.{IsPageOf, IsFound, page_at, lsn_of}
use Rattle.page_scan.specs.Newest.{Newest}
use Rattle.page_scan.proofs.Places.{page_at_front}
use Rattle.page_scan.proofs.Below.{NewestBelow}

-- pages of an image that ends earlier
page_at_cut : (image : List ℕ) (k p : ℕ) → p + 16384 ≤ length (take k image)
    → page_at (take k image) p ≡ page_at image p
page_at_cut image k p whole =
    sym (page_at_front (take k image) (drop k image) p whole)
    ∙ ap (λ (bytes : List ℕ). page_at bytes p) (take-append-drop k image)

cut_found : (image : List ℕ) (o p space n : ℕ) → o % 512 ≡ 0 → p < o → IsFound image p space n
    → IsFound (take (o + 15872) image) p space n
cut_found image o p space n sector below found =
    let at = found.place.sector in
    let whole : p + 16384 ≤ length (take (o + 15872) image) =
    omega (arith, length-take (o + 15872) image, found.place.whole) in
    record {
      place = record { sector = at; whole = whole };
      page = subst (λ (bytes : List ℕ). IsPageOf bytes space n) (sym (page_at_cut image (o + 15872) p whole))
          found.page;
    }

whole_found : (image : List ℕ) (o p space n : ℕ) → IsFound (take (o + 15872) image) p space n
    → (p < o) × IsFound image p space n
whole_found image o p space n found =
    let whole : p + 16384 ≤ length (take (o + 15872) image) = found.place.whole in
    let size = length-take (o + 15872) image in (
      omega arith,
      record {
        place = record { sector = found.place.sector; whole = omega arith };
        page = subst (λ (bytes : List ℕ). IsPageOf bytes space n) (page_at_cut image (o + 15872) p whole) found.page;
      },
    )

cut_lsn : (image : List ℕ) (k p space n : ℕ) → IsFound (take k image) p space n
    → lsn_of (page_at (take k image) p) ≡ lsn_of (page_at image p)
cut_lsn image k p space n found = ap lsn_of (page_at_cut image k p found.place.whole)

-- they are all of those in the image up to the last page that was looked at
pub newest_cut : (image : List ℕ) (o space n : ℕ) (kept : Option (List ℕ)) → o % 512 ≡ 0
    → NewestBelow image o space n kept → Newest (take (o + 15872) image) space n kept
newest_cut image o space n None sector newest = λ p found.
    let is = whole_found image o p space n found in newest p is.0 is.1
newest_cut image o space n (Some kept) sector newest =
    let k = o + 15872 in
    let found = cut_found image o newest.0 space n sector newest.1.below newest.1.found in
    let here = cut_lsn image k newest.0 space n found in (
      newest.0,
      record {
        found = found;
        greatest = λ q other.
            let is = whole_found image o q space n other in
            omega (arith, cut_lsn image k q space n other, here, newest.1.greatest q is.0 is.1);
        first = λ q other same.
            let is = whole_found image o q space n other in
            newest.1.first q is.0 is.1 (sym (cut_lsn image k q space n other) ∙ same ∙ here);
      },
      newest.2 ∙ sym (page_at_cut image k newest.0 found.place.whole),
    )
