-- The catalogue of what was read of an image.
use Rattle.std.proofs.Common.{◌≡◌, ◌≢◌, ℕ, ◌+◌, ◌-◌, ◌%◌, ◌<◌, ◌≤◌, ◌^◌, Bool, true, false, nat_lt, cond, List, []}
use Rattle.std.proofs.Common.{length, length-drop, drop, Option, Some, None}
use Rattle.std.proofs.Common.{option_map, IfSome, Ok, refl, sym, ap, ◌∙◌, subst, arith, ⊎_elim}
use Rattle.std.specs.BTreeMap.{BTreeMap, get, IsEmpty}
use Rattle.std.proofs.lemmas.Bool.{cases_eq}
use Rattle.std.proofs.lemmas.List.{drop-drop}
use Rattle.page_source.specs.declared.errors.Failed.{Failed}
use Rattle.page_scan.specs.Found.{IsFound, page_at, lsn_of}
use Rattle.page_scan.specs.Newest.{Newest}
use Rattle.page_scan.specs.declared.scanner.FoundPage.{FoundPage}
use Rattle.page_scan.specs.Scan.{IsNext, ScansTold, IsReadOut}
use Rattle.image_listing.specs.declared.catalogue.Version.{Version}
use Rattle.image_listing.specs.Versions.{Puts, page_cmp, version_of, newer, IsKept, IsCatalogue}
use Rattle.page_scan.proofs.Below.{NewestBelow, newest_at_start, newest_met, newest_kept, newest_of_all, newer_page}
use Rattle.page_scan.proofs.Places.{page_at_rest}
use Rattle.page_scan.proofs.Rest.{found_in_image, found_in_rest, only_next, one_page}

-- what is kept of a page is its newest version below p
pub record IsKeptBelow (image : List ℕ) (p space n : ℕ) (kept : Option Version) : Type 0 where
  pub page : Option (List ℕ)
  pub newest : NewestBelow image p space n page
  pub same : kept ≡ option_map version_of page

abbrev pub AreKeptBelow : List ℕ → ℕ → BTreeMap (ℕ × ℕ) Version → Type 0
AreKeptBelow image p pages = (space n : ℕ) → IsKeptBelow image p space n (get page_cmp pages (space, n))

-- the versions are compared as the pages are
newer_same : (kept : Option (List ℕ)) (page : List ℕ)
    → newer (option_map version_of kept) (version_of page) ≡ version_of (newer_page kept page)
newer_same None page = refl
newer_same (Some old) page = by_less (nat_lt (lsn_of old) (lsn_of page))
  where
    by_less : (less : Bool) → cond less (version_of page) (version_of old) ≡ version_of (cond less page old)
    by_less true = refl
    by_less false = refl

kept_met : (image : List ℕ) (p next at space n : ℕ) (kept : Option Version) → IsKeptBelow image p space n kept
    → p ≤ at → at < next → IsFound image at space n
    → ((q : ℕ) → p ≤ q → q < next → IsFound image q space n → q ≡ at)
    → IsKeptBelow image next space n (Some (newer kept (version_of (page_at image at))))
kept_met image p next at space n kept is from to found only = record {
  page = Some (newer_page is.page (page_at image at));
  newest = newest_met image p next at space n is.page is.newest from to found only;
  same = ap (λ (old : Option Version). Some (newer old (version_of (page_at image at)))) is.same
      ∙ ap Some (newer_same is.page (page_at image at));
}

kept_other : (image : List ℕ) (p next space n : ℕ) (kept : Option Version) → IsKeptBelow image p space n kept
    → p ≤ next → ((q : ℕ) → p ≤ q → q < next → ¬ (IsFound image q space n)) → IsKeptBelow image next space n kept
kept_other image p next space n kept is to others = record {
  page = is.page;
  newest = newest_kept image p next space n is.page is.newest to others;
  same = is.same;
}

-- a page is met, and noted
pub kept_more : (image : List ℕ) (p next at space n : ℕ) (old now : BTreeMap (ℕ × ℕ) Version)
    → AreKeptBelow image p old → p ≤ at → at < next → IsFound image at space n
    → ((q other m : ℕ) → p ≤ q → q < next → IsFound image q other m → q ≡ at)
    → Puts page_cmp old now (space, n) (newer (get page_cmp old (space, n)) (version_of (page_at image at)))
    → AreKeptBelow image next now
kept_more image p next at space n old now are from to found only puts other m =
    ⊎_elim (λ same. ⊎_elim (λ equal. here same equal) (λ differ. elsewhere (λ pair. differ pair.1)) (cases_eq m n))
    (λ differ. elsewhere (λ pair. differ pair.0)) (cases_eq other space)
  where
    here : other ≡ space → m ≡ n → IsKeptBelow image next other m (get page_cmp now (other, m))
    here same equal =
        let met : IsKeptBelow image next space n (get page_cmp now (space, n)) =
        subst (λ (kept : Option Version). IsKeptBelow image next space n kept) (sym puts.here)
        (kept_met image p next at space n (get page_cmp old (space, n)) (are space n) from to found
        (λ q after below it. only q space n after below it)) in
        rw (same, equal) met

    elsewhere : ((other ≡ space) × (m ≡ n) → ⊥) → IsKeptBelow image next other m (get page_cmp now (other, m))
    elsewhere differ =
        let later : p ≤ next = omega (arith, from, to) in
        let apart : (other, m) ≢ (space, n) = λ e. differ (ap (λ (k : ℕ × ℕ). k.0) e, ap (λ (k : ℕ × ℕ). k.1) e) in
        subst (λ (kept : Option Version). IsKeptBelow image next other m kept) (sym (puts.others (other, m) apart))
        (kept_other image p next other m (get page_cmp old (other, m)) (are other m) later
        (λ q after below it. differ (one_page image at space n other m found
        (subst (λ (k : ℕ). IsFound image k other m) (only q other m after below it) it))))

kept_of_all : (image : List ℕ) (space n : ℕ) (kept : Option Version) (page : Option (List ℕ))
    → Newest image space n page → kept ≡ option_map version_of page → IsKept image space n kept
kept_of_all image space n None None newest same = newest
kept_of_all image space n None (Some page) newest same = absurd (cc)
kept_of_all image space n (Some version) None newest same = absurd (cc)
kept_of_all image space n (Some version) (Some page) newest same =
    let e : version ≡ version_of page = cc in (page, newest, e)

-- a scan has passed so many bytes of the image, and what was found in them is kept
pub record ScanStands (image : List ℕ) (rest : Option (List ℕ)) (pages : BTreeMap (ℕ × ℕ) Version) : Type 0 where
  pub p : ℕ
  pub sector : p % 512 ≡ 0
  pub rest_is : rest ≡ Some (drop p image)
  pub kept : AreKeptBelow image p pages

-- a page is found next
pub stands_next : (image : List ℕ) (rest rest_now : Option (List ℕ)) (found : FoundPage) (page : List ℕ)
    (old now : BTreeMap (ℕ × ℕ) Version) → ScanStands image rest old
    → length image < 2 ^ 64 → ScansTold {E = Failed} rest (Ok (Some found)) page rest_now
    → Puts page_cmp old now (found.space, found.number)
    (newer (get page_cmp old (found.space, found.number)) (version_of page))
    → ScanStands image rest_now now
stands_next image rest rest_now found page old now stands few scans puts =
    let p = stands.p in
    let told = subst (λ (r : Option (List ℕ)). ScansTold {E = Failed} r (Ok (Some found)) page rest_now)
    stands.rest_is scans (omega (arith, few, length-drop p image)) in
    let next : IsNext (drop p image) found page told.0 = told.2 in
    let bytes : page ≡ page_at image (p + next.o) = next.bytes ∙ page_at_rest image p next.o in
    record {
      p = p + (next.o + 512);
      sector = omega (arith, stands.sector, next.is_found.place.sector);
      rest_is = told.1 ∙ ap Some (next.after ∙ drop-drop (next.o + 512) p image);
      kept = kept_more image p (p + (next.o + 512)) (p + next.o) found.space found.number old now stands.kept
          (omega arith) (omega arith)
          (found_in_image image p next.o found.space found.number stands.sector next.is_found)
          (λ q other m after below it. only_next image p found page told.0 stands.sector next q other m after below it)
          (subst (λ (bytes : List ℕ). Puts page_cmp old now (found.space, found.number)
          (newer (get page_cmp old (found.space, found.number)) (version_of bytes))) bytes puts);
    }

-- nothing more is found
pub catalogue_of_all : (image : List ℕ) (rest rest_now : Option (List ℕ)) (page : List ℕ)
    (pages : BTreeMap (ℕ × ℕ) Version) → ScanStands image rest pages
    → length image < 2 ^ 64 → ScansTold {E = Failed} rest (Ok None) page rest_now → IsCatalogue image pages
catalogue_of_all image rest rest_now page pages stands few scans space n =
    let p = stands.p in
    let told = subst (λ (r : Option (List ℕ)). ScansTold {E = Failed} r (Ok None) page rest_now)
    stands.rest_is scans (omega (arith, few, length-drop p image)) in
    let kept = stands.kept space n in
    kept_of_all image space n (get page_cmp pages (space, n)) kept.page
    (newest_of_all image p space n kept.page kept.newest
    (λ q after it. told.2 (q - p) space n (found_in_rest image p q space n stands.sector after it))) kept.same

pub told_next : (told rest rest_now : Option (List ℕ)) (met : Option FoundPage) (found : FoundPage) (page : List ℕ)
    (old now : BTreeMap (ℕ × ℕ) Version) → IfSome told (λ image. length image < 2 ^ 64 → ScanStands image rest old)
    → ScansTold {E = Failed} rest (Ok met) page rest_now → met ≡ Some found
    → Puts page_cmp old now (found.space, found.number)
    (newer (get page_cmp old (found.space, found.number)) (version_of page))
    → IfSome told (λ image. length image < 2 ^ 64 → ScanStands image rest_now now)
told_next None rest rest_now met found page old now stands scans is puts = tt
told_next (Some image) rest rest_now met found page old now stands scans is puts = λ few.
    stands_next image rest rest_now found page old now (stands few) few
    (subst (λ (m : Option FoundPage). ScansTold {E = Failed} rest (Ok m) page rest_now) is scans) puts

pub told_all : (told rest rest_now : Option (List ℕ)) (met : Option FoundPage) (page : List ℕ)
    (pages : BTreeMap (ℕ × ℕ) Version)
    → IfSome told (λ image. length image < 2 ^ 64 → ScanStands image rest pages)
    → ScansTold {E = Failed} rest (Ok met) page rest_now → met ≡ None
    → IfSome told (λ image. length image < 2 ^ 64 → IsCatalogue image pages)
told_all None rest rest_now met page pages stands scans is = tt
told_all (Some image) rest rest_now met page pages stands scans is = λ few.
    catalogue_of_all image rest rest_now page pages (stands few) few
    (subst (λ (m : Option FoundPage). ScansTold {E = Failed} rest (Ok m) page rest_now) is scans)

-- it was read to its end
pub told_read : (told rest left : Option (List ℕ)) (pages : BTreeMap (ℕ × ℕ) Version)
    → IfSome told (λ image. length image < 2 ^ 64 → ScanStands image rest pages) → IsReadOut rest left
    → IfSome told (λ image. length image < 2 ^ 64 → left ≡ Some [])
told_read None rest left pages stands read = tt
told_read (Some image) rest left pages stands read = λ few.
    let at = stands few in
    subst (λ (r : Option (List ℕ)). IsReadOut r left) at.rest_is read (omega (arith, few, length-drop at.p image))
