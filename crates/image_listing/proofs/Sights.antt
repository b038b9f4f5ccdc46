-- The pages of a catalogue are the pages that are found in the image.
use Rattle.std.proofs.Common.{◌≡◌, ℕ, ◌<◌, ◌⊎◌, List, [], ◌∷◌, length, map, get_or, Option, Some, None, refl, sym, ap}
use Rattle.std.proofs.Common.{◌∙◌, subst, arith, inl, inr}
use Rattle.std.specs.List.{All, AllPairs, Contains}
use Rattle.std.specs.List.Sorted.{IsStrictlySortedBy}
use Rattle.std.specs.Map.{keys_of}
use Rattle.std.specs.Ordering.{nat_cmp, ordering_then, MatchOrdering}
use Rattle.std.specs.declared.cmp.Ordering.{Ordering}
use Rattle.std.specs.declared.cmp.Ordering.TheVariants.{Less, Equal, Greater}
use Rattle.std.specs.BTreeMap.{BTreeMap, get, IsOrdered}
use Rattle.std.proofs.lemmas.List.{get_or-map, length-map}
use Rattle.std.proofs.lemmas.List.Elements.{All-nil, All-cons, All-head, All-tail, All-weaker}
use Rattle.std.proofs.lemmas.Simd.{map-map}
use Rattle.std.proofs.lemmas.Cmp.{ranked}
use Rattle.std.proofs.lemmas.Map.Keys.{Less-from_sorted}
use Rattle.std.proofs.lemmas.Map.Views.{All-found, btree_map_get_iff}
use Rattle.page_scan.specs.Found.{IsFound}
use Rattle.page_scan.specs.Newest.{Newest}
use Rattle.image_listing.specs.declared.catalogue.Version.{Version}
use Rattle.image_listing.specs.Listing.{Sight, ComesBefore, IsSeen, AreSights}
use Rattle.image_listing.specs.Versions.{page_cmp, version_of, IsKept, IsCatalogue}
use Rattle.image_listing.proofs.Orders.{page_total, page_exact}
use Rattle.image_listing.proofs.Members.{contains_from_map}
use Rattle.image_listing.proofs.Counting.{Kept}

-- what is kept of a page
abbrev pub kept_of : Sight → Kept
kept_of sight = ((sight.space, sight.number), version_of sight.page)

abbrev IsInNewest : List ℕ → Sight → Type 0
IsInNewest image sight = Newest image sight.space sight.number (Some sight.page)

abbrev IsKeptPage : List ℕ → Kept → Type 0
IsKeptPage image page = IsKept image page.0.0 page.0.1 (Some page.1)

-- the pages that are kept, with their bytes
pub record AreSightsOf (image : List ℕ) (pages : List Kept) : Type 0 where
  pub sights : List Sight
  pub same : map kept_of sights ≡ pages
  pub newest : All (λ (sight : Sight). Newest image sight.space sight.number (Some sight.page)) sights

sights_of : (image : List ℕ) (pages : List Kept) → All (IsKeptPage image) pages → AreSightsOf image pages
sights_of image [] kept = record { sights = []; same = refl; newest = All-nil (IsInNewest image) }
sights_of image (page ∷ pages) kept =
    let first = All-head (IsKeptPage image) page pages kept in
    let rest = sights_of image pages (All-tail (IsKeptPage image) page pages kept) in
    let sight : Sight = record { space = page.0.0; number = page.0.1; page = first.0 } in
    let this : kept_of sight ≡ page = ap (λ (version : Version). (page.0, version)) (sym first.2) in
    record {
      sights = sight ∷ rest.sights;
      same = ap (λ (p : Kept). p ∷ map kept_of rest.sights) this ∙ ap (λ (ps : List Kept). page ∷ ps) rest.same;
      newest = All-cons (IsInNewest image) sight rest.sights first.1 rest.newest;
    }

-- what rises by its keys is in this order
pub pairs_from_sorted : {X K : Type 0} (cmp : K → K → Ordering) (P : X → X → Type 0) (key : X → K)
    → ((a b : X) → cmp (key a) (key b) ≡ Less → P a b) → (xs : List X) → IsStrictlySortedBy cmp (map key xs)
    → AllPairs P xs
pairs_from_sorted {X} {K} cmp P key before xs sorted i j d less within =
    let earlier : i < length xs = omega (arith, less, within) in
    let first : get_or (map key xs) i (key d) ≡ key (get_or xs i d) = get_or-map key xs i d (key d) earlier in
    let second : get_or (map key xs) j (key d) ≡ key (get_or xs j d) = get_or-map key xs j d (key d) within in
    let size : j < length (map key xs) = omega (arith, within, length-map xs key) in
    let rise = Less-from_sorted cmp (map key xs) i j (key d) sorted less size in
    before (get_or xs i d) (get_or xs j d) (subst (λ (b : K). cmp (key (get_or xs i d)) b ≡ Less) second
    (subst (λ (a : K). cmp a (get_or (map key xs) j (key d)) ≡ Less) first rise))

-- the first of two orders decides, or the second if the first says equal
pub then_less : (a b : Ordering) → ordering_then a b ≡ Less → (a ≡ Less) ⊎ ((a ≡ Equal) × (b ≡ Less))
then_less Less b e = inl refl
then_less Equal b e = inr (refl, e)
then_less Greater b e = absurd (cc)

pub number_less : (a b : ℕ) → nat_cmp a b ≡ Less → a < b
number_less a b e =
    subst (λ (o : Ordering). MatchOrdering o (a < b) (a ≡ b) (b < a)) e (ranked a b (nat_cmp a b) refl)

pub number_same : (a b : ℕ) → nat_cmp a b ≡ Equal → a ≡ b
number_same a b e =
    subst (λ (o : Ordering). MatchOrdering o (a < b) (a ≡ b) (b < a)) e (ranked a b (nat_cmp a b) refl)

pub comes_before : (a b : Sight) → page_cmp (a.space, a.number) (b.space, b.number) ≡ Less → ComesBefore a b
comes_before a b e =
    elim (then_less (nat_cmp a.space b.space) (nat_cmp a.number b.number) e) [
      | inl less ↦ inl (number_less a.space b.space less)
      | inr same ↦ inr (number_same a.space b.space same.0, number_less a.number b.number same.1)
    ]

abbrev place_of : Sight → ℕ × ℕ
place_of sight = (sight.space, sight.number)

-- a page that is found is among those that are kept
found_is_seen : (image : List ℕ) (pages : BTreeMap (ℕ × ℕ) Version) → IsOrdered page_cmp pages
    → IsCatalogue image pages → (of : AreSightsOf image pages.entries) → (o space n : ℕ) → IsFound image o space n
    → IsSeen of.sights space n
found_is_seen image pages rise all of o space n found =
    by_kept (get page_cmp pages (space, n)) refl (all space n)
  where
    by_kept : (kept : Option Version) → get page_cmp pages (space, n) ≡ kept → IsKept image space n kept
        → IsSeen of.sights space n
    by_kept None is none = absurd (none o found)
    by_kept (Some version) is kept =
        let member = (btree_map_get_iff page_total page_exact pages rise (space, n) version).0 is in
        let sight = contains_from_map kept_of of.sights ((space, n), version)
        (subst (λ (list : List Kept). Contains list ((space, n), version)) (sym of.same) member) in
        (sight.0, sight.1, ap (λ (k : Kept). k.0.0) sight.2, ap (λ (k : Kept). k.0.1) sight.2)

-- a catalogue of an image has its sights
pub record HasSights (image : List ℕ) (pages : List Kept) : Type 0 where
  pub of : AreSightsOf image pages
  pub are : AreSights image of.sights

pub has_sights : (image : List ℕ) (pages : BTreeMap (ℕ × ℕ) Version) → IsOrdered page_cmp pages
    → IsCatalogue image pages → HasSights image pages.entries
has_sights image pages rise all =
    let kept : All (IsKeptPage image) pages.entries =
    All-weaker (λ (page : Kept). get page_cmp pages page.0 ≡ Some page.1) (IsKeptPage image)
    (λ page is. subst (λ (found : Option Version). IsKept image page.0.0 page.0.1 found) is (all page.0.0 page.0.1))
    pages.entries (All-found page_total pages rise) in
    let of = sights_of image pages.entries kept in
    let keys : map place_of of.sights ≡ keys_of pages.entries =
    sym (map-map (λ (page : Kept). page.0) kept_of of.sights) ∙ ap keys_of of.same in
    record {
      of = of;
      are = record {
        rise = pairs_from_sorted page_cmp ComesBefore place_of comes_before of.sights
            (subst (IsStrictlySortedBy page_cmp) (sym keys) rise);
        newest = of.newest;
        all = found_is_seen image pages rise all of;
      };
    }
