-- Pages counted one after another.
use Rattle.std.proofs.Common.{◌≡◌, ℕ, ◌+◌, ◌^◌, ◌<◌, ◌≤◌, max, Bool, true, false, cond, List, [], ◌∷◌, ◌++◌, length}
use Rattle.std.proofs.Common.{map, filter}
use Rattle.std.proofs.Common.{Option, Some, None, IfSome, refl, sym, ap, ◌∙◌, subst, arith, ⊎_elim, length-append}
use Rattle.std.proofs.Common.{append-nil}
use Rattle.std.specs.List.{Contains}
use Rattle.std.specs.BTreeMap.{BTreeMap, get, IsEmpty}
use Rattle.std.proofs.lemmas.Bool.{cases_lt}
use Rattle.std.proofs.lemmas.List.{map-append}
use Rattle.std.proofs.lemmas.List.Elements.{filter-append, All-push, All-weaker, Contains-append_left, Contains-push}
use Rattle.std.proofs.lemmas.List.Sums.{length-filter, count_by-le-length}
use Rattle.page_scan.specs.Newest.{IsGreatest}
use Rattle.image_listing.specs.declared.catalogue.Version.{Version}
use Rattle.image_listing.specs.declared.lines.Tally.{Tally}
use Rattle.image_listing.specs.Tallies.{line_cmp, counts, no_page, with_page, tally_after, CountsPage, counted_in}
use Rattle.image_listing.specs.Tallies.{IsTallyOf, IsTally, AreTallies, HasRoom, HaveRoom}

abbrev pub Kept : Type 0
Kept = (ℕ × ℕ) × Version

greatest_first : (n : ℕ) → IsGreatest (n ∷ []) (max 0 n)
greatest_first n =
    let same : n ≡ max 0 n = omega arith in
    subst (λ (m : ℕ). IsGreatest (n ∷ []) m) same (record {
      among = (0, omega arith, refl);
      most = λ k d below. let first : k ≡ 0 = omega (arith, below) in rw first (omega arith);
    })

greatest_more : (ns : List ℕ) (n m : ℕ) → IsGreatest ns n → IsGreatest (ns ++ m ∷ []) (max n m)
greatest_more ns n m greatest = record {
  among = ⊎_elim
      (λ less. let same : m ≡ max n m = omega (arith, less) in
      subst (λ (k : ℕ). Contains (ns ++ m ∷ []) k) same (Contains-push ns m))
      (λ more. let same : n ≡ max n m = omega (arith, more) in
      subst (λ (k : ℕ). Contains (ns ++ m ∷ []) k) same (Contains-append_left ns (m ∷ []) n greatest.among))
      (cases_lt n m);
  most = All-push (λ (k : ℕ). k ≤ max n m) ns m
      (All-weaker (λ (k : ℕ). k ≤ n) (λ (k : ℕ). k ≤ max n m) (λ k low. omega (arith, low)) ns greatest.most)
      (omega arith);
}

leaves_one : (page : Kept) → 0 + cond page.1.leaf 1 0 ≡ length (filter (λ (p : Kept). p.1.leaf) (page ∷ []))
leaves_one page = by_leaf page.1.leaf
  where
    by_leaf : (leaf : Bool) → 0 + cond leaf 1 0 ≡ length (cond leaf (page ∷ []) [])
    by_leaf true = refl
    by_leaf false = refl

leaves_more : (pages : List Kept) (page : Kept)
    → length (filter (λ (p : Kept). p.1.leaf) pages) + cond page.1.leaf 1 0
    ≡ length (filter (λ (p : Kept). p.1.leaf) (pages ++ page ∷ []))
leaves_more pages page =
    let test : Kept → Bool = λ p. p.1.leaf in
    omega (
      arith,
      ap length (filter-append test pages (page ∷ [])),
      length-append (filter test pages) (filter test (page ∷ [])),
      leaves_one page,
    )

tally_first : (page : Kept) → IsTallyOf (page ∷ []) (with_page no_page page.1)
tally_first page = record {
  pages_are = refl;
  leaves_are = leaves_one page;
  newest_is = greatest_first page.1.lsn;
}

tally_more : (pages : List Kept) (tally : Tally) (page : Kept) → IsTallyOf pages tally
    → IsTallyOf (pages ++ page ∷ []) (with_page tally page.1)
tally_more pages tally page is = record {
  pages_are = omega (arith, is.pages_are, length-append pages (page ∷ []));
  leaves_are = ap (λ (n : ℕ). n + cond page.1.leaf 1 0) is.leaves_are ∙ leaves_more pages page;
  newest_is = subst (λ (ns : List ℕ). IsGreatest ns (max tally.newest page.1.lsn))
      (sym (map-append (λ (p : Kept). p.1.lsn) pages (page ∷ [])))
      (greatest_more (map (λ (p : Kept). p.1.lsn) pages) tally.newest page.1.lsn is.newest_is);
}

-- a line counts the page, or doesn't
tally_step : (pages : List Kept) (found : Option Tally) (page : Kept) (counted : Bool) → IsTally pages found
    → IsTally (pages ++ cond counted (page ∷ []) []) (tally_after counted found page.1)
tally_step pages None page true is =
    subst (λ (before : List Kept). IsTallyOf (before ++ page ∷ []) (with_page no_page page.1)) (sym is)
    (tally_first page)
tally_step pages (Some tally) page true is = tally_more pages tally page is
tally_step pages found page false is = subst (λ (all : List Kept). IsTally all found) (sym (append-nil pages)) is

pub tallies_more : (pages : List Kept) (page : Kept) (old now : BTreeMap (ℕ × Option ℕ) Tally) → AreTallies pages old
    → CountsPage old now page.0.0 page.1 → AreTallies (pages ++ page ∷ []) now
tallies_more pages page old now are counted key =
    let test : Kept → Bool = λ p. counts key p.0.0 p.1.index in
    let more : counted_in key pages ++ cond (test page) (page ∷ []) [] ≡ counted_in key (pages ++ page ∷ []) =
    sym (filter-append test pages (page ∷ [])) in
    subst (λ (all : List Kept). IsTally all (get line_cmp now key)) more
    (subst (λ (found : Option Tally). IsTally (counted_in key pages ++ cond (test page) (page ∷ []) []) found)
    (sym (counted key)) (tally_step (counted_in key pages) (get line_cmp old key) page (test page) (are key)))

few_pass : (test : Kept → Bool) (pages : List Kept) → length (filter test pages) ≤ length pages
few_pass test pages = omega (arith, length-filter test pages, count_by-le-length test pages)

-- no line counts more pages than there are
pub tallies_have_room : (pages : List Kept) (tallies : BTreeMap (ℕ × Option ℕ) Tally) → AreTallies pages tallies
    → length pages < 2 ^ 63 → HaveRoom tallies
tallies_have_room pages tallies are few key = by_found (get line_cmp tallies key) (are key)
  where
    by_found : (found : Option Tally) → IsTally (counted_in key pages) found → IfSome found HasRoom
    by_found None is = tt
    by_found (Some tally) is =
        let all = few_pass (λ (p : Kept). counts key p.0.0 p.1.index) pages in
        let leaves = few_pass (λ (p : Kept). p.1.leaf) (counted_in key pages) in
        record {
          pages_fit = omega (arith, is.pages_are, all, few);
          leaves_fit = omega (arith, is.leaves_are, leaves, all, few);
        }
