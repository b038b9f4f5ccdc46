-- The map of the pages that were carved below some sector.
use Rattle.std.proofs.Common.{◌≡◌, ◌≢◌, ◌<◌, ◌≤◌, ◌+◌, ◌%◌, ◌⊎◌, ℕ, Bool, true, false, nat_lt, cond, List, take}
use Rattle.std.proofs.Common.{slice_index_or}
use Rattle.std.proofs.Common.{Option, Some, None, option_map, IfSome, refl, sym, ap, ◌∙◌, subst, inl, inr, arith}
use Rattle.std.proofs.lemmas.Bool.{cases_eq, ltb-true, ltb-false}
use Rattle.std.proofs.lemmas.Bool.Decides.{nat_tests}
use Rattle.std.specs.FinMap.{get, insert}
use Rattle.page_source.specs.Objects.{PageMap}
use Rattle.page_source.proofs.Slots.{get-insert_at}
use Rattle.page_scan.specs.Found.{IsFound, page_at, lsn_of}
use Rattle.page_scan.specs.declared.scanner.FoundPage.{FoundPage}
use Rattle.page_scan.proofs.Below.{NewestBelow, newer_page, newest_met, newest_kept, newest_of_all}
use Rattle.page_scan.proofs.Rest.{one_page}
use Rattle.image_carve.specs.Carved.{IsCarved, AreLsnsOf}
use Rattle.image_carve.specs.Carving.{IsNewer, Notes}
use Rattle.image_carve.proofs.Cut.{newest_cut}

-- one page is found from this sector on to the next one
pub record Step (image : List ℕ) (o next : ℕ) (found : FoundPage) (page : List ℕ) : Type 0 where
  pub place : ℕ
  pub from : o ≤ place
  pub after : next ≡ place + 512
  pub is_found : IsFound image place found.space found.number
  pub bytes : page ≡ page_at image place
  pub only : (p space n : ℕ) → o ≤ p → p < next → IsFound image p space n → p ≡ place

abbrev pub CarvedBelow : List ℕ → ℕ → ℕ → PageMap → Type 0
CarvedBelow image o space held = (n : ℕ) → NewestBelow image o space n (get held n)

pub get_here : (held : PageMap) (n : ℕ) (page : List ℕ) → get (insert held n page) n ≡ Some page
get_here held n page = grind (arith, nat_tests, get-insert_at held n page n)

pub get_other : (held : PageMap) (n m : ℕ) (page : List ℕ) → m ≢ n → get (insert held n page) m ≡ get held m
get_other held n m page other = grind (arith, nat_tests, get-insert_at held n page m)

-- what the step says of another page
other_page : (image page : List ℕ) (o next space n : ℕ) (found : FoundPage) (kept : Option (List ℕ))
    → NewestBelow image o space n kept → Step image o next found page → (space ≢ found.space) ⊎ (n ≢ found.number)
    → NewestBelow image next space n kept
other_page image page o next space n found kept newest step other =
    newest_kept image o next space n kept newest (omega (arith, step.from, step.after))
    (λ p from below is.
    let here = subst (λ (q : ℕ). IsFound image q space n) (step.only p space n from below is) is in
    let same = one_page image step.place found.space found.number space n step.is_found here in
    elim other [ inl not ↦ not same.0 | inr not ↦ not same.1 ])

-- the page counts if it is newer than the one that was kept, and otherwise that one does
newer_is : (kept : Option (List ℕ)) (page : List ℕ) → IfSome kept (λ old. lsn_of old < lsn_of page)
    → newer_page kept page ≡ page
newer_is None page newer = refl
newer_is (Some kept) page newer = by_lsn (nat_lt (lsn_of kept) (lsn_of page)) refl
  where
    by_lsn : (less : Bool) → nat_lt (lsn_of kept) (lsn_of page) ≡ less → cond less page kept ≡ page
    by_lsn true is = refl
    by_lsn false is = absurd (omega (arith, newer, ltb-false _ _ is))

older_is : (kept : Option (List ℕ)) (page : List ℕ) → ¬ (IfSome kept (λ old. lsn_of old < lsn_of page))
    → Some (newer_page kept page) ≡ kept
older_is None page not = absurd (not tt)
older_is (Some kept) page not = by_lsn (nat_lt (lsn_of kept) (lsn_of page)) refl
  where
    by_lsn : (less : Bool) → nat_lt (lsn_of kept) (lsn_of page) ≡ less → Some (cond less page kept) ≡ Some kept
    by_lsn true is = absurd (not (ltb-true _ _ is))
    by_lsn false is = refl

-- what the step says of its own page
its_page : (image page : List ℕ) (o next : ℕ) (found : FoundPage) (kept : Option (List ℕ))
    → NewestBelow image o found.space found.number kept → Step image o next found page
    → NewestBelow image next found.space found.number (Some (newer_page kept page))
its_page image page o next found kept newest step =
    subst (λ (bytes : List ℕ). NewestBelow image next found.space found.number (Some (newer_page kept bytes)))
    (sym step.bytes)
    (newest_met image o next step.place found.space found.number kept newest step.from (omega (arith, step.after))
    step.is_found (λ q from below is. step.only q found.space found.number from below is))

pub carved_other : (image page : List ℕ) (o next space : ℕ) (found : FoundPage) (held : PageMap)
    → CarvedBelow image o space held → Step image o next found page → found.space ≢ space
    → CarvedBelow image next space held
carved_other image page o next space found held carved step other = λ n.
    other_page image page o next space n found (get held n) (carved n) step (inl (λ same. other (sym same)))

pub carved_newer : (image page : List ℕ) (o next : ℕ) (found : FoundPage) (held : PageMap)
    → CarvedBelow image o found.space held → Step image o next found page
    → IfSome (get held found.number) (λ old. lsn_of old < lsn_of page)
    → CarvedBelow image next found.space (insert held found.number page)
carved_newer image page o next found held carved step newer = λ m. elim (cases_eq m found.number) [
  | inl same ↦
      subst (λ (k : ℕ). NewestBelow image next found.space k (get (insert held found.number page) k)) (sym same)
      (subst (NewestBelow image next found.space found.number)
      (ap Some (newer_is (get held found.number) page newer) ∙ sym (get_here held found.number page))
      (its_page image page o next found (get held found.number) (carved found.number) step))
  | inr other ↦
      subst (NewestBelow image next found.space m) (sym (get_other held found.number m page other))
      (other_page image page o next found.space m found (get held m) (carved m) step (inr other))
]

pub carved_older : (image page : List ℕ) (o next : ℕ) (found : FoundPage) (held : PageMap)
    → CarvedBelow image o found.space held → Step image o next found page
    → ¬ (IfSome (get held found.number) (λ old. lsn_of old < lsn_of page)) → CarvedBelow image next found.space held
carved_older image page o next found held carved step not = λ m. elim (cases_eq m found.number) [
  | inl same ↦
      subst (λ (k : ℕ). NewestBelow image next found.space k (get held k)) (sym same)
      (subst (NewestBelow image next found.space found.number) (older_is (get held found.number) page not)
      (its_page image page o next found (get held found.number) (carved found.number) step))
  | inr other ↦ other_page image page o next found.space m found (get held m) (carved m) step (inr other)
]

pub carved_all : (image : List ℕ) (o space : ℕ) (held : PageMap) → CarvedBelow image o space held
    → ((p n : ℕ) → o ≤ p → ¬ (IsFound image p space n)) → IsCarved image space held
carved_all image o space held carved none = λ n.
    newest_of_all image o space n (get held n) (carved n) (λ p from. none p n from)

pub carved_part : (image : List ℕ) (o space : ℕ) (held : PageMap) → o % 512 ≡ 0 → CarvedBelow image o space held
    → IsCarved (take (o + 15872) image) space held
carved_part image o space held sector carved = λ n. newest_cut image o space n (get held n) sector (carved n)

-- the LSNs of a map tell which pages are newer
newer_held : (kept : Option (List ℕ)) (lsn : ℕ) → IfSome (option_map lsn_of kept) (λ noted. noted < lsn)
    → IfSome kept (λ old. lsn_of old < lsn)
newer_held None lsn newer = tt
newer_held (Some kept) lsn newer = newer

newer_lsn : (kept : Option (List ℕ)) (lsn : ℕ) → IfSome kept (λ old. lsn_of old < lsn)
    → IfSome (option_map lsn_of kept) (λ noted. noted < lsn)
newer_lsn None lsn newer = tt
newer_lsn (Some kept) lsn newer = newer

pub newer_in_map : (held : PageMap) (lsns : List (Option ℕ)) (n lsn : ℕ) → AreLsnsOf held lsns → IsNewer lsns n lsn
    → IfSome (get held n) (λ old. lsn_of old < lsn)
newer_in_map held lsns n lsn are newer =
    newer_held (get held n) lsn (subst (λ (o : Option ℕ). IfSome o (λ noted. noted < lsn)) (are.each n) newer)

pub older_in_map : (held : PageMap) (lsns : List (Option ℕ)) (n lsn : ℕ) → AreLsnsOf held lsns
    → ¬ (IsNewer lsns n lsn) → ¬ (IfSome (get held n) (λ old. lsn_of old < lsn))
older_in_map held lsns n lsn are older = λ newer.
    older (subst (λ (o : Option ℕ). IfSome o (λ noted. noted < lsn)) (sym (are.each n))
    (newer_lsn (get held n) lsn newer))

pub lsns_put : (held : PageMap) (old new : List (Option ℕ)) (n : ℕ) (page : List ℕ) → AreLsnsOf held old
    → Notes old new n (lsn_of page) → AreLsnsOf (insert held n page) new
lsns_put held old new n page are notes = record {
  each = λ m. elim (cases_eq m n) [
    | inl same ↦
        subst (λ (k : ℕ). slice_index_or new k None ≡ option_map lsn_of (get (insert held n page) k)) (sym same)
        (notes.here ∙ sym (ap (option_map lsn_of) (get_here held n page)))
    | inr other ↦
        notes.others m other ∙ are.each m ∙ sym (ap (option_map lsn_of) (get_other held n m page other))
  ];
  last = λ m size none. elim (cases_eq m n) [
    | inl same ↦
        let is : Some (lsn_of page) ≡ None =
        sym notes.here ∙ ap (λ (k : ℕ). slice_index_or new k None) (sym same) ∙ none in
        cc
    | inr other ↦
        are.last m (omega (arith, notes.size)) (sym (notes.others m other) ∙ none)
  ];
}
