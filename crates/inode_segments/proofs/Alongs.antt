-- A walk along a list of inode pages, one step on.
use Rattle.std.proofs.Common.{◌≡◌, ℕ, ◌+◌, ◌<◌, Bool, true, List, [], ◌∷◌, ◌++◌, length, set, map, flat_map, Option}
use Rattle.std.proofs.Common.{Some, None, refl, sym, ◌∙◌, ap, subst, inl, inr, arith, append_assoc, append-nil, add-one}
use Rattle.std.proofs.Common.{zero-add}
use Rattle.std.proofs.lemmas.List.FromFn.{map-range_with_len_more}
use Rattle.std.proofs.lemmas.Bool.{cases_lt}
use Rattle.page_source.specs.declared.rule.Fault.{Fault}
use Rattle.page_source.specs.declared.rule.Rule.TheVariants.{InodeList}
use Rattle.page_source.specs.declared.checks.Stop.{Stop}
use Rattle.page_source.specs.declared.checks.Stop.TheVariants as stops
use Rattle.page_source.specs.Checks.{Stops}
use Rattle.page_source.specs.Verdict.{Reaches}
use Rattle.page_source.specs.Lists.{AreMarked}
use Rattle.page_source.proofs.Marks.{marked_more}
use Rattle.space_header.specs.declared.address.Address.{Address}
use Rattle.space_header.specs.declared.address.Base.{Base}
use Rattle.space_header.specs.Header.{IsNull, node_address}
use Rattle.std.proofs.lemmas.List.{map-append}
use Rattle.std.proofs.lemmas.Simd.{map-map}
use Rattle.std.proofs.lemmas.List.Concat.{flat_map-append}
use Rattle.page_source.specs.Pages.{page_of}
use Rattle.inode_segments.specs.Inodes.{step_address, stepped_pages, page_node, inode_byte, used_places, places_on}
use Rattle.inode_segments.specs.Inodes.{used_on, inodes_on, inode_of}
use Rattle.inode_segments.specs.InodeChecks.{EndsAt, EndsAfter, StepAt, StepChecks, InodeListChecks}
use Rattle.inode_segments.specs.Walk.{IsAt, Held, Grew}
use Rattle.inode_segments.specs.Kept.{InodesView}

pub stepped_none : (file : List ℕ) (base : Base) → stepped_pages file base 0 ≡ []
unfolding stepped_pages
stepped_none file base = refl

pub stepped_more : (file : List ℕ) (base : Base) (k : ℕ)
    → stepped_pages file base (k + 1) ≡ stepped_pages file base k ++ (step_address file base k).page ∷ []
unfolding stepped_pages
stepped_more file base k = map-range_with_len_more (λ j. (step_address file base j).page) 0 k k (zero-add k)

-- one more place is reached
pub reaches_more : {F : Type 0} (ends : ℕ → Type 0) (check : ℕ → Option F → Type 0) (k : ℕ)
    → Reaches ends check k → (¬ (ends k)) → check k None → Reaches ends check (k + 1)
reaches_more ends check k h n c = λ j l. elim (cases_lt j k) [
  | inl below ↦ h j below
  | inr above ↦ let e : k ≡ j = omega arith in subst (λ i. (¬ (ends i)) × check i None) e (n, c)
]

pub at_first : (file : List ℕ) (base : Base) → IsAt file base base.first 0 None 0
at_first file base = record { address_is = refl; holder_is = refl; before_is = refl }

pub at_next : (file : List ℕ) (base : Base) (address : Address) (holder : ℕ) (before : Option Address) (k : ℕ)
    (next : Address) → IsAt file base address holder before k → next ≡ (page_node file address.page).next
    → IsAt file base next address.page (Some address) (k + 1)
at_next file base address holder before k next is there =
    record {
      address_is = rw (add-one k) (there ∙ ap (λ (a : Address). (page_node file a.page).next) is.address_is);
      holder_is = rw (add-one k) (ap (λ (a : Address). a.page) is.address_is);
      before_is = rw (add-one k) (ap Some is.address_is);
    }

pub held_more : (file : List ℕ) (is_fragment : ℕ → Bool) (full : Bool) (earlier : List ℕ) (base : Base)
    (address : Address) (holder : ℕ) (before : Option Address) (k : ℕ) → IsAt file base address holder before k
    → (¬ (IsNull address)) → Held file is_fragment full earlier base k
    → StepAt file is_fragment full (earlier ++ stepped_pages file base k) address holder before None
    → Held file is_fragment full earlier base (k + 1)
held_more file is_fragment full earlier base address holder before k is goes held checks =
    let there : StepChecks file is_fragment full earlier base k None =
    rw (← is.address_is, ← is.holder_is, ← is.before_is) checks in
    reaches_more (EndsAt file base) (StepChecks file is_fragment full earlier base) k held
    (subst (λ (a : Address). ¬ (IsNull a)) is.address_is goes) there

-- the pages of one more step
pub pages_more : (file : List ℕ) (earlier : List ℕ) (base : Base) (address : Address) (holder : ℕ)
    (before : Option Address) (k : ℕ) → IsAt file base address holder before k
    → earlier ++ stepped_pages file base k ++ address.page ∷ [] ≡ earlier ++ stepped_pages file base (k + 1)
pages_more file earlier base address holder before k is =
    append_assoc earlier (stepped_pages file base k) (address.page ∷ [])
    ∙ ap (λ (a : Address). earlier ++ (stepped_pages file base k ++ a.page ∷ [])) is.address_is
    ∙ ap (λ xs. earlier ++ xs) (sym (stepped_more file base k))

pub marked_next : (file earlier : List ℕ) (base : Base) (address : Address) (holder : ℕ) (before : Option Address)
    (k : ℕ) (marks new : List Bool) → IsAt file base address holder before k → address.page < length marks
    → new ≡ set marks address.page true → AreMarked marks (earlier ++ stepped_pages file base k)
    → AreMarked new (earlier ++ stepped_pages file base (k + 1))
marked_next file earlier base address holder before k marks new is below now marked =
    subst (λ (ms : List Bool). AreMarked ms (earlier ++ stepped_pages file base (k + 1))) (sym now)
    (subst (λ (xs : List ℕ). AreMarked (set marks address.page true) xs)
    (pages_more file earlier base address holder before k is)
    (marked_more marks (earlier ++ stepped_pages file base k) address.page below marked))

-- the inodes of one more page
used_there : (file : List ℕ) (n : ℕ) → map (inode_of file) (inodes_on file n) ≡ used_on (page_of file n)
used_there file n = map-map (inode_of file) (λ j. node_address (inode_byte j) n) (used_places (page_of file n))

pub grew_none : (file : List ℕ) (base : Base) (old : InodesView) → Grew file (stepped_pages file base 0) old old
grew_none file base old =
    record {
      places = rw (stepped_none file base) (sym (append-nil old.places));
      inodes = rw (stepped_none file base) (sym (append-nil old.inodes));
    }

pub grew_more : (file : List ℕ) (base : Base) (address : Address) (holder : ℕ) (before : Option Address) (k : ℕ)
    (page : List ℕ) (old now new : InodesView) → IsAt file base address holder before k
    → page ≡ page_of file address.page → new.places ≡ now.places ++ places_on address.page page
    → new.inodes ≡ now.inodes ++ used_on page
    → Grew file (stepped_pages file base k) old now → Grew file (stepped_pages file base (k + 1)) old new
grew_more file base address holder before k page old now new is here places inodes grew =
    let pages = stepped_pages file base k in
    let n = address.page in
    let whole : stepped_pages file base (k + 1) ≡ pages ++ n ∷ [] =
    sym (pages_more file [] base address holder before k is) in
    let more : flat_map (inodes_on file) (stepped_pages file base (k + 1)) ≡ flat_map
    (inodes_on file) pages ++ inodes_on file n =
    ap (flat_map (inodes_on file)) whole ∙ flat_map-append (inodes_on file) pages (n ∷ [])
    ∙ ap (λ xs. flat_map (inodes_on file) pages ++ xs) (append-nil (inodes_on file n)) in
    record {
      places = places ∙ ap (λ xs. xs ++ places_on n page) grew.places
          ∙ ap (λ p. old.places ++ flat_map (inodes_on file) pages ++ places_on n p) here
          ∙ append_assoc old.places (flat_map (inodes_on file) pages) (inodes_on file n)
          ∙ ap (λ xs. old.places ++ xs) (sym more);
      inodes = inodes ∙ ap (λ xs. xs ++ used_on page) grew.inodes
          ∙ ap (λ p. old.inodes ++ map (inode_of file) (flat_map (inodes_on file) pages) ++ used_on p) here
          ∙ ap (λ xs. old.inodes ++ map (inode_of file) (flat_map (inodes_on file) pages) ++ xs)
          (sym (used_there file n))
          ∙ append_assoc old.inodes (map (inode_of file) (flat_map (inodes_on file) pages))
          (map (inode_of file) (inodes_on file n))
          ∙ ap (λ xs. old.inodes ++ xs) (sym (map-append (inode_of file) (flat_map (inodes_on file) pages)
          (inodes_on file n))
          ∙ ap (map (inode_of file)) (sym more));
    }

-- how a walk stops: at a step, or at its end
pub step_stops : (file : List ℕ) (is_fragment : ℕ → Bool) (full : Bool) (earlier : List ℕ) (base : Base)
    (address : Address) (holder : ℕ) (before : Option Address) (k : ℕ) → IsAt file base address holder before k
    → (¬ (IsNull address)) → Held file is_fragment full earlier base k → (stop : Stop)
    → Stops stop (StepAt file is_fragment full (earlier ++ stepped_pages file base k) address holder before)
    → Stops stop (InodeListChecks file is_fragment full earlier base)
step_stops file is_fragment full earlier base address holder before k is goes held (stops.Broken fault) checks =
    let there : StepChecks file is_fragment full earlier base k (Some fault) =
    rw (← is.address_is, ← is.holder_is, ← is.before_is) checks in
    (k, held, inl (subst (λ (a : Address). ¬ (IsNull a)) is.address_is goes, there))
step_stops file is_fragment full earlier base address holder before k is goes held stops.Source checks = tt
step_stops file is_fragment full earlier base address holder before k is goes held stops.Memory checks = tt

pub end_breaks : (file : List ℕ) (is_fragment : ℕ → Bool) (full : Bool) (earlier : List ℕ) (base : Base)
    (address : Address) (holder : ℕ) (before : Option Address) (k : ℕ) → IsAt file base address holder before k
    → IsNull address → Held file is_fragment full earlier base k → (¬ (EndsAfter base k before)) → (fault : Fault)
    → fault ≡ record { rule = InodeList; page = 0 } → InodeListChecks file is_fragment full earlier base (Some fault)
end_breaks file is_fragment full earlier base address holder before k is null held wrong fault named =
    (k, held, inr (subst IsNull is.address_is null, (rw (← is.before_is) wrong, named)))

pub end_holds : (file : List ℕ) (is_fragment : ℕ → Bool) (full : Bool) (earlier : List ℕ) (base : Base)
    (address : Address) (holder : ℕ) (before : Option Address) (k : ℕ) → IsAt file base address holder before k
    → IsNull address → Held file is_fragment full earlier base k → EndsAfter base k before
    → InodeListChecks file is_fragment full earlier base None
end_holds file is_fragment full earlier base address holder before k is null held ends =
    (k, subst (λ (a : Address). IsNull a) is.address_is null, held, rw (← is.before_is) ends)
