-- The cut of the records into groups as a walk that closes a group at each owner.
use Rattle.std.proofs.Common.{◌≡◌, ◌≢◌, ℕ, zero, suc, ◌+◌, ◌-◌, ◌<◌, ◌≤◌, ◌↔◌, List, [], ◌∷◌, ◌++◌, length, All, refl}
use Rattle.std.proofs.Common.{sym, ap, ◌∙◌, subst, arith, inl, inr, append_assoc}
use Rattle.std.proofs.lemmas.Bool.{cases_eq}
use Rattle.std.proofs.lemmas.List.{append-nil, length-append}
use Rattle.std.proofs.lemmas.List.Elements.{All-nil, All-head, All-tail, All-push}
use Rattle.compact_record.specs.Header.{next_origin, owned_by}
use Rattle.index_page.specs.Header.{infimum, supremum, slot_count, record_count, slot_at, records_from, records_of}
use Rattle.index_page.specs.Page.{HasGroupSize, IsGroup, Cuts, Closes, IsCut, IsChain}
use Rattle.index_page.specs.declared.directory.Groups.{Groups}
use Rattle.index_page.specs.Groups.{Grows, AreWhole}
use Rattle.index_page.proofs.RecordWalk.{records_left, records_left_none}
use Rattle.index_page.proofs.ChainWalk.{walk_of_chain, whole_chain}

-- what is left of the cut: `size` records stand open before these, and `slot` is the next slot
abbrev pub CutLeft : List ℕ → ℕ → ℕ → List ℕ → Type 0
CutLeft page size slot [] = (slot ≡ slot_count page) × (size ≡ 0)
CutLeft page size slot (origin ∷ rest) =
    (owned_by page origin ≡ 0 → CutLeft page (size + 1) slot rest)
    × (owned_by page origin ≢ 0 → Closes page slot (size + 1) origin × CutLeft page 0 (slot + 1) rest)

abbrev Unowned : List ℕ → ℕ → Type 0
Unowned page origin = owned_by page origin ≡ 0

-- the first owner of a list is in one place
record SameFront (front f rest r : List ℕ) (o s : ℕ) : Type 0 where
  same_front : front ≡ f
  same_owner : o ≡ s
  same_rest : rest ≡ r

first_owner : (page front f rest r : List ℕ) (o s : ℕ) → All (Unowned page) front → All (Unowned page) f
    → owned_by page o ≢ 0 → owned_by page s ≢ 0
    → front ++ o ∷ rest ≡ f ++ s ∷ r → SameFront front f rest r o s
first_owner page [] [] rest r o s un un' owns owns' e = record { same_front = refl; same_owner = cc; same_rest = cc }
first_owner page [] (y ∷ f) rest r o s un un' owns owns' e =
    let head : o ≡ y = cc in
    absurd (owns (ap (owned_by page) head ∙ All-head (Unowned page) y f un'))
first_owner page (x ∷ front) [] rest r o s un un' owns owns' e =
    let head : x ≡ s = cc in
    absurd (owns' (ap (owned_by page) (sym head) ∙ All-head (Unowned page) x front un))
first_owner page (x ∷ front) (y ∷ f) rest r o s un un' owns owns' e =
    let head : x ≡ y = cc in
    let tail : front ++ o ∷ rest ≡ f ++ s ∷ r = cc in
    let behind = first_owner page front f rest r o s (All-tail (Unowned page) x front un)
    (All-tail (Unowned page) y f un') owns owns' tail in
    let fronts = behind.same_front in
    record { same_front = cc; same_owner = behind.same_owner; same_rest = behind.same_rest }

-- an owner doesn't stand among those that own none
no_owner : (page front f r : List ℕ) (s : ℕ) → All (Unowned page) front → owned_by page s ≢ 0 → front ≡ f ++ s ∷ r → ⊥
no_owner page [] [] r s un owns e = cc
no_owner page [] (y ∷ f) r s un owns e = cc
no_owner page (x ∷ front) [] r s un owns e =
    let head : x ≡ s = cc in
    owns (ap (owned_by page) (sym head) ∙ All-head (Unowned page) x front un)
no_owner page (x ∷ front) (y ∷ f) r s un owns e =
    let tail : front ≡ f ++ s ∷ r = cc in
    no_owner page front f r s (All-tail (Unowned page) x front un) owns tail

owns_some : (page f : List ℕ) (slot : ℕ) → IsGroup page slot f → owned_by page (slot_at page slot) ≢ 0
owns_some page f slot group none = omega (arith, group.owned)

none_open : (front : List ℕ) → front ++ [] ≡ [] → length front ≡ 0
none_open [] e = refl
none_open (x ∷ front) e = cc

-- an owner closes a group, and the rest is cut behind it
closed_of : (page rest front : List ℕ) (slot n o : ℕ) → All (Unowned page) front → slot + n ≡ slot_count page
    → Closes page slot (length front + 1) o → ((m : ℕ) → (slot + 1) + m ≡ slot_count page
    → Cuts page (slot + 1) m rest) → Cuts page slot n (front ++ o ∷ rest)
closed_of page rest front slot zero o un count here behind = absurd (omega (arith, here.within))
closed_of page rest front slot (suc m) o un count here behind =
    let named = here.named in
    let P : ℕ → Type 0 = λ size. owned_by page (slot_at page slot) ≡ size in
    let Q : ℕ → Type 0 = λ x. HasGroupSize x (length front + 1) in
    let group : IsGroup page slot front = record {
      unowned = un;
      owned = ap (λ x. owned_by page x) named
          ∙ here.owned;
      size = subst Q (sym named) here.fits;
    } in
    (front, rest, ap (λ (x : ℕ). front ++ x ∷ rest) (sym named), group, behind m (omega arith))

opened_of : (page rest front : List ℕ) (slot n o : ℕ) → All (Unowned page) front → slot + n ≡ slot_count page
    → owned_by page o ≢ 0 → Cuts page slot n (front ++ o ∷ rest)
    → Closes page slot (length front + 1) o × (m : ℕ) × ((slot + 1) + m ≡ slot_count page)
    × Cuts page (slot + 1) m rest
opened_of page rest front slot zero o un count owns cut = absurd
    (omega (arith, ap (λ (xs : List ℕ). length xs) cut, length-append front (o ∷ rest)))
opened_of page rest front slot (suc m) o un count owns cut =
    let group = cut.3 in
    let same = first_owner page front cut.0 rest cut.1 o (slot_at page slot) un group.unowned owns
    (owns_some page cut.0 slot group) cut.2 in
    let fronts = same.same_front in
    let owner = same.same_owner in
    let P : List ℕ → Type 0 = λ xs. Cuts page (slot + 1) m xs in
    let Q : ℕ → Type 0 = λ x. HasGroupSize x (length front + 1) in
    let R : List ℕ → Type 0 = λ xs. HasGroupSize (slot_at page slot) (length xs + 1) in
    let here : Closes page slot (length front + 1) o = record {
      within = omega arith;
      named = sym owner;
      owned = ap (λ x. owned_by page x) owner ∙ group.owned ∙ ap (λ (xs : List ℕ). length xs + 1) (sym fronts);
      fits = subst Q (sym owner) (subst R (sym fronts) group.size);
    } in
    (here, m, omega arith, subst P (sym same.same_rest) cut.4)

-- nothing is left, and nothing stands open
end_of : (page front : List ℕ) (slot n : ℕ) → All (Unowned page) front → slot + n ≡ slot_count page
    → Cuts page slot n (front ++ []) → (slot ≡ slot_count page) × (length front ≡ 0)
end_of page front slot zero un count cut = (omega arith, none_open front cut)
end_of page front slot (suc n) un count cut =
    absurd (no_owner page front cut.0 cut.1 (slot_at page slot) un (owns_some page cut.0 slot cut.3)
    (sym (append-nil front) ∙ cut.2))

-- a walk that closes is a cut
cut_of : (page rest front : List ℕ) (slot n : ℕ) → All (Unowned page) front → slot + n ≡ slot_count page
    → CutLeft page (length front) slot rest → Cuts page slot n (front ++ rest)
cut_of page [] [] slot zero un count left = refl
cut_of page [] (x ∷ front) slot zero un count left = absurd (omega (arith, left.1))
cut_of page [] front slot (suc n) un count left = absurd (omega (arith, left.0))
cut_of page (o ∷ rest) front slot n un count left =
    elim (cases_eq (owned_by page o) 0) [
      | inl none ↦
          let size : length (front ++ o ∷ []) ≡ length front + 1 = length-append front (o ∷ []) in
          let P : ℕ → Type 0 = λ k. CutLeft page k slot rest in
          let Q : List ℕ → Type 0 = λ all. Cuts page slot n all in
          let assoc : (front ++ o ∷ []) ++ rest ≡ front ++ o ∷ rest = append_assoc front (o ∷ []) rest in
          subst Q assoc (cut_of page rest (front ++ o ∷ []) slot n (All-push (Unowned page) front o un none) count
          (subst P (sym size) (left.0 none)))
      | inr owns ↦
          let both = left.1 owns in
          closed_of page rest front slot n o un count both.0
          (λ m more. cut_of page rest [] (slot + 1) m (All-nil (Unowned page)) more both.1)
    ]

-- a cut is a walk that closes
left_of : (page rest front : List ℕ) (slot n : ℕ) → All (Unowned page) front → slot + n ≡ slot_count page
    → Cuts page slot n (front ++ rest) → CutLeft page (length front) slot rest
left_of page [] front slot n un count cut = end_of page front slot n un count cut
left_of page (o ∷ rest) front slot n un count cut = (
  λ none.
      let size : length (front ++ o ∷ []) ≡ length front + 1 = length-append front (o ∷ []) in
      let P : ℕ → Type 0 = λ k. CutLeft page k slot rest in
      let Q : List ℕ → Type 0 = λ all. Cuts page slot n all in
      let assoc : (front ++ o ∷ []) ++ rest ≡ front ++ o ∷ rest = append_assoc front (o ∷ []) rest in
      subst P size (left_of page rest (front ++ o ∷ []) slot n (All-push (Unowned page) front o un none) count
      (subst Q (sym assoc) cut)),
  λ owns.
      let opened = opened_of page rest front slot n o un count owns cut in
      (opened.0, left_of page rest [] (slot + 1) opened.1 (All-nil (Unowned page)) opened.2 opened.3),
)

-- where the walk has come: what is left of it closes exactly where the directory cuts the chain
pub record CutGoes (page : List ℕ) (size slot origin n i : ℕ) : Type 0 where
  pub few : size ≤ i
  pub slots : slot ≤ i
  pub left : CutLeft page size slot (records_from page origin (n - i)) ↔ IsCut page (records_of page)

pub cut_start : (page : List ℕ) (n : ℕ) → IsChain page (records_of page) → n ≡ record_count page + 2
    → CutGoes page 0 0 infimum n 0
cut_start page n is counted =
    let e : n - 0 ≡ record_count page + 2 = omega arith in
    let all : records_from page infimum (n - 0) ≡ infimum ∷ records_of page ++ supremum ∷ [] =
    ap (λ k. records_from page infimum k) e ∙ whole_chain page (walk_of_chain page is) in
    let count : 0 + slot_count page ≡ slot_count page = omega arith in
    let whole = infimum ∷ records_of page ++ supremum ∷ [] in
    let P : List ℕ → Type 0 = λ xs. CutLeft page 0 0 xs ↔ IsCut page (records_of page) in
    record {
      few = omega arith;
      slots = omega arith;
      left = subst P (sym all) (
        λ closes. cut_of page whole [] 0 (slot_count page) (All-nil (Unowned page)) count closes,
        λ cut. left_of page whole [] 0 (slot_count page) (All-nil (Unowned page)) count cut,
      );
    }

step : (page : List ℕ) (size slot origin n i : ℕ) → i < n → CutGoes page size slot origin n i
    → CutLeft page size slot (origin ∷ records_from page (next_origin page origin) (n - (i + 1)))
    ↔ IsCut page (records_of page)
step page size slot origin n i below goes =
    let P : List ℕ → Type 0 = λ xs. CutLeft page size slot xs ↔ IsCut page (records_of page) in
    subst P (records_left page origin n i below) goes.left

-- a record that owns none leaves its group open
pub cut_open : (page : List ℕ) (size slot origin size' slot' next n i : ℕ) → i < n → next ≡ next_origin page origin
    → owned_by page origin ≡ 0
    → size' ≡ size + 1 → slot' ≡ slot → CutGoes page size slot origin n i → CutGoes page size' slot' next n (i + 1)
cut_open page size slot origin size' slot' next n i below is none more same goes =
    let here = step page size slot origin n i below goes in
    let now : CutLeft page (size + 1) slot (records_from page (next_origin page origin) (n - (i + 1))) ↔ IsCut page
    (records_of page) =
    (λ left. here.0 (λ _. left, λ owns. absurd (owns none)), λ cut. (here.1 cut).0 none) in
    record { few = omega (arith, goes.few); slots = omega (arith, goes.slots); left = rw (is, more, same) now }

-- an owner closes it
pub cut_close : (page : List ℕ) (size slot origin size' slot' next n i : ℕ) → i < n → next ≡ next_origin page origin
    → owned_by page origin ≢ 0
    → Closes page slot (size + 1) origin → size' ≡ 0 → slot' ≡ slot + 1 → CutGoes page size slot origin n i
    → CutGoes page size' slot' next n (i + 1)
cut_close page size slot origin size' slot' next n i below is owns closes none more goes =
    let here = step page size slot origin n i below goes in
    let now : CutLeft page 0 (slot + 1) (records_from page (next_origin page origin) (n - (i + 1))) ↔ IsCut page
    (records_of page) =
    (λ left. here.0 (λ none. absurd (owns none), λ _. (closes, left)), λ cut. ((here.1 cut).1 owns).1) in
    record { few = omega arith; slots = omega (arith, goes.slots); left = rw (is, none, more) now }

-- in a cut each owner closes its group
pub cut_here : (page : List ℕ) (size slot origin n i : ℕ) → i < n → owned_by page origin ≢ 0
    → CutGoes page size slot origin n i → IsCut page (records_of page)
    → Closes page slot (size + 1) origin
cut_here page size slot origin n i below owns goes cut = (((step page size slot origin n i below goes).1 cut).1 owns).0

-- at the end nothing may be left
pub cut_end : (page : List ℕ) (size slot origin n i : ℕ) → n ≤ i → CutGoes page size slot origin n i
    → ((slot ≡ slot_count page) × (size ≡ 0)) ↔ IsCut page (records_of page)
cut_end page size slot origin n i past goes =
    let P : List ℕ → Type 0 = λ xs. CutLeft page size slot xs ↔ IsCut page (records_of page) in
    subst P (records_left_none page origin n i past) goes.left

-- the same in one direction, before the chain is known: where what is left of the walk closes, the whole walk does
pub record CutReaches (page : List ℕ) (groups : Groups) (origin n i : ℕ) : Type 0 where
  pub few : groups.size ≤ i
  pub slots : groups.slot ≤ i
  pub left : CutLeft page groups.size groups.slot (records_from page origin (n - i))
      → CutLeft page 0 0 (records_from page infimum n)

reach_start : (page : List ℕ) (n : ℕ) → CutReaches page (record { slot = 0; size = 0 }) infimum n 0
reach_start page n =
    let e : n - 0 ≡ n = omega arith in
    record {
      few = omega arith;
      slots = omega arith;
      left = λ closes. subst (λ (k : ℕ). CutLeft page 0 0 (records_from page infimum k)) e closes;
    }

grown_left : (page : List ℕ) (old new : Groups) (origin : ℕ) (rest : List ℕ) → Grows page old origin new
    → CutLeft page new.size new.slot rest → CutLeft page old.size old.slot (origin ∷ rest)
grown_left page old new origin rest (inl (none, is)) left =
    let now : CutLeft page (old.size + 1) old.slot rest =
    subst (λ (g : Groups). CutLeft page g.size g.slot rest) is left in
    (λ _. now, λ owns. absurd (owns none))
grown_left page old new origin rest (inr (owns, closes, is)) left =
    let now : CutLeft page 0 (old.slot + 1) rest = subst (λ (g : Groups). CutLeft page g.size g.slot rest) is left in
    (λ none. absurd (owns none), λ _. (closes, now))

grown_few : (page : List ℕ) (old new : Groups) (origin : ℕ) → Grows page old origin new
    → (new.size ≤ old.size + 1) × (new.slot ≤ old.slot + 1)
grown_few page old new origin (inl (none, is)) = rw is (omega arith, omega arith)
grown_few page old new origin (inr (owns, closes, is)) = rw is (omega arith, omega arith)

-- one more record
pub reach_more : (page : List ℕ) (old new : Groups) (origin next n i : ℕ) → i < n → next ≡ next_origin page origin
    → Grows page old origin new → CutReaches page old origin n i → CutReaches page new next n (i + 1)
reach_more page old new origin next n i below is grows goes =
    let few = grown_few page old new origin grows in
    let rest = records_from page (next_origin page origin) (n - (i + 1)) in
    record {
      few = omega (arith, few.0, goes.few);
      slots = omega (arith, few.1, goes.slots);
      left = λ closes.
          goes.left (subst (CutLeft page old.size old.slot) (sym (records_left page origin n i below))
          (grown_left page old new origin rest grows
          (subst (λ (o : ℕ). CutLeft page new.size new.slot (records_from page o (n - (i + 1)))) is closes)));
    }

-- the infimum is the first
pub reach_first : (page : List ℕ) (none groups : Groups) (next n : ℕ) → none ≡ record { slot = 0; size = 0 } → 0 < n
    → next ≡ next_origin page infimum → Grows page none infimum groups → CutReaches page groups next n 1
reach_first page none groups next n is some here grows =
    reach_more page none groups infimum next n 0 some here grows
    (subst (λ (g : Groups). CutReaches page g infimum n 0) (sym is) (reach_start page n))

-- and the supremum the last
pub reach_end : (page : List ℕ) (groups : Groups) (origin n i : ℕ) → IsChain page (records_of page)
    → n ≡ record_count page + 2 → i + 1 ≡ n → origin ≡ supremum → AreWhole page groups
    → CutReaches page groups origin n i → IsCut page (records_of page)
reach_end page groups origin n i is counted last here whole goes =
    let more = reach_more page groups whole.last origin (next_origin page origin) n i (omega (arith, last)) refl
    (subst (λ (o : ℕ). Grows page groups o whole.last) (sym here) whole.grows) goes in
    let past : n ≤ i + 1 = omega (arith, last) in
    let none = records_left_none page (next_origin page origin) n (i + 1) past in
    let closed = more.left (subst (CutLeft page whole.last.size whole.last.slot) (sym none)
    (whole.slots, whole.closed)) in
    let list = infimum ∷ records_of page ++ supremum ∷ [] in
    let all : records_from page infimum n ≡ list =
    ap (λ k. records_from page infimum k) counted ∙ whole_chain page (walk_of_chain page is) in
    let count : 0 + slot_count page ≡ slot_count page = omega arith in
    cut_of page list [] 0 (slot_count page) (All-nil (Unowned page)) count (subst (CutLeft page 0 0) all closed)
