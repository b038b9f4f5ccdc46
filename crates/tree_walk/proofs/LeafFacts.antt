-- facts on the leaves of a checked tree
use Rattle.std.proofs.Common.{◌≡◌, ◌≢◌, ◌-◌, ◌⊎◌, IfOk, ℕ, zero, suc, ◌+◌, ◌<◌, ◌≤◌, ◌∷◌, length, get_or, take, refl}
use Rattle.std.proofs.Common.{sym, ap, ◌∙◌, arith, inl, inr, subst, Option, Some, Result, Ok, Err, add-one}
use Rattle.std.proofs.lemmas.Bool.{cases_lt}
use Rattle.std.proofs.lemmas.List.{get_or_default, get_or_past, take_all}
use Rattle.page_source.specs.Pages.{page_count, fil_null}
use Rattle.fil_frame.specs.Frame.{next_page}
use Rattle.compact_record.specs.Header.{next_origin}
use Rattle.index_page.specs.Header.{infimum, records_of, record_count}
use Rattle.tree_walk.specs.declared.leaves.leaf.Leaf.{Leaf}
use Rattle.tree_walk.specs.Index.{Index, page_in, fields_on, root_level, leaf_pages, leaf_rows, pages_at, rows_of}
use Rattle.tree_walk.specs.Facts.{LevelFacts}
use Rattle.tree_walk.specs.Records.{PageFacts}
use Rattle.tree_walk.specs.Walk.{Stands, StandsAt}
use Rattle.tree_walk.specs.Leaf.{IsWalked, IsAtStart, IsBefore, HasGiven, FindsRow, BreaksOff, HasMoved, HasHopped}
use Rattle.tree_walk.specs.Leaf.{IsSameOrNext, IsOnLeaf, HasTaken, LeadsAstray, FindsLeaf}
use Rattle.page_source.specs.declared.rule.Rule.TheVariants.{RecordChain}
use Rattle.page_source.specs.declared.rule.Fault.{Fault}
use Rattle.page_source.specs.declared.checks.Halt.{Halt}
use Rattle.page_source.specs.declared.checks.Halt.TheVariants.{Broken, Source}
use Rattle.index_page.specs.Page.{IsChain}
use Rattle.tree_walk.proofs.Records.{length-records, passed_more, chain_end, record_at}
use Rattle.tree_walk.proofs.Levels.{level_facts, pages_at_root}
use Rattle.tree_walk.proofs.Cursors.{rows_more, stands_within, stands_read}
use Rattle.space_audit.proofs.Audited.{head_size}

module _ (index : Index) (w : IsWalked index) where
  pub leaf_facts : LevelFacts index index.leaf (root_level index)
  leaf_facts =
      let f = level_facts index w.taken w.named (head_size index.file w.space w.audit) (root_level index)
      (omega arith) w.holds.0 w.holds.1 in
      let e : root_level index - root_level index ≡ 0 = omega arith in
      let q : fields_on index (root_level index - root_level index) ≡ index.leaf = rw e refl in
      subst (λ fs. LevelFacts index fs (root_level index)) q f

  -- the leftmost leaf can be fetched
  pub start_within : (leaf : Leaf) → IsAtStart index leaf → leaf.number < page_count index.file
  start_within leaf s = rw (s.first) (leaf_facts.within 0 0 leaf_facts.some)

  pub start_fetches : (leaf : Leaf) → IsAtStart index leaf → 0 < leaf.may_fetch
  start_fetches leaf s = let f = s.fetches in let h = leaf_facts.some in omega arith

  -- before the first row, and behind one
  pub can_start : (leaf : Leaf) (last j : ℕ) → last < 99 → HasGiven index leaf last j → (j ≡ 0) × IsAtStart index leaf
  can_start leaf last j h (inl g) = (g.0, g.2)
  can_start leaf last j h (inr g) = let l = g.0 in absurd (omega arith)

  pub can_search : (leaf : Leaf) (last j : ℕ) → 99 ≤ last → HasGiven index leaf last j → IsBefore index leaf last j
  can_search leaf last j h (inl g) = let z = g.1 in absurd (omega arith)
  can_search leaf last j h (inr g) = g.1

  -- once the leftmost leaf was fetched it is in hand
  pub start_on : (leaf new : Leaf) → IsAtStart index leaf → new.page ≡ page_in index leaf.number → new.number ≡
      leaf.number → new.may_fetch + 1 ≡ leaf.may_fetch → IsOnLeaf index new 0
  start_on leaf new s p n m = record {
    within = leaf_facts.some;
    number = n ∙ s.first;
    held = p ∙ ap (page_in index) (sym n);
    fetches = let f = s.fetches in omega arith;
  }

  -- and its first row is the next one
  pub start_before : (leaf new : Leaf) → IsAtStart index leaf → new.page ≡ page_in index leaf.number → new.number ≡
      leaf.number → new.may_fetch + 1 ≡ leaf.may_fetch → IsBefore index new 99 0
  start_before leaf new s p n m = record {
    i = 0;
    k = 0;
    on = start_on leaf new s p n m;
    few = omega arith;
    passed = refl;
    place = refl;
  }

  -- no leaf came yet, or one is in hand
  pub take_start : (leaf : Leaf) (last i : ℕ) → last < 99 → HasTaken index leaf last i → (i ≡ 0) × IsAtStart index leaf
  take_start leaf last zero l h = (refl, h.1)
  take_start leaf last (suc i) l h = let m = h.0 in absurd (omega arith)

  pub take_on : (leaf : Leaf) (last i : ℕ) → 99 ≤ last → HasTaken index leaf last i
      → (k : ℕ) × ((i ≡ k + 1) × IsOnLeaf index leaf k)
  take_on leaf last zero l h = let m = h.0 in absurd (omega arith)
  take_on leaf last (suc i) l h = (i, (sym (add-one i), h.1))

  module _ (leaf : Leaf) (i : ℕ) (o : IsOnLeaf index leaf i) where
    sound : PageFacts leaf.page index.leaf
    sound = rw (o.held, o.number) (leaf_facts.sound i 0 o.within)

    width : length (rows_of index (take (i + 1) (leaf_pages index))) ≡ length
        (rows_of index (take i (leaf_pages index))) + length (records_of leaf.page)
    width = rw (o.held, o.number) (rows_more index (leaf_pages index) i o.within)

    next_page_is : next_page leaf.page ≡ get_or (leaf_pages index) (i + 1) fil_null
    next_page_is = rw (o.held, o.number) (leaf_facts.linked i o.within)

    -- no leaf comes after the last
    pub last_leaf : next_page leaf.page ≡ fil_null → length (leaf_pages index) ≤ i + 1
    last_leaf z =
        elim (cases_lt (i + 1) (length (leaf_pages index))) [
          | inl h ↦
              let q : get_or (leaf_pages index) (i + 1) fil_null < fil_null = leaf_facts.small (i + 1) fil_null h in
              let r = next_page_is in
              absurd (omega arith)
          | inr h ↦ h
        ]

    pub fetches_end : next_page leaf.page ≡ fil_null → leaf.may_fetch ≡ 0
    fetches_end z = let l = last_leaf z in let f = o.fetches in let h = o.within in omega arith

    -- the next leaf
    module _ (number : ℕ) (en : number ≡ next_page leaf.page) (ne : number ≢ fil_null) where
      more_leaves : i + 1 < length (leaf_pages index)
      more_leaves =
          elim (cases_lt (i + 1) (length (leaf_pages index))) [
            | inl h ↦ h
            | inr h ↦ absurd (ne (en ∙ next_page_is ∙ get_or_past (leaf_pages index) (i + 1) fil_null h))
          ]

      pub fetches_more : 0 < leaf.may_fetch
      fetches_more = let m = more_leaves in let f = o.fetches in omega arith

      pub next_within : number < page_count index.file
      next_within = rw (en ∙ next_page_is) (leaf_facts.within (i + 1) fil_null more_leaves)

      pub next_on : (new : Leaf) → new.page ≡ page_in index number → new.number ≡ number → new.may_fetch + 1 ≡
          leaf.may_fetch → IsOnLeaf index new (i + 1)
      next_on new p q m =
          let f = o.fetches in
          record {
            within = more_leaves;
            number = q ∙ en ∙ next_page_is ∙ get_or_default (leaf_pages index) (i + 1) fil_null 0 more_leaves;
            held = p ∙ ap (page_in index) (sym q);
            fetches = omega arith;
          }

  module _ (leaf : Leaf) (at j next : ℕ) (b : IsBefore index leaf at j) (e : next ≡ next_origin leaf.page at) where
    -- a next field of at least 125 leads to a record
    some_more : 125 ≤ next → b.k < record_count leaf.page
    some_more h =
        let n = length-records leaf.page in
        let f = b.few in
        let s = sound leaf b.i b.on in
        elim (cases_lt b.k (record_count leaf.page)) [
          | inl l ↦ l
          | inr l ↦ let q = chain_end leaf.page b.k at s.is_chain (omega arith) b.passed in absurd (omega arith)
        ]

    none_more : next < 125 → b.k ≡ record_count leaf.page
    none_more h =
        let n = length-records leaf.page in
        let f = b.few in
        let s = sound leaf b.i b.on in
        elim (cases_lt b.k (record_count leaf.page)) [
          | inl l ↦
              let q = passed_more leaf.page b.k at l b.passed in
              let r = (record_at leaf.page index.leaf b.k s l).least in
              absurd (omega arith)
          | inr l ↦ omega arith
        ]

    pub ends_at_supremum : next < 125 → next ≡ 112
    ends_at_supremum h =
        e ∙ chain_end leaf.page b.k at (sound leaf b.i b.on).is_chain (none_more h) b.passed

    -- the row that it leads to
    stands_next : 125 ≤ next → StandsAt index (root_level index)
        (record { number = leaf.number; origin = next; more = leaf.may_fetch }) leaf.page j b.i b.k
    stands_next h =
        let n = length-records leaf.page in
        let l = some_more h in
        record {
          within = b.on.within;
          number = b.on.number;
          held = b.on.held;
          slot = omega arith;
          origin = e ∙ passed_more leaf.page b.k at l b.passed;
          place = b.place;
          more = b.on.fetches;
        }

    pub row_found : 125 ≤ next → FindsRow index j (Ok (Some next)) leaf
    row_found h =
        let n = length-records leaf.page in
        let l = some_more h in
        let s : Stands index (root_level index) (record {
          number = leaf.number;
          origin = next;
          more = leaf.may_fetch;
        }) leaf.page j = (b.i, (b.k, stands_next h)) in (
          stands_within index (root_level index) (record {
            number = leaf.number;
            origin = next;
            more =
                leaf.may_fetch;
          }) leaf.page j s,
          stands_read index (root_level index) (record {
            number = leaf.number;
            origin = next;
            more = leaf.may_fetch;
          }) leaf.page j s,
          inr (
            omega arith,
            record {
              i = b.i;
              k = b.k + 1;
              on = b.on;
              few = omega arith;
              passed = rw add-one (e ∙ passed_more leaf.page b.k at l b.passed);
              place = let p = b.place in omega arith;
            },
          ),
        )

    -- no row comes after the last leaf's
    pub rows_end : next < 125 → length (leaf_pages index) ≤ b.i + 1 → length (leaf_rows index) ≤ j
    rows_end h z =
        let n = length-records leaf.page in
        let t = ap (λ xs. length (rows_of index xs)) (take_all (b.i + 1) (leaf_pages index) z) in
        let k = none_more h in
        let p = b.place in
        let w = width leaf b.i b.on in
        omega arith

    -- after the last row of a leaf the first row of the next one comes
    pub next_before : next < 125 → (new : Leaf) → IsOnLeaf index new (b.i + 1) → IsBefore index new 99 j
    next_before h new o =
        let n = length-records leaf.page in
        let k = none_more h in
        let l = b.place in
        let w = width leaf b.i b.on in
        record { i = b.i + 1; k = 0; on = o; few = omega arith; passed = refl; place = omega arith }

-- the leaf is the same, or one was fetched, whose first record is next
abbrev pub IsNear : Leaf → Leaf → ℕ → ℕ → Type 0
IsNear old leaf from at = ((leaf.may_fetch ≡ old.may_fetch) × (at ≡ from)) ⊎
    ((leaf.may_fetch + 1 ≡ old.may_fetch) × (at ≡ 99) × (from ≢ 99))

pub near_none : (leaf : Leaf) (from : ℕ) → IsNear leaf leaf from from
near_none leaf from = inl (refl, refl)

pub near_hops : (old leaf : Leaf) (from at : ℕ) → HasMoved old leaf → IsNear old leaf from at → HasHopped old leaf from
near_hops old leaf from at m (inl (e, q)) = inl (m.stays e).0
near_hops old leaf from at m (inr (e, q, n)) = inr (n, m.goes e)

-- a failed fetch leaves the number
pub near_still : (old leaf new : Leaf) (from at : ℕ) → HasMoved old leaf → new.number ≡ leaf.number
    → IsNear old leaf from at → HasHopped old new from
near_still old leaf new from at m e n =
    elim (near_hops old leaf from at m n) [ inl q ↦ inl (e ∙ q) | inr q ↦ inr (q.0, e ∙ q.1) ]

pub same_or_next : (old new : Leaf) (from : ℕ) → HasHopped old new from → IsSameOrNext old new
same_or_next old new from (inl e) = inl e
same_or_next old new from (inr (n, e)) = inr e

pub first_same : (old opened new : Leaf) → opened.number ≡ old.number → HasHopped opened new 99 → IsSameOrNext old new
first_same old opened new q (inl e) = inl (e ∙ q)
first_same old opened new q (inr (n, e)) = absurd (n refl)

-- a leaf without a record is the last one
module _ (index : Index) (w : IsWalked index) (leaf : Leaf) (j next : ℕ) (b : IsBefore index leaf 99 j)
    (e : next ≡ next_origin leaf.page 99) (h : next < 125) (m : b.i + 1 < length (leaf_pages index)) where
  upper : 0 < root_level index
  upper =
      elim (cases_lt 0 (root_level index)) [
        | inl l ↦ l
        | inr l ↦
            let z : root_level index ≡ 0 = omega arith in
            let k : b.i + 1 < length (pages_at index 0) = subst (λ d. b.i + 1 < length (pages_at index d)) z m in
            let q : b.i + 1 < 1 = rw pages_at_root at k in
            absurd (omega arith)
      ]

  at_front : (k : ℕ) → k ≡ b.k → k ≡ 0
  at_front zero q = refl
  at_front (suc k) q =
      let n = length-records leaf.page in
      let f = b.few in
      let s = sound index w leaf b.i b.on in
      let r = (record_at leaf.page index.leaf k s (omega arith)).least in
      let p : 99 ≡ get_or (infimum ∷ records_of leaf.page) (suc k) 0 = rw q b.passed in
      absurd (omega arith)

  pub last_without : ⊥
  last_without =
      let k = at_front b.k refl in
      let n = none_more index w leaf 99 j next b e h in
      let f : 0 < record_count leaf.page =
      rw (b.on.held, b.on.number) ((leaf_facts index w).filled upper b.i 0 b.on.within) in
      omega arith

pub near_more : (index : Index) → IsWalked index → (old leaf new : Leaf) (from at j next : ℕ)
    → (b : IsBefore index leaf at j) → next ≡ next_origin leaf.page at → next < 125 → IsOnLeaf index new (b.i + 1)
    → new.may_fetch + 1 ≡ leaf.may_fetch → IsNear old leaf from at → IsNear old new from 99
near_more index w old leaf new from at j next b e h o m (inl (s, q)) =
    inr (
      omega arith,
      refl,
      λ z.
          let x : IsBefore index leaf 99 j =
          record { i = b.i; k = b.k; on = b.on; few = b.few; passed = sym (q ∙ z) ∙ b.passed; place = b.place } in
          let y : next ≡ next_origin leaf.page 99 = e ∙ ap (next_origin leaf.page) (q ∙ z) in
          last_without index w leaf j next x y h o.within,
    )
near_more index w old leaf new from at j next b e h o m (inr (s, q, n)) =
    let x : IsBefore index leaf 99 j =
    record { i = b.i; k = b.k; on = b.on; few = b.few; passed = sym q ∙ b.passed; place = b.place } in
    let y : next ≡ next_origin leaf.page 99 = e ∙ ap (next_origin leaf.page) q in
    absurd (last_without index w leaf j next x y h o.within)

-- one more leaf further
pub moved_more : (old leaf new : Leaf) → HasMoved old leaf → new.number ≡ next_page leaf.page
    → new.may_fetch + 1 ≡ leaf.may_fetch → HasMoved old new
moved_more old leaf new h q m =
    let f = h.fewer in
    record {
      fewer = omega arith;
      stays = λ z. absurd (omega arith);
      goes = λ z. q ∙ ap next_page (h.stays (omega arith)).1;
    }

pub moved_none : (leaf : Leaf) → HasMoved leaf leaf
moved_none leaf = record { fewer = omega arith; stays = λ z. (refl, refl); goes = λ z. absurd (omega arith) }

-- a fault at a leaf whose chain isn't whole
pub breaks_chain : (leaf : Leaf) (found fault : Fault) → found ≡ record { rule = RecordChain; page = leaf.number } →
    ¬ (IsChain leaf.page (records_of leaf.page))
    → ◌≡◌ {A = Result (Option ℕ) Halt} (Err (Broken found)) (Err (Broken fault)) → BreaksOff leaf fault
breaks_chain leaf found fault e n h =
    let q : found ≡ fault = cc in
    record {
      page = ap (λ (f : Fault). f.page) (sym q ∙ e);
      cause = inl (ap (λ (f : Fault). f.rule) (sym q ∙ e), n);
    }

-- a leaf whose next field misleads
pub breaks_astray : (leaf : Leaf) (fault : Fault) → LeadsAstray leaf fault → BreaksOff leaf fault
breaks_astray leaf fault a =
    record {
      page = ap (λ (f : Fault). f.page) a.fault_is;
      cause = inr (ap (λ (f : Fault). f.rule) a.fault_is, a.cause);
    }

-- no row is found if no leaf is
pub no_leaf : (index : Index) (i j : ℕ) (halt : Halt) (old new : Leaf) → FindsLeaf index i (Err halt) old
    → FindsRow index j (Err halt) new
no_leaf index i j (Broken fault) old new f = f
no_leaf index i j Source old new f = tt
