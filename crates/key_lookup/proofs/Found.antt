-- The search for a row with a key, record by record.
use Rattle.std.proofs.Common.{◌≡◌, ℕ, zero, suc, ◌+◌, ◌==◌, ◌<◌, ◌≤◌, Bool, true, false, not, ◌&&◌, List, [], ◌∷◌}
use Rattle.std.proofs.Common.{length}
use Rattle.std.proofs.Common.{get_or, filter, Option, Some, None, refl, sym, ap, ◌∙◌, subst, inl, inr, arith}
use Rattle.std.specs.List.{slice_get}
use Rattle.std.proofs.lemmas.Bool.{false≢true, cases_lt}
use Rattle.std.proofs.lemmas.List.{length-map, get_or-map}
use Rattle.std.specs.declared.cmp.Ordering.{Ordering}
use Rattle.std.specs.declared.cmp.Ordering.TheVariants.{Less, Equal, Greater}
use Rattle.std.specs.Ordering.{is_eq, ordering_index}
use Rattle.column_values.specs.Types.{Fields}
use Rattle.column_values.specs.Order.{Key, key_cmp}
use Rattle.compact_record.specs.Header.{is_deleted}
use Rattle.compact_record.specs.Reading.{key_of, key_kinds}
use Rattle.index_page.specs.Header.{records_of, record_count}
use Rattle.tree_walk.specs.Index.{Index, Row, page_in, rows_on, is_live_row, is_deleted_row, no_row}
use Rattle.tree_walk.specs.Laws.{row_key}
use Rattle.tree_walk.proofs.Records.{length-records}
use Rattle.key_lookup.specs.Record.{has_key, records_with, row_on}
use Rattle.key_lookup.specs.Leaf.{row_at_origin, is_sought}

-- none of the first records of a page is
abbrev pub NoneBefore : Index → Key → ℕ → ℕ → Type 0
NoneBefore index key n i = (j : ℕ) → j < i → j < record_count (page_in index n)
    → is_sought index key (record { page = n; origin = get_or (records_of (page_in index n)) j 0 }) ≡ false

-- the first member that passes two tests, and what is behind it
skips : (index : Index) (key : Key) (row : Row) (rows : List Row) (found : Option Row) (a b : Bool)
    → has_key index key row ≡ a → is_live_row index row ≡ b → (a && b) ≡ false
    → slice_get (filter (is_live_row index) (filter (has_key index key) rows)) 0 ≡ found
    → slice_get (filter (is_live_row index) (filter (has_key index key) (row ∷ rows))) 0 ≡ found
skips index key row rows found true true x y e rest = absurd (false≢true (sym e))
skips index key row rows found true false x y e rest = rw (x, y) rest
skips index key row rows found false b x y e rest = rw x rest

takes : (index : Index) (key : Key) (row : Row) (rows : List Row) (a b : Bool)
    → has_key index key row ≡ a → is_live_row index row ≡ b → (a && b) ≡ true
    → slice_get (filter (is_live_row index) (filter (has_key index key) (row ∷ rows))) 0 ≡ Some row
takes index key row rows true true x y e = rw (x, y) refl
takes index key row rows true false x y e = absurd (false≢true e)
takes index key row rows false b x y e = absurd (false≢true e)

first_sought : (index : Index) (key : Key) (rows : List Row) (k : ℕ) (d : Row)
    → ((j : ℕ) → j < k → is_sought index key (get_or rows j d) ≡ false) → k < length rows
    → is_sought index key (get_or rows k d) ≡ true
    → slice_get (filter (is_live_row index) (filter (has_key index key) rows)) 0 ≡ Some (get_or rows k d)
first_sought index key [] k d none within is = absurd (omega arith)
first_sought index key (row ∷ rows) zero d none within is =
    takes index key row rows (has_key index key row) (is_live_row index row) refl refl is
first_sought index key (row ∷ rows) (suc k) d none within is =
    skips index key row rows (Some (get_or rows k d)) (has_key index key row) (is_live_row index row) refl refl
    (none 0 (omega arith))
    (first_sought index key rows k d (λ j less. none (suc j) (omega arith)) (omega arith) is)

none_sought : (index : Index) (key : Key) (rows : List Row) (d : Row)
    → ((j : ℕ) → j < length rows → is_sought index key (get_or rows j d) ≡ false)
    → slice_get (filter (is_live_row index) (filter (has_key index key) rows)) 0 ≡ None
none_sought index key [] d none = refl
none_sought index key (row ∷ rows) d none =
    skips index key row rows None (has_key index key row) (is_live_row index row) refl refl (none 0 (omega arith))
    (none_sought index key rows d (λ j less. none (suc j) (omega arith)))

module _ (index : Index) (key : Key) (n : ℕ) where
  abbrev page : List ℕ
  page = page_in index n

  abbrev row : ℕ → Row
  row k = record { page = n; origin = get_or (records_of page) k 0 }

  row_is : (k : ℕ) → k < record_count page → get_or (rows_on index n) k no_row ≡ row k
  row_is k within =
      let count = length-records page in
      get_or-map (λ origin. record { page = n; origin = origin }) (records_of page) k 0 no_row (omega arith)

  rows_count : length (rows_on index n) ≡ record_count page
  rows_count = length-map (records_of page) (λ origin. record { page = n; origin = origin }) ∙ length-records page

  -- the record at hand is the first that is sought
  pub found_here : (k origin : ℕ) → NoneBefore index key n k → k < record_count page
      → origin ≡ get_or (records_of page) k 0
      → is_sought index key (record { page = n; origin = origin }) ≡ true
      → row_on index key n ≡ Some (record { page = n; origin = origin })
  unfolding row_on records_with
  found_here k origin none within at is =
      let here : is_sought index key (get_or (rows_on index n) k no_row) ≡ true =
      ap (is_sought index key) (row_is k within) ∙ (rw at at is) in
      first_sought index key (rows_on index n) k no_row
      (λ j less. ap (is_sought index key) (row_is j (omega arith)) ∙ none j less (omega arith))
      (omega (arith, rows_count)) here
      ∙ ap Some (row_is k within) ∙ (rw at refl)

  -- or there is none
  pub found_none : (k : ℕ) → record_count page ≤ k → NoneBefore index key n k → row_on index key n ≡ None
  unfolding row_on records_with
  found_none k all none =
      none_sought index key (rows_on index n) no_row
      (λ j less. ap (is_sought index key) (row_is j (omega (arith, rows_count, less)))
      ∙ none j (omega (arith, rows_count, less, all)) (omega (arith, rows_count, less)))

  -- one more record that isn't sought
  pub none_more : (k origin : ℕ) → NoneBefore index key n k → origin ≡ get_or (records_of page) k 0
      → is_sought index key (record { page = n; origin = origin }) ≡ false → NoneBefore index key n (k + 1)
  none_more k origin none at not_it j less within = elim (cases_lt j k) [
    | inl before ↦ none j before within
    | inr here ↦
        let e : k ≡ j = omega arith in
        subst (λ (i : ℕ). is_sought index key (row i) ≡ false) e (rw at at not_it)
  ]

-- what is compared of a record is what is sought
pub sought_by : (index : Index) (key : Key) (n at origin : ℕ) (held : List ℕ) (fields : Fields) (o : Ordering)
    → held ≡ page_in index n → fields ≡ index.leaf → origin ≡ at
    → o ≡ key_cmp (key_kinds fields) (key_of held origin fields) key
    → has_key index key (row_at_origin n at) ≡ is_eq o
unfolding row_key
sought_by index key n at origin held fields o p f e is =
    sym (ap is_eq (is ∙ ap (λ (a : ℕ). key_cmp (key_kinds fields) (key_of held a fields) key) e
    ∙ ap (λ (f : Fields). key_cmp (key_kinds f) (key_of held at f) key) f
    ∙ ap (λ (q : List ℕ). key_cmp (key_kinds index.leaf) (key_of q at index.leaf) key) p))

pub live_by : (index : Index) (n at : ℕ) (held : List ℕ) (deleted : Bool) → held ≡ page_in index n
    → deleted ≡ is_deleted held at → is_live_row index (row_at_origin n at) ≡ not deleted
unfolding is_deleted_row
live_by index n at held deleted p e = ap not (ap (λ (q : List ℕ). is_deleted q at) (sym p) ∙ sym e)

eq_index : (o : Ordering) → is_eq o ≡ (ordering_index o == 1)
eq_index Less = refl
eq_index Equal = refl
eq_index Greater = refl

-- the two tests together, by what each says
pub both_say : (a b e not_deleted : Bool) (o : Ordering) → a ≡ is_eq o → b ≡ not_deleted → e ≡ (ordering_index o == 1)
    → e ≡ true → not_deleted ≡ (a && b)
both_say a b e n o x y z t = rw (x, eq_index o, ← z, t, y) refl

pub none_says : (a b e : Bool) (o : Ordering) → a ≡ is_eq o → e ≡ (ordering_index o == 1) → e ≡ false → e ≡ (a && b)
none_says a b e o x z t = let f : a ≡ false = x ∙ eq_index o ∙ sym z ∙ t in rw (f, t) refl
