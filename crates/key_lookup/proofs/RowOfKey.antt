-- The row that is found is the one with the key.
use Rattle.std.proofs.Common.{◌≡◌, ◌↔◌, ◌==◌, true, Some, List, [], ◌∷◌}
use Rattle.std.proofs.Common.{get_or, Contains, filter, refl, sym, ap, ◌∙◌, subst, inl, inr, arith}
use Rattle.std.specs.List.{AllPairs, slice_get}
use Rattle.std.specs.declared.cmp.Ordering.{Ordering}
use Rattle.std.specs.declared.cmp.Ordering.TheVariants.{Less, Equal, Greater}
use Rattle.std.specs.Ordering.{is_eq}
use Rattle.std.proofs.lemmas.Bool.{false≢true, cases_lt}
use Rattle.std.proofs.lemmas.List.{get_or_default}
use Rattle.column_values.specs.Order.{Key, key_cmp, IsBelow, AreEqualKeys}
use Rattle.column_values.proofs.KeyOrder.{agrees, symmetric, is_strict}
use Rattle.compact_record.specs.Reading.{key_kinds}
use Rattle.index_page.specs.Laws.{KeysRiseThroughout}
use Rattle.page_source.proofs.Members.{contains_none, contains_here, contains_filter, filter_contains}
use Rattle.tree_walk.specs.Index.{Index, Row, rows_on, leaf_rows, root_level, is_live_row}
use Rattle.tree_walk.specs.Descent.{rows_below, tree_rows, IsTreeByDescent}
use Rattle.tree_walk.specs.Laws.{row_key}
use Rattle.tree_walk.proofs.Descents.{rows_law}
use Rattle.table_check.specs.Values.{live_rows}
use Rattle.key_lookup.specs.Path.{way, leaf_for}
use Rattle.key_lookup.specs.Record.{has_key, records_with, row_on, found_row}
use Rattle.key_lookup.specs.Laws.{IsRowWith}
use Rattle.key_lookup.proofs.Between.{HasOneKind, leaf_rises}
use Rattle.key_lookup.proofs.Ways.{tree_at, rows_in, rows_on_way}

-- of rows with rising keys two with equal keys are one
one_row : (index : Index) (rows : List Row) (a b : Row)
    → AllPairs (λ p q. IsBelow (key_kinds index.leaf) (row_key index p) (row_key index q)) rows → Contains rows a
    → Contains rows b → AreEqualKeys (key_kinds index.leaf) (row_key index a) (row_key index b) → a ≡ b
one_row index rows a b pairs at_a at_b equal =
    let kinds = key_kinds index.leaf in
    let same_b : get_or rows at_b.0 a ≡ b = get_or_default rows at_b.0 a b at_b.1 ∙ at_b.2 in
    elim (cases_lt at_a.0 at_b.0) [
      | inl less ↦
          let below : IsBelow kinds (row_key index a) (row_key index b) =
          rw same_b at (rw at_a.2 at (pairs at_a.0 at_b.0 a less at_b.1)) in
          absurd (is_strict kinds (row_key index b)
          ((agrees kinds).after (row_key index a) (row_key index b) (row_key index b) equal below))
      | inr rest ↦ elim (cases_lt at_b.0 at_a.0) [
        | inl less ↦
            let below : IsBelow kinds (row_key index b) (row_key index a) =
            rw same_b at (rw at_a.2 at (pairs at_b.0 at_a.0 a less at_a.1)) in
            absurd (is_strict kinds (row_key index a)
            ((agrees kinds).after (row_key index b) (row_key index a) (row_key index a)
            (symmetric kinds (row_key index a) (row_key index b) equal) below))
        | inr more ↦
            let e : at_a.0 ≡ at_b.0 = omega arith in
            sym at_a.2 ∙ ap (λ k. get_or rows k a) e ∙ same_b
      ]
    ]

is_equal : (o : Ordering) → is_eq o ≡ true → o ≡ Equal
is_equal Less e = absurd (false≢true e)
is_equal Equal e = refl
is_equal Greater e = absurd (false≢true e)

first_of : {X : Type 0} (xs : List X) (x : X) → slice_get xs 0 ≡ Some x → Contains xs x
first_of [] x e = cc
first_of (y ∷ ys) x e = let same : y ≡ x = cc in subst (λ z. Contains (y ∷ ys) z) same (contains_here y ys)

-- a list of members that are all the same begins with this one
first_is : {X : Type 0} (xs : List X) (x : X) → Contains xs x → ((y : X) → Contains xs y → y ≡ x)
    → slice_get xs 0 ≡ Some x
first_is [] x c h = absurd (contains_none x c)
first_is (y ∷ ys) x c h = ap Some (h y (contains_here y ys))

module _ (law : KeysRiseThroughout) (index : Index) (one : HasOneKind index) (tree : IsTreeByDescent index) (key : Key)
  where
    -- what stands on the leaf with the key
    on_leaf : (row : Row) → Contains (filter (is_live_row index) (records_with index key (leaf_for index key))) row
        → Contains (rows_on index (leaf_for index key)) row × (has_key index key row ≡ true)
        × (is_live_row index row ≡ true)
    unfolding records_with
    on_leaf row c =
        let live = filter_contains (is_live_row index) (records_with index key (leaf_for index key)) row c in
        let found = filter_contains (has_key index key) (rows_on index (leaf_for index key)) row live.0 in
        (found.0, found.1, live.1)

    -- the row that is found is a row of the table with the key
    is_row_with : (row : Row) → Contains (filter (is_live_row index) (records_with index key (leaf_for index key))) row
        → IsRowWith index key row
    unfolding live_rows rows_below
    is_row_with row c =
        let on = on_leaf row c in
        let there : Contains (leaf_rows index) row =
        rw rows_law (rows_in law index one tree key row (root_level index) 0 (omega arith) on.0) in
        record {
          live = contains_filter (is_live_row index) (leaf_rows index) row there on.2;
          equal = is_equal (key_cmp (key_kinds index.leaf) (row_key index row) key) on.1;
        }

    -- a row of the table with the key is on the leaf
    stands_there : (row : Row) → IsRowWith index key row
        → Contains (filter (is_live_row index) (records_with index key (leaf_for index key))) row
    unfolding live_rows records_with rows_below
    stands_there row r =
        let live = filter_contains (is_live_row index) (leaf_rows index) row r.live in
        let there : Contains (tree_rows index) row = rw rows_law at live.0 in
        contains_filter (is_live_row index) (records_with index key (leaf_for index key)) row
        (contains_filter (has_key index key) (rows_on index (leaf_for index key)) row
        (rows_on_way law index one tree key row r.equal there (root_level index) 0 (omega arith))
        (ap is_eq r.equal)) live.1

    the_only : (row other : Row) → IsRowWith index key row
        → Contains (filter (is_live_row index) (records_with index key (leaf_for index key))) other → other ≡ row
    the_only row other r c =
        let kinds = key_kinds index.leaf in
        let b = way index key (root_level index) in
        let at = tree_at law index one tree key (root_level index) 0 (omega arith) in
        let equal : AreEqualKeys kinds (row_key index other) (row_key index row) =
        (agrees kinds).equal (row_key index other) key (row_key index row) (is_row_with other c).equal
        (symmetric kinds (row_key index row) key r.equal) in
        one_row index (rows_on index b.page) other row (leaf_rises law index one (root_level index == 0) b at.0)
        (on_leaf other c).0 (on_leaf row (stands_there row r)).0 equal

    -- a row of the table with the key is the row that is found
    pub finds_row : (row : Row) → (found_row index key ≡ Some row) ↔ IsRowWith index key row
    unfolding row_on
    finds_row row = (
      λ e. is_row_with row (first_of (filter (is_live_row index) (records_with index key (leaf_for index key))) row e),
      λ r. first_is (filter (is_live_row index) (records_with index key (leaf_for index key))) row (stands_there row r)
          (λ other c. the_only row other r c),
    )
