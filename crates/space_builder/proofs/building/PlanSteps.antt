-- How many pages the trees and the segments have, step by step.
use Rattle.std.proofs.Common.{◌≡◌, ◌==◌, ℕ, ◌+◌, ◌-◌, ◌*◌, ◌^◌, ◌<◌, ◌≤◌, min, Bool, true, false, cond, List}
use Rattle.std.proofs.Common.{[], ◌∷◌, ◌++◌, length, map, drop, get_or, slice_index, refl, sym, ap, ◌∙◌, subst}
use Rattle.std.proofs.Common.{arith}
use Rattle.std.proofs.Common.{inl, inr, length-append, length-drop, append_assoc, All, Err}
use Rattle.std.specs.Prelude.{sum}
use Rattle.std.proofs.Math.Seq.{get_or-append_seam}
use Rattle.std.proofs.lemmas.Grind.{get_or_after_one}
use Rattle.std.specs.List.{range_with_len, sum_by, flat_map}
use Rattle.std.proofs.lemmas.Bool.{cases_lt, ne_eqb}
use Rattle.std.proofs.lemmas.Bool.Decides.{eqb_tells}
use Rattle.std.proofs.lemmas.List.{take_all, get_or_append_left}
use Rattle.std.proofs.lemmas.List.Concat.{flat_map-append}
use Rattle.std.proofs.lemmas.List.FromFn.{map-range_with_len_more}
use Rattle.std.proofs.lemmas.List.Sums.{sum_by-cons, sum-map, get_or-le-sum_by, sum_by-le, sum_by-take-drop}
use Rattle.column_values.specs.Types.{Fields}
use Rattle.schema_text.specs.declared.table.Format.{Format}
use Rattle.schema_text.specs.TableDef.{TableDef}
use Rattle.schema_text.specs.IndexFields.{leaf_fields, node_fields, entry_fields}
use Rattle.space_layout.specs.Numbers.{size_at, sizes_of, extents_needed}
use Rattle.space_layout.specs.ValuePlaces.{pages_before_row}
use Rattle.tree_layout.specs.Entries.{Entry}
use Rattle.tree_layout.specs.Division.{tree_levels, level_counts, CanDivide}
use Rattle.tree_layout.specs.Levels.{top_of}
use Rattle.tree_layout.specs.Places.{pages_above, top_size, leaf_size}
use Rattle.tree_layout.proofs.Held.{length-counts, count_at}
use Rattle.row_layout.specs.StoredRow.{Stored}
use Rattle.row_layout.specs.HoldsValues.{clustered_entries, pages_of_stored}
use Rattle.space_builder.specs.declared.plan.IndexPages.{IndexPages}
use Rattle.space_builder.specs.declared.plan.SpacePlan.{SpacePlan}
use Rattle.space_builder.specs.declared.plan.PlanStop.{PlanStop}
use Rattle.space_builder.specs.declared.plan.PlanStop.TheVariants as stops
use Rattle.row_store.specs.StoredRows.{Rows, stored_rows}
use Rattle.space_builder.specs.layout.Layout.{entries_with, tree_counts, value_counts, value_total}
use Rattle.space_builder.specs.layout.Layout.{index_sizes, segment_sizes, layout_extents}
use Rattle.space_builder.specs.layout.LowerLaws.{LowerLaws}
use Rattle.space_builder.specs.calls.Picked.{first_page_in, picked_entries}
use Rattle.space_builder.specs.calls.Order.{IsIndexOrder}
use Rattle.space_builder.specs.calls.StoredRows.{AreStoredRows, PicksEntries}
use Rattle.space_builder.specs.calls.Plan.{HaveRows, OfStored, stored_total, HasTreeCounts, HasWideLevel, IsFull}
use Rattle.space_builder.specs.calls.Plan.{HasValuePages, ArePagesOf, IsPlanOf, FindsPages}
use Rattle.space_builder.proofs.layout.FittedRows.{fitted_if}
use Rattle.space_builder.proofs.layout.Sizes.{size_small, top_is, leaf_is}

-- these are the leaf entries of index j, whose values have no pages yet
abbrev pub AreLeaves : TableDef → List (List Stored) → ℕ → List Entry → Type 0
AreLeaves table stored j entries = OfStored table stored (λ rows. entries ≡ entries_with table rows (λ r i k. 0) j)

pub clustered_leaves : (table : TableDef) (stored : List (List Stored))
    → AreLeaves table stored 0 (clustered_entries table.format (first_page_in [] []) stored)
clustered_leaves table stored rows are = ap (clustered_entries table.format (λ r i k. 0)) are.same

pub picked_leaves : PicksEntries → (table : TableDef) (stored : List (List Stored)) (j : ℕ) (order : List ℕ) → 0 < j
    → j < length table.indexes → IsIndexOrder table stored j order
    → AreLeaves table stored j (picked_entries (entry_fields table j) stored order)
picked_leaves picks table stored j order second inside is rows are =
    let other : (j == 0) ≡ false = ne_eqb j 0 (λ e. omega arith) in
    rw other (picks table rows stored j order are second inside is)

module _ (laws : LowerLaws) (table : TableDef) (stored : List (List Stored)) (j : ℕ) (inside : j < length table.indexes)
    (entries : List Entry) (leaves : AreLeaves table stored j entries) where
  pub divides : HaveRows table stored → CanDivide (leaf_fields table j) (node_fields table j) entries
  divides has =
      let rows = has.0 in
      let are = has.1 in
      subst (CanDivide (leaf_fields table j) (node_fields table j)) (sym (leaves rows are))
      (laws.row.divide table rows (stored_rows table rows) (λ r i k. 0) j are.is_table
      (fitted_if table rows are.good.are_rows are.good.fitted) are.good.few are.good.rise inside)

  pub counted : HaveRows table stored → (counts : List ℕ)
      → counts ≡ level_counts (tree_levels (leaf_fields table j) (node_fields table j) (λ l k. 0) entries)
      → HasTreeCounts table stored j counts
  unfolding tree_counts
  counted has counts is =
      let levels = tree_levels (leaf_fields table j) (node_fields table j) (λ l k. 0) entries in
      let tree = laws.tree.levels (leaf_fields table j) (node_fields table j) (λ l k. 0) entries (divides has) in
      let few = tree.few in
      let some = tree.are_levels.some in
      let size : length counts ≡ length levels = ap length is ∙ length-counts levels in
      let top : length counts - 1 ≡ top_of levels = ap (λ (n : ℕ). n - 1) size in
      record {
        same = λ rows are.
            is ∙ ap (λ (es : List Entry). level_counts (tree_levels (leaf_fields table j) (node_fields table j)
            (λ l k. 0) es)) (leaves rows are);
        some = omega arith;
        few = omega arith;
        single =
            ap (slice_index counts) top ∙ ap (λ (list : List ℕ). slice_index list (top_of levels)) is
            ∙ count_at levels (top_of levels) (omega arith) ∙ tree.are_levels.single;
      }

-- the same of the given fields and entries of an index
pub clustered_given : (table : TableDef) (stored : List (List Stored)) (j : ℕ) (format : Format) → j ≡ 0
    → format ≡ table.format → AreLeaves table stored j (clustered_entries format (first_page_in [] []) stored)
clustered_given table stored j format first same rows are =
    ap (λ (f : Format). clustered_entries f (first_page_in [] []) stored) same ∙ clustered_leaves table stored rows are
    ∙ ap (entries_with table rows (λ r i k. 0)) (sym first)

pub picked_given : PicksEntries → (table : TableDef) (stored : List (List Stored)) (j : ℕ) (order fields : List ℕ)
    → (j ≡ 0 → ⊥) → j < length table.indexes → (0 < j → IsIndexOrder table stored j order)
    → fields ≡ entry_fields table j → AreLeaves table stored j (picked_entries fields stored order)
picked_given picks table stored j order fields second inside is same rows are =
    ap (λ (f : List ℕ). picked_entries f stored order) same
    ∙ picked_leaves picks table stored j order (omega (arith, second)) inside (is (omega (arith, second))) rows are

module _ (laws : LowerLaws) (table : TableDef) (stored : List (List Stored)) (j : ℕ) (inside : j < length table.indexes)
    (leaf node : Fields) (leaf_is : leaf ≡ leaf_fields table j) (node_is : node ≡ node_fields table j)
    (entries : List Entry) (leaves : AreLeaves table stored j entries) (has : HaveRows table stored) where
  pub given_divides : CanDivide leaf node entries
  given_divides =
      subst (λ (f : Fields). CanDivide f node entries) (sym leaf_is)
      (subst (λ (f : Fields). CanDivide (leaf_fields table j) f entries) (sym node_is)
      (divides laws table stored j inside entries leaves has))

  pub given_counted : (counts : List ℕ) → counts ≡ level_counts (tree_levels leaf node (λ l k. 0) entries)
      → HasTreeCounts table stored j counts
  given_counted counts is =
      counted laws table stored j inside entries leaves has counts
      (is ∙ ap (λ (f : Fields). level_counts (tree_levels f node (λ l k. 0) entries)) leaf_is
      ∙ ap (λ (f : Fields). level_counts (tree_levels (leaf_fields table j) f (λ l k. 0) entries)) node_is)

-- the rows are only too many where there is memory
pub full_or_memory : (table : TableDef) (stored : List (List Stored)) (j : ℕ) (stop : PlanStop)
    → (stop ≡ stops.Full → OfStored table stored (IsFull table)) → FindsPages table stored j (Err stop)
full_or_memory table stored j stops.Full full = full refl
full_or_memory table stored j stops.Memory full = tt

-- how many pages the values of rows go on in
totals : (f : Stored → ℕ) (rows : List (List Stored))
    → sum_by sum (map (λ (row : List Stored). map f row) rows) ≡ sum_by (λ (row : List Stored). sum_by f row) rows
totals f [] = refl
totals f (row ∷ rows) =
    sum_by-cons sum (map f row) (map (λ (row : List Stored). map f row) rows)
    ∙ ap (λ (n : ℕ). n + sum_by sum (map (λ (row : List Stored). map f row) rows)) (sum-map f row)
    ∙ ap (λ (n : ℕ). sum_by f row + n) (totals f rows)
    ∙ sym (sum_by-cons (λ (row : List Stored). sum_by f row) row rows)

pub total_is : (table : TableDef) (rows : Rows)
    → value_total table rows ≡ stored_total table.format (stored_rows table rows)
unfolding value_counts pages_before_row
total_is table rows =
    let counts = map (λ (row : List Stored). map (pages_of_stored table.format) row) (stored_rows table rows) in
    ap (sum_by sum) (take_all (length counts) counts (omega arith))
    ∙ totals (pages_of_stored table.format) (stored_rows table rows)

-- a segment that is too large
module _ (laws : LowerLaws) (table : TableDef) (rows : Rows) (j : ℕ) (inside : j < length table.indexes) where
  abbrev counts : List ℕ
  counts = tree_counts table rows j

  large : (s : ℕ) → 16416 < size_at (segment_sizes table rows) s → IsFull table rows
  large s wide = elim (cases_lt 256 (layout_extents table rows)) [
    | inl full ↦ full
    | inr fits ↦ absurd (omega (arith, wide, size_small (segment_sizes table rows) s fits))
  ]

  pub large_top : 16416 < top_size (tree_counts table rows j) → IsFull table rows
  large_top wide = large (2 * j) (omega (arith, wide, top_is laws table rows j inside))

  pub large_leaf : 16416 < (index_sizes table rows j).1 → IsFull table rows
  large_leaf wide = large (2 * j + 1) (omega (arith, wide, leaf_is laws table rows j inside))

  -- a level that is too large
  pub large_level : 0 < length (tree_counts table rows j)
      → slice_index (tree_counts table rows j) (length (tree_counts table rows j) - 1) ≡ 1
      → HasWideLevel (tree_counts table rows j) → IsFull table rows
  unfolding pages_above
  large_level some single level =
      let l = level.level in
      let within = level.within in
      let wide = level.wide in
      elim (eqb_tells (length counts) 1) [
        | inl one ↦
            let is : l ≡ length counts - 1 = omega (arith, one.1, within) in
            let same = ap (slice_index counts) is in
            absurd (omega (arith, wide, same, single))
        | inr many ↦ elim (eqb_tells l 0) [
          | inl low ↦
              let same = ap (slice_index counts) low.1 in
              let leaf = ap (λ (b : Bool). cond b 0 (slice_index counts 0)) many.0 in
              large_leaf (omega (arith, wide, same, leaf))
          | inr high ↦
              let above : 1 + (l - 1) ≡ l = omega (arith, high.1) in
              let at = get_or_after_one counts (l - 1) 0 ∙ ap (slice_index counts) above in
              let part = get_or-le-sum_by (λ (n : ℕ). n) (drop 1 counts) (l - 1) 0 (omega (
                arith,
                length-drop 1 counts,
                within,
                above,
              )) in
              let top = ap (λ (b : Bool). cond b 1 (pages_above counts 0)) many.0 in
              large_top (omega (arith, wide, at, part, top))
        ]
      ]

-- few levels of few pages
pub small_above : (levels : List ℕ) → length levels ≤ 51 → All (λ n. n ≤ 16416) levels
    → pages_above levels 0 < 4294967296
unfolding pages_above
small_above levels few small =
    let all = sum_by-le (λ (n : ℕ). n) 16416 levels small in
    let part = sum_by-take-drop (λ (n : ℕ). n) levels 1 in
    omega arith

-- the leaves and the values that share their segment
pub leaf_exact : (b : Bool) (size total values leaf : ℕ) → values ≡ cond b (min total (2 ^ 64 - 1)) 0
    → leaf ≡ min (size + values) (2 ^ 64 - 1) → leaf ≤ 16416 → leaf ≡ size + cond b total 0
leaf_exact true size total values leaf shared is few = omega arith
leaf_exact false size total values leaf shared is few = omega arith

pub leaf_large : (b : Bool) (size total values leaf : ℕ) → values ≡ cond b (min total (2 ^ 64 - 1)) 0
    → leaf ≡ min (size + values) (2 ^ 64 - 1) → 16416 < leaf → 16416 < size + cond b total 0
leaf_large true size total values leaf shared is wide = omega arith
leaf_large false size total values leaf shared is wide = omega arith

-- how many pages an index has
module _ (laws : LowerLaws) (table : TableDef) (stored : List (List Stored)) (j values : ℕ)
    (inside : j < length table.indexes) (shared : HasValuePages table stored j values) (levels : List ℕ)
    (have : HasTreeCounts table stored j levels) where
  total_of : (rows : Rows) → AreStoredRows table rows stored
      → stored_total table.format stored ≡ value_total table rows
  total_of rows are = ap (stored_total table.format) are.same ∙ sym (total_is table rows)

  leaf_of : (rows : Rows) → AreStoredRows table rows stored
      → leaf_size levels + cond (j == 0) (stored_total table.format stored) 0 ≡ (index_sizes table rows j).1
  leaf_of rows are =
      ap (λ (n : ℕ). leaf_size levels + cond (j == 0) n 0) (total_of rows are)
      ∙ ap (λ (list : List ℕ). leaf_size list + cond (j == 0) (value_total table rows) 0) (have.same rows are)

  pub pages_found : (pages : IndexPages) → pages.levels.items ≡ levels → pages.top ≡ top_size levels
      → pages.leaf ≡ min (leaf_size levels + values) (2 ^ 64 - 1) → pages.leaf ≤ 16416
      → OfStored table stored (λ rows. ArePagesOf table rows j pages)
  pages_found pages same top leaf few rows are = record {
    levels = same ∙ have.same rows are;
    top = top ∙ ap (λ (list : List ℕ). top_size list) (have.same rows are);
    leaf =
        leaf_exact (j == 0) (leaf_size levels) (stored_total table.format stored) values pages.leaf shared leaf few
        ∙ leaf_of rows are;
  }

  pub wide_level : HasWideLevel levels → OfStored table stored (IsFull table)
  wide_level wide rows are =
      let same = have.same rows are in
      large_level laws table rows j inside (subst (λ (list : List ℕ). 0 < length list) same have.some)
      (subst (λ (list : List ℕ). slice_index list (length list - 1) ≡ 1) same have.single)
      (subst HasWideLevel same wide)

  pub wide_top : 16416 < top_size levels → OfStored table stored (IsFull table)
  wide_top wide rows are =
      large_top laws table rows j inside
      (subst (λ (list : List ℕ). 16416 < top_size list) (have.same rows are) wide)

  pub wide_leaf : (leaf : ℕ) → leaf ≡ min (leaf_size levels + values) (2 ^ 64 - 1) → 16416 < leaf
      → OfStored table stored (IsFull table)
  wide_leaf leaf is wide rows are =
      large_leaf laws table rows j inside
      (subst (λ (n : ℕ). 16416 < n) (leaf_of rows are)
      (leaf_large (j == 0) (leaf_size levels) (stored_total table.format stored) values leaf shared is wide))

-- the indexes so far
pub record ArePlanned (table : TableDef) (stored : List (List Stored)) (j : ℕ) (indexes : List IndexPages)
    (sizes : List ℕ) : Type 0 where
  pub count : length indexes ≡ j
  pub size : length sizes ≡ 2 * j
  pub each : OfStored table stored (λ rows. (i : ℕ) (d : IndexPages) → i < length indexes
      → ArePagesOf table rows i (get_or indexes i d))
  pub same : OfStored table stored
      (λ rows. sizes ≡ sizes_of (map (index_sizes table rows) (range_with_len 0 j)))

pub none_planned : (table : TableDef) (stored : List (List Stored)) → ArePlanned table stored 0 [] []
unfolding sizes_of
none_planned table stored = record {
  count = refl;
  size = refl;
  each = λ rows are i d within. absurd (omega (arith, within));
  same = λ rows are. refl;
}

pub one_planned : (table : TableDef) (stored : List (List Stored)) (j : ℕ) (indexes : List IndexPages)
    (sizes : List ℕ) (pages : IndexPages) → ArePlanned table stored j indexes sizes
    → OfStored table stored (λ rows. ArePagesOf table rows j pages)
    → ArePlanned table stored (j + 1) (indexes ++ pages ∷ []) ((sizes ++ pages.top ∷ []) ++ pages.leaf ∷ [])
unfolding sizes_of
one_planned table stored j indexes sizes pages before here =
    let count = before.count in
    let size = before.size in
    let pair : List ℕ = pages.top ∷ pages.leaf ∷ [] in
    let join : (sizes ++ pages.top ∷ []) ++ pages.leaf ∷ [] ≡ sizes ++ pair =
    append_assoc sizes (pages.top ∷ []) (pages.leaf ∷ []) in
    record {
      count = length-append indexes (pages ∷ []) ∙ omega arith;
      size = ap length join ∙ length-append sizes pair ∙ omega arith;
      each = λ rows are i d within. elim (cases_lt i (length indexes)) [
        | inl left ↦
            subst (ArePagesOf table rows i) (sym (get_or_append_left indexes (pages ∷ []) d i left))
            (before.each rows are i d left)
        | inr right ↦
            let last : i ≡ length indexes = omega (arith, within, length-append indexes (pages ∷ [])) in
            let is : i ≡ j = last ∙ count in
            let there : get_or (indexes ++ pages ∷ []) i d ≡ pages =
            ap (λ (n : ℕ). get_or (indexes ++ pages ∷ []) n d) last ∙ get_or-append_seam indexes pages [] d in
            subst (ArePagesOf table rows i) (sym there)
            (subst (λ (n : ℕ). ArePagesOf table rows n pages) (sym is) (here rows are))
      ];
      same = λ rows are.
          let page = here rows are in
          let sizes_at : ℕ × ℕ → List ℕ = λ p. p.0 ∷ p.1 ∷ [] in
          join ∙ ap (λ (list : List ℕ). list ++ pair) (before.same rows are)
          ∙ ap (λ (n : ℕ). flat_map sizes_at (map (index_sizes table rows) (range_with_len 0 j)) ++ n ∷ pages.leaf ∷ [])
          page.top
          ∙ ap (λ (n : ℕ). flat_map sizes_at (map (index_sizes table rows) (range_with_len 0 j))
          ++ (index_sizes table rows j).0 ∷ n ∷ []) page.leaf
          ∙ sym (ap (flat_map sizes_at) (map-range_with_len_more (index_sizes table rows) 0 j j (omega arith))
          ∙ flat_map-append sizes_at (map (index_sizes table rows) (range_with_len 0 j))
          (index_sizes table rows j ∷ []));
    }

-- all of them
pub all_planned : (table : TableDef) (stored : List (List Stored)) (j : ℕ) (plan : SpacePlan)
    → j ≡ length table.indexes → ArePlanned table stored j plan.indexes.items plan.sizes.items
    → extents_needed plan.sizes.items ≤ 256 → OfStored table stored (λ rows. IsPlanOf table rows plan)
unfolding segment_sizes
all_planned table stored j plan all are fits rows stand =
    let sizes = are.same rows stand
    ∙ ap (λ (n : ℕ). sizes_of (map (index_sizes table rows) (range_with_len 0 n))) all in
    record {
      count = are.count ∙ all;
      each = λ i d within. are.each rows stand i d (omega (arith, within, are.count, all));
      sizes = sizes;
      fits = subst (λ (list : List ℕ). extents_needed list ≤ 256) sizes fits;
    }

pub too_many : (table : TableDef) (stored : List (List Stored)) (j : ℕ) (indexes : List IndexPages) (sizes : List ℕ)
    → j ≡ length table.indexes → ArePlanned table stored j indexes sizes → 256 < extents_needed sizes
    → OfStored table stored (IsFull table)
unfolding segment_sizes
too_many table stored j indexes sizes all are wide rows stand =
    subst (λ (list : List ℕ). 256 < extents_needed list)
    (are.same rows stand ∙ ap (λ (n : ℕ). sizes_of (map (index_sizes table rows) (range_with_len 0 n))) all) wide
