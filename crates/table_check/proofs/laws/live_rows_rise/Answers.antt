use Rattle.std.proofs.Common.{Bool, true, false, List, [], ◌∷◌, cond, filter, sym, subst}
use Rattle.column_values.proofs.KeyOrder.{is_transitive}
use Rattle.compact_record.specs.Reading.{key_kinds}
use Rattle.tree_walk.specs.Index.{Index, Row, is_live_row, leaf_rows}
use Rattle.tree_walk.specs.Laws.{row_key, Rises}
use Rattle.table_check.specs.Trees.{index_in}
use Rattle.table_check.specs.Values.{live_rows}
use Rattle.table_check.proofs.laws.live_rows_rise.Goals as goal

-- rows that rise do so behind the first one, and without the second one
behind_first : (index : Index) (x : Row) (rows : List Row) → Rises index (x ∷ rows) → Rises index rows
behind_first index x [] rises = tt
behind_first index x (y ∷ rows) rises = rises.1

without_second : (index : Index) (x y : Row) (rows : List Row) → Rises index (x ∷ y ∷ rows) → Rises index (x ∷ rows)
without_second index x y [] rises = tt
without_second index x y (z ∷ rows) rises = (
  is_transitive (key_kinds index.leaf) (row_key index x) (row_key index y) (row_key index z) rises.0 rises.1.0,
  rises.1.1,
)

-- so do some of them
some_behind : (index : Index) (keep : Row → Bool) (x : Row) (rows : List Row) → Rises index (x ∷ rows)
    → Rises index (x ∷ filter keep rows)
some_behind index keep x [] rises = tt
some_behind index keep x (y ∷ rows) rises =
    elim (keep y) as (λ b. Rises index (x ∷ cond b (y ∷ filter keep rows) (filter keep rows))) [
      | true ↦ (rises.0, some_behind index keep y rows rises.1)
      | false ↦ some_behind index keep x rows (without_second index x y rows rises)
    ]

some_rise : (index : Index) (keep : Row → Bool) (rows : List Row) → Rises index rows → Rises index (filter keep rows)
some_rise index keep [] rises = tt
some_rise index keep (x ∷ rows) rises =
    elim (keep x) as (λ b. Rises index (cond b (x ∷ filter keep rows) (filter keep rows))) [
      | true ↦ some_behind index keep x rows rises
      | false ↦ some_rise index keep rows (behind_first index x rows rises)
    ]

live_rise : (index : Index) → Rises index (leaf_rows index) → Rises index (live_rows index)
unfolding live_rows
live_rise index rises = some_rise index (is_live_row index) (leaf_rows index) rises

pub returns : goal.returns
returns c =
    λ file table valid j below.
    let index = index_in file table j in
    live_rise index (subst (Rises index) (sym (c.rows_by_leaves.ensures index)) (c.rows_rise.ensures file table valid j
    below))
