-- In a sound file the entries of an index rise.
use Rattle.std.proofs.Common.{ℕ, ◌<◌, List, [], ◌∷◌}
use Rattle.std.proofs.Common.{get_or, map, All}
use Rattle.std.proofs.Common.{arith}
use Rattle.std.specs.List.{AllPairs}
use Rattle.std.proofs.lemmas.List.{get_or-map}
use Rattle.std.proofs.lemmas.List.{length-map}
use Rattle.std.proofs.lemmas.List.Elements.{All-cons}
use Rattle.std.proofs.lemmas.List.Kept.{AllPairs-cons}
use Rattle.column_values.specs.Order.{IsBelow}
use Rattle.column_values.proofs.KeyOrder.{is_transitive}
use Rattle.compact_record.specs.Reading.{key_kinds}
use Rattle.schema_text.specs.TableDef.{TableDef}
use Rattle.tree_walk.specs.Index.{Index, Row, no_row}
use Rattle.tree_walk.specs.Laws.{row_key, Rises}
use Rattle.table_check.specs.Trees.{index_in, index_count}
use Rattle.table_check.specs.Valid.{IsValid}
use Rattle.table_check.specs.Laws.{LiveRowsRise}
use Rattle.cross_index.specs.Entries.{entries_in, entry_kinds, entry_keys}
use Rattle.cross_index.specs.Sides.{Rise}

-- each key is below all later ones
abbrev pub KeyBelow : Index → Row → Row → Type 0
KeyBelow index p q = IsBelow (key_kinds index.leaf) (row_key index p) (row_key index q)

below_all : (index : Index) (x : Row) (rest : List Row) → Rises index (x ∷ rest) → All (KeyBelow index x) rest
below_all index x [] rises = λ k d within. absurd (omega (arith, within))
below_all index x (y ∷ rest) rises =
    All-cons (KeyBelow index x) y rest rises.0
    (λ k d within.
    is_transitive (key_kinds index.leaf) (row_key index x) (row_key index y) (row_key index (get_or rest k d)) rises.0
    (below_all index y rest rises.1 k d within))

pub rises_pairs : (index : Index) (rows : List Row) → Rises index rows → AllPairs (KeyBelow index) rows
rises_pairs index [] rises = λ i j d less within. absurd (omega (arith, within))
rises_pairs index (x ∷ []) rises = λ i j d less within. absurd (omega (arith, less, within))
rises_pairs index (x ∷ y ∷ rest) rises =
    AllPairs-cons (KeyBelow index) x (y ∷ rest) (below_all index x (y ∷ rest) rises)
    (rises_pairs index (y ∷ rest) rises.1)

-- the keys of a list of rows rise where each is below all later ones
map_rises : (index : Index) (rows : List Row) → AllPairs (KeyBelow index) rows
    → Rise (key_kinds index.leaf) (map (row_key index) rows)
map_rises index rows pairs p q d less within =
    let size = length-map rows (row_key index) in
    rw (
      get_or-map (row_key index) rows p no_row d (omega (arith, less, within, size)),
      get_or-map (row_key index) rows q no_row d (omega (arith, within, size)),
    )
    (pairs p q no_row less (omega (arith, within, size)))

-- the entries of an index rise
pub entries_rise : LiveRowsRise → (file : List ℕ) (table : TableDef) (i : ℕ) → IsValid file table
    → i < index_count table
    → Rise (entry_kinds table i) (entry_keys file table i)
unfolding entry_keys index_in
entries_rise law file table i valid below =
    map_rises (index_in file table i) (entries_in file table i)
    (rises_pairs (index_in file table i) (entries_in file table i) (law file table valid i below))
