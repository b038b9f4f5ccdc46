-- In a sound file the look-up finds exactly the row with the key; a look-up has one answer, and one line.
use Rattle.std.specs.Prelude.{◌≡◌, ◌↔◌, ℕ, List, Contains, Option, Some, None}
use Rattle.page_source.specs.declared.rule.Fault.{Fault}
use Rattle.column_values.specs.declared.value.Value.{Value}
use Rattle.column_values.specs.Order.{Key, AreEqualKeys}
use Rattle.compact_record.specs.Reading.{key_kinds}
use Rattle.schema_text.specs.TableDef.{TableDef}
use Rattle.schema_text.specs.Grammar.{IsTable}
use Rattle.tree_walk.specs.Index.{Index, Row}
use Rattle.tree_walk.specs.Descent.{IsTreeByDescent}
use Rattle.tree_walk.specs.Laws.{row_key}
use Rattle.table_check.specs.Trees.{clustered_tree}
use Rattle.table_check.specs.Values.{live_rows}
use Rattle.table_check.specs.Rows.{IsRow}
use Rattle.table_check.specs.Valid.{IsValid}
use Rattle.key_lookup.specs.Record.{found_row, IsFoundRow}
use Rattle.key_lookup.specs.GetFirst.{GetFirst}
use Rattle.key_lookup.specs.KeyOfText.{SpellsKey}
use Rattle.key_lookup.specs.Get.{IsLineFound}

-- a row without the delete mark, whose key is neither less nor greater
pub record IsRowWith (index : Index) (key : Key) (row : Row) : Type 0 where
  pub live : Contains (live_rows index) row
  pub equal : AreEqualKeys (key_kinds index.leaf) (row_key index row) key

-- in a tree by descent the row that is found is the one with the key
abbrev pub FindsRowIn : Type 0
FindsRowIn = (index : Index) (key : Key) → key_kinds index.node ≡ key_kinds index.leaf → IsTreeByDescent index
    → (row : Row) → (found_row index key ≡ Some row) ↔ IsRowWith index key row

-- no check is broken, and the row that is found is the one with the key
pub record FindsRow (file : List ℕ) (table : TableDef) (key : Key) : Type 0 where
  pub good : GetFirst file table key None
  pub row : (row : Row) → (found_row (clustered_tree file table) key ≡ Some row)
      ↔ IsRowWith (clustered_tree file table) key row
  pub same : (row : Row) (row_values : List Value) → found_row (clustered_tree file table) key ≡ Some row
      → IsFoundRow file table row row_values ↔ IsRow file table row row_values

-- in each sound file, for each key, the row is found
abbrev pub FindsInValid : Type 0
FindsInValid = (file : List ℕ) (table : TableDef) (key : Key) → IsTable table → IsValid file table
    → FindsRow file table key

-- a text spells one key at the most
abbrev pub SpellsOneKey : Type 0
SpellsOneKey =
    (table : TableDef) (text : List ℕ) (a b : Key) → IsTable table → SpellsKey table text a → SpellsKey table text b
    → a ≡ b

-- a file, a table and a key have one first broken check, or none
abbrev pub GetFirstHasOneAnswer : Type 0
GetFirstHasOneAnswer =
    (file : List ℕ) (table : TableDef) (key : Key) (a b : Option Fault) → GetFirst file table key a
    → GetFirst file table key b → a ≡ b

-- a file, a table and a key have one line that is found at the most
abbrev pub FindsOneLine : Type 0
FindsOneLine =
    (file : List ℕ) (table : TableDef) (key : Key) (a b : List ℕ) → IsTable table → IsLineFound file table key a
    → IsLineFound file table key b → a ≡ b
