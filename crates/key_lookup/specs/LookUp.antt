-- What is known of the row that a look-up found, before its line is written.
use Rattle.std.specs.Prelude.{◌≡◌, ℕ, List, length, Option, Some, None}
use Rattle.column_values.specs.Order.{Key}
use Rattle.schema_text.specs.TableDef.{TableDef}
use Rattle.tree_walk.specs.Index.{Index, page_in}
use Rattle.sql_dump.specs.Cells.{RowOnLeaf, row_on}
use Rattle.key_lookup.specs.declared.checked_row.Found.{Found}
use Rattle.key_lookup.specs.Record.{found_row, found_pages}
use Rattle.key_lookup.specs.Leaf.{row_at_origin}

-- the row is the one with the key, its leaf is in hand, and its values go on in so many pages
pub record IsFoundRowAt (index : Index) (key : Key) (page : List ℕ) (found : Found) : Type 0 where
  pub row : found_row index key ≡ Some (row_at_origin found.number found.origin)
  pub held : page ≡ page_in index found.number
  pub pages : found.pages ≡ length (found_pages index (found_row index key))

-- the row was found so, or there is none
abbrev pub IsFound : Index → Key → List ℕ → Option Found → Type 0
IsFound index key page None = found_row index key ≡ None
IsFound index key page (Some found) = IsFoundRowAt index key page found

-- how many pages the values of the row go on in
abbrev pub pages_found : Option Found → ℕ
pages_found None = 0
pages_found (Some found) = found.pages

-- the row on its leaf, from which its line is written
abbrev pub row_found : TableDef → List ℕ → Found → RowOnLeaf
row_found table page found = record { row = row_on table page found.origin; leaf = found.number }
