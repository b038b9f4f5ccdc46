-- What a sound tablespace of a table is: a sound space, trees by descent, whole values, and nothing else but
-- left-overs. Nothing here is an order of checks.
use Rattle.std.specs.Prelude.{◌≡◌, ℕ, ◌<◌, ⊤, true, false, List, ◌++◌, flat_map, All, Result, Ok, Err}
use Rattle.std.specs.List.{range_with_len}
use Rattle.page_source.specs.declared.checks.Stop.{Stop}
use Rattle.page_source.specs.declared.checks.Stop.TheVariants.{Broken, Source, Memory}
use Rattle.page_source.specs.Lists.{times_in}
use Rattle.column_values.specs.declared.kind.ColumnType.{ColumnType}
use Rattle.column_values.specs.declared.field.FieldType.{FieldType}
use Rattle.column_values.specs.declared.field.FieldType.TheVariants.{Column}
use Rattle.column_values.specs.Types.{field_at}
use Rattle.column_values.specs.Characters.{IsTextOfKind}
use Rattle.column_values.specs.Spell.{IsSpelling}
use Rattle.compact_record.specs.declared.places.Place.{Place}
use Rattle.compact_record.specs.Reading.{place_of, field_count}
use Rattle.space_header.specs.Header.{size_of}
use Rattle.inode_segments.specs.Inodes.{segment_count}
use Rattle.space_audit.specs.Audit.{IsSoundSpace}
use Rattle.schema_text.specs.Formats.{flags_of}
use Rattle.schema_text.specs.TableDef.{TableDef}
use Rattle.tree_walk.specs.Index.{Index, Row, page_in}
use Rattle.tree_walk.specs.Segments.{leaf_segment}
use Rattle.tree_walk.specs.Descent.{pages_by_descent}
use Rattle.tree_walk.specs.Laws.{IsWhole, ComeOnce}
use Rattle.table_check.specs.Trees.{index_in, clustered_tree, index_count, segments_of_trees}
use Rattle.table_check.specs.Values.{bytes_at, FitsKind, live_rows, all_chain_pages}
use Rattle.table_check.specs.Rows.{IsWholeValue}
use Rattle.table_check.specs.First.{is_unreached, IsLeftOver}

-- an index has a whole tree, whatever the others have
abbrev pub HasWholeTree : Index → Type 0
HasWholeTree index = IsWhole index (λ page. false) (λ segment. false)

-- the pages of all trees, each tree by descent
unfoldable pub pages_of_descents : List ℕ → TableDef → List ℕ
pages_of_descents file table =
    flat_map (λ j. pages_by_descent (index_in file table j)) (range_with_len 0 (index_count table))

-- each index has a whole tree, no page comes twice over all of them, and each segment is named once
pub record HasTrees (file : List ℕ) (table : TableDef) : Type 0 where
  pub whole : (j : ℕ) → j < index_count table → HasWholeTree (index_in file table j)
  pub once : ComeOnce (pages_of_descents file table)
  pub named : (segment : ℕ) → segment < segment_count file
      → times_in (segments_of_trees file table (index_count table)) segment ≡ 1

-- a value that goes on in pages of its own is whole, no longer than its type takes, and a text where the type is one
-- of utf8mb4
pub record IsSoundLongValue (file : List ℕ) (segment : ℕ) (kind : ColumnType) (local : List ℕ) : Type 0 where
  pub fits : FitsKind kind local
  pub value : List ℕ
  pub whole : IsWholeValue file segment local value
  pub text : IsTextOfKind kind value

-- a value is null, or spelled on its leaf, or goes on in pages of its own
pub record IsSoundValue (file : List ℕ) (segment : ℕ) (kind : ColumnType) (page : List ℕ) (place : Place) : Type 0 where
  pub local : place.null ≡ false → place.external ≡ false → IsSpelling kind (bytes_at page place)
  pub external : place.null ≡ false → place.external ≡ true
      → IsSoundLongValue file segment kind (bytes_at page place)

-- a field of a row is the value of a column, or one of the server's own
abbrev pub IsSoundField : List ℕ → ℕ → FieldType → List ℕ → Place → Type 0
IsSoundField file segment (Column kind) page place = IsSoundValue file segment kind page place
IsSoundField file segment _ page place = ⊤

-- each field of a row is a sound value of a column, or one of the server's own
abbrev pub IsSoundRow : Index → Row → Type 0
IsSoundRow index row = (i : ℕ) → i < field_count index.leaf
    → IsSoundField index.file (leaf_segment index) (field_at index.leaf i).kind (page_in index row.page)
    (place_of (page_in index row.page) row.origin index.leaf i)

-- each row without the delete mark is sound, and no page comes twice over all trees and all values
pub record HasValues (file : List ℕ) (table : TableDef) : Type 0 where
  pub rows : All (IsSoundRow (clustered_tree file table)) (live_rows (clustered_tree file table))
  pub once : ComeOnce (pages_of_descents file table ++ all_chain_pages (clustered_tree file table))

-- each other used page of a segment is freed or holds an old version
abbrev pub HasOnlyLeftOvers : List ℕ → TableDef → Type 0
HasOnlyLeftOvers file table =
    (n : ℕ) → n < size_of file → is_unreached file table n ≡ true → IsLeftOver file table n

-- the file is a sound tablespace of this table
pub record IsValid (file : List ℕ) (table : TableDef) : Type 0 where
  pub space : IsSoundSpace file (flags_of table.format)
  pub trees : HasTrees file table
  pub values : HasValues file table
  pub rest : HasOnlyLeftOvers file table

-- an answer is Ok only of a sound file, and a broken rule only of one that isn't
abbrev pub TellsValid : {A : Type 0} → Result A Stop → List ℕ → TableDef → Type 0
TellsValid (Ok a) file table = IsValid file table
TellsValid (Err (Broken fault)) file table = ¬ (IsValid file table)
TellsValid (Err Source) file table = ⊤
TellsValid (Err Memory) file table = ⊤
