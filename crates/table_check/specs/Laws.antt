-- Laws of the definitions, each the contract of a function in the module of laws.
use Rattle.std.specs.Prelude.{◌≡◌, ◌↔◌, ℕ, ◌<◌, List, Option, None}
use Rattle.page_source.specs.declared.rule.Fault.{Fault}
use Rattle.page_source.specs.Lists.{times_in}
use Rattle.space_header.specs.Header.{size_of}
use Rattle.extent_map.specs.Extents.{IsUsed}
use Rattle.space_audit.specs.Owners.{claims}
use Rattle.space_audit.specs.Audit.{IsSoundSpace}
use Rattle.schema_text.specs.Formats.{flags_of}
use Rattle.schema_text.specs.TableDef.{TableDef}
use Rattle.tree_walk.specs.Descent.{tree_rows}
use Rattle.tree_walk.specs.Laws.{Rises}
use Rattle.tree_walk.specs.Leaf.{IsWalked}
use Rattle.table_check.specs.Trees.{index_in, index_count}
use Rattle.table_check.specs.Values.{live_rows}
use Rattle.table_check.specs.First.{TableTreeChecks, TableValueChecks, First}
use Rattle.table_check.specs.Valid.{HasTrees, HasValues, HasOnlyLeftOvers, IsValid}

-- a file and a table have one first broken check, or none
abbrev pub FirstHasOneAnswer : Type 0
FirstHasOneAnswer =
    (file : List ℕ) (table : TableDef) (a b : Option Fault) → First file table a → First file table b → a ≡ b

-- there is a first broken check, or none, for each file and table
abbrev pub FirstHasAnAnswer : Type 0
FirstHasAnAnswer = (file : List ℕ) (table : TableDef) → (answer : Option Fault) × First file table answer

-- the checks of trees and segments find nothing exactly where the trees are sound
abbrev pub TreeChecksAreTrees : Type 0
TreeChecksAreTrees = (file : List ℕ) (table : TableDef) → TableTreeChecks file table None ↔ HasTrees file table

-- if the space and the trees are sound, the checks of values and of other pages find nothing exactly where those are
-- sound
abbrev pub ValueChecksAreValues : Type 0
ValueChecksAreValues =
    (file : List ℕ) (table : TableDef) → IsSoundSpace file (flags_of table.format) → HasTrees file table
    → TableValueChecks file table None ↔ (HasValues file table × HasOnlyLeftOvers file table)

-- the checks find nothing exactly in a sound file
abbrev pub ChecksAreValidity : Type 0
ChecksAreValidity = (file : List ℕ) (table : TableDef) → First file table None ↔ IsValid file table

-- in a sound file the tree of each index is a walked one
abbrev pub TreesAreWalked : Type 0
TreesAreWalked =
    (file : List ℕ) (table : TableDef) → IsValid file table → (j : ℕ) → j < index_count table
    → IsWalked (index_in file table j)

-- in a sound file the rows of each index rise strictly by their key
abbrev pub RowsRise : Type 0
RowsRise =
    (file : List ℕ) (table : TableDef) → IsValid file table → (j : ℕ) → j < index_count table
    → Rises (index_in file table j) (tree_rows (index_in file table j))

-- in a sound file the rows of each index without the delete mark rise strictly by their key
abbrev pub LiveRowsRise : Type 0
LiveRowsRise =
    (file : List ℕ) (table : TableDef) → IsValid file table → (j : ℕ) → j < index_count table
    → Rises (index_in file table j) (live_rows (index_in file table j))

-- in a sound file each used page has one owner: it stands in one claim, once
abbrev pub UsedPagesHaveOneOwner : Type 0
UsedPagesHaveOneOwner =
    (file : List ℕ) (table : TableDef) → IsValid file table → (n : ℕ) → n < size_of file → IsUsed file n
    → times_in (claims file) n ≡ 1
