-- The indexes of a sound file differ from its rows in one way, or not at all.
use Rattle.std.specs.Prelude.{◌≡◌, ℕ, List, Option}
use Rattle.schema_text.specs.TableDef.{TableDef}
use Rattle.schema_text.specs.Grammar.{IsTable}
use Rattle.table_check.specs.Valid.{IsValid}
use Rattle.cross_index.specs.Differ.{Difference, Differ}

-- there is an answer, and no other one
pub record HasOneAnswer (file : List ℕ) (table : TableDef) : Type 0 where
  pub difference : Option Difference
  pub differ : Differ file table difference
  pub only : (other : Option Difference) → Differ file table other → other ≡ difference

abbrev pub HasOneDifference : Type 0
HasOneDifference = (file : List ℕ) (table : TableDef) → IsTable table → IsValid file table → HasOneAnswer file table
