-- The id of the clustered index: the one that is given, or that of the page of its root.
use Rattle.std.specs.Prelude.{◌≡◌, ◌<◌, ℕ, List, Option, Some, None}
use Rattle.page_source.specs.Pages.{page_of}
use Rattle.schema_text.specs.TableDef.{TableDef, index_at}
use Rattle.leaf_salvage.specs.Standing.{reach_of, HasIndexId}

-- the page of the root tells this id
pub record TellsId (file : List ℕ) (table : TableDef) (id : ℕ) : Type 0 where
  pub below : (index_at table 0).root < reach_of file
  pub page : HasIndexId (page_of file (index_at table 0).root) (index_at table 0).root id

-- the id that is looked for
abbrev pub IsId : List ℕ → TableDef → Option ℕ → ℕ → Type 0
IsId file table (Some given) id = id ≡ given
IsId file table None id = TellsId file table id

-- no id was given, and the root tells none
pub record HasNoId (file : List ℕ) (table : TableDef) (given : Option ℕ) : Type 0 where
  pub none : given ≡ None
  pub untold : (id : ℕ) → ¬ (TellsId file table id)
