-- What comes of each page of a file, and of each record of a leaf.
use Rattle.std.specs.Prelude.{◌≡◌, ⊤, ℕ, Bool, true, false, List, [], length, map, take}
use Rattle.std.specs.Prelude.{flat_map, Option}
use Rattle.page_source.specs.declared.rule.Rule.{Rule}
use Rattle.page_source.specs.Pages.{page_of}
use Rattle.column_values.specs.declared.value.Value.{Value}
use Rattle.space_audit.specs.Marks.{seen}
use Rattle.schema_text.specs.TableDef.{TableDef}
use Rattle.schema_text.specs.IndexFields.{leaf_fields}
use Rattle.sql_dump.specs.Cells.{RowOnLeaf, row_on}
use Rattle.leaf_salvage.specs.declared.verdict.Verdict.{Verdict}
use Rattle.leaf_salvage.specs.declared.verdict.Verdict.TheVariants as verdicts
use Rattle.leaf_salvage.specs.Unused.{IsUnused}
use Rattle.leaf_salvage.specs.Leaf.{LeafVerdict}
use Rattle.salvage_model.specs.declared.kind.RecordKind.{RecordKind}
use Rattle.salvage_model.specs.Records.{origin_of, places_of}
use Rattle.salvage_model.specs.Follow.{Follow}
use Rattle.salvage_model.specs.Judged.{Judged, AreJudged, losses_in, looked_in}
use Rattle.salvage_model.specs.SavedRow.{SavesRow}

-- a salvage: the file, the table, which records are looked for, the id of the clustered index, and the pages whose
-- fetch failed, as pages and as parts of values
pub record Job : Type 0 where
  pub file : List ℕ
  pub table : TableDef
  pub kind : RecordKind
  pub id : ℕ
  pub missed : ℕ → Bool
  pub missed_parts : ℕ → Bool

-- a record that was saved: its place among those of its leaf, from 0; what became of its columns, and their values
pub record SavedRow : Type 0 where
  pub place : ℕ
  pub columns : List Judged
  pub row_values : List (Option Value)

-- what came of a page: it is free, couldn't be fetched, is no leaf of the index, is lost by a rule, or is a leaf
pub data Outcome : Type 0 where
  Unused : Outcome
  Unread : Outcome
  Other : Outcome
  Lost : Rule → Outcome
  Leaf : List SavedRow → Outcome

-- the row of the record at a place of leaf n
abbrev pub row_at_place : Job → ℕ → ℕ → RowOnLeaf
row_at_place job n place = record {
  row = row_on job.table (page_of job.file n) (origin_of job.kind (page_of job.file n) place);
  leaf = n;
}

-- the pages that were looked at for the values of some rows, and for those of a page
unfoldable pub looked_of_rows : List SavedRow → List ℕ
looked_of_rows rows = flat_map (λ (r : SavedRow). looked_in r.columns) rows

abbrev pub looked_of : Outcome → List ℕ
looked_of (Leaf rows) = looked_of_rows rows
looked_of _ = []

unfoldable pub looked_of_pages : List Outcome → List ℕ
looked_of_pages outcomes = flat_map looked_of outcomes

-- what was saved of a record of leaf n, if these pages were looked at before
pub record IsSavedRow (job : Job) (n : ℕ) (taken : ℕ → Bool) (row : SavedRow) : Type 0 where
  pub columns : AreJudged job.file job.missed_parts (row_at_place job n row.place) taken row.columns
  pub saves : SavesRow job.file (row_at_place job n row.place).row (losses_in row.columns) row.row_values

-- the first records of leaf n that are of the kind, each after those before it
pub record AreSavedRows (job : Job) (n : ℕ) (taken : ℕ → Bool) (rows : List SavedRow) : Type 0 where
  pub places : map (λ (r : SavedRow). r.place) rows ≡ take (length rows) (places_of job.kind (page_of job.file n))
  pub each : Follow (λ before k row. IsSavedRow job n (seen taken (looked_of_rows before)) row) rows

-- page n is used, as far as anybody knows, and could be fetched
pub record IsRead (job : Job) (n : ℕ) : Type 0 where
  pub used : ¬ (IsUnused job.file job.missed n)
  pub read : job.missed n ≡ false

-- what page n is to the index
abbrev pub Is : Job → ℕ → Verdict → Type 0
Is job n verdict =
    IsRead job n × LeafVerdict (page_of job.file n) n job.id (leaf_fields job.table 0) verdict

-- what comes of page n, if these pages were looked at before; a leaf may have further rows
abbrev pub ComesOf : Job → ℕ → (ℕ → Bool) → Outcome → Type 0
ComesOf job n taken Unused = IsUnused job.file job.missed n
ComesOf job n taken Unread = (¬ (IsUnused job.file job.missed n)) × (job.missed n ≡ true)
ComesOf job n taken Other = Is job n verdicts.Other
ComesOf job n taken (Lost rule) = Is job n (verdicts.Lost rule)
ComesOf job n taken (Leaf rows) = Is job n verdicts.Leaf × AreSavedRows job n taken rows

-- the outcome of page n has no further rows
abbrev pub IsFull : Job → ℕ → Outcome → Type 0
IsFull job n (Leaf rows) = length rows ≡ length (places_of job.kind (page_of job.file n))
IsFull job n _ = ⊤
