-- What a salvage saves out of what was carved of a sound tablespace.
use Rattle.std.specs.Prelude.{◌≡◌, ◌≢◌, ◌<◌, ◌+◌, ◌*◌, ℕ, false, List, length, None}
use Rattle.std.specs.FinMap.{get}
use Rattle.page_source.specs.Pages.{page_size, page_count, page_of}
use Rattle.page_source.specs.Objects.{PageMap, held_page}
use Rattle.page_scan.specs.Found.{IsPageOf}
use Rattle.image_carve.specs.Carved.{IsCarved}
use Rattle.image_carve.specs.Laws.{Occurs, IsLatest}
use Rattle.schema_text.specs.TableDef.{TableDef}
use Rattle.schema_text.specs.Grammar.{IsTable}
use Rattle.table_check.specs.Valid.{IsValid}
use Rattle.leaf_salvage.specs.Unused.{IsUnused}
use Rattle.salvage_model.specs.Outcome.{Job, Outcome}
use Rattle.salvage_model.specs.Saved.{IsSaved}
use Rattle.salvage_model.specs.Laws.{HasOwnId, whole_job, LosesNothing}

-- the file has the pages of a map up to the greatest number, and zeros for each that the map doesn't hold
pub record IsFileOf (held : PageMap) (file : List ℕ) : Type 0 where
  pub whole : length file ≡ page_size * page_count file
  pub each : (n : ℕ) → n < page_count file → page_of file n ≡ held_page held n
  pub all : (n : ℕ) → get held n ≢ None → n < page_count file
  pub last : (n : ℕ) → page_count file ≡ n + 1 → get held n ≢ None

-- page n is one of this space that stands by itself, occurs in the image, and is the latest there
pub record IsLatestPage (image file : List ℕ) (space n : ℕ) : Type 0 where
  pub is_page : IsPageOf (page_of file n) space n
  pub occurs : Occurs image (page_of file n)
  pub latest : IsLatest image space n (page_of file n)

-- each page of a file that isn't known to be free stands by itself, occurs in the image, and is the latest there
abbrev pub UsedPagesOccur : List ℕ → List ℕ → ℕ → Type 0
UsedPagesOccur image file space =
    (n : ℕ) → n < page_count file → ¬ (IsUnused file (λ _. false) n) → IsLatestPage image file space n

-- the salvage of what was carved, for the id of the clustered tree of the file
abbrev pub carved_job : List ℕ → TableDef → List ℕ → Job
carved_job file table carved = record (whole_job file table) { file = carved }

-- out of what was carved of a sound file whose used pages all occur, each row of the file is saved whole, and nothing
-- else; no loss is named
abbrev pub CarvedTablesLoseNothing : Type 0
CarvedTablesLoseNothing =
    (image file carved : List ℕ) (space : ℕ) (table : TableDef) (held : PageMap) (outcomes : List Outcome)
    → IsTable table → IsValid file table → HasOwnId file table → UsedPagesOccur image file space
    → IsCarved image space held → IsFileOf held carved → IsSaved (carved_job file table carved) outcomes
    → LosesNothing file table outcomes
