-- What the answer of the checks says of validity.
use Rattle.std.proofs.Common.{ℕ, List, Some, None, Result, Ok, Err}
use Rattle.page_source.specs.declared.checks.Stop.{Stop}
use Rattle.page_source.specs.declared.checks.Stop.TheVariants.{Broken, Source, Memory}
use Rattle.page_source.specs.Checks.{Answers}
use Rattle.page_source.proofs.Unique.{some_is_not_none}
use Rattle.schema_text.specs.TableDef.{TableDef}
use Rattle.table_check.specs.First.{First}
use Rattle.table_check.specs.Valid.{TellsValid}
use Rattle.table_check.specs.Laws.{FirstHasOneAnswer, ChecksAreValidity}

pub tells_valid : {A : Type 0} (law : ChecksAreValidity) (sole : FirstHasOneAnswer) (file : List ℕ) (table : TableDef)
    (result : Result A Stop) → Answers result (First file table) → TellsValid result file table
tells_valid law sole file table (Ok a) answers = (law file table).0 answers
tells_valid law sole file table (Err (Broken fault)) answers =
    λ valid. some_is_not_none fault (sole file table (Some fault) None answers ((law file table).1 valid))
tells_valid law sole file table (Err Source) answers = tt
tells_valid law sole file table (Err Memory) answers = tt
