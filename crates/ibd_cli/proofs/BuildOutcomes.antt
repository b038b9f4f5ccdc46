-- A schema text and a rows text have one outcome of a build.
use Rattle.std.proofs.Common.{◌≡◌, ℕ, List, Some, None, Result, Ok, Err, refl, sym, ap, ◌∙◌, inl, inr}
use Rattle.std.proofs.lemmas.Option.{same_Some}
use Rattle.page_source.proofs.Unique.{some_is_not_none}
use Rattle.schema_text.specs.TableDef.{TableDef}
use Rattle.schema_text.specs.Grammar.{IsTextOf}
use Rattle.schema_text.specs.declared.errors.SchemaWhy.{SchemaWhy}
use Rattle.schema_text.specs.declared.errors.SchemaWhy.TheVariants as whys
use Rattle.space_builder.specs.declared.built.BuildStop.{BuildStop}
use Rattle.space_builder.specs.declared.built.BuildStop.TheVariants as stops
use Rattle.row_store.specs.StoredRows.{Rows}
use Rattle.space_builder.specs.build.RootOrder.{RootOrderChecks}
use Rattle.space_builder.specs.build.Outcome.{ComesTo, RootsHaveOneAnswer, BuildHasOneOutcome}
use Rattle.ibd_cli.specs.declared.status.Status.{Status}
use Rattle.ibd_cli.specs.declared.status.Status.TheVariants.{Done, SchemaRefused, RowsRefused, Full}
use Rattle.ibd_cli.specs.Build.{IsRefusedForBuild, GivesBuilt}
use Rattle.ibd_cli.specs.Answers.{status_of_build}
use Rattle.command_line.proofs.OneAnswer.{HasOneAnswer}
use Rattle.command_line.proofs.OneAnswer.{no_table}
use Rattle.ibd_cli.proofs.Serving.{same_table}

-- the status of what comes of a table and a text
abbrev pub status_of_outcome : Result Rows BuildStop → Status
status_of_outcome (Ok rows) = Done
status_of_outcome (Err stop) = status_of_build stop

-- of what comes of the table with this text such a status is that
abbrev Defines : TableDef → List ℕ → Status → Type 0
Defines table text given =
    (outcome : Result Rows BuildStop) × ComesTo table text outcome × (given ≡ status_of_outcome outcome)

module _ (schema : List ℕ) (one : HasOneAnswer schema) (table : TableDef) (is : IsTextOf table schema) where
  -- a refusal of the schema of a table is that of a root
  pub refused_root : (line : ℕ) (why : SchemaWhy) → IsRefusedForBuild schema line why
      → (why ≡ whys.Root) × RootOrderChecks table (Some line)
  refused_root line why refused =
      elim refused [
        | inl text ↦ absurd (no_table schema one line why table text is)
        | inr root ↦ (root.0, same_table schema one table is (λ t. RootOrderChecks t (Some line)) root.1)
      ]

  -- where the roots are in order there is none
  pub never_refused : RootsHaveOneAnswer → RootOrderChecks table None → (line : ℕ) (why : SchemaWhy)
      → IsRefusedForBuild schema line why → ⊥
  never_refused roots good line why refused =
      some_is_not_none line (roots table (Some line) None (refused_root line why refused).1 good)

  -- and else it is the first
  pub refused_as_root : RootsHaveOneAnswer → (first : ℕ) → RootOrderChecks table (Some first) → (line : ℕ)
      (why : SchemaWhy) → IsRefusedForBuild schema line why
      → SchemaRefused first whys.Root ≡ SchemaRefused line why
  refused_as_root roots first bad line why refused =
      let root = refused_root line why refused in
      let same : first ≡ line = same_Some first line (roots table (Some first) (Some line) bad root.1) in
      ap (λ (n : ℕ). SchemaRefused n whys.Root) same ∙ ap (SchemaRefused line) (sym root.0)

  -- what the texts define comes of this table
  defined : (rows output : List ℕ) (given : Status)
      → GivesBuilt (record { schema = schema; rows = rows }) given output → Defines table rows given
  defined rows output Done gives = (
    Ok gives.2.0,
    same_table schema one table is (λ t. ComesTo t rows (Ok gives.2.0)) (gives.0, gives.1, gives.2.1),
    refl,
  )
  defined rows output (SchemaRefused line why) gives =
      let root = refused_root line why gives.0 in
      (Err (stops.RootPlace line), root.1, ap (SchemaRefused line) root.0)
  defined rows output (RowsRefused line why) gives = (
    Err (stops.RowsRefused line why),
    same_table schema one table is (λ t. ComesTo t rows (Err (stops.RowsRefused line why))) gives.0,
    refl,
  )
  defined rows output Full gives = (
    Err stops.Full,
    same_table schema one table is (λ t. ComesTo t rows (Err stops.Full)) gives.0,
    refl,
  )
  defined rows output _ gives = absurd gives

  -- and it is one
  pub defines_one : BuildHasOneOutcome → (rows output : List ℕ) (given : Status) (outcome : Result Rows BuildStop)
      → ComesTo table rows outcome → GivesBuilt (record { schema = schema; rows = rows }) given output
      → status_of_outcome outcome ≡ given
  defines_one once rows output given outcome comes gives =
      let found = defined rows output given gives in
      ap status_of_outcome (once table rows is.is outcome found.0 comes found.1) ∙ sym found.2
