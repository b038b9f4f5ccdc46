-- What comes of a table and a rows text: the rows that are built, or why they aren't.
use Rattle.std.specs.Prelude.{◌≡◌, ℕ, ◌<◌, ⊤, List, Option, Some, None, Result, Ok, Err}
use Rattle.schema_text.specs.TableDef.{TableDef}
use Rattle.schema_text.specs.Grammar.{IsTable}
use Rattle.space_builder.specs.declared.built.Built.{Built}
use Rattle.space_builder.specs.declared.built.BuildStop.{BuildStop}
use Rattle.space_builder.specs.declared.built.BuildStop.TheVariants as stops
use Rattle.row_store.specs.StoredRows.{Rows}
use Rattle.space_builder.specs.layout.Layout.{FitsSpace, layout_extents}
use Rattle.space_builder.specs.build.RootOrder.{RootOrderChecks}
use Rattle.row_store.specs.BadLine.{RowsChecks, AreRowsOf}

-- the roots are in order, and the text is that of some rows, of which the fact holds
abbrev pub HasRows : TableDef → List ℕ → (Rows → Type 0) → Type 0
HasRows table text Fact = RootOrderChecks table None × ((rows : Rows) × AreRowsOf table text rows × Fact rows)

-- what comes of a table and a rows text, unless an object fails or memory runs out: the rows that are built, or the
-- first refusal
abbrev pub ComesTo : TableDef → List ℕ → Result Rows BuildStop → Type 0
ComesTo table text (Ok rows) = RootOrderChecks table None × AreRowsOf table text rows × FitsSpace table rows
ComesTo table text (Err (stops.RootPlace line)) = RootOrderChecks table (Some line)
ComesTo table text (Err (stops.RowsRefused line why)) =
    RootOrderChecks table None × RowsChecks table text (Some (record { line = line; why = why }))
ComesTo table text (Err stops.Full) = HasRows table text (λ rows. 256 < layout_extents table rows)
ComesTo table text (Err stop) = ⊥

-- the roots have one answer at the most, and so have a table and a text
abbrev pub RootsHaveOneAnswer : Type 0
RootsHaveOneAnswer =
    (table : TableDef) (a b : Option ℕ) → RootOrderChecks table a → RootOrderChecks table b → a ≡ b

abbrev pub BuildHasOneOutcome : Type 0
BuildHasOneOutcome =
    (table : TableDef) (text : List ℕ) → IsTable table → (a b : Result Rows BuildStop) → ComesTo table text a
    → ComesTo table text b → a ≡ b

-- a table and a text have an outcome
abbrev pub BuildHasAnOutcome : Type 0
BuildHasAnOutcome =
    (table : TableDef) (text : List ℕ) → IsTable table → (outcome : Result Rows BuildStop) × ComesTo table text outcome

-- an answer that leaves the store alone
abbrev pub LeavesStore : Result Built BuildStop → Type 0
LeavesStore (Ok built) = ⊥
LeavesStore (Err stops.Store) = ⊥
LeavesStore (Err stops.Memory) = ⊥
LeavesStore (Err stop) = ⊤
