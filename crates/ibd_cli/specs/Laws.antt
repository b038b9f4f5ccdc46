-- Laws of what the program defines, each the contract of a function in the module of laws.
use Rattle.std.specs.Prelude.{◌≡◌, ℕ, List, Ok}
use Rattle.schema_text.specs.TableDef.{TableDef}
use Rattle.schema_text.specs.Grammar.{IsTextOf}
use Rattle.row_store.specs.StoredRows.{Rows}
use Rattle.space_builder.specs.layout.Layout.{layout_file}
use Rattle.space_builder.specs.build.Outcome.{ComesTo}
use Rattle.ibd_cli.specs.declared.status.Status.{Status}
use Rattle.ibd_cli.specs.declared.forms.Task.{Task}
use Rattle.ibd_cli.specs.Outcome.{Told, Gives}
use Rattle.ibd_cli.specs.Build.{Texts, GivesBuilt, DumpsAsRead}

-- schema text and file define one status and one output of a command on a table, and the texts of a build do
abbrev pub InputsHaveOneOutcome : Type 0
InputsHaveOneOutcome =
    (task : Task) (key : List ℕ) (told : Told) (a b : Status) (x y : List ℕ) → Gives task key told a x
    → Gives task key told b y → (a ≡ b) × (x ≡ y)

abbrev pub TextsHaveOneOutcome : Type 0
TextsHaveOneOutcome =
    (texts : Texts) (a b : Status) (x y : List ℕ) → GivesBuilt texts a x → GivesBuilt texts b y → (a ≡ b) × (x ≡ y)

-- what is built of a schema text and a text of rows is dumped as that text
abbrev pub BuiltFilesDumpAsRead : Type 0
BuiltFilesDumpAsRead =
    (texts : Texts) (table : TableDef) (rows : Rows) → IsTextOf table texts.schema → ComesTo table texts.rows (Ok rows)
    → DumpsAsRead texts (layout_file table rows)
