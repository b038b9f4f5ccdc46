-- What the inputs define: how a command on a table ends, and what it writes.
use Rattle.std.specs.Prelude.{◌≡◌, ℕ, ⊤, List, [], ◌++◌, codes, Option, Some, None, IfSome}
use Rattle.page_source.specs.declared.rule.Fault.{Fault}
use Rattle.column_values.specs.Order.{Key}
use Rattle.schema_text.specs.declared.errors.SchemaWhy.{SchemaWhy}
use Rattle.schema_text.specs.TableDef.{TableDef}
use Rattle.schema_text.specs.Grammar.{IsTextOf}
use Rattle.table_check.specs.declared.table.Checked.{Checked}
use Rattle.table_check.specs.First.{First, IsChecked, check_steps, dump_steps}
use Rattle.table_check.specs.Valid.{IsValid}
use Rattle.sql_dump.specs.Dump.{IsDumpOf}
use Rattle.cross_index.specs.declared.crossed.Crossed.{Crossed}
use Rattle.cross_index.specs.Differ.{Difference, Missing, Extra, Differ}
use Rattle.cross_index.specs.Cross.{IsCrossed, Differs}
use Rattle.key_lookup.specs.GetFirst.{GetFirst}
use Rattle.key_lookup.specs.KeyOfText.{SpellsKey, IsNoKey}
use Rattle.key_lookup.specs.Get.{IsLineFound, IsAbsent, get_steps}
use Rattle.ibd_cli.specs.declared.status.Status.{Status}
use Rattle.ibd_cli.specs.declared.status.Status.TheVariants.{Done, SchemaRefused, Broken, KeyRefused, Absent}
use Rattle.ibd_cli.specs.declared.status.Status.TheVariants.{CrossMissing, CrossExtra}
use Rattle.ibd_cli.specs.declared.forms.Task.{Task}
use Rattle.ibd_cli.specs.declared.forms.Task.TheVariants.{Check, Dump, Cross, Get}
use Rattle.command_line.specs.Lines.{counted}
use Rattle.command_line.specs.SchemaFile.{IsRefusedText}

-- what the inputs hold
pub record Told : Type 0 where
  pub schema : List ℕ
  pub file : List ℕ

-- a fact of the table of the schema
abbrev pub OfTable : Told → (TableDef → Type 0) → Type 0
OfTable told Fact = (table : TableDef) × IsTextOf table told.schema × Fact table

-- a fact of some table, that of the schema text if it is told
abbrev pub OfSchema : Option (List ℕ) → (TableDef → Type 0) → Type 0
OfSchema schema Fact = (table : TableDef) × IfSome schema (IsTextOf table) × Fact table

-- the numbers of a checked file, each behind its name
abbrev pub checked_numbers : Checked → List ℕ
checked_numbers checked =
    counted (codes "pages=") checked.pages ++ counted (codes " used=") checked.used
    ++ counted (codes " rows=") checked.rows ++ counted (codes " deleted=") checked.deleted
    ++ counted (codes " unreached=") checked.unreached

-- the line of a check
abbrev pub checked_line : Checked → List ℕ
checked_line checked = checked_numbers checked ++ codes "\n"

-- the line of a comparison
abbrev pub crossed_line : Crossed → List ℕ
crossed_line crossed =
    counted (codes "indexes=") crossed.indexes ++ counted (codes " entries=") crossed.entries ++ codes "\n"

-- the indexes have the keys of the rows, and this is the line of their numbers
pub record HasCrossedLine (file : List ℕ) (table : TableDef) (output : List ℕ) : Type 0 where
  pub same : Differ file table None
  pub crossed : Crossed
  pub numbers : IsCrossed file table crossed
  pub written : output ≡ crossed_line crossed

-- a fact of the key that a text spells
abbrev pub OfKey : TableDef → List ℕ → (Key → Type 0) → Type 0
OfKey table text Fact = (sought : Key) × SpellsKey table text sought × Fact sought

-- what a task writes of a file in which no rule is broken that it asks of it
abbrev pub IsOutput : Task → List ℕ → List ℕ → TableDef → List ℕ → Type 0
IsOutput Check key file table output =
    (checked : Checked) × IsChecked file table checked × (output ≡ checked_line checked)
IsOutput Dump key file table output = IsDumpOf file table output
IsOutput Cross key file table output = HasCrossedLine file table output
IsOutput Get key file table output = OfKey table key (λ sought. IsLineFound file table sought output)

-- the checks of a task: those on the way to one row, or those of the whole file
abbrev pub FirstOf : Task → List ℕ → List ℕ → TableDef → Option Fault → Type 0
FirstOf Get key file table fault = OfKey table key (λ sought. GetFirst file table sought fault)
FirstOf _ key file table fault = First file table fault

-- the file is sound, or the task doesn't ask for that
abbrev pub IsValidFor : Task → List ℕ → TableDef → Type 0
IsValidFor Get file table = ⊤
IsValidFor _ file table = IsValid file table

-- no rule is broken, the file is sound where the task asks for that, and this is the output
pub record IsDone (task : Task) (key file : List ℕ) (table : TableDef) (output : List ℕ) : Type 0 where
  pub sound : FirstOf task key file table None
  pub valid : IsValidFor task file table
  pub written : IsOutput task key file table output

-- the task names a row, by a text that is no key's
abbrev pub IsNoKeyOf : Task → List ℕ → TableDef → Type 0
IsNoKeyOf Get key table = IsNoKey table key
IsNoKeyOf _ key table = ⊥

-- the task names a row that isn't there
abbrev pub IsAbsentOf : Task → List ℕ → List ℕ → TableDef → Type 0
IsAbsentOf Get key file table = OfKey table key (IsAbsent file table)
IsAbsentOf _ key file table = ⊥

-- the task compares the indexes of a sound file with its rows, and they differ so
abbrev pub FindsDifference : Task → List ℕ → Difference → TableDef → Type 0
FindsDifference Cross file difference table = Differs file table (Some difference)
FindsDifference _ file difference table = ⊥

-- how a task ends, and what it writes
abbrev pub Gives : Task → List ℕ → Told → Status → List ℕ → Type 0
Gives task key told (SchemaRefused line why) output = IsRefusedText told.schema line why × (output ≡ [])
Gives task key told KeyRefused output = OfTable told (IsNoKeyOf task key) × (output ≡ [])
Gives task key told (Broken fault) output =
    OfTable told (λ table. FirstOf task key told.file table (Some fault)) × (output ≡ [])
Gives task key told Absent output = OfTable told (IsAbsentOf task key told.file) × (output ≡ [])
Gives task key told (CrossMissing index row) output =
    OfTable told (FindsDifference task told.file (Missing index row)) × (output ≡ [])
Gives task key told (CrossExtra index page) output =
    OfTable told (FindsDifference task told.file (Extra index page)) × (output ≡ [])
Gives task key told Done output = OfTable told (λ table. IsDone task key told.file table output)
Gives task key told _ output = ⊥

-- the most steps of a task on so many pages
abbrev pub task_steps : Task → ℕ → ℕ
task_steps Check = check_steps
task_steps Dump = dump_steps
task_steps Cross = dump_steps
task_steps Get = get_steps
