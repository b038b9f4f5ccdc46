-- What is read of a schema text: a table, or a refusal of one of its lines.
use Rattle.std.specs.Prelude.{◌≡◌, ℕ, ⊤, List, [], Option, Some, None, Result, Ok, Err}
use Rattle.schema_text.specs.declared.errors.SchemaWhy.{SchemaWhy}
use Rattle.schema_text.specs.declared.errors.SchemaError.{SchemaError}
use Rattle.schema_text.specs.declared.errors.SchemaError.TheVariants as refusals
use Rattle.schema_text.specs.TableDef.{TableDef}
use Rattle.schema_text.specs.Grammar.{IsTextOf}
use Rattle.schema_text.specs.Refusals.{SchemaChecks}
use Rattle.command_line.specs.declared.schema_file.SchemaStop.{SchemaStop}
use Rattle.command_line.specs.declared.schema_file.SchemaStop.TheVariants.{Refused, Source, Memory}

-- the schema text is refused
abbrev pub IsRefusedText : List ℕ → ℕ → SchemaWhy → Type 0
IsRefusedText schema line why = SchemaChecks schema (Some (record { line = line; why = why }))

-- the schema text is that of no table
abbrev pub IsOfNoTable : List ℕ → Type 0
IsOfNoTable schema = (table : TableDef) → ¬ (IsTextOf table schema)

-- the stop that a refusal is
abbrev pub stop_of_schema : SchemaError → SchemaStop
stop_of_schema (refusals.Refused line why) = Refused line why
stop_of_schema refusals.Memory = Memory

-- the text was read to its end and is that of the schema, or it is refused
abbrev pub ReadsSchema : List ℕ → Option (List ℕ) → Result TableDef SchemaStop → Type 0
ReadsSchema text left (Ok table) = IsTextOf table text × (left ≡ Some [])
ReadsSchema text left (Err (Refused line why)) = IsRefusedText text line why
ReadsSchema text left (Err Source) = ⊤
ReadsSchema text left (Err Memory) = ⊤
