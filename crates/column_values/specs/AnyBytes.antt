-- The types of which any bytes are values.
use Rattle.std.specs.Prelude.{◌≡◌, Bool, true, false, All}
use Rattle.column_values.specs.declared.kind.ColumnType.{ColumnType}
use Rattle.column_values.specs.declared.kind.ColumnType.TheVariants as types
use Rattle.column_values.specs.declared.field.Field.{Field}
use Rattle.column_values.specs.declared.field.FieldType.{FieldType}
use Rattle.column_values.specs.declared.field.FieldType.TheVariants.{Column}
use Rattle.column_values.specs.Types.{Fields}

-- any bytes spell a value of the type, where they are as many as a value of it has
abbrev pub takes_any_bytes : ColumnType → Bool
takes_any_bytes (types.Int width signed) = true
takes_any_bytes (types.Char n) = true
takes_any_bytes (types.Varchar n) = true
takes_any_bytes (types.Binary n) = true
takes_any_bytes (types.Varbinary n) = true
takes_any_bytes (types.Text n) = true
takes_any_bytes (types.Blob n) = true
takes_any_bytes types.Year = true
takes_any_bytes _ = false

-- any bytes spell a value of a field, as many as a value of its type has, if the field is a column
abbrev pub field_takes_any : FieldType → Bool
field_takes_any (Column kind) = takes_any_bytes kind
field_takes_any _ = true

-- any bytes spell values of all fields of a record
abbrev pub TakeAnyBytes : Fields → Type 0
TakeAnyBytes fields = All (λ (f : Field). field_takes_any f.kind ≡ true) fields.fields
