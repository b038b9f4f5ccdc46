-- The bytes of a text of fixed length.
use Rattle.std.proofs.Common.{◌≡◌, ℕ, List, length}
use Rattle.column_values.specs.declared.kind.ColumnType.TheVariants.{Char}
use Rattle.column_values.specs.declared.value.Value.{Value}
use Rattle.column_values.specs.declared.value.Value.TheVariants.{Text}
use Rattle.column_values.specs.Spell.{Spell}

pub char_size : (n : ℕ) (value : Value) (bytes : List ℕ) → Spell (Char n) value bytes → length bytes ≡ n
char_size n (Text t) bytes spell = spell.size
char_size n _ bytes spell = absurd spell
