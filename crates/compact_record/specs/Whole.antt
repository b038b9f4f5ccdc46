-- Records whose values lie whole on their page.
use Rattle.std.specs.Prelude.{◌≡◌, ℕ, ◌<◌, ◌≤◌, false, List}
use Rattle.column_values.specs.Types.{Fields, field_at, fixed_length}
use Rattle.compact_record.specs.Reading.{is_external, local_length, field_count}

-- no part of field i stands on another page, and it has no more bytes than its type takes
pub record FieldLiesWhole (page : List ℕ) (origin : ℕ) (fields : Fields) (i : ℕ) : Type 0 where
  pub here : is_external page origin fields i ≡ false
  pub fits : local_length page origin fields i ≤ fixed_length (field_at fields i).kind

-- each field of the record at this origin lies whole on the page, in no more bytes than its type takes
abbrev pub LiesWhole : List ℕ → Fields → ℕ → Type 0
LiesWhole page fields origin = (i : ℕ) → i < field_count fields → FieldLiesWhole page origin fields i
