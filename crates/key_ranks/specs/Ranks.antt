-- Ranks: the front of a row's key as a number of 40 bits, and the row in the 24 bits below it.
use Rattle.std.specs.Prelude.{◌≡◌, ℕ, zero, suc, ◌+◌, ◌-◌, ◌*◌, ◌/◌, ◌%◌, ◌^◌, ◌<◌, ◌≤◌, List, All, IsSortedBy}
use Rattle.std.specs.Prelude.{length, slice_index_or}
use Rattle.std.specs.Prelude.{Option, Some, None}
use Rattle.std.specs.Ordering.{is_lt}
use Rattle.column_values.specs.declared.kind.ColumnType.TheVariants as types
use Rattle.column_values.specs.declared.field.FieldType.{FieldType}
use Rattle.column_values.specs.declared.field.FieldType.TheVariants as fields
use Rattle.column_values.specs.Order.{Key, key_cmp}
use Rattle.key_ranks.specs.declared.fronts.Digit.{Digit}
use Rattle.key_ranks.specs.Keys.{KeyTable}

-- what a value of a kind goes on with in comparisons: a text with spaces
abbrev pub filler_of : FieldType → ℕ
filler_of (fields.Column (types.Char n)) = 32
filler_of (fields.Column (types.Varchar n)) = 32
filler_of (fields.Column (types.Text n)) = 32
filler_of (fields.Column (types.Utf8Varchar n)) = 32
filler_of (fields.Column (types.Utf8Text n)) = 32
filler_of _ = 0

-- the digit at a place
abbrev pub digit_at : List Digit → ℕ → Digit
digit_at digits i = slice_index_or digits i (record { low = 0; width = 0 })

-- the number that the first so many bytes of a value spell, digit after digit
unfoldable pub number_of : ℕ → List Digit → List ℕ → ℕ → ℕ
number_of filler digits value zero = 0
number_of filler digits value (suc i) =
    number_of filler digits value i * (digit_at digits i).width
    + (slice_index_or value i filler - (digit_at digits i).low)

-- each byte of the value is a digit at its place, and this number is spelled so
pub record IsFront (filler : ℕ) (digits : List Digit) (value : List ℕ) (front : ℕ) : Type 0 where
  pub least : (i : ℕ) → i < length digits → (digit_at digits i).low ≤ slice_index_or value i filler
  pub most : (i : ℕ) → i < length digits
      → slice_index_or value i filler < (digit_at digits i).low + (digit_at digits i).width
  pub is : front ≡ number_of filler digits value (length digits)

-- the front of a value, 0 of a null
abbrev pub HasFront : ℕ → List Digit → Option (List ℕ) → ℕ → Type 0
HasFront filler digits None front = front ≡ 0
HasFront filler digits (Some value) front = IsFront filler digits value front

-- the key of a rank's row
abbrev pub key_of_rank : KeyTable → ℕ → Key
key_of_rank table rank = table.key (rank % 2 ^ 24)

-- the rank has the front of the first value of its row's key, which has all its values
pub record IsRank (table : KeyTable) (filler : ℕ) (digits : List Digit) (rank : ℕ) : Type 0 where
  pub whole : length (key_of_rank table rank) ≡ length table.kinds
  pub front : HasFront filler digits (slice_index_or (key_of_rank table rank) 0 None) (rank / 2 ^ 24)

abbrev pub HaveFronts : KeyTable → ℕ → List Digit → List ℕ → Type 0
HaveFronts table filler digits ranks = All (IsRank table filler digits) ranks

-- the keys of the ranks' rows don't fall
abbrev pub AreInOrder : KeyTable → List ℕ → Type 0
AreInOrder table = IsSortedBy (λ a b. is_lt (key_cmp table.kinds (key_of_rank table a) (key_of_rank table b)))
