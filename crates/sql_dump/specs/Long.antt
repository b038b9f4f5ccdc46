-- A value that goes on in pages of its own, as it is read and written.
use Rattle.std.specs.Prelude.{◌≡◌, ℕ, ◌+◌, ◌-◌, ◌≤◌, true, List, ◌++◌, length}
use Rattle.column_values.specs.declared.kind.ColumnType.{ColumnType}
use Rattle.offpage_chain.specs.declared.reference.Reference.{Reference}
use Rattle.offpage_chain.specs.Reference.{reference_of}
use Rattle.offpage_chain.specs.Chain.{chain_pages, bytes_on}
use Rattle.offpage_chain.specs.Reader.{GoesOn}
use Rattle.row_text.specs.Writer.{is_long, long_open, long_part, long_close}
use Rattle.table_check.specs.Values.{front_of, FitsKind}

-- the bytes that a reference leads to
unfoldable pub chain_bytes : List ℕ → Reference → List ℕ
chain_bytes file reference = bytes_on file (chain_pages file reference)

-- the chain of a reference can be read
pub record CanFollow (file : List ℕ) (reference : Reference) : Type 0 where
  pub goes_on : GoesOn file reference.page reference.length (chain_pages file reference)

-- the chain can be read in so many fetches
pub record CanFollowIn (file : List ℕ) (reference : Reference) (left : ℕ) : Type 0 where
  pub follow : CanFollow file reference
  pub few : length (chain_pages file reference) ≤ left

-- the bytes of the whole value, and how many there are by its local bytes
abbrev pub whole_bytes : List ℕ → List ℕ → List ℕ
whole_bytes file local = front_of local ++ chain_bytes file (reference_of local)

abbrev pub stated_length : List ℕ → ℕ
stated_length local = length local - 20 + (reference_of local).length

-- the local bytes before the reference, the reference, and how many bytes the whole value has
pub record IsSplit (local front : List ℕ) (reference : Reference) (stated : ℕ) : Type 0 where
  pub front_is : front ≡ front_of local
  pub size : length front + 20 ≡ length local
  pub reference_is : reference ≡ reference_of local
  pub stated_is : stated ≡ length front + reference.length

-- the text of the value as it is written: its length is the stated one
abbrev pub long_text : List ℕ → ColumnType → List ℕ → List ℕ
long_text file kind local =
    long_open kind (stated_length local) ++ (long_part kind (whole_bytes file local) ++ long_close kind)

-- a value of this type may be so long
pub record FitsLong (kind : ColumnType) (local : List ℕ) : Type 0 where
  pub long : is_long kind ≡ true
  pub fits : FitsKind kind local
