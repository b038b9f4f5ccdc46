-- The places of some keys, in the order of the keys.
use Rattle.std.specs.Prelude.{◌≡◌, ℕ, ◌≤◌, Bool, List, [], length, map, slice_index_or, IsPermutation, IsSortedBy}
use Rattle.std.specs.List.{range_with_len}
use Rattle.std.specs.Ordering.{is_lt}
use Rattle.column_values.specs.declared.field.FieldType.{FieldType}
use Rattle.column_values.specs.Types.{Fields}
use Rattle.column_values.specs.Order.{Key, key_cmp}
use Rattle.compact_record.specs.Reading.{key_kinds}
use Rattle.key_ranks.specs.Keys.{KeyTable}
use Rattle.cross_index.specs.calls.Kept.{kept_key}

-- whether the key at a place is less than that at another
abbrev pub key_less : List FieldType → List Key → ℕ → ℕ → Bool
key_less kinds keys a b = is_lt (key_cmp kinds (slice_index_or keys a []) (slice_index_or keys b []))

-- each place once, so that the keys don't fall
pub record IsOrder (kinds : List FieldType) (keys : List Key) (order : List ℕ) : Type 0 where
  pub places : IsPermutation (range_with_len 0 (length keys)) order
  pub sorted : IsSortedBy (key_less kinds keys) order

-- the keys at these places
unfoldable pub in_order : List Key → List ℕ → List Key
in_order keys order = map (λ k. slice_index_or keys k []) order

-- the fields of an index, the values that are kept of the rows, so many of each, and which of these the fields are
pub record Asking : Type 0 where
  pub list : Fields
  pub slots : List ℕ
  pub cells : Key
  pub width : ℕ

-- the keys of the rows
abbrev pub table_of : Asking → KeyTable
table_of keys = record { kinds = key_kinds keys.list; key = kept_key keys.cells keys.width keys.slots }

-- each field of a key of this list is kept
pub record AsksWhole (list : Fields) (slots : List ℕ) : Type 0 where
  pub few : list.keys ≤ length list.fields
  pub each : length slots ≡ list.keys
