-- The keys of rows, and the rows in their order.
use Rattle.std.specs.Prelude.{ℕ, List, IsPermutation, IsSortedBy}
use Rattle.std.specs.List.{range_with_len}
use Rattle.std.specs.Ordering.{is_lt}
use Rattle.column_values.specs.declared.field.FieldType.{FieldType}
use Rattle.column_values.specs.Order.{Key, key_cmp}

-- the kinds of the values of a key, and the key of each row
pub record KeyTable : Type 0 where
  pub kinds : List FieldType
  pub key : ℕ → Key

-- each of so many rows once, so that the keys don't fall
pub record IsRowOrder (table : KeyTable) (count : ℕ) (order : List ℕ) : Type 0 where
  pub places : IsPermutation (range_with_len 0 count) order
  pub sorted : IsSortedBy (λ a b. is_lt (key_cmp table.kinds (table.key a) (table.key b))) order
