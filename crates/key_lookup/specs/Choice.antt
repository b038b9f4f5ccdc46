-- Through which node pointer of a page the way goes on, by numbers.
use Rattle.std.specs.Prelude.{◌≡◌, ℕ, ◌<◌, ◌⊎◌, List, true, false, slice_index}
use Rattle.std.specs.Ordering.{is_gt}
use Rattle.column_values.specs.Types.{Fields}
use Rattle.column_values.specs.Order.{Key, key_cmp}
use Rattle.compact_record.specs.Reading.{key_kinds}
use Rattle.index_page.specs.Header.{records_of}
use Rattle.tree_walk.specs.Records.{record_key}
use Rattle.key_lookup.specs.declared.choose.Chosen.{Chosen}

-- record k has a greater key
abbrev pub IsAbove : List ℕ → Fields → Key → ℕ → Type 0
IsAbove page node key k = is_gt (key_cmp (key_kinds node) (record_key page node k) key) ≡ true

abbrev pub IsUpTo : List ℕ → Fields → Key → ℕ → Type 0
IsUpTo page node key k = is_gt (key_cmp (key_kinds node) (record_key page node k) key) ≡ false

-- record k is the last of the first `count` ones that is the first one, or has no greater key
pub record IsLast (page : List ℕ) (node : Fields) (key : Key) (chosen : Chosen) (count : ℕ) : Type 0 where
  pub within : chosen.k < count
  pub origin : chosen.origin ≡ slice_index (records_of page) chosen.k
  pub up : (chosen.k ≡ 0) ⊎ IsUpTo page node key chosen.k
  pub last : (j : ℕ) → chosen.k < j → j < count → IsAbove page node key j
