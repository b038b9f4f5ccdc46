-- Entries in the order of their keys.
use Rattle.std.specs.Prelude.{◌≡◌, Bool, if◌then◌else◌, List, [], ◌∷◌, AllPairs}
use Rattle.std.specs.Ordering.{is_lt}
use Rattle.std.specs.List.Sorted.{IsPermutation, IsSortedBy}
use Rattle.column_values.specs.Types.{Fields}
use Rattle.column_values.specs.Order.{key_cmp, AreEqualKeys}
use Rattle.compact_record.specs.Reading.{key_kinds}
use Rattle.tree_layout.specs.Entries.{Entry, key_of_entry, EntriesAscend}

-- the first of two entries has the lower key
abbrev pub is_entry_below : Fields → Entry → Entry → Bool
is_entry_below fields a b = is_lt (key_cmp (key_kinds fields) (key_of_entry fields.keys a) (key_of_entry fields.keys b))

-- an entry before the first one that it is below, and all entries so
abbrev pub put_sorted : Fields → Entry → List Entry → List Entry
put_sorted fields entry [] = entry ∷ []
put_sorted fields entry (x ∷ xs) =
    if is_entry_below fields entry x then entry ∷ x ∷ xs else x ∷ put_sorted fields entry xs

unfoldable pub sorted_entries : Fields → List Entry → List Entry
sorted_entries fields [] = []
sorted_entries fields (x ∷ xs) = put_sorted fields x (sorted_entries fields xs)

-- no two entries have equal keys
abbrev pub DifferAt : Fields → Entry → Entry → Type 0
DifferAt fields a b = ¬ (AreEqualKeys (key_kinds fields) (key_of_entry fields.keys a) (key_of_entry fields.keys b))

abbrev pub HaveOwnKeys : Fields → List Entry → Type 0
HaveOwnKeys fields entries = AllPairs (DifferAt fields) entries

-- the entries in order: their keys rise, and any sort gives them
pub record AreSorted (fields : Fields) (entries sorted : List Entry) : Type 0 where
  pub moved : IsPermutation entries sorted
  pub rise : EntriesAscend fields sorted
  pub only : (others : List Entry) → IsPermutation entries others → IsSortedBy (is_entry_below fields) others
      → others ≡ sorted

-- if the keys of entries differ, those of the sorted entries rise, and any sort gives these entries
abbrev pub SortingRises : Type 0
SortingRises =
    (fields : Fields) (entries : List Entry) → HaveOwnKeys fields entries
    → AreSorted fields entries (sorted_entries fields entries)
