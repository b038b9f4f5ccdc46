-- Marks of numbers below 16,384, and records that are marked one after another.
use Rattle.std.specs.Prelude.{◌≡◌, ℕ, ◌/◌, ◌%◌, ◌==◌, ◌<◌, ◌≤◌, ⊤, Bool, true, false, ◌&&◌, nat_le, nat_lt}
use Rattle.std.specs.Prelude.{if◌then◌else◌, List, [], ◌∷◌, slice_index}
use Rattle.std.specs.Int.{bit_at}
use Rattle.column_values.specs.Types.{Fields}
use Rattle.compact_record.specs.Header.{heap_number}
use Rattle.compact_record.specs.Reading.{record_start, record_end}
use Rattle.index_page.specs.Header.{records_of}
use Rattle.index_page.specs.Page.{IsHeapNumber, HasRoom}

-- whether a number is marked
abbrev pub Seen : Type 0
Seen = ℕ → Bool

-- number n is bit n % 64 of word n / 64
unfoldable pub bits_of : List ℕ → Seen
bits_of words n = bit_at (slice_index words (n / 64)) (n % 64) == 1

abbrev pub none_seen : Seen
none_seen n = false

-- one more number is marked
unfoldable pub with_mark : Seen → ℕ → Seen
with_mark seen n k = if k == n then true else seen k

-- all numbers from one up to another are marked
unfoldable pub with_span : Seen → ℕ → ℕ → Seen
with_span seen from to k = if nat_le from k && nat_lt k to then true else seen k

-- none of the numbers from one up to another is marked
abbrev pub IsUnmarked : Seen → ℕ → ℕ → Type 0
IsUnmarked seen from to = (k : ℕ) → from ≤ k → k < to → seen k ≡ false

-- each record passes when its turn comes, and then adds its marks
unfoldable pub PassInTurn : (Seen → ℕ → Type 0) → (Seen → ℕ → Seen) → Seen → List ℕ → Type 0
PassInTurn Passes grow seen [] = ⊤
PassInTurn Passes grow seen (origin ∷ rest) = Passes seen origin × PassInTurn Passes grow (grow seen origin) rest

-- the marks when all have passed
unfoldable pub seen_after : (Seen → ℕ → Seen) → Seen → List ℕ → Seen
seen_after grow seen [] = seen
seen_after grow seen (origin ∷ rest) = seen_after grow (grow seen origin) rest

-- a heap number that is new, and its mark
pub record IsNew (page : List ℕ) (seen : Seen) (origin : ℕ) : Type 0 where
  pub number : IsHeapNumber page origin
  pub new : seen (heap_number page origin) ≡ false

abbrev pub with_number : List ℕ → Seen → ℕ → Seen
with_number page seen origin = with_mark seen (heap_number page origin)

-- the heap numbers of the chain
abbrev pub chain_numbers : List ℕ → Seen
chain_numbers page = seen_after (with_number page) none_seen (records_of page)

-- a record whose bytes are free, and the marks of its bytes
pub record LiesFree (page : List ℕ) (fields : Fields) (seen : Seen) (origin : ℕ) : Type 0 where
  pub room : HasRoom page fields origin
  pub free : IsUnmarked seen (record_start page origin fields) (record_end page origin fields)

abbrev pub with_record : List ℕ → Fields → Seen → ℕ → Seen
with_record page fields seen origin = with_span seen (record_start page origin fields) (record_end page origin fields)
