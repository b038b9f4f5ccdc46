-- The index page of records that stand one after another (page0page).
use Rattle.std.specs.Prelude.{ℕ, ◌+◌, ◌-◌, ◌*◌, ◌/◌, ◌%◌, ◌<◌, ◌≤◌, max, Bool, ◌&&◌, ◌==◌, nat_le, nat_lt}
use Rattle.std.specs.Prelude.{if◌then◌else◌, List, []}
use Rattle.std.specs.Prelude.{◌∷◌, ◌++◌, length, map, take, reverse, replicate, flat_map, sum_by, slice_index}
use Rattle.std.specs.Prelude.{slice_index_or}
use Rattle.std.specs.Prelude.{codes, Option, Some, None}
use Rattle.std.specs.List.{range_with_len}
use Rattle.page_source.specs.Pages.{be_bytes, with_bytes}
use Rattle.index_page.specs.Header.{infimum, supremum}
use Rattle.column_values.specs.Types.{Fields}
use Rattle.compact_record.specs.declared.parts.Part.{Part}
use Rattle.compact_record.specs.Writing.{record_bytes, origin_in}
use Rattle.page_packer.specs.declared.packer.Heads.{Heads}

-- a record that was pushed: its bytes, and the place of its origin among them
pub record Pushed : Type 0 where
  pub bytes : List ℕ
  pub origin : ℕ

-- the level of the page, and its records in order
pub record Packing : Type 0 where
  pub level : ℕ
  pub records : List Pushed

-- the leaves are level 0
abbrev pub is_leaf : ℕ → Bool
is_leaf level = level == 0

-- the status of the records of a level: rows on the leaves, node pointers above
abbrev pub status_on : ℕ → ℕ
status_on level = if is_leaf level then 0 else 1

-- a record of these parts as number k of a page
unfoldable pub pushed_record : ℕ → ℕ → Fields → List Part → Bool → Pushed
pushed_record level k fields parts minimum =
    record { bytes = record_bytes fields parts (2 + k) (status_on level) minimum; origin = origin_in fields parts }

-- nothing was pushed yet
abbrev pub none_packed : ℕ → Packing
none_packed level = record { level = level; records = [] }

-- a packing with one more record, of these parts
unfoldable pub with_record : Packing → Fields → List Part → Bool → Packing
with_record packing fields parts minimum =
    record packing {
      records = packing.records
          ++ pushed_record packing.level (length packing.records) fields parts minimum ∷ [];
    }

-- how many directory slots n records take
abbrev pub slots_for : ℕ → ℕ
slots_for n = 1 + max 1 ((n + 1) / 4)

-- the bytes of all records
abbrev pub total_size : List Pushed → ℕ
total_size records = sum_by (λ (r : Pushed). length r.bytes) records

-- the records and their directory fit one page
abbrev pub sizes_fit : ℕ → ℕ → Bool
sizes_fit count total = nat_le (120 + total + 2 * slots_for count) 16376

-- whether one more record of this size fits
abbrev pub fits_more : Packing → ℕ → Bool
fits_more packing size = sizes_fit (length packing.records + 1) (total_size packing.records + size)

-- record k
abbrev pub pushed_at : List Pushed → ℕ → Pushed
pushed_at records k = slice_index_or records k (record { bytes = []; origin = 0 })

-- a record's origin stands behind a header, and no later than its end
pub record IsWhole (r : Pushed) : Type 0 where
  pub least : 5 ≤ r.origin
  pub most : r.origin ≤ length r.bytes

pub record AreWhole (records : List Pushed) : Type 0 where
  pub each : (k : ℕ) → k < length records → IsWhole (pushed_at records k)

-- where record k begins on the page
unfoldable pub start_of : List Pushed → ℕ → ℕ
start_of records k = 120 + total_size (take k records)

-- the origin of record k; behind the last record stands the supremum
unfoldable pub origin_at : List Pushed → ℕ → ℕ
origin_at records k =
    if nat_lt k (length records) then start_of records k + (pushed_at records k).origin else supremum

-- the origins of all records
abbrev pub packed_chain : List Pushed → List ℕ
packed_chain records = map (origin_at records) (range_with_len 0 (length records))

-- how many records record k owns: each fourth one owns itself and three, but those behind the last slot before the end
unfoldable pub owned_at : ℕ → ℕ → ℕ
owned_at count k = if ((k + 1) % 4 == 0) && nat_le (k + 1) (4 * (slots_for count - 2)) then 4 else 0

-- how many records the supremum owns, with itself
unfoldable pub owned_by_supremum : ℕ → ℕ
owned_by_supremum count = count + 1 - 4 * (slots_for count - 2)

-- the next field that leads from one origin to another
unfoldable pub next_between : ℕ → ℕ → ℕ
next_between from to = (65536 + to - from) % 65536

-- the next field of record k
abbrev pub next_of_record : List Pushed → ℕ → ℕ
next_of_record records k = next_between (origin_at records k) (origin_at records (k + 1))

-- the record with this owner count and this next field
unfoldable pub linked : Pushed → ℕ → ℕ → List ℕ
linked r owned next =
    let owning = with_bytes r.bytes (r.origin - 5) ((slice_index r.bytes (r.origin - 5) + owned) ∷ []) in
    with_bytes owning (r.origin - 2) (be_bytes 2 next)

-- record k as it stands on the page
abbrev pub linked_bytes : List Pushed → ℕ → List ℕ
linked_bytes records k = linked (pushed_at records k) (owned_at (length records) k) (next_of_record records k)

-- the records on the page, one after another
unfoldable pub heap_bytes : List Pushed → List ℕ
heap_bytes records = flat_map (linked_bytes records) (range_with_len 0 (length records))

-- what a directory slot names: the first the infimum, the last the supremum, the others each fourth record
unfoldable pub slot_origin : List Pushed → ℕ → ℕ
slot_origin records slot =
    if slot == 0 then infimum
    else (if slot + 1 == slots_for (length records) then supremum else origin_at records (4 * slot - 1))

-- the directory, whose last slot stands first
unfoldable pub directory_bytes : List Pushed → List ℕ
directory_bytes records =
    flat_map (be_bytes 2) (reverse (map (slot_origin records) (range_with_len 0 (slots_for (length records)))))

-- a segment header
abbrev pub segment_header : ℕ → ℕ → ℕ → List ℕ
segment_header space page offset = be_bytes 4 space ++ be_bytes 4 page ++ be_bytes 2 offset

-- the two of a root, zeros elsewhere
abbrev pub head_bytes : Option Heads → List ℕ
head_bytes None = replicate 20 0
head_bytes (Some heads) =
    segment_header heads.space heads.page heads.leaf ++ segment_header heads.space heads.page heads.top

-- the numbers of two bytes from byte 38 on: slots, heap top, heap count with the bit for the compact format, no free
-- record, no garbage, no last insert, direction 5 and no insert in it, records, no transaction id, level
abbrev pub header_numbers : Packing → List ℕ
header_numbers packing =
    slots_for (length packing.records) ∷ (120 + total_size packing.records) ∷ (32768 + (length packing.records + 2))
    ∷ 0 ∷ 0 ∷ 0 ∷ 5 ∷ 0 ∷ length packing.records ∷ 0 ∷ 0 ∷ 0 ∷ 0 ∷ packing.level ∷ []

-- bytes 38 to 93: the numbers of the header, the index id and the segment headers
unfoldable pub page_header : Packing → ℕ → Option Heads → List ℕ
page_header packing index_id heads =
    flat_map (be_bytes 2) (header_numbers packing) ++ be_bytes 8 index_id ++ head_bytes heads

-- bytes 94 to 119: infimum and supremum
unfoldable pub end_bytes : List Pushed → List ℕ
end_bytes records =
    (1 ∷ 0 ∷ 2 ∷ []) ++ be_bytes 2 (next_between infimum (origin_at records 0)) ++ codes "infimum" ++ (0 ∷ [])
    ++ (owned_by_supremum (length records) ∷ 0 ∷ 11 ∷ 0 ∷ 0 ∷ []) ++ codes "supremum"

-- bytes 38 to the heap top
abbrev pub front_bytes : Packing → ℕ → Option Heads → List ℕ
front_bytes packing index_id heads =
    page_header packing index_id heads ++ end_bytes packing.records ++ heap_bytes packing.records

-- a page of zeros with these neighbours
unfoldable pub page_beside : ℕ → ℕ → List ℕ
page_beside prev next = with_bytes (replicate 16384 0) 8 (be_bytes 4 prev ++ be_bytes 4 next)

-- the page of the pushed records: its neighbours, header, ends and records, and before byte 16376 the directory. Its
-- frame isn't made yet
unfoldable pub packed_page : Packing → ℕ → ℕ → ℕ → Option Heads → List ℕ
packed_page packing prev next index_id heads =
    let filled = with_bytes (page_beside prev next) 38 (front_bytes packing index_id heads) in
    with_bytes filled (16376 - 2 * slots_for (length packing.records)) (directory_bytes packing.records)
