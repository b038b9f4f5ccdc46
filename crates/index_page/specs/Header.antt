-- The header of an index page, its records in chain order and its directory (page0page).
use Rattle.std.specs.Prelude.{Option, Some, None, ◌==◌, ◌||◌, if◌then◌else◌, ℕ, zero, suc, ◌+◌, ◌-◌, ◌*◌, ◌%◌, List}
use Rattle.std.specs.Prelude.{[], ◌∷◌, ◌++◌}
use Rattle.page_source.specs.Pages.{num}
use Rattle.compact_record.specs.Header.{next_field, next_origin}

-- the origins of the records at the two ends of the chain
abbrev pub infimum : ℕ
infimum = 99

abbrev pub supremum : ℕ
supremum = 112

-- the number of directory slots
abbrev pub slot_count : List ℕ → ℕ
slot_count page = num page 38 2

-- the end of the used part of the heap
abbrev pub heap_top : List ℕ → ℕ
heap_top page = num page 40 2

-- the number of heap records, infimum and supremum counted; above it the bit for the compact format
abbrev pub heap_field : List ℕ → ℕ
heap_field page = num page 42 2

-- the number of heap records alone
abbrev pub heap_count : List ℕ → ℕ
heap_count page = heap_field page % 32768

-- the first free record, 0 where there is none
abbrev pub first_free : List ℕ → ℕ
first_free page = num page 44 2

-- the number of records in the chain, infimum and supremum not counted
abbrev pub record_count : List ℕ → ℕ
record_count page = num page 54 2

-- how far the page stands above the leaves of its tree, which have level 0
abbrev pub level_of : List ℕ → ℕ
level_of page = num page 64 2

-- the number of the index that the page belongs to
abbrev pub index_id_of : List ℕ → ℕ
index_id_of page = num page 66 8

-- the record that is reached from `first` by k next fields
unfoldable pub record_at : List ℕ → ℕ → ℕ → ℕ
record_at page first zero = first
record_at page first (suc k) = next_origin page (record_at page first k)

-- n records: `first`, and behind each the one that its next field leads to
unfoldable pub records_from : List ℕ → ℕ → ℕ → List ℕ
records_from page first zero = []
records_from page first (suc n) = first ∷ records_from page (next_origin page first) n

-- the first record of the chain
abbrev pub first_record : List ℕ → ℕ
first_record page = next_origin page infimum

-- the records behind the infimum, as many as the header says
abbrev pub records_of : List ℕ → List ℕ
records_of page = records_from page (first_record page) (record_count page)

-- the free records, as many as the heap has besides the chain
abbrev pub free_count : List ℕ → ℕ
free_count page = heap_count page - (record_count page + 2)

abbrev pub free_of : List ℕ → List ℕ
free_of page = records_from page (first_free page) (free_count page)

-- all records of the heap
abbrev pub heap_of : List ℕ → List ℕ
heap_of page = records_of page ++ free_of page

-- directory slot i
abbrev pub slot_at : List ℕ → ℕ → ℕ
slot_at page i = num page (16374 - 2 * i) 2

-- where the next field leads, around the end of the page
abbrev pub next_target : List ℕ → ℕ → ℕ
next_target page origin = (origin + next_field page origin) % 16384

-- the record behind this one, none at the end of the chain
abbrev pub next_of : List ℕ → ℕ → Option ℕ
next_of page origin = if next_field page origin == 0 || next_target page origin == supremum then None else Some
    (next_target page origin)
