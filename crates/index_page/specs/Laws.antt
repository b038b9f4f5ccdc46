-- A page has one record chain and one free list, and where its checks hold it is an index page with these records.
use Rattle.std.specs.Prelude.{◌≡◌, ◌↔◌, ◌<◌, ◌≤◌, ℕ, Bool, List, ◌++◌, map, Contains, None, length, slice_index}
use Rattle.column_values.specs.Types.{Fields}
use Rattle.compact_record.specs.Header.{heap_number}
use Rattle.index_page.specs.Header.{heap_count, records_of, free_of}
use Rattle.index_page.specs.Page.{IsChain, IsFreeList, HasHeapNumbers, IsIndexPage, KeysRise, IsRise}
use Rattle.index_page.specs.PageChecks.{PageChecks}

-- the chain is the records that are met one after another
abbrev pub HasOneChain : Type 0
HasOneChain = (page chain : List ℕ) → IsChain page chain → chain ≡ records_of page

-- the free list is the free records that are met one after another
abbrev pub HasOneFreeList : Type 0
HasOneFreeList = (page chain free : List ℕ) → IsChain page chain → IsFreeList page chain free → free ≡ free_of page

-- no check is broken exactly in an index page
abbrev pub ChecksAreIndexPage : Type 0
ChecksAreIndexPage =
    (page : List ℕ) (fields : Fields) (leaf root leftmost : Bool)
    → PageChecks page fields leaf root leftmost None ↔ ((chain : List ℕ)
    × IsIndexPage page fields leaf root leftmost chain)

-- the heap numbers of both lists together are all numbers from 2 on, below the heap count
abbrev pub HasAllNumbers : Type 0
HasAllNumbers =
    (page chain free : List ℕ) (number : ℕ) → IsFreeList page chain free → HasHeapNumbers page (chain ++ free)
    → 2 ≤ number → number < heap_count page → Contains (map (heap_number page) (chain ++ free)) number

-- keys that rise from each record to the next rise from each record to every later one
abbrev pub KeysRiseThroughout : Type 0
KeysRiseThroughout =
    (page : List ℕ) (fields : Fields) (lowest_first : Bool) (chain : List ℕ) (i j : ℕ)
    → KeysRise page fields lowest_first chain → i < j → j < length chain
    → IsRise page fields lowest_first i (slice_index chain i) (slice_index chain j)
