-- Entries that were packed are held by their page.
use Rattle.std.proofs.Common.{◌≡◌, ◌≢◌, ℕ, zero, suc, ◌+◌, ◌*◌, ◌<◌, ◌≤◌, ◌==◌, Bool, false, ◌&&◌}
use Rattle.std.proofs.Common.{List, [], ◌++◌, length, get_or, map, Option, sym, ap, ◌∙◌, subst, arith}
use Rattle.std.proofs.Common.{inl, inr, All, AllPairs, append-nil, eq-eqb}
use Rattle.std.specs.List.{range_with_len}
use Rattle.std.proofs.lemmas.Bool.{and_parts, and_from, eqb-true, cases_lt}
use Rattle.std.proofs.lemmas.List.{get_or-map, length-map}
use Rattle.std.proofs.lemmas.List.Elements.{All-nil}
use Rattle.std.proofs.lemmas.List.FromFn.{length-map-range_with_len, get_or-map-range_with_len}
use Rattle.page_source.specs.Lists.{AreDistinct}
use Rattle.column_values.specs.Types.{Fields}
use Rattle.compact_record.specs.Header.{next_origin, heap_number, is_minimum, is_deleted}
use Rattle.compact_record.specs.Reading.{IsSpelled, record_end, key_of}
use Rattle.compact_record.specs.Writing.{key_of_parts, size_of_record}
use Rattle.compact_record.specs.Laws.{AreReadAs}
use Rattle.compact_record.proofs.Placed.{length-record_bytes}
use Rattle.index_page.specs.Header.{infimum, supremum, records_of}
use Rattle.index_page.specs.Page.{IsOrigin, IsHeapNumber, Leads, IsChain, IsFreeList, HasHeapNumbers}
use Rattle.index_page.specs.Page.{IsDirectory, HasKind, AreSpelled, HasRoom, AreApart, LieApart}
use Rattle.index_page.specs.Page.{is_lowest_first, KeysRise, IsIndexPage, HasMinimumMark}
use Rattle.index_page.proofs.ChainWalk.{chain_is}
use Rattle.page_packer.specs.declared.packer.Heads.{Heads}
use Rattle.page_packer.specs.Packing.{Pushed, Packing, AreWhole, slots_for, total_size, pushed_at, start_of}
use Rattle.page_packer.specs.Packing.{origin_at, owned_at}
use Rattle.page_packer.specs.Packing.{next_of_record, packed_chain, packed_page, is_leaf, status_on}
use Rattle.page_packer.specs.Entries.{Entry, entry_at, packing_with, lowest_mark}
use Rattle.page_packer.specs.Laws.{HasBodyOf, HoldsRecords, PacksPushed, PacksIndexPage, PacksWholePage}
use Rattle.page_packer.proofs.Packed.{ArePacked, suited_entries, packed_entries}
use Rattle.page_packer.proofs.Sizes.{fits_of, start_more, starts_rise, origin_behind}
use Rattle.page_packer.proofs.PagePieces.{HasPieces, pieces_of_body, length-packed_page}
use Rattle.page_packer.proofs.HeaderFacts.{HeaderNumbers, header_numbers, has_header, EndFacts, end_facts, few_records}
use Rattle.page_packer.proofs.RecordFacts.{AreLaid, are_whole, origin_facts, origins_rise, origins_differ, origin_fits}
use Rattle.page_packer.proofs.RecordFacts.{next_fits, leads_to, pushed_as, EntryStands, entry_stands}
use Rattle.page_packer.proofs.DirectoryFacts.{slot_is, is_cut}

-- a page on which these entries stand as the records of a packing
pub record Stands (page : List ℕ) (fields : Fields) (root leftmost : Bool) (marks : ℕ → Bool) (entries : List Entry)
    (packing : Packing)
    : Type 0 where
  pub packed : ArePacked fields root leftmost marks entries packing
  pub laid : AreLaid packing.records
  pub fits : 120 + total_size packing.records + 2 * slots_for (length packing.records) ≤ 16376
  pub numbers : HeaderNumbers page packing
  pub ends : EndFacts page packing.records
  pub entry : (k : ℕ) → k < length packing.records
      → EntryStands page fields (entry_at entries k) (origin_at packing.records k) (start_of packing.records k) (2 + k)
      (status_on packing.level) (owned_at (length packing.records) k) (next_of_record packing.records k)
      (marks k)
  pub directory : IsDirectory page (packed_chain packing.records)

pub stands_packed : (page : List ℕ) (fields : Fields) (root leftmost : Bool) (marks : ℕ → Bool) (entries : List Entry)
    (packing : Packing)
    (prev next index_id : ℕ) (heads : Option Heads)
    → ArePacked fields root leftmost marks entries packing
    → HasBodyOf (packed_page packing prev next index_id heads) page
    → Stands page fields root leftmost marks entries packing
stands_packed page fields root leftmost marks entries packing prev next index_id heads packed has =
    let records : List Pushed = packing.records in
    let whole : AreWhole records = are_whole fields packing.level marks entries records packed.pushed in
    let fits = fits_of (length records) (total_size records) packed.fit in
    let laid : AreLaid records = record { whole = whole; fits = omega arith } in
    let pieces : HasPieces page packing index_id heads =
    pieces_of_body page packing prev next index_id heads whole packed.fit has in
    let numbers : HeaderNumbers page packing = header_numbers page packing index_id heads pieces in
    let ends : EndFacts page records =
    end_facts page packing index_id heads pieces (next_fits infimum (origin_at records 0)) in
    let count = packed.pushed.count in
    let stands : (k : ℕ) → k < length records
    → EntryStands page fields (entry_at entries k) (origin_at records k) (start_of records k) (2 + k)
    (status_on packing.level) (owned_at (length records) k) (next_of_record records k) (marks k) =
    λ k below.
    let in' : k < length entries = omega arith in
    entry_stands page packing index_id heads fields (marks k) (entry_at entries k) k pieces laid below packed.are_fields
    (packed.pushed.fit k [] in')
    (pushed_as fields packing.level (marks k) k (entry_at entries k) (pushed_at records k)
    (packed.pushed.each k in')) in
    record {
      packed = packed;
      laid = laid;
      fits = fits;
      numbers = numbers;
      ends = ends;
      entry = stands;
      directory = is_cut page records (record {
        laid = laid;
        slots = numbers.slots;
        named = λ i below. slot_is page packing index_id heads i pieces laid below;
        owns = λ k below. (stands k below).owns;
        first = ends.infimum_owns;
        last = ends.supremum_owns;
      });
    }

-- a fact of each origin is one of the whole chain, and one of each two is one of all pairs
all_chain : (P : ℕ → Type 0) (g : ℕ → ℕ) (n : ℕ) → ((k : ℕ) → k < n → P (g k)) → All P (map g (range_with_len 0 n))
all_chain P g n each k d inside =
    let below : k < n = omega (arith, length-map-range_with_len g 0 n) in
    subst P (sym (get_or-map-range_with_len g 0 n k k d below (omega arith))) (each k below)

pairs_chain : (R : ℕ → ℕ → Type 0) (g : ℕ → ℕ) (n : ℕ) → ((i j : ℕ) → i < j → j < n → R (g i) (g j))
    → AllPairs R (map g (range_with_len 0 n))
pairs_chain R g n each i j d before inside =
    let below : j < n = omega (arith, length-map-range_with_len g 0 n) in
    let first : i < n = omega arith in
    let a = get_or-map-range_with_len g 0 n i i d first (omega arith) in
    let b = get_or-map-range_with_len g 0 n j j d below (omega arith) in
    rw (a, b) (each i j before below)

-- each origin leads to the one behind it
leads_by : (page : List ℕ) (g : ℕ → ℕ) (start a m : ℕ) → next_origin page start ≡ g a
    → ((k : ℕ) → a ≤ k → k < a + m → next_origin page (g k) ≡ g (k + 1))
    → Leads page start (map g (range_with_len a m)) (g (a + m))
leads_by page g start a zero first each = first ∙ ap g (let e : a ≡ a + 0 = omega arith in e)
leads_by page g start a (suc m) first each =
    let end : a + 1 + m ≡ a + suc m = omega arith in
    let rest : Leads page (g a) (map g (range_with_len (a + 1) m)) (g (a + 1 + m)) =
    leads_by page g (g a) (a + 1) m (each a (omega arith) (omega arith))
    (λ k low high. each k (omega arith) (omega arith)) in
    (first, subst (λ (k : ℕ). Leads page (g a) (map g (range_with_len (a + 1) m)) (g k)) end rest)

-- the first origin isn't that of the infimum
first_origin : (records : List Pushed) → AreLaid records → 100 ≤ origin_at records 0
first_origin records laid =
    elim (cases_lt 0 (length records)) [
      | inl some ↦
          let facts = origin_facts records 0 laid some in
          let least = facts.least in
          let first = facts.first in
          omega arith
      | inr past ↦ omega (arith, origin_behind records 0 past)
    ]

has_chain : (page : List ℕ) (fields : Fields) (root leftmost : Bool) (marks : ℕ → Bool) (entries : List Entry)
    (packing : Packing)
    → Stands page fields root leftmost marks entries packing
    → IsChain page (packed_chain packing.records)
has_chain page fields root leftmost marks entries packing is =
    let records : List Pushed = packing.records in
    let g : ℕ → ℕ = origin_at records in
    let n : ℕ = length records in
    let laid : AreLaid records = is.laid in
    let top = is.numbers.top in
    let count = is.numbers.count in
    let links : (k : ℕ) → 0 ≤ k → k < 0 + n → next_origin page (g k) ≡ g (k + 1) =
    λ k low high.
    let below : k < n = omega arith in
    let here = origin_fits records k laid in
    let there = origin_fits records (k + 1) laid in
    leads_to page (g k) (g (k + 1)) (is.entry k below).leads (omega arith) (omega arith)
    (origins_differ records k laid below) in
    let start : next_origin page infimum ≡ g 0 =
    leads_to page infimum (g 0) is.ends.first (omega arith) (omega (arith, origin_fits records 0 laid))
    (λ e. omega (arith, first_origin records laid, e)) in
    let end : g (0 + n) ≡ supremum = origin_behind records (0 + n) (omega arith) in
    record {
      counted = length-map-range_with_len g 0 n ∙ sym count;
      origins = all_chain (IsOrigin page) g n
          (λ k below.
          let facts = origin_facts records k laid below in
          let least = facts.least in
          let most = facts.most in
          let first = facts.first in
          let last = facts.last in
          (omega arith, omega arith));
      distinct = pairs_chain (λ a b. a ≢ b) g n
          (λ i j before below same. omega (arith, origins_rise records i j laid before below, same));
      leads = subst (λ (o : ℕ). Leads page infimum (packed_chain records) o) end
          (leads_by page g infimum 0 n start links);
    }

has_free : (page : List ℕ) (fields : Fields) (root leftmost : Bool) (marks : ℕ → Bool) (entries : List Entry)
    (packing : Packing)
    → Stands page fields root leftmost marks entries packing
    → IsFreeList page (packed_chain packing.records) []
has_free page fields root leftmost marks entries packing is =
    let records : List Pushed = packing.records in
    let g : ℕ → ℕ = origin_at records in
    let n : ℕ = length records in
    let laid : AreLaid records = is.laid in
    let chain : List ℕ = packed_chain records in
    let heap = is.numbers.heap in
    let few = few_records n (omega (arith, is.fits)) in
    let size : length chain ≡ n = length-map-range_with_len g 0 n in
    let distinct : AreDistinct chain =
    pairs_chain (λ a b. a ≢ b) g n
    (λ i j before below same. omega (arith, origins_rise records i j laid before below, same)) in
    record {
      origins = All-nil (IsOrigin page);
      distinct = subst (λ (xs : List ℕ). AreDistinct xs) (sym (append-nil chain)) distinct;
      leads = is.numbers.free;
      all = omega (arith, size, heap, few);
    }

has_heap_numbers : (page : List ℕ) (fields : Fields) (root leftmost : Bool) (marks : ℕ → Bool) (entries : List Entry)
    (packing : Packing)
    → Stands page fields root leftmost marks entries packing
    → HasHeapNumbers page (packed_chain packing.records)
has_heap_numbers page fields root leftmost marks entries packing is =
    let records : List Pushed = packing.records in
    let g : ℕ → ℕ = origin_at records in
    let n : ℕ = length records in
    let laid : AreLaid records = is.laid in
    let chain : List ℕ = packed_chain records in
    let heap = is.numbers.heap in
    let few = few_records n (omega (arith, is.fits)) in
    let size : length chain ≡ n = length-map-range_with_len g 0 n in
    record {
      within = all_chain (IsHeapNumber page) g n
          (λ k below.
          let number = (is.entry k below).number in
          (omega (arith, number), omega (arith, number, heap, few)));
      distinct = λ i j d before inside.
          let long : length (map (heap_number page) chain) ≡ n = length-map chain (heap_number page) ∙ size in
          let below : j < n = omega arith in
          let first : i < n = omega arith in
          let a : get_or (map (heap_number page) chain) i d ≡ 2 + i =
          get_or-map (heap_number page) chain i 0 d (omega arith)
          ∙ ap (heap_number page) (get_or-map-range_with_len g 0 n i i 0 first (omega arith))
          ∙ (is.entry i first).number in
          let b : get_or (map (heap_number page) chain) j d ≡ 2 + j =
          get_or-map (heap_number page) chain j 0 d (omega arith)
          ∙ ap (heap_number page) (get_or-map-range_with_len g 0 n j j 0 below (omega arith))
          ∙ (is.entry j below).number in
          λ same. omega (arith, a, b, same);
    }

entry_ends : (page : List ℕ) (fields : Fields) (root leftmost : Bool) (marks : ℕ → Bool) (entries : List Entry)
    (packing : Packing)
    → Stands page fields root leftmost marks entries packing
    → (k : ℕ) → k < length packing.records
    → record_end page (origin_at packing.records k) fields ≡ start_of packing.records (k + 1)
entry_ends page fields root leftmost marks entries packing is =
    let records : List Pushed = packing.records in
    let n : ℕ = length records in
    λ k below.
    let count = is.packed.pushed.count in
    let pushed = pushed_as fields packing.level (marks k) k (entry_at entries k) (pushed_at records k)
    (is.packed.pushed.each k (omega arith)) in
    let long : length (pushed_at records k).bytes ≡ size_of_record fields (entry_at entries k) =
    ap length pushed.bytes
    ∙ length-record_bytes fields (entry_at entries k) (2 + k) (status_on packing.level) (marks k) in
    (is.entry k below).ends ∙ ap (λ (m : ℕ). start_of records k + m) (sym long) ∙ sym (start_more records k below)

lie_apart : (page : List ℕ) (fields : Fields) (root leftmost : Bool) (marks : ℕ → Bool) (entries : List Entry)
    (packing : Packing)
    → Stands page fields root leftmost marks entries packing
    → LieApart page fields (packed_chain packing.records)
lie_apart page fields root leftmost marks entries packing is =
    let records : List Pushed = packing.records in
    let g : ℕ → ℕ = origin_at records in
    let n : ℕ = length records in
    let laid : AreLaid records = is.laid in
    let top = is.numbers.top in
    record {
      within = all_chain (HasRoom page fields) g n
          (λ k below.
          let facts = origin_facts records k laid below in
          let first = facts.first in
          let last = facts.last in
          let starts = (is.entry k below).starts in
          let ends = entry_ends page fields root leftmost marks entries packing is k below in
          let more = start_more records k below in
          record { least = omega arith; most = omega arith });
      apart = pairs_chain (AreApart page fields) g n
          (λ i j before below.
          let first : i < n = omega arith in
          let starts = (is.entry j below).starts in
          let ends = entry_ends page fields root leftmost marks entries packing is i first in
          inl (omega (arith, starts, ends, starts_rise records (i + 1) j (omega arith))));
    }

keys_rise : (page : List ℕ) (fields : Fields) (root leftmost : Bool) (marks : ℕ → Bool) (entries : List Entry)
    (packing : Packing)
    → Stands page fields root leftmost marks entries packing
    → KeysRise page fields (is_lowest_first (is_leaf packing.level) leftmost) (packed_chain packing.records)
keys_rise page fields root leftmost marks entries packing is =
    let records : List Pushed = packing.records in
    let g : ℕ → ℕ = origin_at records in
    let n : ℕ = length records in
    let laid : AreLaid records = is.laid in
    let count = is.packed.pushed.count in
    let size : length (packed_chain records) ≡ n = length-map-range_with_len g 0 n in
    λ k inside.
    let more : k + 1 < n = omega arith in
    let below : k < n = omega arith in
    let key_at : (i : ℕ) → i < n
    → key_of page (get_or (packed_chain records) i 0) fields ≡ key_of_parts fields (entry_at entries i) =
    λ i in'.
    ap (λ (o : ℕ). key_of page o fields) (get_or-map-range_with_len g 0 n i i 0 in' (omega arith))
    ∙ (is.entry i in').read.key in
    let here = key_at k below in
    let next = key_at (k + 1) more in
    elim (is.packed.rise k (omega arith)) [
      | inl lowest ↦ inl lowest
      | inr before ↦ inr (rw (here, next) before)
    ]

is_index_page : (page : List ℕ) (fields : Fields) (root leftmost : Bool) (marks : ℕ → Bool) (entries : List Entry)
    (packing : Packing)
    → Stands page fields root leftmost marks entries packing
    → IsIndexPage page fields (is_leaf packing.level) root leftmost (packed_chain packing.records)
is_index_page page fields root leftmost marks entries packing is =
    let records : List Pushed = packing.records in
    let g : ℕ → ℕ = origin_at records in
    let n : ℕ = length records in
    let laid : AreLaid records = is.laid in
    let chain : List ℕ = packed_chain records in
    let none : chain ≡ chain ++ [] = sym (append-nil chain) in
    let count = is.packed.pushed.count in
    let size : length chain ≡ n = length-map-range_with_len g 0 n in
    record {
      header = has_header page packing is.numbers is.fits;
      ends = is.ends.has_ends;
      is_chain = has_chain page fields root leftmost marks entries packing is;
      free = [];
      is_free = has_free page fields root leftmost marks entries packing is;
      heap_numbers = subst (λ (xs : List ℕ). HasHeapNumbers page xs) none
          (has_heap_numbers page fields root leftmost marks entries packing is);
      directory = is.directory;
      kinds = all_chain (HasKind page (is_leaf packing.level)) g n (λ k below. (is.entry k below).status);
      spelled = subst (λ (xs : List ℕ). AreSpelled page fields xs) none
          (all_chain (λ o. IsSpelled page o fields) g n (λ k below. (is.entry k below).read.spelled));
      room = subst (λ (xs : List ℕ). LieApart page fields xs) none
          (lie_apart page fields root leftmost marks entries packing is);
      some_record = λ empty. is.packed.some_entry (omega arith);
      rise = keys_rise page fields root leftmost marks entries packing is;
    }

holds_records : (page : List ℕ) (fields : Fields) (root leftmost : Bool) (marks : ℕ → Bool) (entries : List Entry)
    (packing : Packing) → Stands page fields root leftmost marks entries packing
    → HoldsRecords page fields (is_leaf packing.level) root leftmost marks entries
holds_records page fields root leftmost marks entries packing is =
    let records : List Pushed = packing.records in
    let g : ℕ → ℕ = origin_at records in
    let n : ℕ = length records in
    let laid : AreLaid records = is.laid in
    let leaf : Bool = is_leaf packing.level in
    let chain : List ℕ = packed_chain records in
    let count = is.packed.pushed.count in
    let same : chain ≡ records_of page =
    chain_is page chain (has_chain page fields root leftmost marks entries packing is) in
    let place : (k : ℕ) → k < n → g k ≡ get_or (records_of page) k 0 =
    λ k below.
    sym (get_or-map-range_with_len g 0 n k k 0 below (omega arith)) ∙ ap (λ (xs : List ℕ). get_or xs k 0) same in
    record {
      is_page = subst (λ (xs : List ℕ). IsIndexPage page fields leaf root leftmost xs) same
          (is_index_page page fields root leftmost marks entries packing is);
      count = is.numbers.count ∙ count;
      read = λ k inside.
          let below : k < n = omega arith in
          subst (λ (o : ℕ). AreReadAs page o fields (entry_at entries k)) (place k below) (is.entry k below).read;
      live = λ k inside.
          let below : k < n = omega arith in
          subst (λ (o : ℕ). is_deleted page o ≡ false) (place k below) (is.entry k below).live;
      marked = λ k inside.
          let below : k < n = omega arith in
          subst (λ (o : ℕ). is_minimum page o ≡ marks k) (place k below) (is.entry k below).mark;
    }

-- the marks of a page of a tree
has_mark : (page : List ℕ) (fields : Fields) (leaf root leftmost : Bool) (entries : List Entry)
    → HoldsRecords page fields leaf root leftmost (lowest_mark (is_lowest_first leaf leftmost)) entries
    → HasMinimumMark page leaf leftmost (records_of page)
has_mark page fields leaf root leftmost entries held k inside =
    let lowest : Bool = is_lowest_first leaf leftmost in
    let count = held.count in
    let counted = held.is_page.is_chain.counted in
    let mark : is_minimum page (get_or (records_of page) k 0) ≡ (lowest && (k == 0)) = held.marked k (omega arith) in (
      λ marked.
          let parts = and_parts lowest (k == 0) (sym mark ∙ marked) in (eqb-true k 0 parts.1, parts.0),
      λ first. mark ∙ and_from lowest (k == 0) first.1 (eq-eqb k 0 first.0),
    )

-- what was pushed is held by its page
pub packs_pushed : PacksPushed
packs_pushed packing page prev next index_id heads room has fields root leftmost marks entries is suit =
    holds_records page fields root leftmost marks entries packing
    (stands_packed page fields root leftmost marks entries packing prev next index_id heads
    (suited_entries fields root leftmost marks entries packing is room suit) has)

pub packs_index_page : PacksIndexPage
unfolding packing_with
packs_index_page page fields level root leftmost entries prev next index_id heads make has =
    let marks : ℕ → Bool = lowest_mark (is_lowest_first (is_leaf level) leftmost) in
    let packing : Packing = packing_with fields level marks entries in
    let held : HoldsRecords page fields (is_leaf level) root leftmost marks entries =
    holds_records page fields root leftmost marks entries packing
    (stands_packed page fields root leftmost marks entries packing prev next index_id heads
    (packed_entries fields level root leftmost marks entries make) has) in
    record { held = held; mark = has_mark page fields (is_leaf level) root leftmost entries held }

pub packs_whole_page : PacksWholePage
packs_whole_page fields level root leftmost entries prev next index_id heads make =
    let marks : ℕ → Bool = lowest_mark (is_lowest_first (is_leaf level) leftmost) in
    let packing : Packing = packing_with fields level marks entries in
    let packed : ArePacked fields root leftmost marks entries packing =
    packed_entries fields level root leftmost marks entries make in
    let whole = are_whole fields packing.level marks entries packing.records packed.pushed in
    length-packed_page packing prev next index_id heads whole packed.fit
