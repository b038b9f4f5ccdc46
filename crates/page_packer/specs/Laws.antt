-- The page of entries of one field list whose keys rise is an index page with these entries.
use Rattle.std.specs.Prelude.{◌≡◌, ℕ, ◌^◌, ◌<◌, ⊤, Bool, true, false, List, [], ◌∷◌, ◌++◌, length, slice_index}
use Rattle.std.specs.Prelude.{slice_range}
use Rattle.std.specs.Prelude.{Option, Some, None}
use Rattle.page_source.specs.Pages.{num}
use Rattle.fil_frame.specs.Frame.{previous_page, next_page, Seals, sealed}
use Rattle.column_values.specs.Types.{Fields, AreOfOneIndex}
use Rattle.compact_record.specs.Header.{is_minimum, is_deleted}
use Rattle.compact_record.specs.Writing.{FitFields, size_of_record, key_of_parts, child_of_parts}
use Rattle.compact_record.specs.Laws.{AreReadAs}
use Rattle.index_page.specs.Header.{record_count, records_of, level_of, index_id_of}
use Rattle.index_page.specs.Page.{is_lowest_first, IsIndexPage, HasMinimumMark}
use Rattle.page_packer.specs.declared.packer.Heads.{Heads}
use Rattle.page_packer.specs.Packing.{Packing, is_leaf, none_packed, with_record, total_size, sizes_fit, fits_more}
use Rattle.page_packer.specs.Packing.{packed_page}
use Rattle.page_packer.specs.Entries.{Entry, entry_at, entries_fit, packing_with, lowest_mark, page_of_entries}
use Rattle.page_packer.specs.Entries.{SuitPage, MakePage, pointer_to}

-- the page has the links and the body of another one, whatever its frame
pub record HasBodyOf (other page : List ℕ) : Type 0 where
  pub links : slice_range page 8 16 ≡ slice_range other 8 16
  pub body : slice_range page 38 16376 ≡ slice_range other 38 16376

-- the page is an index page whose records are these entries, each with the minimum mark if it has one, and none of
-- them is deleted
pub record HoldsRecords (page : List ℕ) (fields : Fields) (leaf root leftmost : Bool) (marks : ℕ → Bool)
    (entries : List Entry) : Type 0 where
  pub is_page : IsIndexPage page fields leaf root leftmost (records_of page)
  pub count : record_count page ≡ length entries
  pub read : (k : ℕ) → k < length entries → AreReadAs page (slice_index (records_of page) k) fields (entry_at entries k)
  pub live : (k : ℕ) → k < length entries → is_deleted page (slice_index (records_of page) k) ≡ false
  pub marked : (k : ℕ) → k < length entries → is_minimum page (slice_index (records_of page) k) ≡ marks k

-- the page of a packing holds what was pushed: any entries that suit it, whichever of them have the minimum mark
abbrev pub HoldsPushed : Packing → List ℕ → Type 0
HoldsPushed packing page =
    (fields : Fields) (root leftmost : Bool) (marks : ℕ → Bool) (entries : List Entry)
    → packing ≡ packing_with fields packing.level marks entries → SuitPage fields packing.level root leftmost entries
    → HoldsRecords page fields (is_leaf packing.level) root leftmost marks entries

-- if what was pushed fits, the page of a packing holds it, also when the page is sealed
abbrev pub PacksPushed : Type 0
PacksPushed =
    (packing : Packing) (page : List ℕ) (prev next index_id : ℕ) (heads : Option Heads)
    → sizes_fit (length packing.records) (total_size packing.records) ≡ true
    → HasBodyOf (packed_page packing prev next index_id heads) page → HoldsPushed packing page

-- the page holds these entries, and has the minimum mark where a page of a tree has it
pub record HoldsEntries (page : List ℕ) (fields : Fields) (leaf root leftmost : Bool) (entries : List Entry)
    : Type 0 where
  pub held : HoldsRecords page fields leaf root leftmost (lowest_mark (is_lowest_first leaf leftmost)) entries
  pub mark : HasMinimumMark page leaf leftmost (records_of page)

-- the entries of a page are held by it, also when it is sealed
abbrev pub PacksIndexPage : Type 0
PacksIndexPage =
    (page : List ℕ) (fields : Fields) (level : ℕ) (root leftmost : Bool) (entries : List Entry)
    (prev next index_id : ℕ) (heads : Option Heads)
    → MakePage fields level root leftmost entries
    → HasBodyOf (page_of_entries fields level leftmost entries prev next index_id heads) page
    → HoldsEntries page fields (is_leaf level) root leftmost entries

-- the page of entries is a whole page
abbrev pub PacksWholePage : Type 0
PacksWholePage =
    (fields : Fields) (level : ℕ) (root leftmost : Bool) (entries : List Entry) (prev next index_id : ℕ)
    (heads : Option Heads)
    → MakePage fields level root leftmost entries
    → length (page_of_entries fields level leftmost entries prev next index_id heads) ≡ 16384

-- to push entries one after another is to push them all, with whichever marks
pub record PushesInOrder (fields : Fields) (level : ℕ) (marks : ℕ → Bool) (entries : List Entry) (entry : Entry)
    : Type 0 where
  pub none : none_packed level ≡ packing_with fields level marks []
  pub more : with_record (packing_with fields level marks entries) fields entry (marks (length entries))
      ≡ packing_with fields level marks (entries ++ entry ∷ [])
  pub fits : fits_more (packing_with fields level marks entries) (size_of_record fields entry)
      ≡ entries_fit fields (entries ++ entry ∷ [])

abbrev pub PushesEntries : Type 0
PushesEntries =
    (fields : Fields) (level : ℕ) (marks : ℕ → Bool) (entries : List Entry) (entry : Entry)
    → PushesInOrder fields level marks entries entry

-- what a pointer to page n says, whose first entry is known
pub record IsPointer (lower upper : Fields) (first : Entry) (n : ℕ) : Type 0 where
  pub fit : FitFields upper (pointer_to lower.keys first n)
  pub key : key_of_parts upper (pointer_to lower.keys first n) ≡ key_of_parts lower first
  pub child : child_of_parts upper (pointer_to lower.keys first n) ≡ n

-- pointers to leaves, and pointers to pages of pointers, fit node pointers and have the key of that entry
abbrev pub PointersPoint : Type 0
PointersPoint =
    (leaf node : Fields) (first : Entry) (n : ℕ) → AreOfOneIndex leaf node → n < 2 ^ 32
    → (FitFields leaf first → IsPointer leaf node first n) × (FitFields node first → IsPointer node node first n)

-- the numbers of the segment headers fit
pub record HeadsFit (heads : Heads) : Type 0 where
  pub space : heads.space < 2 ^ 32
  pub inode_page : heads.page < 2 ^ 32
  pub leaf : heads.leaf < 2 ^ 16
  pub top : heads.top < 2 ^ 16

-- a page's two segment headers name these inodes
pub record NamesInodes (page : List ℕ) (heads : Heads) : Type 0 where
  pub leaf_space : num page 74 4 ≡ heads.space
  pub leaf_page : num page 78 4 ≡ heads.page
  pub leaf_offset : num page 82 2 ≡ heads.leaf
  pub top_space : num page 84 4 ≡ heads.space
  pub top_page : num page 88 4 ≡ heads.page
  pub top_offset : num page 92 2 ≡ heads.top

abbrev pub HaveRoom : Option Heads → Type 0
HaveRoom None = ⊤
HaveRoom (Some heads) = HeadsFit heads

abbrev pub HasHeads : List ℕ → Option Heads → Type 0
HasHeads page None = ⊤
HasHeads page (Some heads) = NamesInodes page heads

-- the numbers that a page is packed with fit their fields
pub record NumbersFit (level prev next index_id : ℕ) (heads : Option Heads) : Type 0 where
  pub level_fits : level < 2 ^ 16
  pub prev_fits : prev < 2 ^ 32
  pub next_fits : next < 2 ^ 32
  pub id_fits : index_id < 2 ^ 64
  pub heads_fit : HaveRoom heads

-- the page has these numbers
pub record HasNumbers (page : List ℕ) (level prev next index_id : ℕ) (heads : Option Heads) : Type 0 where
  pub has_level : level_of page ≡ level
  pub has_prev : previous_page page ≡ prev
  pub has_next : next_page page ≡ next
  pub has_id : index_id_of page ≡ index_id
  pub has_heads : HasHeads page heads

-- a page has the numbers that it was packed with, also when it is sealed
abbrev pub PacksNumbers : Type 0
PacksNumbers =
    (page : List ℕ) (fields : Fields) (level : ℕ) (root leftmost : Bool) (entries : List Entry)
    (prev next index_id : ℕ) (heads : Option Heads)
    → MakePage fields level root leftmost entries → NumbersFit level prev next index_id heads
    → HasBodyOf (page_of_entries fields level leftmost entries prev next index_id heads) page
    → HasNumbers page level prev next index_id heads

-- a page has its own body
abbrev pub HasOwnBody : Type 0
HasOwnBody = (page : List ℕ) → HasBodyOf page page

-- sealing a page keeps its body
abbrev pub SealingKeepsBody : Type 0
SealingKeepsBody =
    (other page : List ℕ) (n space lsn kind : ℕ) → Seals other page n space lsn kind → HasBodyOf other page

-- the sealed page has the body of the page, if its numbers fit their fields
abbrev pub SealedHasBody : Type 0
SealedHasBody =
    (page : List ℕ) (n space lsn kind : ℕ) → length page ≡ 16384 → n < 2 ^ 32 → space < 2 ^ 32 → lsn < 2 ^ 64
    → kind < 2 ^ 16 → HasBodyOf page (sealed page n space lsn kind)
