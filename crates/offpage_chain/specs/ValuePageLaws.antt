-- Laws of the pages of a value, each the contract of a function in a module of laws.
use Rattle.std.specs.Prelude.{◌≡◌, ℕ, ◌^◌, ◌<◌, ◌≤◌, List, length, slice_index, All, Some}
use Rattle.page_source.specs.Pages.{page_of, page_count, page_size, num, fil_null}
use Rattle.page_source.specs.Objects.{PageMap, file_of}
use Rattle.page_source.specs.Sources.{AreWhole}
use Rattle.fil_frame.specs.Kinds.{blob_kind}
use Rattle.fil_frame.specs.Frame.{previous_page, next_page, kind_of, IsFramed}
use Rattle.space_header.specs.Header.{size_of}
use Rattle.space_audit.specs.Owners.{IsUsedBy}
use Rattle.offpage_chain.specs.declared.reference.Reference.{Reference}
use Rattle.offpage_chain.specs.Chain.{part_length, next_part, part_bytes, chain_pages, bytes_on, RefersHere, IsChain}
use Rattle.offpage_chain.specs.Reader.{GoesOn}
use Rattle.offpage_chain.specs.ValuePage.{pages_for, part_page, value_page}
use Rattle.offpage_chain.specs.Writing.{HoldsParts, HoldsAllBut}

-- what is read of a page: it is page n of a space, a BLOB page with this part that leads to that page
pub record IsPartPage (page : List ℕ) (space n next : ℕ) (part : List ℕ) : Type 0 where
  pub whole : length page ≡ page_size
  pub framed : IsFramed page n space
  pub has_lsn : num page 16 8 ≡ 1
  pub has_kind : kind_of page ≡ blob_kind
  pub no_previous : previous_page page ≡ 0
  pub no_next : next_page page ≡ 0
  pub size : part_length page ≡ length part
  pub next_is : next_part page ≡ next
  pub bytes_are : part_bytes page ≡ part

-- a page of a part is read as it was written
abbrev pub PartPagesAreRead : Type 0
PartPagesAreRead =
    (space n next : ℕ) (part : List ℕ) → space < 2 ^ 32 → n < 2 ^ 32 → next < 2 ^ 32 → length part ≤ 16330
    → IsPartPage (part_page space n next part) space n next part

-- the pages of a file with these numbers are those of a value
pub record HasValuePages (file : List ℕ) (space : ℕ) (numbers bytes : List ℕ) : Type 0 where
  pub space_fits : space < 2 ^ 32
  pub count : length numbers ≡ pages_for (length bytes)
  pub are_pages : All (λ n. n < fil_null) numbers
  pub pages : (k : ℕ) → k < length numbers → page_of file (slice_index numbers k) ≡ value_page space numbers bytes k

-- the reference is to the first of these pages, for so many bytes
pub record IsReferenceTo (reference : Reference) (numbers bytes : List ℕ) : Type 0 where
  pub first : reference.page ≡ slice_index numbers 0
  pub size : reference.length ≡ length bytes

-- the reference leads along exactly these pages to these bytes: the bytes can be read if the file has the pages, and
-- the pages are a chain of a segment that uses them
pub record LeadsAlong (file : List ℕ) (reference : Reference) (numbers bytes : List ℕ) : Type 0 where
  pub pages : chain_pages file reference ≡ numbers
  pub bytes_are : bytes_on file numbers ≡ bytes
  pub goes_on : All (λ n. n < page_count file) numbers → GoesOn file reference.page reference.length numbers
  pub chain : (segment : ℕ) → 1 ≤ length bytes → RefersHere file reference
      → All (λ n. (n < size_of file) × IsUsedBy file segment n) numbers → IsChain file segment reference numbers

-- the pages of a value are the chain of its reference
abbrev pub ValuePagesAreChain : Type 0
ValuePagesAreChain =
    (file : List ℕ) (space : ℕ) (numbers bytes : List ℕ) (reference : Reference)
    → HasValuePages file space numbers bytes → IsReferenceTo reference numbers bytes
    → LeadsAlong file reference numbers bytes

-- a map in which the pages of a value were put has whole pages as before, and so has its file, with those of the value
abbrev pub HeldPartsArePages : Type 0
HeldPartsArePages =
    (size space : ℕ) (old held : PageMap) (numbers bytes : List ℕ)
    → space < 2 ^ 32 → length numbers ≡ pages_for (length bytes) → size ≤ fil_null → All (λ n. n < size) numbers
    → AreWhole old → HoldsAllBut numbers (Some old) (Some held)
    → HoldsParts held space numbers bytes (length numbers)
    → AreWhole held × HasValuePages (file_of size held) space numbers bytes
