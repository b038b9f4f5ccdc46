-- The pages of an externally stored value (btr0cur).
use Rattle.std.specs.Prelude.{◌≡◌, ℕ, zero, suc, ◌+◌, ◌-◌, ◌<◌, ◌≤◌, ◌==◌, if◌then◌else◌}
use Rattle.std.specs.Prelude.{List, [], ◌∷◌, length, flat_map, sum_by, All, slice_index, slice_range}
use Rattle.page_source.specs.Pages.{page_of, num, fil_null}
use Rattle.page_source.specs.Lists.{after_place}
use Rattle.fil_frame.specs.Kinds.{blob_kind}
use Rattle.fil_frame.specs.Frame.{space_of}
use Rattle.space_audit.specs.Space.{IsPageOf}
use Rattle.offpage_chain.specs.declared.reference.Reference.{Reference}

-- how many bytes of the value a page has, the page that goes on, and these bytes
abbrev pub part_length : List ℕ → ℕ
part_length page = num page 38 4

abbrev pub next_part : List ℕ → ℕ
next_part page = num page 42 4

abbrev pub part_bytes : List ℕ → List ℕ
part_bytes page = slice_range page 46 (46 + part_length page)

-- the pages from this one on that have the next `left` bytes, at most `most` of them
abbrev pub pages_from : List ℕ → ℕ → ℕ → ℕ → List ℕ
pages_from file zero n left = []
pages_from file (suc most) n left =
    if left == 0 then []
    else n ∷ pages_from file most (next_part (page_of file n)) (left - part_length (page_of file n))

-- the pages of a chain; each has a byte at least
unfoldable pub chain_pages : List ℕ → Reference → List ℕ
chain_pages file reference = pages_from file reference.length reference.page reference.length

-- the bytes on these pages, and their number
unfoldable pub bytes_on : List ℕ → List ℕ → List ℕ
bytes_on file pages = flat_map (λ n. part_bytes (page_of file n)) pages

unfoldable pub total_on : List ℕ → List ℕ → ℕ
total_on file pages = sum_by (λ n. part_length (page_of file n)) pages

-- how many bytes a page may have
abbrev pub IsPartLength : ℕ → Type 0
IsPartLength length = (1 ≤ length) × (length ≤ 16330)

-- a page of externally stored values that this segment uses
abbrev pub IsBlobPage : List ℕ → ℕ → ℕ → Type 0
IsBlobPage file segment n = IsPageOf file segment blob_kind n

-- the reference is to a page of this space
abbrev pub RefersHere : List ℕ → Reference → Type 0
RefersHere file reference = (reference.space ≡ space_of (page_of file 0)) × (reference.offset ≡ 38)

-- the reference leads along these pages, whose parts are the stated length
pub record IsChain (file : List ℕ) (segment : ℕ) (reference : Reference) (pages : List ℕ) : Type 0 where
  pub here : RefersHere file reference
  pub some_page : 1 ≤ length pages
  pub first : slice_index pages 0 ≡ reference.page
  pub next : (k : ℕ) → k < length pages
      → next_part (page_of file (slice_index pages k)) ≡ after_place fil_null pages k
  pub parts : All (λ n. IsPartLength (part_length (page_of file n))) pages
  pub total : total_on file pages ≡ reference.length
  pub blobs : All (IsBlobPage file segment) pages
