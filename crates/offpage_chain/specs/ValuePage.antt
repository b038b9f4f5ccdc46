-- The pages of a value that goes on off the page of its record, as they are written.
use Rattle.std.specs.Prelude.{ℕ, ◌+◌, ◌*◌, ◌/◌, List, ◌++◌, length, replicate, slice_index, slice_range}
use Rattle.page_source.specs.Pages.{page_size, fil_null, be_bytes, with_bytes}
use Rattle.page_source.specs.Lists.{after_place}
use Rattle.fil_frame.specs.Kinds.{blob_kind}
use Rattle.fil_frame.specs.Frame.{sealed}

-- how many pages hold so many bytes, and part k of the bytes
abbrev pub pages_for : ℕ → ℕ
pages_for length = (length + 16329) / 16330

abbrev pub blob_part : List ℕ → ℕ → List ℕ
blob_part bytes k = slice_range bytes (16330 * k) (16330 * k + 16330)

-- a part of a value behind its length and the number of the page that goes on
abbrev pub part_body : List ℕ → ℕ → List ℕ
part_body part next = be_bytes 4 (length part) ++ be_bytes 4 next ++ part

-- page n of a space with this part, and zeros elsewhere
unfoldable pub part_page : ℕ → ℕ → ℕ → List ℕ → List ℕ
part_page space n next part = sealed (with_bytes (replicate page_size 0) 38 (part_body part next)) n space 1 blob_kind

-- the page of part k of some bytes, where their pages have these numbers in order
abbrev pub value_page : ℕ → List ℕ → List ℕ → ℕ → List ℕ
value_page space numbers bytes k =
    part_page space (slice_index numbers k) (after_place fil_null numbers k) (blob_part bytes k)
