-- Pages that the descriptors call free (fsp0fsp). What a lost descriptor page said nobody knows: its pages count as
-- used.
use Rattle.std.specs.Prelude.{◌≡◌, ◌≢◌, ◌≤◌, ◌⊎◌, ℕ, ◌+◌, ◌/◌, ◌%◌, ◌==◌, if◌then◌else◌, Bool, false, List}
use Rattle.page_source.specs.Pages.{page_of}
use Rattle.fil_frame.specs.Kinds.{header_kind, descriptor_kind}
use Rattle.fil_frame.specs.Frame.{kind_of}
use Rattle.space_header.specs.Header.{free_limit}
use Rattle.extent_map.specs.Extents.{descriptor_page, descriptor_byte, is_bit_clear}
use Rattle.leaf_salvage.specs.Standing.{Stands}

-- the page with the descriptor of page n, and the type that it must have
abbrev pub map_page : ℕ → ℕ
map_page n = descriptor_page (n / 64)

abbrev pub map_kind : ℕ → ℕ
map_kind d = if d == 0 then header_kind else descriptor_kind

-- page d was fetched, stands and has this type
pub record IsMap (file : List ℕ) (missed : ℕ → Bool) (d : ℕ) : Type 0 where
  pub read : missed d ≡ false
  pub stands : Stands (page_of file d) d
  pub kind : kind_of (page_of file d) ≡ map_kind d

-- the first of page n's two bits is 0: it is used
abbrev pub is_clear_on : List ℕ → ℕ → Bool
is_clear_on map n = is_bit_clear map (descriptor_byte (n / 64) + 24) (n % 64)

-- the descriptor of page n calls it free; a descriptor page says nothing of itself
pub record IsMarkedFree (file : List ℕ) (missed : ℕ → Bool) (n : ℕ) : Type 0 where
  pub other : n ≢ map_page n
  pub map : IsMap file missed (map_page n)
  pub free : is_clear_on (page_of file (map_page n)) n ≡ false

-- page n isn't below the free limit
pub record IsPastLimit (file : List ℕ) (missed : ℕ → Bool) (n : ℕ) : Type 0 where
  pub other : n ≢ 0
  pub map : IsMap file missed 0
  pub past : free_limit (page_of file 0) ≤ n

-- a page that is known to be free
abbrev pub IsUnused : List ℕ → (ℕ → Bool) → ℕ → Type 0
IsUnused file missed n = IsMarkedFree file missed n ⊎ IsPastLimit file missed n
