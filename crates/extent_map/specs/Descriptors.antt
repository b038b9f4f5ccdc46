-- The checks of the descriptor pages and of the extents on each.
use Rattle.std.specs.Prelude.{◌≡◌, ℕ, ◌+◌, ◌-◌, ◌*◌, ◌/◌, ◌%◌, ◌<◌, ◌≤◌, min, true, List, All, Option}
use Rattle.page_source.specs.declared.rule.Rule.TheVariants.{XdesFrame, XdesType, ExtentState, ExtentUse, ExtentPastEnd}
use Rattle.page_source.specs.declared.rule.Rule.TheVariants.{ExtentSystem}
use Rattle.page_source.specs.declared.rule.Fault.{Fault}
use Rattle.page_source.specs.Pages.{page_of}
use Rattle.page_source.specs.Verdict.{Then, Where, Each}
use Rattle.page_source.specs.Answers.{Holds}
use Rattle.fil_frame.specs.Kinds.{descriptor_kind}
use Rattle.fil_frame.specs.Frame.{Framed, kind_of}
use Rattle.space_header.specs.Header.{size_of, limit_of}
use Rattle.extent_map.specs.Extents.{extent_count, extent_state, descriptor_page, used_in, used_count}
use Rattle.extent_map.specs.Extents.{is_fragment_extent, IsUsed}

-- FREE, FREE_FRAG, FULL_FRAG and FSEG
abbrev pub IsState : ℕ → Type 0
IsState state = (1 ≤ state) × (state ≤ 4)

-- how many pages of an extent may be used in a state
pub record FitsUse (state count : ℕ) : Type 0 where
  pub free : state ≡ 1 → count ≡ 0
  pub some_used : state ≡ 2 → 0 < count
  pub some_free : state ≡ 2 → count < 64
  pub full : state ≡ 3 → count ≡ 64

-- the first extent of a descriptor page has that page and the bitmap page
pub record HasSystemPages (file : List ℕ) (extent : ℕ) : Type 0 where
  pub fragment : is_fragment_extent file extent ≡ true
  pub descriptor : IsUsed file (64 * extent)
  pub bitmap : IsUsed file (64 * extent + 1)

-- the checks of one extent
unfoldable pub ExtentChecks : List ℕ → ℕ → Option Fault → Type 0
ExtentChecks file extent =
    Then (Holds ExtentState (descriptor_page extent) (IsState (extent_state file extent)))
    (Then (Holds ExtentUse (descriptor_page extent) (FitsUse (extent_state file extent) (used_count file extent)))
    (Then (Holds ExtentPastEnd (descriptor_page extent) (All (λ n. n < size_of file) (used_in file extent)))
    (Holds ExtentSystem (descriptor_page extent) (extent % 256 ≡ 0 → HasSystemPages file extent))))

-- a page is framed, and has the type of a later descriptor page
abbrev pub IsDescriptorPage : List ℕ → ℕ → Type 0
IsDescriptorPage file n = Framed file n × (kind_of (page_of file n) ≡ descriptor_kind)

-- the checks of a later descriptor page
abbrev pub DescriptorPageChecks : List ℕ → ℕ → Option Fault → Type 0
DescriptorPageChecks file n = Then (Holds XdesFrame n (Framed file n)) (Holds XdesType n (kind_of
    (page_of file n) ≡ descriptor_kind))

-- how many descriptor pages there are, and how many extents stand on page k of them
abbrev pub descriptor_pages : List ℕ → ℕ
descriptor_pages file = (limit_of file + 16383) / 16384

abbrev pub extents_on : List ℕ → ℕ → ℕ
extents_on file k = min 256 (extent_count file - 256 * k)

-- the checks of extent i of page k
abbrev pub ExtentCheckOn : List ℕ → ℕ → ℕ → Option Fault → Type 0
ExtentCheckOn file k i = ExtentChecks file (256 * k + i)

-- the checks of descriptor page k and its extents
unfoldable pub DescriptorChecks : List ℕ → ℕ → Option Fault → Type 0
DescriptorChecks file k =
    Then (Where (0 < k) (DescriptorPageChecks file (16384 * k)))
    (Each (extents_on file k) (ExtentCheckOn file k))

-- the checks of all descriptor pages and their extents
abbrev pub AllDescriptorChecks : List ℕ → Option Fault → Type 0
AllDescriptorChecks file = Each (descriptor_pages file) (DescriptorChecks file)

-- an extent is as its state says
pub record IsExtent (file : List ℕ) (extent : ℕ) : Type 0 where
  pub state : IsState (extent_state file extent)
  pub fits : FitsUse (extent_state file extent) (used_count file extent)
  pub within : All (λ n. n < size_of file) (used_in file extent)
  pub system : extent % 256 ≡ 0 → HasSystemPages file extent
