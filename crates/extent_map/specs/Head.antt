-- What holds of page 0 before anything else is read (fsp0fsp).
use Rattle.std.specs.Prelude.{◌≡◌, ℕ, ◌-◌, ◌*◌, ◌/◌, ◌%◌, ◌<◌, ◌≤◌, List, Option}
use Rattle.page_source.specs.declared.rule.Rule.TheVariants.{FileSize, HeadFrame, HeadType, HeadSpace, HeadFlags}
use Rattle.page_source.specs.declared.rule.Rule.TheVariants.{HeadSize, HeadLimit}
use Rattle.page_source.specs.declared.rule.Fault.{Fault}
use Rattle.page_source.specs.Pages.{page_of, page_count}
use Rattle.page_source.specs.Verdict.{Then}
use Rattle.page_source.specs.Answers.{Holds}
use Rattle.fil_frame.specs.Kinds.{header_kind}
use Rattle.fil_frame.specs.Frame.{IsFramed, Framed, kind_of, space_of}
use Rattle.space_header.specs.declared.header.SpaceHeader.{SpaceHeader}
use Rattle.space_header.specs.Header.{header_space, stated_size, free_limit, space_flags, size_of, limit_of, head_of}

-- flags without bit 10, the one for DATA DIRECTORY
abbrev pub without_data_directory : ℕ → ℕ
without_data_directory flags = flags - 1024 * (flags / 1024 % 2)

-- without the bit for DATA DIRECTORY the flags of the page are these
abbrev pub HasFlags : List ℕ → ℕ → Type 0
HasFlags page flags = without_data_directory (space_flags page) ≡ flags

-- the stated size is within the file
pub record IsSize (size pages : ℕ) : Type 0 where
  pub least : 4 ≤ size
  pub most : size ≤ 4194304
  pub within : size ≤ pages

-- the free limit goes with the size
pub record IsLimit (size limit : ℕ) : Type 0 where
  pub whole : limit % 64 ≡ 0
  pub short : size < 64 → limit ≡ 64
  pub least : 64 ≤ size → 64 ≤ limit
  pub most : 64 ≤ size → limit ≤ size

-- the checks of page 0 of a file of so many pages
unfoldable pub HeaderChecks : List ℕ → ℕ → ℕ → Option Fault → Type 0
HeaderChecks page pages flags =
    Then (Holds HeadFrame 0 (IsFramed page 0 (space_of page)))
    (Then (Holds HeadType 0 (kind_of page ≡ header_kind))
    (Then (Holds HeadSpace 0 (space_of page ≡ header_space page))
    (Then (Holds HeadFlags 0 (HasFlags page flags))
    (Then (Holds HeadSize 0 (IsSize (stated_size page) pages))
    (Holds HeadLimit 0 (IsLimit (stated_size page) (free_limit page)))))))

-- the checks of the head of a file
abbrev pub HeadChecks : List ℕ → ℕ → Option Fault → Type 0
HeadChecks file flags = Then (Holds FileSize 0 (4 ≤ page_count file)) (HeaderChecks (page_of file 0)
    (page_count file) flags)

-- the head is that of a tablespace with these flags
pub record IsHead (file : List ℕ) (flags : ℕ) : Type 0 where
  pub pages : 4 ≤ page_count file
  pub framed : Framed file 0
  pub kind : kind_of (page_of file 0) ≡ header_kind
  pub space : space_of (page_of file 0) ≡ header_space (page_of file 0)
  pub has_flags : HasFlags (page_of file 0) flags
  pub size : IsSize (size_of file) (page_count file)
  pub limit : IsLimit (size_of file) (limit_of file)

-- the header of a space may be followed: its size and its limit are in their ranges
pub record HasBounds (header : SpaceHeader) : Type 0 where
  pub least : 4 ≤ header.size
  pub most : header.size ≤ 4194304
  pub limit : IsLimit header.size header.limit

-- the header is that of a file, of which the rules of the head hold
pub record HasHeader (file : List ℕ) (header : SpaceHeader) : Type 0 where
  pub same : header ≡ head_of file
  pub space : space_of (page_of file 0) ≡ header.space
  pub within : header.size ≤ page_count file
