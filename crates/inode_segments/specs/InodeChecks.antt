-- The checks of the inode lists and of the inodes. `is_fragment` says of a page that it is a used page
-- of a fragment extent and no system page.
use Rattle.std.specs.Prelude.{◌≡◌, ℕ, zero, suc, ◌<◌, Bool, true, false, List, [], ◌++◌, length, map, All, Contains}
use Rattle.std.specs.Prelude.{Option, Some, None}
use Rattle.page_source.specs.declared.rule.Rule.TheVariants.{InodeList, InodeFrame, InodeType, InodeFill, SegmentMagic}
use Rattle.page_source.specs.declared.rule.Rule.TheVariants.{SegmentId}
use Rattle.page_source.specs.declared.rule.Fault.{Fault}
use Rattle.page_source.specs.Pages.{page_of}
use Rattle.page_source.specs.Verdict.{Then, EachOf, Along}
use Rattle.page_source.specs.Answers.{Holds}
use Rattle.fil_frame.specs.Kinds.{inode_kind}
use Rattle.fil_frame.specs.Frame.{IsFramed, Framed, kind_of, space_of}
use Rattle.space_header.specs.declared.address.Address.{Address}
use Rattle.space_header.specs.declared.address.Base.{Base}
use Rattle.space_header.specs.declared.header.SpaceHeader.{SpaceHeader}
use Rattle.space_header.specs.Header.{node_at, head_of, size_of, IsNull}
use Rattle.page_source.specs.Lists.{AreDistinct}
use Rattle.space_header.specs.Linked.{Linked}
use Rattle.inode_segments.specs.Inodes.{step_address, stepped_pages, page_node, page_address, used_places, full_pages}
use Rattle.inode_segments.specs.Inodes.{free_pages, segments, inode_of, segment_id}

-- the address of the step before, and the page that holds the address of a step
abbrev pub step_before : List ℕ → Base → ℕ → Option Address
step_before file base zero = None
step_before file base (suc k) = Some (step_address file base k)

abbrev pub holder_of_step : List ℕ → Base → ℕ → ℕ
holder_of_step file base zero = 0
holder_of_step file base (suc k) = (step_address file base k).page

-- the address is this one, or null where there is none
abbrev pub IsAddress : Address → Option Address → Type 0
IsAddress found None = IsNull found
IsAddress found (Some address) = found ≡ address

-- a step may go to this address, after the pages reached before
pub record IsStep (file : List ℕ) (is_fragment : ℕ → Bool) (reached : List ℕ) (address : Address) : Type 0 where
  pub offset : address.offset ≡ 38
  pub below : address.page < size_of file
  pub fragment : is_fragment address.page ≡ true
  pub new : ¬ (Contains reached address.page)

-- all 85 inodes of a page of INODES_FULL are used, and not all of one of INODES_FREE
abbrev pub IsFilled : Bool → ℕ → Type 0
IsFilled true count = count ≡ 85
IsFilled false count = count < 85

-- the checks of an inode page in hand, after the address `before`
unfoldable pub InodePageChecks : List ℕ → ℕ → ℕ → Bool → Option Address → Option Fault → Type 0
InodePageChecks page n space full before =
    Then (Holds InodeFrame n (IsFramed page n space))
    (Then (Holds InodeType n (kind_of page ≡ inode_kind))
    (Then (Holds InodeList n (IsAddress (node_at page 38).prev before))
    (Holds InodeFill n (IsFilled full (length (used_places page))))))

-- the checks of a step to this address, from the page `holder` and the address `before`, after the pages `reached`
unfoldable pub StepAt : List ℕ → (ℕ → Bool) → Bool → List ℕ → Address → ℕ → Option Address → Option Fault → Type 0
StepAt file is_fragment full reached address holder before =
    Then (Holds InodeList holder (IsStep file is_fragment reached address))
    (InodePageChecks (page_of file address.page) address.page (space_of (page_of file 0)) full before)

-- the checks of step k of a list
abbrev pub StepChecks : List ℕ → (ℕ → Bool) → Bool → List ℕ → Base → ℕ → Option Fault → Type 0
StepChecks file is_fragment full earlier base k =
    StepAt file is_fragment full (earlier ++ stepped_pages file base k) (step_address file base k)
    (holder_of_step file base k) (step_before file base k)

-- the base counts these steps, and its last address is that of the last step
pub record EndsAfter (base : Base) (count : ℕ) (before : Option Address) : Type 0 where
  pub counted : base.length ≡ count
  pub last : IsAddress base.last before

-- a null address ends the list, and then these checks are made
abbrev pub EndsAt : List ℕ → Base → ℕ → Type 0
EndsAt file base k = IsNull (step_address file base k)

abbrev pub EndChecks : List ℕ → Base → ℕ → Option Fault → Type 0
EndChecks file base count = Holds InodeList 0 (EndsAfter base count (step_before file base count))

-- the base of a list of inode pages: of INODES_FULL, or of INODES_FREE
abbrev pub inode_list : SpaceHeader → Bool → Base
inode_list header true = header.inodes_full
inode_list header false = header.inodes_free

-- the checks of one list of inode pages
abbrev pub InodeListChecks : List ℕ → (ℕ → Bool) → Bool → List ℕ → Base → Option Fault → Type 0
InodeListChecks file is_fragment full earlier base =
    Along (EndsAt file base) (StepChecks file is_fragment full earlier base) (EndChecks file base)

-- the checks of both lists
unfoldable pub InodeListsChecks : List ℕ → (ℕ → Bool) → Option Fault → Type 0
InodeListsChecks file is_fragment =
    Then (InodeListChecks file is_fragment true [] (head_of file).inodes_full)
    (InodeListChecks file is_fragment false (full_pages file) (head_of file).inodes_free)

-- the number that marks an inode
abbrev pub inode_magic : ℕ
inode_magic = 97937874

-- the segment's id is below the next one, and no earlier segment has it
pub record IsNewId (file : List ℕ) (before : List Address) (id : ℕ) : Type 0 where
  pub below : id < (head_of file).next_segment
  pub new : ¬ (Contains (map (segment_id file) before) id)

-- the checks of a segment's inode
abbrev pub SegmentCheck : List ℕ → List Address → Address → Option Fault → Type 0
SegmentCheck file before place =
    Then (Holds SegmentMagic place.page ((inode_of file place).magic ≡ inode_magic))
    (Holds SegmentId place.page (IsNewId file before (segment_id file place)))

-- the checks of all segments
abbrev pub SegmentChecks : List ℕ → Option Fault → Type 0
SegmentChecks file = EachOf (segments file) (SegmentCheck file)

-- all checks of the inode lists and of the segments
abbrev pub AllInodeChecks : List ℕ → (ℕ → Bool) → Option Fault → Type 0
AllInodeChecks file is_fragment = Then (InodeListsChecks file is_fragment) (SegmentChecks file)

-- a page may stand on an inode list
pub record IsInodePage (file : List ℕ) (is_fragment : ℕ → Bool) (n : ℕ) : Type 0 where
  pub below : n < size_of file
  pub fragment : is_fragment n ≡ true
  pub framed : Framed file n
  pub kind : kind_of (page_of file n) ≡ inode_kind

-- the inode lists and the inodes are sound
pub record AreInodes (file : List ℕ) (is_fragment : ℕ → Bool) : Type 0 where
  pub full : Linked (head_of file).inodes_full (page_node file) page_address (IsInodePage file is_fragment)
      (full_pages file)
  pub free : Linked (head_of file).inodes_free (page_node file) page_address (IsInodePage file is_fragment)
      (free_pages file)
  pub apart : (n : ℕ) → Contains (full_pages file) n → ¬ (Contains (free_pages file) n)
  pub filled : All (λ n. IsFilled true (length (used_places (page_of file n)))) (full_pages file)
  pub has_unused : All (λ n. IsFilled false (length (used_places (page_of file n)))) (free_pages file)
  pub magic : All (λ place. (inode_of file place).magic ≡ inode_magic) (segments file)
  pub ids : All (λ place. segment_id file place < (head_of file).next_segment) (segments file)
  pub distinct : AreDistinct (map (segment_id file) (segments file))
