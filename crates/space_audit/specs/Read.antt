-- What is known of a file once its extents and its inodes are read.
use Rattle.std.specs.Prelude.{◌≡◌, ℕ, ◌<◌, ◌≤◌, List, Bool, if◌then◌else◌, length, map, filter, slice_index, Option}
use Rattle.std.specs.Prelude.{Some, None}
use Rattle.std.specs.List.{range_with_len}
use Rattle.page_source.specs.Pages.{page_of, page_count}
use Rattle.page_source.specs.Lists.{flag_in}
use Rattle.fil_frame.specs.Frame.{kind_of, space_of}
use Rattle.space_header.specs.Header.{size_of}
use Rattle.extent_map.specs.declared.extent.Extent.{Extent}
use Rattle.extent_map.specs.Extents.{AreExtents, extent_count, is_used, IsUsed, is_fragment_page}
use Rattle.extent_map.specs.Descriptors.{IsExtent}
use Rattle.inode_segments.specs.Inodes.{segments}
use Rattle.inode_segments.specs.Kept.{InodesView, AreKept}
use Rattle.inode_segments.specs.InodeChecks.{AreInodes}
use Rattle.space_audit.specs.Lists.{homes_of, ListChecks}
use Rattle.space_audit.specs.Owners.{owner_of, AreOwners}
use Rattle.space_audit.specs.Audit.{UseChecks}
use Rattle.space_audit.specs.Space.{SpaceView}

-- the extents and the inodes are those of the file, and are sound
pub record IsRead (file : List ℕ) (extents : List Extent) (inodes : InodesView) : Type 0 where
  pub extents_are : AreExtents file extents
  pub inodes_are : AreKept file inodes
  pub extents_sound : (e : ℕ) → e < extent_count file → IsExtent file e
  pub inodes_sound : AreInodes file (is_fragment_page file)

-- the extents have their homes, and the checks of the lists and of the claims hold
pub record IsOwned (file : List ℕ) (extents : List Extent) (inodes : InodesView) (homes : List ℕ) : Type 0 where
  pub read : IsRead file extents inodes
  pub homes_are : homes ≡ homes_of file
  pub few : length (segments file) ≤ 356515840
  pub lists : ListChecks file None
  pub uses : UseChecks file None

-- all but the frames is checked: these are the owners of its pages, by numbers
pub record AwaitsFrames (file : List ℕ) (space : ℕ) (extents : List Extent) (inodes : InodesView) (owners : List ℕ)
    : Type 0 where
  pub space_is : space_of (page_of file 0) ≡ space
  pub within : size_of file ≤ page_count file
  pub size_is : length owners ≡ size_of file
  pub read : IsRead file extents inodes
  pub owners_are : AreOwners file owners

-- the type of a used page; none of a page that isn't used
abbrev pub IsKind : List ℕ → ℕ → Option ℕ → Type 0
IsKind file n None = ¬ (IsUsed file n)
IsKind file n (Some kind) = IsUsed file n × (kind ≡ kind_of (page_of file n))

-- these are the types of the first n pages, of which so many are used
pub record AreKinds (file : List ℕ) (n : ℕ) (kinds : List ℕ) (used : ℕ) : Type 0 where
  pub kinds_are : (m : ℕ) → m < n → IsUsed file m → slice_index kinds m ≡ kind_of (page_of file m)
  pub used_is : used ≡ length (filter (is_used file) (range_with_len 0 n))

-- how often a page is fetched, where these pages are inode pages, of which the frames are known
abbrev pub fetches_at : List Bool → ℕ → ℕ
fetches_at pages n = if flag_in pages n then 0 else 1

-- this is what is known of the file as a space
pub record IsSpaceOf (file : List ℕ) (space : SpaceView) : Type 0 where
  pub has_size : space.size ≡ size_of file
  pub has_id : space.id ≡ space_of (page_of file 0)
  pub has_owners : space.owners ≡ map (owner_of file) (range_with_len 0 (size_of file))
  pub has_kinds : (n : ℕ) → IsUsed file n → slice_index space.kinds n ≡ kind_of (page_of file n)
  pub has_used : space.used ≡ length (filter (is_used file) (range_with_len 0 (size_of file)))
  pub has_segments : space.segments ≡ segments file
