-- On which list each extent must stand (fsp0fsp).
use Rattle.std.specs.Prelude.{◌≡◌, ℕ, ◌+◌, ◌-◌, ◌*◌, ◌<◌, if◌then◌else◌, length, slice_index, Bool, ◌&&◌, nat_lt, ◌==◌}
use Rattle.std.specs.Prelude.{List, sum_by, filter, flat_map, map, Contains, Option, Some, slice_get, slice_index_or}
use Rattle.std.specs.List.{range_with_len, position_or_len}
use Rattle.page_source.specs.declared.rule.Rule.TheVariants.{ExtentList, ExtentHome}
use Rattle.page_source.specs.declared.rule.Fault.{Fault}
use Rattle.page_source.specs.Lists.{AreDistinct, HaveSameMembers}
use Rattle.page_source.specs.Verdict.{Then, Each, EachOf}
use Rattle.page_source.specs.Answers.{Holds}
use Rattle.space_header.specs.declared.address.Address.{Address}
use Rattle.space_header.specs.declared.address.Base.{Base}
use Rattle.space_header.specs.declared.header.SpaceHeader.{SpaceHeader}
use Rattle.inode_segments.specs.declared.inode.Inode.{Inode}
use Rattle.extent_map.specs.Descriptors.{IsExtent}
use Rattle.space_header.specs.Header.{head_of, extent_address}
use Rattle.space_header.specs.declared.address.Node.{Node}
use Rattle.space_header.specs.Linked.{Linked, node_in}
use Rattle.extent_map.specs.Extents.{extent_of, extent_count, extent_state, extent_nodes, descriptor_page, used_count}
use Rattle.inode_segments.specs.Inodes.{segments, inode_of, segment_id}
use Rattle.inode_segments.specs.Kept.{InodesView, AreKept}

-- the extents in a state
unfoldable pub extents_in_state : List ℕ → ℕ → List ℕ
extents_in_state file state = filter (λ e. extent_state file e == state) (range_with_len 0 (extent_count file))

-- whether an extent belongs to the segment with this id
abbrev pub is_extent_of : List ℕ → ℕ → ℕ → Bool
is_extent_of file id extent = (extent_state file extent == 4) && (id == (extent_of file extent).id)

-- the extents of a segment, and those of them with no used page, with some and with all
unfoldable pub segment_extents : List ℕ → Address → List ℕ
segment_extents file place = filter (is_extent_of file (segment_id file place)) (range_with_len 0 (extent_count file))

abbrev pub free_extents : List ℕ → Address → List ℕ
free_extents file place = filter (λ e. used_count file e == 0) (segment_extents file place)

abbrev pub not_full_extents : List ℕ → Address → List ℕ
not_full_extents file place =
    filter (λ e. nat_lt 0 (used_count file e) && nat_lt (used_count file e) 64) (segment_extents file place)

abbrev pub full_extents : List ℕ → Address → List ℕ
full_extents file place = filter (λ e. used_count file e == 64) (segment_extents file place)

-- a list of extents: its base, the page that holds the base, and the extents whose home it is
pub record HomeList : Type 0 where
  pub base : Base
  pub holder : ℕ
  pub home : List ℕ

-- the three lists of the space, and those of a segment
abbrev pub free_list : List ℕ → HomeList
free_list file = record { base = (head_of file).free; holder = 0; home = extents_in_state file 1 }

abbrev pub free_frag_list : List ℕ → HomeList
free_frag_list file = record { base = (head_of file).free_frag; holder = 0; home = extents_in_state file 2 }

abbrev pub full_frag_list : List ℕ → HomeList
full_frag_list file = record { base = (head_of file).full_frag; holder = 0; home = extents_in_state file 3 }

abbrev pub segment_free_list : List ℕ → Address → HomeList
segment_free_list file place =
    record { base = (inode_of file place).free; holder = place.page; home = free_extents file place }

abbrev pub segment_not_full_list : List ℕ → Address → HomeList
segment_not_full_list file place =
    record { base = (inode_of file place).not_full; holder = place.page; home = not_full_extents file place }

abbrev pub segment_full_list : List ℕ → Address → HomeList
segment_full_list file place =
    record { base = (inode_of file place).full; holder = place.page; home = full_extents file place }

-- an extent of a segment has the id of one
abbrev pub HasHome : List ℕ → ℕ → Type 0
HasHome file extent = extent_state file extent ≡ 4
    → Contains (map (segment_id file) (segments file)) (extent_of file extent).id

-- the base and the nodes link these extents, and a list that has exactly the extents of a home
abbrev pub IsList : List Node → Base → List ℕ → Type 0
IsList nodes base list = Linked base (node_in nodes) extent_address (λ e. e < length nodes) list

abbrev pub HoldsHome : List Node → HomeList → Type 0
HoldsHome nodes list = (linked : List ℕ) × IsList nodes list.base linked × HaveSameMembers linked list.home

-- the checks of one list
unfoldable pub HomeListChecks : List Node → HomeList → Option Fault → Type 0
HomeListChecks nodes list =
    Then (Holds ExtentList list.holder ((linked : List ℕ) × IsList nodes list.base linked))
    (Holds ExtentHome list.holder (HoldsHome nodes list))

-- the checks of three lists, and that each of the lists has exactly the extents of its home
abbrev pub ThreeChecks : List Node → HomeList → HomeList → HomeList → Option Fault → Type 0
ThreeChecks nodes a b c = Then (HomeListChecks nodes a) (Then (HomeListChecks nodes b) (HomeListChecks nodes c))

abbrev pub HoldThree : List Node → HomeList → HomeList → HomeList → Type 0
HoldThree nodes a b c = HoldsHome nodes a × HoldsHome nodes b × HoldsHome nodes c

-- the checks of a segment's lists, and of one extent
abbrev pub SegmentListsCheck : List ℕ → List Address → Address → Option Fault → Type 0
SegmentListsCheck file before place =
    ThreeChecks (extent_nodes file)
    (segment_free_list file place) (segment_not_full_list file place) (segment_full_list file place)

abbrev pub HomeCheck : List ℕ → ℕ → Option Fault → Type 0
HomeCheck file extent = Holds ExtentHome (descriptor_page extent) (HasHome file extent)

-- the checks of all lists, and then of all extents
unfoldable pub ListChecks : List ℕ → Option Fault → Type 0
ListChecks file =
    Then (ThreeChecks (extent_nodes file) (free_list file) (free_frag_list file) (full_frag_list file))
    (Then (EachOf (segments file) (SegmentListsCheck file))
    (Each (extent_count file) (HomeCheck file)))

-- the extents with a home, where the homes of all are numbers
abbrev pub at_home : List ℕ → ℕ → List ℕ
at_home homes home = filter (λ e. slice_index homes e == home) (range_with_len 0 (length homes))

-- the home of each extent and how many of its pages are used, and how many lists there are
pub record HomesView : Type 0 where
  pub numbers : List ℕ
  pub uses : List ℕ
  pub lists : ℕ

-- a segment's list for an extent with so many used pages: FREE, NOT_FULL or FULL
abbrev pub home_part : ℕ → ℕ
home_part count = if count == 0 then 0 else (if count == 64 then 2 else 1)

-- the number of the list on which an extent must stand: FREE, FREE_FRAG and FULL_FRAG, then three for each segment
abbrev pub home_by : ℕ → ℕ → ℕ → ℕ
home_by state segment used = if state == 4 then 3 + (3 * segment + home_part used) else state - 1

-- the number of an extent's home, and those of all extents
unfoldable pub home_number : List ℕ → ℕ → ℕ
home_number file extent =
    home_by (extent_state file extent)
    (position_or_len (λ place. segment_id file place == (extent_of file extent).id) (segments file))
    (used_count file extent)

unfoldable pub homes_of : List ℕ → List ℕ
homes_of file = map (home_number file) (range_with_len 0 (extent_count file))

-- how many pages of each extent are used
unfoldable pub uses_of : List ℕ → List ℕ
uses_of file = map (used_count file) (range_with_len 0 (extent_count file))

-- these are the homes and the uses of the file's extents
pub record AreHomes (file : List ℕ) (homes : HomesView) : Type 0 where
  pub numbers_are : homes.numbers ≡ homes_of file
  pub uses_are : homes.uses ≡ uses_of file
  pub lists_are : homes.lists ≡ 3 + 3 * length (segments file)

-- the used pages of the extents with a home
abbrev pub used_at_home : HomesView → ℕ → ℕ
used_at_home homes home = sum_by (λ e. slice_index homes.uses e) (at_home homes.numbers home)

-- a list over the extents with a home
abbrev pub numbered_list : List ℕ → Base → ℕ → ℕ → HomeList
numbered_list homes base holder home = record { base = base; holder = holder; home = at_home homes home }

-- the check that an extent's home is one of so many
abbrev pub NumberCheck : List ℕ → ℕ → ℕ → Option Fault → Type 0
NumberCheck homes lists extent = Holds ExtentHome (descriptor_page extent) (slice_index homes extent < lists)

-- what a check of the lists goes by is of the file, whose extents are as their states say
pub record IsListed (file : List ℕ) (header : SpaceHeader) (inodes : InodesView) (nodes : List Node)
    (homes : List ℕ) : Type 0 where
  pub header_is : header ≡ head_of file
  pub inodes_are : AreKept file inodes
  pub nodes_are : nodes ≡ extent_nodes file
  pub homes_are : homes ≡ homes_of file
  pub extents : (e : ℕ) → e < extent_count file → IsExtent file e
  pub distinct : AreDistinct (map (segment_id file) (segments file))
