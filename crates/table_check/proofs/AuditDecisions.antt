-- Each condition of the checks of a space is decided.
use Rattle.std.proofs.Common.{◌≡◌, ◌≢◌, ℕ, ◌+◌, ◌*◌, ◌/◌, ◌%◌, ◌⊎◌, Bool, true, false, List, [], ◌∷◌, length, map}
use Rattle.std.proofs.Common.{Option, Some, None, ap, inl, inr}
use Rattle.page_source.specs.Pages.{page_of, num, fil_null}
use Rattle.page_source.specs.Lists.{AreDistinct, HaveSameMembers}
use Rattle.page_source.proofs.Decided.{IsDecided, same_decided, both_decided, three_decided, either_decided}
use Rattle.page_source.proofs.Decided.{not_decided}
use Rattle.page_source.proofs.Decided.{given_decided, number_decided, below_decided, most_decided, truth_decided}
use Rattle.page_source.proofs.Decided.{pairs_decided, contains_decided, members_decided}
use Rattle.page_source.proofs.Decided.{list_decided}
use Rattle.fil_frame.specs.declared.frame.SumKind.{SumKind}
use Rattle.fil_frame.specs.declared.frame.SumKind.TheVariants.{Crc32, Innodb, Fixed}
use Rattle.fil_frame.specs.Sums.{HasSums, HasSomeSums, first_sum_of, second_sum_of}
use Rattle.fil_frame.specs.Kinds.{allocated_kind, blob_kind, index_kind, inode_kind}
use Rattle.fil_frame.specs.Frame.{IsFramed, kind_of, space_of}
use Rattle.space_header.specs.declared.address.Address.{Address}
use Rattle.space_header.specs.declared.address.Base.{Base}
use Rattle.space_header.specs.declared.address.Node.{Node}
use Rattle.space_header.specs.Header.{IsNull, extent_address, head_of, size_of, space_flags}
use Rattle.space_header.specs.Linked.{PointsTo, Leads, node_in}
use Rattle.extent_map.specs.Head.{without_data_directory, HasFlags, IsSize, IsLimit}
use Rattle.extent_map.specs.Extents.{is_used, is_fragment_extent, extent_of, extent_state, IsUsed}
use Rattle.extent_map.specs.Descriptors.{IsState, FitsUse, HasSystemPages}
use Rattle.inode_segments.specs.InodeChecks.{IsAddress, IsStep, IsFilled, EndsAfter, IsNewId}
use Rattle.inode_segments.specs.Inodes.{segments, segment_id}
use Rattle.space_audit.specs.declared.owner.Owner.{Owner}
use Rattle.space_audit.specs.declared.owner.Owner.TheVariants as owners
use Rattle.space_audit.specs.Owners.{owner_of}
use Rattle.space_audit.specs.Lists.{HomeList, IsList, HoldsHome, HasHome}
use Rattle.space_audit.specs.Audit.{IsFragmentUse, IsSlot, IsUsedFragment, system_kind, IsKindFor, HasAllowedKind}

-- frames
sums_of_kind : (page : List ℕ) (kind : SumKind) → IsDecided (HasSums page kind)
sums_of_kind page kind =
    same_decided (λ h. record { first = h.0; second = h.1 }) (λ h. (h.first, h.second))
    (both_decided (number_decided (num page 0 4) (first_sum_of kind page))
    (number_decided (num page 16376 4) (second_sum_of kind page)))

some_kind : (page : List ℕ) → HasSums page Crc32 ⊎ (HasSums page Innodb ⊎ HasSums page Fixed) → HasSomeSums page
some_kind page h = elim h [ inl a ↦ (Crc32, a) | inr h ↦ elim h [ inl b ↦ (Innodb, b) | inr c ↦ (Fixed, c) ] ]

kind_of_sums : (page : List ℕ) (kind : SumKind) → HasSums page kind
    → HasSums page Crc32 ⊎ (HasSums page Innodb ⊎ HasSums page Fixed)
kind_of_sums page Crc32 h = inl h
kind_of_sums page Innodb h = inr (inl h)
kind_of_sums page Fixed h = inr (inr h)

sums_decided : (page : List ℕ) → IsDecided (HasSomeSums page)
sums_decided page =
    same_decided (some_kind page) (λ h. kind_of_sums page h.0 h.1)
    (either_decided (sums_of_kind page Crc32) (either_decided (sums_of_kind page Innodb) (sums_of_kind page Fixed)))

pub frame_decided : (page : List ℕ) (n space : ℕ) → IsDecided (IsFramed page n space)
frame_decided page n space =
    same_decided (λ h. record { sums = h.0.0; echo = h.0.1; has_number = h.1.0; has_space = h.1.1 })
    (λ h. ((h.sums, h.echo), (h.has_number, h.has_space)))
    (both_decided (both_decided (sums_decided page) (number_decided (num page 16380 4) (num page 20 4)))
    (both_decided (number_decided (num page 4 4) n) (number_decided (space_of page) space)))

-- the head
pub flags_decided : (page : List ℕ) (flags : ℕ) → IsDecided (HasFlags page flags)
flags_decided page flags = number_decided (without_data_directory (space_flags page)) flags

pub size_decided : (size pages : ℕ) → IsDecided (IsSize size pages)
size_decided size pages =
    same_decided (λ h. record { least = h.0; most = h.1; within = h.2 }) (λ h. (h.least, h.most, h.within))
    (three_decided (most_decided 4 size) (most_decided size 4194304) (most_decided size pages))

pub limit_decided : (size limit : ℕ) → IsDecided (IsLimit size limit)
limit_decided size limit =
    same_decided (λ h. record { whole = h.0.0; short = h.0.1; least = h.1.0; most = h.1.1 })
    (λ h. ((h.whole, h.short), (h.least, h.most)))
    (both_decided
    (both_decided (number_decided (limit % 64) 0) (given_decided (below_decided size 64) (number_decided limit 64)))
    (both_decided (given_decided (most_decided 64 size) (most_decided 64 limit))
    (given_decided (most_decided 64 size) (most_decided limit size))))

-- extents
pub state_decided : (state : ℕ) → IsDecided (IsState state)
state_decided state = both_decided (most_decided 1 state) (most_decided state 4)

pub use_decided : (state count : ℕ) → IsDecided (FitsUse state count)
use_decided state count =
    same_decided (λ h. record { free = h.0.0; some_used = h.0.1; some_free = h.1.0; full = h.1.1 })
    (λ h. ((h.free, h.some_used), (h.some_free, h.full)))
    (both_decided
    (both_decided (given_decided (number_decided state 1) (number_decided count 0))
    (given_decided (number_decided state 2) (below_decided 0 count)))
    (both_decided (given_decided (number_decided state 2) (below_decided count 64))
    (given_decided (number_decided state 3) (number_decided count 64))))

pub used_decided : (file : List ℕ) (n : ℕ) → IsDecided (IsUsed file n)
used_decided file n = truth_decided (is_used file n) true

pub system_decided : (file : List ℕ) (extent : ℕ) → IsDecided (HasSystemPages file extent)
system_decided file extent =
    same_decided (λ h. record { fragment = h.0; descriptor = h.1; bitmap = h.2 })
    (λ h. (h.fragment, h.descriptor, h.bitmap))
    (three_decided (truth_decided (is_fragment_extent file extent) true) (used_decided file (64 * extent))
    (used_decided file (64 * extent + 1)))

-- addresses
address_is : (a b : Address) → a.page ≡ b.page → a.offset ≡ b.offset → a ≡ b
address_is a b page offset = λ i. record { page = page i; offset = offset i }

address_decided : (a b : Address) → IsDecided (a ≡ b)
address_decided a b =
    same_decided (λ h. address_is a b h.0 h.1)
    (λ e. (ap (λ (x : Address). x.page) e, ap (λ (x : Address). x.offset) e))
    (both_decided (number_decided a.page b.page) (number_decided a.offset b.offset))

pub null_decided : (a : Address) → IsDecided (IsNull a)
null_decided a = number_decided a.page fil_null

pub found_decided : (found : Address) (wanted : Option Address) → IsDecided (IsAddress found wanted)
found_decided found None = null_decided found
found_decided found (Some address) = address_decided found address

-- inodes
pub step_decided : (file : List ℕ) (is_fragment : ℕ → Bool) (reached : List ℕ) (address : Address)
    → IsDecided (IsStep file is_fragment reached address)
step_decided file is_fragment reached address =
    same_decided (λ h. record { offset = h.0.0; below = h.0.1; fragment = h.1.0; new = h.1.1 })
    (λ h. ((h.offset, h.below), (h.fragment, h.new)))
    (both_decided (both_decided (number_decided address.offset 38) (below_decided address.page (size_of file)))
    (both_decided (truth_decided (is_fragment address.page) true)
    (not_decided (contains_decided reached address.page))))

pub filled_decided : (full : Bool) (count : ℕ) → IsDecided (IsFilled full count)
filled_decided true count = number_decided count 85
filled_decided false count = below_decided count 85

pub ends_decided : (base : Base) (count : ℕ) (last : Option Address) → IsDecided (EndsAfter base count last)
ends_decided base count last =
    same_decided (λ h. record { counted = h.0; last = h.1 }) (λ h. (h.counted, h.last))
    (both_decided (number_decided base.length count) (found_decided base.last last))

pub new_id_decided : (file : List ℕ) (earlier : List Address) (id : ℕ) → IsDecided (IsNewId file earlier id)
new_id_decided file earlier id =
    same_decided (λ h. record { below = h.0; new = h.1 }) (λ h. (h.below, h.new))
    (both_decided (below_decided id (head_of file).next_segment)
    (not_decided (contains_decided (map (segment_id file) earlier) id)))

-- lists of extents
points_decided : (address : ℕ → Address) (found : Address) (member : Option ℕ)
    → IsDecided (PointsTo address found member)
points_decided address found None = null_decided found
points_decided address found (Some member) = address_decided found (address member)

leads_decided : (node : ℕ → Node) (address : ℕ → Address) (last : Address) (earlier : Option ℕ) (found : Address)
    (list : List ℕ) → IsDecided (Leads node address last earlier found list)
leads_decided node address last earlier found [] =
    both_decided (null_decided found) (points_decided address last earlier)
leads_decided node address last earlier found (m ∷ rest) =
    three_decided (address_decided found (address m)) (points_decided address (node m).prev earlier)
    (leads_decided node address last (Some m) (node m).next rest)

-- what is asked of a list of extents besides its length and its members
abbrev Joins : List Node → Base → (List ℕ → Type 0) → List ℕ → Type 0
Joins nodes base Q list =
    AreDistinct list × Leads (node_in nodes) extent_address base.last None base.first list × Q list

linked_with : (nodes : List Node) (base : Base) (Q : List ℕ → Type 0) → ((list : List ℕ) → IsDecided (Q list))
    → IsDecided ((linked : List ℕ) × IsList nodes base linked × Q linked)
linked_with nodes base Q each =
    same_decided
    (λ h. (
      h.0,
      record { count = h.1; distinct = h.3.0; members = h.2; leads = h.3.1 },
      h.3.2,
    ))
    (λ h. (h.0, h.1.count, h.1.members, (h.1.distinct, h.1.leads, h.2)))
    (list_decided (Joins nodes base Q)
    (λ list. three_decided (pairs_decided (λ x y. x ≢ y) (λ x y. not_decided (number_decided x y)) list)
    (leads_decided (node_in nodes) extent_address base.last None base.first list) (each list))
    (length nodes) base.length)

pub list_is_decided : (nodes : List Node) (base : Base) → IsDecided ((linked : List ℕ) × IsList nodes base linked)
list_is_decided nodes base =
    same_decided (λ h. (h.0, h.1)) (λ h. (h.0, h.1, tt))
    (linked_with nodes base (λ list. Unit {0}) (λ list. inl tt))

pub home_decided : (nodes : List Node) (list : HomeList) → IsDecided (HoldsHome nodes list)
home_decided nodes list =
    linked_with nodes list.base (λ linked. HaveSameMembers linked list.home)
    (λ linked. members_decided linked list.home)

pub has_home_decided : (file : List ℕ) (extent : ℕ) → IsDecided (HasHome file extent)
has_home_decided file extent =
    given_decided (number_decided (extent_state file extent) 4)
    (contains_decided (map (segment_id file) (segments file)) (extent_of file extent).id)

-- the use of pages
fragment_use : (file : List ℕ) (n : ℕ) → IsDecided (IsFragmentUse file n)
fragment_use file n =
    same_decided (λ h. record { below = h.0; used = h.1; fragment = h.2 }) (λ h. (h.below, h.used, h.fragment))
    (three_decided (below_decided n (size_of file)) (used_decided file n)
    (truth_decided (is_fragment_extent file (n / 64)) true))

pub slot_decided : (file : List ℕ) (slot : ℕ) → IsDecided (IsSlot file slot)
slot_decided file slot = given_decided (not_decided (number_decided slot fil_null)) (fragment_use file slot)

pub used_fragment : (file : List ℕ) (n : ℕ) → IsDecided (IsUsedFragment file n)
used_fragment file n =
    both_decided (used_decided file n) (truth_decided (is_fragment_extent file (n / 64)) true)

kind_for : (n : ℕ) (owner : Owner) (kind : ℕ) → IsDecided (IsKindFor n owner kind)
kind_for n owners.System kind = number_decided kind (system_kind n)
kind_for n owners.InodePage kind = number_decided kind inode_kind
kind_for n (owners.Used segment) kind =
    either_decided (number_decided kind allocated_kind)
    (either_decided (number_decided kind blob_kind) (number_decided kind index_kind))
kind_for n (owners.Spare segment) kind = inl tt
kind_for n owners.FragmentFree kind = inl tt
kind_for n owners.FreeExtent kind = inl tt
kind_for n owners.Beyond kind = inl tt

pub kind_decided : (file : List ℕ) (n : ℕ) → IsDecided (HasAllowedKind file n)
kind_decided file n = kind_for n (owner_of file n) (kind_of (page_of file n))
