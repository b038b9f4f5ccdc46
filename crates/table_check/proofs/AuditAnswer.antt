-- The checks of a space have an answer for each file.
use Rattle.std.proofs.Common.{◌≡◌, ℕ, suc, ◌*◌, ◌%◌, ◌<◌, ◌≤◌, Bool, true, false, List, [], ◌++◌, length, get_or, All}
use Rattle.std.proofs.Common.{Option, None, sym, ◌∙◌, subst, arith}
use Rattle.std.proofs.lemmas.List.FromFn.{get_or-map-range_with_len}
use Rattle.std.proofs.lemmas.List.Elements.{Contains-append_right}
use Rattle.page_source.specs.Pages.{page_of, page_count}
use Rattle.page_source.specs.Lists.{AreDistinct}
use Rattle.page_source.specs.Verdict.{Reaches}
use Rattle.page_source.proofs.Members.{distinct_below}
use Rattle.page_source.proofs.Decided.{given_decided, number_decided, below_decided, most_decided, all_decided}
use Rattle.page_source.proofs.Answered.{HasAnswer, All-answered}
use Rattle.page_source.proofs.Answered.{EachOf-answered, Along-answered}
use Rattle.fil_frame.specs.Frame.{space_of}
use Rattle.space_header.specs.declared.address.Address.{Address}
use Rattle.space_header.specs.declared.address.Base.{Base}
use Rattle.space_header.specs.declared.address.Node.{Node}
use Rattle.space_header.specs.Header.{head_of, size_of, limit_of, stated_size, free_limit, node_at}
use Rattle.extent_map.specs.Extents.{extent_count, extent_state, used_in, used_count}
use Rattle.extent_map.specs.Head.{HeaderChecks, HeadChecks}
use Rattle.extent_map.specs.Descriptors.{ExtentChecks, DescriptorChecks}
use Rattle.inode_segments.specs.InodeChecks.{InodePageChecks, StepAt, IsStep, StepChecks, EndsAt, InodeListChecks}
use Rattle.inode_segments.specs.InodeChecks.{InodeListsChecks, step_before}
use Rattle.inode_segments.specs.Inodes.{segments, segment_id, inode_of, full_pages, step_address, used_places}
use Rattle.inode_segments.specs.Inodes.{stepped_pages}
use Rattle.inode_segments.specs.InodeChecks.{SegmentCheck, SegmentChecks, AllInodeChecks}
use Rattle.inode_segments.proofs.ListSteps.{stepped_length}
use Rattle.space_audit.specs.Lists.{HomeList, HomeListChecks, ThreeChecks, SegmentListsCheck, HomeCheck, ListChecks}
use Rattle.space_audit.specs.Audit.{HasFragmentCount, SlotCheck, SlotsCheck, CountCheck, CountChecks, ClaimCheck}
use Rattle.space_audit.specs.Audit.{UseChecks, FrameCheck, FrameChecks, OwnerChecks, AuditChecks}
use Rattle.table_check.proofs.Checks.{holds, before, both, only}
use Rattle.table_check.proofs.AuditDecisions.{frame_decided, flags_decided, size_decided, limit_decided, state_decided}
use Rattle.table_check.proofs.AuditDecisions.{use_decided, used_decided, system_decided, null_decided, found_decided}
use Rattle.table_check.proofs.AuditDecisions.{step_decided, filled_decided, ends_decided, new_id_decided}
use Rattle.table_check.proofs.AuditDecisions.{list_is_decided, home_decided, has_home_decided, slot_decided}
use Rattle.table_check.proofs.AuditDecisions.{used_fragment, kind_decided}

-- the space: its head, its descriptors and its inodes
head_answered : (file : List ℕ) (flags : ℕ) → HasAnswer (HeadChecks file flags)
unfolding HeaderChecks
head_answered file flags =
    let page = page_of file 0 in
    before _ _ _ (most_decided 4 (page_count file)) (before _ _ _ (frame_decided page 0 (space_of page))
    (before _ _ _ (number_decided _ _) (before _ _ _ (number_decided _ _) (before _ _ _ (flags_decided page flags)
    (before _ _ _ (size_decided (stated_size page) (page_count file))
    (holds _ _ _ (limit_decided (stated_size page) (free_limit page))))))))

extent_answered : (file : List ℕ) (extent : ℕ) → HasAnswer (ExtentChecks file extent)
unfolding ExtentChecks
extent_answered file extent =
    before _ _ _ (state_decided (extent_state file extent))
    (before _ _ _ (use_decided (extent_state file extent) (used_count file extent))
    (before _ _ _ (all_decided (λ n. n < size_of file) (λ n. below_decided n (size_of file)) (used_in file extent))
    (holds _ _ _ (given_decided (number_decided (extent % 256) 0) (system_decided file extent)))))

descriptors_answered : (file : List ℕ) (k : ℕ) → HasAnswer (DescriptorChecks file k)
unfolding DescriptorChecks
descriptors_answered file k =
    both _ _ (only _ _ (below_decided 0 k)
    (before _ _ _ (frame_decided (page_of file (16384 * k)) (16384 * k) (space_of (page_of file 0)))
    (holds _ _ _ (number_decided _ _))))
    (All-answered _ _ (λ i. extent_answered file _))

step_answered : (file : List ℕ) (is_fragment : ℕ → Bool) (full : Bool) (reached : List ℕ) (address : Address)
    (holder : ℕ) (last : Option Address) → HasAnswer (StepAt file is_fragment full reached address holder last)
unfolding StepAt InodePageChecks
step_answered file is_fragment full reached address holder last =
    let page = page_of file address.page in
    before _ _ _ (step_decided file is_fragment reached address)
    (before _ _ _ (frame_decided page address.page (space_of (page_of file 0))) (before _ _ _ (number_decided _ _)
    (before _ _ _ (found_decided (node_at page 38).prev last)
    (holds _ _ _ (filled_decided full (length (used_places page)))))))

-- the steps of a list are to different pages below the size, so that they come to an end
step_is_new : (file : List ℕ) (is_fragment : ℕ → Bool) (full : Bool) (earlier : List ℕ) (base : Base) (k : ℕ)
    → StepChecks file is_fragment full earlier base k None
    → IsStep file is_fragment (earlier ++ stepped_pages file base k) (step_address file base k)
unfolding StepAt
step_is_new file is_fragment full earlier base k h = h.0

abbrev stepped : List ℕ → Base → ℕ → ℕ
stepped file base k = (step_address file base k).page

stepped_at : (file : List ℕ) (base : Base) (n k d : ℕ) → k < n
    → get_or (stepped_pages file base n) k d ≡ stepped file base k
unfolding stepped_pages
stepped_at file base n k d below = get_or-map-range_with_len (stepped file base) 0 n k k d below (omega arith)

module _ (file : List ℕ) (is_fragment : ℕ → Bool) (full : Bool) (earlier : List ℕ) (base : Base) (n : ℕ)
    (reached : Reaches (EndsAt file base) (StepChecks file is_fragment full earlier base) n) where
  step_at : (k : ℕ) → k < n → IsStep file is_fragment (earlier ++ stepped_pages file base k) (step_address file base k)
  step_at k below = step_is_new file is_fragment full earlier base k (reached k below).1

  steps_below : All (λ page. page < size_of file) (stepped_pages file base n)
  steps_below k d inside =
      let below : k < n = omega (arith, inside, stepped_length file base n) in
      subst (λ page. page < size_of file) (sym (stepped_at file base n k d below)) (step_at k below).below

  steps_differ : AreDistinct (stepped_pages file base n)
  steps_differ i j d before inside =
      let below : j < n = omega (arith, inside, stepped_length file base n) in
      let first = stepped_at file base n i d (omega (arith, before, below)) in
      let second = stepped_at file base n j d below in
      λ same.
      let here : get_or (stepped_pages file base j) i (stepped file base j) ≡ stepped file base j =
      stepped_at file base j i (stepped file base j) before ∙ sym first ∙ same ∙ second in
      (step_at j below).new (Contains-append_right earlier (stepped_pages file base j) (stepped file base j)
      (i, omega (arith, before, stepped_length file base j), here))

  steps_fit : n ≤ size_of file
  steps_fit =
      let few = distinct_below (stepped_pages file base n) (size_of file) steps_differ steps_below in
      omega (arith, few, stepped_length file base n)

inode_list_answered : (file : List ℕ) (is_fragment : ℕ → Bool) (full : Bool) (earlier : List ℕ) (base : Base)
    → HasAnswer (InodeListChecks file is_fragment full earlier base)
inode_list_answered file is_fragment full earlier base =
    Along-answered _ _ _ (suc (size_of file)) (λ k. null_decided (step_address file base k))
    (λ k. step_answered file is_fragment full _ _ _ _)
    (λ k. holds _ _ _ (ends_decided base k (step_before file base k)))
    (λ reached.
    let few = steps_fit file is_fragment full earlier base (suc (size_of file)) reached in omega (arith, few))

inode_lists_answered : (file : List ℕ) (is_fragment : ℕ → Bool) → HasAnswer (InodeListsChecks file is_fragment)
unfolding InodeListsChecks
inode_lists_answered file is_fragment =
    both _ _ (inode_list_answered file is_fragment true [] (head_of file).inodes_full)
    (inode_list_answered file is_fragment false (full_pages file) (head_of file).inodes_free)

segment_answered : (file : List ℕ) (earlier : List Address) (place : Address)
    → HasAnswer (SegmentCheck file earlier place)
segment_answered file earlier place =
    before _ _ _ (number_decided _ _) (holds _ _ _ (new_id_decided file earlier (segment_id file place)))

inodes_answered : (file : List ℕ) (is_fragment : ℕ → Bool) → HasAnswer (AllInodeChecks file is_fragment)
inodes_answered file is_fragment =
    both (InodeListsChecks file is_fragment) (SegmentChecks file) (inode_lists_answered file is_fragment)
    (EachOf-answered (segments file) (SegmentCheck file) (segment_answered file))

-- its lists, the use of its pages, and their frames
home_answered : (nodes : List Node) (list : HomeList) → HasAnswer (HomeListChecks nodes list)
unfolding HomeListChecks
home_answered nodes list =
    before _ _ _ (list_is_decided nodes list.base) (holds _ _ _ (home_decided nodes list))

three_answered : (nodes : List Node) (a b c : HomeList) → HasAnswer (ThreeChecks nodes a b c)
three_answered nodes a b c =
    both _ _ (home_answered nodes a) (both _ _ (home_answered nodes b) (home_answered nodes c))

home_checks_answered : (file : List ℕ) (extent : ℕ) → HasAnswer (HomeCheck file extent)
home_checks_answered file extent = holds _ _ _ (has_home_decided file extent)

segment_lists_answered : (file : List ℕ) (earlier : List Address) (place : Address)
    → HasAnswer (SegmentListsCheck file earlier place)
segment_lists_answered file earlier place = three_answered _ _ _ _

lists_answered : (file : List ℕ) → HasAnswer (ListChecks file)
unfolding ListChecks
lists_answered file =
    both _ _ (three_answered _ _ _ _)
    (both _ _ (EachOf-answered (segments file) (SegmentListsCheck file) (segment_lists_answered file))
    (All-answered (extent_count file) (HomeCheck file) (λ e. home_checks_answered file e)))

slots_answered : (file : List ℕ) (earlier : List Address) (place : Address) → HasAnswer (SlotsCheck file earlier place)
slots_answered file earlier place =
    EachOf-answered (inode_of file place).slots (SlotCheck file place)
    (λ slots slot. holds _ _ _ (slot_decided file slot))

counts_answered : (file : List ℕ) → HasAnswer (CountChecks file)
counts_answered file =
    before _ (HasFragmentCount file) _ (number_decided _ _)
    (EachOf-answered (segments file) (CountCheck file) (λ earlier place. holds _ _ _ (number_decided _ _)))

claim_answered : (file : List ℕ) (n : ℕ) → HasAnswer (ClaimCheck file n)
claim_answered file n = only _ _ (used_fragment file n) (holds _ _ _ (number_decided _ _))

use_answered : (file : List ℕ) → HasAnswer (UseChecks file)
unfolding UseChecks
use_answered file =
    both _ _ (EachOf-answered (segments file) (SlotsCheck file) (slots_answered file))
    (both _ _ (counts_answered file)
    (All-answered (limit_of file) (ClaimCheck file) (λ n. claim_answered file n)))

frame_answered : (file : List ℕ) (n : ℕ) → HasAnswer (FrameCheck file n)
frame_answered file n =
    only _ _ (used_decided file n)
    (before _ _ _ (frame_decided (page_of file n) n (space_of (page_of file 0)))
    (holds _ _ _ (kind_decided file n)))

frames_answered : (file : List ℕ) → HasAnswer (FrameChecks file)
frames_answered file = All-answered (limit_of file) (FrameCheck file) (λ n. frame_answered file n)

pub audit_answered : (file : List ℕ) (flags : ℕ) → HasAnswer (AuditChecks file flags)
unfolding OwnerChecks
audit_answered file flags =
    both _ _
    (both _ _ (head_answered file flags)
    (both _ _ (All-answered _ _ (λ k. descriptors_answered file k))
    (both _ _ (inodes_answered file _)
    (both _ _ (lists_answered file) (use_answered file)))))
    (frames_answered file)
