-- The checks of trees and segments have an answer for each file and table.
use Rattle.std.proofs.Common.{◌≡◌, ◌-◌, ℕ, Bool, true, false, List, length, get_or, Option}
use Rattle.std.proofs.Common.{Some, None, sym, ap, subst, inl}
use Rattle.std.proofs.lemmas.Bool.{false≢true}
use Rattle.page_source.specs.Pages.{page_of, num}
use Rattle.page_source.proofs.Decided.{IsDecided, same_decided, both_decided, three_decided, not_decided, given_decided}
use Rattle.page_source.proofs.Decided.{number_decided, below_decided, most_decided, truth_decided, every_decided}
use Rattle.page_source.proofs.Answered.{HasAnswer, Check-answered, All-answered, EachOf-answered}
use Rattle.page_source.proofs.Answered.{AtPage-answered}
use Rattle.fil_frame.specs.Frame.{kind_of, space_of, previous_page, next_page}
use Rattle.fil_frame.specs.Kinds.{index_kind}
use Rattle.space_header.specs.Header.{size_of}
use Rattle.inode_segments.specs.Inodes.{segments, segment_count}
use Rattle.space_audit.specs.declared.owner.Owner.{Owner}
use Rattle.space_audit.specs.declared.owner.Owner.TheVariants as owners
use Rattle.space_audit.specs.Owners.{owner_of}
use Rattle.space_audit.specs.Marks.{is_in}
use Rattle.space_audit.specs.Space.{IsPageOf}
use Rattle.column_values.specs.Types.{Fields}
use Rattle.column_values.specs.Order.{Key}
use Rattle.compact_record.specs.Header.{is_minimum}
use Rattle.index_page.specs.Header.{record_count, records_of, heap_of, level_of, index_id_of}
use Rattle.index_page.specs.Page.{is_lowest_first, HasMarkAt, HasMinimumMark}
use Rattle.index_page.specs.PageChecks.{PageChecks}
use Rattle.tree_walk.specs.Index.{Index, page_in}
use Rattle.tree_walk.specs.Segments.{NamesSegments, leaf_segment, top_segment}
use Rattle.tree_walk.specs.Place.{Spot, IsPagePlace, HasSpotLevel, HasLow, HasLastBelow, HasSeparators, NodeAt}
use Rattle.tree_walk.specs.Place.{SpotAt, is_leaf_level}
use Rattle.tree_walk.specs.Records.{record_key}
use Rattle.tree_walk.specs.TreeChecks.{IsRootPlace, HasNewSegments, TreeChecks}
use Rattle.schema_text.specs.TableDef.{TableDef}
use Rattle.table_check.specs.Trees.{index_in, index_count, pages_of_trees, segments_of_trees}
use Rattle.table_check.specs.Trees.{IndexCheck, AllTreeChecks, NamedCheck, IsNamedIn, NamedChecks}
use Rattle.table_check.specs.First.{TableTreeChecks}
use Rattle.table_check.proofs.Checks.{holds, before, both}
use Rattle.table_check.proofs.PageDecisions.{header_decided, page_ends, chain_decided, numbers_decided, free_decided}
use Rattle.table_check.proofs.PageDecisions.{directory_decided, record_kinds, spelled_decided, apart_decided}
use Rattle.table_check.proofs.PageDecisions.{empty_decided, keys_rise, key_below, keys_equal}

page_answered : (page : List ℕ) (fields : Fields) (leaf root leftmost : Bool)
    → HasAnswer (PageChecks page fields leaf root leftmost)
unfolding PageChecks
page_answered page fields leaf root leftmost =
    before _ _ _ (header_decided page) (before _ _ _ (page_ends page)
    (before _ _ _ (chain_decided page (records_of page)) (before _ _ _ (numbers_decided page (records_of page))
    (before _ _ _ (free_decided page) (before _ _ _ (directory_decided page (records_of page))
    (before _ _ _ (record_kinds page leaf (records_of page))
    (before _ _ _ (spelled_decided page fields (heap_of page)) (before _ _ _ (apart_decided page fields (heap_of page))
    (before _ _ _ (empty_decided leaf root (records_of page))
    (Check-answered _ _ (keys_rise page fields (is_lowest_first leaf leftmost) (records_of page))))))))))))

-- the place of a page
level_decided : (page : List ℕ) (level : ℕ) → IsDecided (HasSpotLevel page level)
level_decided page level = both_decided (number_decided (level_of page) level) (most_decided level 50)

low_decided : (page : List ℕ) (fields : Fields) (level : ℕ) (low : Option Key)
    → IsDecided (HasLow page fields level low)
low_decided page fields level None = inl tt
low_decided page fields level (Some low) =
    both_decided (not_decided (key_below fields (record_key page fields 0) low))
    (given_decided (below_decided 0 level) (keys_equal fields (record_key page fields 0) low))

high_decided : (page : List ℕ) (fields : Fields) (lowest_first : Bool) (high : Option Key)
    → IsDecided (HasLastBelow page fields lowest_first high)
high_decided page fields lowest_first None = inl tt
high_decided page fields lowest_first (Some high) =
    given_decided
    (not_decided (both_decided (number_decided (record_count page) 1) (truth_decided lowest_first true)))
    (key_below fields (record_key page fields (record_count page - 1)) high)

separators_decided : (page : List ℕ) (fields : Fields) (spot : Spot) → IsDecided (HasSeparators page fields spot)
separators_decided page fields spot =
    same_decided (λ h. record { low = h.0; high = h.1 }) (λ h. (h.low, h.high))
    (both_decided (low_decided page fields spot.level spot.low)
    (high_decided page fields (is_lowest_first (is_leaf_level spot.level) spot.leftmost) spot.high))

mark_decided : (page : List ℕ) (leaf leftmost : Bool) (k origin : ℕ) → IsDecided (HasMarkAt page leaf leftmost k origin)
mark_decided page leaf leftmost k origin =
    let mark = truth_decided (is_minimum page origin) true in
    let first = both_decided (number_decided k 0) (truth_decided (is_lowest_first leaf leftmost) true) in
    both_decided (given_decided mark first) (given_decided first mark)

marks_decided : (page : List ℕ) (leaf leftmost : Bool) (chain : List ℕ)
    → IsDecided (HasMinimumMark page leaf leftmost chain)
marks_decided page leaf leftmost chain =
    every_decided (λ k. HasMarkAt page leaf leftmost k (get_or chain k 0))
    (λ k. mark_decided page leaf leftmost k (get_or chain k 0)) (length chain)

node_answered : (page : List ℕ) (fields : Fields) (spot : Spot) → HasAnswer (NodeAt page fields spot)
node_answered page fields spot =
    before _ _ _ (level_decided page spot.level)
    (both _ _ (AtPage-answered spot.page _ (page_answered page fields _ _ _))
    (before _ _ _ (separators_decided page fields spot)
    (holds _ _ _ (marks_decided page (is_leaf_level spot.level) spot.leftmost (records_of page)))))

spot_answered : (page : List ℕ) (fields : Fields) (id : ℕ) (spot : Spot) (previous next : ℕ)
    → HasAnswer (SpotAt page fields id spot previous next)
spot_answered page fields id spot previous next =
    before _ _ _ (number_decided (index_id_of page) id)
    (before _ _ _ (both_decided (number_decided (previous_page page) previous) (number_decided (next_page page) next))
    (node_answered page fields spot))

-- the segment that uses a page
abbrev pub segment_of : Owner → ℕ
segment_of (owners.Used segment) = segment
segment_of _ = 0

abbrev is_of_segment : Owner → Bool
is_of_segment (owners.Used segment) = true
is_of_segment _ = false

owner_is : (owner : Owner) (segment : ℕ) → is_of_segment owner ≡ true → segment_of owner ≡ segment
    → owner ≡ owners.Used segment
owner_is (owners.Used s) segment is e = ap owners.Used e
owner_is owner segment is e = absurd (false≢true is)

pub owner_decided : (owner : Owner) (segment : ℕ) → IsDecided (owner ≡ owners.Used segment)
owner_decided owner segment =
    same_decided (λ h. owner_is owner segment h.0 h.1) (λ e. (ap is_of_segment e, ap segment_of e))
    (both_decided (truth_decided (is_of_segment owner) true) (number_decided (segment_of owner) segment))

pub page_of_decided : (file : List ℕ) (segment kind n : ℕ) → IsDecided (IsPageOf file segment kind n)
page_of_decided file segment kind n =
    same_decided (λ h. record { below = h.0; used = h.1; has_kind = h.2 }) (λ h. (h.below, h.used, h.has_kind))
    (three_decided (below_decided n (size_of file)) (owner_decided (owner_of file n) segment)
    (number_decided (kind_of (page_of file n)) kind))

root_decided : (file : List ℕ) (taken : Bool) (root : ℕ) → IsDecided (IsRootPlace file taken root)
root_decided file taken root =
    same_decided (λ h. record { page = (segment_of (owner_of file root), h.0); new = h.1 })
    (λ h. (
      subst (λ (s : ℕ). IsPageOf file s index_kind root) (sym (ap segment_of h.page.1.used)) h.page.1,
      h.new,
    ))
    (both_decided (page_of_decided file (segment_of (owner_of file root)) index_kind root)
    (truth_decided taken false))

names_decided : (index : Index) → IsDecided (NamesSegments index)
names_decided index =
    same_decided
    (λ h. record {
      leaf_space = h.0.0;
      top_space = h.0.1;
      leaf_known = h.1.0;
      top_known = h.1.1;
      differ = h.1.2;
    })
    (λ h. ((h.leaf_space, h.top_space), (h.leaf_known, h.top_known, h.differ)))
    (both_decided
    (both_decided (number_decided (num (page_in index index.root) 74 4) (space_of (page_of index.file 0)))
    (number_decided (num (page_in index index.root) 84 4) (space_of (page_of index.file 0))))
    (three_decided (below_decided (leaf_segment index) (segment_count index.file))
    (below_decided (top_segment index) (segment_count index.file))
    (not_decided (number_decided (leaf_segment index) (top_segment index)))))

new_segments : (index : Index) (named : ℕ → Bool) → IsDecided (HasNewSegments index named)
new_segments index named =
    same_decided (λ h. record { names = h.0.0; leaf_new = h.0.1; top_new = h.1.0; owner = h.1.1 })
    (λ h. ((h.names, h.leaf_new), (h.top_new, h.owner)))
    (both_decided (both_decided (names_decided index) (truth_decided (named (leaf_segment index)) false))
    (both_decided (truth_decided (named (top_segment index)) false)
    (owner_decided (owner_of index.file index.root) (top_segment index))))

place_decided : (file : List ℕ) (taken : Bool) (segment n : ℕ) → IsDecided (IsPagePlace file taken segment n)
place_decided file taken segment n =
    same_decided (λ h. record { page = h.0; new = h.1 }) (λ h. (h.page, h.new))
    (both_decided (page_of_decided file segment index_kind n) (truth_decided taken false))

tree_answered : (index : Index) (taken named : ℕ → Bool) → HasAnswer (TreeChecks index taken named)
tree_answered index taken named =
    both _ _
    (before _ _ _ (root_decided index.file (taken index.root) index.root)
    (before _ _ _ (new_segments index named) (spot_answered _ _ _ _ _ _)))
    (All-answered _ _
    (λ depth.
    All-answered _ _
    (λ j. before _ _ _ (place_decided index.file _ _ _) (spot_answered _ _ _ _ _ _))))

named_answered : (file : List ℕ) (table : TableDef) → HasAnswer (NamedChecks file table)
named_answered file table =
    EachOf-answered (segments file) (NamedCheck (IsNamedIn file table))
    (λ earlier place. holds _ _ _ (truth_decided _ true))

pub trees_answered : (file : List ℕ) (table : TableDef) → HasAnswer (TableTreeChecks file table)
trees_answered file table =
    both (AllTreeChecks file table) (NamedChecks file table)
    (All-answered (index_count table) (IndexCheck file table)
    (λ j.
    tree_answered (index_in file table j) (is_in (pages_of_trees file table j))
    (is_in (segments_of_trees file table j))))
    (named_answered file table)
