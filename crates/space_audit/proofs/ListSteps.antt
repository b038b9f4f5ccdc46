-- The checks of lists by numbers are those of the file's lists.
use Rattle.std.proofs.Common.{◌≡◌, ℕ, zero, suc, [], ◌∷◌, ◌+◌, ◌*◌, ◌<◌, ◌≤◌, ◌==◌, ◌&&◌, nat_lt, List, length, get_or}
use Rattle.std.proofs.Common.{slice_get, map, take, Option, Some, None, refl, sym, ◌∙◌, ap, subst, inl, inr, arith}
use Rattle.std.proofs.Common.{Result, Ok, Err}
use Rattle.std.proofs.lemmas.Bool.Decides.{Decides-eqb}
use Rattle.std.proofs.lemmas.Bool.{cases_lt}
use Rattle.page_source.specs.declared.rule.Fault.{Fault}
use Rattle.page_source.specs.declared.checks.Stop.{Stop}
use Rattle.page_source.specs.declared.checks.Stop.TheVariants as stops
use Rattle.page_source.specs.Checks.{Answers, Stops}
use Rattle.page_source.specs.Verdict.{Then, Each, AllBefore}
use Rattle.page_source.specs.Lists.{AreDistinct, HaveSameMembers}
use Rattle.space_header.specs.declared.address.Address.{Address}
use Rattle.space_header.specs.declared.address.Node.{Node}
use Rattle.space_header.specs.declared.header.SpaceHeader.{SpaceHeader}
use Rattle.space_header.specs.Header.{head_of}
use Rattle.inode_segments.specs.declared.inode.Inode.{Inode}
use Rattle.extent_map.specs.Extents.{extent_count, used_count}
use Rattle.extent_map.specs.Descriptors.{IsExtent}
use Rattle.extent_map.specs.Laws.{UsedPagesAreOfExtents}
use Rattle.inode_segments.specs.Inodes.{segments, segment_id, inode_of, inodes_of}
use Rattle.inode_segments.specs.Kept.{InodesView}
use lib.ListN.{get_or-map}
use Rattle.std.proofs.lemmas.List.{length-map}
use Rattle.space_audit.specs.Lists.{HomeList, HomeListChecks, ThreeChecks, SegmentListsCheck, HomeCheck, NumberCheck}
use Rattle.space_audit.specs.Lists.{ListChecks, IsListed, at_home, free_list, free_frag_list, full_frag_list}
use Rattle.space_audit.specs.Lists.{free_extents, not_full_extents, full_extents, homes_of, numbered_list}
use Rattle.extent_map.specs.Extents.{extent_nodes}
use Rattle.space_audit.proofs.OwnerFacts.{get_at}
use Rattle.space_audit.proofs.HomeNumbers.{space_home, own_home, same_home_checks, homes_length, home_at}
use Rattle.space_audit.proofs.HomeNumbers.{home_from_number, number_from_home, part_free, part_full, part_of_free}
use Rattle.space_audit.proofs.HomeNumbers.{part_of_full, part_of_some, some_of_part}

then_map : {F : Type 0} (x y z w : Option F → Type 0) → ((v : Option F) → x v → z v) → ((v : Option F) → y v → w v)
    → (v : Option F) → Then x y v → Then z w v
then_map x y z w f g None h = (f None h.0, g None h.1)
then_map x y z w f g (Some fault) h = elim h [
  | inl a ↦ inl (f (Some fault) a)
  | inr b ↦ inr
      (f None b.0, g (Some fault) b.1)
]

pub stops_map : (stop : Stop) (x y : Option Fault → Type 0) → ((v : Option Fault) → x v → y v) → Stops stop x
    → Stops stop y
stops_map (stops.Broken fault) x y f h = f (Some fault) h
stops_map stops.Source x y f h = tt
stops_map stops.Memory x y f h = tt

three_map : (nodes : List Node) (a b c d e f : HomeList)
    → ((v : Option Fault) → HomeListChecks nodes a v → HomeListChecks nodes d v)
    → ((v : Option Fault) → HomeListChecks nodes b v → HomeListChecks nodes e v)
    → ((v : Option Fault) → HomeListChecks nodes c v → HomeListChecks nodes f v) → (v : Option Fault)
    → ThreeChecks nodes a b c v → ThreeChecks nodes d e f v
three_map nodes a b c d e f p q r =
    then_map (HomeListChecks nodes a) (Then (HomeListChecks nodes b) (HomeListChecks nodes c))
    (HomeListChecks nodes d) (Then (HomeListChecks nodes e) (HomeListChecks nodes f)) p
    (then_map (HomeListChecks nodes b) (HomeListChecks nodes c) (HomeListChecks nodes e) (HomeListChecks nodes f) q r)

-- the lists of the space
space_same : (file : List ℕ) → ((e : ℕ) → e < extent_count file → IsExtent file e) → (v : Option Fault)
    → ThreeChecks (extent_nodes file) (numbered_list (homes_of file) (head_of file).free 0 0)
    (numbered_list (homes_of file) (head_of file).free_frag 0 1)
    (numbered_list (homes_of file) (head_of file).full_frag 0 2) v
    → ThreeChecks (extent_nodes file) (free_list file) (free_frag_list file) (full_frag_list file) v
space_same file x =
    three_map (extent_nodes file) _ _ _ (free_list file) (free_frag_list file) (full_frag_list file)
    (same_home_checks (extent_nodes file) (head_of file).free 0 (at_home (homes_of file) 0) _
    (space_home file x 1 (omega arith) (omega arith)))
    (same_home_checks (extent_nodes file) (head_of file).free_frag 0 (at_home (homes_of file) 1) _
    (space_home file x 2 (omega arith) (omega arith)))
    (same_home_checks (extent_nodes file) (head_of file).full_frag 0 (at_home (homes_of file) 2) _
    (space_home file x 3 (omega arith) (omega arith)))

-- those of a segment
segment_same : (file : List ℕ) → UsedPagesAreOfExtents → ((e : ℕ) → e < extent_count file → IsExtent file e)
    → AreDistinct (map (segment_id file) (segments file)) → (s : ℕ) (place : Address)
    → slice_get (segments file) s ≡ Some place
    → (before : List Address) (v : Option Fault)
    → ThreeChecks (extent_nodes file) (numbered_list (homes_of file) (inode_of file place).free place.page
    (3 + 3 * s)) (numbered_list (homes_of file) (inode_of file place).not_full place.page (3 + 3 * s + 1))
    (numbered_list (homes_of file) (inode_of file place).full place.page (3 + 3 * s + 2)) v
    → SegmentListsCheck file before place v
segment_same file law x d s place g before =
    let used_few : (e : ℕ) → used_count file e ≤ 64 = λ e. (law file e).few in
    let free = own_home file x d s place g 0 (λ k. k == 0) (omega arith) part_of_free
    (λ k h _. (Decides-eqb k 0).1 (part_free k h)) used_few in
    let some = own_home file x d s place g 1 (λ k. nat_lt 0 k && nat_lt k 64) (omega arith) part_of_some
    some_of_part used_few in
    let full = own_home file x d s place g 2 (λ k. k == 64) (omega arith) part_of_full
    (λ k h _. (Decides-eqb k 64).1 (part_full k h)) used_few in
    let at0 : 3 + (3 * s + 0) ≡ 3 + 3 * s = omega arith in
    let at1 : 3 + (3 * s + 1) ≡ 3 + 3 * s + 1 = omega arith in
    let at2 : 3 + (3 * s + 2) ≡ 3 + 3 * s + 2 = omega arith in
    three_map (extent_nodes file) _ _ _ _ _ _
    (same_home_checks (extent_nodes file) (inode_of file place).free place.page
    (at_home (homes_of file) (3 + 3 * s)) (free_extents file place)
    (subst (λ h. HaveSameMembers (at_home (homes_of file) h) (free_extents file place)) at0 free))
    (same_home_checks (extent_nodes file) (inode_of file place).not_full place.page
    (at_home (homes_of file) (3 + 3 * s + 1)) (not_full_extents file place)
    (subst (λ h. HaveSameMembers (at_home (homes_of file) h) (not_full_extents file place)) at1 some))
    (same_home_checks (extent_nodes file) (inode_of file place).full place.page
    (at_home (homes_of file) (3 + 3 * s + 2)) (full_extents file place)
    (subst (λ h. HaveSameMembers (at_home (homes_of file) h) (full_extents file place)) at2 full))

pub get_some : {X : Type 0} (xs : List X) (s : ℕ) (d : X) → s < length xs → slice_get xs s ≡ Some (get_or xs s d)
get_some [] s d h = absurd (omega arith)
get_some (x ∷ xs) zero d h = refl
get_some (x ∷ xs) (suc s) d h = get_some xs s d (omega arith)

-- by the arrays
pub listed_first : (file : List ℕ) (header : SpaceHeader) (inodes : InodesView) (nodes : List Node) (homes : List ℕ)
    → IsListed file header inodes nodes homes → (v : Option Fault)
    → ThreeChecks nodes (numbered_list homes header.free 0 0) (numbered_list homes header.free_frag 0 1)
    (numbered_list homes header.full_frag 0 2) v
    → ThreeChecks (extent_nodes file) (free_list file) (free_frag_list file) (full_frag_list file) v
listed_first file header inodes nodes homes h v x = space_same file h.extents v
    (rw (h.nodes_are, h.homes_are, h.header_is) at x)

pub get_other : {X : Type 0} (xs : List X) (s : ℕ) (d e : X) → s < length xs → get_or xs s d ≡ get_or xs s e
get_other [] s d e h = absurd (omega arith)
get_other (x ∷ xs) zero d e h = refl
get_other (x ∷ xs) (suc s) d e h = get_other xs s d e (omega arith)

pub inode_there : (file : List ℕ) (s : ℕ) (e : Inode) (f : Address) → s < length (segments file)
    → get_or (inodes_of file) s e ≡ inode_of file (get_or (segments file) s f)
unfolding inodes_of
inode_there file s e f h =
    get_other (map (inode_of file) (segments file)) s e (inode_of file f)
    (subst (λ n. s < n) (sym (length-map (segments file) (inode_of file))) h)
    ∙ get_or-map (inode_of file) (segments file) s f

pub listed_segment : (file : List ℕ) → UsedPagesAreOfExtents → (header : SpaceHeader) (inodes : InodesView)
    (nodes : List Node) (homes : List ℕ)
    → IsListed file header inodes nodes homes → (s : ℕ) (place : Address) (inode : Inode) (before : List Address)
    → slice_get inodes.places s ≡ Some place → slice_get inodes.inodes s ≡ Some inode → (v : Option Fault)
    → ThreeChecks nodes (numbered_list homes inode.free place.page (3 + 3 * s))
    (numbered_list homes inode.not_full place.page (3 + 3 * s + 1))
    (numbered_list homes inode.full place.page (3 + 3 * s + 2)) v
    → (f : Address) → SegmentListsCheck file before (get_or (segments file) s f) v
listed_segment file law header inodes nodes homes h s place inode before p i v x f =
    let at_place = get_at inodes.places s place p in
    let at_inode = get_at inodes.inodes s inode i in
    let inside : s < length (segments file) = subst (λ xs. s < length xs) h.inodes_are.places at_place.0 in
    let g : slice_get (segments file) s ≡ Some (get_or (segments file) s f) = get_some (segments file) s f inside in
    let p2 : place ≡ get_or (segments file) s f = sym (at_place.1 f) ∙ ap (λ xs. get_or xs s f) h.inodes_are.places in
    let i2 : inode ≡ inode_of file (get_or (segments file) s f) =
    sym (at_inode.1 inode) ∙ (ap (λ xs. get_or xs s inode) h.inodes_are.inodes
    ∙ inode_there file s inode f inside) in
    segment_same file law h.extents h.distinct s (get_or (segments file) s f) g before v
    (rw (i2, p2, h.nodes_are, h.homes_are) at x)

-- where the lists of the space or those of a segment break, the checks do
pub first_stops : (file : List ℕ) (stop : Stop)
    → Stops stop (ThreeChecks (extent_nodes file) (free_list file) (free_frag_list file) (full_frag_list file))
    → Stops stop (ListChecks file)
unfolding ListChecks
first_stops file (stops.Broken fault) h = inl h
first_stops file stops.Source h = tt
first_stops file stops.Memory h = tt

pub segment_stops : (file : List ℕ) (s : ℕ) (stop : Stop)
    → ThreeChecks (extent_nodes file) (free_list file) (free_frag_list file) (full_frag_list file) None
    → s < length (segments file)
    → AllBefore (segments file) (SegmentListsCheck file) s
    → ((d : Address) → Stops stop (SegmentListsCheck file (take s (segments file)) (get_or (segments file) s d)))
    → Stops stop (ListChecks file)
unfolding ListChecks
segment_stops file s (stops.Broken fault) a l b h = inr (a, inl (s, l, b, h))
segment_stops file s stops.Source a l b h = tt
segment_stops file s stops.Memory a l b h = tt

-- homes by numbers
home_checks : (file : List ℕ) (homes : List ℕ) (lists : ℕ) → homes ≡ homes_of file
    → lists ≡ 3 + 3 * length (segments file) → ((e : ℕ) → e < extent_count file → IsExtent file e)
    → (e : ℕ) → e < extent_count file → (v : Option Fault) → NumberCheck homes lists e v → HomeCheck file e v
home_checks file homes lists h n x e l None k = home_from_number file e
    (subst (λ m. m < 3 + 3 * length (segments file)) (ap (λ xs. get_or xs e 0) h
    ∙ home_at file e l) (subst (λ m. get_or homes e 0 < m) n k))
home_checks file homes lists h n x e l (Some fault) k = (
  (λ has. k.0 (subst (λ m. get_or homes e 0 < m) (sym n) (subst (λ m. m < 3 + 3 * length (segments file))
      (sym (ap (λ xs. get_or xs e 0) h ∙ home_at file e l)) (number_from_home file e (x e l) has)))),
  k.1,
)

each_map : {F : Type 0} (n : ℕ) (a b : ℕ → Option F → Type 0) → ((k : ℕ) → k < n → (v : Option F) → a k v → b k v)
    → (v : Option F) → Each n a v → Each n b v
each_map n a b f None h = λ k l. f k l None (h k l)
each_map n a b f (Some fault) h = (
  h.0,
  h.1,
  (λ k l. f k (omega (arith, h.1, l)) None (h.2 k l)),
  f h.0 h.1
      (Some fault) h.3,
)

rest_of_lists : (file : List ℕ) → ThreeChecks (extent_nodes file) (free_list file) (free_frag_list file)
    (full_frag_list file) None → AllBefore (segments file) (SegmentListsCheck file) (length (segments file))
    → (v : Option Fault) → Each (extent_count file) (HomeCheck file) v → ListChecks file v
unfolding ListChecks
rest_of_lists file a b None h = (a, (b, h))
rest_of_lists file a b (Some fault) h = inr (a, inr (b, h))

homes_answer : (file : List ℕ) (header : SpaceHeader) (inodes : InodesView) (nodes : List Node) (homes : List ℕ)
    → IsListed file header inodes nodes homes
    → ThreeChecks (extent_nodes file) (free_list file) (free_frag_list file) (full_frag_list file) None
    → AllBefore (segments file) (SegmentListsCheck file) (length inodes.places)
    → (numbers : List ℕ) (lists : ℕ) → numbers ≡ homes → lists ≡ 3 + 3 * length inodes.places
    → (v : Option Fault) → Each (length numbers) (NumberCheck numbers lists) v → ListChecks file v
homes_answer file header inodes nodes homes h a b numbers lists same all v e =
    let are : numbers ≡ homes_of file = same ∙ h.homes_are in
    let n : length numbers ≡ extent_count file = ap length are ∙ homes_length file in
    rest_of_lists file a (subst (λ xs. AllBefore (segments file) (SegmentListsCheck file) (length xs))
    h.inodes_are.places b) v
    (each_map (extent_count file) (NumberCheck numbers lists) (HomeCheck file)
    (home_checks file numbers lists are (all ∙ ap (λ xs. 3 + 3 * length xs) h.inodes_are.places) h.extents) v
    (subst (λ m. Each m (NumberCheck numbers lists) v) n e))

pub homes_holds : (file : List ℕ) (header : SpaceHeader) (inodes : InodesView) (nodes : List Node) (homes : List ℕ)
    → IsListed file header inodes nodes homes
    → ThreeChecks (extent_nodes file) (free_list file) (free_frag_list file) (full_frag_list file) None
    → AllBefore (segments file) (SegmentListsCheck file) (length inodes.places)
    → (numbers : List ℕ) (lists : ℕ) → numbers ≡ homes → lists ≡ 3 + 3 * length inodes.places
    → Each (length numbers) (NumberCheck numbers lists) None → ListChecks file None
homes_holds file header inodes nodes homes h a b numbers lists same all e =
    homes_answer file header inodes nodes homes h a b numbers lists same all None e

pub homes_breaks : (file : List ℕ) (header : SpaceHeader) (inodes : InodesView) (nodes : List Node) (homes : List ℕ)
    → IsListed file header inodes nodes homes
    → ThreeChecks (extent_nodes file) (free_list file) (free_frag_list file) (full_frag_list file) None
    → AllBefore (segments file) (SegmentListsCheck file) (length inodes.places)
    → (numbers : List ℕ) (lists : ℕ) (fault : Fault) → numbers ≡ homes → lists ≡ 3 + 3 * length inodes.places
    → Each (length numbers) (NumberCheck numbers lists) (Some fault) → ListChecks file (Some fault)
homes_breaks file header inodes nodes homes h a b numbers lists fault same all e =
    homes_answer file header inodes nodes homes h a b numbers lists same all (Some fault) e

-- one more segment
pub before_more : (file : List ℕ) (s : ℕ) → AllBefore (segments file) (SegmentListsCheck file) s
    → ((d : Address) → SegmentListsCheck file (take s (segments file)) (get_or (segments file) s d) None)
    → AllBefore (segments file) (SegmentListsCheck file) (s + 1)
before_more file s a h = λ j d l. elim (cases_lt j s) [
  | inl below ↦ a j d below
  | inr above ↦ let e : s ≡ j = omega arith in subst (λ k. SegmentListsCheck file (take k (segments file))
      (get_or (segments file) k d) None) e (h d)
]
