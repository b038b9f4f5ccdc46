-- The segments that are kept, one after another.
use Rattle.std.proofs.Common.{◌≡◌, ℕ, ◌+◌, ◌<◌, ◌↔◌, ◌||◌, ◌==◌, Bool, true, false, eq-eqb, List, [], ◌∷◌, ◌++◌}
use Rattle.std.proofs.Common.{length, get_or, map, take, Some, None, Contains, slice_get, unwrap_or, refl, sym, ◌∙◌, ap}
use Rattle.std.proofs.Common.{subst, inl, inr, arith}
use lib.ListN.{get_or-map}
use Rattle.std.proofs.lemmas.Bool.{cases_lt, or_cases, false≢true}
use Rattle.std.proofs.lemmas.Bool.Decides.{eqb_tells}
use Rattle.std.proofs.lemmas.List.{take-map, map_more}
use Rattle.std.proofs.lemmas.List.Elements.{Contains-append_left, Contains-push, Contains-push_cases}
use Rattle.std.proofs.lemmas.Simd.{map-map}
use Rattle.std.proofs.lemmas.Option.{slice_get_within, unwrap_or-slice_get}
use Rattle.page_source.specs.declared.rule.Fault.{Fault}
use Rattle.page_source.specs.Verdict.{AllBefore}
use Rattle.space_header.specs.declared.address.Address.{Address}
use Rattle.space_header.specs.Header.{head_of}
use Rattle.inode_segments.specs.declared.inode.Inode.{Inode}
use Rattle.inode_segments.specs.Inodes.{segments, inodes_of, inode_of, segment_id}
use Rattle.inode_segments.specs.InodeChecks.{SegmentCheck, SegmentChecks, IsNewId}
use Rattle.inode_segments.specs.Kept.{InodesView, AreKept}

-- a place that is found in a list
found_at : {X : Type 0} (xs : List X) (i : ℕ) (x d : X) → slice_get xs i ≡ Some x → get_or xs i d ≡ x
found_at xs i x d found = sym (unwrap_or-slice_get xs i d) ∙ ap (λ o. unwrap_or o d) found

-- the segment at a place: it is one of the file
pub record IsSegment (file : List ℕ) (i : ℕ) (place : Address) (inode : Inode) : Type 0 where
  pub below : i < length (segments file)
  pub there : (d : Address) → get_or (segments file) i d ≡ place
  pub is : inode_of file place ≡ inode

pub segment_there : (file : List ℕ) (kept : InodesView) (i : ℕ) (place : Address) (inode : Inode) → AreKept file kept
    → slice_get kept.places i ≡ Some place → slice_get kept.inodes i ≡ Some inode → IsSegment file i place inode
unfolding inodes_of
segment_there file kept i place inode are at is =
    let there = λ (d : Address). ap (λ (xs : List Address). get_or xs i d) (sym are.places)
    ∙ found_at kept.places i place d at in
    let here : get_or kept.inodes i (inode_of file place) ≡ inode =
    found_at kept.inodes i inode (inode_of file place) is in
    record {
      below = subst (λ xs. i < length xs) are.places (slice_get_within kept.places i place at);
      there = there;
      is = sym (ap (λ (xs : List Inode). get_or xs i (inode_of file place)) are.inodes
          ∙ get_or-map (inode_of file) (segments file) i place ∙ ap (inode_of file) (there place)) ∙ here;
    }

-- the ids so far
pub ids_so_far : (file : List ℕ) (kept : InodesView) (i : ℕ) → AreKept file kept
    → map (λ (y : Inode). y.id) (take i kept.inodes) ≡ map (segment_id file) (take i (segments file))
unfolding inodes_of
ids_so_far file kept i are =
    ap (λ xs. map (λ (y : Inode). y.id) (take i xs)) are.inodes
    ∙ ap (map (λ (y : Inode). y.id)) (take-map (inode_of file) i (segments file))
    ∙ map-map (λ (y : Inode). y.id) (inode_of file) (take i (segments file))

-- an id that is new here
pub new_id : (file : List ℕ) (kept : InodesView) (i next : ℕ) (place : Address) (inode : Inode) → AreKept file kept
    → (head_of file).next_segment ≡ next → IsSegment file i place inode → inode.id < next
    → ¬ (Contains (map (λ (y : Inode). y.id) (take i kept.inodes)) inode.id)
    → IsNewId file (take i (segments file)) (segment_id file place)
new_id file kept i next place inode are head here below new =
    let same : segment_id file place ≡ inode.id = ap (λ (y : Inode). y.id) here.is in
    record {
      below = omega (arith, below, same, head);
      new = λ has. new (subst (λ x. Contains (map (λ (y : Inode). y.id) (take i kept.inodes)) x) same
          (subst (λ xs. Contains xs (segment_id file place)) (sym (ids_so_far file kept i are)) has));
    }

pub is_new : (file : List ℕ) (kept : InodesView) (i next : ℕ) (place : Address) (inode : Inode) → AreKept file kept
    → (head_of file).next_segment ≡ next → IsSegment file i place inode
    → IsNewId file (take i (segments file)) (segment_id file place)
    → (inode.id < next) × (¬ (Contains (map (λ (y : Inode). y.id) (take i kept.inodes)) inode.id))
is_new file kept i next place inode are head here is =
    let same : segment_id file place ≡ inode.id = ap (λ (y : Inode). y.id) here.is in (
      omega (arith, is.below, same, head),
      λ has. is.new (subst (λ x. Contains (map (segment_id file) (take i (segments file))) x) (sym same)
          (subst (λ xs. Contains xs inode.id) (ids_so_far file kept i are) has)),
    )

-- the first segment whose check breaks
pub segment_breaks : (file : List ℕ) (i : ℕ) (place : Address) (inode : Inode) (fault : Fault)
    → IsSegment file i place inode → AllBefore (segments file) (SegmentCheck file) i
    → SegmentCheck file (take i (segments file)) place (Some fault) → SegmentChecks file (Some fault)
segment_breaks file i place inode fault here before check = (
  i,
  here.below,
  before,
  λ d. subst (λ p. SegmentCheck file (take i (segments file)) p (Some fault)) (sym (here.there d)) check,
)

-- one more whose check holds
pub segment_holds : (file : List ℕ) (i : ℕ) (place : Address) (inode : Inode)
    → IsSegment file i place inode → AllBefore (segments file) (SegmentCheck file) i
    → SegmentCheck file (take i (segments file)) place None → AllBefore (segments file) (SegmentCheck file) (i + 1)
segment_holds file i place inode here before check = λ j d below. elim (cases_lt j i) [
  | inl earlier ↦ before j d earlier
  | inr last ↦
      let at : i ≡ j = omega arith in
      subst (λ k. SegmentCheck file (take k (segments file)) (get_or (segments file) k d) None) at
      (subst (λ p. SegmentCheck file (take i (segments file)) p None) (sym (here.there d)) check)
]

-- the ids with one more
pub ids_more : (inodes : List Inode) (i : ℕ) (inode : Inode) → slice_get inodes i ≡ Some inode
    → map (λ (y : Inode). y.id) (take (i + 1) inodes) ≡ map (λ (y : Inode). y.id) (take i inodes) ++ inode.id ∷ []
ids_more inodes i inode is =
    map_more (λ (y : Inode). y.id) inodes i inode (slice_get_within inodes i inode is)
    ∙ ap (λ (y : Inode). map (λ (y : Inode). y.id) (take i inodes) ++ y.id ∷ []) (found_at inodes i inode inode is)

same_number : (m n : ℕ) → (m == n) ≡ true → m ≡ n
same_number m n same = elim (eqb_tells m n) [ inl q ↦ q.1 | inr q ↦ absurd (false≢true (sym q.0 ∙ same)) ]

or_right : (a b : Bool) → b ≡ true → (a || b) ≡ true
or_right true b is = refl
or_right false b is = is

pub has_more : (has now : ℕ → Bool) (ids : List ℕ) (id : ℕ) → ((x : ℕ) → now x ≡ (has x || (x == id)))
    → ((x : ℕ) → has x ≡ true ↔ Contains ids x) → (x : ℕ) → now x ≡ true ↔ Contains (ids ++ id ∷ []) x
has_more has now ids id added so_far x = (
  λ is. elim (or_cases (has x) (x == id) (sym (added x) ∙ is)) [
    | inl before ↦ Contains-append_left ids (id ∷ []) x ((so_far x).0 before)
    | inr same ↦ subst (λ y. Contains (ids ++ id ∷ []) y) (sym (same_number x id same)) (Contains-push ids id)
  ],
  λ has_it. elim (Contains-push_cases ids id x has_it) [
    | inl before ↦ added x ∙ ap (λ b. b || (x == id)) ((so_far x).1 before)
    | inr same ↦ added x ∙ or_right (has x) (x == id) (eq-eqb x id (sym same))
  ],
)
