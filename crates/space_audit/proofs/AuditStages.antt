-- The stages of the audit, in their order.
use Rattle.std.proofs.Common.{◌≡◌, ℕ, ◌+◌, ◌<◌, ◌≤◌, List, [], ◌∷◌, ◌++◌, length, get_or, map, filter, IfSome, take}
use Rattle.std.proofs.Common.{Option, Some, None, Result, Ok, Err, IfOk, refl, sym, ◌∙◌, ap, subst, inl, inr, arith}
use Rattle.std.specs.List.{range_with_len}
use Rattle.std.proofs.lemmas.List.{map-append, take_more, length-map}
use Rattle.std.proofs.lemmas.List.FromFn.{fill_by_all}
use Rattle.std.proofs.Math.Seq.{take-append_seam}
use Rattle.page_source.proofs.Told.{map_told3}
use Rattle.page_source.specs.declared.rule.Fault.{Fault}
use Rattle.page_source.specs.declared.checks.Stop.{Stop}
use Rattle.page_source.specs.declared.checks.Stop.TheVariants as stops
use Rattle.page_source.specs.declared.checks.Halt.{Halt}
use Rattle.page_source.specs.declared.checks.Halt.TheVariants as halts
use Rattle.page_source.specs.Checks.{Answers, Stops, Finds, HaltsAt, stop_of}
use Rattle.page_source.specs.Verdict.{EachOf, Each}
use Rattle.space_header.specs.declared.address.Address.{Address}
use Rattle.space_header.specs.declared.header.SpaceHeader.{SpaceHeader}
use Rattle.space_header.specs.Header.{head_of, header_of, size_of, limit_of}
use Rattle.extent_map.specs.declared.extent.Extent.{Extent}
use Rattle.extent_map.specs.Head.{HeadChecks, HasHeader}
use Rattle.extent_map.specs.Extents.{AreExtents, is_fragment_page, is_used}
use Rattle.extent_map.specs.Descriptors.{AllDescriptorChecks}
use Rattle.extent_map.specs.Laws.{DescriptorChecksAreSound, UsedPagesAreOfExtents}
use Rattle.inode_segments.specs.declared.inode.Inode.{Inode}
use Rattle.inode_segments.specs.Inodes.{segments, segment_id, inode_of, inodes_of}
use Rattle.inode_segments.specs.InodeChecks.{AllInodeChecks}
use Rattle.inode_segments.specs.Kept.{InodesView, AreKept}
use Rattle.inode_segments.specs.Laws.{InodeChecksAreSound}
use Rattle.space_audit.specs.Lists.{ListChecks}
use Rattle.space_audit.specs.Audit.{AuditChecks, OwnerChecks, SpaceChecks, PagesChecks, OwnershipChecks, UseChecks}
use Rattle.space_audit.specs.Audit.{CountChecks, FrameChecks, SlotsCheck, ClaimCheck}
use Rattle.space_audit.specs.Space.{SpaceView, IsAuditOf}
use Rattle.space_audit.specs.Read.{IsRead, IsSpaceOf, AwaitsFrames, AreKinds}
use Rattle.space_audit.specs.declared.owner.Owner.TheVariants.{Beyond}
use Rattle.space_audit.specs.Owners.{owner_of, owner_by, AreOwners}
use Rattle.space_audit.proofs.FindOwner.{owner_kept}
use Rattle.space_audit.proofs.ClaimSteps.{used_in_size}

-- the header of the file
pub head_size : (file : List ℕ) (header : SpaceHeader) → header ≡ head_of file → header.size ≡ size_of file
unfolding header_of
head_size file header same = ap (λ (h : SpaceHeader). h.size) same

-- the ids of the segments
pub ids_more : (inodes : List Inode) (s : ℕ) (inode : Inode) → s < length inodes → get_or inodes s inode ≡ inode
    → map (λ (i : Inode). i.id) (take s inodes) ++ inode.id ∷ [] ≡ map (λ (i : Inode). i.id) (take (s + 1) inodes)
ids_more inodes s inode l at =
    sym (ap (λ (xs : List Inode). map (λ (i : Inode). i.id) xs) (take_more inodes s inode l
    ∙ ap (λ (p : Inode). take s inodes ++ p ∷ []) at)
    ∙ map-append (λ (i : Inode). i.id) (take s inodes) (inode ∷ []))

ids_of : (file : List ℕ) (places : List Address)
    → map (λ (i : Inode). i.id) (map (inode_of file) places) ≡ map (segment_id file) places
ids_of file [] = refl
ids_of file (p ∷ places) = ap (λ xs. segment_id file p ∷ xs) (ids_of file places)

pub ids_are : (file : List ℕ) (inodes : InodesView) (ids : List ℕ) → AreKept file inodes
    → ids ≡ map (λ (i : Inode). i.id) inodes.inodes
    → ids ≡ map (segment_id file) (segments file)
unfolding inodes_of
ids_are file inodes ids are h = h ∙ (ap (λ (xs : List Inode). map (λ (i : Inode). i.id) xs) are.inodes
    ∙ ids_of file (segments file))

pub if_ok : {A E : Type 0} {P Q : A → Type 0} (r : Result A E) → ((a : A) → P a → Q a) → IfOk r P → IfOk r Q
if_ok (Ok a) f h = f a h
if_ok (Err e) f h = tt

-- the use, by its parts
pub slots_find : (file : List ℕ) (fault : Fault) → EachOf (segments file) (SlotsCheck file) (Some fault)
    → UseChecks file (Some fault)
unfolding UseChecks
slots_find file fault h = inl h

pub counts_find : (file : List ℕ) (fault : Fault) → EachOf (segments file) (SlotsCheck file) None
    → CountChecks file (Some fault) → UseChecks file (Some fault)
unfolding UseChecks
counts_find file fault a h = inr (a, inl h)

pub holders_find : {A : Type 0} (file : List ℕ) (r : Result A Fault) → EachOf (segments file) (SlotsCheck file) None
    → CountChecks file None
    → Finds r (Each (limit_of file) (ClaimCheck file)) → Finds r (UseChecks file)
unfolding UseChecks
holders_find file (Ok x) a b h = (a, (b, h))
holders_find file (Err fault) a b h = inr (a, inr (b, h))

pub inodes_stop : (file : List ℕ) (stop : Stop) → AllDescriptorChecks file None
    → Stops stop (AllInodeChecks file (is_fragment_page file)) → Stops stop (SpaceChecks file)
inodes_stop file (stops.Broken fault) a h = inr (a, inl h)
inodes_stop file stops.Source a h = tt
inodes_stop file stops.Memory a h = tt

pub pages_answer : {A : Type 0} (file : List ℕ) (r : Result A Stop) → AllDescriptorChecks file None
    → AllInodeChecks file (is_fragment_page file) None
    → Answers r (PagesChecks file) → Answers r (SpaceChecks file)
pages_answer file (Ok x) a b h = (a, (b, h))
pages_answer file (Err (stops.Broken fault)) a b h = inr (a, inr (b, h))
pages_answer file (Err stops.Source) a b h = tt
pages_answer file (Err stops.Memory) a b h = tt

pub head_stops : (file : List ℕ) (flags : ℕ) (halt : Halt) → HaltsAt halt (HeadChecks file flags)
    → Stops (stop_of halt) (AuditChecks file flags)
unfolding OwnerChecks
head_stops file flags (halts.Broken fault) h = inl (inl h)
head_stops file flags halts.Source h = tt

-- the order of all checks, grouped as the audit's definition has them
space_found : (file : List ℕ) (flags : ℕ) (fault : Fault) → HeadChecks file flags None
    → SpaceChecks file (Some fault) → AuditChecks file flags (Some fault)
unfolding OwnerChecks
space_found file flags fault head h = elim h [
  | inl extents ↦ inl (inr (head, inl extents))
  | inr a ↦ elim a.1 [
    | inl inodes ↦ inl (inr (head, inr (a.0, inl inodes)))
    | inr b ↦ elim b.1 [
      | inl owners ↦ elim owners [
        | inl lists ↦ inl (inr (head, inr (a.0, inr (b.0, inl lists))))
        | inr u ↦ inl (inr (head, inr (a.0, inr (b.0, inr u))))
      ]
      | inr f ↦ inr ((head, (a.0, (b.0, f.0))), f.1)
    ]
  ]
]

space_sound : (file : List ℕ) (flags : ℕ) → HeadChecks file flags None → SpaceChecks file None
    → AuditChecks file flags None
unfolding OwnerChecks
space_sound file flags head h = ((head, (h.0, (h.1.0, h.1.1.0))), h.1.1.1)

pub space_answers : {A : Type 0} (file : List ℕ) (flags : ℕ) (r : Result A Stop) → HeadChecks file flags None
    → Answers r (SpaceChecks file)
    → Answers r (AuditChecks file flags)
space_answers file flags (Ok x) head h = space_sound file flags head h
space_answers file flags (Err (stops.Broken fault)) head h = space_found file flags fault head h
space_answers file flags (Err stops.Source) head h = tt
space_answers file flags (Err stops.Memory) head h = tt

pub audited : (file : List ℕ) (flags : ℕ) (space : SpaceView) → HeadChecks file flags None → SpaceChecks file None
    → IsSpaceOf file space → IsAuditOf file space
audited file flags space head h is = record {
  flags = flags;
  sound = space_sound file flags head h;
  has_size = is.has_size;
  has_id = is.has_id;
  has_owners = is.has_owners;
  has_kinds = is.has_kinds;
  has_used = is.has_used;
  has_segments = is.has_segments;
}

-- what is read is sound
pub is_read : DescriptorChecksAreSound → InodeChecksAreSound → (file : List ℕ) (header : SpaceHeader)
    (extents : List Extent) (inodes : InodesView) → HasHeader file header → header.size ≤ 4194304
    → AreExtents file extents → AreKept file inodes → AllDescriptorChecks file None
    → AllInodeChecks file (is_fragment_page file) None
    → IsRead file extents inodes
is_read descriptors law file header extents inodes has most are kept a b = record {
  extents_are = are;
  inodes_are = kept;
  extents_sound = ((descriptors file).0 a).extents;
  inodes_sound = (law file (is_fragment_page file) (omega (arith, most, head_size file header has.same))).0 b;
}

pub all_audited : (o : Option (List ℕ)) (flags : ℕ) (r : Result SpaceView Stop)
    → IfSome o (λ file. HeadChecks file flags None)
    → IfSome o (λ file. Answers r (SpaceChecks file)) → IfOk r (λ space. IfSome o (λ file. IsSpaceOf file space))
    → IfOk r (λ space. IfSome o (λ file. IsAuditOf file space))
all_audited o flags (Ok space) head answer is =
    map_told3 o (λ file a b d. audited file flags space a b d) head answer is
all_audited o flags (Err stop) head answer is = tt

-- what a slice was made is what its vector holds
pub whole_slice : (slice rest : List ℕ) (n : ℕ) → n ≡ length slice → take n (slice ++ rest) ≡ slice
whole_slice slice rest n e = ap (λ k. take k (slice ++ rest)) e ∙ take-append_seam slice rest

pub awaits_frames : (file : List ℕ) (header : SpaceHeader) (extents : List Extent) (inodes : InodesView)
    (owners slice : List ℕ)
    → HasHeader file header → IsRead file extents inodes → slice ≡ owners → length owners ≡ header.size
    → AreOwners file owners
    → AwaitsFrames file header.space extents inodes slice
awaits_frames file header extents inodes owners slice has read same count are = record {
  space_is = has.space;
  within = omega (arith, has.within, head_size file header has.same);
  size_is = ap length same ∙ (count ∙ head_size file header has.same);
  read = read;
  owners_are = subst (λ xs. AreOwners file xs) (sym same) are;
}

pub space_of_file : (file : List ℕ) → UsedPagesAreOfExtents → (header : SpaceHeader) (extents : List Extent)
    (inodes : InodesView) (owners kinds : List ℕ) (used : ℕ) (space : SpaceView)
    → HasHeader file header → IsRead file extents inodes → length owners ≡ header.size → AreOwners file owners
    → (n : ℕ) → n ≡ length owners → AreKinds file n kinds used
    → space ≡ record {
      size = length owners;
      id = header.space;
      owners = map owner_by owners;
      kinds = kinds;
      used =
          used;
      segments = inodes.places;
    }
    → IsSpaceOf file space
space_of_file file law header extents inodes owners kinds used space has read count are n all found same =
    let size : length owners ≡ size_of file = count ∙ head_size file header has.same in
    let pages : n ≡ size_of file = all ∙ size in
    record {
      has_size = ap (λ (s : SpaceView). s.size) same ∙ size;
      has_id = ap (λ (s : SpaceView). s.id) same ∙ sym has.space;
      has_owners = ap (λ (s : SpaceView). s.owners) same
          ∙ fill_by_all (owner_of file) (map owner_by owners) (size_of file) Beyond (length-map owners owner_by
          ∙ size)
          (λ k l. let inside : k < length owners = omega (arith, l, size) in owner_kept owners k 0 Beyond inside
          ∙ are k inside);
      has_kinds = λ m u.
          let below = used_in_size file law read.extents_are.whole read.extents_sound m u in
          ap (λ (s : SpaceView). get_or s.kinds m 0) same ∙ found.kinds_are m (omega (arith, below, pages)) u;
      has_used = ap (λ (s : SpaceView). s.used) same
          ∙ (found.used_is ∙ ap (λ k. length (filter (is_used file) (range_with_len 0 k))) pages);
      has_segments = ap (λ (s : SpaceView). s.segments) same ∙ read.inodes_are.places;
    }
