-- The checks of the segments find nothing exactly where their inodes are sound.
use Rattle.std.proofs.Common.{◌≡◌, ℕ, zero, suc, ◌<◌, List, [], ◌∷◌, length, get_or, take, map, All, None, refl, sym}
use Rattle.std.proofs.Common.{◌∙◌, ap, subst, arith, get_or-take}
use lib.ListN.{get_or-map}
use Rattle.std.proofs.lemmas.List.{length-map, length-take-le}
use Rattle.page_source.specs.Lists.{AreDistinct}
use Rattle.space_header.specs.declared.address.Address.{Address}
use Rattle.space_header.specs.Header.{head_of}
use Rattle.inode_segments.specs.Inodes.{segments, inode_of, segment_id}
use Rattle.inode_segments.specs.InodeChecks.{SegmentChecks, inode_magic}

-- a place for lists of addresses
abbrev some_place : Address
some_place = record { page = 0; offset = 0 }

get_other : {X : Type 0} (xs : List X) (k : ℕ) (d e : X) → k < length xs → get_or xs k d ≡ get_or xs k e
get_other [] k d e h = absurd (omega arith)
get_other (x ∷ xs) zero d e h = refl
get_other (x ∷ xs) (suc k) d e h = get_other xs k d e (omega arith)

id_at : (file : List ℕ) (places : List Address) (k x : ℕ) → k < length places
    → get_or (map (segment_id file) places) k x ≡ segment_id file (get_or places k some_place)
id_at file places k x h = get_other (map (segment_id file) places) k x (segment_id file some_place)
    (subst (λ n. k < n) (sym (length-map places (segment_id file))) h)
    ∙ get_or-map (segment_id file) places k some_place

pub magic_sound : (file : List ℕ) → SegmentChecks file None
    → All (λ place. (inode_of file place).magic ≡ inode_magic) (segments file)
magic_sound file h = λ k d l. (h k d l).0

pub ids_sound : (file : List ℕ) → SegmentChecks file None
    → All (λ place. segment_id file place < (head_of file).next_segment) (segments file)
ids_sound file h = λ k d l. (h k d l).1.below

pub distinct_sound : (file : List ℕ) → SegmentChecks file None → AreDistinct (map (segment_id file) (segments file))
distinct_sound file h = λ i j d l m e.
    let n : j < length (segments file) = subst (λ x. j < x) (length-map (segments file) (segment_id file)) m in
    let new = (h j some_place n).1.new in
    let inside : i < length (take j (segments file)) = omega (arith, length-take-le j (segments file) (omega arith)) in
    new (
      i,
      subst (λ x. i < x) (sym (length-map (take j (segments file)) (segment_id file))) inside,
      id_at file (take j (segments file)) i (segment_id file (get_or (segments file) j some_place)) inside
          ∙ (ap (segment_id file) (get_or-take j (segments file) i some_place l)
          ∙ (sym (id_at file (segments file) i d (omega arith)) ∙ (e ∙ id_at file (segments file) j d n))),
    )

pub segment_checks : (file : List ℕ) → All (λ place. (inode_of file place).magic ≡ inode_magic) (segments file)
    → All (λ place. segment_id file place < (head_of file).next_segment) (segments file)
    → AreDistinct (map (segment_id file) (segments file)) → SegmentChecks file None
segment_checks file magic ids distinct = λ j d l. (
  magic j d l,
  record {
    below = ids j d l;
    new = λ c.
        let inside : c.0 < length (take j (segments file)) =
        subst (λ x. c.0 < x) (length-map (take j (segments file)) (segment_id file)) c.1 in
        let before : c.0 < j = omega (arith, length-take-le j (segments file) (omega arith), inside) in
        distinct c.0 j (segment_id file some_place) before
        (subst (λ x. j < x) (sym (length-map (segments file) (segment_id file))) l)
        (id_at file (segments file) c.0 _ (omega arith)
        ∙ (sym (ap (segment_id file) (get_or-take j (segments file) c.0 some_place before))
        ∙ (sym (id_at file (take j (segments file)) c.0 (segment_id file (get_or (segments file) j d)) inside)
        ∙ (c.2 ∙ (ap (segment_id file) (get_other (segments file) j d some_place l)
        ∙ sym (id_at file (segments file) j _ l))))));
  },
)
