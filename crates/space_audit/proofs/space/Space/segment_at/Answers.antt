use Rattle.std.proofs.Common.{◌≡◌, ◌<◌, ◌≤◌, List, length, map, sym, ◌∙◌, ap, subst, arith}
use Rattle.std.proofs.lemmas.List.{length-map}
use Rattle.space_header.specs.declared.address.Address.{Address}
use Rattle.space_audit.specs.Numbering.{place_in}
use Rattle.space_audit.specs.Space.{SpaceView, address_key, segment_with_address}
use Rattle.space_audit.proofs.Addresses.{place_of_key}
use Rattle.space_audit.proofs.space.Space.segment_at.Goals as goal

pub returns-then-segment-count : goal.returns-then-segment-count
returns-then-segment-count c =
    let s = c.self.inside in
    let a = c.args.address in
    let same : s.inodes.places ≡ c.args.self.now.segments = ap (λ (v : SpaceView). v.segments) c.self.view_is in
    let found : c.find-segment.result ≡ segment_with_address s.inodes.places a =
    c.find-segment.ensures.place ∙ (ap (λ xs. place_in xs c.key_of.result) c.self.invariant.4
    ∙ (ap (λ k. place_in (map address_key s.inodes.places) k) c.key_of.ensures.key
    ∙ place_of_key s.inodes.places a c.self.invariant.5 c.key_of.ensures.small)) in (
      subst (λ (xs : List Address). c.find-segment.result < length xs) same
          (omega (arith, c.if-segment-count.true, c.count.ensures.count)),
      ap (λ (xs : List Address). segment_with_address xs a) (sym same) ∙ sym found,
    )

pub returns-else-segment-count : goal.returns-else-segment-count
returns-else-segment-count c =
    let s = c.self.inside in
    let a = c.args.address in
    let same : s.inodes.places ≡ c.args.self.now.segments = ap (λ (v : SpaceView). v.segments) c.self.view_is in
    let found : c.find-segment.result ≡ segment_with_address s.inodes.places a =
    c.find-segment.ensures.place ∙ (ap (λ xs. place_in xs c.key_of.result) c.self.invariant.4
    ∙ (ap (λ k. place_in (map address_key s.inodes.places) k) c.key_of.ensures.key
    ∙ place_of_key s.inodes.places a c.self.invariant.5 c.key_of.ensures.small)) in
    let keys : length s.places ≡ length s.inodes.places = ap length c.self.invariant.4
    ∙ length-map s.inodes.places address_key in
    let end : c.find-segment.result ≡ length s.inodes.places =
    omega (arith, c.if-segment-count.false, c.count.ensures.count, c.find-segment.ensures.most, keys) in
    ap (λ (xs : List Address). segment_with_address xs a) (sym same) ∙ (sym found ∙ (end ∙ ap length same))
