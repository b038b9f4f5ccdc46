use Rattle.std.proofs.Common.{◌≡◌, ◌++◌, ◌∷◌, [], map, take, sym, ◌∙◌, ap, arith}
use Rattle.space_audit.specs.Space.{address_key}
use Rattle.space_audit.proofs.OwnerFacts.{get_at}
use Rattle.space_audit.proofs.Addresses.{keys_more, small_more}
use Rattle.space_audit.proofs.space.number_places.Goals as goal

pub loop-s-preserved : goal.loop-s-preserved
loop-s-preserved c =
    let places = c.args.inodes.now.places in
    let s = c.loop-s.s in
    let place = c.place.result in
    let at = get_at places s place c.place.ensures in
    record {
      keys = c.in_ok-push.ensures
          ∙ (ap (λ xs. xs ++ c.key_of.result ∷ []) c.loop-s.invariant.keys
          ∙ (ap (λ k. map address_key (take s places) ++ k ∷ []) c.key_of.ensures.key
          ∙ keys_more places s place at.0 (at.1 place)));
      small = small_more places s place at.1 c.key_of.ensures.small c.loop-s.invariant.small;
    }
