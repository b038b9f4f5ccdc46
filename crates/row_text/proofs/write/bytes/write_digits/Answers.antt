use Rattle.std.proofs.Common.{◌++◌, List, ℕ, map, drop, slice_index, slice_set, refl, ap, ◌∙◌, arith}
use Rattle.std.proofs.lemmas.List.{append-nil, take_all, drop_all, get_or_default}
use Rattle.std.proofs.lemmas.List.Edits.{map_over_more}
use Rattle.row_text.specs.calls.Bytes.{half_digit}
use Rattle.row_text.proofs.write.bytes.write_digits.Goals as goal

pub loop-i-init : goal.loop-i-init
loop-i-init c = refl

pub loop-i-preserved : goal.loop-i-preserved
loop-i-preserved c =
    let i = c.loop-i.i in
    let room = c.loop-i.room in
    let same = get_or_default room i 0 (slice_index room i) (omega (arith, c.loop-i.auto.room)) in
    ap (λ (d : ℕ). slice_set room i d) c.digit.ensures
    ∙ map_over_more half_digit c.args.room.now room i (slice_index room i) (omega arith) c.loop-i.invariant same

pub returns : goal.returns
returns c =
    let room = c.args.room.now in
    let i = c.loop-i.i in
    c.loop-i.invariant
    ∙ ap (λ (t : List ℕ). map half_digit t ++ drop i room) (take_all i room (omega arith))
    ∙ ap (λ (t : List ℕ). map half_digit room ++ t) (drop_all i room (omega arith))
    ∙ append-nil (map half_digit room)
