use Rattle.std.proofs.Common.{◌≡◌, ◌+◌, ◌*◌, ◌≤◌, length, take, slice_range, refl, ap, ◌∙◌, sym, arith}
use Rattle.std.proofs.lemmas.List.{take_all}
use Rattle.fil_frame.specs.Crc.{crc_state}
use Rattle.fil_frame.proofs.CrcLemmas.{crc_state-take_to}
use Rattle.fil_frame.proofs.crc.after_groups.Goals as goal

pub loop-g-init : goal.loop-g-init
unfolding crc_state
loop-g-init c = refl

pub loop-g-preserved : goal.loop-g-preserved
loop-g-preserved c =
    let i = 8 * c.loop-g.g in
    let next : i + 8 ≡ 8 * (c.loop-g.g + 1) = omega arith in
    let more : crc_state c.args.start (take (i + 8) c.args.bytes.now)
    ≡ crc_state (crc_state c.args.start (take i c.args.bytes.now)) (slice_range c.args.bytes.now i (i + 8)) =
    crc_state-take_to c.args.start c.args.bytes.now i (i + 8) (omega arith) (omega arith) in
    c.after_group-state.ensures ∙ ap (λ s. crc_state s (slice_range c.args.bytes.now i (i + 8))) c.loop-g.invariant
    ∙ sym more ∙ ap (λ k. crc_state c.args.start (take k c.args.bytes.now)) next

pub returns : goal.returns
returns c =
    let all : length c.args.bytes.now ≤ 8 * c.loop-g.g = omega arith in
    c.loop-g.invariant ∙ ap (crc_state c.args.start) (take_all _ c.args.bytes.now all)
