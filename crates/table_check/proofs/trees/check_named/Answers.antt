use Rattle.std.proofs.Common.{◌≡◌, ℕ, ◌<◌, true, length, take, get_or, sym, ap, ◌∙◌, arith}
use Rattle.std.proofs.lemmas.Bool.{true≢false}
use Rattle.std.proofs.lemmas.Option.{slice_get-get_or}
use Rattle.std.proofs.lemmas.List.{length-take-le}
use Rattle.page_source.specs.declared.rule.Rule.TheVariants.{SegmentUnnamed}
use Rattle.space_audit.specs.Marks.{is_set}
use Rattle.table_check.specs.Trees.{NamedCheck}
use Rattle.table_check.proofs.RowSteps.{before_more, each_of_holds}
use Rattle.table_check.proofs.trees.check_named.Goals as goal

pub loop-segment-init : goal.loop-segment-init
loop-segment-init c = λ j d below. absurd (omega (arith, below))

pub returns-then-not-has : goal.returns-then-not-has
returns-then-not-has c =
    let segments = c.args.space.now.segments in
    let segment = c.loop-segment.segment in
    let within : segment < length segments =
    omega (arith, c.loop-segment-test.true, c.segment_count-segment-end.ensures.count) in
    let place : length (take segment segments) ≡ segment = length-take-le segment segments (omega (arith, within)) in (
      segment,
      within,
      c.loop-segment.invariant,
      λ d. (
        λ is. true≢false (sym is ∙ ap (is_set c.args.named.now) place ∙ sym c.has.ensures ∙ c.if-not-has.true),
        c.at.ensures ∙ ap (λ (n : ℕ). record { rule = SegmentUnnamed; page = n })
            (c.inode_page.ensures (get_or segments segment d) (slice_get-get_or segments segment d within)),
      ),
    )

pub loop-segment-preserved : goal.loop-segment-preserved
loop-segment-preserved c =
    let segments = c.args.space.now.segments in
    let segment = c.loop-segment.segment in
    let within : segment < length segments =
    omega (arith, c.loop-segment-test.true, c.segment_count-segment-end.ensures.count) in
    let place : length (take segment segments) ≡ segment = length-take-le segment segments (omega (arith, within)) in
    before_more segments (NamedCheck (λ segment. is_set c.args.named.now segment
    ≡ true)) segment c.loop-segment.invariant
    (λ d. ap (is_set c.args.named.now) place ∙ sym c.has.ensures ∙ c.if-not-has.false)

pub returns : goal.returns
returns c =
    each_of_holds c.args.space.now.segments (NamedCheck (λ segment. is_set c.args.named.now segment
    ≡ true)) c.loop-segment.segment
    (omega (arith, c.loop-segment-test.false, c.segment_count-segment-end.ensures.count)) c.loop-segment.invariant
