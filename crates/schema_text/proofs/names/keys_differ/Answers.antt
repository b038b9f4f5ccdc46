use Rattle.std.proofs.Common.{◌∙◌, refl, arith}
use Rattle.schema_text.proofs.PlaceLemmas.{pairs_from, not_pairs_from}
use Rattle.schema_text.proofs.names.keys_differ.Goals as goal

pub returns-then-stands_between : goal.returns-then-stands_between
returns-then-stands_between c =
    let there = c.if-stands_between.ensures.0 refl in (
      λ t. cc,
      λ pairs. absurd (not_pairs_from c.args.line.now c.args.from there.0 c.loop-i.i there.1 there.2
          (omega arith) (there.3 ∙ c.at.ensures) pairs),
    )

pub returns : goal.returns
returns c = (λ _. pairs_from c.args.line.now c.args.from c.loop-i.i c.loop-i.invariant (omega arith), λ _. refl)
