use Rattle.std.proofs.Common.{◌+◌, length, arith}
use Rattle.column_values.specs.Utf8Reader.{CountsUpTo, new_reader}
use Rattle.column_values.proofs.Utf8Steps.{can_feed}
use Rattle.value_tests.proofs.column_values_tests.texts.is_text_in_two.Goals as goal

pub feed-requires-2 : goal.feed-requires-2
feed-requires-2 c =
    let none : CountsUpTo 0 (new_reader c.args.limit) = omega arith in
    let counts = c.feed.ensures.counts 0 (rw c.limit-text.ensures.is none) in
    can_feed (0 + length c.args.first.now) (length c.args.second.now) _ counts (omega (arith, c.requires))
