use Rattle.std.proofs.Common.{[]}
use Rattle.column_values.proofs.utf8.is_text.Goals as goal

pub returns : goal.returns
returns c =
    let text = c.args.bytes.now in
    let end = c.is_text.ensures.text text (c.feed.ensures.feeds.fed [] c.limit-text.ensures.fresh) in
    let takes = c.limit-text.ensures.takes text in
    let same = c.feed.ensures.feeds.same text in
    ((λ t. takes.0 (same.0 (end.0 t))), (λ t. end.1 (same.1 (takes.1 t))))
