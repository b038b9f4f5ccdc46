use Rattle.std.proofs.Common.{◌∙◌}
use Rattle.sample_table.proofs.MakingSteps.{null_tag, some_tag}
use Rattle.sample_table.proofs.row.tag.Goals as goal

pub returns-then-number-eq0 : goal.returns-then-number-eq0
returns-then-number-eq0 c =
    null_tag c.args.i c.sample_number-number.result c.sample_number-number.ensures c.if-number-eq0.true

pub returns : goal.returns
returns c =
    some_tag c.args.i c.sample_number-number.result c.new-text.result c.extend.new.self c.extend-2.new.self
    c.as_bytes.result.now c.sample_number-number.ensures c.if-number-eq0.false c.new-text.ensures
    c.in_ok-extend.ensures.ok c.in_ok-extend-2.ensures.ok (c.as_bytes.ensures.value ∙ c.format.ensures.text)
