use Rattle.std.proofs.Common.{ap}
use Rattle.column_values.specs.declared.value.Value.TheVariants.{Unsigned}
use Rattle.sample_table.proofs.MakingSteps.{three_values}
use Rattle.sample_table.proofs.row.row_of.Goals as goal

pub returns : goal.returns
returns c =
    three_values c.new-row.result c.push.new.self c.push-2.new.self c.push-3.new.self (Unsigned c.from.result)
    c.in_ok-tag.field-0 c.in_ok-note.field-0 c.args.i c.new-row.ensures c.in_ok-push.ensures.ok
    c.in_ok-push-2.ensures.ok c.in_ok-push-3.ensures.ok (ap Unsigned c.from.ensures) c.in_ok-tag.ensures
    c.in_ok-note.ensures
