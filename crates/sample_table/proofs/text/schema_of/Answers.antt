use Rattle.std.proofs.Common.{◌∙◌, ap, Err}
use Rattle.sample_table.proofs.Table.{written, never_refused, is_read}
use Rattle.sample_table.proofs.text.schema_of.Goals as goal

pub unreachable-requires : goal.unreachable-requires
unreachable-requires c =
    never_refused c.texts_read_back.ensures _ written c.read.result c.read.ensures _ _
    (c.in-Err-Refused.is ∙ ap Err c.in-Err-Refused.field-0-is)

pub returns-in-Ok : goal.returns-in-Ok
returns-in-Ok c = is_read c.texts_read_back.ensures _ written c.read.result c.read.ensures c.in-Ok.schema c.in-Ok.is
