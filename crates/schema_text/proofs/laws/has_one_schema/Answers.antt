use Rattle.schema_text.proofs.OneSchema.{one_schema, one_table}
use Rattle.schema_text.proofs.laws.has_one_schema.Goals as goal

pub returns-clause-texts : goal.returns-clause-texts
returns-clause-texts c = one_schema

pub returns-clause-lines : goal.returns-clause-lines
returns-clause-lines c = one_table
