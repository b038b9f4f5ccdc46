use Rattle.column_values.proofs.Utf8Steps.{end_takes, takes_end}
use Rattle.column_values.proofs.utf8.Utf8.is_text.Goals as goal

pub returns-clause-text : goal.returns-clause-text
returns-clause-text c = λ fed was. (
  λ t. end_takes c.args.self.now fed was (c.is_at_end.ensures.0 t),
  λ k. c.is_at_end.ensures.1 (takes_end c.args.self.now fed was k),
)
