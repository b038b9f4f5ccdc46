use Rattle.fil_frame.proofs.TableLemmas.{is_table_0}
use Rattle.fil_frame.proofs.laws.table_0.Goals as goal

pub returns : goal.returns
returns c = is_table_0
