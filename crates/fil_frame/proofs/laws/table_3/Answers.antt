use Rattle.fil_frame.proofs.TableLemmas.{is_table_3}
use Rattle.fil_frame.proofs.laws.table_3.Goals as goal

pub returns : goal.returns
returns c = is_table_3
