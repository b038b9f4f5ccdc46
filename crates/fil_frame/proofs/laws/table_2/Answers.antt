use Rattle.fil_frame.proofs.TableLemmas.{is_table_2}
use Rattle.fil_frame.proofs.laws.table_2.Goals as goal

pub returns : goal.returns
returns c = is_table_2
