use Rattle.fil_frame.proofs.TableLemmas.{is_table_1}
use Rattle.fil_frame.proofs.laws.table_1.Goals as goal

pub returns : goal.returns
returns c = is_table_1
