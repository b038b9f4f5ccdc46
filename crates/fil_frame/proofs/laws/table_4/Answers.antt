use Rattle.fil_frame.proofs.TableLemmas.{is_table_4}
use Rattle.fil_frame.proofs.laws.table_4.Goals as goal

pub returns : goal.returns
returns c = is_table_4
