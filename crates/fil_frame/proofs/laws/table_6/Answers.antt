use Rattle.fil_frame.proofs.TableLemmas.{is_table_6}
use Rattle.fil_frame.proofs.laws.table_6.Goals as goal

pub returns : goal.returns
returns c = is_table_6
