use Rattle.std.proofs.Common.{sym, refl}
use Rattle.row_text.proofs.Words.{cut_at, cut_all}
use Rattle.row_text.proofs.read.words.word_of.Goals as goal

pub returns-in-Some-clause-ends : goal.returns-in-Some-clause-ends
returns-in-Some-clause-ends c = (cut_at c.args.text.now _ c.in-Some.at (sym c.in-Some.ensures) refl).ends

pub returns-in-Some-clause-lacks : goal.returns-in-Some-clause-lacks
returns-in-Some-clause-lacks c = (cut_at c.args.text.now _ c.in-Some.at (sym c.in-Some.ensures) refl).lacks

pub returns-in-None-clause-lacks : goal.returns-in-None-clause-lacks
returns-in-None-clause-lacks c = (cut_all c.args.text.now (sym c.in-None.ensures)).lacks
