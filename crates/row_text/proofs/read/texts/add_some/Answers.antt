use Rattle.row_text.proofs.Unquoted.{written_taken}
use Rattle.row_text.proofs.read.texts.add_some.Goals as goal

pub returns-clause-takes : goal.returns-clause-takes
returns-clause-takes c =
    written_taken c.args.list.now c.extend.new.self c.args.text.now c.write_text-read.new.room c.split_at.result.1.now
    c.write_text-read.result.1 c.write_text-read.result.0 c.write_text-read.ensures.written c.in_ok-extend.ensures.ok
    c.split_at.ensures.back
