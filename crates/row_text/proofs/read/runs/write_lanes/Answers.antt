use Rattle.row_text.proofs.Unquoted.{written_run}
use Rattle.row_text.proofs.read.runs.write_lanes.Goals as goal

pub returns-clause-written : goal.returns-clause-written
returns-clause-written c =
    written_run c.args.text.now c.args.room.now c.split_at.result.1.now c.split_at-2.result.0.now
    c.copy_from_slice.new.self
    c.args.n c.args.at c.plain_length.result c.requires.written c.split_at.ensures.back c.split_at-2.ensures.front
    c.copy_from_slice.ensures.after c.plain_length.ensures.plain c.plain_length.ensures.within
    c.requires.text c.requires.room
