use Rattle.sample_table.specs.Sample.{sample_rows}
use Rattle.sample_table.proofs.Files.{dump_is}
use Rattle.sample_table.proofs.answer.dumped.Goals as goal

pub returns-in-Ok : goal.returns-in-Ok
returns-in-Ok g c =
    dump_is (sample_rows c.args.rows) c.args.pages.now c.requires.file c.args.schema.now c.requires.table
    c.sound_files_have_one_dump.ensures c.new-text.result.bytes c.dump.new.sink.bytes c.new-text.ensures
    c.in-Ok.ensures.told.written
