use Rattle.sql_dump.proofs.Readings.{have_places}
use Rattle.sql_dump.proofs.reader.RowReader.read.Goals as goal

pub returns-clause-placed : goal.returns-clause-placed
returns-clause-placed c =
    have_places c.read_record.result c.self.inside.schema.now c.args.page.now c.args.origin c.self.inside.fields
    c.read_record.new.located c.self.invariant.leaf c.read_record.ensures.read c.read_record.ensures.lie
