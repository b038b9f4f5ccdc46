use Rattle.ibd_cli.proofs.run.serve_table.Goals as goal

pub returns-in-Check : goal.returns-in-Check
returns-in-Check g c = rw c.in-Check.is (c.check_file.ensures c.args.key.now)

pub returns-in-Dump : goal.returns-in-Dump
returns-in-Dump g c = rw c.in-Dump.is (c.dump_file.ensures c.args.key.now)

pub returns-in-Cross : goal.returns-in-Cross
returns-in-Cross g c = rw c.in-Cross.is (c.cross_file.ensures c.args.key.now)
