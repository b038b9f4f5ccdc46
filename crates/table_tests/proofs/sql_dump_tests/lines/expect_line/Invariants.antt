use Rattle.table_tests.proofs.sql_dump_tests.lines.expect_line.Given as goal

abbrev pub ghosts-put_one : goal.ghosts-put_one
ghosts-put_one g a = record { name = a.blank.name; parts = a.blank.parts }
