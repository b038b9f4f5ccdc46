use Rattle.table_tests.proofs.offpage_chain_tests.writes.a_value_is_written_and_read.Given as goal

abbrev pub ghosts-read_back : goal.ghosts-read_back
ghosts-read_back g a = record { name = a.blank.name; parts = a.blank.parts }
