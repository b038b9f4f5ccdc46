use Rattle.table_tests.proofs.offpage_chain_tests.bad_parts_are_named.Given as goal

abbrev pub ghosts-read : goal.ghosts-read
ghosts-read g a = record { name = a.blank.name; parts = a.blank.parts }
