use Rattle.table_tests.proofs.offpage_chain_tests.checks.checks_a_chain.Given as goal

abbrev pub ghosts-space : goal.ghosts-space
ghosts-space g a = record { name = a.blank.name; parts = a.blank.parts }

abbrev pub ghosts-check : goal.ghosts-check
ghosts-check g a = record { name = a.blank.name; parts = a.blank.parts }
