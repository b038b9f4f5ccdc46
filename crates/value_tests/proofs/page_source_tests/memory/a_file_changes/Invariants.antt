use Rattle.value_tests.proofs.page_source_tests.memory.a_file_changes.Given as goal

abbrev pub ghosts-changed : goal.ghosts-changed
ghosts-changed g a = record { name = a.blank.name; parts = a.blank.parts }
