use Rattle.value_tests.proofs.page_source_tests.memory.a_store_becomes_a_file.Given as goal

abbrev pub ghosts-last_byte : goal.ghosts-last_byte
ghosts-last_byte g a = record { name = a.blank.name; parts = a.blank.parts }
