use Rattle.table_tests.proofs.adapter_tests.a_missing_word_names_no_file.Given as goal

abbrev pub ghosts-last_byte : goal.ghosts-last_byte
ghosts-last_byte g a = record { name = a.blank.name; parts = a.blank.parts }
