use Rattle.table_tests.proofs.adapter_tests.pages_of_a_large_file_are_written_and_read.Given as goal

abbrev pub ghosts-last_byte : goal.ghosts-last_byte
ghosts-last_byte g a = record { name = a.blank.name; parts = a.blank.parts }
