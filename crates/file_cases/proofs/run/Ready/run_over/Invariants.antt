use Rattle.file_cases.proofs.run.Ready.run_over.Given as goal

abbrev pub ghosts-check_file : goal.ghosts-check_file
ghosts-check_file a = record { name = a.blank.name; parts = a.blank.parts }

abbrev pub ghosts-dump_file : goal.ghosts-dump_file
ghosts-dump_file a = record { name = a.blank.name; parts = a.blank.parts }

abbrev pub ghosts-cross_file : goal.ghosts-cross_file
ghosts-cross_file a = record { name = a.blank.name; parts = a.blank.parts }

abbrev pub ghosts-get_row : goal.ghosts-get_row
ghosts-get_row a = record { name = a.blank.name; parts = a.blank.parts }
