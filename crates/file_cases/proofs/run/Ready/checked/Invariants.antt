use Rattle.file_cases.proofs.run.Ready.checked.Given as goal

abbrev pub ghosts-check_file : goal.ghosts-check_file
ghosts-check_file a = record { name = a.blank.name; parts = a.blank.parts }
