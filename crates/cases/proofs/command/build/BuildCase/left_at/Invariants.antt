use Rattle.cases.proofs.command.build.BuildCase.left_at.Given as goal

abbrev pub ghosts-build_into : goal.ghosts-build_into
ghosts-build_into a = record { name = a.blank.name; parts = a.blank.parts }
