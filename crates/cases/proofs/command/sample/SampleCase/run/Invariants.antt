use Rattle.cases.proofs.command.sample.SampleCase.run.Given as goal

abbrev pub ghosts-sample_of : goal.ghosts-sample_of
ghosts-sample_of a = record { name = a.blank.name; parts = a.blank.parts }
