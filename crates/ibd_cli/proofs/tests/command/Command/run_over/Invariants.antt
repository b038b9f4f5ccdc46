use Rattle.ibd_cli.proofs.tests.command.Command.run_over.Given as goal

abbrev pub ghosts-status : goal.ghosts-status
ghosts-status g a = record { name = a.blank.name; parts = a.blank.parts }
