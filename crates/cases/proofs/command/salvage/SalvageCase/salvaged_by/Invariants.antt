use Rattle.cases.proofs.command.salvage.SalvageCase.salvaged_by.Given as goal

abbrev pub ghosts-go : goal.ghosts-go
ghosts-go a = record { name = a.blank.name; parts = a.blank.parts }
