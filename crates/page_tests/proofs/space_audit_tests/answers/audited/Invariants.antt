use Rattle.page_tests.proofs.space_audit_tests.answers.audited.Given as goal

abbrev pub ghosts-run : goal.ghosts-run
ghosts-run a = record { name = a.blank.name; parts = a.blank.parts }
