use Rattle.page_tests.proofs.space_layout_tests.audited.Given as goal

abbrev pub ghosts-audit_in : goal.ghosts-audit_in
ghosts-audit_in a = record { name = a.blank.name; parts = a.blank.parts }
