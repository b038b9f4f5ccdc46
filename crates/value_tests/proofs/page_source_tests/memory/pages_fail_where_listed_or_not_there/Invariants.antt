use Rattle.value_tests.proofs.page_source_tests.memory.pages_fail_where_listed_or_not_there.Given as goal

abbrev pub ghosts-fetched : goal.ghosts-fetched
ghosts-fetched g a = record { name = a.blank.name; parts = a.blank.parts }
