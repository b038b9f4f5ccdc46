use Rattle.page_tests.proofs.inode_segments_tests.reading.reads_two_inodes.Given as goal

abbrev pub ghosts-read : goal.ghosts-read
ghosts-read g a = record { name = a.blank.name; parts = a.blank.parts }
