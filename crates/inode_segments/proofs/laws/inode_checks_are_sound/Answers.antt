use Rattle.inode_segments.proofs.SoundLists.{inodes_sound, inode_checks}
use Rattle.inode_segments.proofs.laws.inode_checks_are_sound.Goals as goal

pub returns : goal.returns
returns c = λ file is_fragment few. (inodes_sound file is_fragment, inode_checks file is_fragment few)
