use Rattle.inode_segments.proofs.Written.{inode_back}
use Rattle.inode_segments.proofs.laws.written_inodes_are_read.Goals as goal

pub returns : goal.returns
returns c = inode_back c.written_fields_are_read.ensures
