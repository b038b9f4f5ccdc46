use Rattle.space_layout.proofs.HeadBytes.{file_holds}
use Rattle.space_layout.proofs.laws.file_holds_space.Goals as goal

pub returns : goal.returns
returns c = file_holds c.laws_below.ensures.page
