use Rattle.extent_map.proofs.Writing.{byte_made}
use Rattle.extent_map.proofs.extent.four_pages.Goals as goal

pub returns : goal.returns
returns c = byte_made c.args.used c.args.i
