use Rattle.std.proofs.Common.{refl}
use Rattle.row_text.proofs.LeadingBytes.{read_in_two, leads}
use Rattle.row_text.proofs.read.bytes.leading_bytes.Goals as goal

pub returns-clause-found : goal.returns-clause-found
returns-clause-found c =
    let text = c.args.text.now in
    let rest = c.in_ok-rest.rest.now in
    let read = read_in_two _ _ c.add_pairs.new.list text c.in_ok-behind_pieces.behind_pieces.now rest c.new-list.ensures
    c.in_ok-behind_pieces.ensures c.in_ok-rest.ensures.takes in
    leads c.add_pairs.new.list text rest _ read.0 read.1 c.in_ok-rest.ensures.all refl
