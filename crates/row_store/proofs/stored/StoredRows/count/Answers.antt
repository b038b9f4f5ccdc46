use Rattle.std.proofs.Common.{arith}
use Rattle.row_store.proofs.RowsIn.{count_seen}
use Rattle.row_store.proofs.stored.StoredRows.count.Goals as goal

pub returns : goal.returns
returns c =
    let lists = c.self.inside.lists in
    omega (arith, c.len.ensures, lists.spans.ok, count_seen lists c.args.self.now c.self.view_is)
