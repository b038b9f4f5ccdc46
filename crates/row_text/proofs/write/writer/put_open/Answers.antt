use Rattle.std.proofs.Common.{List, ℕ, ◌++◌, codes, subst}
use Rattle.page_source.specs.Calls.{Puts}
use Rattle.row_text.proofs.write.writer.put_open.Goals as goal

pub returns : goal.returns
returns g c =
    subst (λ (name : List ℕ). Puts g.O.ByteSink c.args.sink.now c.put_enclosed.new.sink
    (codes "INSERT INTO `" ++ name ++ codes "` VALUES (") c.put_enclosed.result)
    c.table.ensures c.put_enclosed.ensures
