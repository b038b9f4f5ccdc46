use Rattle.std.proofs.Common.{◌≡◌, ◌++◌, ◌∷◌, []}
use Rattle.schema_text.proofs.PartLemmas.{part_with_column}
use Rattle.schema_text.proofs.part.Part.add_column.Goals as goal

pub invariant_of-self-2 : goal.invariant_of-self-2
invariant_of-self-2 c =
    let next = rw (← c.self.view_is) at c.requires in
    let inside = c.self.inside in
    let grown : c.push.new.self.items ≡ inside.columns.items ++ c.args.column ∷ [] = c.in_ok-push.ensures.items in
    rw grown (part_with_column (record {
      table = inside.table;
      format = inside.format;
      columns = inside.columns.items;
      indexes = inside.indexes.items;
    }) c.args.column c.self.invariant next)
