use Rattle.std.proofs.Common.{◌≡◌, ◌++◌, take, map, get_or}
use Rattle.schema_text.specs.IndexFields.{positions_without}
use Rattle.schema_text.proofs.columns.push_columns.Given as goal

-- the fields of the columns so far were added
abbrev pub invariant-loop-column : goal.invariant-loop-column
invariant-loop-column l =
    l.list.items ≡ l.initial.list.items
    ++ map (λ c. get_or l.at c 0) (positions_without (take l.column-index l.columns) l.others)
