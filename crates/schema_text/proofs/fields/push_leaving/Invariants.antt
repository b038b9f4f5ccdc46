use Rattle.std.proofs.Common.{◌≡◌, ◌++◌}
use Rattle.std.specs.List.{range_with_len}
use Rattle.schema_text.specs.IndexFields.{leaving_at, positions_without}
use Rattle.schema_text.proofs.fields.push_leaving.Given as goal

abbrev pub invariant-loop-place : goal.invariant-loop-place
invariant-loop-place l =
    l.fields.items ≡ l.initial.fields.items
    ++ leaving_at l.columns (positions_without (range_with_len 0 l.place) l.others)
