use Rattle.std.proofs.Common.{◌≡◌, ◌++◌, take}
use Rattle.schema_text.specs.IndexFields.{kept_at, positions_without}
use Rattle.schema_text.proofs.fields.push_kept.Given as goal

abbrev pub invariant-loop-position : goal.invariant-loop-position
invariant-loop-position l =
    l.fields.items ≡ l.initial.fields.items
    ++ kept_at l.columns (positions_without (take l.position-index l.positions) l.others)
