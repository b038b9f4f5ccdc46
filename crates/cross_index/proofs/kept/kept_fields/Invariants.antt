use Rattle.std.proofs.Common.{◌≡◌, filter}
use Rattle.std.specs.Prelude.{◌==◌}
use Rattle.std.specs.List.{range_with_len, list_any}
use Rattle.cross_index.proofs.kept.kept_fields.Given as goal

-- the fields so far that are kept
abbrev pub invariant-loop-field : goal.invariant-loop-field
invariant-loop-field l =
    l.list.items ≡ filter (λ k. list_any (λ j. j == k) l.all.items) (range_with_len 0 l.field)
