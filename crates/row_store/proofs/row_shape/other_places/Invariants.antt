use Rattle.std.proofs.Common.{◌≡◌}
use Rattle.std.specs.List.{range_with_len}
use Rattle.schema_text.specs.IndexFields.{positions_without}
use Rattle.row_store.proofs.row_shape.other_places.Given as goal

abbrev pub invariant-loop-place : goal.invariant-loop-place
invariant-loop-place l = l.places.items ≡ positions_without (range_with_len 0 l.place) l.key
