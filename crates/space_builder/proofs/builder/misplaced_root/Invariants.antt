use Rattle.std.proofs.Common.{◌≡◌, ℕ, ◌+◌, ◌<◌}
use Rattle.schema_text.specs.TableDef.{index_at}
use Rattle.space_builder.proofs.builder.misplaced_root.Given as goal

abbrev pub invariant-loop-j : goal.invariant-loop-j
invariant-loop-j l = (i : ℕ) → i < l.j → (index_at l.schema i).root ≡ 3 + i
