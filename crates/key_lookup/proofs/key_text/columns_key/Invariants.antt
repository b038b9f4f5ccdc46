use Rattle.std.proofs.Common.{◌≡◌, take}
use Rattle.row_text.specs.KeyText.{key_columns}
use Rattle.key_lookup.proofs.KeyCells.{cells}
use Rattle.key_lookup.proofs.key_text.columns_key.Given as goal

-- the fields of the first values
abbrev pub invariant-loop-i : goal.invariant-loop-i
invariant-loop-i l = l.key ≡ take l.i (cells (key_columns l.fn.schema) l.fn.row)
