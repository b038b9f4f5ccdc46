use Rattle.std.proofs.Common.{◌≡◌, ◌-◌, length}
use Rattle.row_layout.specs.StoredRow.{fitted}
use Rattle.row_store.proofs.fitting.fit_row.Given as goal

-- the row goes on to be fitted as it was to be
abbrev pub invariant-loop-gone : goal.invariant-loop-gone
invariant-loop-gone l =
    record {
      same : fitted l.schema (length l.fn.row) l.fn.row
          ≡ fitted l.schema (length l.fn.row - l._gone) l.row;
      size : length l.row ≡ length l.fn.row;
    }
