use Rattle.std.proofs.Common.{◌-◌, ◌≤◌, length}
use Rattle.row_store.specs.ReadRows.{buffer_size}
use Rattle.row_store.specs.calls.NextRow.{AreWide}
use Rattle.row_store.proofs.Reading.{IsReading}
use Rattle.row_store.proofs.rows.read_rows.Given as goal

abbrev pub invariant-loop-rows : goal.invariant-loop-rows
invariant-loop-rows g l =
    let faults = g.R.ByteSource.faults in
    record {
      reading : IsReading g.R.ByteSource l.schema l.fn.text l.text l.lines l.taken l.rows;
      wide : AreWide l.shape.fields l.rows;
      few : length l.lines ≤ buffer_size;
      later : faults l.fn.text ≤ faults l.text;
    }

abbrev pub decreases-loop-rows : goal.decreases-loop-rows
decreases-loop-rows g l = 4294967297 - l.taken
