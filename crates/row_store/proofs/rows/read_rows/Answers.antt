use Rattle.std.proofs.Common.{◌+◌, ◌≤◌, List, ℕ, Ok, Err, IfSome, length, sym, ap, ◌∙◌, subst, arith}
use Rattle.std.proofs.lemmas.List.{length-drop}
use Rattle.row_store.specs.declared.stop.RowsStop.{RowsStop}
use Rattle.row_store.specs.declared.stop.RowStop.TheVariants.{Refused}
use Rattle.row_store.specs.calls.Lines.{FindsLine, IsFewAhead, end_size}
use Rattle.row_store.specs.calls.NextRow.{AddsRow}
use Rattle.row_store.specs.ReadRows.{ReadsRows}
use Rattle.row_store.specs.calls.Stops.{stop_behind}
use Rattle.row_store.proofs.Reading.{IsReading, reading_none, reading_grown, reading_few, reading_ends}
use Rattle.row_store.proofs.Reading.{reading_more, stops_by_bytes, stops_by_row}
use Rattle.row_store.proofs.rows.read_rows.Goals as goal

pub loop-rows-init : goal.loop-rows-init
loop-rows-init g c =
    let none = ap length c.new-rows.ensures in
    record {
      reading = reading_none g.R.ByteSource c.args.schema.now c.args.text.now c.new-lines.result c.new-rows.result
          c.new-lines.ensures c.new-rows.ensures;
      wide = λ r below. absurd (omega arith);
      few = omega (arith, ap length c.new-lines.ensures);
      later = omega arith;
    }

pub stop_behind-requires : goal.stop_behind-requires
stop_behind-requires g c =
    let few = reading_few g.R.ByteSource c.args.schema.now c.args.text.now c.loop-rows.text c.loop-rows.lines
    c.loop-rows.taken
    c.loop-rows.rows c.loop-rows.invariant.reading in
    omega (arith, few, c.count-count.ensures)

pub returns-in-Err : goal.returns-in-Err
returns-in-Err g c =
    let table = c.args.schema.now in
    let old = c.args.text.now in
    let now = c.next.new.text in
    let ahead = c.next.new.self in
    let faults = g.R.ByteSource.faults in
    let one = c.lines_are_unique.ensures.one_row in
    let is = c.in_ok-shape.ensures.is_table in
    let reading = reading_grown g.R.ByteSource table old c.loop-rows.text now c.loop-rows.lines ahead
    c.loop-rows.taken c.loop-rows.rows c.loop-rows.invariant.reading c.in_ok-line.ensures.grew in
    let later : faults old ≤ faults now = omega (arith, c.loop-rows.invariant.later, c.next.ensures.cause.later) in
    let next = subst (FindsLine ahead (g.R.ByteSource.left now)) c.in-Some.is c.in_ok-line.ensures.line in
    let few = subst (λ found. IfSome found (λ line. IsFewAhead ahead line.size)) c.in-Some.is
    c.in_ok-line.ensures.few in
    let stop = c.stop_behind.ensures ∙ ap (λ n. stop_behind n (Refused c.in-Err.why)) c.count-count.ensures in
    subst (λ (s : RowsStop). ReadsRows g.R.ByteSource table old now (Err s)) (sym stop)
    (stops_by_bytes g.R.ByteSource one table is old now ahead c.loop-rows.taken c.loop-rows.rows reading
    c.in-Some.line next c.in-Err.why few c.in-Err.ensures later)

pub add_row-requires-clause-few : goal.add_row-requires-clause-few
add_row-requires-clause-few g c =
    let few = reading_few g.R.ByteSource c.args.schema.now c.args.text.now c.loop-rows.text c.loop-rows.lines
    c.loop-rows.taken
    c.loop-rows.rows c.loop-rows.invariant.reading in
    omega arith

pub stop_behind-requires-in-Err-add_row : goal.stop_behind-requires-in-Err-add_row
stop_behind-requires-in-Err-add_row g c =
    let few = reading_few g.R.ByteSource c.args.schema.now c.args.text.now c.loop-rows.text c.loop-rows.lines
    c.loop-rows.taken
    c.loop-rows.rows c.loop-rows.invariant.reading in
    omega (arith, few, c.count-count.ensures)

pub returns-in-Err-add_row : goal.returns-in-Err-add_row
returns-in-Err-add_row g c =
    let table = c.args.schema.now in
    let old = c.args.text.now in
    let now = c.next.new.text in
    let ahead = c.next.new.self in
    let faults = g.R.ByteSource.faults in
    let one = c.lines_are_unique.ensures.one_row in
    let is = c.in_ok-shape.ensures.is_table in
    let reading = reading_grown g.R.ByteSource table old c.loop-rows.text now c.loop-rows.lines ahead
    c.loop-rows.taken c.loop-rows.rows c.loop-rows.invariant.reading c.in_ok-line.ensures.grew in
    let later : faults old ≤ faults now = omega (arith, c.loop-rows.invariant.later, c.next.ensures.cause.later) in
    let next = subst (FindsLine ahead (g.R.ByteSource.left now)) c.in-Some.is c.in_ok-line.ensures.line in
    let few = subst (λ found. IfSome found (λ line. IsFewAhead ahead line.size)) c.in-Some.is
    c.in_ok-line.ensures.few in
    let end = c.in-Err-add_row.stop in
    let stop = c.stop_behind-in-Err-add_row.ensures ∙ ap (λ n. stop_behind n end) c.count-count.ensures in
    subst (λ (s : RowsStop). ReadsRows g.R.ByteSource table old now (Err s)) (sym stop)
    (stops_by_row g.R.ByteSource one table is old now ahead c.loop-rows.taken c.loop-rows.rows reading
    c.in-Some.line next c.in-Ok.end c.add_row.new.rows end few c.in-Ok.ensures
    (λ rows holds.
    subst (λ (line : List ℕ). AddsRow table rows line c.add_row.new.rows (Err end)) c.line-bytes.ensures
    (c.in-Err-add_row.ensures.added rows holds))
    later)

pub loop-rows-preserved : goal.loop-rows-preserved
loop-rows-preserved g c =
    let table = c.args.schema.now in
    let old = c.args.text.now in
    let now = c.next.new.text in
    let ahead = c.next.new.self in
    let faults = g.R.ByteSource.faults in
    let one = c.lines_are_unique.ensures.one_row in
    let is = c.in_ok-shape.ensures.is_table in
    let reading = reading_grown g.R.ByteSource table old c.loop-rows.text now c.loop-rows.lines ahead
    c.loop-rows.taken c.loop-rows.rows c.loop-rows.invariant.reading c.in_ok-line.ensures.grew in
    let later : faults old ≤ faults now = omega (arith, c.loop-rows.invariant.later, c.next.ensures.cause.later) in
    let next = subst (FindsLine ahead (g.R.ByteSource.left now)) c.in-Some.is c.in_ok-line.ensures.line in
    let few = subst (λ found. IfSome found (λ line. IsFewAhead ahead line.size)) c.in-Some.is
    c.in_ok-line.ensures.few in
    let behind = few.behind in
    let within = next.within in
    let rest = length-drop (c.in-Some.line.size + end_size c.in-Some.line.feed) ahead in
    let grown = c.add_row.new.rows in
    record {
      reading =
          subst (λ (after : List ℕ). IsReading g.R.ByteSource table old now after c.in-Ok.end grown)
          (sym c.take.ensures)
          (reading_more g.R.ByteSource one table is old now ahead c.loop-rows.taken c.loop-rows.rows reading
          c.in-Some.line next c.in-Ok.end grown c.in-Ok.ensures
          (λ rows holds.
          subst (λ (line : List ℕ). AddsRow table rows line grown (Ok tt)) c.line-bytes.ensures
          (c.in-Ok-add_row.ensures.added rows holds)));
      wide = c.in-Ok-add_row.ensures.wide;
      few = omega (arith, ap length c.take.ensures);
      later = later;
    }

pub returns : goal.returns
returns g c =
    let table = c.args.schema.now in
    let old = c.args.text.now in
    let now = c.next.new.text in
    let ahead = c.next.new.self in
    let faults = g.R.ByteSource.faults in
    let one = c.lines_are_unique.ensures.one_row in
    let is = c.in_ok-shape.ensures.is_table in
    let reading = reading_grown g.R.ByteSource table old c.loop-rows.text now c.loop-rows.lines ahead
    c.loop-rows.taken c.loop-rows.rows c.loop-rows.invariant.reading c.in_ok-line.ensures.grew in
    let later : faults old ≤ faults now = omega (arith, c.loop-rows.invariant.later, c.next.ensures.cause.later) in
    let done = subst (FindsLine ahead (g.R.ByteSource.left now)) c.in_default.is c.in_ok-line.ensures.line in
    record {
      finds = reading_ends g.R.ByteSource one table is old now ahead c.loop-rows.taken c.loop-rows.rows reading
          done.0 done.1;
      later = later;
      rose = λ never. cc;
    }
