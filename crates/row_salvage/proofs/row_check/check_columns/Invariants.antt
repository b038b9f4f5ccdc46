use Rattle.std.proofs.Common.{◌≡◌, ◌≤◌, ◌+◌, length}
use Rattle.page_source.specs.Lists.{unmarked}
use Rattle.page_source.specs.Calls.{OfFile, AsksNoMore}
use Rattle.row_salvage.proofs.FirstColumns.{FirstJudged, SavesFirst}
use Rattle.row_salvage.proofs.row_check.check_columns.Given as goal

-- the first columns were checked
abbrev pub invariant-loop-c : goal.invariant-loop-c
invariant-loop-c g l =
    let content = g.S.PageSource.content in
    let faults = g.S.PageSource.faults in
    record {
      same : content l.source ≡ content l.fn.source;
      later : faults l.fn.source ≤ faults l.source;
      asked : AsksNoMore g.S.PageSource l.fn.source l.source l.fn.steps l.steps;
      members : length l.marks ≡ length l.fn.marks;
      cost : l.steps + unmarked l.marks ≤ l.fn.steps + unmarked l.fn.marks;
      fewer : l.count + unmarked l.marks ≤ unmarked l.fn.marks;
      room : length l.losses-inside.losses.items ≡ length l.fn.losses;
      judged : OfFile g.S.PageSource l.fn.source (λ file.
          FirstJudged file l.fn.row l.fn.marks l.marks (faults l.fn.source) (faults l.source)
          l.losses-inside.losses.items l.c);
      saves : OfFile g.S.PageSource l.fn.source (λ file.
          SavesFirst file l.fn.row.row l.losses-inside.losses.items l.c l.count);
    }
