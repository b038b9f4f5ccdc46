use Rattle.std.proofs.Common.{◌≡◌, ◌+◌, ◌-◌, ◌≤◌, false}
use Rattle.page_source.specs.Calls.{AsksNoMore}
use Rattle.table_check.proofs.RowMarks.{HaveHeld}
use Rattle.table_check.proofs.values.check_rows.Given as goal

-- the rows given so far hold
abbrev pub invariant-loop-origin : goal.invariant-loop-origin
invariant-loop-origin g l = record {
  have : HaveHeld g.S.PageSource l.fn.source l.source l.fn.marks l.marks (l.fn.steps + l.fn.rows.leaf.may_fetch)
      (l.steps + l.rows.leaf.may_fetch) l.count l.schema l.rows (l.fn.rows.live - l.rows.live);
  asked : AsksNoMore g.S.PageSource l.fn.source l.source l.fn.steps l.steps;
  few : l.rows.live ≤ l.fn.rows.live;
  goes_on : l.rows.ended ≡ false;
  room : l.located.members ≡ l.fn.located.members;
}

abbrev pub decreases-loop-origin : goal.decreases-loop-origin
decreases-loop-origin g l = l.rows.live
