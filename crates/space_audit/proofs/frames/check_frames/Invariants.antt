use Rattle.std.proofs.Common.{◌≡◌, ◌+◌, ◌≤◌, length, take, count_by, not, IfSome}
use Rattle.page_source.specs.Verdict.{AllBelow}
use Rattle.page_source.specs.Calls.{AsksNoMore}
use Rattle.space_audit.specs.Audit.{FrameCheck}
use Rattle.space_audit.specs.Read.{AreKinds}
use Rattle.space_audit.proofs.frames.check_frames.Given as goal

abbrev pub invariant-loop-n : goal.invariant-loop-n
invariant-loop-n g l = record {
  same : g.S.PageSource.content l.source ≡ g.S.PageSource.content l.fn.source;
  later : g.S.PageSource.faults l.fn.source ≤ g.S.PageSource.faults l.source;
  asked : AsksNoMore g.S.PageSource l.fn.source l.source l.fn.steps l.steps;
  cost : l.steps ≤ l.fn.steps + count_by not (take l.n l.inodes.pages);
  count : length l.kinds.kinds.items ≡ l.n;
  few : l.kinds.used ≤ l.n;
  used : l.steps + l.n ≤ l.fn.steps + count_by not (take l.n l.inodes.pages) + l.kinds.used;
  checks : IfSome (g.S.PageSource.content l.fn.source) (λ file. AllBelow (FrameCheck file) l.n);
  kinds : IfSome (g.S.PageSource.content l.fn.source) (λ file. AreKinds file l.n l.kinds.kinds.items l.kinds.used);
}
