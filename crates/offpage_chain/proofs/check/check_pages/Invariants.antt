use Rattle.std.proofs.Common.{◌≡◌, ◌≤◌, ◌+◌, ◌-◌, length}
use Rattle.page_source.specs.Lists.{unmarked}
use Rattle.page_source.specs.Calls.{OfFile, AsksNoMore}
use Rattle.column_values.specs.Utf8Reader.{CountsUpTo}
use Rattle.space_audit.specs.Marks.{StaysMarked}
use Rattle.offpage_chain.proofs.Alongs.{IsAlong, walk_of}
use Rattle.offpage_chain.proofs.check.check_pages.Given as goal

-- some pages held, were marked and fed
abbrev pub invariant-loop-due : goal.invariant-loop-due
invariant-loop-due g l =
    let content = g.S.PageSource.content in
    record {
      same : content l.source ≡ content l.fn.source;
      later : g.S.PageSource.faults l.fn.source ≤ g.S.PageSource.faults l.source;
      asked : AsksNoMore g.S.PageSource l.fn.source l.source l.fn.steps l.steps;
      members : length l.marks ≡ length l.fn.marks;
      stays : StaysMarked l.fn.marks l.marks;
      taken : l.steps ≡ l.fn.steps + l.count;
      few : l.count + l.due.left ≤ l.chain.reference.now.length;
      marked : l.count + unmarked l.marks ≤ unmarked l.fn.marks;
      counts : CountsUpTo (16384 + (l.chain.reference.now.length - l.due.left)) l.text;
      told : OfFile g.S.PageSource l.fn.source (λ file.
          IsAlong (walk_of file l.chain l.fn.marks) l.marks l.fn.text l.text l.due l.count);
    }

abbrev pub decreases-loop-due : goal.decreases-loop-due
decreases-loop-due g l = l.due.left
