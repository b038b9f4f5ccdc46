use Rattle.std.proofs.Common.{◌≡◌, ℕ, ◌≤◌, List, length, filter}
use Rattle.std.specs.List.{range_with_len}
use Rattle.page_source.specs.Verdict.{AllBelow}
use Rattle.schema_text.specs.TableDef.{TableDef}
use Rattle.space_audit.specs.Space.{IsAuditOf}
use Rattle.table_check.specs.First.{UnreachedCheck, is_unreached}
use Rattle.table_check.specs.Taken.{IsReached}
use Rattle.table_check.specs.Trees.{leaf_segments}
use Rattle.table_check.proofs.unreached.count_unreached.Given as goal

-- the pages before this one were looked at
abbrev pub invariant-loop-n : goal.invariant-loop-n
invariant-loop-n l = record {
  few : l.count ≤ l.n;
  held : (file : List ℕ) (table : TableDef) → IsAuditOf file l.space → l.leaves ≡ leaf_segments file table
      → IsReached file table l.marks → AllBelow (UnreachedCheck file table) l.n;
  counted : (file : List ℕ) (table : TableDef) → IsAuditOf file l.space → IsReached file table l.marks
      → l.count ≡ length (filter (is_unreached file table) (range_with_len 0 l.n));
}
