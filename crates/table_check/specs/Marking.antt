-- What a call does that checks values, and marks the pages that they go on in.
use Rattle.std.specs.Prelude.{◌≡◌, ◌+◌, ◌≤◌, ℕ, Bool, List, length, Option, Result, IfOk, OnOk}
use Rattle.page_source.specs.declared.objects.PageSource.{Ghosts as FileOf}
use Rattle.page_source.specs.declared.rule.Fault.{Fault}
use Rattle.page_source.specs.declared.checks.Halt.{Halt}
use Rattle.page_source.specs.Lists.{unmarked}
use Rattle.page_source.specs.Checks.{Halts, HaltsWithCause}
use Rattle.page_source.specs.Calls.{OfFile}
use Rattle.space_audit.specs.Space.{SpaceView, IsAuditOf}
use Rattle.space_audit.specs.Marks.{is_set, Marked}

-- the space is the audit of the file, and there is a mark for each of its pages
pub record CanMark {S : Type 0} (g : FileOf S) (source : S) (space : SpaceView) (marks : List Bool) : Type 0 where
  pub audit : OfFile g source (λ file. IsAuditOf file space)
  pub members : length marks ≡ space.size

-- the first of these checks that is broken is the answer; these pages were marked and counted, and at Ok a step was
-- taken for each, once
pub record ChecksPages {S : Type 0} (g : FileOf S) (old new : S) (before after : List Bool) (steps spent : ℕ)
    (result : Result ℕ Halt) (Checks : List ℕ → Option Fault → Type 0) (pages : List ℕ → List ℕ) : Type 0 where
  pub exact : OfFile g old (λ file. Halts result (Checks file))
  pub count : IfOk result (λ count. OfFile g old (λ file. count ≡ length (pages file)))
  pub grew : OnOk result (OfFile g old (λ file. Marked (is_set before) after (pages file)))
  pub members : length after ≡ length before
  pub fewer : IfOk result (λ count. count + unmarked after ≤ unmarked before)
  pub cost : spent + unmarked after ≤ steps + unmarked before + 1
  pub exactly : IfOk result (λ count. spent ≡ steps + count)
  pub same : g.content new ≡ g.content old
  pub cause : HaltsWithCause (g.faults old) (g.faults new) result
