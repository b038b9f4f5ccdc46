use Rattle.std.proofs.Common.{◌∙◌, ℕ, List, eqb, length, sym, ap, refl, arith}
use Rattle.std.proofs.lemmas.Bool.{eqb-true, false≢true}
use Rattle.std.proofs.lemmas.Result.{err_from_is_err_and}
use Rattle.schema_text.proofs.PartLemmas.{no_member}
use Rattle.schema_text.proofs.ReadingLemmas.{reading_begun, reading_more, refuse_size, refuse_none, refuse_end}
use Rattle.schema_text.proofs.ReadingLemmas.{read_first_error, read_line_error, accept}
use Rattle.schema_text.proofs.table.Schema.read.Goals as goal
use Rattle.schema_text.proofs.table.Schema.read.Goals.{else-is_empty-via-then-is_empty+else-indexes-gt0}
use Rattle.schema_text.proofs.table.Schema.read.Goals.{else-is_empty-via-else-is_empty}

pub returns-then-text-gt-LONGEST_TEXT : goal.returns-then-text-gt-LONGEST_TEXT
returns-then-text-gt-LONGEST_TEXT c = refuse_size _ (omega arith)

pub returns-in_default : goal.returns-in_default
returns-in_default c = refuse_none _ (omega arith) c.in_default.ensures.first

pub returns-in_err-part : goal.returns-in_err-part
returns-in_err-part c =
    let p = err_from_is_err_and c.from_residual.result c.from_residual.ensures.1 in
    rw (p.1, p.2)
    (read_first_error _ _ _ c.in_err-part.field-0.0
    (omega arith) c.in-Some.ensures.found c.in-Some.ensures.first c.in_err-part.ensures.refused)

pub loop-line-init : goal.loop-line-init
loop-line-init c =
    reading_begun _ _ _ _
    (omega arith) c.in-Some.ensures.found c.in-Some.ensures.first c.in_ok-part.ensures.ok
    c.in_ok-part.ensures.checked

pub returns-in_err-next_line : goal.returns-in_err-next_line
returns-in_err-next_line c =
    let p = err_from_is_err_and c.from_residual-in_err-next_line.result c.from_residual-in_err-next_line.ensures.1 in
    rw (p.1, p.2)
    (read_line_error _ _ _ _ _ c.in_err-next_line.field-0.0 c.loop-line.invariant c.in-Some-cut.ensures.found
    c.in-Some-cut.ensures.first c.in_err-next_line.ensures.refused)

pub loop-line-preserved : goal.loop-line-preserved
loop-line-preserved c =
    reading_more _ _ _ _ _ _ c.loop-line.invariant c.in-Some-cut.ensures.found c.in-Some-cut.ensures.first
    c.in_ok-next_line.ensures.ok c.in_ok-next_line.ensures.checked

pub returns-then-indexes-gt0 : goal.returns-then-indexes-gt0
returns-then-indexes-gt0 c =
    let size = ap length c.indexes.ensures.same in
    let none = no_member c.loop-line.rest.now (eqb-true _ 0 (sym c.if-is_empty.ensures)) in
    rw c.finish.ensures (accept c.args.text.now _ _ c.loop-line.invariant none (omega (arith, size)))

pub returns : goal.returns
returns c =
    let rest = c.loop-line.rest.now in
    rw c.refused.ensures
    (refuse_end c.args.text.now rest c.loop-line.part _ c.loop-line.invariant c.in_default-cut.ensures.first refl
    (λ none some. elim c.else-is_empty.branch [
      | else-is_empty-via-then-is_empty+else-indexes-gt0 w ↦ let size = ap length w.indexes.ensures.same in
          omega (arith, size, some, w.if-indexes-gt0.false)
      | else-is_empty-via-else-is_empty w ↦ false≢true (sym w.if-is_empty.false ∙ c.is_empty.ensures
          ∙ ap (λ (r : List ℕ). eqb (length r) 0) none)
    ]))
