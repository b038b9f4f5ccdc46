use Rattle.schema_text.proofs.WordLemmas.{found_place, no_place, one_place, lacks_before, lacks_all}
use Rattle.schema_text.proofs.words.cut.Goals as goal

pub returns-in_err-at-clause-first : goal.returns-in_err-at-clause-first
returns-in_err-at-clause-first c = rw c.from_residual.ensures (lacks_all _ _ c.in_err-at.ensures)

pub returns-in_err-at-clause-only : goal.returns-in_err-at-clause-only
returns-in_err-at-clause-only c = λ first rest lacks e. absurd (no_place _ _ first rest c.in_err-at.ensures lacks e)

pub returns-clause-found : goal.returns-clause-found
returns-clause-found c = found_place _ _ _ c.in_ok-at.ensures

pub returns-clause-first : goal.returns-clause-first
returns-clause-first c = lacks_before _ _ _ c.in_ok-at.ensures

pub returns-clause-only : goal.returns-clause-only
returns-clause-only c = λ first rest lacks e. one_place _ _ _ first rest c.in_ok-at.ensures lacks e
