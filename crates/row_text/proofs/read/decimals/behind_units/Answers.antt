use Rattle.std.proofs.Common.{ℕ, ◌+◌, sym, ap, ◌∙◌}
use Rattle.row_text.proofs.ReadDigits.{no_point}
use Rattle.row_text.proofs.read.decimals.behind_units.Goals as goal
use Rattle.row_text.proofs.read.decimals.behind_units.Goals.{then-text-from-via-then-text-from}
use Rattle.row_text.proofs.read.decimals.behind_units.Goals.{then-text-from-via-else-text-from+then-text-ne46}

pub returns-then-text-from : goal.returns-then-text-from
returns-then-text-from c = λ n e.
    let is = no_point c.args.text.now c.args.count n c.if-count-eq0.false e in
    elim c.then-text-from.branch [
      | then-text-from-via-then-text-from w ↦ w.if-text-from.true (is.0 ∙ ap (λ (k : ℕ). k + 1) (sym c.from.ensures))
      | then-text-from-via-else-text-from+then-text-ne46 w ↦ w.if-text-ne46.true is.1
    ]
