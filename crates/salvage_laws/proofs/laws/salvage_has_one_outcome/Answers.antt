use Rattle.salvage_laws.proofs.Outcomes.{one_list}
use Rattle.salvage_laws.proofs.laws.salvage_has_one_outcome.Goals as goal

pub returns : goal.returns
returns c =
    λ job a b is.
    one_list c.spellings_are_unique.ensures.one_value c.row_has_one_judgement.ensures job is
    c.page_has_one_verdict.ensures a b
