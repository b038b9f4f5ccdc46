use Rattle.key_lookup.proofs.LookUpLaw.{HasLaws, finds_in_valid}
use Rattle.key_lookup.proofs.laws.finds_in_valid.Goals as goal

pub returns : goal.returns
returns c =
    let laws : HasLaws = record {
      rise = c.keys_rise_throughout.ensures;
      page = c.checks_are_an_index_page.ensures;
      valid = c.checks_are_validity.ensures;
      one_chain = c.has_one_chain.ensures;
      lists = c.lists_are_of_one_index.ensures;
    } in
    finds_in_valid laws
