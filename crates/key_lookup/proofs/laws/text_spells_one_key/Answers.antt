use Rattle.key_lookup.proofs.GetKey.{one_spelled}
use Rattle.key_lookup.proofs.laws.text_spells_one_key.Goals as goal

pub returns : goal.returns
returns c = one_spelled c.key_texts_are_unique.ensures.one_key
