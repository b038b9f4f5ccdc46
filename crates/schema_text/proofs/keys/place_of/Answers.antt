use Rattle.schema_text.proofs.NameLemmas.{not_missed}
use Rattle.schema_text.proofs.keys.place_of.Goals as goal

pub unreachable-requires : goal.unreachable-requires
unreachable-requires c = absurd (not_missed c.args.columns.now c.args.name.now c.requires.known c.in-None.ensures.value)
