use Rattle.schema_text.proofs.NameLemmas.{not_unfound}
use Rattle.schema_text.proofs.keys.declared.Goals as goal

pub unreachable-requires : goal.unreachable-requires
unreachable-requires c = absurd (not_unfound c.args.columns.now c.args.name.now c.requires c.in-None.ensures)
