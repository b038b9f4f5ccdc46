use Rattle.std.proofs.Common.{not}
use Rattle.tree_walk.specs.Index.{is_live_row}
use Rattle.key_lookup.specs.Record.{has_key}
use Rattle.key_lookup.specs.Leaf.{row_at_origin}
use Rattle.key_lookup.proofs.Found.{sought_by, live_by, both_say, none_says}
use Rattle.key_lookup.proofs.leaf.is_sought.Goals as goal

pub returns-then-eq : goal.returns-then-eq
returns-then-eq c = λ index n p f.
    both_say (has_key index c.args.key.now (row_at_origin n c.args.at)) (is_live_row index (row_at_origin n c.args.at))
    c.eq.result (not c.deleted.result) c.compare_record.result
    (sought_by index c.args.key.now n c.args.at c.args.located.now.origin c.args.page.now c.args.fields.now
    c.compare_record.result p f c.requires.held.stands c.compare_record.ensures)
    (live_by index n c.args.at c.args.page.now c.deleted.result p c.deleted.ensures) c.eq.ensures c.if-eq.true

pub returns-else-eq : goal.returns-else-eq
returns-else-eq c = λ index n p f.
    none_says (has_key index c.args.key.now (row_at_origin n c.args.at)) (is_live_row index (row_at_origin n c.args.at))
    c.eq.result c.compare_record.result
    (sought_by index c.args.key.now n c.args.at c.args.located.now.origin c.args.page.now c.args.fields.now
    c.compare_record.result p f c.requires.held.stands c.compare_record.ensures)
    c.eq.ensures c.if-eq.false
