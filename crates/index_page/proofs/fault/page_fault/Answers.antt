use Rattle.index_page.proofs.ChecksLaw.{none_is_sound}
use Rattle.index_page.proofs.fault.page_fault.Goals as goal

pub returns-clause-sound : goal.returns-clause-sound
returns-clause-sound c = none_is_sound c.args.page.now c.args.fields.now c.args.leaf c.args.root c.args.leftmost
    c.first_broken.result c.first_broken.ensures.exact
