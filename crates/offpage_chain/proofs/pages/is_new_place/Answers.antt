use Rattle.space_audit.specs.Marks.{is_set}
use Rattle.offpage_chain.proofs.Places.{place_below, place_beyond}
use Rattle.offpage_chain.proofs.pages.is_new_place.Goals as goal

pub returns-then-n-header-clause-place : goal.returns-then-n-header-clause-place
returns-then-n-header-clause-place c = λ file has.
    place_below file c.args.header.now has (is_set c.args.marks.now c.args.n) c.args.n c.has.result c.has.ensures
    c.if-n-header.true

pub returns-else-n-header-clause-place : goal.returns-else-n-header-clause-place
returns-else-n-header-clause-place c = λ file has.
    place_beyond file c.args.header.now has (is_set c.args.marks.now c.args.n) c.args.n c.if-n-header.false
