use Rattle.std.proofs.Common.{sym, ◌∙◌, arith}
use Rattle.space_layout.proofs.PageNumbers.{page_fragment, page_own, page_high}
use Rattle.space_layout.proofs.numbers.segment_page.Goals as goal

pub overflow_mul-result : goal.overflow_mul-result
overflow_mul-result c =
    let own = page_own c.args.sizes.now c.args.s c.args.i (omega arith) in
    let high = page_high c.args.sizes.now c.requires.shape c.args.s c.args.i c.requires.within c.requires.inside in
    let fits = c.requires.shape.fits in
    omega arith

pub overflow_add-result : goal.overflow_add-result
overflow_add-result c =
    let own = page_own c.args.sizes.now c.args.s c.args.i (omega arith) in
    let high = page_high c.args.sizes.now c.requires.shape c.args.s c.args.i c.requires.within c.requires.inside in
    let fits = c.requires.shape.fits in
    omega arith

pub returns-then-i-lt-SLOTS : goal.returns-then-i-lt-SLOTS
returns-then-i-lt-SLOTS c = c.fragment_page.ensures
    ∙ sym (page_fragment c.args.sizes.now c.args.s c.args.i (omega arith))

pub returns-else-i-lt-SLOTS : goal.returns-else-i-lt-SLOTS
returns-else-i-lt-SLOTS c =
    let own = page_own c.args.sizes.now c.args.s c.args.i (omega arith) in
    omega arith
