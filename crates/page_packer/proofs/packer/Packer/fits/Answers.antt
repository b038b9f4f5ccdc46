use Rattle.std.proofs.Common.{◌≡◌, ◌+◌, ◌*◌, ℕ, List, length, take, sym, ap, ◌∙◌, arith, nat_le}
use Rattle.page_packer.specs.Packing.{Pushed, Packing, slots_for, total_size, fits_more}
use Rattle.page_packer.specs.Filling.{pushed_in}
use Rattle.page_packer.proofs.Fills.{pushed_count}
use Rattle.page_packer.proofs.packer.Packer.fits.Goals as goal

pub returns-then-size-le-PAGE_SIZE : goal.returns-then-size-le-PAGE_SIZE
returns-then-size-le-PAGE_SIZE c =
    let page = c.self.inside.page in
    let spots = c.self.inside.spots.items in
    let count = c.self.inside.count in
    let few = c.self.invariant.few in
    let room = c.self.invariant.room in
    let fits = c.self.invariant.fits in
    let top = c.self.invariant.top_is in
    let records : List Pushed = pushed_in page (take count spots) in
    let size : length records ≡ count = pushed_count page spots count (omega arith) in
    let slots : c.slots_for.result ≡ slots_for (length records + 1) =
    c.slots_for.ensures.value ∙ ap (λ (n : ℕ). slots_for (n + 1)) (sym size) in
    let all : c.self.inside.top + c.args.size + 2 * c.slots_for.result
    ≡ 120 + (total_size records + c.args.size) + 2 * slots_for (length records + 1) =
    ap (λ (n : ℕ). c.self.inside.top + c.args.size + 2 * n) slots
    ∙ omega arith in
    ap (λ (n : ℕ). nat_le n 16376) all ∙ ap (λ (p : Packing). fits_more p c.args.size) c.self.view_is
