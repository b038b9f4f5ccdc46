use Rattle.std.proofs.Common.{◌≡◌, ℕ, ◌+◌, ◌*◌, true, List, length, sym, subst, arith}
use Rattle.std.proofs.lemmas.Bool.{le-leb}
use Rattle.page_packer.specs.Packing.{slots_for, total_size, sizes_fit, packed_page}
use Rattle.page_packer.specs.Laws.{HasBodyOf}
use Rattle.page_packer.proofs.NumberFacts.{has_own_body}
use Rattle.page_packer.proofs.PackedPage.{packs_pushed}
use Rattle.page_packer.proofs.FinishSteps.{page_put}
use Rattle.page_packer.proofs.packer.Packer.finish.Goals as goal

pub returns-clause-page : goal.returns-clause-page
returns-clause-page c =
    let top = c.top.ensures.value in
    let fits = c.top.ensures.fits in
    page_put c.args.self.now c.put_neighbours.new.page c.put_header.new.page c.put_ends.new.page c.put_records.new.page
    c.put_directory.new.page c.args.prev c.args.next c.args.index_id c.args.heads c.count.ensures.whole
    (omega (arith, top, fits)) c.put_neighbours.ensures c.put_header.ensures c.put_ends.ensures c.put_records.ensures
    c.put_directory.ensures

pub returns-clause-holds : goal.returns-clause-holds
returns-clause-holds c =
    let packing = c.args.self.now in
    let records = packing.records in
    let page = packed_page packing c.args.prev c.args.next c.args.index_id c.args.heads in
    let top = c.top.ensures.value in
    let fits = c.top.ensures.fits in
    let room : sizes_fit (length records) (total_size records) ≡ true =
    le-leb (120 + total_size records + 2 * slots_for (length records)) 16376 (omega (arith, top, fits)) in
    packs_pushed packing c.put_directory.new.page c.args.prev c.args.next c.args.index_id c.args.heads room
    (subst (λ (now : List ℕ). HasBodyOf page now) (sym (returns-clause-page c)) (has_own_body page))
