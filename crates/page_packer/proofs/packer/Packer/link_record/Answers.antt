use Rattle.std.proofs.Common.{◌≡◌, ◌+◌, ◌-◌, ℕ, List, length, slice_index, sym, ap, ◌∙◌, arith}
use Rattle.page_source.specs.Pages.{be_bytes, with_bytes}
use Rattle.page_packer.specs.Packing.{Pushed, pushed_at, start_of, owned_at, next_of_record}
use Rattle.page_packer.proofs.Sizes.{origin_in_page}
use Rattle.page_packer.proofs.FinishSteps.{info_there, linked_put}
use Rattle.page_packer.proofs.packer.Packer.link_record.Goals as goal

pub overflow_add-info : goal.overflow_add-info
overflow_add-info c =
    let records = c.args.self.now.records in
    let page = c.args.page.now in
    let r : Pushed = pushed_at records c.args.k in
    let spot = c.spot-spot.result in
    let long : length page ≡ 16384 = ap length (sym c.bytes.ensures.same) ∙ c.bytes.ensures.size in
    let end = c.spot-spot.ensures.end_is in
    let start = c.spot-spot.ensures.start_is in
    let last = c.spot-spot.ensures.last in
    let place = c.spot-spot.ensures.origin_is ∙ origin_in_page records c.args.k c.requires.within in
    let byte : slice_index c.bytes-2.result.now (spot.origin - 5) ≡ slice_index r.bytes (r.origin - 5) =
    ap (λ (xs : List ℕ). slice_index xs (spot.origin - 5)) c.bytes-2.ensures.same
    ∙ info_there page (start_of records c.args.k) spot.origin r c.spot-spot.ensures.whole
    (omega (arith, end, last, long)) c.requires.stands place in
    let low = c.spot-spot.ensures.info_is in
    let few = c.owned_at.ensures.few in
    omega (arith, byte, low, few)

pub returns : goal.returns
returns c =
    let records = c.args.self.now.records in
    let k = c.args.k in
    let page = c.args.page.now in
    let r : Pushed = pushed_at records k in
    let spot = c.spot-spot.result in
    let long : length page ≡ 16384 = ap length (sym c.bytes.ensures.same) ∙ c.bytes.ensures.size in
    let end = c.spot-spot.ensures.end_is in
    let last = c.spot-spot.ensures.last in
    let place = c.spot-spot.ensures.origin_is ∙ origin_in_page records k c.requires.within in
    let owned : c.owned_at.result ≡ owned_at (length records) k =
    c.owned_at.ensures.value ∙ ap (λ (n : ℕ). owned_at n k) c.count.ensures.value in
    let info : slice_index c.bytes-2.result.now (spot.origin - 5) + c.owned_at.result
    ≡ slice_index page (spot.origin - 5) + owned_at (length records) k =
    ap (λ (xs : List ℕ). slice_index xs (spot.origin - 5) + c.owned_at.result) c.bytes-2.ensures.same
    ∙ ap (λ (n : ℕ). slice_index page (spot.origin - 5) + n) owned in
    linked_put page c.put_bytes.new.self c.write_be.new.page (start_of records k) spot.origin
    (slice_index c.bytes-2.result.now (spot.origin - 5) + c.owned_at.result) (owned_at (length records) k)
    (next_of_record records k) r c.spot-spot.ensures.whole (omega (arith, end, last, long)) c.requires.stands place info
    c.put_bytes.ensures
    (c.write_be.ensures.others
    ∙ ap (λ (n : ℕ). with_bytes c.put_bytes.new.self (spot.origin - 2) (be_bytes 2 n)) c.next_at-next.ensures.value)
