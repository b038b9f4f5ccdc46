use Rattle.std.proofs.Common.{◌≡◌, ◌<◌, ◌+◌, ◌-◌, ◌*◌, ℕ, List, length, get_or, sym, ap, ◌∙◌, arith}
use Rattle.page_source.specs.Pages.{be_bytes, with_bytes}
use Rattle.compact_record.proofs.WriteSteps.{with_bytes-none}
use Rattle.page_packer.specs.Packing.{slots_for, slot_origin, directory_bytes}
use Rattle.page_packer.proofs.FinishSteps.{slot_list, length-slot_list, slot_in_list, numbers_put, directory_all}
use Rattle.page_packer.proofs.packer.Packer.put_directory.Goals as goal

pub loop-j-init : goal.loop-j-init
loop-j-init c = with_bytes-none c.args.page.now (16376 - 2 * c.slots_for-slots.result)

pub loop-j-preserved : goal.loop-j-preserved
loop-j-preserved c =
    let records = c.args.self.now.records in
    let j = c.loop-j.j in
    let s : ℕ = slots_for (length records) in
    let long : length c.args.page.now ≡ 16384 = ap length (sym c.bytes.ensures.same) ∙ c.bytes.ensures.size in
    let slots : c.slots_for-slots.result ≡ s =
    c.slots_for-slots.ensures.value ∙ ap (λ (n : ℕ). slots_for n) c.count.ensures.value in
    let few = c.count.ensures.few in
    let below : j < s = omega (arith, slots, c.loop-j-test.true) in
    let size : length (slot_list records) ≡ s = length-slot_list records in
    let start : ℕ = 16376 - 2 * c.slots_for-slots.result in
    let value : c.slot_origin-origin.result ≡ get_or (slot_list records) j 0 =
    c.slot_origin-origin.ensures.value ∙ ap (λ (n : ℕ). slot_origin records (n - 1 - j)) slots
    ∙ sym (slot_in_list records j below) in
    numbers_put (slot_list records) c.args.page.now c.loop-j.page c.write_be.new.page start (start + 2 * j) j
    (omega (arith, size, below)) (omega (arith, long, c.loop-j-test.true, few, c.slots_for-slots.ensures.value))
    c.loop-j.invariant (omega arith)
    (c.write_be.ensures.others ∙ ap (λ (n : ℕ). with_bytes c.loop-j.page (start + 2 * j) (be_bytes 2 n)) value)

pub returns : goal.returns
returns c =
    let records = c.args.self.now.records in
    let slots : c.slots_for-slots.result ≡ slots_for (length records) =
    c.slots_for-slots.ensures.value ∙ ap (λ (n : ℕ). slots_for n) c.count.ensures.value in
    c.loop-j.invariant
    ∙ ap (λ (xs : List ℕ). with_bytes c.args.page.now (16376 - 2 * c.slots_for-slots.result) xs)
    (directory_all records c.loop-j.j (omega (arith, slots, c.loop-j-test.false)))
    ∙ ap (λ (n : ℕ). with_bytes c.args.page.now (16376 - 2 * n) (directory_bytes records)) slots
