use Rattle.std.proofs.Common.{◌≡◌, ◌∙◌, length, take, get_or, sym, arith}
use Rattle.std.proofs.lemmas.List.{length-map, take_all}
use Rattle.std.proofs.lemmas.Result.{IfOk-weaker}
use Rattle.page_packer.specs.Entries.{Entry, entry_at}
use Rattle.row_layout.specs.StoredRow.{stored_at}
use Rattle.row_layout.specs.HoldsValues.{stored_in}
use Rattle.space_builder.specs.calls.Picked.{whole_part, picked_entry, picked_entries}
use Rattle.space_builder.proofs.building.PickedParts.{count_picked, picked_at}
use Rattle.space_builder.proofs.secondary.SecondaryEntriesEntries.parts.Goals as goal

pub offset_bounds-self-k : goal.offset_bounds-self-k
offset_bounds-self-k c =
    let e = c.args.self.now in omega (arith, c.requires, count_picked e.fields.now e.rows.now e.order.now)

pub bounds-self-k : goal.bounds-self-k
bounds-self-k c =
    let e = c.args.self.now in omega (arith, c.requires, count_picked e.fields.now e.rows.now e.order.now)

pub returns : goal.returns
returns c =
    let e = c.args.self.now in
    let row = stored_in e.rows.now (get_or e.order.now c.args.k 0) in
    let entry = picked_entry e.fields.now row in
    let size = length-map e.fields.now (λ i. whole_part (stored_at row i)) in
    let entries = picked_entries e.fields.now e.rows.now e.order.now in
    let there : entry_at entries c.args.k ≡ entry =
    picked_at e.fields.now e.rows.now e.order.now c.args.k
    (omega (arith, c.requires, count_picked e.fields.now e.rows.now e.order.now)) in
    let all : take (length e.fields.now) entry ≡ entry =
    take_all (length e.fields.now) entry (omega (arith, size)) in
    IfOk-weaker c.first_fields.result (λ (parts : Entry). parts ≡ take (length e.fields.now) entry)
    (λ (parts : Entry). parts ≡ entry_at entries c.args.k)
    (λ parts is. is ∙ all ∙ sym there) c.first_fields.ensures
