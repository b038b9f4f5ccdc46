use Rattle.std.proofs.Common.{◌≡◌, ◌∙◌, ◌<◌, ℕ, length, take, ap, sym, arith}
use Rattle.std.proofs.lemmas.Result.{IfOk-weaker}
use Rattle.page_packer.specs.Entries.{Entry, entry_at}
use Rattle.row_layout.specs.HoldsValues.{clustered_entry, clustered_entries}
use Rattle.space_builder.specs.calls.Picked.{first_page_in}
use Rattle.space_builder.proofs.building.PickedParts.{count_clustered, clustered_at, all_parts}
use Rattle.space_builder.proofs.clustered.ClusteredEntriesEntries.parts.Goals as goal

pub width-requires : goal.width-requires
width-requires c =
    let e = c.args.self.now in
    omega (arith, c.requires, count_clustered e.format (first_page_in e.starts.now e.first_pages.now) e.rows.now)

pub first_fields-requires-clause-row : goal.first_fields-requires-clause-row
first_fields-requires-clause-row c =
    let e = c.args.self.now in
    omega (arith, c.requires, count_clustered e.format (first_page_in e.starts.now e.first_pages.now) e.rows.now)

pub returns : goal.returns
returns c =
    let e = c.args.self.now in
    let k = c.args.k in
    let number : ℕ → ℕ → ℕ → ℕ = first_page_in e.starts.now e.first_pages.now in
    let entry = clustered_entry e.format number e.rows.now k in
    let within : k < length e.rows.now = omega (arith, c.requires, count_clustered e.format number e.rows.now) in
    let there : entry_at (clustered_entries e.format number e.rows.now) k ≡ entry =
    clustered_at e.format number e.rows.now k within in
    let all : take c.width.result entry ≡ entry =
    ap (λ (n : ℕ). take n entry) c.width.ensures ∙ all_parts e.format number e.rows.now k in
    IfOk-weaker c.first_fields.result (λ (parts : Entry). parts ≡ take c.width.result entry)
    (λ (parts : Entry). parts ≡ entry_at (clustered_entries e.format number e.rows.now) k)
    (λ parts is. is ∙ all ∙ sym there) c.first_fields.ensures
