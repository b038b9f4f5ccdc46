use Rattle.std.proofs.Common.{◌≡◌, ◌∙◌, ◌<◌, ℕ, min, length, take, ap, sym, arith}
use Rattle.std.proofs.lemmas.Result.{IfOk-weaker}
use Rattle.page_packer.specs.Entries.{Entry, entry_at}
use Rattle.row_layout.specs.HoldsValues.{clustered_entry, clustered_entries}
use Rattle.space_builder.specs.calls.Picked.{first_page_in}
use Rattle.space_builder.proofs.building.PickedParts.{count_clustered, clustered_at, clustered_width, take_least}
use Rattle.space_builder.proofs.clustered.ClusteredEntriesLeaves.key.Goals as goal

pub width-requires : goal.width-requires
width-requires c =
    let e = c.args.self.now in
    omega (arith, c.requires, count_clustered e.format (first_page_in e.starts.now e.first_pages.now) e.rows.now)

pub first_fields-requires-clause-row : goal.first_fields-requires-clause-row
first_fields-requires-clause-row c =
    let e = c.args.self.now in
    omega (arith, c.requires, count_clustered e.format (first_page_in e.starts.now e.first_pages.now) e.rows.now)

pub returns : goal.returns
returns c =
    let e = c.args.self.now in
    let k = c.args.k in
    let number : ℕ → ℕ → ℕ → ℕ = first_page_in e.starts.now e.first_pages.now in
    let entry = clustered_entry e.format number e.rows.now k in
    let within : k < length e.rows.now = omega (arith, c.requires, count_clustered e.format number e.rows.now) in
    let there : entry_at (clustered_entries e.format number e.rows.now) k ≡ entry =
    clustered_at e.format number e.rows.now k within in
    let first : take c.min.result entry ≡ take c.args.keys entry =
    take_least c.args.keys c.min.result entry
    (c.min.ensures ∙ ap (min c.args.keys) (c.width.ensures ∙ sym (clustered_width e.format number e.rows.now k))) in
    IfOk-weaker c.first_fields.result (λ (parts : Entry). parts ≡ take c.min.result entry)
    (λ (parts : Entry). parts ≡ take c.args.keys (entry_at (clustered_entries e.format number e.rows.now) k))
    (λ parts is. is ∙ first ∙ ap (take c.args.keys) (sym there)) c.first_fields.ensures
