use Rattle.std.proofs.Common.{◌∙◌, sym}
use Rattle.space_builder.specs.calls.Picked.{first_page_in}
use Rattle.space_builder.proofs.building.PickedParts.{count_clustered}
use Rattle.space_builder.proofs.clustered.ClusteredEntriesEntries.count.Goals as goal

pub returns : goal.returns
returns c =
    let e = c.args.self.now in
    c.count.ensures ∙ sym (count_clustered e.format (first_page_in e.starts.now e.first_pages.now) e.rows.now)
