use Rattle.std.proofs.Common.{[], get_or}
use Rattle.std.proofs.lemmas.List.Elements.{All-map}
use Rattle.index_page.specs.Header.{records_of}
use Rattle.tree_walk.specs.Index.{Index, Row, page_in, rows_on, leaf_pages}
use Rattle.tree_walk.specs.Records.{IsRecord}
use Rattle.tree_walk.specs.Laws.{RowsCanBeRead}
use Rattle.tree_walk.proofs.LeafFacts.{leaf_facts}
use Rattle.page_source.proofs.Lists.{all_flat_map}
use Rattle.tree_walk.proofs.laws.rows_can_be_read.Goals as goal

-- the row can be read
abbrev IsRead : Index → Row → Type 0
IsRead index row = IsRecord (page_in index row.page) index.leaf row.origin

rows_law : RowsCanBeRead
rows_law index walked =
    let facts = leaf_facts index walked in
    all_flat_map (IsRead index) (rows_on index) (leaf_pages index)
    (λ k d below. All-map (IsRead index) _ (records_of (page_in index (get_or (leaf_pages index) k d)))
    (facts.sound k d below).records)

pub returns : goal.returns
returns c = rows_law
