-- What the checks of the root and of the levels above leave known of the pages of a level.
use Rattle.std.specs.Prelude.{◌≡◌, ℕ, ◌<◌, length, slice_index_or, All}
use Rattle.page_source.specs.Pages.{page_count, fil_null}
use Rattle.fil_frame.specs.Frame.{next_page}
use Rattle.column_values.specs.Types.{Fields}
use Rattle.index_page.specs.Header.{record_count}
use Rattle.tree_walk.specs.Index.{Index, page_in, root_level, pages_at}
use Rattle.tree_walk.specs.Records.{PageFacts}
use Rattle.tree_walk.specs.TreeChecks.{after}

-- each page of a level is in the file, sound and linked to the next; above the leaves each has a record
pub record LevelFacts (index : Index) (fields : Fields) (depth : ℕ) : Type 0 where
  pub some : 0 < length (pages_at index depth)
  pub within : All (λ n. n < page_count index.file) (pages_at index depth)
  pub small : All (λ n. n < fil_null) (pages_at index depth)
  pub sound : All (λ n. PageFacts (page_in index n) fields) (pages_at index depth)
  pub filled : 0 < root_level index → All (λ n. 0 < record_count (page_in index n)) (pages_at index depth)
  pub linked : (i : ℕ) → i < length (pages_at index depth)
      → next_page (page_in index (slice_index_or (pages_at index depth) i 0)) ≡ after (pages_at index depth) i
