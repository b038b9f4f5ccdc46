-- The pages of a tree, level by level from the root down, and the records on them (btr0btr, btr0cur).
use Rattle.std.specs.Prelude.{ℕ, zero, suc, ◌==◌, if◌then◌else◌, Bool, not, Option, Some, None, List, [], ◌∷◌, ◌++◌}
use Rattle.std.specs.Prelude.{map, flat_map, slice_index_or}
use Rattle.page_source.specs.Pages.{page_of, fil_null}
use Rattle.column_values.specs.Types.{Fields}
use Rattle.column_values.specs.Order.{Key}
use Rattle.compact_record.specs.Header.{is_deleted}
use Rattle.compact_record.specs.Reading.{key_of}
use Rattle.compact_record.specs.Keys.{child_at}
use Rattle.index_page.specs.Header.{records_of, level_of, index_id_of}

-- an index of a file: its root, and the fields of its leaf records and node pointers
pub record Index : Type 0 where
  pub file : List ℕ
  pub root : ℕ
  pub leaf : Fields
  pub node : Fields

abbrev pub index_of : List ℕ → ℕ → Fields → Fields → Index
index_of file root leaf node = record { file = file; root = root; leaf = leaf; node = node }

abbrev pub page_in : Index → ℕ → List ℕ
page_in index n = page_of index.file n

-- the fields of the records of a level
abbrev pub fields_on : Index → ℕ → Fields
fields_on index level = if level == 0 then index.leaf else index.node

abbrev pub root_level : Index → ℕ
root_level index = level_of (page_in index index.root)

abbrev pub index_id : Index → ℕ
index_id index = index_id_of (page_in index index.root)

-- a record of a page: a row on a leaf, a node pointer above
pub record Row : Type 0 where
  pub page : ℕ
  pub origin : ℕ

unfoldable pub no_row : Row
no_row = record { page = 0; origin = 0 }

-- the records of a page with these origins, of a page, and of these pages, from left to right
abbrev pub rows_at : ℕ → List ℕ → List Row
rows_at n origins = map (λ origin. record { page = n; origin = origin }) origins

abbrev pub rows_on : Index → ℕ → List Row
rows_on index n = rows_at n (records_of (page_in index n))

abbrev pub rows_of : Index → List ℕ → List Row
rows_of index pages = flat_map (rows_on index) pages

unfoldable pub row_at : List Row → ℕ → Row
row_at rows j = slice_index_or rows j no_row

-- the child of a pointer that there may be, or no page
abbrev pub held_child : List ℕ → Fields → Option ℕ → ℕ
held_child page fields None = fil_null
held_child page fields (Some origin) = child_at page fields origin

unfoldable pub child_of : Index → Row → ℕ
child_of index row = child_at (page_in index row.page) index.node row.origin

abbrev pub children : Index → List Row → List ℕ
children index rows = map (child_of index) rows

-- the key of a node pointer
unfoldable pub key_in : Index → Row → Key
key_in index row = key_of (page_in index row.page) row.origin index.node

-- the pages that lie `depth` levels below the root, from left to right
unfoldable pub pages_at : Index → ℕ → List ℕ
pages_at index zero = index.root ∷ []
pages_at index (suc depth) = children index (rows_of index (pages_at index depth))

-- the records of that level: the places of the level below
abbrev pub places : Index → ℕ → List Row
places index depth = rows_of index (pages_at index depth)

-- the pages of all levels down to one
unfoldable pub reached : Index → ℕ → List ℕ
reached index zero = index.root ∷ []
reached index (suc depth) = reached index depth ++ pages_at index (suc depth)

abbrev pub tree_pages : Index → List ℕ
tree_pages index = reached index (root_level index)

abbrev pub leaf_pages : Index → List ℕ
leaf_pages index = pages_at index (root_level index)

-- the rows of a tree, from left to right
abbrev pub leaf_rows : Index → List Row
leaf_rows index = places index (root_level index)

-- whether a row has the delete mark
unfoldable pub is_deleted_row : Index → Row → Bool
is_deleted_row index row = is_deleted (page_in index row.page) row.origin

abbrev pub is_live_row : Index → Row → Bool
is_live_row index row = not (is_deleted_row index row)
