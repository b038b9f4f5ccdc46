-- The way from the root down to the leaf where a key belongs (btr0cur).
use Rattle.std.specs.Prelude.{ℕ, zero, suc, ◌-◌, Bool, true, not, List, [], ◌∷◌, length, filter, slice_index_or}
use Rattle.std.specs.Prelude.{Option, Some, None}
use Rattle.std.specs.Ordering.{is_gt}
use Rattle.column_values.specs.Order.{Key, key_cmp}
use Rattle.compact_record.specs.Reading.{key_kinds}
use Rattle.tree_walk.specs.Index.{Index, root_level}
use Rattle.tree_walk.specs.Descent.{Bounded, bounded_root, kids}

-- whether a separator isn't above the key
abbrev pub is_up_to : Index → Key → Option Key → Bool
is_up_to index key None = true
is_up_to index key (Some low) = not (is_gt (key_cmp (key_kinds index.node) low key))

-- which of these pages have a low separator that isn't above the key
abbrev pub pages_up_to : Index → Key → List Bounded → List Bounded
pages_up_to index key bs = filter (λ (b : Bounded). is_up_to index key b.low) bs

-- of these pages the last one whose low separator isn't above the key, otherwise the first one
abbrev pub page_for : Index → Key → Bounded → List Bounded → Bounded
page_for index key none [] = none
page_for index key none (first ∷ rest) =
    slice_index_or (pages_up_to index key rest) (length (pages_up_to index key rest) - 1) first

-- the child of a page that the way goes on to
unfoldable pub next_down : Index → Key → Bounded → Bounded
next_down index key b = page_for index key b (kids index b)

-- the pages of the way, each between its separators, from the root on
abbrev pub way : Index → Key → ℕ → Bounded
way index key zero = bounded_root index
way index key (suc depth) = next_down index key (way index key depth)

-- the leaf where the key belongs
abbrev pub leaf_for : Index → Key → ℕ
leaf_for index key = (way index key (root_level index)).page
