-- The keys of a tree that is laid out rise on every level, and every entry has a part for each field.
use Rattle.std.proofs.Common.{◌≡◌, ◌==◌, ℕ, zero, suc, ◌+◌, ◌<◌, ◌≤◌, List, [], ◌∷◌, length, get_or, take}
use Rattle.std.proofs.Common.{cond, refl, sym, ap, subst, ◌∙◌, arith, add-one, length-append}
use Rattle.std.specs.List.{All}
use Rattle.std.proofs.lemmas.Bool.{ne_eqb}
use Rattle.std.proofs.lemmas.List.{take-append-le, take-take, length-take-le}
use Rattle.std.proofs.lemmas.List.FromFn.{length-map-range_with_len, get_or-map-range_with_len}
use Rattle.column_values.specs.Types.{Fields, AreOfOneIndex, child_field}
use Rattle.compact_record.specs.Reading.{field_count, key_kinds}
use Rattle.tree_layout.specs.Entries.{Entry, IsEntryBelow, EntriesAscend}
use Rattle.tree_layout.specs.Division.{Level, pointer_with, pointer_to_page, pointers_to}
use Rattle.tree_layout.specs.Levels.{AreLevels, EachPage, level_at, width_at, page_entries, entries_at}
use Rattle.tree_layout.proofs.Offsets.{pairs_within, pairs_across, all_within}
use Rattle.tree_walk.proofs.DescentLaw.{same_kinds}

-- the pointers to a level are as many as its pages, in their order
pub length-pointers : (keys : ℕ) (pages : Level) (number : ℕ → ℕ)
    → length (pointers_to keys pages number) ≡ length pages
unfolding pointers_to
length-pointers keys pages number =
    length-map-range_with_len (λ k. pointer_to_page keys (get_or pages k []) (number k)) 0 (length pages)

pub get_or-pointers : (keys : ℕ) (pages : Level) (number : ℕ → ℕ) (k : ℕ) (d : Entry) → k < length pages
    → get_or (pointers_to keys pages number) k d ≡ pointer_to_page keys (get_or pages k []) (number k)
unfolding pointers_to
get_or-pointers keys pages number k d inside =
    get_or-map-range_with_len (λ k. pointer_to_page keys (get_or pages k []) (number k)) 0 (length pages) k k d inside
    (omega arith)

-- a pointer has the key that it was made of, and one part more
pub key_of_pointer : (keys : ℕ) (entry : Entry) (n : ℕ) → keys ≤ length entry
    → take keys (pointer_with keys entry n) ≡ take keys entry
key_of_pointer keys entry n enough =
    let size : length (take keys entry) ≡ keys = length-take-le keys entry enough in
    take-append-le keys (take keys entry) _ (omega arith) ∙ take-take keys keys entry (omega arith)

pub length-pointer : (keys : ℕ) (entry : Entry) (n : ℕ) → keys ≤ length entry
    → length (pointer_with keys entry n) ≡ keys + 1
length-pointer keys entry n enough =
    let size : length (take keys entry) ≡ keys = length-take-le keys entry enough in
    length-append (take keys entry) _ ∙ omega arith

below_same : (fields : Fields) (a b c d : Entry) → take fields.keys a ≡ take fields.keys c
    → take fields.keys b ≡ take fields.keys d → IsEntryBelow fields c d → IsEntryBelow fields a b
below_same fields a b c d first second below = rw (first, second) below

-- the order by the fields of the leaves is that by the fields of the node pointers
below_node : (leaf node : Fields) (a b : Entry) → key_kinds node ≡ key_kinds leaf → node.keys ≡ leaf.keys
    → IsEntryBelow leaf a b → IsEntryBelow node a b
below_node leaf node a b kinds keys below = rw (kinds, keys) below

-- a level whose entries have keys that rise
pub record IsRisingLevel (leaf : Fields) (entries : List Entry) : Type 0 where
  pub rise : EntriesAscend leaf entries
  pub keys : All (λ (entry : Entry). leaf.keys ≤ length entry) entries

-- the fields of the records of a level
abbrev pub fields_at : Fields → Fields → ℕ → Fields
fields_at leaf node l = cond (l == 0) leaf node

-- the fields of the levels above the leaves
pub fields_up : (leaf node : Fields) (l : ℕ) → fields_at leaf node (suc l) ≡ node
fields_up leaf node l = rw (ne_eqb (suc l) 0 (λ same. omega arith)) refl

pub length-node : (leaf node : Fields) → AreOfOneIndex leaf node → field_count node ≡ leaf.keys + 1
length-node leaf node one =
    let size : length (take leaf.keys leaf.fields) ≡ leaf.keys = length-take-le leaf.keys leaf.fields one.few in
    ap length one.pointers ∙ length-append (take leaf.keys leaf.fields) (child_field ∷ []) ∙ omega arith

module _ (leaf node : Fields) (numbers : ℕ → ℕ → ℕ) (levels : List Level) (one : AreOfOneIndex leaf node)
    (tree : AreLevels leaf node numbers levels) where
  pub above : (l : ℕ) → suc l < length levels
      → entries_at levels (suc l) ≡ pointers_to node.keys (level_at levels l) (numbers l)
  above l inside = rw add-one at (tree.pointers l (omega arith))

  pub count_above : (l : ℕ) → suc l < length levels → length (entries_at levels (suc l)) ≡ width_at levels l
  count_above l inside = ap length (above l inside) ∙ length-pointers node.keys (level_at levels l) (numbers l)

  pub entry_above : (l k : ℕ) (d : Entry) → suc l < length levels → k < width_at levels l
      → get_or (entries_at levels (suc l)) k d ≡ pointer_to_page node.keys (page_entries levels l k) (numbers l k)
  entry_above l k d inside within =
      ap (λ entries. get_or entries k d) (above l inside)
      ∙ get_or-pointers node.keys (level_at levels l) (numbers l) k d within

  pub first_keys : (l k : ℕ) → suc l < length levels → k < width_at levels l
      → All (λ (entry : Entry). leaf.keys ≤ length entry) (entries_at levels l)
      → leaf.keys ≤ length (get_or (page_entries levels l k) 0 [])
  first_keys l k inside within keys =
      let filled = tree.filled (omega arith) l k (omega arith) within in
      all_within (λ (entry : Entry). leaf.keys ≤ length entry) (level_at levels l) k keys within 0 [] filled

  pub key_above : (l k : ℕ) (d : Entry) → suc l < length levels → k < width_at levels l
      → All (λ (entry : Entry). leaf.keys ≤ length entry) (entries_at levels l)
      → take leaf.keys (get_or (entries_at levels (suc l)) k d)
      ≡ take leaf.keys (get_or (page_entries levels l k) 0 [])
  key_above l k d inside within keys =
      let first = get_or (page_entries levels l k) 0 [] in
      let same : pointer_with node.keys first (numbers l k) ≡ pointer_with leaf.keys first (numbers l k) =
      ap (λ n. pointer_with n first (numbers l k)) one.keys in
      ap (take leaf.keys) (entry_above l k d inside within ∙ same)
      ∙ key_of_pointer leaf.keys first (numbers l k) (first_keys l k inside within keys)

  rises_above : (l : ℕ) → suc l < length levels → IsRisingLevel leaf (entries_at levels l)
      → IsRisingLevel leaf (entries_at levels (suc l))
  rises_above l inside below = record {
    rise = λ i j d before within.
        let count = count_above l inside in
        let filled = tree.filled (omega arith) l in
        below_same leaf (get_or (entries_at levels (suc l)) i d) (get_or (entries_at levels (suc l)) j d)
        (get_or (page_entries levels l i) 0 []) (get_or (page_entries levels l j) 0 [])
        (key_above l i d inside (omega arith) below.keys) (key_above l j d inside (omega arith) below.keys)
        (pairs_across (IsEntryBelow leaf) (level_at levels l) below.rise i j 0 0 [] before (omega arith)
        (filled i (omega arith) (omega arith)) (filled j (omega arith) (omega arith)));
    keys = λ k d within.
        let count = count_above l inside in
        let entry = entry_above l k d inside (omega arith) in
        let first = get_or (page_entries levels l k) 0 [] in
        let enough : leaf.keys ≤ length first = first_keys l k inside (omega arith) below.keys in
        let size = length-pointer node.keys first (numbers l k) (let e = one.keys in omega arith) in
        let same = ap length entry in
        let e = one.keys in
        omega arith;
  }

  pub level_rises : (l : ℕ) → l < length levels → IsRisingLevel leaf (entries_at levels l)
  level_rises zero inside = record {
    rise = tree.rise;
    keys = λ k d within. let size = tree.parts k d within in let few = one.few in omega arith;
  }
  level_rises (suc l) inside = rises_above l inside (level_rises l (omega arith))

  -- each entry has a part for each field
  pub parts_at : (l : ℕ) → l < length levels
      → All (λ (entry : Entry). length entry ≡ field_count (fields_at leaf node l)) (entries_at levels l)
  parts_at zero inside = tree.parts
  parts_at (suc l) inside = λ k d within.
      let up = fields_up leaf node l in
      let count = count_above l inside in
      let entry = entry_above l k d inside (omega arith) in
      let first = get_or (page_entries levels l k) 0 [] in
      let keys = (level_rises l (omega arith)).keys in
      let enough : leaf.keys ≤ length first = first_keys l k inside (omega arith) keys in
      let size = length-pointer node.keys first (numbers l k) (let e = one.keys in omega arith) in
      let same = ap length entry in
      let e = one.keys in
      let whole = length-node leaf node one in
      same ∙ size ∙ ap (λ n. n + 1) e ∙ sym whole ∙ sym (ap field_count up)

  -- the keys rise on each page
  pub page_rises : EachPage levels (λ l k. EntriesAscend (fields_at leaf node l) (page_entries levels l k))
  page_rises zero k inside within =
      pairs_within (IsEntryBelow leaf) (level_at levels 0) tree.rise k within
  page_rises (suc l) k inside within = λ i j d before last.
      subst (λ fields. IsEntryBelow fields (get_or (page_entries levels (suc l) k) i d)
      (get_or (page_entries levels (suc l) k) j d)) (sym (fields_up leaf node l))
      (below_node leaf node (get_or (page_entries levels (suc l) k) i d) (get_or (page_entries levels (suc l) k) j d)
      (same_kinds leaf node one) one.keys
      (pairs_within (IsEntryBelow leaf) (level_at levels (suc l)) (level_rises (suc l) inside).rise k within i j d
      before last))
