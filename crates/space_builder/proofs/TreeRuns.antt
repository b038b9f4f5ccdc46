-- A tree is put level by level: the pointers to the pages of a level are the entries of the next one.
use Rattle.std.proofs.Common.{◌≡◌, ℕ, zero, suc, ◌+◌, ◌-◌, ◌*◌, ◌^◌, ◌<◌, ◌≤◌, cond, false, List, [], ◌∷◌, ◌++◌}
use Rattle.std.proofs.Common.{length, map, get_or, slice_index, Contains, append_assoc, Ok, Err}
use Rattle.std.proofs.Common.{sym, ap, ◌∙◌, subst, arith, inl, inr}
use Rattle.std.specs.List.{All, flat_map, range_with_len}
use Rattle.std.proofs.lemmas.Bool.{ne_eqb, le-leb}
use Rattle.std.proofs.lemmas.Simd.{map-map}
use Rattle.std.proofs.lemmas.List.{append-nil, map-append, length-map}
use Rattle.std.proofs.lemmas.List.{get_or-map}
use Rattle.std.proofs.lemmas.List.Elements.{All-from_get_or, Contains-append_cases}
use Rattle.page_source.specs.Pages.{be_bytes}
use Rattle.page_source.specs.declared.objects.PageStore.{Ghosts as StoreOf}
use Rattle.page_source.proofs.Members.{contains_none}
use Rattle.column_values.specs.Types.{Fields}
use Rattle.compact_record.specs.declared.parts.Part.TheVariants.{Bytes}
use Rattle.compact_record.specs.Writing.{FitsField, FitFields, size_of_record}
use Rattle.page_packer.specs.Packing.{slots_for}
use Rattle.page_packer.specs.Entries.{Entry, entry_at, pointer_to}
use Rattle.space_layout.specs.NumberedPages.{Numbered}
use Rattle.tree_layout.specs.Division.{Level, divided, tree_levels, level_counts, pointer_with, pointer_to_page}
use Rattle.tree_layout.specs.Division.{pointers_to, FitsAlone, HasSmallPointers}
use Rattle.tree_layout.specs.DivisionLaws.{AreTheLevels}
use Rattle.tree_layout.specs.Levels.{level_at, width_at}
use Rattle.tree_layout.specs.Steps.{AreOnly}
use Rattle.tree_layout.proofs.Zips.{zip_length}
use Rattle.tree_layout.proofs.Held.{length-counts, count_at}
use Rattle.space_builder.specs.declared.built.PutStop.{PutStop}
use Rattle.space_builder.specs.declared.built.PutStop.TheVariants as stops
use Rattle.space_builder.specs.declared.entries.Pointer.{Pointer}
use Rattle.space_builder.specs.declared.tree_plan.TreePlan.{TreePlan}
use Rattle.space_builder.specs.layout.TreePage.{tree_page, pages_of_level}
use Rattle.space_builder.specs.build.Puts.{numbers_of, PutsPages}
use Rattle.space_builder.specs.calls.PutLaws.{PutLaws}
use Rattle.space_builder.specs.calls.Pointing.{pointing, pointer_at, PointInto}
use Rattle.space_builder.specs.calls.TreePlan.{fields_in, width_in, number_in, first_numbers, HasPage, spot_among}
use Rattle.space_builder.specs.calls.TreePlan.{spot_in, packed_at, laid_pages, pointer_in, tree_pages}
use Rattle.space_builder.specs.calls.TreePlan.{BeginAt, CanPutLevel, CanPutTree}
use Rattle.space_builder.proofs.layout.Laid.{contains_flat, contains_mapped, contains_image}
use Rattle.space_builder.proofs.Firsts.{stand_at, no_pointer, AreFirsts, AreFilled, leaf_firsts, upper_firsts}
use Rattle.space_builder.proofs.Puts.{ArePut, HaveOtherNumbers, AreAmong, none_put, both_put, puts_all}
use Rattle.space_builder.proofs.Puts.{memory_behind, stopped_behind}
use Rattle.space_builder.proofs.LaidPages.{map_same, number_found, number_high, one_page}
use Rattle.row_layout.proofs.Ranges.{all_map}

-- one list more over a range
pub flat_more : {A : Type 0} (f : ℕ → List A) (from count : ℕ)
    → flat_map f (range_with_len from (count + 1)) ≡ flat_map f (range_with_len from count) ++ f (from + count)
flat_more f from zero = let here : from ≡ from + 0 = omega arith in append-nil (f from) ∙ ap f here
flat_more f from (suc count) =
    let more : suc count + 1 ≡ suc (count + 1) = omega arith in
    let last : from + 1 + count ≡ from + suc count = omega arith in
    ap (λ n. flat_map f (range_with_len from n)) more
    ∙ ap (λ xs. f from ++ xs) (flat_more f (from + 1) count)
    ∙ sym (append_assoc (f from) (flat_map f (range_with_len (from + 1) count)) (f (from + 1 + count)))
    ∙ ap (λ n. (f from ++ flat_map f (range_with_len (from + 1) count)) ++ f n) last

-- n is the number of a page below level l
pub record IsNumberBelow (plan : TreePlan) (levels : List Level) (l n : ℕ) : Type 0 where
  pub m : ℕ
  pub k : ℕ
  pub low : m < l
  pub within : k < width_at levels m
  pub number : number_in plan m k ≡ n

-- these are the pointers to the pages of level l, above which the tree goes on
pub record ArePointers (plan : TreePlan) (leaves : List Entry) (l : ℕ) (firsts : List ℕ) (pointers : List Pointer)
    : Type 0 where
  pub inside : l + 1 < length plan.counts.now
  pub are : AreFirsts plan.node.now.keys leaves
      (level_at (tree_levels plan.leaf.now plan.node.now (number_in plan) leaves) l) firsts
  pub same : pointers ≡ map (pointer_in plan l firsts) (range_with_len 0 (length firsts))

-- the levels below level l were put, and these are the leaf entries with whose keys the pages of the highest of them
-- begin
pub record TreeStands {T : Type 0} (g : StoreOf T) (plan : TreePlan) (leaves : List Entry) (old now : T)
    (firsts : List ℕ) (l : ℕ) : Type 0 where
  pub put : ArePut g old now (flat_map (pages_of_level plan.leaf.now plan.node.now (number_in plan)
      (tree_levels plan.leaf.now plan.node.now (number_in plan) leaves) plan.index) (range_with_len 0 l))
  pub begin : 1 < length plan.counts.now → AreFirsts plan.node.now.keys leaves
      (level_at (tree_levels plan.leaf.now plan.node.now (number_in plan) leaves) (l - 1)) firsts

-- the pointers to the highest of these levels
pub pointers_above : {T : Type 0} (g : StoreOf T) (plan : TreePlan) (leaves : List Entry) (old now : T)
    (firsts given : List ℕ) (pointers : List Pointer) (level : ℕ) → 1 ≤ level → level < length plan.counts.now
    → TreeStands g plan leaves old now firsts level → given ≡ firsts
    → pointers ≡ map (pointer_in plan (level - 1) given) (range_with_len 0 (length given))
    → ArePointers plan leaves (level - 1) firsts pointers
pointers_above g plan leaves old now firsts given pointers level low inside stands same made = record {
  inside = omega arith;
  are = stands.begin (omega arith);
  same = made ∙ ap (λ firsts. map (pointer_in plan (level - 1) firsts) (range_with_len 0 (length firsts))) same;
}

-- the entries of these pointers
pub entries_above : (leaves : List Entry) (keys node_keys : ℕ) (given pointers : List Pointer) (above : List Entry)
    → above ≡ map (pointing keys leaves) given → keys ≡ node_keys → given ≡ pointers
    → above ≡ map (pointing node_keys leaves) pointers
entries_above leaves keys node_keys given pointers above made same_keys same =
    made ∙ ap (λ n. map (pointing n leaves) given) same_keys ∙ ap (map (pointing node_keys leaves)) same

module _ (laws : PutLaws) (plan : TreePlan) (leaves : List Entry) (can : CanPutTree plan leaves) where
  abbrev leaf : Fields
  leaf = plan.leaf.now

  abbrev node : Fields
  node = plan.node.now

  abbrev pub levels : List Level
  levels = tree_levels leaf node (number_in plan) leaves

  the_levels : AreTheLevels leaf node (number_in plan) leaves levels
  the_levels = laws.levels leaf node (number_in plan) leaves can.divide

  only : AreOnly leaf node (number_in plan) leaves
  only = laws.stand leaf node (number_in plan) leaves can.divide

  counted : plan.counts.now ≡ level_counts levels
  counted = can.counted ∙ laws.counts leaf node (λ l k. 0) (number_in plan) leaves

  pub height_is : length plan.counts.now ≡ length levels
  height_is = ap length counted ∙ length-counts levels

  pub some_level : 0 < length plan.counts.now
  some_level = let some = the_levels.are_levels.some in let same = height_is in omega arith

  pub some_levels : 0 < length levels
  some_levels = the_levels.are_levels.some

  pub width_is : (l : ℕ) → l < length levels → width_in plan l ≡ width_at levels l
  width_is l inside = ap (λ counts. slice_index counts l) counted ∙ count_at levels l inside

  filled_at : (l : ℕ) → 1 < length levels → l < length levels → AreFilled (level_at levels l)
  filled_at l many inside k within = the_levels.are_levels.filled many l k inside within

  keys_within : (i : ℕ) → i < length leaves → node.keys ≤ length (entry_at leaves i)
  keys_within i inside =
      let size = zip_length FitsField leaf.fields (entry_at leaves i) (can.divide.fit i [] inside) in
      let few = can.divide.one_index.few in
      let same = can.divide.one_index.keys in
      omega arith

  pub first_leaves : (starts : List ℕ) → 1 < length plan.counts.now
      → BeginAt leaves (divided leaf leaves) starts → AreFirsts node.keys leaves (level_at levels 0) starts
  first_leaves starts many begins =
      let same = height_is in
      leaf_firsts node.keys leaves (level_at levels 0) starts (filled_at 0 (omega arith) (omega arith))
      (subst (λ pages. BeginAt leaves pages starts) (sym only.leaves) begins)

  pub firsts_count : (l : ℕ) → l < length plan.counts.now → (firsts : List ℕ)
      → AreFirsts node.keys leaves (level_at levels l) firsts → length firsts ≡ width_in plan l
  firsts_count l inside firsts are = let height = height_is in are.count ∙ sym (width_is l (omega arith))

  -- the pointers to level l
  module _ (l : ℕ) (firsts : List ℕ) (pointers : List Pointer) (above : ArePointers plan leaves l firsts pointers) where
    inside : l + 1 < length plan.counts.now
    inside = above.inside

    are : AreFirsts node.keys leaves (level_at levels l) firsts
    are = above.are

    same : pointers ≡ map (pointer_in plan l firsts) (range_with_len 0 (length firsts))
    same = above.same

    abbrev entries : List Entry
    entries = map (pointing node.keys leaves) pointers

    lower : l < length levels
    lower = let height = height_is in let below = inside in omega arith

    upper : l + 1 < length levels
    upper = let height = height_is in let below = inside in omega arith

    all_firsts : length firsts ≡ width_in plan l
    all_firsts = let below = inside in firsts_count l (omega arith) firsts are

    pub into_leaves : PointInto leaves pointers
    into_leaves =
        let count = are.count in
        subst (PointInto leaves) (sym same)
        (all_map (λ (pointer : Pointer). pointer.first < length leaves) (pointer_in plan l firsts) (length firsts)
        no_pointer
        (λ k within. are.below k (omega arith)))

    small_pages : All (λ (pointer : Pointer). pointer.page < 2 ^ 32) pointers
    small_pages =
        let count = all_firsts in
        let below = inside in
        let fits = can.is_plan.shape.fits in
        subst (All (λ (pointer : Pointer). pointer.page < 2 ^ 32)) (sym same)
        (all_map (λ (pointer : Pointer). pointer.page < 2 ^ 32) (pointer_in plan l firsts) (length firsts) no_pointer
        (λ k within.
        let high = number_high laws plan can.is_plan l k record { inside = omega arith; within = omega arith } in
        omega arith))

    entries_are : entries ≡ pointers_to node.keys (level_at levels l) (number_in plan l)
    unfolding pointers_to
    entries_are =
        let count = are.count in
        let pages = level_at levels l in
        ap (map (pointing node.keys leaves)) same
        ∙ map-map (pointing node.keys leaves) (pointer_in plan l firsts) (range_with_len 0 (length firsts))
        ∙ ap (λ n. map (λ k. pointing node.keys leaves (pointer_in plan l firsts k)) (range_with_len 0 n)) count
        ∙ map_same (λ k. pointing node.keys leaves (pointer_in plan l firsts k))
        (λ k. pointer_to_page node.keys (get_or pages k []) (number_in plan l k)) 0 (length pages)
        (λ k low within.
        ap (λ (key : Entry). key ++ Bytes (be_bytes 4 (number_in plan l k)) false ∷ [])
        (sym (are.key k (omega arith))))

    pages_are : level_at levels (l + 1) ≡ divided node entries
    pages_are =
        let here : 0 + l ≡ l = omega arith in
        stand_at node (number_in plan) levels 0 l only.stand upper
        ∙ ap (λ n. divided node (pointers_to node.keys (level_at levels l) (number_in plan n))) here
        ∙ ap (divided node) (sym entries_are)

    fields_are : (m : ℕ) → 0 < m → fields_in plan m ≡ node
    fields_are m above = ap (λ b. cond b leaf node) (ne_eqb m 0 (λ e. omega arith))

    pointer_fits : (pointer : Pointer) → pointer.first < length leaves → pointer.page < 2 ^ 32
        → FitFields node (pointing node.keys leaves pointer)
    unfolding pointer_to
    pointer_fits pointer below small =
        let first = entry_at leaves pointer.first in
        subst (λ keys. FitFields node (pointer_with keys first pointer.page)) (sym can.divide.one_index.keys)
        ((laws.point leaf node first pointer.page can.divide.one_index small).0
        (can.divide.fit pointer.first [] below)).fit

    pointer_alone : (pointer : Pointer) → pointer.first < length leaves
        → FitsAlone node (pointing node.keys leaves pointer)
    pointer_alone pointer below =
        let small : HasSmallPointers node (entry_at leaves pointer.first) =
        can.divide.pointers pointer.first [] below in
        let size = small pointer.page in
        le-leb (120 + size_of_record node (pointing node.keys leaves pointer) + 2 * slots_for 1) 16376 (omega arith)

    all_pointing : (P : Entry → Type 0)
        → ((pointer : Pointer) → pointer.first < length leaves → pointer.page < 2 ^ 32
        → P (pointing node.keys leaves pointer)) → All P entries
    all_pointing P each =
        let size = length-map pointers (pointing node.keys leaves) in
        All-from_get_or P entries []
        (λ i below.
        subst P (sym (get_or-map (pointing node.keys leaves) pointers i no_pointer [] (omega arith)))
        (each (pointer_at pointers i) (into_leaves i no_pointer (omega arith))
        (small_pages i no_pointer (omega arith))))

    -- they may be put as the next level
    pub upper_level : (m : ℕ) → m ≡ l + 1 → CanPutLevel plan m entries
    upper_level m is =
        let fields = sym (fields_are m (omega arith)) in
        let below = inside in
        let height = height_is in record {
          is_plan = can.is_plan;
          inside = omega arith;
          fit = subst (λ fields. All (FitFields fields) entries) fields (all_pointing (FitFields node) pointer_fits);
          alone = subst (λ fields. All (FitsAlone fields) entries) fields
              (all_pointing (FitsAlone node) (λ pointer below small. pointer_alone pointer below));
          width = ap (λ fields. length (divided fields entries)) (sym fields) ∙ ap length (sym pages_are)
              ∙ sym (ap (width_in plan) is ∙ width_is (l + 1) upper);
        }

    pub level_is : (m : ℕ) → m ≡ l + 1 → divided (fields_in plan m) entries ≡ level_at levels m
    level_is m is =
        ap (λ fields. divided fields entries) (fields_are m (omega arith)) ∙ sym pages_are
        ∙ ap (level_at levels) (sym is)

    pub next_firsts : (m : ℕ) (starts more : List ℕ) → m ≡ l + 1
        → BeginAt entries (divided (fields_in plan m) entries) starts
        → more ≡ map (λ s. (pointer_at pointers s).first) starts
        → AreFirsts node.keys leaves (level_at levels m) more
    next_firsts m starts more is begins firsts_are =
        let height = height_is in
        let below = inside in
        upper_firsts node.keys leaves pointers (level_at levels m) starts more keys_within
        (filled_at m (omega arith) (omega arith)) into_leaves
        (subst (λ pages. BeginAt entries pages starts) (level_is m is) begins) firsts_are

    pub starts_point : (m : ℕ) (starts : List ℕ) → m ≡ l + 1
        → BeginAt entries (divided (fields_in plan m) entries) starts → All (λ s. s < length pointers) starts
    starts_point m starts is begins =
        let height = height_is in
        let low = inside in
        let size = length-map pointers (pointing node.keys leaves) in
        let begin = subst (λ pages. BeginAt entries pages starts) (level_is m is) begins in
        let count = begin.count in
        All-from_get_or (λ s. s < length pointers) starts 0
        (λ i below.
        let here = (begin.each i (omega arith)
        (filled_at m (omega arith) (omega arith) i (omega arith))).0 in
        omega arith)

  -- the pages of a level
  pub leaves_are : divided (fields_in plan 0) leaves ≡ level_at levels 0
  leaves_are = sym only.leaves

  abbrev pub pages_at : ℕ → List Numbered
  pages_at = pages_of_level leaf node (number_in plan) levels plan.index

  pub laid_are : (l : ℕ) → l < length levels → laid_pages plan l (level_at levels l) ≡ pages_at l
  unfolding laid_pages spot_in
  laid_are l inside =
      let width = width_is l inside in
      let pages = level_at levels l in
      let at : ℕ → ℕ → ℕ → Numbered =
      λ w h k. (number_in plan l k, packed_at plan l k (get_or pages k []) (spot_among plan w h l k)) in
      ap (λ w. map (at w (length plan.counts.now)) (range_with_len 0 (length pages))) width
      ∙ ap (λ h. map (at (width_at levels l) h) (range_with_len 0 (length pages))) height_is
      ∙ map_same (at (width_at levels l) (length levels))
      (λ k. (number_in plan l k, tree_page leaf node (number_in plan) levels plan.index l k)) 0 (length pages)
      (λ k low within.
      ap (λ (page : List ℕ). (number_in plan l k, page))
      (sym (laws.packed leaf node (number_in plan) levels plan.index l k)))

  -- the pages below level l, and all pages
  abbrev pub pages_below : ℕ → List Numbered
  pages_below l = flat_map pages_at (range_with_len 0 l)

  pub below_more : (l : ℕ) → pages_below (l + 1) ≡ pages_below l ++ pages_at l
  below_more l =
      let here : 0 + l ≡ l = omega arith in
      flat_more pages_at 0 l ∙ ap (λ n. pages_below l ++ pages_at n) here

  numbers_at_level : (l : ℕ) → numbers_of (pages_at l) ≡ first_numbers plan l (width_at levels l)
  numbers_at_level l =
      map-map (λ (entry : Numbered). entry.0)
      (λ k. (number_in plan l k, tree_page leaf node (number_in plan) levels plan.index l k))
      (range_with_len 0 (width_at levels l))

  found_below : (l n : ℕ) → Contains (numbers_of (pages_below l)) n → IsNumberBelow plan levels l n
  found_below zero n has = absurd (contains_none n has)
  found_below (suc l) n has =
      let more : suc l ≡ l + 1 = omega arith in
      let parts : numbers_of (pages_below (suc l)) ≡ numbers_of (pages_below l) ++ numbers_of (pages_at l) =
      ap (λ m. numbers_of (pages_below m)) more ∙ ap numbers_of (below_more l)
      ∙ map-append (λ (entry : Numbered). entry.0) (pages_below l) (pages_at l) in
      elim (Contains-append_cases (numbers_of (pages_below l)) (numbers_of (pages_at l)) n
      (subst (λ numbers. Contains numbers n) parts has)) [
        | inl under ↦
            let found = found_below l n under in
            let low = found.low in
            record { m = found.m; k = found.k; low = omega arith; within = found.within; number = found.number }
        | inr here ↦
            let found = number_found plan l (width_at levels l) n
            (subst (λ numbers. Contains numbers n) (numbers_at_level l) here) in
            record { m = l; k = found.k; low = omega arith; within = found.within; number = found.number }
      ]

  has_page : (l k : ℕ) → l < length levels → k < width_at levels l → HasPage plan l k
  has_page l k inside within =
      let height = height_is in
      let width = width_is l inside in
      record { inside = omega arith; within = omega arith }

  levels_differ : (l : ℕ) → l < length levels → HaveOtherNumbers (pages_below l) (pages_at l)
  levels_differ l inside n has other =
      let under = found_below l n has in
      let here = number_found plan l (width_at levels l) n
      (subst (λ numbers. Contains numbers n) (numbers_at_level l) other) in
      let low = under.low in
      let same = one_page laws plan can.is_plan under.m under.k l here.k
      (has_page under.m under.k (omega arith) under.within) (has_page l here.k inside here.within)
      (under.number ∙ sym here.number) in
      let level = same.0 in
      absurd (omega arith)

  -- all of them are numbers of the tree
  in_tree : (l k : ℕ) → l < length levels → k < width_at levels l
      → Contains (numbers_of (tree_pages plan leaves)) (number_in plan l k)
  in_tree l k inside within =
      let page : Numbered = (number_in plan l k, tree_page leaf node (number_in plan) levels plan.index l k) in
      contains_image (λ (entry : Numbered). entry.0) (tree_pages plan leaves) page
      (contains_flat pages_at (length levels) l page inside
      (contains_mapped (λ k. (number_in plan l k, tree_page leaf node (number_in plan) levels plan.index l k))
      (width_at levels l) k within))

  below_in_tree : (l : ℕ) → l ≤ length levels
      → AreAmong (numbers_of (pages_below l)) (numbers_of (tree_pages plan leaves))
  below_in_tree l few n has =
      let found = found_below l n has in
      let low = found.low in
      subst (Contains (numbers_of (tree_pages plan leaves))) found.number
      (in_tree found.m found.k (omega arith) found.within)

  level_in_tree : (l : ℕ) → l < length levels
      → AreAmong (numbers_of (pages_at l)) (numbers_of (tree_pages plan leaves))
  level_in_tree l inside n has =
      let found = number_found plan l (width_at levels l) n
      (subst (λ numbers. Contains numbers n) (numbers_at_level l) has) in
      subst (Contains (numbers_of (tree_pages plan leaves))) found.number (in_tree l found.k inside found.within)

  -- what is put
  module _ {T : Type 0} (g : StoreOf T) (old : T) where
    pub level_behind : (now new : T) (l : ℕ) (pages : Level) → l < length levels → pages ≡ level_at levels l
        → ArePut g old now (pages_below l) → ArePut g now new (laid_pages plan l pages)
        → ArePut g old new (pages_below (l + 1))
    level_behind now new l pages inside are below put =
        subst (ArePut g old new) (sym (below_more l))
        (both_put g old now new (pages_below l) (pages_at l) (levels_differ l inside) below
        (subst (ArePut g now new) (ap (laid_pages plan l) are ∙ laid_are l inside) put))

    pub level_stopped : {A B : Type 0} (now new : T) (l : ℕ) (pages : Level) (stop : PutStop) → l < length levels
        → pages ≡ level_at levels l → ArePut g old now (pages_below l)
        → PutsPages {A = A} g now new (laid_pages plan l pages) (Err stop)
        → PutsPages {A = B} g old new (tree_pages plan leaves) (Err stop)
    level_stopped {A = A} now new l pages stop inside are below puts =
        stopped_behind g old now new (pages_below l) (pages_at l) (tree_pages plan leaves) stop
        (below_in_tree l (omega arith)) (level_in_tree l inside) below
        (subst (λ pages. PutsPages {A = A} g now new pages (Err stop))
        (ap (laid_pages plan l) are ∙ laid_are l inside) puts)

    pub memory_below : {A : Type 0} (now : T) (l : ℕ) → l ≤ length levels → ArePut g old now (pages_below l)
        → PutsPages {A = A} g old now (tree_pages plan leaves) (Err stops.Memory)
    memory_below now l few below =
        memory_behind g old now (pages_below l) (tree_pages plan leaves) (below_in_tree l few) below

    pub first_stands : (now : T) (starts : List ℕ)
        → ArePut g old now (laid_pages plan 0 (divided (fields_in plan 0) leaves))
        → BeginAt leaves (divided (fields_in plan 0) leaves) starts → TreeStands g plan leaves old now starts 1
    first_stands now starts put begins = record {
      put = level_behind old now 0 (divided (fields_in plan 0) leaves) the_levels.are_levels.some leaves_are
          (none_put g old) put;
      begin = λ many. first_leaves starts many begins;
    }

    pub next_stands : (l : ℕ) (firsts : List ℕ) (pointers : List Pointer)
        (above : ArePointers plan leaves l firsts pointers) (m : ℕ) → m ≡ l + 1 → (now new : T) (starts more : List ℕ)
        → ArePut g old now (pages_below m)
        → ArePut g now new
        (laid_pages plan m (divided (fields_in plan m) (map (pointing node.keys leaves) pointers)))
        → BeginAt (map (pointing node.keys leaves) pointers)
        (divided (fields_in plan m) (map (pointing node.keys leaves) pointers)) starts
        → more ≡ map (λ s. (pointer_at pointers s).first) starts → TreeStands g plan leaves old new more (m + 1)
    next_stands l firsts pointers above m is now new starts more below put begins firsts_are =
        let height = height_is in
        let inside = above.inside in
        let back : m ≡ m + 1 - 1 = omega arith in record {
          put = level_behind now new m (divided (fields_in plan m) (map (pointing node.keys leaves) pointers))
              (omega arith) (level_is l firsts pointers above m is) below put;
          begin = λ many. subst (λ n. AreFirsts node.keys leaves (level_at levels n) more) back
              (next_firsts l firsts pointers above m starts more is begins firsts_are);
        }

    -- all of them
    pub tree_put : (now : T) (firsts : List ℕ) (l : ℕ) → l ≡ length plan.counts.now
        → TreeStands g plan leaves old now firsts l → PutsPages g old now (tree_pages plan leaves) (Ok (tt {0}))
    tree_put now firsts l is stands =
        puts_all g old now (tree_pages plan leaves) (tt {0})
        (subst (λ n. ArePut g old now (pages_below n)) (is ∙ height_is) stands.put)
