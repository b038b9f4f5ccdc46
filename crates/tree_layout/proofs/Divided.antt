-- Entries that are divided into pages, and these again into the levels of a tree.
use Rattle.std.proofs.Common.{◌≡◌, ℕ, zero, suc, ◌+◌, ◌-◌, ◌*◌, ◌^◌, ◌<◌, ◌≤◌, List, [], ◌∷◌, ◌++◌, length, get_or}
use Rattle.std.proofs.Common.{cond, true, false, refl, sym, ap, ◌∙◌, subst, arith, append_assoc, length-append}
use Rattle.std.proofs.Common.{inl, inr, add-one}
use Rattle.std.specs.List.{All}
use Rattle.std.proofs.lemmas.Bool.{le-leb, true≢false}
use Rattle.std.proofs.lemmas.List.Elements.{All-nil, All-cons, All-head, All-tail, All-push}
use Rattle.std.proofs.lemmas.List.Sums.{sum_by_push}
use Rattle.std.proofs.lemmas.Bool.Decides.{leb_tells}
use Rattle.std.proofs.Math.Nat.{pow-succ'}
use Rattle.column_values.specs.Types.{Fields}
use Rattle.compact_record.specs.Reading.{field_count}
use Rattle.compact_record.specs.Writing.{size_of_record, FitFields}
use Rattle.tree_layout.proofs.Fits.{page_fit, page_empty, parts_of_fit}
use Rattle.tree_layout.specs.Entries.{Entry, EntriesAscend}
use Rattle.tree_layout.specs.Division.{Level, has_room_for, divided_from, divided}
use Rattle.page_packer.specs.Packing.{slots_for, sizes_fit}
use Rattle.tree_layout.specs.Division.{pointer_with, pointers_to, levels_from, tree_levels}
use Rattle.tree_layout.specs.Division.{FitsPage, FitsAlone, HasSmallPointers}
use Rattle.tree_layout.specs.Levels.{AreLevels, EachPage, level_at, width_at, page_entries, entries_of, entries_at}
use Rattle.tree_layout.specs.Levels.{top_of}
use Rattle.tree_layout.specs.Division.{CanDivide}
use Rattle.tree_layout.specs.DivisionLaws.{AreTheLevels, DivisionGivesLevels}
use Rattle.tree_layout.proofs.Offsets.{all_within}
use Rattle.tree_layout.proofs.Rise.{length-pointers, get_or-pointers, key_of_pointer, length-pointer, page_rises}
use Rattle.tree_layout.proofs.Rise.{fields_at, fields_up}

-- one page

-- all entries stand on the pages, in order
divided_all : (fields : Fields) (page entries : List Entry)
    → entries_of (divided_from fields page entries) ≡ page ++ entries
divided_all fields page [] = refl
divided_all fields page (entry ∷ entries) =
    elim (has_room_for fields page entry) as (λ room. entries_of (cond room
    (divided_from fields (page ++ entry ∷ []) entries) (page ∷ divided_from fields (entry ∷ []) entries))
    ≡ page ++ entry ∷ entries) [
      | true ↦ divided_all fields (page ++ entry ∷ []) entries ∙ append_assoc page (entry ∷ []) entries
      | false ↦ ap (λ xs. page ++ xs) (divided_all fields (entry ∷ []) entries)
    ]

fits_single : (fields : Fields) (entry : Entry) → FitsAlone fields entry → FitsPage fields (entry ∷ [])
fits_single fields entry alone =
    let e : 0 + size_of_record fields entry ≡ size_of_record fields entry = omega arith in rw e alone

fits_push : (fields : Fields) (page : List Entry) (entry : Entry) → has_room_for fields page entry ≡ true
    → FitsPage fields (page ++ entry ∷ [])
fits_push fields page entry room =
    rw (length-append page (entry ∷ []), sum_by_push (size_of_record fields) page entry) room

-- each page holds what fits it
divided_fit : (fields : Fields) (page entries : List Entry) → FitsPage fields page → All (FitsAlone fields) entries
    → All (FitsPage fields) (divided_from fields page entries)
divided_fit fields page [] fits alone = All-cons (FitsPage fields) page [] fits (All-nil (FitsPage fields))
divided_fit fields page (entry ∷ entries) fits alone =
    let rest = All-tail (FitsAlone fields) entry entries alone in
    let single = fits_single fields entry (All-head (FitsAlone fields) entry entries alone) in
    elim (has_room_for fields page entry) as (λ room. has_room_for fields page entry ≡ room → All (FitsPage fields)
    (cond room (divided_from fields (page ++ entry ∷ []) entries) (page ∷ divided_from fields (entry ∷ []) entries))) [
      | true ↦ λ room. divided_fit fields (page ++ entry ∷ []) entries (fits_push fields page entry room) rest
      | false ↦ λ room. All-cons (FitsPage fields) page (divided_from fields (entry ∷ []) entries) fits
          (divided_fit fields (entry ∷ []) entries single rest)
    ] refl

abbrev pub IsFilled : List Entry → Type 0
IsFilled page = 0 < length page

-- no page is empty
divided_filled : (fields : Fields) (page entries : List Entry) → IsFilled page
    → All IsFilled (divided_from fields page entries)
divided_filled fields page [] filled = All-cons IsFilled page [] filled (All-nil IsFilled)
divided_filled fields page (entry ∷ entries) filled =
    elim (has_room_for fields page entry) as (λ room. All IsFilled (cond room
    (divided_from fields (page ++ entry ∷ []) entries) (page ∷ divided_from fields (entry ∷ []) entries))) [
      | true ↦ divided_filled fields (page ++ entry ∷ []) entries
          (let size = length-append page (entry ∷ []) in omega arith)
      | false ↦ All-cons IsFilled page (divided_from fields (entry ∷ []) entries) filled
          (divided_filled fields (entry ∷ []) entries (omega arith))
    ]

pub divided_some : (fields : Fields) (page entries : List Entry) → 0 < length (divided_from fields page entries)
divided_some fields page [] = omega arith
divided_some fields page (entry ∷ entries) =
    elim (has_room_for fields page entry) as (λ room. 0 < length (cond room
    (divided_from fields (page ++ entry ∷ []) entries) (page ∷ divided_from fields (entry ∷ []) entries)))
    [ true ↦ divided_some fields (page ++ entry ∷ []) entries | false ↦ omega arith ]

-- an entry of which two fit one page
abbrev IsSmall : Fields → Entry → Type 0
IsSmall fields entry = size_of_record fields entry ≤ 8126

fits_from : (count total : ℕ) → 120 + total + 2 * slots_for count ≤ 16376 → sizes_fit count total ≡ true
fits_from count total most = le-leb (120 + total + 2 * slots_for count) 16376 most

small_alone : (fields : Fields) (entry : Entry) → IsSmall fields entry → FitsAlone fields entry
small_alone fields entry small = fits_from 1 (size_of_record fields entry) (omega arith)

two_fit : (fields : Fields) (first second : Entry) → IsSmall fields first → IsSmall fields second
    → has_room_for fields (first ∷ []) second ≡ true
two_fit fields first second one two =
    fits_from 2 (0 + size_of_record fields first + size_of_record fields second) (omega arith)

two_on_closed : (fields : Fields) (page : List Entry) (entry : Entry) → IsFilled page → All (IsSmall fields) page
    → IsSmall fields entry → has_room_for fields page entry ≡ false → 2 ≤ length page
two_on_closed fields [] entry filled all small none = absurd (omega arith)
two_on_closed fields (first ∷ []) entry filled all small none =
    absurd (true≢false (sym (two_fit fields first entry (All-head (IsSmall fields) first [] all) small) ∙ none))
two_on_closed fields (first ∷ second ∷ rest) entry filled all small none = omega arith

-- all pages but the last have two entries at least
divided_half : (fields : Fields) (page entries : List Entry) → IsFilled page → All (IsSmall fields) page
    → All (IsSmall fields) entries
    → 2 * length (divided_from fields page entries) ≤ length page + length entries + 1
divided_half fields page [] filled all small = omega arith
divided_half fields page (entry ∷ entries) filled all small =
    let head = All-head (IsSmall fields) entry entries small in
    let rest = All-tail (IsSmall fields) entry entries small in
    elim (has_room_for fields page entry) as (λ room. has_room_for fields page entry ≡ room → 2 * length (cond room
    (divided_from fields (page ++ entry ∷ []) entries) (page ∷ divided_from fields (entry ∷ []) entries))
    ≤ length page + length (entry ∷ entries) + 1) [
      | true ↦ λ room.
          let size = length-append page (entry ∷ []) in
          let half = divided_half fields (page ++ entry ∷ []) entries (omega arith)
          (All-push (IsSmall fields) page entry all head) rest in
          omega arith
      | false ↦ λ room.
          let two = two_on_closed fields page entry filled all head room in
          let half = divided_half fields (entry ∷ []) entries (omega arith)
          (All-cons (IsSmall fields) entry [] head (All-nil (IsSmall fields))) rest in
          omega arith
    ] refl

-- the first entry fits the first page
divided_start : (fields : Fields) (entry : Entry) (entries : List Entry) → FitsAlone fields entry
    → divided fields (entry ∷ entries) ≡ divided_from fields (entry ∷ []) entries
unfolding divided
divided_start fields entry entries alone =
    let e : 0 + size_of_record fields entry ≡ size_of_record fields entry = omega arith in
    let room : has_room_for fields [] entry ≡ true = rw e alone in
    ap (λ room. cond room (divided_from fields ([] ++ entry ∷ []) entries)
    ([] ∷ divided_from fields (entry ∷ []) entries)) room

-- what is divided

pub entries_divided : (fields : Fields) (entries : List Entry) → entries_of (divided fields entries) ≡ entries
unfolding divided
entries_divided fields entries = divided_all fields [] entries

pub fit_divided : (fields : Fields) (entries : List Entry) → All (FitsAlone fields) entries
    → All (FitsPage fields) (divided fields entries)
unfolding divided
fit_divided fields entries alone = divided_fit fields [] entries refl alone

pub some_divided : (fields : Fields) (entries : List Entry) → 0 < length (divided fields entries)
unfolding divided
some_divided fields entries = divided_some fields [] entries

pub filled_divided : (fields : Fields) (entries : List Entry) → 0 < length entries → All (FitsAlone fields) entries
    → All IsFilled (divided fields entries)
filled_divided fields [] some alone = absurd (omega arith)
filled_divided fields (entry ∷ entries) some alone =
    subst (All IsFilled) (sym (divided_start fields entry entries (All-head (FitsAlone fields) entry entries alone)))
    (divided_filled fields (entry ∷ []) entries (omega arith))

pub half_divided : (fields : Fields) (entries : List Entry) → 0 < length entries → All (IsSmall fields) entries
    → 2 * length (divided fields entries) ≤ length entries + 1
half_divided fields [] some small = absurd (omega arith)
half_divided fields (entry ∷ entries) some small =
    let head = All-head (IsSmall fields) entry entries small in
    let half = divided_half fields (entry ∷ []) entries (omega arith)
    (All-cons (IsSmall fields) entry [] head (All-nil (IsSmall fields)))
    (All-tail (IsSmall fields) entry entries small) in
    rw (divided_start fields entry entries (small_alone fields entry head)) (omega arith)

-- level by level

-- a level on which another can stand
pub record CanClimb (node : Fields) (pages : Level) : Type 0 where
  pub some : 0 < length pages
  pub filled : All IsFilled pages
  pub keys : All (λ (entry : Entry). node.keys ≤ length entry) (entries_of pages)
  pub small : All (HasSmallPointers node) (entries_of pages)

module _ (node : Fields) (pages : Level) (number : ℕ → ℕ) (can : CanClimb node pages) where
  pointers : List Entry
  pointers = pointers_to node.keys pages number

  count : length (pointers_to node.keys pages number) ≡ length pages
  count = length-pointers node.keys pages number

  -- what holds of each pointer by the entry that it is made of
  each_pointer : (P : Entry → Type 0) → ((entry : Entry) (n : ℕ) → node.keys ≤ length entry
      → HasSmallPointers node entry → P (pointer_with node.keys entry n))
      → All P (pointers_to node.keys pages number)
  each_pointer P makes k d below =
      let size = count in
      let inside : k < length pages = omega arith in
      let filled = can.filled k [] inside in
      let first = get_or (get_or pages k []) 0 [] in
      subst P (sym (get_or-pointers node.keys pages number k d inside))
      (makes first (number k)
      (all_within (λ (entry : Entry). node.keys ≤ length entry) pages k can.keys inside 0 [] filled)
      (all_within (HasSmallPointers node) pages k can.small inside 0 [] filled))

  small_pointers : All (IsSmall node) (pointers_to node.keys pages number)
  small_pointers = each_pointer (IsSmall node) (λ entry n enough small. small n)

  pub alone_pointers : All (FitsAlone node) (pointers_to node.keys pages number)
  alone_pointers = each_pointer (FitsAlone node)
      (λ entry n enough small. small_alone node (pointer_with node.keys entry n) (small n))

  next : Level
  next = divided node (pointers_to node.keys pages number)

  pub climbs : CanClimb node (divided node (pointers_to node.keys pages number))
  climbs =
      let entries = entries_divided node (pointers_to node.keys pages number) in
      let size = count in
      let some = can.some in record {
        some = some_divided node (pointers_to node.keys pages number);
        filled = filled_divided node (pointers_to node.keys pages number) (omega arith) alone_pointers;
        keys = subst (All (λ (entry : Entry). node.keys ≤ length entry)) (sym entries)
            (each_pointer (λ (entry : Entry). node.keys ≤ length entry)
            (λ entry n enough small. let size = length-pointer node.keys entry n enough in omega arith));
        small = subst (All (HasSmallPointers node)) (sym entries)
            (each_pointer (HasSmallPointers node)
            (λ entry n enough small m. rw (key_of_pointer node.keys entry n enough) (small m)));
      }

  pub half : 2 * length (divided node (pointers_to node.keys pages number)) ≤ length pages + 1
  half =
      let size = count in
      let some = can.some in
      let most = half_divided node (pointers_to node.keys pages number) (omega arith) small_pointers in
      omega arith

  fit : All (FitsPage node) (divided node (pointers_to node.keys pages number))
  fit = fit_divided node (pointers_to node.keys pages number) alone_pointers

-- levels that stand on one another, the first of which is this
record Climbed (node : Fields) (numbers : ℕ → ℕ → ℕ) (level : ℕ) (pages : Level) (levels : List Level)
    : Type 0 where
  some : 0 < length levels
  first : level_at levels 0 ≡ pages
  single : width_at levels (top_of levels) ≡ 1
  filled : EachPage levels (λ l k. 0 < length (page_entries levels l k))
  pointers : (l : ℕ) → l + 1 < length levels
      → entries_at levels (l + 1) ≡ pointers_to node.keys (level_at levels l) (numbers (level + l))
  fit : (l : ℕ) → l + 1 < length levels → All (FitsPage node) (level_at levels (l + 1))

-- by cases of the first level and those above it
filled_more : (pages : Level) (levels : List Level) → All IsFilled pages
    → EachPage levels (λ l k. 0 < length (page_entries levels l k))
    → EachPage (pages ∷ levels) (λ l k. 0 < length (page_entries (pages ∷ levels) l k))
filled_more pages levels here above zero k inside within = here k [] within
filled_more pages levels here above (suc l) k inside within = above l k (omega arith) within

single_more : (pages : Level) (levels : List Level) → 0 < length levels → width_at levels (top_of levels) ≡ 1
    → width_at (pages ∷ levels) (top_of (pages ∷ levels)) ≡ 1
single_more pages [] some single = absurd (omega arith)
single_more pages (level ∷ levels) some single =
    let e : length (pages ∷ level ∷ levels) - 1 ≡ suc (length (level ∷ levels) - 1) = omega arith in
    rw e single

module _ (node : Fields) (numbers : ℕ → ℕ → ℕ) (level : ℕ) (pages : Level) where
  climbed_one : CanClimb node pages → length pages ≤ 1 → Climbed node numbers level pages (pages ∷ [])
  climbed_one can one =
      let some = can.some in record {
        some = omega arith;
        first = refl;
        single = omega arith;
        filled = filled_more pages [] can.filled (λ l k inside within. absurd (omega arith));
        pointers = λ l inside. absurd (omega arith);
        fit = λ l inside. absurd (omega arith);
      }

  module _ (levels : List Level) (can : CanClimb node pages)
      (rest : Climbed node numbers (level + 1) (divided node (pointers_to node.keys pages (numbers level))) levels)
    where
      pointers_more : (l : ℕ) → l + 1 < length (pages ∷ levels) → entries_at (pages ∷ levels) (l + 1)
          ≡ pointers_to node.keys (level_at (pages ∷ levels) l) (numbers (level + l))
      pointers_more zero inside =
          let e : level + 0 ≡ level = omega arith in
          rw (e, rest.first) (entries_divided node (pointers_to node.keys pages (numbers level)))
      pointers_more (suc l) inside =
          let e : level + suc l ≡ level + 1 + l = omega arith in
          let f : suc l + 1 ≡ suc (l + 1) = omega arith in
          rw (e, f) (rest.pointers l (omega arith))

      fit_more : (l : ℕ) → l + 1 < length (pages ∷ levels) → All (FitsPage node) (level_at (pages ∷ levels) (l + 1))
      fit_more zero inside = rw rest.first (fit node pages (numbers level) can)
      fit_more (suc l) inside =
          let f : suc l + 1 ≡ suc (l + 1) = omega arith in rw f (rest.fit l (omega arith))

      climbed_more : Climbed node numbers level pages (pages ∷ levels)
      climbed_more = record {
        some = omega arith;
        first = refl;
        single = single_more pages levels rest.some rest.single;
        filled = filled_more pages levels can.filled rest.filled;
        pointers = pointers_more;
        fit = fit_more;
      }

-- the levels from one up end where one has a single page
climbed : (node : Fields) (numbers : ℕ → ℕ → ℕ) (most level : ℕ) (pages : Level) → CanClimb node pages
    → length pages ≤ most + 1
    → Climbed node numbers level pages (levels_from node numbers most level pages)
climbed node numbers zero level pages can few = climbed_one node numbers level pages can (omega arith)
climbed node numbers (suc most) level pages can few =
    let up = divided node (pointers_to node.keys pages (numbers level)) in
    elim (leb_tells (length pages) 1) [
      | inl one ↦ rw one.0 (climbed_one node numbers level pages can one.1)
      | inr more ↦
          let less = half node pages (numbers level) can in
          rw more.0 (climbed_more node numbers level pages (levels_from node numbers most (level + 1) up) can
          (climbed node numbers most (level + 1) up (climbs node pages (numbers level) can) (omega arith)))
    ]

-- and each halves the one below it
few_levels : (node : Fields) (numbers : ℕ → ℕ → ℕ) (most level : ℕ) (pages : Level) (d : ℕ) → CanClimb node pages
    → length pages ≤ 2 ^ d → length (levels_from node numbers most level pages) ≤ d + 1
few_levels node numbers zero level pages d can few = omega arith
few_levels node numbers (suc most) level pages zero can few =
    rw (le-leb (length pages) 1 few) (omega arith)
few_levels node numbers (suc most) level pages (suc d) can few =
    let up = divided node (pointers_to node.keys pages (numbers level)) in
    elim (leb_tells (length pages) 1) [
      | inl one ↦ rw one.0 (omega arith)
      | inr more ↦
          let less = half node pages (numbers level) can in
          let power = pow-succ' 2 d in
          let rest = few_levels node numbers most (level + 1) up d (climbs node pages (numbers level) can)
          (omega arith) in
          rw more.0 (omega arith)
    ]

-- the leaf entries

module _ (leaf node : Fields) (entries : List Entry) (can : CanDivide leaf node entries) where
  pub leaves_climb : 0 < length entries → CanClimb node (divided leaf entries)
  leaves_climb some =
      let same = entries_divided leaf entries in record {
        some = some_divided leaf entries;
        filled = filled_divided leaf entries some can.alone;
        keys = subst (All (λ (entry : Entry). node.keys ≤ length entry)) (sym same)
            (λ k d below.
            let size = parts_of_fit leaf entries can.fit k d below in
            let few = can.one_index.few in
            let keys = can.one_index.keys in
            omega arith);
        small = subst (All (HasSmallPointers node)) (sym same) can.pointers;
      }

  module _ (numbers : ℕ → ℕ → ℕ) (levels : List Level)
      (up : Climbed node numbers 0 (divided leaf entries) levels) where
    leaves : entries_at levels 0 ≡ entries
    leaves = ap entries_of up.first ∙ entries_divided leaf entries

    are_levels : AreLevels leaf node numbers levels
    are_levels = record {
      some = up.some;
      single = up.single;
      filled = λ above. up.filled;
      pointers = λ l inside. let e : 0 + l ≡ l = omega arith in rw e at (up.pointers l inside);
      parts = subst (All (λ (entry : Entry). length entry ≡ field_count leaf)) (sym leaves)
          (parts_of_fit leaf entries can.fit);
      rise = subst (EntriesAscend leaf) (sym leaves) can.rise;
    }

    fit_on : EachPage levels (λ l k. FitsPage (fields_at leaf node l) (page_entries levels l k))
    fit_on zero k inside within =
        subst (All (FitsPage leaf)) (sym up.first) (fit_divided leaf entries can.alone) k [] within
    fit_on (suc l) k inside within =
        let fit = rw add-one at (up.fit l (omega arith)) in
        subst (λ fields. FitsPage fields (page_entries levels (suc l) k)) (sym (fields_up leaf node l))
        (fit k [] within)

    are_the_levels : length levels ≤ 51 → AreTheLevels leaf node numbers entries levels
    are_the_levels few = record {
      are_levels = are_levels;
      leaves = leaves;
      few = few;
      sizes = fit_on;
      fit = page_fit leaf node numbers levels can.one_index are_levels
          (subst (All (FitFields leaf)) (sym leaves) can.fit);
      rise = page_rises leaf node numbers levels can.one_index are_levels;
      empty = page_empty leaf node numbers levels can.one_index are_levels;
    }

-- a tree without rows is a page without entries
module _ (leaf node : Fields) (numbers : ℕ → ℕ → ℕ) where
  no_rows : AreLevels leaf node numbers (([] ∷ []) ∷ [])
  no_rows = record {
    some = omega arith;
    single = refl;
    filled = λ above. absurd (omega arith);
    pointers = λ l inside. absurd (omega arith);
    parts = All-nil (λ (entry : Entry). length entry ≡ field_count leaf);
    rise = λ i j d before within. absurd (omega arith);
  }

  no_rows_fit : EachPage (([] ∷ []) ∷ []) (λ l k. FitsPage (fields_at leaf node l)
      (page_entries (([] ∷ []) ∷ []) l k))
  no_rows_fit zero zero inside within = refl
  no_rows_fit zero (suc k) inside within = absurd (omega arith)
  no_rows_fit (suc l) k inside within = absurd (omega arith)

pub division_law : DivisionGivesLevels
unfolding tree_levels divided
division_law leaf node numbers [] can = record {
  are_levels = no_rows leaf node numbers;
  leaves = refl;
  few = omega arith;
  sizes = no_rows_fit leaf node numbers;
  fit = page_fit leaf node numbers (([] ∷ []) ∷ []) can.one_index (no_rows leaf node numbers)
      (All-nil (FitFields leaf));
  rise = page_rises leaf node numbers (([] ∷ []) ∷ []) can.one_index (no_rows leaf node numbers);
  empty = page_empty leaf node numbers (([] ∷ []) ∷ []) can.one_index (no_rows leaf node numbers);
}
division_law leaf node numbers (entry ∷ entries) can =
    let all = entry ∷ entries in
    let pages = divided leaf all in
    let climb = leaves_climb leaf node all can (omega arith) in
    are_the_levels leaf node all can numbers (levels_from node numbers (length pages) 0 pages)
    (climbed node numbers (length pages) 0 pages climb (omega arith))
    (few_levels node numbers (length pages) 0 pages 50 climb can.few)
