-- Divided entries stand on pages that are as full as they can be, and no other pages have them so.
use Rattle.std.proofs.Common.{◌≡◌, ℕ, zero, suc, ◌+◌, ◌-◌, ◌*◌, ◌<◌, ◌≤◌, List, [], ◌∷◌, ◌++◌, length, cond}
use Rattle.std.proofs.Common.{true, false, refl, sym, ap, ◌∙◌, subst, arith, append_assoc, append-nil, length-append}
use Rattle.std.specs.List.{All}
use Rattle.std.proofs.lemmas.Bool.{le-leb, leb-true, true≢false}
use Rattle.std.proofs.lemmas.List.Elements.{All-head, All-tail}
use Rattle.std.proofs.lemmas.List.Sums.{sum_by-append, sum_by_push}
use Rattle.column_values.specs.Types.{Fields}
use Rattle.compact_record.specs.Writing.{size_of_record}
use Rattle.page_packer.specs.Packing.{slots_for, sizes_fit}
use Rattle.tree_layout.specs.Entries.{Entry}
use Rattle.tree_layout.specs.Division.{Level, total_of, has_room_for, FitsPage, FitsAlone, divided_from, divided}
use Rattle.tree_layout.specs.Division.{pointers_to, tree_levels, CanDivide}
use Rattle.tree_layout.specs.Levels.{entries_of, level_at, width_at, top_of}
use Rattle.tree_layout.specs.DivisionLaws.{DivisionGivesLevels}
use Rattle.tree_layout.specs.Steps.{StandOnEachOther, LevelsStand}
use Rattle.tree_layout.specs.FullPages.{page_at, first_of, AreClosed, IsDivision, DividedIsDivision, HaveOneDivision}
use Rattle.tree_layout.specs.FullPages.{IsDividedTree, TreesAreDivided}
use Rattle.tree_layout.proofs.Divided.{IsFilled, entries_divided, some_divided, fit_divided, filled_divided}
use Rattle.tree_layout.proofs.Divided.{CanClimb, climbs, alone_pointers, leaves_climb}

-- one page

-- fewer entries take no more room
fewer_slots : (a b : ℕ) → a ≤ b → slots_for a ≤ slots_for b
fewer_slots a b fewer = omega arith

fits_less : (count most total full : ℕ) → count ≤ most → total ≤ full → sizes_fit most full ≡ true
    → sizes_fit count total ≡ true
fits_less count most total full fewer less fits =
    let room = leb-true (120 + full + 2 * slots_for most) 16376 fits in
    let slots = fewer_slots count most fewer in
    le-leb (120 + total + 2 * slots_for count) 16376 (omega arith)

fits_front : (fields : Fields) (page rest : List Entry) → FitsPage fields (page ++ rest) → FitsPage fields page
fits_front fields page rest fits =
    let long = length-append page rest in
    let sum = sum_by-append (size_of_record fields) page rest in
    fits_less (length page) (length (page ++ rest)) (total_of fields page) (total_of fields (page ++ rest))
    (omega arith) (omega arith) fits

-- there is room for an entry if the page fits with it
room_is : (fields : Fields) (page : List Entry) (entry : Entry)
    → sizes_fit (length (page ++ entry ∷ [])) (total_of fields (page ++ entry ∷ []))
    ≡ has_room_for fields page entry
room_is fields page entry =
    rw (length-append page (entry ∷ []), sum_by_push (size_of_record fields) page entry) refl

-- the pages that are divided are closed

-- the first page begins with what stood on it
first_divided : (fields : Fields) (x : Entry) (page entries : List Entry)
    → first_of (divided_from fields (x ∷ page) entries) 0 ≡ x
first_divided fields x page [] = refl
first_divided fields x page (entry ∷ entries) =
    elim (has_room_for fields (x ∷ page) entry) as (λ room. first_of (cond room
    (divided_from fields ((x ∷ page) ++ entry ∷ []) entries)
    ((x ∷ page) ∷ divided_from fields (entry ∷ []) entries)) 0 ≡ x)
    [ true ↦ first_divided fields x (page ++ entry ∷ []) entries | false ↦ refl ]

closed_more : (fields : Fields) (page : List Entry) (pages : Level)
    → ¬ (FitsPage fields (page ++ first_of pages 0 ∷ [])) → AreClosed fields pages → AreClosed fields (page ∷ pages)
closed_more fields page pages none closed zero below = none
closed_more fields page pages none closed (suc k) below =
    let e : suc k + 1 ≡ suc (k + 1) = omega arith in
    subst (λ (n : ℕ). ¬ (FitsPage fields (page_at pages k ++ first_of (page ∷ pages) n ∷ []))) (sym e)
    (closed k (omega arith))

closed_rest : (fields : Fields) (page : List Entry) (pages : Level) → AreClosed fields (page ∷ pages)
    → AreClosed fields pages
closed_rest fields page pages closed k below =
    let e : suc k + 1 ≡ suc (k + 1) = omega arith in
    subst (λ (n : ℕ). ¬ (FitsPage fields (page_at pages k ++ first_of (page ∷ pages) n ∷ []))) e
    (closed (suc k) (omega arith))

closed_from : (fields : Fields) (page entries : List Entry) → AreClosed fields (divided_from fields page entries)
closed_from fields page [] = λ k below. absurd (omega arith)
closed_from fields page (entry ∷ entries) =
    elim (has_room_for fields page entry) as (λ room. has_room_for fields page entry ≡ room → AreClosed fields
    (cond room (divided_from fields (page ++ entry ∷ []) entries) (page ∷ divided_from fields (entry ∷ []) entries))) [
      | true ↦ λ room. closed_from fields (page ++ entry ∷ []) entries
      | false ↦ λ room. closed_more fields page (divided_from fields (entry ∷ []) entries)
          (λ fits.
          let first = first_divided fields entry [] entries in
          let whole : FitsPage fields (page ++ entry ∷ []) =
          subst (λ (x : Entry). FitsPage fields (page ++ x ∷ [])) first fits in
          true≢false (sym whole ∙ room_is fields page entry ∙ room))
          (closed_from fields (entry ∷ []) entries)
    ] refl

closed_divided : (fields : Fields) (entries : List Entry) → AreClosed fields (divided fields entries)
unfolding divided
closed_divided fields entries = closed_from fields [] entries

filled_pages : (fields : Fields) (entries : List Entry) → All (FitsAlone fields) entries
    → 1 < length (divided fields entries) → All IsFilled (divided fields entries)
unfolding divided
filled_pages fields [] alone several = absurd (omega arith)
filled_pages fields (entry ∷ entries) alone several =
    filled_divided fields (entry ∷ entries) (omega arith) alone

pub divides_law : DividedIsDivision
divides_law fields entries alone = record {
  all = entries_divided fields entries;
  some = some_divided fields entries;
  filled = filled_pages fields entries alone;
  fit = fit_divided fields entries alone;
  closed = closed_divided fields entries;
}

-- no other pages

-- what fits the open page goes onto it
refill : (fields : Fields) (page rest more : List Entry) → FitsPage fields (page ++ rest)
    → divided_from fields page (rest ++ more) ≡ divided_from fields (page ++ rest) more
refill fields page [] more fits = ap (λ (p : List Entry). divided_from fields p more) (sym (append-nil page))
refill fields page (x ∷ rest) more fits =
    let same : (page ++ x ∷ []) ++ rest ≡ page ++ x ∷ rest = append_assoc page (x ∷ []) rest in
    let whole = subst (FitsPage fields) (sym same) fits in
    let room : has_room_for fields page x ≡ true =
    sym (room_is fields page x) ∙ fits_front fields (page ++ x ∷ []) rest whole in
    ap (λ room. cond room (divided_from fields (page ++ x ∷ []) (rest ++ more))
    (page ∷ divided_from fields (x ∷ []) (rest ++ more))) room
    ∙ refill fields (page ++ x ∷ []) rest more whole ∙ ap (λ (p : List Entry). divided_from fields p more) same

no_room : (fields : Fields) (page : List Entry) (x : Entry) → ¬ (FitsPage fields (page ++ x ∷ []))
    → has_room_for fields page x ≡ false
no_room fields page x none =
    elim (has_room_for fields page x) as (λ room. has_room_for fields page x ≡ room → room ≡ false)
    [ true ↦ λ room. absurd (none (room_is fields page x ∙ room)) | false ↦ λ room. refl ] refl

-- a page that is closed stays, and the next entry begins a page
close : (fields : Fields) (page : List Entry) (x : Entry) (more : List Entry)
    → ¬ (FitsPage fields (page ++ x ∷ []))
    → divided_from fields page (x ∷ more) ≡ page ∷ divided_from fields (x ∷ []) more
close fields page x more none =
    ap (λ room. cond room (divided_from fields (page ++ x ∷ []) more) (page ∷ divided_from fields (x ∷ []) more))
    (no_room fields page x none)

redivided : (fields : Fields) (pages : Level) → 0 < length pages → (1 < length pages → All IsFilled pages)
    → All (FitsPage fields) pages → AreClosed fields pages → divided_from fields [] (entries_of pages) ≡ pages
redivided fields [] some filled fit closed = absurd (omega arith)
redivided fields (page ∷ []) some filled fit closed =
    refill fields [] page [] (All-head (FitsPage fields) page [] fit)
redivided fields (page ∷ [] ∷ rest) some filled fit closed =
    let none = filled (omega arith) 1 [] (omega arith) in absurd (omega arith)
redivided fields (page ∷ (x ∷ xs) ∷ rest) some filled fit closed =
    let next = x ∷ xs in
    let more = xs ++ entries_of rest in
    let fits = All-head (FitsPage fields) page (next ∷ rest) fit in
    let behind = All-tail (FitsPage fields) page (next ∷ rest) fit in
    let tail = redivided fields (next ∷ rest) (omega arith)
    (λ several. All-tail IsFilled page (next ∷ rest) (filled (omega arith))) behind
    (closed_rest fields page (next ∷ rest) closed) in
    let alone : FitsPage fields (x ∷ []) =
    fits_front fields (x ∷ []) xs (All-head (FitsPage fields) next rest behind) in
    refill fields [] page (x ∷ more) fits ∙ close fields page x more (closed 0 (omega arith))
    ∙ ap (λ (pages : Level). page ∷ pages) (sym (refill fields [] (x ∷ []) more alone) ∙ tail)

only : (fields : Fields) (entries : List Entry) (pages : Level) → IsDivision fields entries pages
    → pages ≡ divided fields entries
unfolding divided
only fields entries pages is =
    sym (redivided fields pages is.some is.filled is.fit is.closed) ∙ ap (divided_from fields []) is.all

pub one_law : HaveOneDivision
one_law fields entries pages others is are =
    only fields entries pages is ∙ sym (only fields entries others are)

-- level by level

divides_above : (node : Fields) (numbers : ℕ → ℕ → ℕ) (level : ℕ) (levels : List Level)
    → CanClimb node (level_at levels 0) → StandOnEachOther node numbers level levels
    → (l : ℕ) → l + 1 < length levels
    → IsDivision node (pointers_to node.keys (level_at levels l) (numbers (level + l))) (level_at levels (l + 1))
divides_above node numbers level [] can stands l inside = absurd stands
divides_above node numbers level (low ∷ []) can stands l inside = absurd (omega arith)
divides_above node numbers level (low ∷ next ∷ rest) can stands zero inside =
    let e : level + 0 ≡ level = omega arith in
    let pointers = pointers_to node.keys low (numbers level) in
    rw e (subst (IsDivision node pointers) (sym stands.1)
    (divides_law node pointers (alone_pointers node low (numbers level) can)))
divides_above node numbers level (low ∷ next ∷ rest) can stands (suc l) inside =
    let e : level + suc l ≡ level + 1 + l = omega arith in
    let f : suc l + 1 ≡ suc (l + 1) = omega arith in
    rw (e, f) (divides_above node numbers (level + 1) (next ∷ rest)
    (subst (CanClimb node) (sym stands.1) (climbs node low (numbers level) can)) stands.2 l (omega arith))

several_below : (node : Fields) (numbers : ℕ → ℕ → ℕ) (level : ℕ) (levels : List Level)
    → StandOnEachOther node numbers level levels → (l : ℕ) → l + 1 < length levels → 1 < width_at levels l
several_below node numbers level [] stands l inside = absurd stands
several_below node numbers level (low ∷ []) stands l inside = absurd (omega arith)
several_below node numbers level (low ∷ next ∷ rest) stands zero inside = stands.0
several_below node numbers level (low ∷ next ∷ rest) stands (suc l) inside =
    several_below node numbers (level + 1) (next ∷ rest) stands.2 l (omega arith)

-- what stands on each other is known from the division of each level
record AreDivided (node : Fields) (numbers : ℕ → ℕ → ℕ) (level : ℕ) (levels : List Level) : Type 0 where
  some : 0 < length levels
  above : (l : ℕ) → l + 1 < length levels
      → IsDivision node (pointers_to node.keys (level_at levels l) (numbers (level + l))) (level_at levels (l + 1))
  several : (l : ℕ) → l + 1 < length levels → 1 < width_at levels l
  root : width_at levels (top_of levels) ≡ 1

divided_rest : (node : Fields) (numbers : ℕ → ℕ → ℕ) (level : ℕ) (low next : Level) (rest : List Level)
    → AreDivided node numbers level (low ∷ next ∷ rest) → AreDivided node numbers (level + 1) (next ∷ rest)
divided_rest node numbers level low next rest are = record {
  some = omega arith;
  above = λ l inside.
      let e : level + suc l ≡ level + 1 + l = omega arith in
      let f : suc l + 1 ≡ suc (l + 1) = omega arith in
      rw (e, f) at (are.above (suc l) (omega arith));
  several = λ l inside. are.several (suc l) (omega arith);
  root =
      let e : length (low ∷ next ∷ rest) - 1 ≡ suc (length (next ∷ rest) - 1) = omega arith in
      rw e at are.root;
}

stand_so : (node : Fields) (numbers : ℕ → ℕ → ℕ) (level : ℕ) (levels : List Level)
    → AreDivided node numbers level levels → StandOnEachOther node numbers level levels
stand_so node numbers level [] are = let some = are.some in absurd (omega arith)
stand_so node numbers level (low ∷ []) are = let root = are.root in omega arith
stand_so node numbers level (low ∷ next ∷ rest) are =
    let e : level + 0 ≡ level = omega arith in
    let pointers = pointers_to node.keys low (numbers level) in
    let division : IsDivision node pointers next = rw e at (are.above 0 (omega arith)) in (
      are.several 0 (omega arith),
      only node pointers next division,
      stand_so node numbers (level + 1) (next ∷ rest) (divided_rest node numbers level low next rest are),
    )

from_zero : (node : Fields) (numbers : ℕ → ℕ → ℕ) (leaf : Fields) (entries : List Entry) (levels : List Level)
    → IsDividedTree leaf node numbers entries levels → AreDivided node numbers 0 levels
from_zero node numbers leaf entries levels is = record {
  some = is.some;
  above = λ l inside. let e : 0 + l ≡ l = omega arith in rw e (is.above l inside);
  several = is.several;
  root = is.root;
}

-- the levels of a tree are divided
module _ (leaf node : Fields) (numbers : ℕ → ℕ → ℕ) where
  no_rows : IsDividedTree leaf node numbers [] (([] ∷ []) ∷ [])
  unfolding divided
  no_rows = record {
    some = omega arith;
    leaves = divides_law leaf [] (λ i d below. absurd (omega arith));
    above = λ l inside. absurd (omega arith);
    several = λ l inside. absurd (omega arith);
    root = refl;
  }

  module _ (stands : LevelsStand) (division : DivisionGivesLevels) where
    tree_is : (entries : List Entry) → CanDivide leaf node entries
        → IsDividedTree leaf node numbers entries (tree_levels leaf node numbers entries)
    unfolding tree_levels divided
    tree_is [] can = no_rows
    tree_is (entry ∷ entries) can =
        let all = entry ∷ entries in
        let levels = tree_levels leaf node numbers all in
        let are = division leaf node numbers all can in
        let stand = stands leaf node numbers all can in
        let climb = subst (CanClimb node) (sym stand.leaves) (leaves_climb leaf node all can (omega arith)) in
        record {
          some = are.are_levels.some;
          leaves = subst (IsDivision leaf all) (sym stand.leaves) (divides_law leaf all can.alone);
          above = λ l inside.
              let e : 0 + l ≡ l = omega arith in
              rw e at (divides_above node numbers 0 levels climb stand.stand l inside);
          several = several_below node numbers 0 levels stand.stand;
          root = are.are_levels.single;
        }

    only_tree : (entries : List Entry) → CanDivide leaf node entries → (levels : List Level)
        → IsDividedTree leaf node numbers entries levels → levels ≡ tree_levels leaf node numbers entries
    only_tree entries can levels is =
        (stands leaf node numbers entries can).only levels
        (only leaf entries (level_at levels 0) is.leaves)
        (stand_so node numbers 0 levels (from_zero node numbers leaf entries levels is))

pub trees_law : LevelsStand → DivisionGivesLevels → TreesAreDivided
trees_law stands division leaf node numbers entries can = record {
  is = tree_is leaf node numbers stands division entries can;
  only = only_tree leaf node numbers stands division entries can;
}
