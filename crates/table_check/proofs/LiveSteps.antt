-- one row more along the rows of a tree, with the delete mark or without it
use Rattle.std.proofs.Common.{◌≡◌, ◌∙◌, ℕ, ◌+◌, ◌-◌, ◌<◌, ◌≤◌, Bool, true, false, not, cond, List, [], ◌∷◌, ◌++◌}
use Rattle.std.proofs.Common.{length, get_or, take, drop, Some, None, Ok, Err, arith, refl, ap, sym, inl, inr}
use Rattle.std.proofs.Common.{append_assoc}
use Rattle.std.specs.List.{filter, count_by}
use Rattle.std.proofs.lemmas.List.{take_all, take-append-drop, get_or_at}
use Rattle.std.proofs.lemmas.List.Elements.{filter-append, filter_more}
use Rattle.std.proofs.lemmas.List.Sums.{count_by_more_yes, count_by_more_no, sum_by-take-le, length-filter}
use Rattle.page_source.specs.declared.checks.Halt.{Halt}
use Rattle.page_source.specs.declared.checks.Halt.TheVariants.{Broken, Source}
use Rattle.compact_record.specs.Header.{is_deleted}
use Rattle.tree_walk.specs.declared.leaves.leaf.Leaf.{Leaf}
use Rattle.tree_walk.specs.Index.{Index, no_row, row_at, page_in, leaf_rows, is_live_row, is_deleted_row}
use Rattle.tree_walk.specs.Leaf.{HasGiven, FindsRow}
use Rattle.table_check.specs.Values.{live_rows}
use Rattle.table_check.specs.Live.{LiveView, HasGivenLive, IsRowInHand, FindsLive}

-- a member that passes a test stands behind those before it that do
passing : {X : Type 0} (p : X → Bool) (xs : List X) (i : ℕ) (d : X) → i < length xs → p (get_or xs i d) ≡ true
    → get_or (filter p xs) (count_by p (take i xs)) d ≡ get_or xs i d
passing p xs i d h e =
    let front = filter p (take i xs) in
    let rest = filter p (drop (i + 1) xs) in
    let x = get_or xs i d in
    let more : filter p (take (i + 1) xs) ≡ front ++ x ∷ [] = filter_more p xs i d h ∙ rw e refl in
    let whole : filter p xs ≡ front ++ x ∷ rest =
    ap (filter p) (sym (take-append-drop (i + 1) xs)) ∙ filter-append p (take (i + 1) xs) (drop (i + 1) xs)
    ∙ rw more (append_assoc front (x ∷ []) rest) in
    ap (λ ys. get_or ys (count_by p (take i xs)) d) whole
    ∙ get_or_at front x rest d (count_by p (take i xs)) (length-filter p (take i xs))

-- the leaf in hand is that of its number
held : (index : Index) (leaf : Leaf) (origin j : ℕ) → HasGiven index leaf origin (j + 1)
    → leaf.page ≡ page_in index leaf.number
held index leaf origin j (inl h) = absurd (omega (arith, h.0))
held index leaf origin j (inr h) = h.1.on.held

-- the row found has the mark that its record has
mark : (index : Index) (j origin : ℕ) (leaf : Leaf) (b : Bool) → FindsRow index j (Ok (Some origin)) leaf
    → b ≡ is_deleted leaf.page origin → is_deleted_row index (get_or (leaf_rows index) j no_row) ≡ b
unfolding row_at is_deleted_row
mark index j origin leaf b f e = rw (f.1, ← held index leaf origin j f.2, ← e)

-- a row with the mark is passed over: there was one left
pub record PassesOver (index : Index) (rows : LiveView) (leaf : Leaf) (last j : ℕ) (ended : Bool) : Type 0 where
  pub some : 0 < rows.deleted
  pub has : HasGivenLive index
      (record { leaf = leaf; last = last; ended = ended; live = rows.live; deleted = rows.deleted - 1 }) j

pub passes_over : (index : Index) (rows : LiveView) (j : ℕ) (leaf : Leaf) (origin last : ℕ) (ended : Bool)
    (has : HasGivenLive index rows j) → FindsRow index has.passed (Ok (Some origin)) leaf → last ≡ origin
    → true ≡ is_deleted leaf.page origin → PassesOver index rows leaf last j ended
passes_over index rows j leaf origin last ended has f l e =
    let p = is_deleted_row index in
    let m = mark index has.passed origin leaf true f e in
    let xs = leaf_rows index in
    let yes = count_by_more_yes p xs has.passed no_row f.0 m in
    let no = count_by_more_no (is_live_row index) xs has.passed no_row f.0 (ap not m) in
    let few = sum_by-take-le (λ x. cond (p x) 1 0) xs (has.passed + 1) in
    record {
      some = omega (arith, yes, few, has.deleted);
      has = record {
        passed = has.passed + 1;
        has = rw l f.2;
        given = has.given ∙ sym no;
        live = has.live;
        deleted = omega (arith, yes, few, has.deleted);
      };
    }

-- a row without it is given: there was one left
pub record Gives (index : Index) (rows : LiveView) (leaf : Leaf) (last j origin : ℕ) (ended : Bool) : Type 0 where
  pub some : 0 < rows.live
  pub row : IsRowInHand index leaf j origin
  pub has : HasGivenLive index
      (record { leaf = leaf; last = last; ended = ended; live = rows.live - 1; deleted = rows.deleted }) (j + 1)

pub gives : (index : Index) (rows : LiveView) (j : ℕ) (leaf : Leaf) (origin last : ℕ) (ended : Bool)
    (has : HasGivenLive index rows j) → FindsRow index has.passed (Ok (Some origin)) leaf → last ≡ origin
    → false ≡ is_deleted leaf.page origin → Gives index rows leaf last j origin ended
unfolding row_at live_rows
gives index rows j leaf origin last ended has f l e =
    let p = is_live_row index in
    let m = mark index has.passed origin leaf false f e in
    let xs = leaf_rows index in
    let yes = count_by_more_yes p xs has.passed no_row f.0 (ap not m) in
    let no = count_by_more_no (is_deleted_row index) xs has.passed no_row f.0 m in
    let few = sum_by-take-le (λ x. cond (p x) 1 0) xs (has.passed + 1) in
    record {
      some = omega (arith, yes, few, has.live, has.given);
      row = record {
        within = omega (arith, yes, few, has.live, has.given, length-filter p xs);
        row = rw has.given (passing p xs has.passed no_row f.0 (ap not m) ∙ f.1);
        held = held index leaf origin has.passed f.2;
      };
      has = record {
        passed = has.passed + 1;
        has = rw l f.2;
        given = omega (arith, has.given, yes);
        live = omega (arith, yes, few, has.live, has.given);
        deleted = rw no has.deleted;
      };
    }

-- behind the last row there is none without the mark
pub none_behind : (index : Index) (rows : LiveView) (j : ℕ) (leaf : Leaf) (has : HasGivenLive index rows j)
    → FindsRow index has.passed (Ok None) leaf → length (live_rows index) ≤ j
unfolding live_rows
none_behind index rows j leaf has f =
    let all = take_all has.passed (leaf_rows index) f in
    omega (
      arith,
      length-filter (is_live_row index) (leaf_rows index),
      has.given ∙ ap (count_by (is_live_row index))
          all,
    )

-- nor is there one due
pub record AreDone (rows : LiveView) : Type 0 where
  pub live : rows.live ≡ 0
  pub deleted : rows.deleted ≡ 0

pub none_due : (index : Index) (rows : LiveView) (j : ℕ) (leaf : Leaf) (has : HasGivenLive index rows j)
    → FindsRow index has.passed (Ok None) leaf → AreDone rows
none_due index rows j leaf has f =
    let all = take_all has.passed (leaf_rows index) f in
    let live = ap (count_by (is_live_row index)) all in
    let deleted = ap (count_by (is_deleted_row index)) all in
    record {
      live = omega (arith, has.given, has.live, live);
      deleted = omega (arith, has.deleted, deleted);
    }

-- the walk never breaks off
pub never_breaks : (index : Index) (j passed : ℕ) (leaf : Leaf) (rows : LiveView) (halt : Halt)
    → FindsRow index passed (Err halt) leaf → FindsLive index j (Err halt) rows
never_breaks index j passed leaf rows (Broken fault) f = f
never_breaks index j passed leaf rows Source f = tt
