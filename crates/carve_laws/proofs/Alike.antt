-- Lists of outcomes that differ only in how many pages that are free come last tell the same of a file.
use Rattle.std.proofs.Common.{◌≡◌, ℕ, suc, ◌+◌, List, [], ◌∷◌, ◌++◌, length, map, get_or, flat_map, sum_by}
use Rattle.std.proofs.Common.{refl, sym, ap, ap₂, ◌∙◌, subst, arith}
use Rattle.std.specs.List.{enumerate_from}
use Rattle.std.specs.List.Sorted.{IsPermutation}
use Rattle.std.proofs.lemmas.List.Sums.{sum_by-cons}
use Rattle.schema_text.specs.TableDef.{TableDef}
use Rattle.row_text.specs.Line.{line_of}
use Rattle.tree_walk.specs.Index.{leaf_pages}
use Rattle.table_check.specs.Trees.{clustered_tree}
use Rattle.table_check.specs.Values.{live_rows}
use Rattle.salvage_model.specs.declared.saved.Saved.{Saved}
use Rattle.salvage_model.specs.Outcome.{SavedRow, Outcome, Unused, looked_of, looked_of_pages}
use Rattle.salvage_model.specs.Saved.{rows_on, rows_of, line_of_row, whole_count, partial_count, leaf_count, lost_count}
use Rattle.salvage_model.specs.Saved.{numbers_of, IsComplete}
use Rattle.salvage_model.specs.Report.{losses_on, losses_of}
use Rattle.salvage_model.specs.Laws.{LosesNothing}

-- the same comes of each page, where a page that has no outcome counts as free
abbrev pub AreAlike : List Outcome → List Outcome → Type 0
AreAlike xs ys = (n : ℕ) → get_or xs n Unused ≡ get_or ys n Unused

abbrev AreFree : List Outcome → Type 0
AreFree xs = (n : ℕ) → get_or xs n Unused ≡ Unused

-- what free pages don't have
pieces_free : {Y : Type 0} (f : Outcome → List Y) → f Unused ≡ [] → (xs : List Outcome) → AreFree xs
    → flat_map f xs ≡ []
pieces_free f none [] free = refl
pieces_free {Y = Y} f none (x ∷ xs) free =
    ap₂ (λ (u v : List Y). u ++ v) (ap f (free 0) ∙ none) (pieces_free f none xs (λ n. free (suc n)))

pub pieces_alike : {Y : Type 0} (f : Outcome → List Y) → f Unused ≡ [] → (xs ys : List Outcome) → AreAlike xs ys
    → flat_map f xs ≡ flat_map f ys
pieces_alike f none [] ys alike = sym (pieces_free f none ys (λ n. sym (alike n)))
pieces_alike f none (x ∷ xs) [] alike = pieces_free f none (x ∷ xs) alike
pieces_alike {Y = Y} f none (x ∷ xs) (y ∷ ys) alike =
    ap₂ (λ (u v : List Y). u ++ v) (ap f (alike 0)) (pieces_alike f none xs ys (λ n. alike (suc n)))

sum_free : (f : Outcome → ℕ) → f Unused ≡ 0 → (xs : List Outcome) → AreFree xs → sum_by f xs ≡ 0
sum_free f none [] free = refl
sum_free f none (x ∷ xs) free =
    let here : f x ≡ 0 = ap f (free 0) ∙ none in
    let rest = sum_free f none xs (λ n. free (suc n)) in
    let sum = sum_by-cons f x xs in
    omega (arith, here, rest, sum)

sum_alike : (f : Outcome → ℕ) → f Unused ≡ 0 → (xs ys : List Outcome) → AreAlike xs ys → sum_by f xs ≡ sum_by f ys
sum_alike f none [] ys alike = sym (sum_free f none ys (λ n. sym (alike n)))
sum_alike f none (x ∷ xs) [] alike = sum_free f none (x ∷ xs) alike
sum_alike f none (x ∷ xs) (y ∷ ys) alike =
    let here : f x ≡ f y = ap f (alike 0) in
    let rest = sum_alike f none xs ys (λ n. alike (suc n)) in
    let sum = sum_by-cons f x xs in
    let other = sum_by-cons f y ys in
    omega (arith, here, rest, sum, other)

-- so with the numbers of the pages
numbered_free : {Y : Type 0} (f : (ℕ × Outcome) → List Y) → ((n : ℕ) → f (n, Unused) ≡ []) → (k : ℕ)
    (xs : List Outcome) → AreFree xs → flat_map f (enumerate_from k xs) ≡ []
numbered_free f none k [] free = refl
numbered_free {Y = Y} f none k (x ∷ xs) free =
    ap₂ (λ (u v : List Y). u ++ v) (ap (λ (o : Outcome). f (k, o)) (free 0) ∙ none k)
    (numbered_free f none (k + 1) xs (λ n. free (suc n)))

numbered_alike : {Y : Type 0} (f : (ℕ × Outcome) → List Y) → ((n : ℕ) → f (n, Unused) ≡ []) → (k : ℕ)
    (xs ys : List Outcome) → AreAlike xs ys → flat_map f (enumerate_from k xs) ≡ flat_map f (enumerate_from k ys)
numbered_alike f none k [] ys alike = sym (numbered_free f none k ys (λ n. sym (alike n)))
numbered_alike f none k (x ∷ xs) [] alike = numbered_free f none k (x ∷ xs) alike
numbered_alike {Y = Y} f none k (x ∷ xs) (y ∷ ys) alike =
    ap₂ (λ (u v : List Y). u ++ v) (ap (λ (o : Outcome). f (k, o)) (alike 0))
    (numbered_alike f none (k + 1) xs ys (λ n. alike (suc n)))

pub looked_alike : (xs ys : List Outcome) → AreAlike xs ys → looked_of_pages xs ≡ looked_of_pages ys
unfolding looked_of_pages
looked_alike xs ys alike = pieces_alike (λ o. looked_of o) refl xs ys alike

module _ (xs ys : List Outcome) (alike : AreAlike xs ys) where
  rows_alike : rows_of xs ≡ rows_of ys
  rows_alike = pieces_alike (λ o. rows_on o) refl xs ys alike

  numbers_alike : numbers_of xs ≡ numbers_of ys
  unfolding numbers_of
  numbers_alike =
      ap (λ (rows : List SavedRow). record {
        rows = sum_by whole_count rows;
        partial = sum_by partial_count rows;
        leaves = sum_by leaf_count xs;
        lost = sum_by lost_count xs;
      }) rows_alike
      ∙ ap₂ (λ (leaves lost : ℕ). record {
        rows = sum_by whole_count (rows_of ys);
        partial = sum_by partial_count (rows_of ys);
        leaves = leaves;
        lost = lost;
      }) (sum_alike leaf_count refl xs ys alike) (sum_alike lost_count refl xs ys alike)

  losses_alike : (table : TableDef) → losses_of table xs ≡ losses_of table ys
  unfolding losses_of
  losses_alike table =
      numbered_alike (λ (p : ℕ × Outcome). losses_on table p.0 p.1) (λ n. refl) 0 xs ys alike

  pub loses_alike : (file : List ℕ) (table : TableDef) → LosesNothing file table xs → LosesNothing file table ys
  loses_alike file table h = record {
    complete = subst IsComplete numbers_alike h.complete;
    rows = subst (λ (s : Saved). s.rows ≡ length (live_rows (clustered_tree file table))) numbers_alike h.rows;
    leaves = subst (λ (s : Saved). s.leaves ≡ length (leaf_pages (clustered_tree file table))) numbers_alike h.leaves;
    all = h.all;
    are = h.are;
    lines = subst
        (λ (rows : List SavedRow). IsPermutation (map (line_of_row table) rows) (map (line_of table) h.all)) rows_alike
        h.lines;
    unnamed = sym (losses_alike table) ∙ h.unnamed;
  }
