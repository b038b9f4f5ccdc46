-- The rows of a table, one after another.
use Rattle.std.proofs.Common.{◌≡◌, ℕ, ◌+◌, ◌<◌, ◌≤◌, Bool, List, [], ◌∷◌, ◌++◌, length, take, get_or, flat_map}
use Rattle.std.proofs.Common.{Option, Some, None, Result, Err, inl, inr, refl, sym, ap, ◌∙◌, subst, arith}
use Rattle.std.proofs.lemmas.List.{append-nil, take_more, take_all, get_or_default}
use Rattle.std.proofs.lemmas.List.Elements.{All-filter}
use Rattle.std.proofs.lemmas.Grind.{flat_map-append}
use Rattle.std.proofs.lemmas.Bool.{cases_lt}
use Rattle.std.proofs.Math.Path.{fun_ext}
use Rattle.page_source.specs.declared.rule.Fault.{Fault}
use Rattle.page_source.specs.declared.checks.Halt.{Halt}
use Rattle.page_source.specs.declared.checks.Halt.TheVariants.{Broken, Source}
use Rattle.page_source.specs.Checks.{HaltsAt}
use Rattle.page_source.specs.Verdict.{AllBefore, EachOf}
use Rattle.column_values.specs.Types.{Fields}
use Rattle.schema_text.specs.TableDef.{TableDef}
use Rattle.schema_text.specs.IndexFields.{leaf_fields}
use Rattle.space_audit.specs.Marks.{is_set, seen, Marked}
use Rattle.tree_walk.specs.declared.leaves.leaf.Leaf.{Leaf}
use Rattle.tree_walk.specs.Index.{Index, Row, index_of, page_in, row_at, no_row, leaf_rows, is_live_row}
use Rattle.tree_walk.specs.Leaf.{IsWalked}
use Rattle.tree_walk.specs.Laws.{RowsCanBeRead}
use Rattle.tree_walk.specs.Records.{IsRecord}
use Rattle.tree_walk.specs.Segments.{leaf_segment}
use Rattle.table_check.specs.Trees.{index_in, clustered_tree}
use Rattle.table_check.specs.Live.{LiveView, IsRowInHand, HasGivenLive, CanGiveLive, FindsLive}
use Rattle.table_check.specs.Values.{RecordChecks, RowCheck, pages_of_record, pages_of_row, pages_of_rows}
use Rattle.table_check.specs.Values.{all_chain_pages, live_rows}

-- one more check of a list that holds
pub before_more : {X : Type 0} (places : List X) (check : List X → X → Option Fault → Type 0) (i : ℕ)
    → AllBefore places check i → ((d : X) → check (take i places) (get_or places i d) None) → AllBefore places check
    (i + 1)
before_more places check i before here j d below = elim (cases_lt j i) [
  | inl less ↦ before j d less
  | inr more ↦ let e : i ≡ j = omega arith in
      subst (λ (k : ℕ). check (take k places) (get_or places k d) None) e (here d)
]

-- a check that breaks behind others that hold
pub each_of_breaks : {X : Type 0} (places : List X) (check : List X → X → Option Fault → Type 0) (i : ℕ) (halt : Halt)
    → i < length places → AllBefore places check i
    → ((d : X) → HaltsAt halt (check (take i places) (get_or places i d))) → HaltsAt halt (EachOf places check)
each_of_breaks places check i (Broken fault) within before here = (i, within, before, here)
each_of_breaks places check i Source within before here = tt

-- all of them hold
pub each_of_holds : {X : Type 0} (places : List X) (check : List X → X → Option Fault → Type 0) (i : ℕ)
    → length places ≤ i → AllBefore places check i → EachOf places check None
each_of_holds places check i all before j d below = before j d (omega (arith, all, below))

-- what is said of the next row, where the file is told
abbrev pub NextExact : List ℕ → LiveView → Result (Option ℕ) Halt → LiveView → Type 0
NextExact file old result new = (root : ℕ) (fields node : Fields) (j : ℕ) → IsWalked (index_of file root fields node)
    → HasGivenLive (index_of file root fields node) old j → FindsLive (index_of file root fields node) j result new

module _ (file : List ℕ) (table : TableDef) where
  -- the clustered index, its rows, and the pages of the first of them
  abbrev clustered : Index
  clustered = clustered_tree file table

  abbrev rows : List Row
  rows = live_rows clustered

  abbrev pub pages_before : ℕ → List ℕ
  pages_before j = pages_of_rows clustered (take j rows)

  pub no_rows : pages_before 0 ≡ []
  unfolding pages_of_rows
  no_rows = refl

  file_of : (clustered).file ≡ file
  unfolding index_in
  file_of = refl

  pub leaf_of : (clustered).leaf ≡ leaf_fields table 0
  unfolding index_in
  leaf_of = refl

  module _ (j origin segment number : ℕ) (page : List ℕ) (leaf : Leaf) (fields : Fields)
      (hand : IsRowInHand clustered leaf j origin) (is_number : number ≡ leaf.number) (is_page : page ≡ leaf.page)
      (is_segment : segment ≡ leaf_segment clustered) (is_list : fields ≡ leaf_fields table 0) where
    row_here : (d : Row) → get_or rows j d ≡ record { page = number; origin = origin }
    unfolding row_at
    row_here d =
        get_or_default rows j d no_row hand.within ∙ hand.row
        ∙ ap (λ (n : ℕ). record { page = n; origin = origin }) (sym is_number)

    page_here : page ≡ page_in clustered number
    page_here = is_page ∙ hand.held ∙ ap (page_in clustered) (sym is_number)

    -- the checks of the record in hand are those of the row
    pub row_checked : (start marks : List Bool) → Marked (is_set start) marks (pages_before j) → (d : Row)
        (v : Option Fault)
        → RecordChecks file segment number page origin fields (is_set marks) v
        → RowCheck clustered (is_set start) (take j rows) (get_or rows j d) v
    unfolding index_in
    row_checked start marks marked d v check =
        let now = seen (is_set start) (pages_before j) in
        let seen_check = subst (λ (taken : ℕ → Bool). RecordChecks file segment number page origin fields taken v)
        (fun_ext marked) check in
        let by_fields = subst (λ (f : Fields). RecordChecks file segment number page origin f now v)
        (is_list ∙ sym leaf_of) seen_check in
        let by_page = subst (λ (p : List ℕ). RecordChecks file segment number p origin (clustered).leaf now v)
        page_here by_fields in
        subst (λ (r : Row). RowCheck clustered (is_set start) (take j rows) r v) (sym (row_here d))
        (subst (λ (s : ℕ). RecordChecks file s number (page_in clustered number) origin (clustered).leaf now v)
        is_segment by_page)

    -- and so are its pages
    pub row_more : pages_before (j + 1) ≡ pages_before j ++ pages_of_record file page origin fields
    unfolding pages_of_rows pages_of_record index_in
    row_more =
        let e : pages_of_row clustered (get_or rows j no_row) ≡ pages_of_record file page origin fields =
        ap (pages_of_row clustered) (row_here no_row)
        ∙ ap (λ (p : List ℕ). pages_of_record file p origin (clustered).leaf) (sym page_here)
        ∙ ap (pages_of_record file page origin) (leaf_of ∙ sym is_list) in
        ap (flat_map (pages_of_row clustered)) (take_more rows j no_row hand.within)
        ∙ flat_map-append (pages_of_row clustered) (take j rows) (get_or rows j no_row ∷ [])
        ∙ ap (λ (rest : List ℕ). flat_map (pages_of_row clustered) (take j rows) ++ rest)
        (append-nil (pages_of_row clustered (get_or rows j no_row)) ∙ e)

    -- it can be read
    pub row_readable : RowsCanBeRead → IsWalked clustered → IsRecord page fields origin
    unfolding index_in live_rows
    row_readable can walked =
        let all = All-filter (is_live_row clustered) (λ (row : Row). IsRecord (page_in clustered row.page)
        (clustered).leaf row.origin)
        (leaf_rows clustered) (can clustered walked) in
        let here = subst (λ (row : Row). IsRecord (page_in clustered row.page) (clustered).leaf row.origin)
        (row_here no_row)
        (all j no_row hand.within) in
        subst (λ (f : Fields). IsRecord page f origin) (leaf_of ∙ sym is_list)
        (subst (λ (p : List ℕ). IsRecord p (clustered).leaf origin) (sym page_here) here)

  pub all_pages : (j : ℕ) → length rows ≤ j → all_chain_pages clustered ≡ pages_before j
  all_pages j all = ap (pages_of_rows clustered) (sym (take_all j rows all))

  -- the cursor is one over the rows of the table
  pub can_give : (view : LiveView) (j : ℕ) → IsWalked clustered → HasGivenLive clustered view j → CanGiveLive file view
  unfolding index_in
  can_give view j walked has = record {
    root = (clustered).root;
    fields = (clustered).leaf;
    node = (clustered).node;
    given = j;
    walked = walked;
    has = has;
  }

  pub finds : (old new : LiveView) (j : ℕ) (result : Result (Option ℕ) Halt) → NextExact file old result new
      → IsWalked clustered → HasGivenLive clustered old j → FindsLive clustered j result new
  unfolding index_in
  finds old new j result exact walked has = exact (clustered).root (clustered).leaf (clustered).node j walked has

-- a search over a file that is told breaks off at no row
pub never_breaks : (index : Index) (j : ℕ) (halt : Halt) (view : LiveView) (All : Option Fault → Type 0)
    → FindsLive index j (Err halt) view → HaltsAt halt All
never_breaks index j (Broken fault) view All found = absurd found
never_breaks index j Source view All found = tt

-- no row was found
pub none_found : (found : Option ℕ) → ((origin : ℕ) → ¬ (found ≡ Some origin)) → found ≡ None
none_found None other = refl
none_found (Some origin) other = absurd (other origin refl)
