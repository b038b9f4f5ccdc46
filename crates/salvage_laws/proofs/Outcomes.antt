-- A salvage has one list of outcomes at the most.
use Rattle.std.proofs.Common.{◌≡◌, ℕ, zero, suc, ◌<◌, Bool, true, false, List, [], ◌∷◌, length, take, get_or, Option}
use Rattle.std.proofs.Common.{Some, None, refl, sym, ap, ap₂, ◌∙◌, subst, arith}
use Rattle.std.proofs.lemmas.Bool.{true≢false}
use Rattle.std.proofs.lemmas.List.{get_or-map, take_all}
use Rattle.page_source.specs.declared.rule.Rule.{Rule}
use Rattle.page_source.specs.Pages.{page_of}
use Rattle.column_values.specs.declared.value.Value.{Value}
use Rattle.column_values.specs.Types.{IsColumnType}
use Rattle.column_values.specs.Laws.{HasOneValue}
use Rattle.space_audit.specs.Marks.{is_in, seen}
use Rattle.schema_text.specs.Grammar.{IsTable}
use Rattle.schema_text.specs.IndexFields.{leaf_fields}
use Rattle.sql_dump.specs.Cells.{CellView, RowView, ReadsValue, cell_of_column}
use Rattle.leaf_salvage.specs.declared.verdict.Verdict.{Verdict}
use Rattle.leaf_salvage.specs.declared.verdict.Verdict.TheVariants as verdicts
use Rattle.leaf_salvage.specs.Laws.{HasOneVerdict}
use Rattle.salvage_model.specs.declared.loss.Loss.{Loss}
use Rattle.salvage_model.specs.Judged.{Judged, AreJudged, losses_in}
use Rattle.salvage_model.specs.SavedRow.{SavesValue, SavesRow}
use Rattle.salvage_model.specs.RowLaws.{HasOneJudgement}
use Rattle.salvage_model.specs.Records.{places_of}
use Rattle.salvage_model.specs.Outcome.{Job, SavedRow, Outcome, Unused, Unread, Other, Lost, Leaf}
use Rattle.salvage_model.specs.Outcome.{row_at_place, looked_of_rows, looked_of_pages, IsSavedRow, AreSavedRows, Is}
use Rattle.salvage_model.specs.Outcome.{ComesOf, IsFull}
use Rattle.salvage_model.specs.Saved.{IsSaved}
use Rattle.salvage_laws.proofs.Follows.{follow_unique}

-- lists that are equal place by place are equal
pub same_list : {X : Type 0} (d : X) (xs ys : List X) → length xs ≡ length ys
    → ((c : ℕ) → c < length xs → get_or xs c d ≡ get_or ys c d) → xs ≡ ys
same_list d [] [] size same = refl
same_list d [] (y ∷ ys) size same = absurd (omega (arith, size))
same_list d (x ∷ xs) [] size same = absurd (omega (arith, size))
same_list {X = X} d (x ∷ xs) (y ∷ ys) size same =
    ap₂ (λ (z : X) (zs : List X). z ∷ zs) (same 0 (omega arith))
    (same_list d xs ys (omega (arith, size)) (λ c below. same (suc c) (omega (arith, below))))

module _ (spelled : HasOneValue) where
  -- a column is read as one value at the most
  pub one_value : (file : List ℕ) (cell : CellView) → IsColumnType cell.kind → (v w : Value) → ReadsValue file cell v
      → ReadsValue file cell w → v ≡ w
  one_value file cell known v w x y = by_tests cell.place.null cell.place.external refl refl
    where
      by_tests : (n e : Bool) → cell.place.null ≡ n → cell.place.external ≡ e → v ≡ w
      by_tests true e null external = x.null null ∙ sym (y.null null)
      by_tests false false null external =
          spelled cell.kind v w _ known (x.local null external) (y.local null external)
      by_tests false true null external =
          spelled cell.kind v w _ known (x.long null external).spelled (y.long null external).spelled

  one_saved : (file : List ℕ) (cell : CellView) → IsColumnType cell.kind → (loss : Option Loss) (v w : Option Value)
      → SavesValue file cell loss v → SavesValue file cell loss w → v ≡ w
  one_saved file cell known None (Some v) (Some w) x y =
      ap (λ (u : Value). Some u) (one_value file cell known v w x y)
  one_saved file cell known None (Some v) None x y = absurd y
  one_saved file cell known None None w x y = absurd x
  one_saved file cell known (Some loss) None None x y = refl
  one_saved file cell known (Some loss) None (Some w) x y = absurd y
  one_saved file cell known (Some loss) (Some v) w x y = absurd x

  -- so is a row
  one_row : (file : List ℕ) (row : RowView) → IsTable row.table → (losses : List (Option Loss))
      (v w : List (Option Value)) → SavesRow file row losses v → SavesRow file row losses w → v ≡ w
  one_row file row is losses v w x y =
      same_list None v w (x.count ∙ sym y.count)
      (λ c below.
      let within : c < length row.table.columns = subst (λ (n : ℕ). c < n) x.count below in
      one_saved file (cell_of_column row c) (is.kinds c _ within) (get_or losses c None) (get_or v c None)
      (get_or w c None) (x.each c within) (y.each c within))

  module _ (judged : HasOneJudgement) (job : Job) (is : IsTable job.table) where
    -- a record of a leaf is saved in one way at the most
    one_saved_row : (n : ℕ) (taken : ℕ → Bool) (a b : SavedRow) → a.place ≡ b.place → IsSavedRow job n taken a
        → IsSavedRow job n taken b → a ≡ b
    one_saved_row n taken a b same x y =
        let there : AreJudged job.file job.missed_parts (row_at_place job n a.place) taken b.columns =
        subst (λ (p : ℕ). AreJudged job.file job.missed_parts (row_at_place job n p) taken b.columns) (sym same)
        y.columns in
        let columns : a.columns ≡ b.columns =
        judged job.file job.missed_parts (row_at_place job n a.place) taken a.columns b.columns x.columns there in
        let at_place : SavesRow job.file (row_at_place job n a.place).row (losses_in b.columns) b.row_values =
        subst (λ (p : ℕ). SavesRow job.file (row_at_place job n p).row (losses_in b.columns) b.row_values)
        (sym same) y.saves in
        let saves : SavesRow job.file (row_at_place job n a.place).row (losses_in a.columns) b.row_values =
        subst (λ (js : List Judged). SavesRow job.file (row_at_place job n a.place).row (losses_in js) b.row_values)
        (sym columns) at_place in
        let row_values : a.row_values ≡ b.row_values =
        one_row job.file (row_at_place job n a.place).row is (losses_in a.columns) a.row_values b.row_values x.saves
        saves in
        ap (λ (p : ℕ). record { place = p; columns = a.columns; row_values = a.row_values }) same
        ∙ ap (λ (js : List Judged). record { place = b.place; columns = js; row_values = a.row_values }) columns
        ∙ ap (λ (vs : List (Option Value)). record { place = b.place; columns = b.columns; row_values = vs }) row_values

    -- the place of each saved row
    place_at : (n : ℕ) (taken : ℕ → Bool) (rows : List SavedRow) → AreSavedRows job n taken rows
        → length rows ≡ length (places_of job.kind (page_of job.file n)) → (k : ℕ) (d : SavedRow) → k < length rows
        → (get_or rows k d).place ≡ get_or (places_of job.kind (page_of job.file n)) k 0
    place_at n taken rows are full k d below =
        let all_places = places_of job.kind (page_of job.file n) in
        let all : take (length rows) all_places ≡ all_places =
        take_all (length rows) all_places (omega (arith, full)) in
        sym (get_or-map (λ (r : SavedRow). r.place) rows k d 0 below)
        ∙ ap (λ (places : List ℕ). get_or places k 0) (are.places ∙ all)

    one_rows : (n : ℕ) (taken : ℕ → Bool) (a b : List SavedRow) → AreSavedRows job n taken a
        → AreSavedRows job n taken b → length a ≡ length (places_of job.kind (page_of job.file n))
        → length b ≡ length (places_of job.kind (page_of job.file n)) → a ≡ b
    one_rows n taken a b x y a_full b_full =
        let all_places = places_of job.kind (page_of job.file n) in
        follow_unique
        (λ before k row.
        IsSavedRow job n (seen taken (looked_of_rows before)) row × (row.place ≡ get_or all_places k 0))
        (λ before k r s p q. one_saved_row n (seen taken (looked_of_rows before)) r s (p.1 ∙ sym q.1) p.0 q.0)
        a b (a_full ∙ sym b_full)
        (λ k d below. (x.each k d below, place_at n taken a x a_full k d below))
        (λ k d below. (y.each k d below, place_at n taken b y b_full k d below))

    module _ (verdict : HasOneVerdict) where
      one_verdict : (n : ℕ) (a b : Verdict) → Is job n a → Is job n b → a ≡ b
      one_verdict n a b x y = verdict (page_of job.file n) n job.id (leaf_fields job.table 0) a b x.1 y.1

      abbrev plain : Rule → Verdict → Rule
      plain rule (verdicts.Lost other) = other
      plain rule _ = rule

      missed_read : {A : Type 0} (n : ℕ) → job.missed n ≡ true → job.missed n ≡ false → A
      missed_read n missed read = absurd (true≢false (sym missed ∙ read))

      -- one thing comes of a page at the most
      one_outcome : (n : ℕ) (taken : ℕ → Bool) (a b : Outcome) → ComesOf job n taken a → IsFull job n a
          → ComesOf job n taken b → IsFull job n b → a ≡ b
      one_outcome n taken Unused Unused x xf y yf = refl
      one_outcome n taken Unused Unread x xf y yf = absurd (y.0 x)
      one_outcome n taken Unused Other x xf y yf = absurd (y.0.used x)
      one_outcome n taken Unused (Lost rule) x xf y yf = absurd (y.0.used x)
      one_outcome n taken Unused (Leaf rows) x xf y yf = absurd (y.0.0.used x)
      one_outcome n taken Unread Unused x xf y yf = absurd (x.0 y)
      one_outcome n taken Unread Unread x xf y yf = refl
      one_outcome n taken Unread Other x xf y yf = missed_read n x.1 y.0.read
      one_outcome n taken Unread (Lost rule) x xf y yf = missed_read n x.1 y.0.read
      one_outcome n taken Unread (Leaf rows) x xf y yf = missed_read n x.1 y.0.0.read
      one_outcome n taken Other Unused x xf y yf = absurd (x.0.used y)
      one_outcome n taken Other Unread x xf y yf = missed_read n y.1 x.0.read
      one_outcome n taken Other Other x xf y yf = refl
      one_outcome n taken Other (Lost rule) x xf y yf =
          let same = one_verdict n verdicts.Other (verdicts.Lost rule) x y in cc
      one_outcome n taken Other (Leaf rows) x xf y yf =
          let same = one_verdict n verdicts.Other verdicts.Leaf x y.0 in cc
      one_outcome n taken (Lost rule) Unused x xf y yf = absurd (x.0.used y)
      one_outcome n taken (Lost rule) Unread x xf y yf = missed_read n y.1 x.0.read
      one_outcome n taken (Lost rule) Other x xf y yf =
          let same = one_verdict n (verdicts.Lost rule) verdicts.Other x y in cc
      one_outcome n taken (Lost rule) (Lost rule') x xf y yf =
          ap (λ (v : Verdict). Lost (plain rule v)) (one_verdict n (verdicts.Lost rule) (verdicts.Lost rule') x y)
      one_outcome n taken (Lost rule) (Leaf rows) x xf y yf =
          let same = one_verdict n (verdicts.Lost rule) verdicts.Leaf x y.0 in cc
      one_outcome n taken (Leaf rows) Unused x xf y yf = absurd (x.0.0.used y)
      one_outcome n taken (Leaf rows) Unread x xf y yf = missed_read n y.1 x.0.0.read
      one_outcome n taken (Leaf rows) Other x xf y yf =
          let same = one_verdict n verdicts.Leaf verdicts.Other x.0 y in cc
      one_outcome n taken (Leaf rows) (Lost rule) x xf y yf =
          let same = one_verdict n verdicts.Leaf (verdicts.Lost rule) x.0 y in cc
      one_outcome n taken (Leaf rows) (Leaf rows') x xf y yf =
          ap (λ (rs : List SavedRow). Leaf rs) (one_rows n taken rows rows' x.1 y.1 xf yf)

      get_same : (xs : List Outcome) (k : ℕ) (d e : Outcome) → k < length xs → get_or xs k d ≡ get_or xs k e
      get_same [] k d e below = absurd (omega (arith, below))
      get_same (x ∷ xs) zero d e below = refl
      get_same (x ∷ xs) (suc k) d e below = get_same xs k d e (omega (arith, below))

      pub one_list : (a b : List Outcome) → IsSaved job a → IsSaved job b → a ≡ b
      one_list a b x y =
          follow_unique
          (λ before n outcome. ComesOf job n (is_in (looked_of_pages before)) outcome × IsFull job n outcome)
          (λ before n r s p q. one_outcome n (is_in (looked_of_pages before)) r s p.0 p.1 q.0 q.1)
          a b (x.all ∙ sym y.all)
          (λ n d below. (
            x.first.each n d below,
            subst (λ (o : Outcome). IsFull job n o) (get_same a n Unused d below) (x.full n below),
          ))
          (λ n d below. (
            y.first.each n d below,
            subst (λ (o : Outcome). IsFull job n o) (get_same b n Unused d below) (y.full n below),
          ))
