-- The columns of a row, one after another: what was answered of the first ones, and what is read of them.
use Rattle.std.proofs.Common.{◌≡◌, ◌≢◌, ℕ, zero, suc, ◌+◌, ◌<◌, Bool, List, [], ◌∷◌, ◌++◌, length}
use Rattle.std.proofs.Common.{take, set, get_or, Option, Some, None, is_some, refl, sym, ap, ◌∙◌, subst}
use Rattle.std.proofs.Common.{inl, inr, arith, length-append, add-one, get_or-set_same, get_or-set_other}
use Rattle.std.proofs.Math.Path.{fun_ext}
use Rattle.std.proofs.Math.Seq.{take-suc-set, get_or-append_seam}
use Rattle.std.proofs.lemmas.Bool.{cases_lt}
use Rattle.std.proofs.lemmas.List.{append-nil, map-append, take_all, get_or_append_left}
use Rattle.std.proofs.lemmas.List.Concat.{flat_map-append}
use Rattle.column_values.specs.declared.value.Value.{Value}
use Rattle.space_audit.specs.Marks.{is_set, seen, Marked}
use Rattle.space_audit.proofs.Marking.{marked_none}
use Rattle.sql_dump.specs.Cells.{CellView, RowOnLeaf, RowView, ReadsValue, cell_of_column, pages_of_cell}
use Rattle.salvage_model.specs.declared.loss.Loss.{Loss}
use Rattle.salvage_model.specs.Follow.{Follow}
use Rattle.salvage_model.specs.Judged.{Judged, IsJudged, losses_in, looked_in}
use Rattle.salvage_model.specs.SavedRow.{SavesValue, CanSave, saved_pages, pages_unless}
use Rattle.row_salvage.specs.Missed.{UnderMissed}
use Rattle.row_salvage.specs.Calls.{AnswersCell, AnswersRow}
use Rattle.row_salvage.proofs.Missed.{Grew, grew_marked, marked_then, under_none, under_more, under_then, under_fact}
use Rattle.row_salvage.proofs.Followed.{follow_none, follow_more}
use Rattle.row_salvage.proofs.PartialLine.{pages_kept, first_pages, first_none, first_more, first_all, kept_lost}
use Rattle.row_salvage.proofs.PartialLine.{kept_whole}

-- the verdict on a column after those before it
abbrev pub Fits : List ℕ → (ℕ → Bool) → RowOnLeaf → List Bool → List Judged → ℕ → Judged → Type 0
Fits file missed row start before c judged =
    IsJudged file missed row.leaf (cell_of_column row.row c) (seen (is_set start) (looked_in before)) judged

-- the first columns were judged, and these are the marks and the losses
pub record AnswersFirst (file : List ℕ) (missed : ℕ → Bool) (row : RowOnLeaf) (start marks : List Bool)
    (losses : List (Option Loss)) (c : ℕ) : Type 0 where
  pub columns : List Judged
  pub all : length columns ≡ c
  pub each : Follow (Fits file missed row start) columns
  pub are : take c losses ≡ losses_in columns
  pub marked : Marked (is_set start) marks (looked_in columns)

first_more_judged : (file : List ℕ) (missed : ℕ → Bool) (row : RowOnLeaf) (start marks now : List Bool)
    (losses : List (Option Loss)) (c : ℕ) (loss : Option Loss) → c < length losses
    → AnswersFirst file missed row start marks losses c
    → AnswersCell file missed row.leaf (cell_of_column row.row c) marks now loss
    → AnswersFirst file missed row start now (set losses c loss) (c + 1)
first_more_judged file missed row start marks now losses c loss within first cell =
    let judged : Judged = record { loss = loss; looked = cell.looked } in
    let columns = first.columns in
    let taken : is_set marks ≡ seen (is_set start) (looked_in columns) = fun_ext (λ n. first.marked n) in
    let here : Fits file missed row start columns c judged =
    subst (λ (t : ℕ → Bool). IsJudged file missed row.leaf (cell_of_column row.row c) t judged) taken cell.judged in
    let last : Fits file missed row start columns (length columns) judged =
    subst (λ (i : ℕ). Fits file missed row start columns i judged) (sym first.all) here in
    let looked : looked_in (columns ++ judged ∷ []) ≡ looked_in columns ++ cell.looked =
    flat_map-append (λ (j : Judged). j.looked) columns (judged ∷ [])
    ∙ ap (λ (t : List ℕ). looked_in columns ++ t) (append-nil cell.looked) in
    record {
      columns = columns ++ judged ∷ [];
      all = omega (arith, length-append columns (judged ∷ []), first.all);
      each = follow_more (Fits file missed row start) columns judged first.each last;
      are =
          ap (λ (n : ℕ). take n (set losses c loss)) (add-one c)
          ∙ take-suc-set losses c loss within ∙ ap (λ (t : List (Option Loss)). t ++ loss ∷ []) first.are
          ∙ sym (map-append (λ (j : Judged). j.loss) columns (judged ∷ []));
      marked = subst (λ (list : List ℕ). Marked (is_set start) now list) (sym looked)
          (marked_then (is_set start) marks now (looked_in columns) cell.looked first.marked cell.marked);
    }

-- the same under the parts that were missed so far
module _ (file : List ℕ) (row : RowOnLeaf) (start : List Bool) where
  abbrev pub FirstJudged : List Bool → ℕ → ℕ → List (Option Loss) → ℕ → Type 0
  FirstJudged marks f g losses c =
      UnderMissed start marks f g (λ missed. AnswersFirst file missed row start marks losses c)

  pub judged_none : (f : ℕ) (losses : List (Option Loss)) → FirstJudged start f f losses 0
  judged_none f losses =
      under_none start start f f (λ missed. AnswersFirst file missed row start start losses 0) (omega arith)
      (λ missed. record {
        columns = [];
        all = refl;
        each = follow_none (Fits file missed row start);
        are = refl;
        marked = marked_none start;
      })

  pub judged_more : (marks now : List Bool) (f g h : ℕ) (losses after : List (Option Loss)) (c : ℕ)
      (loss : Option Loss) (cell : CellView) (leaf : ℕ) → c < length losses
      → cell ≡ cell_of_column row.row c → leaf ≡ row.leaf
      → after ≡ set losses c loss → FirstJudged marks f g losses c
      → UnderMissed marks now g h (λ missed. AnswersCell file missed leaf cell marks now loss)
      → FirstJudged now f h after (c + 1)
  judged_more marks now f g h losses after c loss cell leaf within is leaf_is set_is first at_leaf =
      let second = subst (λ (n : ℕ).
      UnderMissed marks now g h (λ missed. AnswersCell file missed n cell marks now loss)) leaf_is at_leaf in
      let grew : Grew start marks =
      under_fact start marks f g (Grew start marks)
      (under_more start marks f g (λ missed. AnswersFirst file missed row start marks losses c)
      (λ missed. Grew start marks) (λ missed a. grew_marked start marks (looked_in a.columns) a.marked) first) in
      let later : Grew marks now =
      under_fact marks now g h (Grew marks now)
      (under_more marks now g h (λ missed. AnswersCell file missed row.leaf cell marks now loss)
      (λ missed. Grew marks now) (λ missed a. grew_marked marks now a.looked a.marked) second) in
      under_more start now f h
      (λ missed. AnswersFirst file missed row start marks losses c
      × AnswersCell file missed row.leaf cell marks now loss)
      (λ missed. AnswersFirst file missed row start now after (c + 1))
      (λ missed two. subst (λ (l : List (Option Loss)). AnswersFirst file missed row start now l (c + 1)) (sym set_is)
      (first_more_judged file missed row start marks now losses c loss within two.0
      (subst (λ (x : CellView). AnswersCell file missed row.leaf x marks now loss) is two.1)))
      (under_then start marks now f g h (λ missed. AnswersFirst file missed row start marks losses c)
      (λ missed. AnswersCell file missed row.leaf cell marks now loss) grew later first second)

  pub judged_all : (marks : List Bool) (f g : ℕ) (losses : List (Option Loss)) (c : ℕ)
      → c ≡ length row.row.table.columns → length losses ≡ length row.row.table.columns
      → FirstJudged marks f g losses c
      → UnderMissed start marks f g (λ missed. AnswersRow file missed row start marks losses)
  judged_all marks f g losses c last all first =
      under_more start marks f g (λ missed. AnswersFirst file missed row start marks losses c)
      (λ missed. AnswersRow file missed row start marks losses)
      (λ missed a. record {
        columns = a.columns;
        judged = record { all = a.all ∙ last; each = a.each };
        are = sym (take_all c losses (omega (arith, last, all))) ∙ a.are;
        marked = a.marked;
      })
      first

-- what is read of the first columns, in so many pages
pub record SavesFirst (file : List ℕ) (row : RowView) (losses : List (Option Loss)) (c count : ℕ) : Type 0 where
  pub row_values : List (Option Value)
  pub all : length row_values ≡ c
  pub each : (k : ℕ) → k < c
      → SavesValue file (cell_of_column row k) (get_or losses k None) (get_or row_values k None)
  pub pages : count ≡ length (first_pages file row losses c)

pub saves_none : (file : List ℕ) (row : RowView) (losses : List (Option Loss)) → SavesFirst file row losses 0 0
saves_none file row losses = record {
  row_values = [];
  all = refl;
  each = λ k below. absurd (omega (arith, below));
  pages = sym (first_none file row losses);
}

same_pages : (file : List ℕ) (row : RowView) (a b : List (Option Loss)) (c : ℕ)
    → ((k : ℕ) → k < c → get_or a k None ≡ get_or b k None)
    → length (first_pages file row a c) ≡ length (first_pages file row b c)
same_pages file row a b zero same = first_none file row a ∙ sym (first_none file row b)
same_pages file row a b (suc c) same =
    let e : c + 1 ≡ suc c = omega arith in
    let front = same_pages file row a b c (λ k below. same k (omega (arith, below))) in
    let losing : List (Option Loss) → ℕ = λ l. length (pages_kept file row l c) in
    let last : losing a ≡ losing b = kept_same file row a b c (same c (omega arith)) in
    subst (λ (n : ℕ). length (first_pages file row a n) ≡ length (first_pages file row b n)) e
    (omega (arith, front, last, first_more file row a c, first_more file row b c))
  where
    kept_same : (file : List ℕ) (row : RowView) (a b : List (Option Loss)) (c : ℕ)
        → get_or a c None ≡ get_or b c None → length (pages_kept file row a c) ≡ length (pages_kept file row b c)
    kept_same file row a b c same =
        ap (λ (l : Option Loss). length (pages_unless l (pages_of_cell file (cell_of_column row c)))) same

-- one column more, with what was answered of it
saves_more : (file : List ℕ) (row : RowView) (losses after : List (Option Loss)) (c count parts : ℕ)
    (loss : Option Loss) (value : Option Value) → c < length losses → after ≡ set losses c loss
    → SavesValue file (cell_of_column row c) loss value
    → length (pages_kept file row after c) ≡ parts
    → SavesFirst file row losses c count → SavesFirst file row after (c + 1) (count + parts)
saves_more file row losses after c count parts loss value within set_is saves pages first =
    let other : (k : ℕ) → k < c → get_or after k None ≡ get_or losses k None =
    λ k below. ap (λ (l : List (Option Loss)). get_or l k None) set_is
    ∙ (let apart : k ≢ c = omega (arith, below) in get_or-set_other losses c k loss None apart) in
    let here : get_or after c None ≡ loss =
    ap (λ (l : List (Option Loss)). get_or l c None) set_is ∙ get_or-set_same losses c loss None within in
    record {
      row_values = first.row_values ++ value ∷ [];
      all = omega (arith, length-append first.row_values (value ∷ []), first.all);
      each = λ k below. elim (cases_lt k c) [
        | inl less ↦
            subst (λ (l : Option Loss). SavesValue file (cell_of_column row k) l
            (get_or (first.row_values ++ value ∷ []) k None)) (sym (other k less))
            (subst (λ (v : Option Value). SavesValue file (cell_of_column row k) (get_or losses k None) v)
            (sym (get_or_append_left first.row_values (value ∷ []) None k (omega (arith, less, first.all))))
            (first.each k less))
        | inr more ↦
            let last : c ≡ k = omega (arith, below, more) in
            let at : get_or (first.row_values ++ value ∷ []) c None ≡ value =
            ap (λ (n : ℕ). get_or (first.row_values ++ value ∷ []) n None) (sym first.all)
            ∙ get_or-append_seam first.row_values value [] None in
            subst (λ (i : ℕ). SavesValue file (cell_of_column row i) (get_or after i None)
            (get_or (first.row_values ++ value ∷ []) i None)) last
            (subst (λ (l : Option Loss). SavesValue file (cell_of_column row c) l
            (get_or (first.row_values ++ value ∷ []) c None)) (sym here)
            (subst (λ (v : Option Value). SavesValue file (cell_of_column row c) loss v) (sym at) saves))
      ];
      pages = omega (arith, first.pages, first_more file row after c, same_pages file row after losses c other, pages);
    }

-- a column that isn't lost, and one that is
pub saves_whole : (file : List ℕ) (row : RowView) (losses after : List (Option Loss)) (c count parts : ℕ)
    (cell : CellView) → c < length losses → after ≡ set losses c None → cell ≡ cell_of_column row c
    → (value : Value) × ReadsValue file cell value → parts ≡ length (pages_of_cell file cell)
    → SavesFirst file row losses c count → SavesFirst file row after (c + 1) (count + parts)
saves_whole file row losses after c count parts cell within set_is is reads pages first =
    let here : get_or after c None ≡ None =
    ap (λ (l : List (Option Loss)). get_or l c None) set_is ∙ get_or-set_same losses c None None within in
    saves_more file row losses after c count parts None (Some reads.0) within set_is
    (subst (λ (x : CellView). ReadsValue file x reads.0) is reads.1)
    (kept_whole file row after c cell (ap is_some here) is ∙ sym pages) first

pub saves_lost : (file : List ℕ) (row : RowView) (losses after : List (Option Loss)) (c count : ℕ) (loss : Loss)
    → c < length losses → after ≡ set losses c (Some loss)
    → SavesFirst file row losses c count → SavesFirst file row after (c + 1) count
saves_lost file row losses after c count loss within set_is first =
    let here : get_or after c None ≡ Some loss =
    ap (λ (l : List (Option Loss)). get_or l c None) set_is ∙ get_or-set_same losses c (Some loss) None within in
    subst (λ (n : ℕ). SavesFirst file row after (c + 1) n) (omega arith)
    (saves_more file row losses after c count 0 (Some loss) None within set_is tt
    (kept_lost file row after c (ap is_some here)) first)

pub saves_count : (file : List ℕ) (row : RowView) (losses : List (Option Loss)) (c count : ℕ)
    → c ≡ length row.table.columns → SavesFirst file row losses c count
    → count ≡ length (saved_pages file row losses)
saves_count file row losses c count last first = first.pages ∙ ap length (first_all file row losses c last)

pub saves_all : (file : List ℕ) (row : RowView) (losses : List (Option Loss)) (c count : ℕ)
    → c ≡ length row.table.columns → SavesFirst file row losses c count → CanSave file row losses count
saves_all file row losses c count last first =
    let pages = saves_count file row losses c count last first in
    record {
      row_values = first.row_values;
      saves = record {
        count = first.all ∙ last;
        each = λ k below. first.each k (omega (arith, below, last));
      };
      few = omega (arith, pages);
    }
