-- The text of outcomes, what they lost, their numbers, and the pages that were looked at for them.
use Rattle.std.proofs.Common.{◌≡◌, ℕ, suc, ◌+◌, Bool, true, cond, List, [], ◌∷◌, ◌++◌, length, flat_map, refl}
use Rattle.std.proofs.Common.{sym, ap, ◌∙◌, subst, arith, append_assoc}
use Rattle.std.specs.Prelude.{sum_by}
use Rattle.std.specs.List.{enumerate_from}
use Rattle.std.proofs.lemmas.List.{append-nil}
use Rattle.std.proofs.lemmas.List.Concat.{flat_map-append}
use Rattle.std.proofs.lemmas.List.Sums.{sum_by-append}
use Rattle.space_audit.specs.Marks.{is_in, is_set, Marked}
use Rattle.tree_walk.proofs.Levels.{is_in-append}
use Rattle.schema_text.specs.TableDef.{TableDef}
use Rattle.sql_dump.specs.Buffer.{IsSent}
use Rattle.sql_dump.proofs.Sends.{sent_more}
use Rattle.salvage_model.specs.declared.saved.Saved.{Saved}
use Rattle.salvage_model.specs.Judged.{losses_in, looked_in}
use Rattle.salvage_model.specs.Losses.{row_losses}
use Rattle.salvage_model.specs.Outcome.{Job, SavedRow, Outcome, Leaf, looked_of, looked_of_rows, looked_of_pages}
use Rattle.salvage_model.specs.Saved.{rows_on, rows_of, line_of_row, text_of, numbers_of}
use Rattle.salvage_model.specs.Saved.{whole_count, partial_count, leaf_count, lost_count}
use Rattle.salvage_model.specs.Report.{losses_of_rows, losses_on, losses_of}
use Rattle.table_salvage.specs.Heard.{GetsNext}
use Rattle.table_salvage.specs.Work.{Start, Progress, Kept}
use Rattle.table_salvage.proofs.Hearing.{got_on}

one : {X A : Type 0} (f : X → List A) (x : X) → flat_map f (x ∷ []) ≡ f x
one f x = append-nil (f x)

push : {X A : Type 0} (f : X → List A) (xs : List X) (x : X) → flat_map f (xs ++ x ∷ []) ≡ flat_map f xs ++ f x
push f xs x = flat_map-append f xs (x ∷ []) ∙ ap (λ t. flat_map f xs ++ t) (one f x)

rows_push : (xs : List Outcome) (x : Outcome) → rows_of (xs ++ x ∷ []) ≡ rows_of xs ++ rows_on x
rows_push xs x = push rows_on xs x

pub looked_push : (xs : List Outcome) (x : Outcome) → looked_of_pages (xs ++ x ∷ []) ≡ looked_of_pages xs ++ looked_of x
unfolding looked_of_pages
looked_push xs x = push looked_of xs x

pub text_push : (table : TableDef) (xs : List Outcome) (x : Outcome) → text_of table (xs ++ x ∷ [])
    ≡ text_of table xs ++ flat_map (line_of_row table) (rows_on x)
unfolding text_of
text_push table xs x =
    ap (λ (t : List SavedRow). flat_map (line_of_row table) t) (rows_push xs x)
    ∙ flat_map-append (line_of_row table) (rows_of xs) (rows_on x)

numbered_push : (a : ℕ) (xs : List Outcome) (x : Outcome)
    → enumerate_from a (xs ++ x ∷ []) ≡ enumerate_from a xs ++ (a + length xs, x) ∷ []
numbered_push a [] x = let e : a + 0 ≡ a = omega arith in rw e refl
numbered_push a (y ∷ xs) x =
    let e : (a + 1) + length xs ≡ a + suc (length xs) = omega arith in
    ap (λ (t : List (ℕ × Outcome)). (a, y) ∷ t) (numbered_push (a + 1) xs x
    ∙ ap (λ k. enumerate_from (a + 1) xs ++ (k, x) ∷ []) e)

pub losses_push : (table : TableDef) (xs : List Outcome) (x : Outcome) → losses_of table (xs ++ x ∷ [])
    ≡ losses_of table xs ++ losses_on table (length xs) x
unfolding losses_of
losses_push table xs x =
    let each : ℕ × Outcome → List ℕ = λ (p : ℕ × Outcome). losses_on table p.0 p.1 in
    ap (λ (t : List (ℕ × Outcome)). flat_map each t) (numbered_push 0 xs x)
    ∙ push each (enumerate_from 0 xs) (0 + length xs, x)
    ∙ ap (λ k. losses_of table xs ++ losses_on table k x) (let e : 0 + length xs ≡ length xs = omega arith in e)

pub sum_push : {X : Type 0} (f : X → ℕ) (xs : List X) (x : X) → sum_by f (xs ++ x ∷ []) ≡ sum_by f xs + f x
sum_push f xs x = sum_by-append f xs (x ∷ []) ∙ ap (λ k. sum_by f xs + k) (omega arith)

marked_push : (marks : List Bool) (xs : List Outcome) (x : Outcome)
    → ((k : ℕ) → is_set marks k ≡ is_in (looked_of_pages xs) k) → looked_of x ≡ []
    → (k : ℕ) → is_set marks k ≡ is_in (looked_of_pages (xs ++ x ∷ [])) k
marked_push marks xs x marked none k =
    marked k ∙ ap (λ (t : List ℕ). is_in t k) (sym (append-nil (looked_of_pages xs))
    ∙ ap (λ (t : List ℕ). looked_of_pages xs ++ t) (sym none) ∙ sym (looked_push xs x))

-- the numbers after a page without rows
abbrev pub with_page : Saved → Outcome → Saved
with_page saved x = record {
  rows = saved.rows;
  partial = saved.partial;
  leaves = saved.leaves + leaf_count x;
  lost = saved.lost + lost_count x;
}

numbers_push : (xs : List Outcome) (x : Outcome) → rows_on x ≡ []
    → numbers_of (xs ++ x ∷ []) ≡ with_page (numbers_of xs) x
unfolding numbers_of
numbers_push xs x none =
    let rows : rows_of (xs ++ x ∷ []) ≡ rows_of xs =
    rows_push xs x ∙ ap (λ (t : List SavedRow). rows_of xs ++ t) none ∙ append-nil (rows_of xs) in
    rw (rows, sum_push leaf_count xs x, sum_push lost_count xs x) refl

-- a page without rows, or the start of a leaf
-- no record was saved in between: the marks, the buffer and the output are as before
pub record SavesNone (now next : Progress) : Type 0 where
  pub marks : next.marks ≡ now.marks
  pub held : next.held ≡ now.held
  pub sink : next.written.sink ≡ now.written.sink

pub kept_page : {start : Start} {now next : Progress} {job : Job} {xs : List Outcome} (x : Outcome) → rows_on x ≡ []
    → looked_of x ≡ [] → next.saved ≡ with_page now.saved x → SavesNone now next
    → GetsNext now.unheard next.unheard now.written.losses next.written.losses (losses_on job.table (length xs) x)
    → Kept start now job xs
    → Kept start next job (xs ++ x ∷ [])
kept_page {start = start} {now = now} {next = next} {job = job} {xs = xs} x none unlooked count stays report
    kept = record {
      marked = λ k.
          ap (λ (m : List Bool). is_set m k) stays.marks ∙ marked_push now.marks xs x kept.marked unlooked k;
      numbers = count ∙ ap (λ (s : Saved). with_page s x) kept.numbers ∙ sym (numbers_push xs x none);
      text =
          let same : text_of job.table (xs ++ x ∷ []) ≡ text_of job.table xs =
          text_push job.table xs x
          ∙ ap (λ (t : List SavedRow). text_of job.table xs ++ flat_map (line_of_row job.table) t) none
          ∙ append-nil (text_of job.table xs) in
          rw (same, stays.held, stays.sink) kept.text;
      report = rw (losses_push job.table xs x)
          (got_on now.unheard next.unheard start.written.losses now.written.losses next.written.losses
          (losses_of job.table xs) (losses_on job.table (length xs) x) kept.report report);
    }

-- a leaf has one row more
leaf_rows_push : (xs : List Outcome) (rows : List SavedRow) (row : SavedRow)
    → rows_of (xs ++ Leaf (rows ++ row ∷ []) ∷ []) ≡ rows_of (xs ++ Leaf rows ∷ []) ++ row ∷ []
leaf_rows_push xs rows row =
    rows_push xs (Leaf (rows ++ row ∷ [])) ∙ sym (append_assoc (rows_of xs) rows (row ∷ []))
    ∙ ap (λ (t : List SavedRow). t ++ row ∷ []) (sym (rows_push xs (Leaf rows)))

pub leaf_text_push : (table : TableDef) (xs : List Outcome) (rows : List SavedRow) (row : SavedRow)
    → text_of table (xs ++ Leaf (rows ++ row ∷ []) ∷ []) ≡ text_of table (xs ++ Leaf rows ∷ []) ++ line_of_row table row
unfolding text_of
leaf_text_push table xs rows row =
    ap (λ (t : List SavedRow). flat_map (line_of_row table) t) (leaf_rows_push xs rows row)
    ∙ push (line_of_row table) (rows_of (xs ++ Leaf rows ∷ [])) row

pub leaf_losses_push : (table : TableDef) (xs : List Outcome) (rows : List SavedRow) (row : SavedRow)
    → losses_of table (xs ++ Leaf (rows ++ row ∷ []) ∷ [])
    ≡ losses_of table (xs ++ Leaf rows ∷ []) ++ row_losses table (length xs) (row.place + 1) (losses_in row.columns)
unfolding losses_of_rows
leaf_losses_push table xs rows row =
    let line : SavedRow → List ℕ = λ (r : SavedRow). row_losses table (length xs) (r.place + 1) (losses_in r.columns) in
    losses_push table xs (Leaf (rows ++ row ∷ []))
    ∙ ap (λ (t : List ℕ). losses_of table xs ++ t) (push line rows row)
    ∙ sym (append_assoc (losses_of table xs) (flat_map line rows) (line row))
    ∙ ap (λ (t : List ℕ). t ++ line row) (sym (losses_push table xs (Leaf rows)))

leaf_looked_push : (xs : List Outcome) (rows : List SavedRow) (row : SavedRow)
    → looked_of_pages (xs ++ Leaf (rows ++ row ∷ []) ∷ [])
    ≡ looked_of_pages (xs ++ Leaf rows ∷ []) ++ looked_in row.columns
unfolding looked_of_rows
leaf_looked_push xs rows row =
    let looks : SavedRow → List ℕ = λ (r : SavedRow). looked_in r.columns in
    looked_push xs (Leaf (rows ++ row ∷ [])) ∙ ap (λ (t : List ℕ). looked_of_pages xs ++ t) (push looks rows row)
    ∙ sym (append_assoc (looked_of_pages xs) (flat_map looks rows) (looks row))
    ∙ ap (λ (t : List ℕ). t ++ looks row) (sym (looked_push xs (Leaf rows)))

-- the numbers after a row
abbrev pub with_row : Saved → SavedRow → Saved
with_row saved row = record {
  rows = saved.rows + whole_count row;
  partial = saved.partial + partial_count row;
  leaves = saved.leaves;
  lost = saved.lost;
}

leaf_numbers_push : (xs : List Outcome) (rows : List SavedRow) (row : SavedRow)
    → numbers_of (xs ++ Leaf (rows ++ row ∷ []) ∷ []) ≡ with_row (numbers_of (xs ++ Leaf rows ∷ [])) row
unfolding numbers_of
leaf_numbers_push xs rows row =
    rw (
      leaf_rows_push xs rows row,
      sum_push whole_count (rows_of (xs ++ Leaf rows ∷ [])) row,
      sum_push partial_count (rows_of (xs ++ Leaf rows ∷ [])) row,
      sum_push leaf_count xs (Leaf (rows ++ row ∷ [])),
      sum_push lost_count xs (Leaf (rows ++ row ∷ [])),
      sum_push leaf_count xs (Leaf rows),
      sum_push lost_count xs (Leaf rows),
    ) refl

pub kept_row : {start : Start} {now next : Progress} {job : Job} {n : ℕ} (xs : List Outcome) (rows : List SavedRow)
    (row : SavedRow) → length xs ≡ n → Marked (is_set now.marks) next.marks (looked_in row.columns)
    → next.saved ≡ with_row now.saved row
    → IsSent now.written.sink next.written.sink (now.held ++ line_of_row job.table row) next.held
    → GetsNext now.unheard next.unheard now.written.losses next.written.losses
    (row_losses job.table n (row.place + 1) (losses_in row.columns))
    → Kept start now job (xs ++ Leaf rows ∷ []) → Kept start next job (xs ++ Leaf (rows ++ row ∷ []) ∷ [])
kept_row {start = start} {now = now} {next = next} {job = job} xs rows row size marked count sent report kept =
    let before = xs ++ Leaf rows ∷ [] in
    let lost : ℕ → List ℕ = λ k. row_losses job.table k (row.place + 1) (losses_in row.columns) in
    record {
      marked = λ k.
          marked k ∙ ap (λ (b : Bool). cond b true (is_in (looked_in row.columns) k)) (kept.marked k)
          ∙ sym (is_in-append (looked_of_pages before) (looked_in row.columns) k)
          ∙ ap (λ (t : List ℕ). is_in t k) (sym (leaf_looked_push xs rows row));
      numbers = count ∙ ap (λ (s : Saved). with_row s row) kept.numbers ∙ sym (leaf_numbers_push xs rows row);
      text = rw (leaf_text_push job.table xs rows row)
          (sent_more start.written.sink now.written.sink next.written.sink (text_of job.table before) now.held next.held
          (line_of_row job.table row) kept.text sent);
      report =
          let report_here : GetsNext now.unheard next.unheard now.written.losses next.written.losses
          (lost (length xs)) =
          subst (λ k. GetsNext now.unheard next.unheard now.written.losses next.written.losses (lost k)) (sym size)
          report in
          rw (leaf_losses_push job.table xs rows row)
          (got_on now.unheard next.unheard start.written.losses now.written.losses next.written.losses
          (losses_of job.table before) (lost (length xs)) kept.report report_here);
    }
