-- The checks of a column, and what is read of one that isn't lost.
use Rattle.std.proofs.Common.{◌≡◌, ◌↔◌, ℕ, ◌-◌, ◌<◌, ◌≤◌, Bool, true, false, not, ◌&&◌, ◌⊎◌, List, [], ◌++◌}
use Rattle.std.proofs.Common.{length, All, Option, Some, None, refl, sym, ap, ◌∙◌, subst, inl, inr, arith}
use Rattle.std.proofs.Common.{length-append, Result, Ok, Err, IfOk}
use Rattle.std.proofs.lemmas.Bool.{false≢true}
use Rattle.std.proofs.lemmas.List.{length-take-le}
use Rattle.page_source.specs.declared.rule.Fault.{Fault}
use Rattle.page_source.specs.declared.rule.Rule.TheVariants as rules
use Rattle.page_source.specs.Pages.{page_count}
use Rattle.column_values.specs.declared.value.Value.{Value}
use Rattle.column_values.specs.declared.value.Value.TheVariants.{Null}
use Rattle.column_values.specs.Characters.{IsTextOfKind}
use Rattle.column_values.specs.Utf8Reader.{Reader, Any, Limited, Good, Bad, CountsUpTo, TakesText}
use Rattle.fil_frame.specs.Frame.{space_of}
use Rattle.space_audit.specs.Marks.{is_set}
use Rattle.space_audit.proofs.Marking.{marked_none}
use Rattle.offpage_chain.specs.declared.reference.Reference.{Reference}
use Rattle.offpage_chain.specs.Reference.{reference_of}
use Rattle.offpage_chain.specs.Chain.{chain_pages, bytes_on}
use Rattle.offpage_chain.proofs.Links.{links_go_on}
use Rattle.offpage_chain.proofs.Whole.{links_all}
use Rattle.table_check.specs.Values.{front_of, IsTextBehind, pages_of_value}
use Rattle.sql_dump.specs.Long.{chain_bytes, stated_length}
use Rattle.sql_dump.specs.Cells.{CellView, IsSound, ReadsValue, local_bytes, pages_of_cell}
use Rattle.sql_dump.proofs.Soundness.{bytes_due, long_spells}
use Rattle.salvage_model.specs.declared.loss.Loss.{Loss}
use Rattle.salvage_model.specs.declared.loss.Loss.TheVariants.{Broken}
use Rattle.salvage_model.specs.ColumnChecks.{Lost, PartsChecksBy, PartsChecks, GoesOn, CellChecks}
use Rattle.salvage_model.specs.Judged.{lost_by}
use Rattle.row_salvage.specs.Missed.{UnderMissed}
use Rattle.row_salvage.specs.Calls.{AnswersParts, AnswersCell}
use Rattle.row_salvage.proofs.Missed.{under_none, under_more, under_fact}
use Rattle.row_salvage.proofs.ChainAnswers.{not_none}
use Rattle.row_salvage.proofs.ChainVerdict.{faulty}

-- a reader counts up to more
pub counts_to : (text : Reader) (few many : ℕ) → few ≤ many → CountsUpTo few text → CountsUpTo many text
counts_to Any few many le counts = counts
counts_to (Limited limit Bad) few many le counts = counts
counts_to (Limited limit (Good count pending)) few many le counts = omega (arith, le, counts)

module _ (file : List ℕ) (leaf : ℕ) (cell : CellView) where
  abbrev local : List ℕ
  local = local_bytes cell

  abbrev pub CellAnswers : List Bool → List Bool → Option Loss → (ℕ → Bool) → Type 0
  CellAnswers before after loss missed = AnswersCell file missed leaf cell before after loss

  -- it may not be written
  pub cell_unsound : (marks : List Bool) (f : ℕ) (fault : Fault) → ¬ (IsSound cell)
      → fault ≡ record { rule = rules.Value; page = leaf }
      → UnderMissed marks marks f f (CellAnswers marks marks (Some (Broken fault)))
  cell_unsound marks f fault bad is =
      under_none marks marks f f (CellAnswers marks marks (Some (Broken fault))) (omega arith)
      (λ missed. record {
        looked = [];
        judged = record {
          checks = inl (bad, faulty fault _ [] is);
          whole = λ e. not_none (Broken fault) ([] ≡ pages_of_cell file cell) e;
        };
        marked = marked_none marks;
      })

  -- it is null, or stands on the leaf
  abbrev pub StaysHere : Type 0
  StaysHere = (cell.place.null ≡ true) ⊎ (cell.place.external ≡ false)

  stays_apart : StaysHere → ¬ (GoesOn cell)
  stays_apart (inl null) goes = false≢true (sym goes.some_value ∙ null)
  stays_apart (inr near) goes = false≢true (sym near ∙ goes.external)

  no_pages : StaysHere → [] ≡ pages_of_cell file cell
  no_pages (inl null) =
      sym (ap (λ (b : Bool). pages_of_value file local (not b && cell.place.external)) null)
  no_pages (inr near) =
      sym (ap (λ (b : Bool). pages_of_value file local (not cell.place.null && b)) near ∙ by_null (cell.place.null))
    where
      by_null : (b : Bool) → pages_of_value file local (not b && false) ≡ []
      by_null true = refl
      by_null false = refl

  pub cell_near : (marks : List Bool) (f : ℕ) → IsSound cell → StaysHere
      → UnderMissed marks marks f f (CellAnswers marks marks None)
  cell_near marks f sound here =
      under_none marks marks f f (CellAnswers marks marks None) (omega arith)
      (λ missed. record {
        looked = [];
        judged = record {
          checks = (sound, λ goes. absurd (stays_apart here goes));
          whole = λ e. no_pages here;
        };
        marked = marked_none marks;
      })

  pub near_reads : IsSound cell → StaysHere → (value : Value) × ReadsValue file cell value
  near_reads sound here = by_null (cell.place.null) refl here where
    by_null : (b : Bool) → cell.place.null ≡ b → StaysHere → (value : Value) × ReadsValue file cell value
    by_null true null here = (
      Null,
      record {
        null = λ _. refl;
        local = λ some near. absurd (false≢true (sym some ∙ null));
        long = λ some external. absurd (false≢true (sym some ∙ null));
      },
    )
    by_null false some (inl null) = absurd (false≢true (sym some ∙ null))
    by_null false some (inr near) =
        let spelled = sound.local some near in (
          spelled.0,
          record {
            null = λ null. absurd (false≢true (sym some ∙ null));
            local = λ _ _. spelled.1;
            long = λ _ external. absurd (false≢true (sym near ∙ external));
          },
        )

  module _ (sound : IsSound cell) (goes : GoesOn cell) where
    pages_there : pages_of_cell file cell ≡ chain_pages file (reference_of local)
    pages_there =
        ap (λ (b : Bool). pages_of_value file local (not b && cell.place.external)) goes.some_value
        ∙ ap (pages_of_value file local) goes.external

    cell_checks : (missed : ℕ → Bool) (taken : ℕ → Bool) (v : Option Lost)
        → PartsChecks file missed (space_of cell.page) leaf cell.kind local taken v
        → CellChecks file missed leaf cell taken v
    cell_checks missed taken None checks = (sound, λ goes. checks)
    cell_checks missed taken (Some lost) checks = inr (sound, (goes, checks))

    -- the checks of another word for the same texts
    parts_same : (missed : ℕ → Bool) (space : ℕ) (reference : Reference) (taken : ℕ → Bool) (A B : List ℕ → Type 0)
        → ((bytes : List ℕ) → A bytes ↔ B bytes) → (v : Option Lost)
        → PartsChecksBy file missed space leaf reference taken A v
        → PartsChecksBy file missed space leaf reference taken B v
    unfolding PartsChecksBy
    parts_same missed space reference taken A B same None checks =
        (checks.0, (checks.1.0, (checks.1.1.0, (same (bytes_on file (chain_pages file reference))).0 checks.1.1.1)))
    parts_same missed space reference taken A B same (Some lost) (inl a) = inl a
    parts_same missed space reference taken A B same (Some lost) (inr (a, inl b)) = inr (a, inl b)
    parts_same missed space reference taken A B same (Some lost) (inr (a, inr (b, inl c))) = inr (a, inr (b, inl c))
    parts_same missed space reference taken A B same (Some lost) (inr (a, inr (b, inr (c, d)))) =
        inr (
          a,
          inr (
            b,
            inr (
              c,
              (
                (λ text. d.0 ((same (bytes_on file (chain_pages file reference))).1 text)),
                d.1,
              ),
            ),
          ),
        )

    -- what is read of it
    whole_reads : (missed : ℕ → Bool) (taken : ℕ → Bool)
        → PartsChecks file missed (space_of cell.page) leaf cell.kind local taken None
        → (value : Value) × ReadsValue file cell value
    unfolding PartsChecksBy chain_bytes
    whole_reads missed taken checks =
        let r = reference_of local in
        let pages = chain_pages file r in
        let each = checks.1.1.0 in
        let links = links_all file r (λ j d below. (each j d below).1.1.1.1) in
        let inside : All (λ p. p < page_count file) pages =
        λ k d below. let part = (each k d below).0.below in omega arith in
        let along = links_go_on file r.page r.length pages links inside in
        let due = bytes_due file pages r.page r.length along in
        let bytes = front_of local ++ bytes_on file pages in
        let fits = sound.long goes.some_value goes.external in
        let front_size : length (front_of local) ≡ length local - 20 =
        length-take-le (length local - 20) local (omega arith) in
        let size : length bytes ≡ stated_length local =
        omega (arith, length-append (front_of local) (bytes_on file pages), due, front_size) in
        let spelled = long_spells cell.kind bytes fits.long (omega (arith, size, fits.fits)) checks.1.1.1 in (
          spelled.0,
          record {
            null = λ null. absurd (false≢true (sym goes.some_value ∙ null));
            local = λ some near. absurd (false≢true (sym near ∙ goes.external));
            long = λ some external. record {
              fits = fits;
              follow = record { goes_on = along };
              size = size;
              spelled = spelled.1;
            };
          },
        )

    -- the answer of the checks of its chain
    module _ (before after : List Bool) (f h : ℕ) (text : Reader) (front : List ℕ) (space : ℕ) (reference : Reference)
        (space_is : space ≡ space_of cell.page) (reference_is : reference ≡ reference_of local)
        (front_is : front ≡ front_of local)
        (takes : (bytes : List ℕ) → TakesText text (front ++ bytes) ↔ IsTextOfKind cell.kind (front ++ bytes)) where
      abbrev pub ChainAnswers : Option Loss → (ℕ → Bool) → Type 0
      ChainAnswers loss missed =
          AnswersParts (PartsChecksBy file missed space leaf reference (is_set before)
          (λ bytes. TakesText text (front ++ bytes))) (chain_pages file reference) before after loss

      chain_checks : (missed : ℕ → Bool) (v : Option Lost)
          → PartsChecksBy file missed space leaf reference (is_set before) (λ bytes. TakesText text (front ++ bytes)) v
          → PartsChecks file missed (space_of cell.page) leaf cell.kind local (is_set before) v
      chain_checks missed v checks =
          let one = parts_same missed space reference (is_set before) (λ bytes. TakesText text (front ++ bytes))
          (IsTextBehind cell.kind local)
          (λ bytes. subst (λ (start : List ℕ).
          TakesText text (front ++ bytes) ↔ IsTextOfKind cell.kind (start ++ bytes)) front_is (takes bytes))
          v checks in
          let two = subst (λ (s : ℕ). PartsChecksBy file missed s leaf reference (is_set before)
          (IsTextBehind cell.kind local) v) space_is one in
          subst (λ (r : Reference). PartsChecksBy file missed (space_of cell.page) leaf r (is_set before)
          (IsTextBehind cell.kind local) v) reference_is two

      pub cell_long : (loss : Option Loss) → UnderMissed before after f h (ChainAnswers loss)
          → UnderMissed before after f h (CellAnswers before after loss)
      cell_long loss under =
          under_more before after f h (ChainAnswers loss) (CellAnswers before after loss)
          (λ missed a. record {
            looked = a.looked;
            judged = record {
              checks = cell_checks missed (is_set before) (lost_by loss a.looked)
                  (chain_checks missed (lost_by loss a.looked) a.checks);
              whole = λ none. a.whole none ∙ ap (chain_pages file) reference_is ∙ sym pages_there;
            };
            marked = a.marked;
          })
          under

      pub long_reads : UnderMissed before after f h (ChainAnswers None)
          → (value : Value) × ReadsValue file cell value
      long_reads under =
          under_fact before after f h ((value : Value) × ReadsValue file cell value)
          (under_more before after f h (ChainAnswers None) (λ missed. (value : Value) × ReadsValue file cell value)
          (λ missed a. whole_reads missed (is_set before) (chain_checks missed None a.checks)) under)

-- what holds of an answer if it is no error
pub if_ok : {A E : Type 0} (r : Result A E) (P : A → Type 0) → ((a : A) → r ≡ Ok a → P a) → IfOk r P
if_ok (Ok a) P each = each a refl
if_ok (Err e) P each = tt
