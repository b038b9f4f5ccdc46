-- A text that is read line by line.
use Rattle.std.proofs.Common.{◌≡◌, ℕ, zero, suc, ◌+◌, ◌<◌, ◌≤◌, List, [], ◌∷◌, ◌++◌, length, take, get_or, Some, None}
use Rattle.std.proofs.Common.{Err, inl, inr, refl, sym, ap, ◌∙◌, subst, arith}
use Rattle.std.specs.List.{list_any}
use Rattle.std.proofs.lemmas.Bool.{cases_lt, false≢true}
use Rattle.std.proofs.lemmas.List.{append_assoc, append-nil, length-append, take_at, get_or_at}
use Rattle.page_source.specs.Verdict.{AllBelow}
use Rattle.schema_text.specs.declared.errors.SchemaWhy.{SchemaWhy}
use Rattle.schema_text.specs.declared.errors.SchemaWhy.TheVariants.{Size, End}
use Rattle.schema_text.specs.declared.errors.SchemaError.{SchemaError}
use Rattle.schema_text.specs.declared.errors.SchemaError.TheVariants.{Refused, Memory}
use Rattle.schema_text.specs.TableDef.{TableDef}
use Rattle.schema_text.specs.Grammar.{line_feed, schema_words, schema_text, IsTextOf}
use Rattle.schema_text.specs.Parts.{IsPart}
use Rattle.schema_text.specs.Refusals.{BadLine, Line, words_of, lines_of, rest_of, is_clustered_line, FirstChecks}
use Rattle.schema_text.specs.Refusals.{NextChecks, AreLinesOf, LineChecks, EndsWell, SchemaChecks, RefusedAt, ReadsAs}
use Rattle.schema_text.specs.Cuts.{Lacks}
use Rattle.schema_text.proofs.PartLemmas.{length-schema_words, part_is_table}
use Rattle.schema_text.proofs.TextLemmas.{lines_cut, rest_cut, lines_none, rest_none, text_more, text_begun}
use Rattle.schema_text.proofs.TextLemmas.{not_clustered}

-- the table so far, and what is left of the text
pub record IsReading (text rest : List ℕ) (t : TableDef) : Type 0 where
  pub fits : length text ≤ 65536
  pub part : IsPart t
  pub lines : lines_of text ≡ schema_words t ++ lines_of rest
  pub tail : rest_of text ≡ rest_of rest
  pub spelled : text ≡ schema_text t ++ rest
  pub checked : AllBelow (LineChecks (lines_of text)) (length (schema_words t))

-- the first line
pub first_checked : (lines : List Line) (j : ℕ) → j < 1 → FirstChecks (get_or lines 0 []) None → LineChecks lines j None
unfolding LineChecks
first_checked lines zero below h = h
first_checked lines (suc j) below h = absurd (omega arith)

first_refused : (lines : List Line) (bad : BadLine) → bad.line ≡ 1 → FirstChecks (get_or lines 0 []) (Some bad.why)
    → LineChecks lines 0 (Some bad)
unfolding LineChecks
first_refused lines bad e h = (e, h)

-- a line behind others
pub next_good : (lines : List Line) (k : ℕ) (t : TableDef) → 1 ≤ k → AreLinesOf t (take k lines)
    → NextChecks t (get_or lines k []) None → LineChecks lines k None
unfolding LineChecks
next_good lines zero t some are h = absurd (omega arith)
next_good lines (suc k) t some are h = (t, are, h)

next_bad : (lines : List Line) (k : ℕ) (t : TableDef) (bad : BadLine) → 1 ≤ k → AreLinesOf t (take k lines)
    → bad.line ≡ k + 1 → NextChecks t (get_or lines k []) (Some bad.why) → LineChecks lines k (Some bad)
unfolding LineChecks
next_bad lines zero t bad some are e h = absurd (omega arith)
next_bad lines (suc k) t bad some are e h = (e, (t, are, h))

pub reading_begun : (text line rest : List ℕ) (t : TableDef) → length text ≤ 65536 → text ≡ line ++ line_feed ∷ rest
    → Lacks line_feed line → AreLinesOf t (words_of line ∷ []) → FirstChecks (words_of line) None
    → IsReading text rest t
reading_begun text line rest t fits e lacks are first =
    let cut = lines_cut text line rest lacks e in
    let count : length (schema_words t) ≡ 1 = ap length (sym are.spelled) in
    let here : get_or (lines_of text) 0 [] ≡ words_of line = ap (λ ls. get_or ls 0 []) cut in
    record {
      fits = fits;
      part = are.part;
      lines = cut ∙ ap (λ ws. ws ++ lines_of rest) are.spelled;
      tail = rest_cut text line rest lacks e;
      spelled = e ∙ sym (append_assoc line (line_feed ∷ []) rest)
          ∙ ap (λ front. front ++ rest) (sym (text_begun t line (sym are.spelled)));
      checked = λ j below. first_checked (lines_of text) j (omega arith)
          (subst (λ w. FirstChecks w None) (sym here) first);
    }

-- the lines of a text that is cut once more
record IsNextCut (text rest line after : List ℕ) (t : TableDef) : Type 0 where
  pub lines : lines_of text ≡ schema_words t ++ words_of line ∷ lines_of after
  pub are : AreLinesOf t (take (length (schema_words t)) (lines_of text))
  pub here : get_or (lines_of text) (length (schema_words t)) [] ≡ words_of line
  pub some : 1 ≤ length (schema_words t)

next_cut : (text rest line after : List ℕ) (t : TableDef) → IsReading text rest t → rest ≡ line ++ line_feed ∷ after
    → Lacks line_feed line → IsNextCut text rest line after t
next_cut text rest line after t reading e lacks =
    let ws = schema_words t in
    let lines : lines_of text ≡ ws ++ words_of line ∷ lines_of after = reading.lines
    ∙ ap (λ ls. ws ++ ls) (lines_cut rest line after lacks e) in
    let front : take (length ws) (lines_of text) ≡ ws = ap (take (length ws)) lines
    ∙ take_at ws (words_of line ∷ lines_of after) (length ws) refl in
    record {
      lines = lines;
      are = record { part = reading.part; spelled = front };
      here = ap (λ ls. get_or ls (length ws) []) lines
          ∙ get_or_at ws (words_of line) (lines_of after) [] (length ws) refl;
      some = omega (arith, length-schema_words t);
    }

pub reading_more : (text rest line after : List ℕ) (t u : TableDef) → IsReading text rest t
    → rest ≡ line ++ line_feed ∷ after → Lacks line_feed line → AreLinesOf u (schema_words t ++ words_of line ∷ [])
    → NextChecks t (words_of line) None → IsReading text after u
reading_more text rest line after t u reading e lacks are checks =
    let ws = schema_words t in
    let cut = next_cut text rest line after t reading e lacks in
    let count : length (schema_words u) ≡ length ws + 1 = ap length (sym are.spelled)
    ∙ length-append ws (words_of line ∷ []) in
    let here : LineChecks (lines_of text) (length ws) None =
    next_good (lines_of text) (length ws) t cut.some cut.are (subst (λ w. NextChecks t w None) (sym cut.here) checks) in
    record {
      fits = reading.fits;
      part = are.part;
      lines = cut.lines ∙ sym (append_assoc ws (words_of line ∷ []) (lines_of after))
          ∙ ap (λ front. front ++ lines_of after) are.spelled;
      tail = reading.tail ∙ rest_cut rest line after lacks e;
      spelled =
          reading.spelled ∙ ap (λ r. schema_text t ++ r) (e ∙ sym (append_assoc line (line_feed ∷ []) after))
          ∙ sym (append_assoc (schema_text t) (line ++ line_feed ∷ []) after)
          ∙ ap (λ front. front ++ after) (sym (text_more t u line (sym are.spelled)));
      checked = λ j below. elim (cases_lt j (length ws)) [
        | inl before ↦ reading.checked j before
        | inr at ↦ let same : length ws ≡ j = omega (arith, below, count, at) in
            subst (λ k. LineChecks (lines_of text) k None) same here
      ];
    }

-- the refusals
pub refuse_size : (text : List ℕ) → 65536 < length text → SchemaChecks text (Some (record { line = 1; why = Size }))
unfolding SchemaChecks
refuse_size text long = inl (refl, (λ h. omega arith, refl))

pub refuse_none : (text : List ℕ) → length text ≤ 65536 → Lacks line_feed text
    → SchemaChecks text (Some (record { line = 1; why = End }))
unfolding SchemaChecks
refuse_none text fits lacks =
    let none = lines_none text lacks in
    let count : length (lines_of text) ≡ 0 = ap length none in
    inr (
      fits,
      inr (
        (λ j below. absurd (omega (arith, below, count))),
        (
          omega (arith, count),
          (
            λ e. absurd (false≢true
                (ap (list_any is_clustered_line) (sym none) ∙ e.clustered)),
            refl,
          ),
        ),
      ),
    )

pub refuse_first : (text line rest : List ℕ) (l : ℕ) (why : SchemaWhy) → length text ≤ 65536
    → text ≡ line ++ line_feed ∷ rest → Lacks line_feed line → l ≡ 1 → FirstChecks (words_of line) (Some why)
    → SchemaChecks text (Some (record { line = l; why = why }))
unfolding SchemaChecks
refuse_first text line rest l why fits e lacks one h =
    let cut = lines_cut text line rest lacks e in
    let here : get_or (lines_of text) 0 [] ≡ words_of line = ap (λ ls. get_or ls 0 []) cut in
    let count = ap length cut in
    inr (
      fits,
      inl (
        0,
        omega (arith, count),
        (λ j below. absurd (omega arith)),
        first_refused (lines_of text)
            (record { line = l; why = why }) one (subst (λ w. FirstChecks w (Some why)) (sym here) h),
      ),
    )

pub refuse_line : (text rest line after : List ℕ) (t : TableDef) (l : ℕ) (why : SchemaWhy) → IsReading text rest t
    → rest ≡ line ++ line_feed ∷ after → Lacks line_feed line → l ≡ length t.columns + length t.indexes + 2
    → NextChecks t (words_of line) (Some why) → SchemaChecks text (Some (record { line = l; why = why }))
unfolding SchemaChecks
refuse_line text rest line after t l why reading e lacks place h =
    let ws = schema_words t in
    let cut = next_cut text rest line after t reading e lacks in
    let count = ap length cut.lines ∙ length-append ws (words_of line ∷ lines_of after) in
    let size = length-schema_words t in
    inr (
      reading.fits,
      inl (
        length ws,
        omega (arith, count),
        reading.checked,
        next_bad (lines_of text) (length ws) t (record {
          line = l;
          why = why;
        }) cut.some cut.are (omega (arith, size, place))
            (subst (λ w. NextChecks t w (Some why)) (sym cut.here) h),
      ),
    )

pub refuse_end : (text rest : List ℕ) (t : TableDef) (l : ℕ) → IsReading text rest t → Lacks line_feed rest
    → l ≡ length t.columns + length t.indexes + 2 → (rest ≡ [] → 1 ≤ length t.indexes → ⊥)
    → SchemaChecks text (Some (record { line = l; why = End }))
unfolding SchemaChecks
refuse_end text rest t l reading lacks place bad =
    let ws = schema_words t in
    let lines : lines_of text ≡ ws = reading.lines ∙ ap (λ ls. ws ++ ls) (lines_none rest lacks) ∙ append-nil ws in
    let count = ap length lines in
    let size = length-schema_words t in
    let ends : EndsWell text → ⊥ = λ e.
    elim (cases_lt 0 (length t.indexes)) [
      | inl some ↦ bad (sym (reading.tail ∙ rest_none rest lacks) ∙ e.whole) (omega arith)
      | inr none ↦ false≢true (sym (not_clustered t (omega arith)) ∙ ap (list_any is_clustered_line) (sym lines)
          ∙ e.clustered)
    ] in
    inr (
      reading.fits,
      inr (
        (λ j below. reading.checked j (omega (arith, below, count))),
        (
          omega (
            arith,
            count,
            size,
            place,
          ),
          (ends, refl),
        ),
      ),
    )

pub accept : (text rest : List ℕ) (t : TableDef) → IsReading text rest t → rest ≡ [] → 1 ≤ length t.indexes
    → IsTextOf t text
accept text rest t reading none some =
    let text_is : text ≡ schema_text t = reading.spelled ∙ ap (λ r. schema_text t ++ r) none
    ∙ append-nil (schema_text t) in
    record {
      is = part_is_table t reading.part some (subst (λ s. length s ≤ 65536) text_is reading.fits);
      text_is = text_is;
    }

-- what a reader answers to a line that is refused
pub read_first_error : (text line rest : List ℕ) (error : SchemaError) → length text ≤ 65536
    → text ≡ line ++ line_feed ∷ rest → Lacks line_feed line → RefusedAt 1 (FirstChecks (words_of line)) error
    → ReadsAs text (Err error)
read_first_error text line rest (Refused l why) fits e lacks h = refuse_first text line rest l why fits e lacks h.0 h.1
read_first_error text line rest Memory fits e lacks h = tt

pub read_line_error : (text rest line after : List ℕ) (t : TableDef) (error : SchemaError) → IsReading text rest t
    → rest ≡ line ++ line_feed ∷ after → Lacks line_feed line
    → RefusedAt (length t.columns + length t.indexes + 2) (NextChecks t (words_of line)) error
    → ReadsAs text (Err error)
read_line_error text rest line after t
    (Refused l why) reading e lacks h = refuse_line text rest line after t l why reading e lacks h.0 h.1
read_line_error text rest line after t Memory reading e lacks h = tt
