-- A text whose lines are all good, and the table that they spell.
use Rattle.std.proofs.Common.{◌≡◌, ℕ, zero, suc, ◌+◌, ◌-◌, ◌≤◌, Bool, true, false, List, [], ◌∷◌, ◌++◌, length, map}
use Rattle.std.proofs.Common.{take, get_or, All, Option, Some, None, inl, inr, refl, sym, ap, ◌∙◌, subst, arith}
use Rattle.std.specs.Prelude.{position, bytes_eq, codes, flat_map, MatchBool}
use Rattle.std.proofs.Common.{eqb, ◌||◌}
use Rattle.std.specs.List.{list_any, slice_split, join_with_byte}
use Rattle.std.proofs.lemmas.List.Splits.{join_with_byte-slice_split}
use Rattle.std.proofs.lemmas.Bool.{cases_lt, false≢true}
use Rattle.std.proofs.lemmas.List.{append_assoc, append-nil, length-drop, take_more, take_all}
use Rattle.std.proofs.lemmas.List.Elements.{All-head, All-tail}
use Rattle.std.proofs.lemmas.Slice.Eq.{bytes_eq-Decides}
use Rattle.schema_text.specs.declared.table.Column.{Column}
use Rattle.schema_text.specs.declared.table.IndexDef.{IndexDef}
use Rattle.schema_text.specs.TableDef.{TableDef, with_column, with_index}
use Rattle.schema_text.specs.Grammar.{line_feed, line_of, IsTextOf, nullity_word, schema_words, schema_text}
use Rattle.schema_text.specs.Parts.{IsPart}
use Rattle.schema_text.specs.Refusals.{Line, word, words_of, lines_of, rest_of, FirstChecks, LineChecks, EndsWell}
use Rattle.schema_text.specs.Refusals.{SchemaChecks, last_word, is_column_line, is_clustered_line, is_index_line}
use Rattle.schema_text.specs.Refusals.{IsNullityWord, IndexLine, clustered_line, index_line, KeyChecks, ColumnChecks}
use Rattle.schema_text.specs.Refusals.{ClusteredLineChecks, IndexLineChecks, NextChecks, AreLinesOf}
use Rattle.schema_text.specs.Cuts.{IsAmong, IsPlaceOf, ArePlacesOf, IsIndexRead}
use Rattle.schema_text.proofs.PartLemmas.{part_is_table, no_member}
use Rattle.schema_text.proofs.TextLemmas.{joined_words, some_pieces, not_clustered}
use Rattle.schema_text.proofs.NameLemmas.{not_missed}
use Rattle.schema_text.proofs.ColumnCheckLemmas.{column_read}
use Rattle.schema_text.proofs.IndexLemmas.{next_index, clustered_line_is, index_line_is, column_added, clustered_added}
use Rattle.schema_text.proofs.IndexLemmas.{index_added}

-- a table with the line
abbrev Grown : TableDef → Line → Type 0
Grown t line = (u : TableDef) × AreLinesOf u (schema_words t ++ line ∷ [])

nullity_of : (w : List ℕ) → IsNullityWord w → (b : Bool) × (w ≡ nullity_word b)
nullity_of w h = elim h [ inl e ↦ (true, e) | inr e ↦ (false, e) ]

grow_column : (t : TableDef) (line : Line) → IsPart t → is_column_line line ≡ true → ColumnChecks t line None
    → Grown t line
unfolding ColumnChecks
grow_column t line part first h =
    let nullity = nullity_of (last_word line) h.0.1.2 in
    let kind = h.1.1.0 in
    let read = column_read t line kind.0 nullity.0 part first
    (record {
      before = h.0.0;
      long = h.0.1.0;
      type = (kind.1, kind.2);
      nullity = nullity.1;
    }) h.1.0 h.1.1.1.0 h.1.1.1.1 in
    (with_column t _, column_added t _ line _ part read.next read.spelled refl)

place_found : (columns : List Column) (name : List ℕ) → IsAmong columns name → (p : ℕ) × IsPlaceOf columns name p
place_found columns name there = by_answer (position (λ (c : Column). bytes_eq c.name name) columns) refl
  where
    by_answer : (o : Option ℕ) → o ≡ position (λ (c : Column). bytes_eq c.name name) columns
        → (p : ℕ) × IsPlaceOf columns name p
    by_answer None e = absurd (not_missed columns name there e)
    by_answer (Some p) e = (p, sym e)

places_found : (columns : List Column) (names : Line) → All (IsAmong columns) names
    → (places : List ℕ) × ArePlacesOf columns names places
places_found columns [] h = ([], tt)
places_found columns (n ∷ names) h =
    let first = place_found columns n (All-head (IsAmong columns) n names h) in
    let rest = places_found columns names (All-tail (IsAmong columns) n names h) in
    (first.0 ∷ rest.0, (first.1, rest.1))

-- the index that a line states
index_read : (t : TableDef) (line : IndexLine) → KeyChecks t line None → (x : IndexDef) × IsIndexRead t line x
unfolding KeyChecks
index_read t line h =
    let root = h.0 in
    let places = places_found t.columns line.keys h.1.1.1.0 in
    let x : IndexDef = record {
      name = line.name;
      root = root.0;
      columns = places.0;
      line = length t.columns + 2 + length t.indexes;
    } in
    (x, record { name = refl; root = root.1; is_root = root.2; number = refl; places = places.1; checked = h })

grow_clustered : (t : TableDef) (line : Line) → IsPart t → is_clustered_line line ≡ true
    → ClusteredLineChecks t line None → Grown t line
unfolding ClusteredLineChecks
grow_clustered t line part first h =
    let form = h.0 in
    let read = index_read t (clustered_line line) h.1.1 in
    let next = next_index t (clustered_line line) read.0 read.1 form.0 (λ _. refl)
    (λ some. absurd (omega (arith, form.1, some))) in
    let word_is : word line 0 ≡ codes "clustered" = (bytes_eq-Decides (word line 0) (codes "clustered")).0 first in
    let spelled = clustered_line_is t line read.0 form.2.0 word_is form.2.1 read.1.root read.1.places in
    (with_index t read.0, clustered_added t _ line read.0 part next form.1 spelled refl)

grow_index : (t : TableDef) (line : Line) → IsPart t → is_index_line line ≡ true → IndexLineChecks t line None
    → Grown t line
unfolding IndexLineChecks
grow_index t line part first h =
    let form = h.0 in
    let read = index_read t (index_line line) h.1.1 in
    let keys = length-drop 4 line in
    let next = next_index t (index_line line) read.0 read.1 (part.indexes.behind form.0)
    (λ none. absurd (omega (arith, form.0, none))) (λ _. (h.1.0.0, omega (arith, form.1.0, keys))) in
    let word_is : word line 0 ≡ codes "index" = (bytes_eq-Decides (word line 0) (codes "index")).0 first in
    let spelled = index_line_is t line read.0 form.1.0 word_is (sym read.1.name) form.1.1 read.1.root read.1.places in
    (with_index t read.0, index_added t _ line read.0 part next form.0 spelled refl)

-- a good line makes one more line of a table
pub grow : (t : TableDef) (line : Line) → IsPart t → NextChecks t line None → Grown t line
unfolding NextChecks
grow t line part h = by_word (is_column_line line) (is_clustered_line line) (is_index_line line) refl refl refl h
  where
    by_word : (a b c : Bool) → is_column_line line ≡ a → is_clustered_line line ≡ b → is_index_line line ≡ c
        → MatchBool a (ColumnChecks t line None)
        (MatchBool b (ClusteredLineChecks t line None) (MatchBool c (IndexLineChecks t line None) ⊥)) → Grown t line
    by_word true b c ea eb ec h = grow_column t line part ea h
    by_word false true c ea eb ec h = grow_clustered t line part eb h
    by_word false false true ea eb ec h = grow_index t line part ec h
    by_word false false false ea eb ec h = absurd h

-- the lines and what follows the last one make the text
pieces_text : (x : List ℕ) (ps : List (List ℕ))
    → join_with_byte line_feed (x ∷ ps) ≡ flat_map line_of (map words_of (take (length (x ∷ ps) - 1) (x ∷ ps)))
    ++ get_or (x ∷ ps) (length (x ∷ ps) - 1) []
pieces_text x [] = refl
pieces_text x (y ∷ ps) =
    let shorter : suc (suc (length ps)) - 1 ≡ suc (suc (length ps) - 1) = omega arith in
    let rest = take (length (y ∷ ps) - 1) (y ∷ ps) in
    let last = get_or (y ∷ ps) (length (y ∷ ps) - 1) [] in
    ap (λ t. x ++ line_feed ∷ t) (pieces_text y ps)
    ∙ sym (append_assoc (x ++ line_feed ∷ []) (flat_map line_of (map words_of rest)) last
    ∙ append_assoc x (line_feed ∷ []) (flat_map line_of (map words_of rest) ++ last))
    ∙ ap (λ l. ((l ++ line_feed ∷ []) ++ flat_map line_of (map words_of rest)) ++ last) (sym (joined_words x))
    ∙ sym (ap (λ (n : ℕ). flat_map line_of (map words_of (take n (x ∷ y ∷ ps))) ++ get_or (x ∷ y ∷ ps) n []) shorter)

pub text_of_lines : (text : List ℕ) → text ≡ flat_map line_of (lines_of text) ++ rest_of text
unfolding lines_of rest_of
text_of_lines text = sym (join_with_byte-slice_split line_feed text)
    ∙ by_pieces (slice_split (λ b. eqb b line_feed) text) (some_pieces text)
  where
    by_pieces : (ps : List (List ℕ)) → 1 ≤ length ps
        → join_with_byte line_feed ps ≡ flat_map line_of (map words_of (take (length ps - 1) ps))
        ++ get_or ps (length ps - 1) []
    by_pieces [] some = absurd (omega arith)
    by_pieces (x ∷ ps) some = pieces_text x ps

-- a table whose lines are these, with no rest
spelled_by : (text : List ℕ) (t : TableDef) → AreLinesOf t (lines_of text) → length text ≤ 65536 → EndsWell text
    → IsTextOf t text
unfolding schema_text
spelled_by text t are fits ends =
    let text_is : text ≡ flat_map line_of (schema_words t) = text_of_lines text
    ∙ ap (λ r. flat_map line_of (lines_of text) ++ r) ends.whole ∙ append-nil (flat_map line_of (lines_of text))
    ∙ ap (flat_map line_of) are.spelled in
    let some : 1 ≤ length t.indexes =
    elim (cases_lt 0 (length t.indexes)) [
      | inl h ↦ omega (arith, h)
      | inr h ↦ absurd (false≢true (sym (not_clustered t (omega (arith, h)))
          ∙ ap (list_any is_clustered_line) (sym are.spelled) ∙ ends.clustered))
    ] in
    record { is = part_is_table t are.part some (subst (λ s. length s ≤ 65536) text_is fits); text_is = text_is }

-- the only line of a text is no clustered one
lone_line : (lines : List Line) → length lines ≡ 1 → FirstChecks (get_or lines 0 []) None
    → list_any is_clustered_line lines ≡ false
unfolding FirstChecks
lone_line (line ∷ []) size h = ap (λ w. bytes_eq w (codes "clustered") || false) h.0.1
lone_line [] size h = absurd (omega arith)
lone_line (a ∷ b ∷ lines) size h = absurd (omega arith)

last_checked : (lines : List Line) (k : ℕ) → length lines ≡ k + 1 → list_any is_clustered_line lines ≡ true
    → LineChecks lines k None → (t : TableDef) × AreLinesOf t lines
unfolding LineChecks
last_checked lines zero size clustered h = absurd (false≢true (sym (lone_line lines (size ∙ refl) h) ∙ clustered))
last_checked lines (suc k) size clustered h =
    let t = h.0 in
    let line = get_or lines (suc k) [] in
    let grown = grow t line h.1.part h.2 in
    let whole : schema_words t ++ line ∷ [] ≡ lines =
    ap (λ front. front ++ line ∷ []) (sym h.1.spelled) ∙ sym (take_more lines (suc k) [] (omega (arith, size)))
    ∙ take_all (suc k + 1) lines (omega (arith, size)) in
    (grown.0, record { part = grown.1.part; spelled = sym whole ∙ grown.1.spelled })

pub good_lines : (text : List ℕ) → SchemaChecks text None → (t : TableDef) × IsTextOf t text
unfolding SchemaChecks
good_lines text h =
    let lines = lines_of text in
    elim (cases_lt 0 (length lines)) [
      | inl some ↦
          let last = last_checked lines (length lines - 1) (omega (arith, some)) h.1.1.clustered
          (h.1.0 (length lines - 1) (omega (arith, some))) in
          (last.0, spelled_by text last.0 last.1 h.0 h.1.1)
      | inr none ↦ absurd (false≢true (ap (list_any is_clustered_line) (sym (no_member lines (omega (arith, none))))
          ∙ h.1.1.clustered))
    ]
