-- The checks of a text have an answer.
use Rattle.std.proofs.Common.{◌≡◌, ℕ, zero, suc, ◌+◌, ◌<◌, ◌≤◌, Bool, true, false, List, [], ◌∷◌, ◌++◌, length, take}
use Rattle.std.proofs.Common.{drop, get_or, All, Option, Some, None, refl, sym, ap, ap₂, ◌∙◌, subst, inl, inr, arith}
use Rattle.std.specs.Prelude.{MatchBool, codes}
use Rattle.std.specs.List.{list_any}
use Rattle.std.proofs.lemmas.List.{take_more}
use Rattle.page_source.specs.Verdict.{Check, Then, AllBelow, Each}
use Rattle.page_source.proofs.Decided.{IsDecided, same_decided, both_decided, three_decided, number_decided}
use Rattle.page_source.proofs.Decided.{below_decided, most_decided}
use Rattle.page_source.proofs.Decided.{truth_decided, text_decided, all_decided}
use Rattle.page_source.proofs.Answered.{HasAnswer, Check-answered, Then-answered, Each-answered}
use Rattle.schema_text.specs.declared.errors.SchemaWhy.{SchemaWhy}
use Rattle.schema_text.specs.declared.errors.SchemaWhy.TheVariants.{Size, End, Form, Name, Number, Count, Twice}
use Rattle.schema_text.specs.declared.errors.SchemaWhy.TheVariants.{Unknown, Key, Root}
use Rattle.schema_text.specs.declared.table.Format.{Format}
use Rattle.schema_text.specs.declared.table.Format.TheVariants.{Compact, Dynamic}
use Rattle.schema_text.specs.TableDef.{TableDef}
use Rattle.schema_text.specs.Grammar.{IsName, format_word, schema_words}
use Rattle.schema_text.specs.Refusals.{BadLine, Line, word, type_part, lines_of, rest_of, is_column_line}
use Rattle.schema_text.specs.Refusals.{is_clustered_line, is_index_line, IsTypePart, IsTableForm, IsColumnForm}
use Rattle.schema_text.specs.Refusals.{IsClusteredForm, IsIndexForm, IsNewColumn, IndexLine, clustered_line, index_line}
use Rattle.schema_text.specs.Refusals.{IsRootWord, HasCounts, HasNewNames, IsDeclared, HasKey, IsNewRoot, FirstChecks}
use Rattle.schema_text.specs.Refusals.{ColumnChecks, KeyChecks, ClusteredLineChecks, IndexLineChecks, NextChecks}
use Rattle.schema_text.specs.Refusals.{AreLinesOf, BehindChecks, AtLine, LineChecks, EndsWell, SchemaChecks}
use Rattle.schema_text.proofs.PartLemmas.{part_begun, words_begun}
use Rattle.schema_text.proofs.GoodLines.{grow}
use Rattle.schema_text.proofs.Decisions.{name_decided, part_decided, table_form, column_form, clustered_form}
use Rattle.schema_text.proofs.Decisions.{index_form}
use Rattle.schema_text.proofs.Decisions.{new_column, declared_decided, root_word, counts_decided, new_names, new_root}
use Rattle.schema_text.proofs.Decisions.{key_decided}
use Rattle.schema_text.proofs.ReadLemmas.{three_words_are}

-- a check before others
before : (why : SchemaWhy) (holds : Type 0) (rest : Option SchemaWhy → Type 0) → IsDecided holds → HasAnswer rest
    → HasAnswer (Then (Check why holds) rest)
before why holds rest decided answer =
    Then-answered (Check why holds) rest (Check-answered why holds decided) (λ _. answer)

first_answered : (line : Line) → HasAnswer (FirstChecks line)
unfolding FirstChecks
first_answered line =
    before Form (IsTableForm line) (Check Name (IsName (word line 1))) (table_form line)
    (Check-answered Name (IsName (word line 1)) (name_decided (word line 1)))

column_answered : (t : TableDef) (line : Line) → HasAnswer (ColumnChecks t line)
unfolding ColumnChecks
column_answered t line =
    let twice = Check Twice (IsNewColumn t (word line 1)) in
    let count = Then (Check Count (length t.columns < 64)) twice in
    let number = Then (Check Number (IsTypePart (type_part line))) count in
    let name = Then (Check Name (IsName (word line 1))) number in
    before Form ((length t.indexes ≡ 0) × IsColumnForm line) name
    (both_decided (number_decided (length t.indexes) 0) (column_form line))
    (before Name (IsName (word line 1)) number (name_decided (word line 1))
    (before Number (IsTypePart (type_part line)) count (part_decided (type_part line))
    (before Count (length t.columns < 64) twice (below_decided (length t.columns) 64)
    (Check-answered Twice (IsNewColumn t (word line 1)) (new_column t (word line 1))))))

key_answered : (t : TableDef) (line : IndexLine) → HasAnswer (KeyChecks t line)
unfolding KeyChecks
key_answered t line =
    let root = Check Root (IsNewRoot t line.root) in
    let key = Then (Check Key (HasKey t line.keys)) root in
    let unknown = Then (Check Unknown (All (IsDeclared t) line.keys)) key in
    let twice = Then (Check Twice (HasNewNames t line.name line.keys)) unknown in
    let count = Then (Check Count (HasCounts t line.keys)) twice in
    before Number (IsRootWord line.root) count (root_word line.root)
    (before Count (HasCounts t line.keys) twice (counts_decided t line.keys)
    (before Twice (HasNewNames t line.name line.keys) unknown (new_names t line.name line.keys)
    (before Unknown (All (IsDeclared t) line.keys) key (all_decided (IsDeclared t) (declared_decided t) line.keys)
    (before Key (HasKey t line.keys) root (key_decided t line.keys)
    (Check-answered Root (IsNewRoot t line.root) (new_root t line.root))))))

clustered_answered : (t : TableDef) (line : Line) → HasAnswer (ClusteredLineChecks t line)
unfolding ClusteredLineChecks
clustered_answered t line =
    let key = KeyChecks t (clustered_line line) in
    let names = Then (Check Name (All IsName (drop 3 line))) key in
    before Form ((1 ≤ length t.columns) × (length t.indexes ≡ 0) × IsClusteredForm line) names
    (three_decided (most_decided 1 (length t.columns)) (number_decided (length t.indexes) 0) (clustered_form line))
    (before Name (All IsName (drop 3 line)) key (all_decided IsName name_decided (drop 3 line))
    (key_answered t (clustered_line line)))

index_answered : (t : TableDef) (line : Line) → HasAnswer (IndexLineChecks t line)
unfolding IndexLineChecks
index_answered t line =
    let key = KeyChecks t (index_line line) in
    let names = Then (Check Name (IsName (word line 1) × All IsName (drop 4 line))) key in
    before Form ((1 ≤ length t.indexes) × IsIndexForm line) names
    (both_decided (most_decided 1 (length t.indexes)) (index_form line))
    (before Name (IsName (word line 1) × All IsName (drop 4 line)) key
    (both_decided (name_decided (word line 1)) (all_decided IsName name_decided (drop 4 line)))
    (key_answered t (index_line line)))

next_answered : (t : TableDef) (line : Line) → HasAnswer (NextChecks t line)
unfolding NextChecks
next_answered t line = by_word (is_column_line line) (is_clustered_line line) (is_index_line line)
  where
    by_word : (a b c : Bool) → HasAnswer (λ (why : Option SchemaWhy). MatchBool a (ColumnChecks t line why)
        (MatchBool b (ClusteredLineChecks t line why) (MatchBool c (IndexLineChecks t line why) (Check Form ⊥ why))))
    by_word true b c = column_answered t line
    by_word false true c = clustered_answered t line
    by_word false false true = index_answered t line
    by_word false false false = Check-answered Form ⊥ (inr (λ h. h))

at_answered : (number : ℕ) (checks : Option SchemaWhy → Type 0) → HasAnswer checks → HasAnswer (AtLine number checks)
at_answered number checks answer = by_answer answer.0 answer.1
  where
    by_answer : (a : Option SchemaWhy) → checks a → HasAnswer (AtLine number checks)
    by_answer None h = (None, h)
    by_answer (Some why) h = (Some (record { line = number; why = why }), (refl, h))

-- the table of good lines
abbrev TableOf : List Line → Type 0
TableOf lines = (t : TableDef) × AreLinesOf t lines

begun : (line : Line) (format : Format) → FirstChecks line None → word line 2 ≡ format_word format
    → TableOf (line ∷ [])
unfolding FirstChecks
begun line format h e =
    let words = three_words_are line h.0.0
    ∙ ap₂ (λ (a b : List ℕ). a ∷ word line 1 ∷ b ∷ []) h.0.1 e in (
      record { table = word line 1; format = format; columns = []; indexes = [] },
      record {
        part = part_begun (word line 1) format h.1;
        spelled = ap (λ (w : Line). w ∷ []) words ∙ sym (words_begun (word line 1) format);
      },
    )

first_table : (line : Line) → FirstChecks line None → TableOf (line ∷ [])
unfolding FirstChecks
first_table line h = elim h.0.2 [ inl e ↦ begun line Compact h e | inr e ↦ begun line Dynamic h e ]

table_so_far : (lines : List Line) (k : ℕ) → k < length lines → LineChecks lines k None → TableOf (take (k + 1) lines)
unfolding LineChecks
table_so_far [] zero within h = absurd (omega (arith, within))
table_so_far (line ∷ lines) zero within h = first_table line h
table_so_far lines (suc k) within h =
    let t = h.0 in
    let line = get_or lines (suc k) [] in
    let grown = grow t line h.1.part h.2 in
    let whole : take (suc k + 1) lines ≡ schema_words t ++ line ∷ [] =
    take_more lines (suc k) [] within ∙ ap (λ (front : List Line). front ++ line ∷ []) h.1.spelled in
    (grown.0, record { part = grown.1.part; spelled = whole ∙ grown.1.spelled })

line_answered : (lines : List Line) (k : ℕ) → k < length lines → AllBelow (LineChecks lines) k
    → HasAnswer (LineChecks lines k)
unfolding LineChecks
line_answered lines zero within earlier =
    at_answered 1 (FirstChecks (get_or lines 0 [])) (first_answered (get_or lines 0 []))
line_answered lines (suc k) within earlier =
    let found = table_so_far lines k (omega (arith, within)) (earlier k (omega arith)) in
    let next : k + 1 ≡ suc k = omega arith in
    let are : AreLinesOf found.0 (take (suc k) lines) =
    subst (λ (n : ℕ). AreLinesOf found.0 (take n lines)) next found.1 in
    let answer = next_answered found.0 (get_or lines (suc k) []) in
    at_answered (suc k + 1) (BehindChecks (take (suc k) lines) (get_or lines (suc k) []))
    (answer.0, (found.0, are, answer.1))

end_decided : (text : List ℕ) → IsDecided (EndsWell text)
end_decided text =
    same_decided (λ h. record { whole = h.0; clustered = h.1 }) (λ h. (h.whole, h.clustered))
    (both_decided (text_decided (rest_of text) []) (truth_decided (list_any is_clustered_line (lines_of text)) true))

pub text_answered : (text : List ℕ) → HasAnswer (SchemaChecks text)
unfolding SchemaChecks
text_answered text =
    let lines = lines_of text in
    let each = Each (length lines) (LineChecks lines) in
    let end = AtLine (length lines + 1) (Check End (EndsWell text)) in
    Then-answered (AtLine 1 (Check Size (length text ≤ 65536))) (Then each end)
    (at_answered 1 (Check Size (length text ≤ 65536))
    (Check-answered Size (length text ≤ 65536) (most_decided (length text) 65536)))
    (λ _. Then-answered each end (Each-answered (length lines) (LineChecks lines) (line_answered lines))
    (λ _. at_answered (length lines + 1) (Check End (EndsWell text))
    (Check-answered End (EndsWell text) (end_decided text))))
