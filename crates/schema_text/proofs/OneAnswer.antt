-- The checks of a text have one answer.
use Rattle.std.proofs.Common.{◌≡◌, ℕ, zero, suc, ◌+◌, ◌<◌, ◌≤◌, Bool, true, false, List, [], length, take, get_or, All}
use Rattle.std.proofs.Common.{Option, Some, None, Result, Ok, Err, refl, sym, ap, ◌∙◌, subst, drop}
use Rattle.std.specs.Prelude.{MatchBool}
use Rattle.page_source.specs.Verdict.{Check, Then, Each}
use Rattle.page_source.proofs.Unique.{IsUnique, Check-unique, Then-unique, Each-unique, some_is_not_none}
use Rattle.schema_text.specs.declared.errors.SchemaWhy.{SchemaWhy}
use Rattle.schema_text.specs.declared.errors.SchemaWhy.TheVariants.{Size, End, Form, Name, Number, Count, Twice}
use Rattle.schema_text.specs.declared.errors.SchemaWhy.TheVariants.{Unknown, Key, Root}
use Rattle.schema_text.specs.declared.errors.SchemaError.{SchemaError}
use Rattle.schema_text.specs.declared.errors.SchemaError.TheVariants.{Refused, Memory}
use Rattle.schema_text.specs.TableDef.{TableDef}
use Rattle.schema_text.specs.Grammar.{IsName, IsTextOf}
use Rattle.schema_text.specs.Refusals.{BadLine, Line, word, type_part, lines_of, is_column_line, is_clustered_line}
use Rattle.schema_text.specs.Refusals.{is_index_line, IsTypePart, IsTableForm, IsColumnForm, IsClusteredForm}
use Rattle.schema_text.specs.Refusals.{IsIndexForm, IsNewColumn, IndexLine, clustered_line, index_line, IsRootWord}
use Rattle.schema_text.specs.Refusals.{HasCounts, HasNewNames, IsDeclared, HasKey, IsNewRoot, FirstChecks, ColumnChecks}
use Rattle.schema_text.specs.Refusals.{KeyChecks, ClusteredLineChecks, IndexLineChecks, NextChecks, BehindChecks}
use Rattle.schema_text.specs.Refusals.{AtLine, LineChecks, EndsWell, SchemaChecks, ReadsAs}
use Rattle.schema_text.specs.Laws.{IsReadBack}
use Rattle.schema_text.proofs.GoodTexts.{text_passes}
use Rattle.schema_text.proofs.OneSchema.{one_schema, one_table}

-- a check before others
before : (why : SchemaWhy) (holds : Type 0) (rest : Option SchemaWhy → Type 0) → IsUnique rest
    → IsUnique (Then (Check why holds) rest)
before why holds rest u = Then-unique (Check why holds) rest (Check-unique why holds) u

first_unique : (line : Line) → IsUnique (FirstChecks line)
unfolding FirstChecks
first_unique line =
    before Form (IsTableForm line) (Check Name (IsName (word line 1))) (Check-unique Name (IsName (word line 1)))

column_unique : (t : TableDef) (line : Line) → IsUnique (ColumnChecks t line)
unfolding ColumnChecks
column_unique t line =
    let twice = Check Twice (IsNewColumn t (word line 1)) in
    let count = Then (Check Count (length t.columns < 64)) twice in
    let number = Then (Check Number (IsTypePart (type_part line))) count in
    let name = Then (Check Name (IsName (word line 1))) number in
    before Form ((length t.indexes ≡ 0) × IsColumnForm line) name
    (before Name (IsName (word line 1)) number (before Number (IsTypePart (type_part line)) count
    (before Count (length t.columns < 64) twice (Check-unique Twice (IsNewColumn t (word line 1))))))

key_unique : (t : TableDef) (line : IndexLine) → IsUnique (KeyChecks t line)
unfolding KeyChecks
key_unique t line =
    let root = Check Root (IsNewRoot t line.root) in
    let key = Then (Check Key (HasKey t line.keys)) root in
    let unknown = Then (Check Unknown (All (IsDeclared t) line.keys)) key in
    let twice = Then (Check Twice (HasNewNames t line.name line.keys)) unknown in
    let count = Then (Check Count (HasCounts t line.keys)) twice in
    before Number (IsRootWord line.root) count (before Count (HasCounts t line.keys) twice
    (before Twice (HasNewNames t line.name line.keys) unknown (before Unknown (All (IsDeclared t) line.keys) key
    (before Key (HasKey t line.keys) root (Check-unique Root (IsNewRoot t line.root))))))

clustered_unique : (t : TableDef) (line : Line) → IsUnique (ClusteredLineChecks t line)
unfolding ClusteredLineChecks
clustered_unique t line =
    let key = KeyChecks t (clustered_line line) in
    let names = Then (Check Name (All IsName (drop 3 line))) key in
    before Form ((1 ≤ length t.columns) × (length t.indexes ≡ 0) × IsClusteredForm line) names
    (before Name (All IsName (drop 3 line)) key (key_unique t (clustered_line line)))

index_unique : (t : TableDef) (line : Line) → IsUnique (IndexLineChecks t line)
unfolding IndexLineChecks
index_unique t line =
    let key = KeyChecks t (index_line line) in
    let names = Then (Check Name (IsName (word line 1) × All IsName (drop 4 line))) key in
    before Form ((1 ≤ length t.indexes) × IsIndexForm line) names
    (before Name (IsName (word line 1) × All IsName (drop 4 line)) key (key_unique t (index_line line)))

next_unique : (t : TableDef) (line : Line) → IsUnique (NextChecks t line)
unfolding NextChecks
next_unique t line = by_word (is_column_line line) (is_clustered_line line) (is_index_line line)
  where
    by_word : (a b c : Bool) → IsUnique (λ (why : Option SchemaWhy). MatchBool a (ColumnChecks t line why)
        (MatchBool b (ClusteredLineChecks t line why) (MatchBool c (IndexLineChecks t line why) (Check Form ⊥ why))))
    by_word true b c = column_unique t line
    by_word false true c = clustered_unique t line
    by_word false false true = index_unique t line
    by_word false false false = Check-unique Form ⊥

behind_unique : (earlier : List Line) (line : Line) → IsUnique (BehindChecks earlier line)
behind_unique earlier line a b p q =
    let same : p.0 ≡ q.0 = one_table p.0 q.0 earlier p.1 q.1 in
    next_unique q.0 line a b (subst (λ (t : TableDef). NextChecks t line a) same p.2) q.2

at_unique : (number : ℕ) (checks : Option SchemaWhy → Type 0) → IsUnique checks → IsUnique (AtLine number checks)
at_unique number checks u None None p q = refl
at_unique number checks u None (Some b) p q = some_is_not_none b.why (sym (u None (Some b.why) p q.1))
at_unique number checks u (Some a) None p q = some_is_not_none a.why (u (Some a.why) None p.1 q)
at_unique number checks u (Some a) (Some b) p q =
    let both : Some a.why ≡ Some b.why = u (Some a.why) (Some b.why) p.1 q.1 in
    let why : a.why ≡ b.why = cc in
    ap (λ (n : ℕ). Some (record { line = n; why = a.why })) (p.0 ∙ sym q.0)
    ∙ ap (λ (w : SchemaWhy). Some (record { line = b.line; why = w })) why

line_unique : (lines : List Line) (k : ℕ) → IsUnique (LineChecks lines k)
unfolding LineChecks
line_unique lines zero = at_unique 1 (FirstChecks (get_or lines 0 [])) (first_unique (get_or lines 0 []))
line_unique lines (suc k) =
    at_unique (suc k + 1) (BehindChecks (take (suc k) lines) (get_or lines (suc k) []))
    (behind_unique (take (suc k) lines) (get_or lines (suc k) []))

pub text_unique : (text : List ℕ) → IsUnique (SchemaChecks text)
unfolding SchemaChecks
text_unique text =
    let lines = lines_of text in
    let size = AtLine 1 (Check Size (length text ≤ 65536)) in
    let each = Each (length lines) (LineChecks lines) in
    let end = AtLine (length lines + 1) (Check End (EndsWell text)) in
    Then-unique size (Then each end) (at_unique 1 (Check Size (length text ≤ 65536))
    (Check-unique Size (length text ≤ 65536)))
    (Then-unique each end (Each-unique (length lines) (LineChecks lines) (line_unique lines))
    (at_unique (length lines + 1) (Check End (EndsWell text)) (Check-unique End (EndsWell text))))

-- a schema's text isn't refused
pub not_refused : (t : TableDef) (text : List ℕ) (bad : BadLine) → IsTextOf t text → SchemaChecks text (Some bad) → ⊥
not_refused t text bad h refused =
    some_is_not_none bad (text_unique text (Some bad) None refused (text_passes t text h))

pub read_back : (t : TableDef) (text : List ℕ) (result : Result TableDef SchemaError) → IsTextOf t text
    → ReadsAs text result → IsReadBack t result
read_back t text (Ok u) h read = one_schema u t text read h
read_back t text (Err (Refused line why)) h read = not_refused t text (record { line = line; why = why }) h read
read_back t text (Err Memory) h read = tt
