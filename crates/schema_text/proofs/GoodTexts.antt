-- A schema's text passes its checks, line after line.
use Rattle.std.proofs.Common.{◌≡◌, ℕ, zero, suc, ◌+◌, ◌-◌, ◌<◌, ◌≤◌, true, false, List, [], ◌∷◌, ◌++◌, length, map}
use Rattle.std.proofs.Common.{take, drop, get_or, All, Option, None, inl, inr, refl, sym, ap, ◌∙◌, subst, arith}
use Rattle.std.specs.Prelude.{IfSome}
use Rattle.std.specs.List.{list_any}
use Rattle.std.proofs.lemmas.Bool.{cases_lt}
use Rattle.std.proofs.lemmas.List.{append_assoc, get_or_at, get_or_default, get_or_append_left, get_or-drop}
use Rattle.std.proofs.lemmas.List.{get_or-take, length-append, length-drop, length-take-le, take-append-le, take_all}
use Rattle.std.proofs.lemmas.List.{take_at, take_more}
use Rattle.std.proofs.lemmas.Option.{slice_get-get_or}
use Rattle.page_source.specs.Verdict.{AllBelow}
use Rattle.schema_text.specs.declared.table.Column.{Column}
use Rattle.schema_text.specs.declared.table.IndexDef.{IndexDef}
use Rattle.schema_text.specs.TableDef.{TableDef, with_column, with_index, index_columns}
use Rattle.schema_text.specs.Grammar.{table_words, column_words, clustered_words, index_words, schema_words, IsName}
use Rattle.schema_text.specs.Grammar.{IsTable, IsTextOf}
use Rattle.schema_text.specs.Parts.{IsPart, IsNextColumn, IsNextIndex}
use Rattle.schema_text.specs.Refusals.{Line, lines_of, rest_of, is_clustered_line, FirstChecks, NextChecks, AreLinesOf}
use Rattle.schema_text.specs.Refusals.{LineChecks, SchemaChecks}
use Rattle.schema_text.proofs.ColumnCheckLemmas.{is_format}
use Rattle.schema_text.proofs.NextLines.{column_passes, clustered_passes, index_passes}
use Rattle.schema_text.proofs.PartLemmas.{part_begun, part_with_column, part_with_index, words_begun, words_with_column}
use Rattle.schema_text.proofs.PartLemmas.{words_with_first, words_with_more, length-schema_words}
use Rattle.schema_text.proofs.ReadBack.{no_column}
use Rattle.schema_text.proofs.ReadLemmas.{first_good}
use Rattle.schema_text.proofs.ReadingLemmas.{next_good, first_checked}
use Rattle.schema_text.proofs.WordsBack.{text_back}

-- the checks of a line speak of the lines up to it alone
same_checks : (lines more : List Line) (k : ℕ) → k < length lines → LineChecks lines k None
    → LineChecks (lines ++ more) k None
unfolding LineChecks
same_checks lines more zero below h =
    subst (λ (line : Line). FirstChecks line None) (sym (get_or_append_left lines more [] 0 below)) h
same_checks lines more (suc k) below h = (
  h.0,
  subst (AreLinesOf h.0) (sym (take-append-le (suc k) lines more (omega (arith, below)))) h.1,
  subst (λ (line : Line). NextChecks h.0 line None) (sym (get_or_append_left lines more [] (suc k) below)) h.2,
)

-- a table so far whose lines pass
record IsGood (t : TableDef) : Type 0 where
  pub part : IsPart t
  pub checked : AllBelow (LineChecks (schema_words t)) (length (schema_words t))

good_more : (t u : TableDef) (line : Line) → IsGood t → IsPart u → schema_words u ≡ schema_words t ++ line ∷ []
    → NextChecks t line None → IsGood u
good_more t u line good part words passes =
    let ws = schema_words t in
    let size : length (schema_words u) ≡ length ws + 1 = ap length words ∙ length-append ws (line ∷ []) in
    let are : AreLinesOf t (take (length ws) (ws ++ line ∷ [])) =
    record { part = good.part; spelled = take_at ws (line ∷ []) (length ws) refl } in
    let last : LineChecks (ws ++ line ∷ []) (length ws) None =
    next_good (ws ++ line ∷ []) (length ws) t (omega (arith, length-schema_words t)) are
    (subst (λ (l : Line). NextChecks t l None) (sym (get_or_at ws line [] [] (length ws) refl)) passes) in
    record {
      part = part;
      checked = λ j below. subst (λ (lines : List Line). LineChecks lines j None) (sym words)
          (elim (cases_lt j (length ws)) [
            | inl before ↦ same_checks ws (line ∷ []) j before (good.checked j before)
            | inr at ↦
                let here : length ws ≡ j = omega (arith, below, size, at) in
                subst (λ (k : ℕ). LineChecks (ws ++ line ∷ []) k None) here last
          ]);
    }

-- the table with its first columns, and with its first indexes
abbrev with_columns : TableDef → ℕ → TableDef
with_columns t k = record { table = t.table; format = t.format; columns = take k t.columns; indexes = [] }

abbrev with_indexes : TableDef → ℕ → TableDef
with_indexes t k =
    record { table = t.table; format = t.format; columns = t.columns; indexes = take k t.indexes }

begun_good : (t : TableDef) → IsTable t → IsGood (with_columns t 0)
begun_good t is =
    let begun = with_columns t 0 in
    let words = words_begun t.table t.format in
    record {
      part = part_begun t.table t.format is.name;
      checked = λ j below.
          first_checked (schema_words begun) j (omega (arith, below, ap length words))
          (subst (λ (lines : List Line). FirstChecks (get_or lines 0 []) None) (sym words)
          (first_good (table_words begun) (refl, refl, is_format _ t.format refl) is.name));
    }

next_column : (t : TableDef) (k : ℕ) → IsTable t → k < length t.columns
    → IsNextColumn (with_columns t k) (get_or t.columns k no_column)
next_column t k is within =
    let size = length-take-le k t.columns (omega (arith, within)) in
    record {
      name = is.column_names k no_column within;
      kind = is.kinds k no_column within;
      few = omega (arith, size, within, is.columns);
      new = λ j d below same. is.columns_differ j k no_column (omega (arith, below, size)) within
          (ap (λ (c : Column). c.name) (get_or_default t.columns j no_column d (omega (arith, below, size, within))
          ∙ sym (get_or-take k t.columns j d (omega (arith, below, size)))) ∙ same);
      before = refl;
    }

columns_good : (t : TableDef) (k : ℕ) → IsTable t → k ≤ length t.columns → IsGood (with_columns t k)
columns_good t zero is within = begun_good t is
columns_good t (suc k) is within =
    let before = with_columns t k in
    let good = columns_good t k is (omega (arith, within)) in
    let c = get_or t.columns k no_column in
    let next = next_column t k is (omega (arith, within)) in
    let grown : with_column before c ≡ with_columns t (suc k) =
    ap (λ (cs : List Column). record { table = t.table; format = t.format; columns = cs; indexes = [] })
    (sym (take_more t.columns k no_column (omega (arith, within)))
    ∙ ap (λ (n : ℕ). take n t.columns) (let e : k + 1 ≡ suc k = omega arith in e)) in
    subst IsGood grown (good_more before (with_column before c) (column_words c) good
    (part_with_column before c good.part next) (words_with_column before c refl) (column_passes before c next))

no_index : IndexDef
no_index = record { name = []; root = 0; columns = []; line = 0 }

-- an earlier index among the first ones
earlier : (indexes : List IndexDef) (k j : ℕ) (d : IndexDef) → j < k → k < length indexes
    → get_or (take k indexes) j d ≡ get_or indexes j no_index
earlier indexes k j d before within =
    get_or-take k indexes j d before ∙ get_or_default indexes j d no_index (omega (arith, before, within))

at_first : (P : IndexDef → Type 0) (indexes : List IndexDef) (k : ℕ) → k ≡ 0 → k < length indexes
    → All P (take 1 indexes) → P (get_or indexes k no_index)
at_first P indexes k none within h =
    let size = length-take-le 1 indexes (omega (arith, none, within)) in
    subst P (get_or-take 1 indexes 0 no_index (omega arith)
    ∙ ap (λ (n : ℕ). get_or indexes n no_index) (sym none)) (h 0 no_index (omega (arith, size)))

at_other : (P : IndexDef → Type 0) (indexes : List IndexDef) (k : ℕ) → 1 ≤ k → k < length indexes
    → All P (drop 1 indexes) → P (get_or indexes k no_index)
at_other P indexes k some within h =
    let place : 1 + (k - 1) ≡ k = omega (arith, some) in
    subst P (get_or-drop 1 indexes (k - 1) no_index ∙ ap (λ (n : ℕ). get_or indexes n no_index) place)
    (h (k - 1) no_index (omega (arith, some, within, length-drop 1 indexes)))

next_index : (t : TableDef) (k : ℕ) → IsTable t → k < length t.indexes
    → IsNextIndex (with_indexes t k) (get_or t.indexes k no_index)
next_index t k is within =
    let x = get_or t.indexes k no_index in
    let size = length-take-le k t.indexes (omega (arith, within)) in
    let key = is.keys k no_index within in
    record {
      behind = is.some_column;
      few = omega (arith, size, within, is.indexes);
      unnamed = λ none. at_first (λ (x : IndexDef). x.name ≡ []) t.indexes k (omega (arith, none, size)) within
          is.unnamed;
      named = λ some. at_other (λ (x : IndexDef). IsName x.name × (1 ≤ length x.columns)) t.indexes k
          (omega (arith, some, size)) within is.named;
      new = λ j d below same. is.indexes_differ j k no_index (omega (arith, below, size)) within
          (ap (λ (x : IndexDef). x.name) (sym (earlier t.indexes k j d (omega (arith, below, size)) within)) ∙ same);
      key = record { most = key.most; known = key.known; distinct = key.distinct; fits = key.fits };
      not_null = λ none. at_first (λ (x : IndexDef). All (λ (c : Column). c.nullable ≡ false) (index_columns t x))
          t.indexes k (omega (arith, none, size)) within is.not_null;
      root = is.roots k no_index within;
      new_root = λ j d below same. is.roots_differ j k no_index (omega (arith, below, size)) within
          (ap (λ (x : IndexDef). x.root) (sym (earlier t.indexes k j d (omega (arith, below, size)) within)) ∙ same);
      line =
          let is_line = subst (λ (o : Option IndexDef). IfSome o (λ x. x.line ≡ length t.columns + 2 + k))
          (slice_get-get_or t.indexes k no_index within) (is.lines k) in
          omega (arith, is_line, size);
    }

begun_indexes : (t : TableDef) → IsTable t → IsGood (with_indexes t 0)
begun_indexes t is =
    let all : with_columns t (length t.columns) ≡ with_indexes t 0 =
    ap (λ (cs : List Column). record { table = t.table; format = t.format; columns = cs; indexes = [] })
    (take_all (length t.columns) t.columns (omega arith)) in
    subst IsGood all (columns_good t (length t.columns) is (omega arith))

indexes_good : (t : TableDef) (k : ℕ) → IsTable t → k ≤ length t.indexes → IsGood (with_indexes t k)
indexes_good t zero is within = begun_indexes t is
indexes_good t (suc k) is within =
    let before = with_indexes t k in
    let good = indexes_good t k is (omega (arith, within)) in
    let x = get_or t.indexes k no_index in
    let next = next_index t k is (omega (arith, within)) in
    let part = part_with_index before x good.part next in
    let grown : with_index before x ≡ with_indexes t (suc k) =
    ap (λ (xs : List IndexDef). record { table = t.table; format = t.format; columns = t.columns; indexes = xs })
    (sym (take_more t.indexes k no_index (omega (arith, within)))
    ∙ ap (λ (n : ℕ). take n t.indexes) (let e : k + 1 ≡ suc k = omega arith in e)) in
    subst IsGood grown (elim (cases_lt 0 (length before.indexes)) [
      | inl some ↦
          good_more before (with_index before x) (index_words before x) good part
          (words_with_more before x (omega (arith, some))) (index_passes before x good.part next (omega (arith, some)))
      | inr empty ↦
          let none : length before.indexes ≡ 0 = omega (arith, empty) in
          good_more before (with_index before x) (clustered_words before x) good part (words_with_first before x none)
          (clustered_passes before x good.part next none)
    ])

all_good : (t : TableDef) → IsTable t → IsGood t
all_good t is =
    let all : with_indexes t (length t.indexes) ≡ t =
    ap (λ (xs : List IndexDef). record { table = t.table; format = t.format; columns = t.columns; indexes = xs })
    (take_all (length t.indexes) t.indexes (omega arith)) in
    subst IsGood all (indexes_good t (length t.indexes) is (omega arith))

-- a clustered line is among its lines
behind_columns : (columns : List Column) (lines : List Line)
    → list_any is_clustered_line (map column_words columns ++ lines) ≡ list_any is_clustered_line lines
behind_columns [] lines = refl
behind_columns (c ∷ columns) lines = behind_columns columns lines

has_clustered : (t : TableDef) → 1 ≤ length t.indexes → list_any is_clustered_line (schema_words t) ≡ true
unfolding schema_words
has_clustered t some =
    let first = map (clustered_words t) (take 1 t.indexes) in
    let others = map (index_words t) (drop 1 t.indexes) in
    ap (list_any is_clustered_line) (append_assoc (table_words t ∷ map column_words t.columns) first others)
    ∙ behind_columns t.columns (first ++ others) ∙ by_indexes t.indexes some
  where
    by_indexes : (indexes : List IndexDef) → 1 ≤ length indexes
        → list_any is_clustered_line (map (clustered_words t) (take 1 indexes) ++ map (index_words t) (drop 1 indexes))
        ≡ true
    by_indexes [] some = absurd (omega (arith, some))
    by_indexes (x ∷ indexes) some = refl

pub text_passes : (t : TableDef) (text : List ℕ) → IsTextOf t text → SchemaChecks text None
unfolding SchemaChecks
text_passes t text h =
    let good = all_good t h.is in
    let back = text_back t good.part in
    let lines : lines_of text ≡ schema_words t = ap lines_of h.text_is ∙ back.lines in (
      subst (λ (s : List ℕ). length s ≤ 65536) (sym h.text_is) h.is.short,
      (
        subst (λ (ls : List Line). AllBelow (LineChecks ls) (length ls)) (sym lines) good.checked,
        record {
          whole = ap rest_of h.text_is ∙ back.rest;
          clustered = ap (list_any is_clustered_line) lines ∙ has_clustered t h.is.clustered;
        },
      ),
    )
