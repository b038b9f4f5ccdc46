-- What is built of the lines of the made rows is their file, and its dump are these lines.
use Rattle.std.proofs.Common.{◌≡◌, ℕ, ◌+◌, ◌<◌, ◌≤◌, List, [], ◌++◌, length, map, get_or, Option, Some, None, All}
use Rattle.std.proofs.Common.{Result}
use Rattle.std.proofs.Common.{Ok, Err, refl, sym, ap, ap₂, ◌∙◌, subst, arith}
use Rattle.std.specs.List.{range_with_len}
use Rattle.std.specs.Option.{unwrap_or}
use Rattle.std.specs.FinMap.{empty}
use Rattle.std.proofs.lemmas.List.Elements.{All-from_get_or}
use Rattle.std.proofs.lemmas.List.FromFn.{length-map-range_with_len, get_or-map-range_with_len}
use Rattle.std.proofs.lemmas.List.Sums.{sum_by-le}
use Rattle.page_source.specs.Objects.{PageMap, Store, file_of}
use Rattle.page_source.specs.Sources.{SparseFile}
use Rattle.page_source.proofs.Unique.{Check-unique, Each-unique, some_is_not_none}
use Rattle.schema_text.specs.Grammar.{line_feed}
use Rattle.schema_text.specs.Cuts.{Lacks}
use Rattle.schema_text.specs.TableDef.{TableDef}
use Rattle.row_text.specs.Laws.{HasOneRow}
use Rattle.row_text.specs.Line.{IsLineOf, text_of}
use Rattle.sql_dump.specs.Dump.{IsDumpOf, GrewByDump}
use Rattle.sql_dump.specs.Laws.{SoundFilesHaveOneDump}
use Rattle.row_store.specs.StoredRows.{Rows}
use Rattle.space_builder.specs.layout.Layout.{FitsSpace, layout_extents, layout_file, layout_size, layout_map}
use Rattle.space_builder.specs.declared.built.Built.{Built}
use Rattle.space_builder.specs.declared.built.BuildStop.{BuildStop}
use Rattle.space_builder.specs.declared.built.BuildStop.TheVariants.{RootPlace, RowsRefused, Full}
use Rattle.row_store.specs.declared.stop.RowsWhy.{RowsWhy}
use Rattle.space_builder.specs.build.Build.{Builds, HoldsLayout, OfRows}
use Rattle.space_builder.specs.build.Laws.{GoodTextsBuildValid}
use Rattle.row_store.specs.BadLine.{BadRow, RowChecks, RowsChecks, AreRowsOf}
use Rattle.space_builder.specs.build.RootOrder.{RootOrderChecks}
use Rattle.space_builder.proofs.Outcomes.{row_once}
use Rattle.sample_table.specs.Sample.{sample_table, sample_rows}
use Rattle.sample_table.specs.Answers.{IsSampleFile, bytes_of}
use Rattle.sample_table.proofs.Table.{is_table, roots_in_order}
use Rattle.sample_table.proofs.MadeRows.{length-rows, row_at, rise}
use Rattle.sample_table.proofs.Lines.{bare_line, has_line, line_short, line_lacks}
use Rattle.sample_table.proofs.Fits.{fitted_rows}
use Rattle.sample_table.proofs.Texts.{HaveLines, rows_of_text, one_rows}

-- the lines of the rows 1 to n
lines : ℕ → List (List ℕ)
lines n = map bare_line (range_with_len 1 n)

length-lines : (n : ℕ) → length (lines n) ≡ n
unfolding lines
length-lines n = length-map-range_with_len bare_line 1 n

line_at : (n r : ℕ) → r < n → get_or (lines n) r [] ≡ bare_line (r + 1)
unfolding lines
line_at n r inside = get_or-map-range_with_len bare_line 1 n r (r + 1) [] inside (omega arith)

of_lines : (P : List ℕ → Type 0) (n : ℕ) → ((i : ℕ) → i ≤ n → P (bare_line i)) → All P (lines n)
of_lines P n each =
    let size = length-lines n in
    All-from_get_or P (lines n) []
    (λ r inside. subst P (sym (line_at n r (omega arith))) (each (r + 1) (omega arith)))

short_lines : (n : ℕ) → n ≤ 200000 → All (λ (line : List ℕ). length line + 1 ≤ 20061) (lines n)
short_lines n few =
    of_lines (λ (line : List ℕ). length line + 1 ≤ 20061) n
    (λ i inside. let short = line_short i (omega arith) in omega arith)

have_lines : (n : ℕ) → n ≤ 200000 → HaveLines sample_table (sample_rows n) (lines n)
have_lines n few = record {
  count = length-lines n ∙ sym (length-rows n);
  each = λ r inside.
      let size = length-rows n in
      subst (λ row. IsLineOf sample_table row (get_or (lines n) r [])) (sym (row_at n r (omega arith)))
      (subst (IsLineOf sample_table _) (sym (line_at n r (omega arith))) (has_line (r + 1) (omega arith)));
  lack = of_lines (Lacks line_feed) n (λ i inside. line_lacks i (omega arith));
  short = of_lines (λ (line : List ℕ). length line + 1 ≤ 16777216) n
      (λ i inside. let short = line_short i (omega arith) in omega arith);
  total = let size = length-lines n in
      let sum = sum_by-le (λ (line : List ℕ). length line + 1) 20061 (lines n) (short_lines n few) in
      omega arith;
  rise = rise n few;
  fitted = fitted_rows n;
}

-- their text is good, and theirs alone
pub good_text : HasOneRow → (n : ℕ) → n ≤ 200000
    → AreRowsOf sample_table (text_of sample_table (sample_rows n)) (sample_rows n)
good_text one n few = rows_of_text one sample_table is_table (sample_rows n) (lines n) (have_lines n few)

-- so no root and no line is refused
pub no_bad_root : (line : ℕ) → RootOrderChecks sample_table (Some line) → ⊥
no_bad_root line bad =
    some_is_not_none line
    (Each-unique _ _ (λ k. Check-unique _ _) (Some line) None bad (λ j inside. roots_in_order j inside))

pub no_bad_line : HasOneRow → (n : ℕ) → n ≤ 200000 → (bad : BadRow)
    → RowsChecks sample_table (text_of sample_table (sample_rows n)) (Some bad) → ⊥
no_bad_line one n few bad broken =
    some_is_not_none bad
    (Each-unique _ (RowChecks sample_table (text_of sample_table (sample_rows n)))
    (row_once sample_table (text_of sample_table (sample_rows n))) (Some bad) None broken (good_text one n few).good)

-- what is so of the rows of this text is so of these
pub of_made : HasOneRow → (n : ℕ) → n ≤ 200000 → (Fact : Rows → Type 0)
    → OfRows sample_table (Some (text_of sample_table (sample_rows n))) Fact → Fact (sample_rows n)
of_made one n few Fact has =
    subst Fact
    (one_rows one sample_table is_table (text_of sample_table (sample_rows n)) has.1.0 (sample_rows n)
    has.1.1.of_text (good_text one n few)) has.1.2

-- a store with the size and the pages of the layout is the layout's file
pub file_is : (rows : Rows) (size : ℕ) (held : PageMap) → Some size ≡ Some (layout_size sample_table rows)
    → Some held ≡ Some (layout_map sample_table rows) → file_of size held ≡ layout_file sample_table rows
unfolding layout_file
file_is rows size held same_size same_held =
    ap₂ file_of (ap (λ (o : Option ℕ). unwrap_or o 0) same_size)
    (ap (λ (o : Option PageMap). unwrap_or o empty) same_held)

-- it is sound, and has the rows
pub sample_file : HasOneRow → GoodTextsBuildValid → (n : ℕ) → n ≤ 200000 → FitsSpace sample_table (sample_rows n)
    → (file : SparseFile) → bytes_of file ≡ layout_file sample_table (sample_rows n)
    → IsSampleFile (sample_rows n) file
sample_file one builds n few fits file is =
    let built = builds sample_table (text_of sample_table (sample_rows n)) (sample_rows n) (record {
      is_table = is_table;
      roots = λ j inside. roots_in_order j inside;
      are_rows = good_text one n few;
      fits = fits;
    }) in
    record { fits = fits; is = is; valid = built.0; has = built.1 }

-- what a build over the text of the made rows answers
module _ (one : HasOneRow) (n : ℕ) (few : n ≤ 200000) (table : TableDef) (table_is : table ≡ sample_table)
    (left : List ℕ) (left_is : left ≡ text_of sample_table (sample_rows n)) (before now : Store) where
  abbrev AnswersMade : Result Built BuildStop → Type 0
  AnswersMade result = Builds sample_table (Some (text_of sample_table (sample_rows n))) result before now

  of_table : (result : Result Built BuildStop) → Builds table (Some left) result before now → AnswersMade result
  of_table result built =
      subst (λ (t : TableDef). Builds t (Some (text_of sample_table (sample_rows n))) result before now) table_is
      (subst (λ (text : List ℕ). Builds table (Some text) result before now) left_is built)

  pub never_misplaced : (stop : BuildStop) → Builds table (Some left) (Err stop) before now → (line : ℕ)
      → stop ≡ RootPlace line → ⊥
  never_misplaced stop built line is =
      no_bad_root line
      (subst (λ (s : BuildStop). AnswersMade (Err s)) is (of_table (Err stop) built)).0

  pub never_refused_line : (stop : BuildStop) → Builds table (Some left) (Err stop) before now → (line : ℕ)
      (why : RowsWhy) → stop ≡ RowsRefused line why → ⊥
  never_refused_line stop built line why is =
      no_bad_line one n few (record { line = line; why = why })
      (subst (λ (s : BuildStop). AnswersMade (Err s)) is (of_table (Err stop) built)).1

  pub is_full : (stop : BuildStop) → Builds table (Some left) (Err stop) before now → stop ≡ Full
      → 256 < layout_extents sample_table (sample_rows n)
  is_full stop built is =
      of_made one n few (λ (rows : Rows). 256 < layout_extents sample_table rows)
      (subst (λ (s : BuildStop). AnswersMade (Err s)) is (of_table (Err stop) built)).0

  abbrev IsBuiltOf : Built → Rows → Type 0
  IsBuiltOf built rows =
      FitsSpace sample_table rows × HoldsLayout sample_table rows before now
      × (built.pages ≡ layout_size sample_table rows) × (built.rows ≡ length rows)

  built_rows : (built : Built) → Builds table (Some left) (Ok built) before now → IsBuiltOf built (sample_rows n)
  built_rows built answer = of_made one n few (IsBuiltOf built) (of_table (Ok built) answer)

pub built_file : HasOneRow → GoodTextsBuildValid → (n : ℕ) → n ≤ 200000 → (table : TableDef) → table ≡ sample_table
    → (left : List ℕ) → left ≡ text_of sample_table (sample_rows n) → (built : Built) (first size : ℕ)
    (none held : PageMap) (unasked asked : Option ℕ)
    → Builds table (Some left) (Ok built) (record { size = Some first; held = Some none; asked = Some unasked })
    (record { size = Some size; held = Some held; asked = Some asked })
    → (file : SparseFile) → bytes_of file ≡ file_of size held → IsSampleFile (sample_rows n) file
built_file one builds n few table table_is left left_is built first size none held unasked asked answer file is =
    let has = built_rows one n few table table_is left left_is
    (record { size = Some first; held = Some none; asked = Some unasked })
    (record { size = Some size; held = Some held; asked = Some asked }) built answer in
    sample_file one builds n few has.0 file (is ∙ file_is (sample_rows n) size held has.1.size has.1.held)

-- its dump are the lines of the rows
module _ (rows : Rows) (file : SparseFile) (is : IsSampleFile rows file) (table : TableDef)
    (table_is : table ≡ sample_table) where
  -- what is so of its bytes is so of the layout's
  of_layout : (Fact : List ℕ → TableDef → Type 0) → Fact (bytes_of file) table
      → Fact (layout_file sample_table rows) sample_table
  of_layout Fact has =
      subst (λ (bytes : List ℕ). Fact bytes sample_table) is.is (subst (Fact (bytes_of file)) table_is has)

  pub dump_is : SoundFilesHaveOneDump → (old new : List ℕ) → old ≡ []
      → GrewByDump (bytes_of file) table (Some old) (Some new) → new ≡ text_of sample_table rows
  dump_is one old new none grew =
      let has = one (layout_file sample_table rows) sample_table is_table is.valid in
      ap (λ (o : Option (List ℕ)). unwrap_or o []) grew.2 ∙ ap (λ (front : List ℕ). front ++ grew.0) none
      ∙ has.only grew.0 (of_layout (λ (bytes : List ℕ) (t : TableDef). IsDumpOf bytes t grew.0) grew.1)
      ∙ sym (has.only (text_of sample_table rows) (record { rows = rows; are = is.has; is = refl }))
