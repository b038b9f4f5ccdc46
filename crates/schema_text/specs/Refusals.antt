-- Why a text is that of no schema: the first bad line, and the first check in order that refuses it.
use Rattle.std.specs.Prelude.{◌≡◌, ◌≢◌, ℕ, zero, suc, ◌+◌, ◌-◌, ◌<◌, ◌≤◌, ◌⊎◌, Bool, true, false, ◌==◌, List, [], ◌∷◌}
use Rattle.std.specs.Prelude.{length, map, take, drop, slice_index_or, codes, decimal, bytes_eq, ⊤, All, AllPairs, Any}
use Rattle.std.specs.Prelude.{Option, Some, None, Result, Ok, Err, MatchBool, find}
use Rattle.std.specs.List.{slice_split, list_any, filter_map}
use Rattle.page_source.specs.Verdict.{Check, Then, Each}
use Rattle.column_values.specs.declared.kind.ColumnType.{ColumnType}
use Rattle.column_values.specs.Types.{IsColumnType}
use Rattle.schema_text.specs.declared.table.Format.TheVariants.{Compact, Dynamic}
use Rattle.schema_text.specs.declared.table.Column.{Column}
use Rattle.schema_text.specs.declared.table.IndexDef.{IndexDef}
use Rattle.schema_text.specs.declared.errors.SchemaWhy.{SchemaWhy}
use Rattle.schema_text.specs.declared.errors.SchemaWhy.TheVariants.{Size, End, Form, Name, Number, Count, Twice}
use Rattle.schema_text.specs.declared.errors.SchemaWhy.TheVariants.{Unknown, Key, Root}
use Rattle.schema_text.specs.declared.errors.SchemaError.{SchemaError}
use Rattle.schema_text.specs.declared.errors.SchemaError.TheVariants.{Refused, Memory}
use Rattle.schema_text.specs.TableDef.{TableDef}
use Rattle.schema_text.specs.Grammar.{space, line_feed, type_words, utf8_word, format_word, nullity_word, schema_words}
use Rattle.schema_text.specs.Grammar.{IsName, IsRoot, FitsKey, IsTextOf}
use Rattle.schema_text.specs.Parts.{IsPart}

-- a line, counted from 1, and why it is refused
pub record BadLine : Type 0 where
  pub line : ℕ
  pub why : SchemaWhy

-- a line by its words
abbrev pub Line : Type 0
Line = List (List ℕ)

abbrev pub words_of : List ℕ → Line
words_of bytes = slice_split (λ b. b == space) bytes

-- the words of each line that ends with LF, and what stands after the last LF
unfoldable pub lines_of : List ℕ → List Line
lines_of text = let pieces = slice_split (λ b. b == line_feed) text in map words_of (take (length pieces - 1) pieces)

unfoldable pub rest_of : List ℕ → List ℕ
rest_of text = let pieces = slice_split (λ b. b == line_feed) text in slice_index_or pieces (length pieces - 1) []

abbrev pub word : Line → ℕ → List ℕ
word line i = slice_index_or line i []

abbrev pub begins_with : List ℕ → Line → Bool
begins_with first line = bytes_eq (word line 0) first

abbrev pub is_column_line : Line → Bool
is_column_line line = begins_with (codes "column") line

abbrev pub is_clustered_line : Line → Bool
is_clustered_line line = begins_with (codes "clustered") line

abbrev pub is_index_line : Line → Bool
is_index_line line = begins_with (codes "index") line

-- the words of a column line between its name and its nullity
abbrev pub type_part : Line → Line
type_part line = take (length line - 3) (drop 2 line)

abbrev pub last_word : Line → List ℕ
last_word line = word line (length line - 1)

-- the words of a type
abbrev pub IsTypePart : Line → Type 0
IsTypePart words = (kind : ColumnType) × IsColumnType kind × (words ≡ type_words kind)

-- the types that one number follows
abbrev pub IsSizedWord : List ℕ → Type 0
IsSizedWord first =
    (first ≡ codes "char") ⊎ (first ≡ codes "varchar") ⊎ (first ≡ codes "binary") ⊎ (first ≡ codes "varbinary")
    ⊎ (first ≡ codes "datetime") ⊎ (first ≡ codes "timestamp")

-- a type that one number follows, with any word in the place of the number; and so a varchar of utf8mb4 and a decimal
abbrev pub IsSizedForm : Line → Type 0
IsSizedForm words =
    (first : List ℕ) × (size : List ℕ) × IsSizedWord first × (words ≡ first ∷ size ∷ [])

abbrev pub IsUtf8Form : Line → Type 0
IsUtf8Form words = (size : List ℕ) × (words ≡ codes "varchar" ∷ size ∷ utf8_word ∷ [])

abbrev pub IsDecimalForm : Line → Type 0
IsDecimalForm words = (digits : List ℕ) × (behind : List ℕ) × (words ≡ codes "decimal" ∷ digits ∷ behind ∷ [])

abbrev pub IsTypeForm : Line → Type 0
IsTypeForm words = IsTypePart words ⊎ IsSizedForm words ⊎ IsUtf8Form words ⊎ IsDecimalForm words

abbrev pub IsFormatWord : List ℕ → Type 0
IsFormatWord format = (format ≡ format_word Compact) ⊎ (format ≡ format_word Dynamic)

abbrev pub IsNullityWord : List ℕ → Type 0
IsNullityWord nullity = (nullity ≡ nullity_word true) ⊎ (nullity ≡ nullity_word false)

-- the forms of a table line, a column line, the clustered line and an index line
abbrev pub IsTableForm : Line → Type 0
IsTableForm line = (length line ≡ 3) × (word line 0 ≡ codes "table") × IsFormatWord (word line 2)

abbrev pub IsColumnForm : Line → Type 0
IsColumnForm line = (4 ≤ length line) × IsTypeForm (type_part line) × IsNullityWord (last_word line)

abbrev pub IsClusteredForm : Line → Type 0
IsClusteredForm line = (3 ≤ length line) × (word line 1 ≡ codes "root")

abbrev pub IsIndexForm : Line → Type 0
IsIndexForm line = (5 ≤ length line) × (word line 2 ≡ codes "root")

-- the checks of the first line
unfoldable pub FirstChecks : Line → Option SchemaWhy → Type 0
FirstChecks line = Then (Check Form (IsTableForm line)) (Check Name (IsName (word line 1)))

-- no column of the table has the name, or some has it
abbrev pub IsNewColumn : TableDef → List ℕ → Type 0
IsNewColumn table name = All (λ (c : Column). c.name ≢ name) table.columns

abbrev pub IsDeclared : TableDef → List ℕ → Type 0
IsDeclared table name = Any (λ (c : Column). c.name ≡ name) table.columns

-- the columns of the table that have these names
abbrev pub column_named : List Column → List ℕ → Option Column
column_named columns name = find (λ (c : Column). bytes_eq c.name name) columns

abbrev pub columns_named : List Column → List (List ℕ) → List Column
columns_named columns names = filter_map (column_named columns) names

-- the checks of a column line behind the lines of this table so far: columns stand before all indexes
unfoldable pub ColumnChecks : TableDef → Line → Option SchemaWhy → Type 0
ColumnChecks table line =
    Then (Check Form ((length table.indexes ≡ 0) × IsColumnForm line))
    (Then (Check Name (IsName (word line 1)))
    (Then (Check Number (IsTypePart (type_part line)))
    (Then (Check Count (length table.columns < 64))
    (Check Twice (IsNewColumn table (word line 1))))))

-- what the line of an index says
pub record IndexLine : Type 0 where
  pub name : List ℕ
  pub root : List ℕ
  pub keys : Line

abbrev pub clustered_line : Line → IndexLine
clustered_line line = record { name = []; root = word line 2; keys = drop 3 line }

abbrev pub index_line : Line → IndexLine
index_line line = record { name = word line 1; root = word line 3; keys = drop 4 line }

-- the number is spelled, and is that of a root
abbrev pub IsRootWord : List ℕ → Type 0
IsRootWord number = (n : ℕ) × (number ≡ decimal n) × IsRoot n

-- at most 15 indexes behind the clustered one, and 16 columns in a key
abbrev pub HasCounts : TableDef → Line → Type 0
HasCounts table keys = (length table.indexes < 16) × (length keys ≤ 16)

-- no index has the name, and no column comes twice
abbrev pub HasNewNames : TableDef → List ℕ → Line → Type 0
HasNewNames table name keys =
    All (λ (x : IndexDef). x.name ≢ name) table.indexes × AllPairs (λ (a b : List ℕ). a ≢ b) keys

-- the columns may make a key, and none of the clustered one may be null
abbrev pub HasKey : TableDef → Line → Type 0
HasKey table keys =
    FitsKey table.format (columns_named table.columns keys)
    × (length table.indexes ≡ 0 → All (λ (c : Column). c.nullable ≡ false) (columns_named table.columns keys))

-- no index has the root
abbrev pub IsNewRoot : TableDef → List ℕ → Type 0
IsNewRoot table number = All (λ (x : IndexDef). decimal x.root ≢ number) table.indexes

-- the checks of an index's line whose names are good
unfoldable pub KeyChecks : TableDef → IndexLine → Option SchemaWhy → Type 0
KeyChecks table line =
    Then (Check Number (IsRootWord line.root))
    (Then (Check Count (HasCounts table line.keys))
    (Then (Check Twice (HasNewNames table line.name line.keys))
    (Then (Check Unknown (All (IsDeclared table) line.keys))
    (Then (Check Key (HasKey table line.keys))
    (Check Root (IsNewRoot table line.root))))))

-- the clustered line stands behind some column and before all other indexes
unfoldable pub ClusteredLineChecks : TableDef → Line → Option SchemaWhy → Type 0
ClusteredLineChecks table line =
    Then (Check Form ((1 ≤ length table.columns) × (length table.indexes ≡ 0) × IsClusteredForm line))
    (Then (Check Name (All IsName (drop 3 line))) (KeyChecks table (clustered_line line)))

unfoldable pub IndexLineChecks : TableDef → Line → Option SchemaWhy → Type 0
IndexLineChecks table line =
    Then (Check Form ((1 ≤ length table.indexes) × IsIndexForm line))
    (Then (Check Name (IsName (word line 1) × All IsName (drop 4 line))) (KeyChecks table (index_line line)))

-- the checks of a line behind the lines of this table so far, by its first word
unfoldable pub NextChecks : TableDef → Line → Option SchemaWhy → Type 0
NextChecks table line why =
    MatchBool (is_column_line line) (ColumnChecks table line why)
    (MatchBool (is_clustered_line line) (ClusteredLineChecks table line why)
    (MatchBool (is_index_line line) (IndexLineChecks table line why) (Check Form ⊥ why)))

-- the lines are those of a table so far
pub record AreLinesOf (table : TableDef) (lines : List Line) : Type 0 where
  pub part : IsPart table
  pub spelled : lines ≡ schema_words table

-- the checks of a line behind these earlier lines
abbrev pub BehindChecks : List Line → Line → Option SchemaWhy → Type 0
BehindChecks earlier line why = (table : TableDef) × AreLinesOf table earlier × NextChecks table line why

-- checks of a line, at its number counted from 1
abbrev pub AtLine : ℕ → (Option SchemaWhy → Type 0) → Option BadLine → Type 0
AtLine number checks None = checks None
AtLine number checks (Some bad) = (bad.line ≡ number) × checks (Some bad.why)

-- the checks of the line at place k, counted from 0
unfoldable pub LineChecks : List Line → ℕ → Option BadLine → Type 0
LineChecks lines zero = AtLine 1 (FirstChecks (slice_index_or lines 0 []))
LineChecks lines (suc k) = AtLine (suc k + 1) (BehindChecks (take (suc k) lines) (slice_index_or lines (suc k) []))

-- the text ends with LF, behind the clustered line
pub record EndsWell (text : List ℕ) : Type 0 where
  pub whole : rest_of text ≡ []
  pub clustered : list_any is_clustered_line (lines_of text) ≡ true

-- the checks of a schema text
unfoldable pub SchemaChecks : List ℕ → Option BadLine → Type 0
SchemaChecks text =
    Then (AtLine 1 (Check Size (length text ≤ 65536)))
    (Then (Each (length (lines_of text)) (LineChecks (lines_of text)))
    (AtLine (length (lines_of text) + 1) (Check End (EndsWell text))))

-- what a text is: a schema, or refused
abbrev pub SchemaOf : List ℕ → Result TableDef BadLine → Type 0
SchemaOf text (Ok table) = IsTextOf table text
SchemaOf text (Err bad) = SchemaChecks text (Some bad)

-- the error is the refusal of these checks, or memory ran out
abbrev pub RefusedAt : ℕ → (Option SchemaWhy → Type 0) → SchemaError → Type 0
RefusedAt number checks (Refused line why) = (line ≡ number) × checks (Some why)
RefusedAt number checks Memory = ⊤

-- a text is read as what it is, unless memory runs out
abbrev pub ReadsAs : List ℕ → Result TableDef SchemaError → Type 0
ReadsAs text (Ok table) = SchemaOf text (Ok table)
ReadsAs text (Err (Refused line why)) = SchemaOf text (Err (record { line = line; why = why }))
ReadsAs text (Err Memory) = ⊤
