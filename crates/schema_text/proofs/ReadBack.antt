-- The schema that the words of its lines say, read back by tests of words.
use Rattle.std.proofs.Common.{◌≡◌, ◌≢◌, ℕ, suc, ◌+◌, ◌-◌, ◌*◌, ◌%◌, ◌<◌, ◌^◌, Bool, true, false, cond, List, [], ◌∷◌}
use Rattle.std.proofs.Common.{◌++◌, length, map, take, drop, get_or, All, Option, refl, sym, ap, ◌∙◌, subst, arith}
use Rattle.std.specs.Prelude.{AllPairs, IfSome, bytes_eq, codes, decimal, slice_get}
use Rattle.std.specs.List.{cons_option, filter_map, position_or_len}
use Rattle.std.proofs.lemmas.Fmt.{decimal_by_steps}
use Rattle.std.proofs.lemmas.List.{append_assoc, append-nil, length-append, take_at, get_or_at}
use Rattle.std.proofs.lemmas.List.Elements.{All-head, All-tail}
use Rattle.std.proofs.lemmas.List.Sums.{position_or_len_is}
use Rattle.std.proofs.lemmas.Option.{slice_get-get_or}
use Rattle.std.proofs.lemmas.Slice.Eq.{bytes_eq-Decides}
use Rattle.column_values.specs.declared.kind.ColumnType.{ColumnType}
use Rattle.column_values.specs.declared.kind.ColumnType.TheVariants.{Int, Date, Char, Varchar, Binary, Varbinary, Text}
use Rattle.column_values.specs.declared.kind.ColumnType.TheVariants.{Blob, Utf8Varchar, Utf8Text, DateTime, Timestamp}
use Rattle.column_values.specs.declared.kind.ColumnType.TheVariants.{Year, Decimal}
use Rattle.column_values.specs.Types.{IsColumnType}
use Rattle.schema_text.specs.declared.table.Format.{Format}
use Rattle.schema_text.specs.declared.table.Format.TheVariants.{Compact, Dynamic}
use Rattle.schema_text.specs.declared.table.Column.{Column}
use Rattle.schema_text.specs.declared.table.IndexDef.{IndexDef}
use Rattle.schema_text.specs.TableDef.{TableDef}
use Rattle.schema_text.specs.Grammar.{type_words, format_word, nullity_word, table_words, column_words, clustered_words}
use Rattle.schema_text.specs.Grammar.{index_words, schema_words, IsRoot}
use Rattle.schema_text.specs.Parts.{IsPart}
use Rattle.schema_text.specs.Refusals.{Line, word, type_part, last_word, is_column_line, is_clustered_line}
use Rattle.schema_text.specs.Refusals.{is_index_line}
use Rattle.schema_text.proofs.WordsBack.{width_cases, length_cases}

-- digits as a number
abbrev number_from : ℕ → List ℕ → ℕ
number_from n [] = n
number_from n (d ∷ digits) = number_from (n * 10 + (d - 48)) digits

number_push : (n d : ℕ) (digits : List ℕ) → number_from n (digits ++ d ∷ []) ≡ number_from n digits * 10 + (d - 48)
number_push n d [] = refl
number_push n d (e ∷ digits) = number_push (n * 10 + (e - 48)) d digits

abbrev number_of : List ℕ → ℕ
number_of digits = number_from 0 digits

number_is : (n : ℕ) → n < 2 ^ 64 → number_of (decimal n) ≡ n
number_is n fits =
    decimal_by_steps (λ m ds. number_of ds ≡ m) (λ m small. omega arith)
    (λ m ds large rest. number_push 0 (48 + m % 10) ds ∙ omega (arith, rest)) n fits

-- the type of some words
abbrev width_of : List ℕ → ℕ
width_of w =
    cond (bytes_eq w (codes "tinyint")) 1 (cond (bytes_eq w (codes "smallint")) 2
    (cond (bytes_eq w (codes "mediumint")) 3 (cond (bytes_eq w (codes "int")) 4 8)))

abbrev one_word : List ℕ → ColumnType
one_word w =
    cond (bytes_eq w (codes "date")) Date (cond (bytes_eq w (codes "year")) Year
    (cond (bytes_eq w (codes "tinytext")) (Text 255) (cond (bytes_eq w (codes "text")) (Text 65535)
    (cond (bytes_eq w (codes "mediumtext")) (Text 16777215) (cond (bytes_eq w (codes "longtext")) (Text 4294967295)
    (cond (bytes_eq w (codes "tinyblob")) (Blob 255) (cond (bytes_eq w (codes "blob")) (Blob 65535)
    (cond (bytes_eq w (codes "mediumblob")) (Blob 16777215) (cond (bytes_eq w (codes "longblob")) (Blob 4294967295)
    (Int (width_of w) true))))))))))

abbrev with_utf8 : ColumnType → ColumnType
with_utf8 (Text n) = Utf8Text n
with_utf8 kind = kind

abbrev two_words : List ℕ → List ℕ → ColumnType
two_words w v =
    cond (bytes_eq w (codes "char")) (Char (number_of v)) (cond (bytes_eq w (codes "varchar")) (Varchar (number_of v))
    (cond (bytes_eq w (codes "binary")) (Binary (number_of v))
    (cond (bytes_eq w (codes "varbinary")) (Varbinary (number_of v))
    (cond (bytes_eq w (codes "datetime")) (DateTime (number_of v))
    (cond (bytes_eq w (codes "timestamp")) (Timestamp (number_of v))
    (cond (bytes_eq v (codes "unsigned")) (Int (width_of w) false) (with_utf8 (one_word w))))))))

abbrev three_words : List ℕ → List ℕ → List ℕ → ColumnType
three_words w v u =
    cond (bytes_eq w (codes "decimal")) (Decimal (number_of v) (number_of u)) (Utf8Varchar (number_of v))

abbrev kind_of : Line → ColumnType
kind_of (a ∷ []) = one_word a
kind_of (a ∷ b ∷ []) = two_words a b
kind_of (a ∷ b ∷ c ∷ []) = three_words a b c
kind_of _ = Date

kind_is : (kind : ColumnType) → IsColumnType kind → kind_of (type_words kind) ≡ kind
kind_is (Int w true) h = width_cases (λ w. kind_of (type_words (Int w true)) ≡ Int w true) w h refl refl refl refl refl
kind_is (Int w false) h =
    width_cases (λ w. kind_of (type_words (Int w false)) ≡ Int w false) w h refl refl refl refl refl
kind_is Date h = refl
kind_is (Char n) h = ap Char (number_is n (omega (arith, h.1)))
kind_is (Varchar n) h = ap Varchar (number_is n (omega (arith, h.1)))
kind_is (Binary n) h = ap Binary (number_is n (omega (arith, h.1)))
kind_is (Varbinary n) h = ap Varbinary (number_is n (omega (arith, h.1)))
kind_is (Text n) h = length_cases (λ n. kind_of (type_words (Text n)) ≡ Text n) n h refl refl refl refl
kind_is (Blob n) h = length_cases (λ n. kind_of (type_words (Blob n)) ≡ Blob n) n h refl refl refl refl
kind_is (Utf8Varchar n) h = ap Utf8Varchar (number_is n (omega (arith, h.1)))
kind_is (Utf8Text n) h = length_cases (λ n. kind_of (type_words (Utf8Text n)) ≡ Utf8Text n) n h refl refl refl refl
kind_is (DateTime f) h = ap DateTime (number_is f (omega (arith, h)))
kind_is (Timestamp f) h = ap Timestamp (number_is f (omega (arith, h)))
kind_is Year h = refl
kind_is (Decimal p s) h =
    ap (λ (n : ℕ). Decimal n (number_of (decimal s))) (number_is p (omega (arith, h.1)))
    ∙ ap (Decimal p) (number_is s (omega (arith, h.1, h.2)))

-- the column of a line
abbrev column_of : Line → Column
column_of line =
    record {
      name = word line 1;
      kind = kind_of (type_part line);
      nullable = bytes_eq (last_word line) (codes "null");
    }

pub type_part_is : (a b w : List ℕ) (words : Line) → type_part (a ∷ b ∷ (words ++ w ∷ [])) ≡ words
type_part_is a b w words =
    let size : length (a ∷ b ∷ (words ++ w ∷ [])) - 3 ≡ length words = omega (arith, length-append words (w ∷ [])) in
    ap (λ (n : ℕ). take n (words ++ w ∷ [])) size ∙ take_at words (w ∷ []) (length words) refl

pub last_word_is : (a b w : List ℕ) (words : Line) → last_word (a ∷ b ∷ (words ++ w ∷ [])) ≡ w
last_word_is a b w words =
    let size : length (a ∷ b ∷ (words ++ w ∷ [])) - 1 ≡ suc (suc (length words)) =
    omega (arith, length-append words (w ∷ [])) in
    ap (λ (n : ℕ). get_or (a ∷ b ∷ (words ++ w ∷ [])) n []) size ∙ get_or_at words w [] [] (length words) refl

nullity_is : (nullable : Bool) → bytes_eq (nullity_word nullable) (codes "null") ≡ nullable
nullity_is true = refl
nullity_is false = refl

column_is : (c : Column) → IsColumnType c.kind → column_of (column_words c) ≡ c
column_is c h =
    let words = type_words c.kind in
    let last = nullity_word c.nullable in
    ap (λ (k : ColumnType). record {
      name = c.name;
      kind = k;
      nullable = bytes_eq (last_word (column_words c)) (codes "null");
    }) (ap kind_of (type_part_is (codes "column") c.name last words) ∙ kind_is c.kind h)
    ∙ ap (λ (b : Bool). record { name = c.name; kind = c.kind; nullable = b })
    (ap (λ (w : List ℕ). bytes_eq w (codes "null")) (last_word_is (codes "column") c.name last words)
    ∙ nullity_is c.nullable)

-- the columns of the column lines
abbrev columns_of : List Line → List Column
columns_of [] = []
columns_of (line ∷ lines) = cond (is_column_line line) (column_of line ∷ columns_of lines) (columns_of lines)

columns_front : (columns : List Column) (lines : List Line) → All (λ (c : Column). IsColumnType c.kind) columns
    → columns_of (map column_words columns ++ lines) ≡ columns ++ columns_of lines
columns_front [] lines h = refl
columns_front (c ∷ columns) lines h =
    ap (λ (d : Column). d ∷ columns_of (map column_words columns ++ lines))
    (column_is c (All-head (λ (c : Column). IsColumnType c.kind) c columns h))
    ∙ ap (λ (cs : List Column). c ∷ cs)
    (columns_front columns lines (All-tail (λ (c : Column). IsColumnType c.kind) c columns h))

no_columns : (t : TableDef) (indexes : List IndexDef) → columns_of (map (index_words t) indexes) ≡ []
no_columns t [] = refl
no_columns t (x ∷ indexes) = no_columns t indexes

-- the place of a name among the columns
abbrev pub place_in : List Column → List ℕ → ℕ
place_in columns name = position_or_len (λ (c : Column). bytes_eq c.name name) columns

not_same : (a b : List ℕ) → a ≢ b → bytes_eq a b ≡ false
not_same a b ne = by_test (bytes_eq a b) refl
  where
    by_test : (t : Bool) → bytes_eq a b ≡ t → t ≡ false
    by_test true e = absurd (ne ((bytes_eq-Decides a b).0 e))
    by_test false e = refl

abbrev pub Differ : List Column → Type 0
Differ columns = AllPairs (λ (c d : Column). c.name ≢ d.name) columns

abbrev pub no_column : Column
no_column = record { name = []; kind = Date; nullable = false }

pub place_is : (columns : List Column) (p : ℕ) → Differ columns → p < length columns
    → place_in columns (get_or columns p no_column).name ≡ p
place_is columns p differ within =
    let name = (get_or columns p no_column).name in
    position_or_len_is (λ (c : Column). bytes_eq c.name name) columns p no_column (omega (arith, within))
    (λ k before. not_same _ name (differ k p no_column before within))
    (λ _. (bytes_eq-Decides name name).1 refl)

places_are : (columns : List Column) (places : List ℕ) → Differ columns → All (λ i. i < length columns) places
    → map (place_in columns) (map (λ (c : Column). c.name) (filter_map (slice_get columns) places)) ≡ places
places_are columns [] differ known = refl
places_are columns (p ∷ places) differ known =
    let within = All-head (λ i. i < length columns) p places known in
    let rest = filter_map (slice_get columns) places in
    ap (λ (o : Option Column). map (place_in columns) (map (λ (c : Column). c.name) (cons_option o rest)))
    (slice_get-get_or columns p no_column within)
    ∙ ap (λ (n : ℕ). n ∷ map (place_in columns) (map (λ (c : Column). c.name) rest))
    (place_is columns p differ within)
    ∙ ap (λ (ps : List ℕ). p ∷ ps)
    (places_are columns places differ (All-tail (λ i. i < length columns) p places known))

-- the index of a line with this number
abbrev clustered_of : List Column → ℕ → Line → IndexDef
clustered_of columns n line =
    record { name = []; root = number_of (word line 2); columns = map (place_in columns) (drop 3 line); line = n }

abbrev index_of : List Column → ℕ → Line → IndexDef
index_of columns n line =
    record {
      name = word line 1;
      root = number_of (word line 3);
      columns = map (place_in columns) (drop 4 line);
      line = n;
    }

-- the indexes of the lines, of which the first has this number
abbrev indexes_of : List Column → ℕ → List Line → List IndexDef
indexes_of columns n [] = []
indexes_of columns n (line ∷ lines) =
    cond (is_clustered_line line) (clustered_of columns n line ∷ indexes_of columns (suc n) lines)
    (cond (is_index_line line) (index_of columns n line ∷ indexes_of columns (suc n) lines)
    (indexes_of columns n lines))

indexes_behind : (columns : List Column) (n : ℕ) (front : List Column) (lines : List Line)
    → indexes_of columns n (map column_words front ++ lines) ≡ indexes_of columns n lines
indexes_behind columns n [] lines = refl
indexes_behind columns n (c ∷ front) lines = indexes_behind columns n front lines

-- an index whose line has this number
record IsIndexAt (t : TableDef) (n : ℕ) (x : IndexDef) : Type 0 where
  pub known : All (λ i. i < length t.columns) x.columns
  pub root : IsRoot x.root
  pub line : x.line ≡ n

same_index : (t : TableDef) (n : ℕ) (x : IndexDef) (name : List ℕ) → Differ t.columns → IsIndexAt t n x → name ≡ x.name
    → ◌≡◌ {A = IndexDef} (record {
      name = name;
      root = number_of (decimal x.root);
      columns = map (place_in t.columns)
          (map (λ (c : Column). c.name) (filter_map (slice_get t.columns) x.columns));
      line = n;
    }) x
same_index t n x name differ at same =
    let names = map (λ (c : Column). c.name) (filter_map (slice_get t.columns) x.columns) in
    ap (λ (name : List ℕ). record {
      name = name;
      root = number_of (decimal x.root);
      columns = map (place_in t.columns) names;
      line = n;
    }) same
    ∙ ap (λ (root : ℕ). record {
      name = x.name;
      root = root;
      columns = map (place_in t.columns) names;
      line = n;
    }) (number_is x.root (omega (arith, at.root.1)))
    ∙ ap (λ (places : List ℕ). record { name = x.name; root = x.root; columns = places; line = n })
    (places_are t.columns x.columns differ at.known)
    ∙ ap (λ (line : ℕ). record { name = x.name; root = x.root; columns = x.columns; line = line }) (sym at.line)

others_are : (t : TableDef) (n : ℕ) (indexes : List IndexDef) → Differ t.columns
    → ((j : ℕ) (d : IndexDef) → j < length indexes → IsIndexAt t (n + j) (get_or indexes j d))
    → indexes_of t.columns n (map (index_words t) indexes) ≡ indexes
others_are t n [] differ at = refl
others_are t n (x ∷ indexes) differ at =
    let here : IsIndexAt t n x = subst (λ (k : ℕ). IsIndexAt t k x) (omega arith) (at 0 x (omega arith)) in
    ap (λ (y : IndexDef). y ∷ indexes_of t.columns (suc n) (map (index_words t) indexes))
    (same_index t n x x.name differ here refl)
    ∙ ap (λ (ys : List IndexDef). x ∷ ys) (others_are t (suc n) indexes differ
    (λ j d below. subst (λ (k : ℕ). IsIndexAt t k (get_or indexes j d)) (omega arith) (at (suc j) d (omega arith))))

-- the table of all lines
abbrev format_of : List ℕ → Format
format_of w = cond (bytes_eq w (codes "compact")) Compact Dynamic

format_is : (format : Format) → format_of (format_word format) ≡ format
format_is Compact = refl
format_is Dynamic = refl

abbrev pub table_of : List Line → TableDef
table_of lines =
    let columns = columns_of lines in
    let first = get_or lines 0 [] in
    record {
      table = word first 1;
      format = format_of (word first 2);
      columns = columns;
      indexes = indexes_of columns (length columns + 2) lines;
    }

no_columns_behind : (t : TableDef) (indexes : List IndexDef)
    → columns_of (map (clustered_words t) (take 1 indexes) ++ map (index_words t) (drop 1 indexes)) ≡ []
no_columns_behind t [] = refl
no_columns_behind t (x ∷ indexes) = no_columns t indexes

columns_are : (t : TableDef) → IsPart t → columns_of (schema_words t) ≡ t.columns
unfolding schema_words
columns_are t part =
    let first = map (clustered_words t) (take 1 t.indexes) in
    let others = map (index_words t) (drop 1 t.indexes) in
    ap columns_of (append_assoc (table_words t ∷ map column_words t.columns) first others)
    ∙ columns_front t.columns (first ++ others) part.columns.kinds
    ∙ ap (λ (cs : List Column). t.columns ++ cs) (no_columns_behind t t.indexes)
    ∙ append-nil t.columns

all_at : (t : TableDef) → IsPart t → (j : ℕ) (d : IndexDef) → j < length t.indexes
    → IsIndexAt t (length t.columns + 2 + j) (get_or t.indexes j d)
all_at t part j d below = record {
  known = (part.indexes.keys j d below).known;
  root = part.indexes.roots j d below;
  line = subst (λ (o : Option IndexDef). IfSome o (λ x. x.line ≡ length t.columns + 2 + j))
      (slice_get-get_or t.indexes j d below) (part.indexes.lines j);
}

behind_are : (t : TableDef) (n : ℕ) (indexes : List IndexDef) → Differ t.columns
    → All (λ (x : IndexDef). x.name ≡ []) (take 1 indexes)
    → ((j : ℕ) (d : IndexDef) → j < length indexes → IsIndexAt t (n + j) (get_or indexes j d))
    → indexes_of t.columns n (map (clustered_words t) (take 1 indexes) ++ map (index_words t) (drop 1 indexes))
    ≡ indexes
behind_are t n [] differ unnamed at = refl
behind_are t n (x ∷ indexes) differ unnamed at =
    let here : IsIndexAt t n x = subst (λ (k : ℕ). IsIndexAt t k x) (omega arith) (at 0 x (omega arith)) in
    let name : x.name ≡ [] = All-head (λ (x : IndexDef). x.name ≡ []) x [] unnamed in
    ap (λ (y : IndexDef). y ∷ indexes_of t.columns (suc n) (map (index_words t) indexes))
    (same_index t n x [] differ here (sym name))
    ∙ ap (λ (ys : List IndexDef). x ∷ ys) (others_are t (suc n) indexes differ
    (λ j d below. subst (λ (k : ℕ). IsIndexAt t k (get_or indexes j d)) (omega arith) (at (suc j) d (omega arith))))

indexes_are : (t : TableDef) → IsPart t → indexes_of t.columns (length t.columns + 2) (schema_words t) ≡ t.indexes
unfolding schema_words
indexes_are t part =
    let n = length t.columns + 2 in
    let first = map (clustered_words t) (take 1 t.indexes) in
    let others = map (index_words t) (drop 1 t.indexes) in
    ap (indexes_of t.columns n) (append_assoc (table_words t ∷ map column_words t.columns) first others)
    ∙ indexes_behind t.columns n t.columns (first ++ others)
    ∙ behind_are t n t.indexes part.columns.differ part.indexes.unnamed (all_at t part)

-- the words of a table say this table
pub table_is : (t : TableDef) → IsPart t → table_of (schema_words t) ≡ t
unfolding schema_words
table_is t part =
    let lines = schema_words t in
    ap (λ (cs : List Column). record {
      table = t.table;
      format = format_of (format_word t.format);
      columns = cs;
      indexes = indexes_of cs (length cs + 2) lines;
    }) (columns_are t part)
    ∙ ap (λ (format : Format). record {
      table = t.table;
      format = format;
      columns = t.columns;
      indexes = indexes_of t.columns (length t.columns + 2) lines;
    }) (format_is t.format)
    ∙ ap (λ (xs : List IndexDef). record {
      table = t.table;
      format = t.format;
      columns = t.columns;
      indexes = xs;
    }) (indexes_are t part)
