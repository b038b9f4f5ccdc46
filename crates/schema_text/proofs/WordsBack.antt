-- The lines of a schema's text are its words again.
use Rattle.std.proofs.Common.{zero, suc, ◌≡◌, ℕ, ◌<◌, ◌≤◌, ◌^◌, Bool, true, false, eqb, List, [], ◌∷◌, ◌++◌, length}
use Rattle.std.proofs.Common.{map, take, drop, get_or, All, Option, Some, None, inl, inr, refl, sym, ap, ◌∙◌, subst}
use Rattle.std.proofs.Common.{arith}
use Rattle.std.specs.Prelude.{codes, decimal, flat_map, slice_get}
use Rattle.std.specs.List.{list_any, filter_map, cons_option}
use Rattle.std.proofs.lemmas.List.{append_assoc}
use Rattle.std.proofs.lemmas.List.Elements.{All-nil, All-cons, All-head, All-tail, All-append, All-map, All-weaker}
use Rattle.std.proofs.lemmas.List.Elements.{All-take, All-drop}
use Rattle.std.proofs.lemmas.List.Splits.{slice_split_at, slice_split_none}
use Rattle.std.proofs.lemmas.Bool.{ne_eqb}
use Rattle.column_values.specs.declared.kind.ColumnType.{ColumnType}
use Rattle.column_values.specs.declared.kind.ColumnType.TheVariants.{Int, Date, Char, Varchar, Binary, Varbinary, Text}
use Rattle.column_values.specs.declared.kind.ColumnType.TheVariants.{Blob, Utf8Varchar, Utf8Text, DateTime, Timestamp}
use Rattle.column_values.specs.declared.kind.ColumnType.TheVariants.{Year, Decimal}
use Rattle.column_values.specs.Types.{IsColumnType, IsWidth, IsLongLength}
use Rattle.schema_text.specs.declared.table.Format.{Format}
use Rattle.schema_text.specs.declared.table.Format.TheVariants.{Compact, Dynamic}
use Rattle.schema_text.specs.declared.table.Column.{Column}
use Rattle.schema_text.specs.declared.table.IndexDef.{IndexDef}
use Rattle.schema_text.specs.TableDef.{TableDef}
use Rattle.schema_text.specs.Grammar.{space, line_feed, joined, line_of, int_word, long_prefix, utf8_word, type_words}
use Rattle.schema_text.specs.Grammar.{format_word, nullity_word, table_words, column_words, column_names}
use Rattle.schema_text.specs.Grammar.{clustered_words, index_words, schema_words, schema_text, IsName, IsRoot}
use Rattle.schema_text.specs.Parts.{IsPart}
use Rattle.schema_text.specs.Refusals.{Line, words_of, lines_of, rest_of}
use Rattle.schema_text.specs.Cuts.{Lacks}
use Rattle.schema_text.proofs.LineLemmas.{lacks, lacks_both, name_lacks, decimal_lacks}
use Rattle.schema_text.proofs.TextLemmas.{lines_cut, rest_cut, lines_none, rest_none}

-- what holds of all columns holds of the one at a place
pub holds_at : (P : Column → Type 0) (columns : List Column) (place : ℕ) (c : Column) → All P columns
    → slice_get columns place ≡ Some c → P c
holds_at P [] place c h e = cc
holds_at P (x ∷ columns) zero c h e = let same : x ≡ c = cc in subst P same (All-head P x columns h)
holds_at P (x ∷ columns) (suc place) c h e = holds_at P columns place c (All-tail P x columns h) e

-- neither a space nor a line feed stands in a word
abbrev pub IsWord : List ℕ → Type 0
IsWord word = Lacks space word × Lacks line_feed word

-- a line has words
pub record AreWords (line : Line) : Type 0 where
  pub some : 1 ≤ length line
  pub words : All IsWord line

-- the words of a line, joined and cut again
abbrev is_space : ℕ → Bool
is_space b = eqb b space

no_space : (bytes : List ℕ) → Lacks space bytes → All (λ b. is_space b ≡ false) bytes
no_space bytes h = All-weaker (λ b. b ≡ space → ⊥) (λ b. is_space b ≡ false) (λ b ne. ne_eqb b space ne) bytes h

words_back : (w : List ℕ) (words : Line) → All IsWord (w ∷ words) → words_of (joined (w ∷ words)) ≡ w ∷ words
words_back w [] h = slice_split_none is_space w (no_space w (All-head IsWord w [] h).0)
words_back w (v ∷ words) h =
    slice_split_at is_space w space (joined (v ∷ words)) (no_space w (All-head IsWord w (v ∷ words) h).0) refl
    ∙ ap (λ rest. w ∷ rest) (words_back v words (All-tail IsWord w (v ∷ words) h))

joined_lacks : (w : List ℕ) (words : Line) → All IsWord (w ∷ words) → Lacks line_feed (joined (w ∷ words))
joined_lacks w [] h = (All-head IsWord w [] h).1
joined_lacks w (v ∷ words) h =
    lacks_both line_feed w (space ∷ joined (v ∷ words)) (All-head IsWord w (v ∷ words) h).1
    (All-cons (λ b. b ≡ line_feed → ⊥) space (joined (v ∷ words)) (λ e. omega (arith, e))
    (joined_lacks v words (All-tail IsWord w (v ∷ words) h)))

-- the lines, put one after another and cut again
pub record IsCut (text : List ℕ) (words : List Line) : Type 0 where
  pub lines : lines_of text ≡ words
  pub rest : rest_of text ≡ []

no_text : Lacks line_feed []
no_text = All-nil (λ b. b ≡ line_feed → ⊥)

pub lines_back : (lines : List Line) → All AreWords lines → IsCut (flat_map line_of lines) lines
lines_back [] h = record { lines = lines_none [] no_text; rest = rest_none [] no_text }
lines_back ([] ∷ lines) h = absurd (omega (arith, (All-head AreWords [] lines h).some))
lines_back ((w ∷ words) ∷ lines) h =
    let line = w ∷ words in
    let first = (All-head AreWords line lines h).words in
    let after = flat_map line_of lines in
    let apart : flat_map line_of (line ∷ lines) ≡ joined line ++ line_feed ∷ after =
    append_assoc (joined line) (line_feed ∷ []) after in
    let more = lines_back lines (All-tail AreWords line lines h) in
    let lacking = joined_lacks w words first in
    record {
      lines = lines_cut _ (joined line) after lacking apart ∙ ap (λ (l : Line). l ∷ lines_of after)
          (words_back w words first)
          ∙ ap (λ (ls : List Line). line ∷ ls) more.lines;
      rest = rest_cut _ (joined line) after lacking apart ∙ more.rest;
    }

-- the words of a schema are words
plain : (w : List ℕ) → list_any (λ b. eqb b space) w ≡ false → list_any (λ b. eqb b line_feed) w ≡ false → IsWord w
plain w a b = (lacks space w a, lacks line_feed w b)

number : (n : ℕ) → n < 2 ^ 64 → IsWord (decimal n)
number n fits = (decimal_lacks space n (omega arith) fits, decimal_lacks line_feed n (omega arith) fits)

name_word : (name : List ℕ) → IsName name → IsWord name
name_word name h = (name_lacks space name (omega arith) h, name_lacks line_feed name (omega arith) h)

none : All IsWord []
none = All-nil IsWord

also : (w : List ℕ) (words : Line) → IsWord w → All IsWord words → All IsWord (w ∷ words)
also w words = All-cons IsWord w words

-- the widths of integers, and the lengths of text kinds, one by one
pub width_cases : (P : ℕ → Type 0) (w : ℕ) → IsWidth w → P 1 → P 2 → P 3 → P 4 → P 8 → P w
width_cases P w h a b c d e =
    elim h [
      | inl s ↦ subst P (sym s) a
      | inr h ↦ elim h [
        | inl s ↦ subst P (sym s) b
        | inr h ↦ elim h [
          | inl s ↦ subst P (sym s) c
          | inr h ↦ elim h [ inl s ↦ subst P (sym s) d | inr s ↦ subst P (sym s) e ]
        ]
      ]
    ]

pub length_cases : (P : ℕ → Type 0) (n : ℕ) → IsLongLength n → P 255 → P 65535 → P 16777215 → P 4294967295 → P n
length_cases P n h a b c d =
    elim h [
      | inl s ↦ subst P (sym s) a
      | inr h ↦ elim h [
        | inl s ↦ subst P (sym s) b
        | inr h ↦ elim h [ inl s ↦ subst P (sym s) c | inr s ↦ subst P (sym s) d ]
      ]
    ]

int_is_word : (w : ℕ) → IsWidth w → IsWord (int_word w)
int_is_word w h =
    width_cases (λ w. IsWord (int_word w)) w h (plain (codes "tinyint") refl refl)
    (plain (codes "smallint") refl refl) (plain (codes "mediumint") refl refl) (plain (codes "int") refl refl)
    (plain (codes "bigint") refl refl)

text_is_word : (n : ℕ) → IsLongLength n → IsWord (long_prefix n ++ codes "text")
text_is_word n h =
    length_cases (λ n. IsWord (long_prefix n ++ codes "text")) n h (plain (codes "tinytext") refl refl)
    (plain (codes "text") refl refl) (plain (codes "mediumtext") refl refl) (plain (codes "longtext") refl refl)

blob_is_word : (n : ℕ) → IsLongLength n → IsWord (long_prefix n ++ codes "blob")
blob_is_word n h =
    length_cases (λ n. IsWord (long_prefix n ++ codes "blob")) n h (plain (codes "tinyblob") refl refl)
    (plain (codes "blob") refl refl) (plain (codes "mediumblob") refl refl) (plain (codes "longblob") refl refl)

sized : (w : List ℕ) (n : ℕ) (words : Line) → IsWord w → n < 2 ^ 64 → All IsWord words
    → All IsWord (w ∷ decimal n ∷ words)
sized w n words word fits more = also w (decimal n ∷ words) word (also (decimal n) words (number n fits) more)

type_are_words : (kind : ColumnType) → IsColumnType kind → All IsWord (type_words kind)
type_are_words (Int w true) h = also (int_word w) [] (int_is_word w h) none
type_are_words (Int w false) h =
    also (int_word w) (codes "unsigned" ∷ []) (int_is_word w h)
    (also (codes "unsigned") [] (plain (codes "unsigned") refl refl) none)
type_are_words Date h = also (codes "date") [] (plain (codes "date") refl refl) none
type_are_words (Char n) h = sized (codes "char") n [] (plain (codes "char") refl refl) (omega (arith, h.1)) none
type_are_words (Varchar n) h = sized (codes "varchar") n [] (plain (codes "varchar") refl refl) (omega (arith, h.1))
    none
type_are_words (Binary n) h = sized (codes "binary") n [] (plain (codes "binary") refl refl) (omega (arith, h.1)) none
type_are_words (Varbinary n) h = sized (codes "varbinary") n [] (plain (codes "varbinary") refl refl)
    (omega (arith, h.1)) none
type_are_words (Text n) h = also (long_prefix n ++ codes "text") [] (text_is_word n h) none
type_are_words (Blob n) h = also (long_prefix n ++ codes "blob") [] (blob_is_word n h) none
type_are_words (Utf8Varchar n) h =
    sized (codes "varchar") n (utf8_word ∷ []) (plain (codes "varchar") refl refl) (omega (arith, h.1))
    (also utf8_word [] (plain utf8_word refl refl) none)
type_are_words (Utf8Text n) h =
    also (long_prefix n ++ codes "text") (utf8_word ∷ []) (text_is_word n h)
    (also utf8_word [] (plain utf8_word refl refl) none)
type_are_words (DateTime f) h = sized (codes "datetime") f [] (plain (codes "datetime") refl refl)
    (omega (arith, h)) none
type_are_words (Timestamp f) h = sized (codes "timestamp") f [] (plain (codes "timestamp") refl refl)
    (omega (arith, h)) none
type_are_words Year h = also (codes "year") [] (plain (codes "year") refl refl) none
type_are_words (Decimal p s) h =
    sized (codes "decimal") p (decimal s ∷ []) (plain (codes "decimal") refl refl) (omega (arith, h.1))
    (also (decimal s) [] (number s (omega (arith, h.1, h.2))) none)

format_is_word : (format : Format) → IsWord (format_word format)
format_is_word Compact = plain (codes "compact") refl refl
format_is_word Dynamic = plain (codes "dynamic") refl refl

nullity_is_word : (nullable : Bool) → IsWord (nullity_word nullable)
nullity_is_word true = plain (codes "null") refl refl
nullity_is_word false = plain (codes "notnull") refl refl

table_line : (t : TableDef) → IsName t.table → AreWords (table_words t)
table_line t name = record {
  some = omega arith;
  words = also (codes "table") (t.table ∷ format_word t.format ∷ []) (plain (codes "table") refl refl)
      (also t.table (format_word t.format ∷ []) (name_word t.table name)
      (also (format_word t.format) [] (format_is_word t.format) none));
}

column_line : (c : Column) → IsName c.name → IsColumnType c.kind → AreWords (column_words c)
column_line c name kind =
    let last = nullity_word c.nullable ∷ [] in
    let rest = type_words c.kind ++ last in
    record {
      some = omega arith;
      words = also (codes "column") (c.name ∷ rest) (plain (codes "column") refl refl)
          (also c.name rest (name_word c.name name)
          (All-append IsWord (type_words c.kind) last (type_are_words c.kind kind)
          (also (nullity_word c.nullable) [] (nullity_is_word c.nullable) none)));
    }

pub names_are_names : (columns : List Column) (places : List ℕ) → All (λ (c : Column). IsName c.name) columns
    → All IsName (map (λ (c : Column). c.name) (filter_map (slice_get columns) places))
names_are_names columns [] h = All-nil IsName
names_are_names columns (p ∷ places) h = by_place (slice_get columns p) refl (names_are_names columns places h)
  where
    by_place : (o : Option Column) → slice_get columns p ≡ o
        → All IsName (map (λ (c : Column). c.name) (filter_map (slice_get columns) places))
        → All IsName (map (λ (c : Column). c.name) (cons_option o (filter_map (slice_get columns) places)))
    by_place None e rest = rest
    by_place (Some c) e rest =
        All-cons IsName c.name (map (λ (c : Column). c.name) (filter_map (slice_get columns) places))
        (holds_at (λ (c : Column). IsName c.name) columns p c h e) rest

names_are_words : (columns : List Column) (places : List ℕ) → All (λ (c : Column). IsName c.name) columns
    → All IsWord (map (λ (c : Column). c.name) (filter_map (slice_get columns) places))
names_are_words columns places h =
    All-weaker IsName IsWord name_word (map (λ (c : Column). c.name) (filter_map (slice_get columns) places))
    (names_are_names columns places h)

clustered_line : (t : TableDef) (x : IndexDef) → All (λ (c : Column). IsName c.name) t.columns → IsRoot x.root
    → AreWords (clustered_words t x)
clustered_line t x names root =
    let keys = column_names t x in
    record {
      some = omega arith;
      words = also (codes "clustered") (codes "root" ∷ decimal x.root ∷ keys) (plain (codes "clustered") refl refl)
          (sized (codes "root") x.root keys (plain (codes "root") refl refl) (omega (arith, root.1))
          (names_are_words t.columns x.columns names));
    }

index_line : (t : TableDef) (x : IndexDef) → All (λ (c : Column). IsName c.name) t.columns → IsRoot x.root
    → IsName x.name → AreWords (index_words t x)
index_line t x names root name =
    let keys = column_names t x in
    record {
      some = omega arith;
      words = also (codes "index") (x.name ∷ codes "root" ∷ decimal x.root ∷ keys) (plain (codes "index") refl refl)
          (also x.name (codes "root" ∷ decimal x.root ∷ keys) (name_word x.name name)
          (sized (codes "root") x.root keys (plain (codes "root") refl refl) (omega (arith, root.1))
          (names_are_words t.columns x.columns names)));
    }

pub schema_are_words : (t : TableDef) → IsPart t → All AreWords (schema_words t)
unfolding schema_words
schema_are_words t part =
    let names = part.columns.names in
    let roots = part.indexes.roots in
    let heads = table_words t ∷ map column_words t.columns in
    let first = take 1 t.indexes in
    let others = drop 1 t.indexes in
    let columns : All AreWords (map column_words t.columns) =
    All-map AreWords column_words t.columns
    (λ k d below. column_line (get_or t.columns k d) (names k d below) (part.columns.kinds k d below)) in
    let clustered : All AreWords (map (clustered_words t) first) =
    All-map AreWords (clustered_words t) first (λ k d below. clustered_line t (get_or first k d) names
    (All-take (λ (x : IndexDef). IsRoot x.root) 1 t.indexes roots k d below)) in
    let more : All AreWords (map (index_words t) others) =
    All-map AreWords (index_words t) others (λ k d below. index_line t (get_or others k d) names
    (All-drop (λ (x : IndexDef). IsRoot x.root) 1 t.indexes roots k d below) (part.indexes.named k d below).0) in
    All-append AreWords (heads ++ map (clustered_words t) first) (map (index_words t) others)
    (All-append AreWords heads (map (clustered_words t) first)
    (All-cons AreWords (table_words t) (map column_words t.columns) (table_line t part.columns.name) columns)
    clustered) more

-- so the lines of its text are these words
pub text_back : (t : TableDef) → IsPart t → IsCut (schema_text t) (schema_words t)
unfolding schema_text
text_back t part = lines_back (schema_words t) (schema_are_words t part)
