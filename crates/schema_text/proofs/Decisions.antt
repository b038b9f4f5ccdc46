-- Each condition on a line of a schema's text is decided.
use Rattle.std.proofs.Common.{◌≡◌, ◌≢◌, ℕ, ◌+◌, ◌<◌, ◌≤◌, ◌⊎◌, Bool, true, false, List, [], ◌∷◌, length, drop, get_or}
use Rattle.std.proofs.Common.{All}
use Rattle.std.proofs.Common.{refl, sym, ap, ◌∙◌, subst, inl, inr, arith}
use Rattle.std.specs.Prelude.{codes, decimal, sum_by, min}
use Rattle.std.specs.List.{AllPairs, Any}
use Rattle.std.proofs.lemmas.Bool.{false≢true}
use Rattle.page_source.proofs.Decided.{IsDecided, same_decided, both_decided, three_decided, either_decided}
use Rattle.page_source.proofs.Decided.{not_decided}
use Rattle.page_source.proofs.Decided.{given_decided}
use Rattle.page_source.proofs.Decided.{number_decided, below_decided, most_decided, truth_decided, text_decided}
use Rattle.page_source.proofs.Decided.{texts_decided, all_decided, any_decided, pairs_decided, some_decided}
use Rattle.column_values.specs.declared.kind.ColumnType.{ColumnType}
use Rattle.column_values.specs.declared.kind.ColumnType.TheVariants.{Int, Date, Char, Varchar, Binary, Varbinary, Text}
use Rattle.column_values.specs.declared.kind.ColumnType.TheVariants.{Blob, Utf8Varchar, Utf8Text, DateTime, Timestamp}
use Rattle.column_values.specs.declared.kind.ColumnType.TheVariants.{Year, Decimal}
use Rattle.column_values.specs.Types.{IsColumnType, IsWidth, IsLongLength, is_long_kind, greatest_length}
use Rattle.schema_text.specs.declared.table.Format.{Format}
use Rattle.schema_text.specs.declared.table.Format.TheVariants.{Compact, Dynamic}
use Rattle.schema_text.specs.declared.table.Column.{Column}
use Rattle.schema_text.specs.declared.table.IndexDef.{IndexDef}
use Rattle.schema_text.specs.TableDef.{TableDef}
use Rattle.schema_text.specs.Grammar.{IsNameByte, IsName, IsRoot, FitsKey, type_words, utf8_word, format_word}
use Rattle.schema_text.specs.Grammar.{nullity_word}
use Rattle.schema_text.specs.Refusals.{Line, word, last_word, type_part, IsTypePart, IsSizedWord, IsSizedForm}
use Rattle.schema_text.specs.Refusals.{IsUtf8Form}
use Rattle.schema_text.specs.Refusals.{IsDecimalForm, IsTypeForm, IsTableForm, IsColumnForm, IsClusteredForm}
use Rattle.schema_text.specs.Refusals.{IsIndexForm}
use Rattle.schema_text.specs.Refusals.{IsNewColumn, IsDeclared, columns_named, IsRootWord, HasCounts, HasNewNames}
use Rattle.schema_text.specs.Refusals.{HasKey}
use Rattle.schema_text.specs.Refusals.{IsNewRoot}

name_byte : (b : ℕ) → IsDecided (IsNameByte b)
name_byte b =
    either_decided (both_decided (most_decided 65 b) (most_decided b 90))
    (either_decided (both_decided (most_decided 97 b) (most_decided b 122))
    (either_decided (both_decided (most_decided 48 b) (most_decided b 57))
    (either_decided (number_decided b 95) (number_decided b 36))))

pub name_decided : (name : List ℕ) → IsDecided (IsName name)
name_decided name =
    same_decided (λ h. record { least = h.0; most = h.1; bytes = h.2 }) (λ h. (h.least, h.most, h.bytes))
    (three_decided (most_decided 1 (length name)) (most_decided (length name) 64)
    (all_decided IsNameByte name_byte name))

width_decided : (w : ℕ) → IsDecided (IsWidth w)
width_decided w =
    either_decided (number_decided w 1) (either_decided (number_decided w 2) (either_decided (number_decided w 3)
    (either_decided (number_decided w 4) (number_decided w 8))))

long_decided : (n : ℕ) → IsDecided (IsLongLength n)
long_decided n =
    either_decided (number_decided n 255) (either_decided (number_decided n 65535)
    (either_decided (number_decided n 16777215) (number_decided n 4294967295)))

between_decided : (n most : ℕ) → IsDecided ((1 ≤ n) × (n ≤ most))
between_decided n most = both_decided (most_decided 1 n) (most_decided n most)

kind_decided : (kind : ColumnType) → IsDecided (IsColumnType kind)
kind_decided (Int w s) = width_decided w
kind_decided Date = inl tt
kind_decided (Char n) = between_decided n 255
kind_decided (Varchar n) = between_decided n 65535
kind_decided (Binary n) = between_decided n 255
kind_decided (Varbinary n) = between_decided n 65535
kind_decided (Text n) = long_decided n
kind_decided (Blob n) = long_decided n
kind_decided (Utf8Varchar n) = between_decided n 16383
kind_decided (Utf8Text n) = long_decided n
kind_decided (DateTime f) = most_decided f 6
kind_decided (Timestamp f) = most_decided f 6
kind_decided Year = inl tt
kind_decided (Decimal p s) =
    three_decided (most_decided 1 p) (most_decided p 38) (most_decided s (min 30 p))

-- every type by its numbers
kinds : List (ℕ → ℕ → ColumnType)
kinds =
    (λ n s. Int n true) ∷ (λ n s. Int n false) ∷ (λ n s. Date) ∷ (λ n s. Char n) ∷ (λ n s. Varchar n)
    ∷ (λ n s. Binary n) ∷ (λ n s. Varbinary n) ∷ (λ n s. Text n) ∷ (λ n s. Blob n) ∷ (λ n s. Utf8Varchar n)
    ∷ (λ n s. Utf8Text n) ∷ (λ n s. DateTime n) ∷ (λ n s. Timestamp n) ∷ (λ n s. Year) ∷ (λ n s. Decimal n s) ∷ []

-- the words spell a type
abbrev Spells : Line → ColumnType → Type 0
Spells words kind = IsColumnType kind × (words ≡ type_words kind)

-- they do so at some numbers of it
abbrev SpellsSome : Line → (ℕ → ℕ → ColumnType) → Type 0
SpellsSome words make =
    (n : ℕ) × (n < 4294967296) × ((s : ℕ) × (s < 31) × Spells words (make n s))

spells_decided : (words : Line) (make : ℕ → ℕ → ColumnType) → IsDecided (SpellsSome words make)
spells_decided words make =
    some_decided (λ n. (s : ℕ) × (s < 31) × Spells words (make n s))
    (λ n. some_decided (λ s. Spells words (make n s))
    (λ s. both_decided (kind_decided (make n s)) (texts_decided words (type_words (make n s)))) 31) 4294967296

width_below : (w : ℕ) → IsWidth w → w < 4294967296
width_below w h =
    elim h [
      | inl e ↦ omega (arith, e)
      | inr h ↦ elim h [
        | inl e ↦ omega (arith, e)
        | inr h ↦ elim h [
          | inl e ↦ omega (arith, e)
          | inr h ↦ elim h [ inl e ↦ omega (arith, e) | inr e ↦ omega (arith, e) ]
        ]
      ]
    ]

long_below : (n : ℕ) → IsLongLength n → n < 4294967296
long_below n h =
    elim h [
      | inl e ↦ omega (arith, e)
      | inr h ↦ elim h [
        | inl e ↦ omega (arith, e)
        | inr h ↦ elim h [ inl e ↦ omega (arith, e) | inr e ↦ omega (arith, e) ]
      ]
    ]

-- the type at place k of the list
at_place : (words : Line) (k : ℕ) (make : ℕ → ℕ → ColumnType) → k < length kinds → get_or kinds k make ≡ make
    → (n : ℕ) → n < 4294967296 → (s : ℕ) → s < 31 → Spells words (make n s) → Any (SpellsSome words) kinds
at_place words k make within is n below s few h = (k, make, within, is, (n, below, (s, few, h)))

listed : (words : Line) (kind : ColumnType) → Spells words kind → Any (SpellsSome words) kinds
unfolding kinds
listed words (Int w true) h =
    at_place words 0 (λ n s. Int n true) (omega arith) refl w (width_below w h.0) 0 (omega arith) h
listed words (Int w false) h =
    at_place words 1 (λ n s. Int n false) (omega arith) refl w (width_below w h.0) 0 (omega arith) h
listed words Date h = at_place words 2 (λ n s. Date) (omega arith) refl 0 (omega arith) 0 (omega arith) h
listed words (Char n) h =
    at_place words 3 (λ n s. Char n) (omega arith) refl n (omega (arith, h.0)) 0 (omega arith) h
listed words (Varchar n) h =
    at_place words 4 (λ n s. Varchar n) (omega arith) refl n (omega (arith, h.0)) 0 (omega arith) h
listed words (Binary n) h =
    at_place words 5 (λ n s. Binary n) (omega arith) refl n (omega (arith, h.0)) 0 (omega arith) h
listed words (Varbinary n) h =
    at_place words 6 (λ n s. Varbinary n) (omega arith) refl n (omega (arith, h.0)) 0 (omega arith) h
listed words (Text n) h =
    at_place words 7 (λ n s. Text n) (omega arith) refl n (long_below n h.0) 0 (omega arith) h
listed words (Blob n) h =
    at_place words 8 (λ n s. Blob n) (omega arith) refl n (long_below n h.0) 0 (omega arith) h
listed words (Utf8Varchar n) h =
    at_place words 9 (λ n s. Utf8Varchar n) (omega arith) refl n (omega (arith, h.0)) 0 (omega arith) h
listed words (Utf8Text n) h =
    at_place words 10 (λ n s. Utf8Text n) (omega arith) refl n (long_below n h.0) 0 (omega arith) h
listed words (DateTime f) h =
    at_place words 11 (λ n s. DateTime n) (omega arith) refl f (omega (arith, h.0)) 0 (omega arith) h
listed words (Timestamp f) h =
    at_place words 12 (λ n s. Timestamp n) (omega arith) refl f (omega (arith, h.0)) 0 (omega arith) h
listed words Year h = at_place words 13 (λ n s. Year) (omega arith) refl 0 (omega arith) 0 (omega arith) h
listed words (Decimal p s) h =
    at_place words 14 (λ n s. Decimal n s) (omega arith) refl p (omega (arith, h.0.1)) s (omega (arith, h.0.2)) h

pub part_decided : (words : Line) → IsDecided (IsTypePart words)
part_decided words =
    same_decided (λ h. (h.1 h.4.0 h.4.2.0, h.4.2.2.0, h.4.2.2.1)) (λ h. listed words h.0 (h.1, h.2))
    (any_decided (SpellsSome words) (spells_decided words) kinds)

-- the forms of a type
sized_word : (first : List ℕ) → IsDecided (IsSizedWord first)
sized_word first =
    either_decided (text_decided first (codes "char")) (either_decided (text_decided first (codes "varchar"))
    (either_decided (text_decided first (codes "binary")) (either_decided (text_decided first (codes "varbinary"))
    (either_decided (text_decided first (codes "datetime")) (text_decided first (codes "timestamp"))))))

sized_form : (words : Line) → IsDecided (IsSizedForm words)
sized_form words =
    same_decided (λ h. (word words 0, word words 1, h.0, h.1))
    (λ h. (
      subst IsSizedWord (sym (ap (λ (l : Line). word l 0) h.3)) h.2,
      h.3 ∙ sym (ap (λ (l : Line). word l 0 ∷ word l 1 ∷ []) h.3),
    ))
    (both_decided (sized_word (word words 0)) (texts_decided words (word words 0 ∷ word words 1 ∷ [])))

utf8_form : (words : Line) → IsDecided (IsUtf8Form words)
utf8_form words =
    same_decided (λ e. (word words 1, e))
    (λ h. h.1 ∙ sym (ap (λ (l : Line). codes "varchar" ∷ word l 1 ∷ utf8_word ∷ []) h.1))
    (texts_decided words (codes "varchar" ∷ word words 1 ∷ utf8_word ∷ []))

decimal_form : (words : Line) → IsDecided (IsDecimalForm words)
decimal_form words =
    same_decided (λ e. (word words 1, word words 2, e))
    (λ h. h.2 ∙ sym (ap (λ (l : Line). codes "decimal" ∷ word l 1 ∷ word l 2 ∷ []) h.2))
    (texts_decided words (codes "decimal" ∷ word words 1 ∷ word words 2 ∷ []))

type_form : (words : Line) → IsDecided (IsTypeForm words)
type_form words =
    either_decided (part_decided words) (either_decided (sized_form words)
    (either_decided (utf8_form words) (decimal_form words)))

-- the forms of lines
pub table_form : (line : Line) → IsDecided (IsTableForm line)
table_form line =
    three_decided (number_decided (length line) 3) (text_decided (word line 0) (codes "table"))
    (either_decided (text_decided (word line 2) (format_word Compact))
    (text_decided (word line 2) (format_word Dynamic)))

pub column_form : (line : Line) → IsDecided (IsColumnForm line)
column_form line =
    three_decided (most_decided 4 (length line)) (type_form (type_part line))
    (either_decided (text_decided (last_word line) (nullity_word true))
    (text_decided (last_word line) (nullity_word false)))

pub clustered_form : (line : Line) → IsDecided (IsClusteredForm line)
clustered_form line =
    both_decided (most_decided 3 (length line)) (text_decided (word line 1) (codes "root"))

pub index_form : (line : Line) → IsDecided (IsIndexForm line)
index_form line = both_decided (most_decided 5 (length line)) (text_decided (word line 2) (codes "root"))

-- the names and numbers of lines
pub new_column : (table : TableDef) (name : List ℕ) → IsDecided (IsNewColumn table name)
new_column table name =
    all_decided (λ (c : Column). c.name ≢ name) (λ c. not_decided (text_decided c.name name)) table.columns

pub declared_decided : (table : TableDef) (name : List ℕ) → IsDecided (IsDeclared table name)
declared_decided table name = any_decided (λ (c : Column). c.name ≡ name) (λ c. text_decided c.name name) table.columns

pub root_word : (number : List ℕ) → IsDecided (IsRootWord number)
root_word number =
    same_decided (λ h. (h.0, h.2.0, h.2.1)) (λ h. (h.0, omega (arith, h.2), (h.1, h.2)))
    (some_decided (λ n. (number ≡ decimal n) × IsRoot n)
    (λ n. both_decided (text_decided number (decimal n)) (both_decided (most_decided 3 n) (most_decided n 4194303)))
    4194304)

pub counts_decided : (table : TableDef) (keys : Line) → IsDecided (HasCounts table keys)
counts_decided table keys =
    both_decided (below_decided (length table.indexes) 16) (most_decided (length keys) 16)

pub new_names : (table : TableDef) (name : List ℕ) (keys : Line) → IsDecided (HasNewNames table name keys)
new_names table name keys =
    both_decided
    (all_decided (λ (x : IndexDef). x.name ≢ name) (λ x. not_decided (text_decided x.name name)) table.indexes)
    (pairs_decided (λ (a b : List ℕ). a ≢ b) (λ a b. not_decided (text_decided a b)) keys)

pub new_root : (table : TableDef) (number : List ℕ) → IsDecided (IsNewRoot table number)
new_root table number =
    all_decided (λ (x : IndexDef). decimal x.root ≢ number) (λ x. not_decided (text_decided (decimal x.root) number))
    table.indexes

abbrev is_compact : Format → Bool
is_compact Compact = true
is_compact Dynamic = false

compact_decided : (format : Format) → IsDecided (format ≡ Compact)
compact_decided Compact = inl refl
compact_decided Dynamic = inr (λ e. false≢true (ap is_compact e))

fits_decided : (format : Format) (columns : List Column) → IsDecided (FitsKey format columns)
fits_decided format columns =
    same_decided (λ h. record { short_kinds = h.0; total = h.1; each = h.2 }) (λ h. (h.short_kinds, h.total, h.each))
    (three_decided
    (all_decided (λ (c : Column). is_long_kind c.kind ≡ false) (λ c. truth_decided (is_long_kind c.kind) false) columns)
    (most_decided (sum_by (λ (c : Column). greatest_length c.kind) columns) 3072)
    (given_decided (compact_decided format)
    (all_decided (λ (c : Column). greatest_length c.kind ≤ 767) (λ c. most_decided (greatest_length c.kind) 767)
    columns)))

pub key_decided : (table : TableDef) (keys : Line) → IsDecided (HasKey table keys)
key_decided table keys =
    both_decided (fits_decided table.format (columns_named table.columns keys))
    (given_decided (number_decided (length table.indexes) 0)
    (all_decided (λ (c : Column). c.nullable ≡ false) (λ c. truth_decided c.nullable false)
    (columns_named table.columns keys)))
