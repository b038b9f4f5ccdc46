-- Whether a line is that of a row is decided: each column has only so many values.
use Rattle.std.proofs.Common.{◌≡◌, ℕ, suc, Bool, true, false, ◌⊎◌, List, [], ◌∷◌, ◌++◌, length, All}
use Rattle.std.proofs.Common.{refl, subst, inl, inr, arith}
use Rattle.std.specs.List.{AllZip}
use Rattle.std.proofs.lemmas.Bool.{true≢false}
use Rattle.std.proofs.lemmas.List.Elements.{All-head, All-tail}
use Rattle.page_source.proofs.Decided.{IsDecided, same_decided, both_decided, either_decided, truth_decided}
use Rattle.page_source.proofs.Decided.{text_decided, some_decided, SomeList, list_decided}
use Rattle.column_values.specs.declared.kind.ColumnType.{ColumnType}
use Rattle.column_values.specs.declared.value.Value.{Value}
use Rattle.column_values.specs.declared.value.Value.TheVariants.{Null}
use Rattle.column_values.specs.Types.{IsColumnType, greatest_length}
use Rattle.column_values.specs.Spell.{Spell, IsSpelling, IsValueOf}
use Rattle.column_values.specs.Laws.{HasOneValue}
use Rattle.schema_text.specs.declared.table.Column.{Column}
use Rattle.schema_text.specs.TableDef.{TableDef}
use Rattle.schema_text.specs.Grammar.{IsTable, line_feed}
use Rattle.row_text.specs.Line.{FitsColumn, line_of, IsLineOf}
use Rattle.table_check.proofs.ValueDecisions.{spelling_decided}
use Rattle.row_layout.specs.Laws.{ValuesFit}

-- some value of a type, and what else is wanted of it
abbrev SomeValue : ColumnType → (Value → Type 0) → Type 0
SomeValue kind P = (v : Value) × IsValueOf kind v × P v

abbrev SomeSpelled : ColumnType → (Value → Type 0) → List ℕ → Type 0
SomeSpelled kind P bytes = (v : Value) × Spell kind v bytes × P v

spelled_decided : HasOneValue → (kind : ColumnType) → IsColumnType kind → (P : Value → Type 0)
    → ((v : Value) → IsDecided (P v)) → (bytes : List ℕ) → IsDecided (IsSpelling kind bytes)
    → IsDecided (SomeSpelled kind P bytes)
spelled_decided one kind is P each bytes (inl h) =
    same_decided (λ p. (h.0, h.1, p)) (λ s. subst P (one kind s.0 h.0 bytes is s.1 h.1) s.2) (each h.0)
spelled_decided one kind is P each bytes (inr none) = inr (λ s. none (s.0, s.1))

-- its bytes are some list of at most so many
value_decided : HasOneValue → ValuesFit → (kind : ColumnType) → IsColumnType kind → (P : Value → Type 0)
    → ((v : Value) → IsDecided (P v)) → IsDecided (SomeValue kind P)
value_decided one fit kind is P each =
    same_decided
    (λ h. (h.2.3.0, (h.2.0, h.2.2, h.2.3.1), h.2.3.2))
    (λ h.
    let few = fit kind h.0 h.1.0 is h.1.2 in
    (length h.1.0, omega (arith, few), (h.1.0, refl, h.1.1, (h.0, h.1.2, h.2))))
    (some_decided (SomeList (SomeSpelled kind P) 256)
    (λ size. list_decided (SomeSpelled kind P)
    (λ bytes. spelled_decided one kind is P each bytes (spelling_decided kind bytes)) 256 size)
    (suc (greatest_length kind)))

-- some value of a column
abbrev is_null : Value → Bool
is_null Null = true
is_null v = false

abbrev IsValue : (Value → Type 0) → Value → Type 0
IsValue P v = (is_null v ≡ false) × P v

value_fits : (column : Column) (v : Value) → is_null v ≡ false → IsValueOf column.kind v → FitsColumn column v
value_fits column Null none is = absurd (true≢false none)
value_fits column v none is = is

fits_value : (column : Column) (P : Value → Type 0) (v : Value) → FitsColumn column v → P v
    → ((column.nullable ≡ true) × P Null) ⊎ SomeValue column.kind (IsValue P)
fits_value column P Null fits p = inl (fits, p)
fits_value column P v fits p = inr (v, fits, (refl, p))

column_decided : HasOneValue → ValuesFit → (column : Column) → IsColumnType column.kind → (P : Value → Type 0)
    → ((v : Value) → IsDecided (P v)) → IsDecided ((v : Value) × FitsColumn column v × P v)
column_decided one fit column is P each =
    same_decided
    (λ h. elim h [ inl null ↦ (Null, null.0, null.1) | inr v ↦ (v.0, value_fits column v.0 v.2.0 v.1, v.2.1) ])
    (λ h. fits_value column P h.0 h.1 h.2)
    (either_decided (both_decided (truth_decided column.nullable true) (each Null))
    (value_decided one fit column.kind is (IsValue P) (λ v. both_decided (truth_decided (is_null v) false) (each v))))

-- some row of columns
abbrev SomeRow : List Column → (List Value → Type 0) → Type 0
SomeRow columns Q = (row : List Value) × AllZip FitsColumn columns row × Q row

no_columns : (Q : List Value → Type 0) (row : List Value) → AllZip FitsColumn [] row → Q row → Q []
no_columns Q [] fits q = q
no_columns Q (v ∷ row) fits q = absurd fits

first_column : (column : Column) (columns : List Column) (Q : List Value → Type 0) (row : List Value)
    → AllZip FitsColumn (column ∷ columns) row → Q row
    → (v : Value) × FitsColumn column v × SomeRow columns (λ rest. Q (v ∷ rest))
first_column column columns Q [] fits q = absurd fits
first_column column columns Q (v ∷ row) fits q = (v, fits.0, (row, fits.1, q))

rows_decided : HasOneValue → ValuesFit → (columns : List Column) → All (λ (c : Column). IsColumnType c.kind) columns
    → (Q : List Value → Type 0) → ((row : List Value) → IsDecided (Q row)) → IsDecided (SomeRow columns Q)
rows_decided one fit [] kinds Q each =
    same_decided (λ q. ([], tt, q)) (λ h. no_columns Q h.0 h.1 h.2) (each [])
rows_decided one fit (column ∷ columns) kinds Q each =
    same_decided (λ h. (h.0 ∷ h.2.0, (h.1, h.2.1), h.2.2)) (λ h. first_column column columns Q h.0 h.1 h.2)
    (column_decided one fit column (All-head (λ (c : Column). IsColumnType c.kind) column columns kinds)
    (λ v. SomeRow columns (λ rest. Q (v ∷ rest)))
    (λ v. rows_decided one fit columns (All-tail (λ (c : Column). IsColumnType c.kind) column columns kinds)
    (λ rest. Q (v ∷ rest)) (λ rest. each (v ∷ rest))))

-- some row that has the line
pub line_decided : HasOneValue → ValuesFit → (table : TableDef) → IsTable table → (line : List ℕ)
    → IsDecided ((row : List Value) × IsLineOf table row line)
line_decided one fit table is line =
    same_decided (λ h. (h.0, record { is_row = h.1; spelled = h.2 })) (λ h. (h.0, h.1.is_row, h.1.spelled))
    (rows_decided one fit table.columns is.kinds (λ row. line ++ line_feed ∷ [] ≡ line_of table row)
    (λ row. text_decided (line ++ line_feed ∷ []) (line_of table row)))
