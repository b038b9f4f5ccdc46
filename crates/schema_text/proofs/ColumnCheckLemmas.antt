-- What is read of a column line.
use Rattle.std.proofs.Common.{◌≡◌, ◌≢◌, ℕ, ◌-◌, ◌<◌, ◌≤◌, Bool, true, false, List, [], ◌∷◌, ◌++◌, length, get_or, All}
use Rattle.std.proofs.Common.{Option, Some, None, inl, inr, sym, ap, ◌∙◌, subst}
use Rattle.std.specs.Prelude.{Any, codes}
use Rattle.std.proofs.lemmas.Slice.Eq.{bytes_eq-Decides}
use Rattle.column_values.specs.declared.kind.ColumnType.{ColumnType}
use Rattle.schema_text.specs.declared.table.Format.{Format}
use Rattle.schema_text.specs.declared.table.Format.TheVariants.{Compact, Dynamic}
use Rattle.schema_text.specs.declared.table.Column.{Column}
use Rattle.schema_text.specs.TableDef.{TableDef}
use Rattle.schema_text.specs.Grammar.{IsName, type_words, nullity_word, format_word}
use Rattle.schema_text.specs.Refusals.{Line, word, type_part, last_word, is_column_line, IsTypeForm, IsTypePart}
use Rattle.schema_text.specs.Refusals.{IsNullityWord, IsFormatWord, IsColumnForm, IsNewColumn}
use Rattle.schema_text.specs.Parts.{IsPart}
use Rattle.schema_text.specs.Cuts.{IsTypeRead, IsColumnRead}
use Rattle.schema_text.proofs.TypeLemmas.{column_line_is}
use Rattle.schema_text.proofs.CheckLemmas.{column_good}

read_form : (words : Line) (o : Option ColumnType) → IsTypeRead words (Some o) → IsTypeForm words
read_form words None h = h.0
read_form words (Some kind) h = inl (kind, h.0, h.1)

pub is_nullity : (w : List ℕ) (b : Bool) → w ≡ nullity_word b → IsNullityWord w
is_nullity w true e = inl e
is_nullity w false e = inr e

-- a column line whose form is read
pub record IsFormed (t : TableDef) (line : Line) (o : Option ColumnType) (nullable : Bool) : Type 0 where
  pub before : length t.indexes ≡ 0
  pub long : 4 ≤ length line
  pub type : IsTypeRead (type_part line) (Some o)
  pub nullity : last_word line ≡ nullity_word nullable

pub form_of : (t : TableDef) (line : Line) (o : Option ColumnType) (nullable : Bool) → IsFormed t line o nullable
    → (length t.indexes ≡ 0) × IsColumnForm line
form_of t line o nullable h =
    (h.before, (h.long, read_form (type_part line) o h.type, is_nullity (last_word line) nullable h.nullity))

pub last_is : (line : Line) (n : ℕ) (last : List ℕ) → n ≡ length line → last ≡ get_or line (n - 1) []
    → last ≡ last_word line
last_is line n last size e = e ∙ ap (λ (k : ℕ). get_or line (k - 1) []) size

pub first_word : (line : Line) → is_column_line line ≡ true → word line 0 ≡ codes "column"
first_word line h = (bytes_eq-Decides (word line 0) (codes "column")).0 h

pub any_not_all : {X : Type 0} (P : X → Type 0) (xs : List X) → Any P xs → All (λ x. P x → ⊥) xs → ⊥
any_not_all P xs h all = all h.0 h.1 h.2 (subst P (sym h.3) h.4)

pub type_number : (words : Line) (o : Option ColumnType) → o ≡ None → IsTypeRead words (Some o) → IsTypePart words → ⊥
type_number words None e h = h.1
type_number words (Some kind) e h = absurd (cc)

pub type_good : (words : Line) (o : Option ColumnType) (kind : ColumnType) → o ≡ Some kind → IsTypeRead words (Some o)
    → IsTypeRead words (Some (Some kind))
type_good words o kind e h = subst (λ (p : Option ColumnType). IsTypeRead words (Some p)) e h

pub any_not_new : (t : TableDef) (columns : List Column) (name w : List ℕ) → columns ≡ t.columns → name ≡ w
    → Any (λ (c : Column). c.name ≡ name) columns → IsNewColumn t w → ⊥
any_not_new t columns name w e n h new =
    any_not_all (λ (c : Column). c.name
    ≡ name) columns h (λ k d below same. subst (λ (xs : List Column). All (λ (c : Column). c.name ≡ w
    → ⊥) xs) (sym e) new k d below (same ∙ n))

pub is_new : (t : TableDef) (columns : List Column) (name w : List ℕ) → columns ≡ t.columns → name ≡ w
    → All (λ (c : Column). c.name ≢ name) columns → IsNewColumn t w
is_new t columns name w e n h = subst (λ (xs : List Column). All (λ (c : Column). c.name ≡ w
    → ⊥) xs) e (λ k d below same. h k d below (same ∙ sym n))

-- a column line that passes
pub column_read : (t : TableDef) (line : Line) (kind : ColumnType) (nullable : Bool) → IsPart t
    → is_column_line line ≡ true → IsFormed t line (Some kind) nullable → IsName (word line 1) → length t.columns < 64
    → IsNewColumn t (word line 1) → IsColumnRead t line (word line 1) kind nullable
column_read t line kind nullable part first h name few new = record {
  part = part;
  checked = column_good t line (form_of t line (Some kind) nullable h) name (kind, h.type.0, h.type.1) few new;
  next = record { name = name; kind = h.type.0; few = few; new = new; before = h.before };
  spelled =
      column_line_is line h.long
      ∙ ap (λ w. ((w ∷ word line 1 ∷ []) ++ type_part line) ++ last_word line ∷ []) (first_word line first)
      ∙ ap (λ ws. ((codes "column" ∷ word line 1 ∷ []) ++ ws) ++ last_word line ∷ []) h.type.1
      ∙ ap (λ w. ((codes "column" ∷ word line 1 ∷ []) ++ type_words kind) ++ w ∷ []) h.nullity;
}

pub is_format : (w : List ℕ) (f : Format) → w ≡ format_word f → IsFormatWord w
is_format w Compact e = inl e
is_format w Dynamic e = inr e
