-- Values that stand in quotes.
use Rattle.std.proofs.Common.{◌≡◌, ℕ, ◌-◌, List, ◌++◌, length, true}
use Rattle.std.proofs.Common.{refl, sym, ap, ◌∙◌, subst, replicate}
use Rattle.std.proofs.lemmas.Bool.{false≢true}
use Rattle.page_source.specs.Pages.{AreBytes}
use Rattle.column_values.specs.declared.kind.ColumnType.{ColumnType}
use Rattle.column_values.specs.declared.kind.ColumnType.TheVariants as types
use Rattle.column_values.specs.declared.value.Value.{Value}
use Rattle.column_values.specs.declared.value.Value.TheVariants as values
use Rattle.column_values.specs.Spell.{Spell, IsValueOf, IsSpelling, IsTrimmed}
use Rattle.column_values.proofs.TextValues.{char_spelled}
use Rattle.row_text.specs.Values.{quoted, escaped_text, value_text}
use Rattle.row_text.specs.calls.Values.{EndsValue, BeginsWith}
use Rattle.row_text.specs.calls.Texts.{is_quoted}
use Rattle.row_text.specs.Writer.{is_text}
use Rattle.row_text.proofs.Quotes.{quoted_apart}

-- a text of fixed length
pub char_value : (n : ℕ) (text : List ℕ) → AreBytes text → IsTrimmed n text
    → IsValueOf (types.Char n) (values.Text text)
char_value n text are trimmed =
    let is = char_spelled n text (text ++ replicate (n - length text) 32) trimmed are refl in
    (text ++ replicate (n - length text) 32, is.are_bytes, is.spell)

pub char_trimmed : (n : ℕ) (text : List ℕ) → IsValueOf (types.Char n) (values.Text text) → IsTrimmed n text
char_trimmed n text (_, _, spell) = spell.is_trimmed

-- a text of another type is spelled by itself
pub text_spells : (kind : ColumnType) (text : List ℕ) → is_text kind ≡ true → AreBytes text → IsSpelling kind text
    → IsValueOf kind (values.Text text)
text_spells (types.Varchar n) text is are (values.Text t, spell) = (text, are, (spell.0, refl))
text_spells (types.Varchar n) text is are (_, spell) = absurd spell
text_spells (types.Text n) text is are (values.Text t, spell) = (text, are, (spell.0, refl))
text_spells (types.Text n) text is are (_, spell) = absurd spell
text_spells (types.Utf8Varchar n) text is are (values.Text t, spell) = (text, are, (spell.0, refl))
text_spells (types.Utf8Varchar n) text is are (_, spell) = absurd spell
text_spells (types.Utf8Text n) text is are (values.Text t, spell) = (text, are, (spell.0, spell.1, refl))
text_spells (types.Utf8Text n) text is are (_, spell) = absurd spell
text_spells _ text is are spelled = absurd (false≢true is)

pub text_spelled : (kind : ColumnType) (text : List ℕ) → is_text kind ≡ true → IsValueOf kind (values.Text text)
    → IsSpelling kind text
text_spelled (types.Varchar n) text is (bytes, are, spell) =
    (values.Text text, subst (λ (t : List ℕ). Spell (types.Varchar n) (values.Text text) t) spell.1 spell)
text_spelled (types.Text n) text is (bytes, are, spell) =
    (values.Text text, subst (λ (t : List ℕ). Spell (types.Text n) (values.Text text) t) spell.1 spell)
text_spelled (types.Utf8Varchar n) text is (bytes, are, spell) =
    (values.Text text, subst (λ (t : List ℕ). Spell (types.Utf8Varchar n) (values.Text text) t) spell.1 spell)
text_spelled (types.Utf8Text n) text is (bytes, are, spell) =
    (values.Text text, subst (λ (t : List ℕ). Spell (types.Utf8Text n) (values.Text text) t) spell.2 spell)
text_spelled _ text is value = absurd (false≢true is)

-- each value of the type is a text
pub record IsTextValue (value : Value) : Type 0 where
  pub text : List ℕ
  pub same : value ≡ values.Text text

text_of : (kind : ColumnType) (value : Value) → is_quoted kind ≡ true → IsValueOf kind value → IsTextValue value
text_of (types.Char n) (values.Text t) quote is = record { text = t; same = refl }
text_of (types.Char n) _ quote is = absurd is.2
text_of (types.Varchar n) (values.Text t) quote is = record { text = t; same = refl }
text_of (types.Varchar n) _ quote is = absurd is.2
text_of (types.Text n) (values.Text t) quote is = record { text = t; same = refl }
text_of (types.Text n) _ quote is = absurd is.2
text_of (types.Utf8Varchar n) (values.Text t) quote is = record { text = t; same = refl }
text_of (types.Utf8Varchar n) _ quote is = absurd is.2
text_of (types.Utf8Text n) (values.Text t) quote is = record { text = t; same = refl }
text_of (types.Utf8Text n) _ quote is = absurd is.2
text_of _ value quote is = absurd (false≢true quote)

-- a value that the text begins with is a text in quotes
begins_quoted : (kind : ColumnType) (value : Value) (text rest : List ℕ) → is_quoted kind ≡ true
    → BeginsWith kind value text rest → (inside : List ℕ) × IsValueOf kind (values.Text inside)
    × (text ≡ quoted (escaped_text inside) ++ rest)
begins_quoted kind value text rest quote begins =
    let is = text_of kind value quote begins.is_value in (
      is.text,
      subst (IsValueOf kind) is.same begins.is_value,
      begins.spelled ∙ ap (λ (v : Value). value_text kind v ++ rest) is.same,
    )

-- another text stands there
pub no_text : (kind : ColumnType) (text inside rest : List ℕ) → is_quoted kind ≡ true
    → text ≡ quoted (escaped_text inside) ++ rest → (IsValueOf kind (values.Text inside) → EndsValue rest → ⊥)
    → (value : Value) (more : List ℕ) → ¬ (BeginsWith kind value text more)
no_text kind text inside rest quote is none value more begins =
    let found = begins_quoted kind value text more quote begins in
    let same = quoted_apart found.0 inside more rest (sym found.2 ∙ is) in
    none (subst (λ (t : List ℕ). IsValueOf kind (values.Text t)) same.0 found.1) (subst EndsValue same.1 begins.ends)

pub not_char : (kind : ColumnType) → is_quoted kind ≡ true → ((n : ℕ) → kind ≡ types.Char n → ⊥) → is_text kind ≡ true
not_char (types.Char n) quote other = absurd (other n refl)
not_char _ quote other = quote
