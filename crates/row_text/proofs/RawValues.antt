-- Values of bytes at the head of a text.
use Rattle.std.proofs.Common.{◌≡◌, ℕ, ◌-◌, ◌≤◌, ◌⊎◌, inl, inr, List, [], ◌++◌, length, drop}
use Rattle.std.proofs.Common.{get_or, false, refl, sym, ap, ◌∙◌, subst, arith, eqb}
use Rattle.std.specs.Prelude.{codes}
use Rattle.std.proofs.lemmas.Bool.{cases_lt, cond-true, eq-eqb}
use Rattle.std.proofs.lemmas.List.{append_cancel_left}
use Rattle.hex.specs.Hex.{encode_lower}
use Rattle.page_source.specs.Pages.{AreBytes}
use Rattle.column_values.specs.declared.kind.ColumnType.{ColumnType}
use Rattle.column_values.specs.declared.kind.ColumnType.TheVariants as types
use Rattle.column_values.specs.declared.value.Value.{Value}
use Rattle.column_values.specs.declared.value.Value.TheVariants as values
use Rattle.column_values.specs.Types.{IsColumnType, IsRaw}
use Rattle.column_values.specs.Spell.{IsValueOf, IsSpelling}
use Rattle.row_text.specs.Values.{quoted, hex_text, hex_or_empty, value_text}
use Rattle.row_text.specs.calls.Values.{EndsValue, BeginsWith}
use Rattle.row_text.specs.calls.Bytes.{is_binary, AreLeadingBytes}
use Rattle.row_text.proofs.LeadingBytes.{bytes_apart}
use Rattle.row_text.proofs.OneNumber.{hex_of_some}
use Rattle.row_text.proofs.Unquoted.{left_at}

raw_spells : (kind : ColumnType) (raw : List ℕ) → IsRaw kind → AreBytes raw → IsSpelling kind raw
    → IsValueOf kind (values.Bytes raw)
raw_spells (types.Binary n) raw is are (values.Bytes t, spell) = (raw, are, (spell.0, refl))
raw_spells (types.Binary n) raw is are (_, spell) = absurd spell
raw_spells (types.Varbinary n) raw is are (values.Bytes t, spell) = (raw, are, (spell.0, refl))
raw_spells (types.Varbinary n) raw is are (_, spell) = absurd spell
raw_spells (types.Blob n) raw is are (values.Bytes t, spell) = (raw, are, (spell.0, refl))
raw_spells (types.Blob n) raw is are (_, spell) = absurd spell
raw_spells _ raw is are spelled = absurd is

-- what a value of such a type is, and its text
record IsRawValue (kind : ColumnType) (value : Value) : Type 0 where
  raw : List ℕ
  same : value ≡ values.Bytes raw
  are : AreBytes raw
  spells : IsSpelling kind raw
  which : ((1 ≤ length raw) × (value_text kind value ≡ hex_text raw))
      ⊎ ((is_binary kind ≡ false) × (value_text kind value ≡ quoted []))

which_of : (raw : List ℕ) → ((1 ≤ length raw) × (hex_or_empty raw ≡ hex_text raw))
    ⊎ ((false ≡ false) × (hex_or_empty raw ≡ quoted []))
which_of raw = elim (cases_lt 0 (length raw)) [
  | inl some ↦ inl (some, hex_of_some raw (λ none. omega (arith, some, none)))
  | inr none ↦ inr (
    refl,
    cond-true (eqb (length raw) 0) (quoted []) (hex_text raw)
        (eq-eqb (length raw) 0 (omega (arith, none))),
  )
]

raw_value : (kind : ColumnType) (value : Value) → IsColumnType kind → IsRaw kind → IsValueOf kind value
    → IsRawValue kind value
raw_value (types.Binary n) (values.Bytes t) known is has = record {
  raw = t;
  same = refl;
  are = subst AreBytes has.2.1 has.1;
  spells = (values.Bytes t, (ap length (sym has.2.1) ∙ has.2.0, refl));
  which = inl (omega (arith, known, ap length (sym has.2.1) ∙ has.2.0), refl);
}
raw_value (types.Varbinary n) (values.Bytes t) known is has = record {
  raw = t;
  same = refl;
  are = subst AreBytes has.2.1 has.1;
  spells = (values.Bytes t, (subst (λ (x : List ℕ). length x ≤ n) has.2.1 has.2.0, refl));
  which = which_of t;
}
raw_value (types.Blob n) (values.Bytes t) known is has = record {
  raw = t;
  same = refl;
  are = subst AreBytes has.2.1 has.1;
  spells = (values.Bytes t, (subst (λ (x : List ℕ). length x ≤ n) has.2.1 has.2.0, refl));
  which = which_of t;
}
raw_value (types.Binary n) _ known is has = absurd has.2
raw_value (types.Varbinary n) _ known is has = absurd has.2
raw_value (types.Blob n) _ known is has = absurd has.2
raw_value _ value known is has = absurd is

-- no value stands there, where neither of its texts does
pub no_raw : (kind : ColumnType) (text : List ℕ) → IsColumnType kind → IsRaw kind
    → (is_binary kind ≡ false → (rest : List ℕ) → text ≡ quoted [] ++ rest → EndsValue rest → ⊥)
    → ((raw rest : List ℕ) → AreBytes raw → 1 ≤ length raw → IsSpelling kind raw → text ≡ hex_text raw ++ rest
    → EndsValue rest → ⊥)
    → (value : Value) (rest : List ℕ) → ¬ (BeginsWith kind value text rest)
no_raw kind text known is empty none value rest begins =
    let found = raw_value kind value known is begins.is_value in
    elim found.which [
      | inl h ↦ none found.raw rest found.are h.0 found.spells
          (begins.spelled ∙ ap (λ (t : List ℕ). t ++ rest) h.1) begins.ends
      | inr h ↦ empty h.0 rest (begins.spelled ∙ ap (λ (t : List ℕ). t ++ rest) h.1) begins.ends
    ]

-- digits stand in no quotes
pub not_quoted : (text digits rest : List ℕ) → text ≡ codes "0x" ++ digits → text ≡ quoted [] ++ rest → ⊥
not_quoted text digits rest hex quote =
    let first : 48 ≡ 39 = ap (λ (t : List ℕ). get_or t 0 0) (sym hex ∙ quote) in omega (arith, first)

-- a value whose digits stand there is that of the leading bytes
pub is_leading : (text digits bytes left raw rest : List ℕ) → text ≡ codes "0x" ++ digits
    → AreLeadingBytes bytes digits left → AreBytes raw → text ≡ hex_text raw ++ rest → EndsValue rest
    → (raw ≡ bytes) × (rest ≡ left)
is_leading text digits bytes left raw rest is leads are e ends =
    let same : encode_lower raw ++ rest ≡ digits =
    append_cancel_left (codes "0x") (encode_lower raw ++ rest) digits (sym e ∙ is) in
    bytes_apart raw bytes rest left are leads.are (same ∙ leads.spelled) ends leads.all

digits_text : (kind : ColumnType) (raw : List ℕ) → IsRaw kind → 1 ≤ length raw
    → hex_text raw ≡ value_text kind (values.Bytes raw)
digits_text (types.Binary n) raw is some = refl
digits_text (types.Varbinary n) raw is some = sym (hex_of_some raw (λ none. omega (arith, some, none)))
digits_text (types.Blob n) raw is some = sym (hex_of_some raw (λ none. omega (arith, some, none)))
digits_text _ raw is some = absurd is

pub bytes_found : (kind : ColumnType) (text digits bytes rest : List ℕ) (n : ℕ) → IsRaw kind
    → text ≡ codes "0x" ++ digits → AreLeadingBytes bytes digits rest → 1 ≤ length bytes → IsSpelling kind bytes
    → EndsValue rest → n ≡ length text - length rest → BeginsWith kind (values.Bytes bytes) text (drop n text)
bytes_found kind text digits bytes rest n is e leads some spells ends place =
    let whole : text ≡ hex_text bytes ++ rest = e ∙ ap (λ (t : List ℕ). codes "0x" ++ t) leads.spelled in
    let left : drop n text ≡ rest = left_at text (hex_text bytes) rest n whole place in record {
      is_value = raw_spells kind bytes is leads.are spells;
      spelled = whole ∙ ap (λ (t : List ℕ). t ++ rest) (digits_text kind bytes is some)
          ∙ ap (λ (t : List ℕ). value_text kind (values.Bytes bytes) ++ t) (sym left);
      ends = subst EndsValue (sym left) ends;
    }
