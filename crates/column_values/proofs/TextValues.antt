-- Texts and bytes as values.
use Rattle.std.proofs.Common.{◌≡◌, ◌≢◌, ℕ, suc, ◌-◌, ◌*◌, ◌<◌, ◌≤◌, Bool, true, false, eqb, List, [], ◌∷◌, slice_index}
use Rattle.std.proofs.Common.{length, ◌++◌, replicate, refl, sym, ap, ◌∙◌, subst, inl, inr, arith, length-append}
use Rattle.std.specs.Prelude.{◌==◌, if◌then◌else◌}
use Rattle.std.proofs.lemmas.Bool.{cases_eq, false≢true}
use Rattle.std.proofs.lemmas.Bool.Decides.{nat_tests}
use Rattle.std.proofs.lemmas.List.{length-replicate}
use Rattle.std.proofs.lemmas.List.Elements.{All-append, All-replicate, All-head, All-tail}
use Rattle.std.specs.Prelude.{All, Option, Some, None, is_some, IsTrue}
use Rattle.std.specs.List.{concat}
use Rattle.page_source.specs.Pages.{AreBytes}
use Rattle.column_values.specs.declared.kind.ColumnType.{ColumnType}
use Rattle.column_values.specs.declared.kind.ColumnType.TheVariants as types
use Rattle.column_values.specs.declared.value.Value.TheVariants as values
use Rattle.column_values.specs.declared.value.Value.{Value}
use Rattle.column_values.specs.Characters.{IsCharacter, HasCharacters, IsCharacterText, IsTextUpTo}
use Rattle.column_values.specs.Types.{HoldsText}
use Rattle.column_values.specs.Spell.{Spell, Finds, SpellsChar, FitsText, IsTrimmed, IsSpelled, IsSpelling}

pub char_spelled : (n : ℕ) (text bytes : List ℕ) → IsTrimmed n text → AreBytes text
    → bytes ≡ text ++ replicate (n - length text) 32
    → IsSpelled (types.Char n) (values.Text text) bytes
char_spelled n text bytes trimmed are is = rw is (record {
  are_bytes = All-append (λ (b : ℕ). b < 256) text (replicate (n - length text) 32) are
      (All-replicate (λ (b : ℕ). b < 256) (n - length text) 32 (omega arith));
  spell = record {
    size = omega (
      arith,
      trimmed.fits,
      length-append text (replicate (n - length text) 32),
      length-replicate {A = ℕ} (n - length text) 32,
    );
    filled = refl;
    is_trimmed = trimmed;
  };
  same = refl;
})

-- a text without the spaces at its end
abbrev pub with_front : ℕ → List ℕ → List ℕ
with_front b [] = if b == 32 then [] else b ∷ []
with_front b (c ∷ text) = b ∷ c ∷ text

abbrev pub trim : List ℕ → List ℕ
trim [] = []
trim (b ∷ bytes) = with_front b (trim bytes)

-- no space at the end
abbrev pub NoSpaceAtEnd : List ℕ → Type 0
NoSpaceAtEnd text = 0 < length text → slice_index text (length text - 1) ≢ 32

pub no_front : (b : ℕ) → b ≡ 32 → with_front b [] ≡ []
no_front b is = let t : eqb b 32 ≡ true = grind (arith, nat_tests) in rw t refl

pub one_front : (b : ℕ) → (b ≡ 32 → ⊥) → with_front b [] ≡ b ∷ []
one_front b not = let t : eqb b 32 ≡ false = grind (arith, nat_tests) in rw t refl

all_spaces : (b n : ℕ) → b ≡ 32 → b ∷ replicate (n - 0) 32 ≡ replicate (suc n - 0) 32
all_spaces b n is =
    let step : ◌≡◌ {A = List ℕ} (32 ∷ replicate (n - 0) 32) (replicate (suc (n - 0)) 32) = refl in
    let size : suc (n - 0) ≡ suc n - 0 = omega arith in
    ap (λ (x : ℕ). x ∷ replicate (n - 0) 32) is ∙ step ∙ ap (λ (k : ℕ). replicate k 32) size

one_byte : (b n : ℕ) → b ∷ replicate (n - 0) 32 ≡ (b ∷ []) ++ replicate (suc n - 1) 32
one_byte b n = let size : n - 0 ≡ suc n - 1 = omega arith in ap (λ (k : ℕ). b ∷ replicate k 32) size

-- the text of a space or another byte, and of nothing but spaces behind it
abbrev IsTrimOf : ℕ → ℕ → List ℕ → Type 0
IsTrimOf b n text = (b ∷ replicate (n - 0) 32 ≡ text ++ replicate (suc n - length text) 32) ×
    (length text ≤ suc n) × NoSpaceAtEnd text

trim_front : (b : ℕ) (text : List ℕ) (n : ℕ) → length text ≤ n → NoSpaceAtEnd text
    → (b ∷ (text ++ replicate (n - length text) 32) ≡ with_front b text ++ replicate
    (suc n - length (with_front b text)) 32)
    × (length (with_front b text) ≤ suc n) × NoSpaceAtEnd (with_front b text)
trim_front b [] n fits last =
    elim (cases_eq b 32) [
      | inl is ↦ subst (λ (t : List ℕ). IsTrimOf b n t) (sym (no_front b is)) (
        all_spaces b n is,
        omega arith,
        λ some. absurd (omega arith),
      )
      | inr not ↦ subst (λ (t : List ℕ). IsTrimOf b n t) (sym (one_front b not))
          (one_byte b n, omega arith, λ some. not)
    ]
trim_front b (c ∷ text) n fits last =
    let size : n - length (c ∷ text) ≡ suc n - length (b ∷ c ∷ text) = omega arith in
    let this : length (b ∷ c ∷ text) - 1 ≡ suc (length text) = omega arith in
    let that : length (c ∷ text) - 1 ≡ length text = omega arith in (
      ap (λ (k : ℕ). b ∷ ((c ∷ text) ++ replicate k 32)) size,
      omega arith,
      λ some e. last (omega arith) (ap (slice_index (c ∷ text)) that ∙ sym (ap (slice_index (b ∷ c ∷ text)) this) ∙ e),
    )

trimmed_is : (bytes : List ℕ) → (bytes ≡ trim bytes ++ replicate (length bytes - length (trim bytes)) 32) ×
    (length (trim bytes) ≤ length bytes) × NoSpaceAtEnd (trim bytes)
trimmed_is [] = (refl, omega arith, λ some. absurd (omega arith))
trimmed_is (b ∷ bytes) =
    let rest = trimmed_is bytes in
    let next = trim_front b (trim bytes) (length bytes) rest.1 rest.2 in
    (ap (λ (t : List ℕ). b ∷ t) rest.0 ∙ next.0, next.1, next.2)

pub char_of : (n : ℕ) (bytes : List ℕ) → length bytes ≡ n → SpellsChar n (trim bytes) bytes
char_of n bytes size =
    let is = trimmed_is bytes in
    record {
      size = size;
      filled = rw (← size) is.0;
      is_trimmed =
          record { fits = omega (arith, is.1, size); trimmed = is.2 };
    }

-- where bytes fit a type they spell a value of it
pub fit_spells : (kind : ColumnType) (bytes : List ℕ) → FitsText kind bytes → IsSpelling kind bytes
fit_spells (types.Char n) bytes h = (values.Text (trim bytes), char_of n bytes h)
fit_spells (types.Binary n) bytes h = (values.Bytes bytes, (h, refl))
fit_spells (types.Varchar n) bytes h = (values.Text bytes, (h, refl))
fit_spells (types.Varbinary n) bytes h = (values.Bytes bytes, (h, refl))
fit_spells (types.Text n) bytes h = (values.Text bytes, (h, refl))
fit_spells (types.Blob n) bytes h = (values.Bytes bytes, (h, refl))
fit_spells (types.Utf8Varchar n) bytes h = (values.Text bytes, (h, refl))
fit_spells (types.Utf8Text n) bytes h = (values.Text bytes, (h.0, h.1, refl))
fit_spells _ bytes h = absurd h

text_fits : (kind : ColumnType) (text bytes : List ℕ) → HoldsText kind → Spell kind (values.Text text) bytes
    → FitsText kind bytes
text_fits (types.Char n) text bytes is spell = spell.size
text_fits (types.Varchar n) text bytes is spell = spell.0
text_fits (types.Text n) text bytes is spell = spell.0
text_fits (types.Utf8Varchar n) text bytes is spell = spell.0
text_fits (types.Utf8Text n) text bytes is spell = (spell.0, spell.1)
text_fits (types.Int w true) text bytes is spell = absurd spell
text_fits (types.Int w false) text bytes is spell = absurd spell
text_fits _ text bytes is spell = absurd spell

raw_fits : (kind : ColumnType) (raw bytes : List ℕ) → HoldsText kind → Spell kind (values.Bytes raw) bytes
    → FitsText kind bytes
raw_fits (types.Binary n) raw bytes is spell = spell.0
raw_fits (types.Varbinary n) raw bytes is spell = spell.0
raw_fits (types.Blob n) raw bytes is spell = spell.0
raw_fits (types.Int w true) raw bytes is spell = absurd spell
raw_fits (types.Int w false) raw bytes is spell = absurd spell
raw_fits _ raw bytes is spell = absurd spell

-- a value of a text or bytes type is a text or bytes
pub spelled_fits : (kind : ColumnType) (value : Value) (bytes : List ℕ) → HoldsText kind → Spell kind value bytes
    → FitsText kind bytes
spelled_fits kind (values.Text text) bytes is spell = text_fits kind text bytes is spell
spelled_fits kind (values.Bytes raw) bytes is spell = raw_fits kind raw bytes is spell
spelled_fits (types.Char n) _ bytes is spell = absurd spell
spelled_fits (types.Binary n) _ bytes is spell = absurd spell
spelled_fits (types.Varchar n) _ bytes is spell = absurd spell
spelled_fits (types.Varbinary n) _ bytes is spell = absurd spell
spelled_fits (types.Text n) _ bytes is spell = absurd spell
spelled_fits (types.Blob n) _ bytes is spell = absurd spell
spelled_fits (types.Utf8Varchar n) _ bytes is spell = absurd spell
spelled_fits (types.Utf8Text n) _ bytes is spell = absurd spell
spelled_fits (types.Int w b) _ bytes is spell = elim is [ inl h ↦ absurd h | inr h ↦ absurd h ]
spelled_fits (types.Date) _ bytes is spell = elim is [ inl h ↦ absurd h | inr h ↦ absurd h ]
spelled_fits (types.DateTime f) _ bytes is spell = elim is [ inl h ↦ absurd h | inr h ↦ absurd h ]
spelled_fits (types.Timestamp f) _ bytes is spell = elim is [ inl h ↦ absurd h | inr h ↦ absurd h ]
spelled_fits (types.Year) _ bytes is spell = elim is [ inl h ↦ absurd h | inr h ↦ absurd h ]
spelled_fits (types.Decimal p s) _ bytes is spell = elim is [ inl h ↦ absurd h | inr h ↦ absurd h ]

-- more bytes than four a character are no text of so many
text_size : (text : List ℕ) (count : ℕ) → HasCharacters text count → (count ≤ length text) × (length text ≤ 4 * count)
text_size text count are =
    let sizes = sizes_of are.characters are.each in
    let size = ap length are.joined in
    (omega (arith, sizes.0, are.counted, size), omega (arith, sizes.1, are.counted, size))
  where
    size_of : (c : List ℕ) → IsCharacter c → (1 ≤ length c) × (length c ≤ 4)
    size_of (a ∷ []) h = (omega arith, omega arith)
    size_of (a ∷ b ∷ []) h = (omega arith, omega arith)
    size_of (a ∷ b ∷ c ∷ []) h = (omega arith, omega arith)
    size_of (a ∷ b ∷ c ∷ d ∷ []) h = (omega arith, omega arith)
    size_of _ h = absurd h

    sizes_of : (cs : List (List ℕ)) → All IsCharacter cs
        → (length cs ≤ length (concat cs)) × (length (concat cs) ≤ 4 * length cs)
    sizes_of [] are = (omega arith, omega arith)
    sizes_of (c ∷ cs) are =
        let one = size_of c (All-head IsCharacter c cs are) in
        let rest = sizes_of cs (All-tail IsCharacter c cs are) in
        let both = length-append c (concat cs) in
        (omega (arith, one.0, rest.0, both), omega (arith, one.1, rest.1, both))

pub too_long : (n : ℕ) (bytes : List ℕ) → 4 * n < length bytes → ¬ (IsTextUpTo n bytes)
too_long n bytes long (count, few, are) = omega (arith, (text_size bytes count are).1, few)

pub any_text : (n : ℕ) (bytes : List ℕ) → length bytes ≤ 4294967295 → IsCharacterText bytes
    → IsTextUpTo 4294967295 bytes
any_text n bytes few (count, are) = (count, omega (arith, (text_size bytes count are).0), are)

-- a value that was found, or none
pub found_some : (kind : ColumnType) (bytes : List ℕ) (found : Option Value) (test : Bool) → test ≡ is_some found
    → Finds kind bytes found
    → (IsTrue test → IsSpelling kind bytes) × (IsSpelling kind bytes → IsTrue test)
found_some kind bytes (Some value) test is h = (λ _. (value, h), λ _. is)
found_some kind bytes None test is h = (λ t. absurd (false≢true (sym is ∙ t)), λ some. absurd (h some))

pub fits_both : (kind : ColumnType) (bytes : List ℕ) (test : Bool) → HoldsText kind
    → ((IsTrue test → FitsText kind bytes) × (FitsText kind bytes → IsTrue test))
    → (IsTrue test → IsSpelling kind bytes) × (IsSpelling kind bytes → IsTrue test)
fits_both kind bytes test is both = (
  λ t. fit_spells kind bytes (both.0 t),
  λ spelling. both.1 (spelled_fits kind spelling.0 bytes is spelling.1),
)
