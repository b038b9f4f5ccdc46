-- The parts of a long value.
use Rattle.std.proofs.Common.{◌≡◌, ℕ, Bool, true, false, cond, eqb, List, [], ◌∷◌, ◌++◌, length, flat_map, refl, sym}
use Rattle.std.proofs.Common.{ap, ◌∙◌, arith}
use Rattle.std.proofs.lemmas.Bool.{false≢true, ne_eqb}
use Rattle.std.proofs.lemmas.List.{append-nil}
use Rattle.hex.specs.Hex.{encode_lower, encode_with, lower_digits}
use Rattle.column_values.specs.declared.kind.ColumnType.{ColumnType}
use Rattle.column_values.specs.declared.kind.ColumnType.TheVariants as types
use Rattle.column_values.specs.declared.value.Value.{Value}
use Rattle.column_values.specs.declared.value.Value.TheVariants.{Text, Bytes}
use Rattle.column_values.specs.Spell.{Spell}
use Rattle.row_text.specs.Values.{quoted, escaped_text, hex_or_empty, value_text}
use Rattle.row_text.specs.Writer.{is_long, is_text, long_open, long_part, long_close}
use Rattle.row_text.specs.Laws.{in_one_part, all_bytes, in_parts}
use Rattle.row_text.proofs.Escapes.{escaped_append}
use Rattle.row_text.proofs.Hex.{encode_append}

pub parts_join : (kind : ColumnType) (a b : List ℕ) → long_part kind (a ++ b) ≡ long_part kind a ++ long_part kind b
parts_join kind a b = by_kind (is_text kind)
  where
    by_kind : (text : Bool) → cond text (escaped_text (a ++ b)) (encode_lower (a ++ b))
        ≡ cond text (escaped_text a) (encode_lower a) ++ cond text (escaped_text b) (encode_lower b)
    by_kind true = escaped_append a b
    by_kind false = encode_append lower_digits a b

pub no_part : (kind : ColumnType) → long_part kind [] ≡ []
unfolding escaped_text encode_with
no_part kind = by_kind (is_text kind)
  where
    by_kind : (text : Bool) → cond text (escaped_text []) (encode_lower []) ≡ []
    by_kind true = refl
    by_kind false = refl

-- the parts one after another are one part
one_part : (kind : ColumnType) (parts : List (List ℕ)) → flat_map (long_part kind) parts ≡ long_part kind
    (all_bytes parts)
one_part kind [] = sym (no_part kind)
one_part kind (part ∷ parts) =
    ap (λ (rest : List ℕ). long_part kind part ++ rest) (one_part kind parts)
    ∙ sym (parts_join kind part (all_bytes parts))

-- a long value in one part
text_whole : (bytes text : List ℕ) → bytes ≡ text → quoted (escaped_text bytes) ≡ quoted (escaped_text text)
text_whole bytes text same = ap (λ (t : List ℕ). quoted (escaped_text t)) same

abbrev raw_open : ℕ → List ℕ
raw_open size = cond (eqb size 0) (39 ∷ 39 ∷ []) (48 ∷ 120 ∷ [])

raw_whole : (bytes value : List ℕ) → bytes ≡ value
    → raw_open (length bytes) ++ (encode_lower bytes ++ []) ≡ hex_or_empty value
unfolding encode_with
raw_whole bytes value same = by_bytes bytes ∙ ap hex_or_empty same
  where
    by_bytes : (bytes : List ℕ) → raw_open (length bytes) ++ (encode_lower bytes ++ []) ≡ hex_or_empty bytes
    by_bytes [] = refl
    by_bytes (b ∷ bytes) =
        let some : eqb (length (b ∷ bytes)) 0 ≡ false = ne_eqb _ _ (λ e. omega (arith, e)) in
        rw some (ap (λ (t : List ℕ). 48 ∷ 120 ∷ t) (append-nil (encode_lower (b ∷ bytes))))

pub is_value : (kind : ColumnType) (value : Value) (bytes : List ℕ) → is_long kind ≡ true → Spell kind value bytes
    → in_one_part kind bytes ≡ value_text kind value
is_value (types.Varchar n) (Text text) bytes long spell = text_whole bytes text spell.1
is_value (types.Text n) (Text text) bytes long spell = text_whole bytes text spell.1
is_value (types.Utf8Varchar n) (Text text) bytes long spell = text_whole bytes text spell.1
is_value (types.Utf8Text n) (Text text) bytes long spell = text_whole bytes text spell.2
is_value (types.Varbinary n) (Bytes value) bytes long spell = raw_whole bytes value spell.1
is_value (types.Blob n) (Bytes value) bytes long spell = raw_whole bytes value spell.1
is_value (types.Varchar n) _ bytes long spell = absurd spell
is_value (types.Text n) _ bytes long spell = absurd spell
is_value (types.Utf8Varchar n) _ bytes long spell = absurd spell
is_value (types.Utf8Text n) _ bytes long spell = absurd spell
is_value (types.Varbinary n) _ bytes long spell = absurd spell
is_value (types.Blob n) _ bytes long spell = absurd spell
is_value _ value bytes long spell = absurd (false≢true long)

pub parts_are_value : (kind : ColumnType) (value : Value) (parts : List (List ℕ)) → is_long kind ≡ true
    → Spell kind value (all_bytes parts) → in_parts kind parts ≡ value_text kind value
parts_are_value kind value parts long spell =
    let bytes = all_bytes parts in
    ap (λ (t : List ℕ). long_open kind (length bytes) ++ (t ++ long_close kind)) (one_part kind parts)
    ∙ is_value kind value bytes long spell
