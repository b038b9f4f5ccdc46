-- A record that is written piece by piece.
use Rattle.std.proofs.Common.{◌≡◌, ℕ, ◌+◌, ◌-◌, ◌*◌, ◌/◌, ◌%◌, ◌^◌, ◌<◌, ◌≤◌, Bool, true, false, List}
use Rattle.std.proofs.Common.{[], ◌∷◌, ◌++◌, length, get_or, take, drop, flat_map, reverse, if◌then◌else◌}
use Rattle.std.proofs.Common.{refl, sym, ap, ◌∙◌, subst, arith, inl, inr, append-nil, take-append-drop, length-append}
use Rattle.std.proofs.Math.Nat.{pow-succ'}
use Rattle.std.proofs.lemmas.Bool.{cases_lt, cond-true, cond-false}
use Rattle.std.proofs.lemmas.List.{take_more, take_all, drop_more, drop_all, reverse-append, length-reverse}
use Rattle.std.proofs.lemmas.List.{length-drop, drop-append-le, take-append-le}
use Rattle.std.proofs.lemmas.List.Concat.{flat_map-append}
use Rattle.std.proofs.lemmas.List.FromFn.{length-map-range_with_len, get_or-map-range_with_len}
use Rattle.page_source.specs.Pages.{with_bytes}
use Rattle.page_source.proofs.Written.{with_bytes-next}
use Rattle.column_values.specs.declared.field.Field.{Field}
use Rattle.column_values.specs.Types.{Fields, field_at, is_variable}
use Rattle.compact_record.specs.declared.parts.Part.{Part}
use Rattle.compact_record.specs.declared.parts.Part.TheVariants.{Null, Bytes}
use Rattle.compact_record.specs.Reading.{null_bytes}
use Rattle.compact_record.specs.Writing.{FieldPart, FitFields, is_null_part, local_bytes, part_at, null_bit}
use Rattle.compact_record.specs.Writing.{length_bytes, null_bits, bits_value, null_byte, length_of_part}
use Rattle.compact_record.specs.Writing.{all_null_bytes, all_lengths}
use Rattle.compact_record.specs.Writing.{bytes_below, value_bytes, header_bytes, record_bytes, size_of_record}
use Rattle.compact_record.proofs.Pieces.{flat_more, flat_within}
use Rattle.compact_record.proofs.ReadParts.{pairs, no_pair, pair_at, length-pairs, taken_before, values_before}
use Rattle.compact_record.proofs.ReadParts.{length-value_bytes, length-bytes_below}
use Rattle.compact_record.proofs.Placed.{size_is, record_is}

-- nothing written
pub with_bytes-none : (page : List ℕ) (at : ℕ) → page ≡ with_bytes page at []
unfolding with_bytes
with_bytes-none page at =
    let e : at + 0 ≡ at = omega arith in
    sym (ap (λ (n : ℕ). take at page ++ [] ++ drop n page) e
    ∙ ap (λ (xs : List ℕ). xs ++ drop at page) (append-nil (take at page)) ∙ take-append-drop at page)

-- one more piece behind those that were written
pub written_more : (page now next xs piece whole : List ℕ) (at end : ℕ) → now ≡ with_bytes page at xs
    → end ≡ at + length xs → next ≡ with_bytes now end piece → whole ≡ xs ++ piece → at + length xs ≤ length page
    → next ≡ with_bytes page at whole
written_more page now next xs piece whole at end is there step all inside =
    step ∙ ap (λ (p : List ℕ). with_bytes p end piece) is ∙ with_bytes-next page at end xs piece there inside
    ∙ ap (λ (ys : List ℕ). with_bytes page at ys) (sym all)

-- the length of field i alone
pub taken_step : (fields : Fields) (parts : List Part) (i : ℕ) → FitFields fields parts → i < length fields.fields
    → taken_before fields parts (i + 1)
    ≡ taken_before fields parts i + length (length_of_part (field_at fields i, part_at parts i))
taken_step fields parts i fit below =
    flat_more length_of_part (pairs fields parts) i no_pair (omega (arith, length-pairs fields parts fit))
    ∙ ap (λ (p : FieldPart). taken_before fields parts i + length (length_of_part p)) (pair_at fields parts i fit below)

pub taken_all : (fields : Fields) (parts : List Part) (n : ℕ) → FitFields fields parts → length fields.fields ≤ n
    → taken_before fields parts n ≡ length (all_lengths fields parts)
taken_all fields parts n fit most =
    ap (λ (xs : List FieldPart). length (flat_map length_of_part xs))
    (take_all n (pairs fields parts) (omega (arith, length-pairs fields parts fit)))

pub values_step : (parts : List Part) (i : ℕ) → i < length parts
    → values_before parts (i + 1) ≡ values_before parts i + length (local_bytes (part_at parts i))
values_step parts i below = flat_more local_bytes parts i Null below

pub values_all : (parts : List Part) (n : ℕ) → length parts ≤ n → values_before parts n ≡ length (value_bytes parts)
values_all parts n most =
    ap (λ (xs : List Part). length (flat_map local_bytes xs)) (take_all n parts most) ∙ sym (length-value_bytes parts)

-- the lengths from field i on
abbrev pub lengths_from : Fields → List Part → ℕ → List ℕ
lengths_from fields parts i = flat_map length_of_part (drop i (pairs fields parts))

pub lengths_step : (fields : Fields) (parts : List Part) (i : ℕ) → FitFields fields parts → i < length fields.fields
    → lengths_from fields parts i
    ≡ length_of_part (field_at fields i, part_at parts i) ++ lengths_from fields parts (i + 1)
lengths_step fields parts i fit below =
    ap (λ (xs : List FieldPart). flat_map length_of_part xs)
    (drop_more (pairs fields parts) i no_pair (omega (arith, length-pairs fields parts fit)))
    ∙ ap (λ (p : FieldPart). length_of_part p ++ lengths_from fields parts (i + 1)) (pair_at fields parts i fit below)

pub lengths_none : (fields : Fields) (parts : List Part) (i : ℕ) → FitFields fields parts → length fields.fields ≤ i
    → lengths_from fields parts i ≡ []
lengths_none fields parts i fit past =
    ap (λ (xs : List FieldPart). flat_map length_of_part xs)
    (drop_all i (pairs fields parts) (omega (arith, length-pairs fields parts fit)))

-- they are no longer than all
pub lengths_within : (fields : Fields) (parts : List Part) (i : ℕ)
    → length (lengths_from fields parts i) ≤ length (all_lengths fields parts)
lengths_within fields parts i =
    let ps : List FieldPart = pairs fields parts in
    let whole : length (flat_map length_of_part (take i ps ++ drop i ps)) ≡ length (flat_map length_of_part ps) =
    ap (λ (xs : List FieldPart). length (flat_map length_of_part xs)) (take-append-drop i ps) in
    let halves : length (flat_map length_of_part (take i ps ++ drop i ps))
    ≡ length (flat_map length_of_part (take i ps) ++ flat_map length_of_part (drop i ps)) =
    ap length (flat_map-append length_of_part (take i ps) (drop i ps)) in
    omega (arith, whole, halves, length-append (flat_map length_of_part (take i ps)) (lengths_from fields parts i))

-- the bytes of null bits from byte j on
abbrev pub nulls_from : Fields → List Part → ℕ → List ℕ
nulls_from fields parts j = drop j (all_null_bytes fields parts)

pub length-all_null_bytes : (fields : Fields) (parts : List Part)
    → length (all_null_bytes fields parts) ≡ null_bytes fields
length-all_null_bytes fields parts = length-map-range_with_len (null_byte fields parts) 0 (null_bytes fields)

pub nulls_step : (fields : Fields) (parts : List Part) (j : ℕ) → j < null_bytes fields
    → nulls_from fields parts j ≡ null_byte fields parts j ∷ nulls_from fields parts (j + 1)
nulls_step fields parts j below =
    let size = length-all_null_bytes fields parts in
    drop_more (all_null_bytes fields parts) j 0 (omega arith)
    ∙ ap (λ (b : ℕ). b ∷ nulls_from fields parts (j + 1))
    (get_or-map-range_with_len (null_byte fields parts) 0 (null_bytes fields) j j 0 below (omega arith))

pub nulls_none : (fields : Fields) (parts : List Part) (j : ℕ) → null_bytes fields ≤ j → nulls_from fields parts j ≡ []
nulls_none fields parts j past =
    drop_all j (all_null_bytes fields parts) (omega (arith, length-all_null_bytes fields parts))

pub reverse-one : (x : ℕ) (xs : List ℕ) → reverse (x ∷ xs) ≡ reverse xs ++ x ∷ []
reverse-one x xs = reverse-append (x ∷ []) xs

-- the null bits of the first i fields
abbrev pub bits_before : Fields → List Part → ℕ → List Bool
bits_before fields parts i = flat_map null_bit (take i (pairs fields parts))

pub bits_step : (fields : Fields) (parts : List Part) (i : ℕ) → FitFields fields parts → i < length fields.fields
    → bits_before fields parts (i + 1) ≡ bits_before fields parts i ++ null_bit (field_at fields i, part_at parts i)
bits_step fields parts i fit below =
    let ps : List FieldPart = pairs fields parts in
    ap (λ (xs : List FieldPart). flat_map null_bit xs)
    (take_more ps i no_pair (omega (arith, length-pairs fields parts fit)))
    ∙ flat_map-append null_bit (take i ps) (get_or ps i no_pair ∷ [])
    ∙ ap (λ (xs : List Bool). bits_before fields parts i ++ xs) (append-nil (null_bit (get_or ps i no_pair)))
    ∙ ap (λ (p : FieldPart). bits_before fields parts i ++ null_bit p) (pair_at fields parts i fit below)

pub bits_all : (fields : Fields) (parts : List Part) (n : ℕ) → FitFields fields parts → length fields.fields ≤ n
    → bits_before fields parts n ≡ null_bits fields parts
bits_all fields parts n fit most =
    ap (λ (xs : List FieldPart). flat_map null_bit xs)
    (take_all n (pairs fields parts) (omega (arith, length-pairs fields parts fit)))

-- the number that bits spell is below the power of their number
pub bits_value-lt : (bits : List Bool) → bits_value bits < 2 ^ length bits
bits_value-lt [] = omega arith
bits_value-lt (true ∷ bits) = let rest = bits_value-lt bits in rw (pow-succ' 2 (length bits)) (omega (arith, rest))
bits_value-lt (false ∷ bits) = let rest = bits_value-lt bits in rw (pow-succ' 2 (length bits)) (omega (arith, rest))

-- one more bit, above the others
pub bits_value_push : (bits : List Bool) (bit : Bool)
    → bits_value (bits ++ bit ∷ []) ≡ bits_value bits + (if bit then 2 ^ length bits else 0)
bits_value_push [] true = refl
bits_value_push [] false = refl
bits_value_push (b ∷ bits) true =
    let rest = bits_value_push bits true in rw (rest, pow-succ' 2 (length bits)) (omega arith)
bits_value_push (b ∷ bits) false = let rest = bits_value_push bits false in rw rest (omega arith)

-- byte j of some bits
abbrev pub byte_of : List Bool → ℕ → ℕ
byte_of bits j = bits_value (take 8 (drop (8 * j) bits))

-- one more bit counts in its byte alone
pub byte_other : (bits : List Bool) (bit : Bool) (j : ℕ) → (length bits / 8 ≡ j → ⊥)
    → byte_of (bits ++ bit ∷ []) j ≡ byte_of bits j
byte_other bits bit j other =
    elim (cases_lt (length bits / 8) j) [
      | inl later ↦
          let past : length (bits ++ bit ∷ []) ≤ 8 * j = omega (arith, length-append bits (bit ∷ [])) in
          let before : length bits ≤ 8 * j = omega arith in
          ap (λ (xs : List Bool). bits_value (take 8 xs))
          (drop_all (8 * j) (bits ++ bit ∷ []) past ∙ sym (drop_all (8 * j) bits before))
      | inr earlier ↦
          let full : 8 * j + 8 ≤ length bits = omega (arith, other) in
          let cut : drop (8 * j) (bits ++ bit ∷ []) ≡ drop (8 * j) bits ++ bit ∷ [] =
          drop-append-le (8 * j) bits (bit ∷ []) (omega arith) in
          let front : take 8 (drop (8 * j) bits ++ bit ∷ []) ≡ take 8 (drop (8 * j) bits) =
          take-append-le 8 (drop (8 * j) bits) (bit ∷ []) (omega (arith, length-drop (8 * j) bits)) in
          ap bits_value (ap (λ (xs : List Bool). take 8 xs) cut ∙ front)
    ]

pub byte_here : (bits : List Bool) (bit : Bool) (j : ℕ) → length bits / 8 ≡ j
    → byte_of (bits ++ bit ∷ []) j ≡ byte_of bits j + (if bit then 2 ^ (length bits % 8) else 0)
byte_here bits bit j here =
    let rest : List Bool = drop (8 * j) bits in
    let size : length rest ≡ length bits % 8 = omega (arith, length-drop (8 * j) bits) in
    let cut : drop (8 * j) (bits ++ bit ∷ []) ≡ rest ++ bit ∷ [] =
    drop-append-le (8 * j) bits (bit ∷ []) (omega arith) in
    let all : take 8 (rest ++ bit ∷ []) ≡ rest ++ bit ∷ [] =
    take_all 8 (rest ++ bit ∷ []) (omega (arith, length-append rest (bit ∷ []))) in
    let old : take 8 rest ≡ rest = take_all 8 rest (omega arith) in
    ap (λ (xs : List Bool). bits_value (take 8 xs)) cut ∙ ap bits_value all ∙ bits_value_push rest bit
    ∙ ap (λ (n : ℕ). bits_value rest + (if bit then 2 ^ n else 0)) size
    ∙ ap (λ (xs : List Bool). bits_value xs + (if bit then 2 ^ (length bits % 8) else 0)) (sym old)

-- the bits of byte j so far are as many as there are above a multiple of eight
pub byte_low : (bits : List Bool) (j : ℕ) → length bits / 8 ≡ j → byte_of bits j < 2 ^ (length bits % 8)
byte_low bits j here =
    let rest : List Bool = drop (8 * j) bits in
    let size : length rest ≡ length bits % 8 = omega (arith, length-drop (8 * j) bits) in
    let old : take 8 rest ≡ rest = take_all 8 rest (omega arith) in
    rw (← size) (subst (λ (xs : List Bool). bits_value xs < 2 ^ length rest) (sym old) (bits_value-lt rest))

-- a record in the order in which it is written
pub record_pieces : (fields : Fields) (parts : List Part) (heap kind : ℕ) (minimum : Bool)
    → record_bytes fields parts heap kind minimum
    ≡ reverse (all_lengths fields parts) ++ reverse (all_null_bytes fields parts) ++ header_bytes heap kind minimum
    ++ value_bytes parts
unfolding bytes_below
record_pieces fields parts heap kind minimum =
    record_is fields parts heap kind minimum
    ∙ ap (λ (xs : List ℕ). xs ++ header_bytes heap kind minimum ++ value_bytes parts)
    (reverse-append (all_null_bytes fields parts) (all_lengths fields parts))

-- a field that isn't variable has no length
pub no_length : (field : Field) (part : Part) → is_variable field.kind ≡ false → length_of_part (field, part) ≡ []
no_length field Null never = refl
no_length field (Bytes bytes external) never =
    cond-false (is_variable field.kind) (length_bytes field bytes external) [] never

-- the lengths with that of one more field
pub lengths_put : (fields : Fields) (parts : List Part) (page before now : List ℕ) (at end k count : ℕ)
    → FitFields fields parts → count ≡ length fields.fields → k < count
    → at + length (all_lengths fields parts) ≤ length page
    → before ≡ with_bytes page at (reverse (lengths_from fields parts (count - k)))
    → end ≡ at + length (lengths_from fields parts (count - k))
    → now ≡ with_bytes before end
    (reverse (length_of_part (field_at fields (count - 1 - k), part_at parts (count - 1 - k))))
    → now ≡ with_bytes page at (reverse (lengths_from fields parts (count - (k + 1))))
lengths_put fields parts page before now at end k count fit counted below inside written ends step =
    let i : ℕ = count - 1 - k in
    let behind : count - k ≡ i + 1 = omega arith in
    let here : count - (k + 1) ≡ i = omega arith in
    let old : List ℕ = lengths_from fields parts (count - k) in
    let piece : List ℕ = length_of_part (field_at fields i, part_at parts i) in
    let more : lengths_from fields parts (count - (k + 1)) ≡ piece ++ old =
    ap (λ (n : ℕ). lengths_from fields parts n) here ∙ lengths_step fields parts i fit (omega arith)
    ∙ ap (λ (n : ℕ). piece ++ lengths_from fields parts n) (sym behind) in
    let turned : reverse (lengths_from fields parts (count - (k + 1))) ≡ reverse old ++ reverse piece =
    ap (λ (xs : List ℕ). reverse xs) more ∙ reverse-append piece old in
    let within = lengths_within fields parts (count - k) in
    let size = length-reverse old in
    written_more page before now (reverse old) (reverse piece)
    (reverse (lengths_from fields parts (count - (k + 1)))) at end
    written (omega arith) step turned (omega arith)

pub lengths_end : (fields : Fields) (parts : List Part) (at end k count : ℕ)
    → FitFields fields parts → count ≡ length fields.fields → k < count
    → end ≡ at + length (lengths_from fields parts (count - k))
    → end + length (length_of_part (field_at fields (count - 1 - k), part_at parts (count - 1 - k)))
    ≡ at + length (lengths_from fields parts (count - (k + 1)))
lengths_end fields parts at end k count fit counted below ends =
    let i : ℕ = count - 1 - k in
    let behind : count - k ≡ i + 1 = omega arith in
    let here : count - (k + 1) ≡ i = omega arith in
    let old : List ℕ = lengths_from fields parts (count - k) in
    let piece : List ℕ = length_of_part (field_at fields i, part_at parts i) in
    let more : lengths_from fields parts (count - (k + 1)) ≡ piece ++ old =
    ap (λ (n : ℕ). lengths_from fields parts n) here ∙ lengths_step fields parts i fit (omega arith)
    ∙ ap (λ (n : ℕ). piece ++ lengths_from fields parts n) (sym behind) in
    let sizes : length (lengths_from fields parts (count - (k + 1))) ≡ length piece + length old =
    ap (λ (xs : List ℕ). length xs) more ∙ length-append piece old in
    omega arith

pub lengths_start : (fields : Fields) (parts : List Part) (page : List ℕ) (at count : ℕ)
    → FitFields fields parts → count ≡ length fields.fields
    → (page ≡ with_bytes page at (reverse (lengths_from fields parts (count - 0))))
    × (at ≡ at + length (lengths_from fields parts (count - 0)))
lengths_start fields parts page at count fit counted =
    let none : lengths_from fields parts (count - 0) ≡ [] = lengths_none fields parts (count - 0) fit (omega arith) in
    let size : length (lengths_from fields parts (count - 0)) ≡ 0 = ap (λ (xs : List ℕ). length xs) none in (
      with_bytes-none page at ∙ ap (λ (xs : List ℕ). with_bytes page at (reverse xs)) (sym none),
      omega arith,
    )

pub lengths_done : (fields : Fields) (parts : List Part) (count k : ℕ) → count ≤ k
    → lengths_from fields parts (count - k) ≡ all_lengths fields parts
lengths_done fields parts count k past =
    let none : count - k ≡ 0 = omega arith in ap (λ (n : ℕ). lengths_from fields parts n) none

-- the bytes of null bits with one more
pub nulls_put : (fields : Fields) (parts : List Part) (page before now : List ℕ) (at k count byte : ℕ)
    → count ≡ null_bytes fields → k < count → at + count ≤ length page
    → before ≡ with_bytes page at (reverse (nulls_from fields parts (count - k)))
    → byte ≡ null_byte fields parts (count - 1 - k)
    → now ≡ with_bytes before (at + k) (byte ∷ [])
    → now ≡ with_bytes page at (reverse (nulls_from fields parts (count - (k + 1))))
nulls_put fields parts page before now at k count byte counted below inside written is step =
    let j : ℕ = count - 1 - k in
    let behind : count - k ≡ j + 1 = omega arith in
    let here : count - (k + 1) ≡ j = omega arith in
    let old : List ℕ = nulls_from fields parts (count - k) in
    let size : length (reverse old) ≡ k =
    omega (
      arith,
      length-reverse old,
      length-drop (count - k) (all_null_bytes fields parts),
      length-all_null_bytes fields parts,
    ) in
    let more : nulls_from fields parts (count - (k + 1)) ≡ byte ∷ old =
    ap (λ (n : ℕ). nulls_from fields parts n) here ∙ nulls_step fields parts j (omega arith)
    ∙ ap (λ (n : ℕ). null_byte fields parts j ∷ nulls_from fields parts n) (sym behind)
    ∙ ap (λ (b : ℕ). b ∷ old) (sym is) in
    let turned : reverse (nulls_from fields parts (count - (k + 1))) ≡ reverse old ++ byte ∷ [] =
    ap (λ (xs : List ℕ). reverse xs) more ∙ reverse-one byte old in
    written_more page before now (reverse old) (byte ∷ [])
    (reverse (nulls_from fields parts (count - (k + 1)))) at (at + k)
    written (omega arith) step turned (omega arith)

pub nulls_start : (fields : Fields) (parts : List Part) (page : List ℕ) (at count : ℕ) → count ≡ null_bytes fields
    → page ≡ with_bytes page at (reverse (nulls_from fields parts (count - 0)))
nulls_start fields parts page at count counted =
    let none : nulls_from fields parts (count - 0) ≡ [] = nulls_none fields parts (count - 0) (omega arith) in
    with_bytes-none page at ∙ ap (λ (xs : List ℕ). with_bytes page at (reverse xs)) (sym none)

pub nulls_done : (fields : Fields) (parts : List Part) (count k : ℕ) → count ≤ k
    → nulls_from fields parts (count - k) ≡ all_null_bytes fields parts
nulls_done fields parts count k past =
    let none : count - k ≡ 0 = omega arith in ap (λ (n : ℕ). nulls_from fields parts n) none

-- the null bits with that of one more field
pub bits_nullable : (fields : Fields) (parts : List Part) (i : ℕ) → FitFields fields parts → i < length fields.fields
    → (field_at fields i).nullable ≡ true
    → bits_before fields parts (i + 1) ≡ bits_before fields parts i ++ is_null_part (part_at parts i) ∷ []
bits_nullable fields parts i fit below may_be =
    bits_step fields parts i fit below
    ∙ ap (λ (xs : List Bool). bits_before fields parts i ++ xs)
    (cond-true (field_at fields i).nullable (is_null_part (part_at parts i) ∷ []) [] may_be)

pub bits_never : (fields : Fields) (parts : List Part) (i : ℕ) → FitFields fields parts → i < length fields.fields
    → (field_at fields i).nullable ≡ false → bits_before fields parts (i + 1) ≡ bits_before fields parts i
bits_never fields parts i fit below never =
    bits_step fields parts i fit below
    ∙ ap (λ (xs : List Bool). bits_before fields parts i ++ xs)
    (cond-false (field_at fields i).nullable (is_null_part (part_at parts i) ∷ []) [] never)
    ∙ append-nil (bits_before fields parts i)

pub low_here : (bits : List Bool) (byte nulls j : ℕ) → nulls ≡ length bits → byte ≡ byte_of bits j → nulls / 8 ≡ j
    → byte < 2 ^ (nulls % 8)
low_here bits byte nulls j counted value here =
    let at_length : length bits / 8 ≡ j = ap (λ (n : ℕ). n / 8) (sym counted) ∙ here in
    rw (value, counted) (byte_low bits j at_length)

pub byte_same : (bits : List Bool) (bit : Bool) (byte now nulls j : ℕ) → nulls ≡ length bits → byte ≡ byte_of bits j
    → nulls / 8 ≡ j → now ≡ byte + (if bit then 2 ^ (nulls % 8) else 0) → now ≡ byte_of (bits ++ bit ∷ []) j
byte_same bits bit byte now nulls j counted value here is =
    let at_length : length bits / 8 ≡ j = ap (λ (n : ℕ). n / 8) (sym counted) ∙ here in
    is ∙ ap (λ (n : ℕ). n + (if bit then 2 ^ (nulls % 8) else 0)) value
    ∙ ap (λ (n : ℕ). byte_of bits j + (if bit then 2 ^ (n % 8) else 0)) counted ∙ sym (byte_here bits bit j at_length)

pub byte_elsewhere : (bits : List Bool) (bit : Bool) (byte nulls j : ℕ) → nulls ≡ length bits → byte ≡ byte_of bits j
    → (nulls / 8 ≡ j → ⊥) → byte ≡ byte_of (bits ++ bit ∷ []) j
byte_elsewhere bits bit byte nulls j counted value other =
    value ∙ sym (byte_other bits bit j (λ e. other (ap (λ (n : ℕ). n / 8) counted ∙ e)))

-- the values with those of one more part
pub values_more : (parts : List Part) (i : ℕ) → i < length parts
    → flat_map local_bytes (take (i + 1) parts) ≡ flat_map local_bytes (take i parts) ++ local_bytes (part_at parts i)
values_more parts i below =
    ap (λ (xs : List Part). flat_map local_bytes xs) (take_more parts i Null below)
    ∙ flat_map-append local_bytes (take i parts) (part_at parts i ∷ [])
    ∙ ap (λ (xs : List ℕ). flat_map local_bytes (take i parts) ++ xs) (append-nil (local_bytes (part_at parts i)))

pub values_done : (parts : List Part) (n : ℕ) → length parts ≤ n
    → flat_map local_bytes (take n parts) ≡ value_bytes parts
unfolding value_bytes
values_done parts n most = ap (λ (xs : List Part). flat_map local_bytes xs) (take_all n parts most)

pub values_within : (parts : List Part) (i : ℕ) → i < length parts
    → values_before parts i + length (local_bytes (part_at parts i)) ≤ length (value_bytes parts)
values_within parts i below = omega (arith, flat_within local_bytes parts i Null below, length-value_bytes parts)

pub values_put : (parts : List Part) (page before now : List ℕ) (at end i : ℕ) → i < length parts
    → at + length (value_bytes parts) ≤ length page
    → before ≡ with_bytes page at (flat_map local_bytes (take i parts)) → end ≡ at + values_before parts i
    → now ≡ with_bytes before end (local_bytes (part_at parts i))
    → now ≡ with_bytes page at (flat_map local_bytes (take (i + 1) parts))
values_put parts page before now at end i below inside written ends step =
    let within = values_within parts i below in
    written_more page before now (flat_map local_bytes (take i parts)) (local_bytes (part_at parts i))
    (flat_map local_bytes (take (i + 1) parts)) at end written ends step (values_more parts i below) (omega arith)

-- the record that is written in four pieces
pub record_put : (fields : Fields) (parts : List Part) (page first second third now : List ℕ)
    (at heap kind : ℕ) (minimum : Bool)
    → at + size_of_record fields parts ≤ length page
    → first ≡ with_bytes page at (reverse (all_lengths fields parts))
    → second ≡ with_bytes first (at + length (all_lengths fields parts)) (reverse (all_null_bytes fields parts))
    → third ≡ with_bytes second (at + length (all_lengths fields parts) + null_bytes fields)
    (header_bytes heap kind minimum)
    → now ≡ with_bytes third (at + length (all_lengths fields parts) + null_bytes fields + 5) (value_bytes parts)
    → now ≡ with_bytes page at (record_bytes fields parts heap kind minimum)
record_put fields parts page first second third now at heap kind minimum inside e1 e2 e3 e4 =
    let a : List ℕ = reverse (all_lengths fields parts) in
    let b : List ℕ = reverse (all_null_bytes fields parts) in
    let h : List ℕ = header_bytes heap kind minimum in
    let five : length h ≡ 5 = refl in
    let la : length a ≡ length (all_lengths fields parts) = length-reverse (all_lengths fields parts) in
    let lb : length b ≡ null_bytes fields =
    length-reverse (all_null_bytes fields parts) ∙ length-all_null_bytes fields parts in
    let sizes = size_is fields parts in
    let below = length-bytes_below fields parts in
    let two : second ≡ with_bytes page at (a ++ b) =
    written_more page first second a b (a ++ b) at (at + length (all_lengths fields parts)) e1 (omega arith) e2 refl
    (omega arith) in
    let ab = length-append a b in
    let three : third ≡ with_bytes page at (a ++ b ++ h) =
    written_more page second third (a ++ b) h
    (a ++ b ++ h) at (at + length (all_lengths fields parts) + null_bytes fields)
    two (omega arith) e3 refl (omega arith) in
    let abh = length-append (a ++ b) h in
    written_more page third now (a ++ b ++ h) (value_bytes parts) (record_bytes fields parts heap kind minimum) at
    (at + length (all_lengths fields parts) + null_bytes fields + 5) three (omega arith) e4
    (record_pieces fields parts heap kind minimum) (omega arith)
