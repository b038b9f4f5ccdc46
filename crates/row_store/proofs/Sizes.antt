-- How long a stored row is in its record.
use Rattle.std.proofs.Common.{◌≡◌, ℕ, zero, suc, ◌+◌, ◌-◌, ◌/◌, ◌%◌, ◌<◌, ◌≤◌, min, Bool, true, false, cond, not, ◌&&◌}
use Rattle.std.proofs.Common.{◌||◌}
use Rattle.std.proofs.Common.{leb, ◌^◌, ltb, List, [], ◌∷◌, length, take, map, get_or, zip, flat_map, refl, sym}
use Rattle.std.proofs.Common.{ap, ◌∙◌}
use Rattle.std.proofs.Common.{arith, inl, inr}
use Rattle.std.specs.List.{range_with_len, sum_by}
use Rattle.std.proofs.lemmas.Bool.{cases_lt, le-leb, lt-leb}
use Rattle.std.proofs.lemmas.List.{length-append, length-take, length-map, get_or-map, ext_get_or}
use Rattle.std.proofs.lemmas.List.FromFn.{length-map-range_with_len, get_or-map-range_with_len}
use Rattle.std.proofs.lemmas.List.Sums.{sum_by-cons, sum_by_push}
use Rattle.column_values.specs.declared.field.Field.{Field}
use Rattle.column_values.specs.Types.{Fields, field_at, child_field, is_variable, is_big}
use Rattle.schema_text.specs.declared.table.Format.{Format}
use Rattle.schema_text.specs.TableDef.{TableDef}
use Rattle.schema_text.specs.IndexFields.{leaf_fields}
use Rattle.compact_record.specs.declared.parts.Part.{Part}
use Rattle.compact_record.specs.declared.parts.Part.TheVariants as parts
use Rattle.compact_record.specs.Reading.{null_bytes}
use Rattle.compact_record.specs.Writing.{local_bytes, length_of_part, all_null_bytes, all_lengths, null_byte}
use Rattle.compact_record.specs.Writing.{bytes_below, value_bytes, origin_in, size_of_record}
use Rattle.offpage_chain.specs.Reference.{reference_bytes}
use Rattle.row_layout.specs.StoredRow.{Stored, stored_at, kept_prefix, reference_to, off_local, part_of_field}
use Rattle.row_layout.specs.StoredRow.{parts_of_row}
use Rattle.row_layout.specs.StoredRow.{size_of_row, is_too_long}
use Rattle.row_layout.proofs.Held.{length-reference}
use Rattle.row_store.specs.calls.RowFields.{local_length, length_length, field_size, field_sizes}
use Rattle.row_store.proofs.Spots.{no_field}
use Rattle.page_source.proofs.Members.{range_more}

-- the parts of a row, one by one
abbrev part_in : Format → Stored → Part
part_in format field = part_of_field format 0 field

parts_are : (format : Format) (row : List Stored) → parts_of_row format (λ i. 0) row ≡ map (part_in format) row
unfolding parts_of_row
parts_are format row =
    let size = length-map-range_with_len (λ i. part_of_field format 0 (stored_at row i)) 0 (length row) in
    let long = length-map row (part_in format) in
    ext_get_or parts.Null (map (λ i. part_of_field format 0 (stored_at row i)) (range_with_len 0 (length row)))
    (map (part_in format) row) (omega arith)
    (λ i below.
    get_or-map-range_with_len (λ i. part_of_field format 0 (stored_at row i)) 0 (length row) i i parts.Null
    (omega arith) (omega arith)
    ∙ sym (get_or-map (part_in format) row i no_field parts.Null (omega arith)))

-- how many bytes a field has
local_is : (format : Format) (field : Stored) → length (local_bytes (part_in format field)) ≡ local_length format field
local_is format field = by_marks field.null field.off
  where
    by_marks : (null off : Bool)
        → length (local_bytes (cond null parts.Null
        (cond off (parts.Bytes (off_local format 0 field) true) (parts.Bytes field.bytes false))))
        ≡ cond null 0 (cond off (min (length field.bytes) (kept_prefix format) + 20) (length field.bytes))
    by_marks true off = refl
    by_marks false true =
        let size = length-append (take (kept_prefix format) field.bytes) (reference_bytes (reference_to format 0 field))
        in
        let front = length-take (kept_prefix format) field.bytes in
        let last = length-reference (reference_to format 0 field) in omega arith
    by_marks false false = refl

long_length : (variable : Bool) (x y : ℕ) → length (cond variable (x ∷ y ∷ []) []) ≡ cond (not variable) 0 2
long_length true x y = refl
long_length false x y = refl

short_length : (variable big : Bool) (x y z : ℕ)
    → length (cond variable (cond big (x ∷ y ∷ []) (z ∷ [])) []) ≡ cond (not variable) 0 (cond big 2 1)
short_length true true x y z = refl
short_length true false x y z = refl
short_length false big x y z = refl

length_is : (format : Format) (field : Field) (stored : Stored)
    → length (length_of_part (field, part_in format stored)) ≡ length_length format field stored
length_is format field stored = by_marks stored.null stored.off
  where
    by_marks : (null off : Bool)
        → length (length_of_part (
          field,
          cond null parts.Null
              (cond off (parts.Bytes (off_local format 0 stored) true) (parts.Bytes stored.bytes false)),
        ))
        ≡ cond (null || not (is_variable field.kind)) 0
        (cond (off || (is_big field.kind && ltb 127 (length stored.bytes))) 2 1)
    by_marks true off = refl
    by_marks false true =
        long_length (is_variable field.kind) (192 + length (off_local format 0 stored) / 256)
        (length (off_local format 0 stored) % 256)
    by_marks false false =
        short_length (is_variable field.kind) (is_big field.kind && ltb 127 (length stored.bytes))
        (128 + length stored.bytes / 256) (length stored.bytes % 256) (length stored.bytes)

-- the sizes of all fields, one by one
sum_shift : (f : ℕ → ℕ) (a n : ℕ)
    → sum_by f (range_with_len (a + 1) n) ≡ sum_by (λ i. f (suc i)) (range_with_len a n)
sum_shift f a zero = refl
sum_shift f a (suc n) =
    let first : f (a + 1) ≡ f (suc a) = ap f (omega arith) in
    let rest = sum_shift f (a + 1) n in
    let left = sum_by-cons f (a + 1) (range_with_len (a + 1 + 1) n) in
    let right = sum_by-cons (λ i. f (suc i)) a (range_with_len (a + 1) n) in
    omega arith

sizes_are : (format : Format) (fields : List Field) (row : List Stored) → length row ≡ length fields
    → length (flat_map length_of_part (zip fields (map (part_in format) row)))
    + length (flat_map local_bytes (map (part_in format) row))
    ≡ sum_by (λ i. field_size format (get_or fields i child_field) (get_or row i no_field))
    (range_with_len 0 (length row))
sizes_are format [] [] same = refl
sizes_are format [] (s ∷ row) same = absurd (omega arith)
sizes_are format (f ∷ fields) [] same = absurd (omega arith)
sizes_are format (f ∷ fields) (s ∷ row) same =
    let rest = sizes_are format fields row (omega arith) in
    let size : ℕ → ℕ = λ i. field_size format (get_or (f ∷ fields) i child_field) (get_or (s ∷ row) i no_field) in
    let sum = sum_by-cons (λ i. field_size format (get_or (f ∷ fields) i child_field) (get_or (s ∷ row) i no_field)) 0
    (range_with_len 1 (length row)) in
    let shift = sum_shift (λ i. field_size format (get_or (f ∷ fields) i child_field) (get_or (s ∷ row) i no_field)) 0
    (length row) in
    let lengths = length-append (length_of_part (f, part_in format s))
    (flat_map length_of_part (zip fields (map (part_in format) row))) in
    let locals = length-append (local_bytes (part_in format s)) (flat_map local_bytes (map (part_in format) row)) in
    let one = length_is format f s in
    let two = local_is format s in
    omega arith

-- the size of a record
length-nulls : (fields : Fields) (ps : List Part) → length (all_null_bytes fields ps) ≡ null_bytes fields
length-nulls fields ps = length-map-range_with_len (null_byte fields ps) 0 (null_bytes fields)

size_by_parts : (fields : Fields) (ps : List Part) → size_of_record fields ps
    ≡ null_bytes fields + 5 + (length (all_lengths fields ps) + length (flat_map local_bytes ps))
unfolding size_of_record origin_in bytes_below value_bytes
size_by_parts fields ps =
    let below = length-append (all_null_bytes fields ps) (all_lengths fields ps) in
    let nulls = length-nulls fields ps in
    omega arith

pub size_is : (format : Format) (fields : Fields) (row : List Stored) → length row ≡ length fields.fields
    → size_of_record fields (parts_of_row format (λ i. 0) row)
    ≡ null_bytes fields + 5 + field_sizes format fields row (length row)
size_is format fields row same =
    ap (size_of_record fields) (parts_are format row) ∙ size_by_parts fields (map (part_in format) row)
    ∙ ap (λ n. null_bytes fields + 5 + n) (sizes_are format fields.fields row same)

-- a size as far as numbers go is as long
same_test : (a b : ℕ) → (a < 8126 → b < 8126) → (8126 ≤ a → 8126 ≤ b) → leb 8126 a ≡ leb 8126 b
same_test a b less more = elim (cases_lt a 8126) [
  | inl short ↦ lt-leb 8126 a short ∙ sym (lt-leb 8126 b (less short))
  | inr long ↦ le-leb 8126 a long ∙ sym (le-leb 8126 b (more long))
]

pub too_long_is : (table : TableDef) (format : Format) (fields : Fields) (row : List Stored) (nullable size total : ℕ)
    → fields ≡ leaf_fields table 0 → format ≡ table.format → length row ≡ length fields.fields
    → nullable ≡ fields.nullable → size ≡ min (field_sizes format fields row (length row)) (2 ^ 64 - 1)
    → total ≡ min (size + ((nullable + 7) / 8 + 5)) (2 ^ 64 - 1) → leb 8126 total ≡ is_too_long table row
too_long_is table format fields row nullable size total fields_is format_is same nullable_is size_is' total_is =
    let nulls : (nullable + 7) / 8 ≡ null_bytes fields = ap (λ n. (n + 7) / 8) nullable_is in
    let whole : size_of_row table row ≡ null_bytes fields + 5 + field_sizes format fields row (length row) =
    ap (λ (f : Fields). size_of_record f (parts_of_row table.format (λ i. 0) row)) (sym fields_is)
    ∙ ap (λ (q : Format). size_of_record fields (parts_of_row q (λ i. 0) row)) (sym format_is)
    ∙ size_is format fields row same in
    by_sizes (null_bytes fields) ((nullable + 7) / 8) (field_sizes format fields row (length row)) size total
    (size_of_row table row) nulls whole size_is' total_is
  where
    by_sizes : (nulls given sizes size total whole : ℕ) → given ≡ nulls → whole ≡ nulls + 5 + sizes
        → size ≡ min sizes (2 ^ 64 - 1) → total ≡ min (size + (given + 5)) (2 ^ 64 - 1)
        → leb 8126 total ≡ leb 8126 whole
    by_sizes nulls given sizes size total whole a b c d =
        same_test total whole (λ short. omega arith) (λ long. omega arith)

-- one field more
pub sizes_more : (format : Format) (fields : Fields) (row : List Stored) (i : ℕ)
    → field_sizes format fields row (i + 1)
    ≡ field_sizes format fields row i + field_size format (field_at fields i) (stored_at row i)
sizes_more format fields row i =
    let f : ℕ → ℕ = λ i. field_size format (field_at fields i) (stored_at row i) in
    ap (sum_by (λ i. field_size format (field_at fields i) (stored_at row i))) (range_more i)
    ∙ sum_by_push (λ i. field_size format (field_at fields i) (stored_at row i)) (range_with_len 0 i) i
