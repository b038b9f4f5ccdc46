-- Parts that stand around an origin are read there.
use Rattle.std.proofs.Common.{◌≡◌, ℕ, zero, suc, ◌+◌, ◌-◌, ◌/◌, ◌%◌, ◌<◌, ◌≤◌, Bool, true, false, if◌then◌else◌, List}
use Rattle.std.proofs.Common.{◌++◌, length, get_or, map, take, drop, length-take, zip, flat_map, slice_range}
use Rattle.std.proofs.Common.{slice_index, Some, None}
use Rattle.std.proofs.Common.{refl, sym, ap, ◌∙◌, subst, arith, inl, inr, length-append}
use Rattle.std.specs.List.{range_with_len}
use Rattle.std.proofs.lemmas.Bool.{cases_Bool, false≢true}
use Rattle.std.proofs.lemmas.List.{get_or-append-add, get_or_append_left, length-take-le, get_or-take, get_or-map}
use Rattle.std.proofs.lemmas.List.{take_all, length-map}
use Rattle.std.proofs.lemmas.List.Concat.{get_or-flat_map}
use Rattle.std.proofs.lemmas.List.FromFn.{length-map-range_with_len, get_or-map-range_with_len, fill_by_all}
use Rattle.std.proofs.lemmas.Slice.Zip.{get_or-zip, length-zip}
use Rattle.std.proofs.lemmas.List.Edits.{get_or-between}
use Rattle.page_source.specs.Pages.{num}
use Rattle.page_source.proofs.Written.{num_from_bytes}
use Rattle.column_values.specs.declared.field.Field.{Field}
use Rattle.column_values.specs.declared.field.FieldType.TheVariants.{Child}
use Rattle.column_values.specs.Types.{Fields, field_at, is_variable, is_big, fixed_length, child_field, nullable_count}
use Rattle.compact_record.specs.declared.parts.Part.{Part}
use Rattle.compact_record.specs.declared.parts.Part.TheVariants.{Null, Bytes}
use Rattle.compact_record.specs.Reading.{bit_of, null_bytes, nullable_before, is_null}
use Rattle.compact_record.specs.Reading.{lengths_top, lengths_before, length_byte, has_long_length, is_external}
use Rattle.compact_record.specs.Reading.{length_at, local_length, local_before, field_count, place_of, head_length}
use Rattle.compact_record.specs.Reading.{record_end, FieldIsSpelled, cell_at, key_of}
use Rattle.compact_record.specs.Keys.{HaveChild, child_at}
use Rattle.compact_record.specs.Writing.{FieldPart, FitsField, FitFields, StandsAt, is_null_part, is_external_part}
use Rattle.compact_record.specs.Writing.{local_bytes}
use Rattle.compact_record.specs.Writing.{part_at, part_cell, key_of_parts, child_of_parts, null_bits, null_byte}
use Rattle.compact_record.specs.Writing.{length_of_part}
use Rattle.compact_record.specs.Writing.{all_lengths, bytes_below, value_bytes}
use Rattle.compact_record.specs.Laws.{ReadsWhatStands}
use Rattle.compact_record.proofs.FieldSteps.{lengths_more, local_more}
use Rattle.compact_record.proofs.Pieces.{flat_more, flat_within, flat_slice, slice_in}
use Rattle.compact_record.proofs.NullBits.{bit_of_byte, null_bit_at, nulls_below}
use Rattle.compact_record.proofs.FieldFits.{fit_same, fit_at, fits_so, value_stands}
use Rattle.compact_record.proofs.PartSpelling.{spelled_length, spelled_length_is, SaysPart, is_long_at}
use Rattle.compact_record.proofs.PartSpelling.{length_from, says_part}

-- each field with its part
abbrev pub pairs : Fields → List Part → List FieldPart
pairs fields parts = zip fields.fields parts

abbrev pub no_pair : FieldPart
no_pair = (child_field, Null)

pub below_is : (fields : Fields) (parts : List Part) → bytes_below fields parts
    ≡ map (null_byte fields parts) (range_with_len 0 (null_bytes fields)) ++ all_lengths fields parts
unfolding bytes_below
below_is fields parts = refl

pub length-bytes_below : (fields : Fields) (parts : List Part)
    → length (bytes_below fields parts) ≡ null_bytes fields + length (all_lengths fields parts)
length-bytes_below fields parts =
    let front = map (null_byte fields parts) (range_with_len 0 (null_bytes fields)) in
    ap length (below_is fields parts) ∙ length-append front (all_lengths fields parts)
    ∙ ap (λ (n : ℕ). n + length (all_lengths fields parts))
    (length-map-range_with_len (null_byte fields parts) 0 (null_bytes fields))

-- a byte of null bits
null_byte_at : (page : List ℕ) (origin : ℕ) (fields : Fields) (parts : List Part) (j : ℕ)
    → StandsAt page origin fields parts → j < null_bytes fields
    → slice_index page (origin - 6 - j) ≡ null_byte fields parts j
null_byte_at page origin fields parts j stands within =
    let nb : ℕ = null_bytes fields in
    let front = map (null_byte fields parts) (range_with_len 0 nb) in
    let size : length front ≡ nb = length-map-range_with_len (null_byte fields parts) 0 nb in
    let there : j < length (bytes_below fields parts) = omega (arith, length-bytes_below fields parts) in
    let left : j < length front = omega (arith, size) in
    stands.below j there ∙ ap (λ (xs : List ℕ). get_or xs j 0) (below_is fields parts)
    ∙ get_or_append_left front (all_lengths fields parts) 0 j left
    ∙ get_or-map-range_with_len (null_byte fields parts) 0 nb j j 0 within (omega arith)

-- a byte of the lengths
length_byte_at : (page : List ℕ) (origin : ℕ) (fields : Fields) (parts : List Part) (k : ℕ)
    → StandsAt page origin fields parts → k < length (all_lengths fields parts)
    → slice_index page (lengths_top origin fields - k) ≡ get_or (all_lengths fields parts) k 0
length_byte_at page origin fields parts k stands within =
    let nb : ℕ = null_bytes fields in
    let front = map (null_byte fields parts) (range_with_len 0 nb) in
    let size : length front ≡ nb = length-map-range_with_len (null_byte fields parts) 0 nb in
    let place : lengths_top origin fields - k ≡ origin - 6 - (nb + k) = omega arith in
    let there : nb + k < length (bytes_below fields parts) = omega (arith, length-bytes_below fields parts) in
    ap (λ (i : ℕ). slice_index page i) place ∙ stands.below (nb + k) there
    ∙ ap (λ (xs : List ℕ). get_or xs (nb + k) 0) (below_is fields parts)
    ∙ ap (λ (n : ℕ). get_or (front ++ all_lengths fields parts) (n + k) 0) (sym size)
    ∙ get_or-append-add front (all_lengths fields parts) k 0

-- whether a field is null
pub null_at : (page : List ℕ) (origin : ℕ) (fields : Fields) (parts : List Part) (i : ℕ)
    → StandsAt page origin fields parts → i < length fields.fields
    → is_null page origin fields i ≡ is_null_part (part_at parts i)
unfolding is_null
null_at page origin fields parts i stands below =
    let same : length fields.fields ≡ length parts = sym (fit_same fields parts stands.fit) in
    let n : ℕ = nullable_before fields i in
    elim (cases_Bool (field_at fields i).nullable) [
      | inl may_be ↦
          let one : n < nullable_count fields.fields = nulls_below fields.fields i below may_be in
          let fits : n / 8 < null_bytes fields = omega (arith, one, stands.are_fields.listed.nullables) in
          let byte = null_byte_at page origin fields parts (n / 8) stands fits in
          rw may_be (ap (λ (b : ℕ). bit_of b (n % 8)) byte ∙ bit_of_byte (null_bits fields parts) n
          ∙ null_bit_at fields.fields parts i same below may_be)
      | inr never ↦ rw never (sym (value_stands (field_at fields i) (part_at parts i)
          (fit_at fields parts i stands.fit below) never))
    ]

-- how many bytes the lengths before field i take
abbrev pub taken_before : Fields → List Part → ℕ → ℕ
taken_before fields parts i = length (flat_map length_of_part (take i (pairs fields parts)))

pub pair_at : (fields : Fields) (parts : List Part) (i : ℕ) → FitFields fields parts → i < length fields.fields
    → get_or (pairs fields parts) i no_pair ≡ (field_at fields i, part_at parts i)
pair_at fields parts i fit below =
    let same : length parts ≡ length fields.fields = fit_same fields parts fit in
    get_or-zip fields.fields parts i no_pair below (omega arith)

pub length-pairs : (fields : Fields) (parts : List Part) → FitFields fields parts
    → length (pairs fields parts) ≡ length fields.fields
length-pairs fields parts fit =
    let same : length parts ≡ length fields.fields = fit_same fields parts fit in
    omega (arith, length-zip fields.fields parts)

-- the length of part i as the record has it
abbrev length_here : Fields → List Part → ℕ → List ℕ
length_here fields parts i =
    spelled_length (is_variable (field_at fields i).kind) (is_big (field_at fields i).kind) (part_at parts i)

length_here_is : (fields : Fields) (parts : List Part) (i : ℕ) → FitFields fields parts → i < length fields.fields
    → length_of_part (get_or (pairs fields parts) i no_pair) ≡ length_here fields parts i
length_here_is fields parts i fit below =
    ap length_of_part (pair_at fields parts i fit below) ∙ spelled_length_is (field_at fields i) (part_at parts i)

taken_more : (fields : Fields) (parts : List Part) (i : ℕ) → FitFields fields parts → i < length fields.fields
    → taken_before fields parts (i + 1) ≡ taken_before fields parts i + length (length_here fields parts i)
taken_more fields parts i fit below =
    flat_more length_of_part (pairs fields parts) i no_pair (omega (arith, length-pairs fields parts fit))
    ∙ ap (λ (xs : List ℕ). taken_before fields parts i + length xs) (length_here_is fields parts i fit below)

-- byte j of the length of field i
byte_of_length : (page : List ℕ) (origin : ℕ) (fields : Fields) (parts : List Part) (i j : ℕ)
    → StandsAt page origin fields parts → i < length fields.fields → j < length (length_here fields parts i)
    → slice_index page (lengths_top origin fields - (taken_before fields parts i + j))
    ≡ get_or (length_here fields parts i) j 0
byte_of_length page origin fields parts i j stands below inside =
    let here = length_here_is fields parts i stands.fit below in
    let within : i < length (pairs fields parts) = omega (arith, length-pairs fields parts stands.fit) in
    let long : j < length (length_of_part (get_or (pairs fields parts) i no_pair)) = rw here inside in
    let ends = flat_within length_of_part (pairs fields parts) i no_pair within in
    let there : taken_before fields parts i + j < length (all_lengths fields parts) = omega (arith, ends, long) in
    length_byte_at page origin fields parts (taken_before fields parts i + j) stands there
    ∙ get_or-flat_map length_of_part (pairs fields parts) i j no_pair 0 within long
    ∙ ap (λ (xs : List ℕ). get_or xs j 0) here

-- what the length of field i says, where those before it take so many bytes
says_at : (page : List ℕ) (origin : ℕ) (fields : Fields) (parts : List Part) (i : ℕ)
    → StandsAt page origin fields parts → i < length fields.fields
    → SaysPart (is_variable (field_at fields i).kind) (is_big (field_at fields i).kind)
    (fixed_length (field_at fields i).kind)
    (slice_index page (lengths_top origin fields - taken_before fields parts i))
    (slice_index page (lengths_top origin fields - taken_before fields parts i - 1)) (part_at parts i)
says_at page origin fields parts i stands below =
    let t : ℕ = taken_before fields parts i in
    let top : ℕ = lengths_top origin fields in
    let e0 : top - (t + 0) ≡ top - t = omega arith in
    let e1 : top - (t + 1) ≡ top - t - 1 = omega arith in
    says_part (is_variable (field_at fields i).kind) (is_big (field_at fields i).kind)
    (fixed_length (field_at fields i).kind) (slice_index page (top - t)) (slice_index page (top - t - 1))
    (part_at parts i) (fits_so fields parts i stands.are_fields.listed stands.fit below) (
      λ some. ap (λ (k : ℕ). slice_index page k) (sym e0)
          ∙ byte_of_length page origin fields parts i 0 stands below some,
      λ two. ap (λ (k : ℕ). slice_index page k) (sym e1)
          ∙ byte_of_length page origin fields parts i 1 stands below two,
    )

-- the lengths before field i take as many bytes as those of the parts before it
lengths_are : (page : List ℕ) (origin : ℕ) (fields : Fields) (parts : List Part) (i : ℕ)
    → StandsAt page origin fields parts → i ≤ length fields.fields
    → lengths_before page origin fields i ≡ taken_before fields parts i
unfolding length_byte
lengths_are page origin fields parts zero stands most = refl
lengths_are page origin fields parts (suc i) stands most =
    let below : i < length fields.fields = omega arith in
    let before = lengths_are page origin fields parts i stands (omega arith) in
    let null = null_at page origin fields parts i stands below in
    let says = says_at page origin fields parts i stands below in
    let more = lengths_more page origin fields i in
    let read = rw (null, before) at more in
    let f : suc i ≡ i + 1 = omega arith in
    subst (λ (k : ℕ). lengths_before page origin fields k ≡ taken_before fields parts k) (sym f)
    (read ∙ ap (λ (n : ℕ). taken_before fields parts i + n) says.taken
    ∙ sym (taken_more fields parts i stands.fit below))

-- a length that was read from its two bytes
length_at_is : (page : List ℕ) (long : Bool) (at : ℕ)
    → length_at page long at ≡ length_from long (slice_index page at) (slice_index page (at - 1))
length_at_is page true at = refl
length_at_is page false at = refl

external_at : (page : List ℕ) (origin : ℕ) (fields : Fields) (parts : List Part) (i : ℕ)
    → StandsAt page origin fields parts → i < length fields.fields
    → is_external page origin fields i ≡ is_external_part (part_at parts i)
unfolding is_external length_byte
external_at page origin fields parts i stands below =
    let before = lengths_are page origin fields parts i stands (omega arith) in
    let null = null_at page origin fields parts i stands below in
    let says = says_at page origin fields parts i stands below in
    rw (null, before) says.external

long_at : (page : List ℕ) (origin : ℕ) (fields : Fields) (parts : List Part) (i : ℕ)
    → StandsAt page origin fields parts → i < length fields.fields
    → has_long_length page origin fields i ≡ true → is_external_part (part_at parts i) ≡ false
    → 128 ≤ length (local_bytes (part_at parts i))
unfolding length_byte
long_at page origin fields parts i stands below long inside =
    let before = lengths_are page origin fields parts i stands (omega arith) in
    let null = null_at page origin fields parts i stands below in
    let says = says_at page origin fields parts i stands below in
    let read = rw (null, before) at long in
    says.shortest read inside

pub local_at : (page : List ℕ) (origin : ℕ) (fields : Fields) (parts : List Part) (i : ℕ)
    → StandsAt page origin fields parts → i < length fields.fields
    → local_length page origin fields i ≡ length (local_bytes (part_at parts i))
unfolding local_length length_byte
local_at page origin fields parts i stands below =
    let before = lengths_are page origin fields parts i stands (omega arith) in
    let null = null_at page origin fields parts i stands below in
    let says = says_at page origin fields parts i stands below in
    rw (
      null,
      before,
      length_at_is page (is_long_at (is_variable (field_at fields i).kind)
          (is_big (field_at fields i).kind) (slice_index page (lengths_top origin fields - taken_before fields parts i))
          (part_at parts i)) (lengths_top origin fields - taken_before fields parts i),
    ) says.local

-- how many bytes the values before field i take
abbrev pub values_before : List Part → ℕ → ℕ
values_before parts i = length (flat_map local_bytes (take i parts))

locals_are : (page : List ℕ) (origin : ℕ) (fields : Fields) (parts : List Part) (i : ℕ)
    → StandsAt page origin fields parts → i ≤ length fields.fields
    → local_before page origin fields i ≡ values_before parts i
locals_are page origin fields parts zero stands most = refl
locals_are page origin fields parts (suc i) stands most =
    let below : i < length fields.fields = omega arith in
    let in' : i < length parts = omega (arith, fit_same fields parts stands.fit) in
    let f : suc i ≡ i + 1 = omega arith in
    subst (λ (k : ℕ). local_before page origin fields k ≡ values_before parts k) (sym f)
    (local_more page origin fields i
    ∙ ap (λ (n : ℕ). n + local_length page origin fields i)
    (locals_are page origin fields parts i stands (omega arith))
    ∙ ap (λ (n : ℕ). values_before parts i + n) (local_at page origin fields parts i stands below)
    ∙ sym (flat_more local_bytes parts i Null in'))

values_stand : (page : List ℕ) (origin : ℕ) (fields : Fields) (parts : List Part)
    → StandsAt page origin fields parts
    → slice_range page origin (origin + length (flat_map local_bytes parts)) ≡ flat_map local_bytes parts
unfolding value_bytes
values_stand page origin fields parts stands = stands.values

pub length-value_bytes : (parts : List Part) → length (value_bytes parts) ≡ length (flat_map local_bytes parts)
unfolding value_bytes
length-value_bytes parts = refl

is_cell : (page : List ℕ) (null : Bool) (from until : ℕ) (part : Part) → null ≡ is_null_part part
    → slice_range page from until ≡ local_bytes part
    → (if null then None else Some (slice_range page from until)) ≡ part_cell part
is_cell page null from until Null same is = rw same refl
is_cell page null from until (Bytes bytes external) same is = rw (same, is) refl

-- the bytes of a field
cut_at : (page : List ℕ) (origin : ℕ) (fields : Fields) (parts : List Part) (i : ℕ)
    → StandsAt page origin fields parts → i < length fields.fields
    → slice_range page (origin + local_before page origin fields i)
    (origin + local_before page origin fields i + local_length page origin fields i) ≡ local_bytes (part_at parts i)
cut_at page origin fields parts i stands below =
    let a : ℕ = values_before parts i in
    let part : Part = part_at parts i in
    let l : ℕ = length (local_bytes part) in
    let in' : i < length parts = omega (arith, fit_same fields parts stands.fit) in
    let before : local_before page origin fields i ≡ a = locals_are page origin fields parts i stands (omega arith) in
    let local : local_length page origin fields i ≡ l = local_at page origin fields parts i stands below in
    let cut : slice_range page (origin + a) (origin + a + l) ≡ local_bytes part =
    slice_in page (flat_map local_bytes parts) origin a l (values_stand page origin fields parts stands)
    (flat_within local_bytes parts i Null in')
    ∙ flat_slice local_bytes parts i Null in' in
    rw (before, local) cut

pub cell_is : (page : List ℕ) (origin : ℕ) (fields : Fields) (parts : List Part) (i : ℕ)
    → StandsAt page origin fields parts → i < length fields.fields
    → cell_at page (place_of page origin fields i) ≡ part_cell (part_at parts i)
unfolding place_of
cell_is page origin fields parts i stands below =
    is_cell page (is_null page origin fields i) (origin + local_before page origin fields i)
    (origin + local_before page origin fields i + local_length page origin fields i) (part_at parts i)
    (null_at page origin fields parts i stands below) (cut_at page origin fields parts i stands below)

-- the part of a child page has four bytes
child_fits : (field : Field) (part : Part) → FitsField field part → field.kind ≡ Child → field.nullable ≡ false
    → 4 ≤ length (local_bytes part)
child_fits field Null fits kind present = absurd (false≢true (sym present ∙ fits))
child_fits field (Bytes bytes true) fits kind present = omega (arith, fits.1)
child_fits field (Bytes bytes false) fits kind present =
    let fixed : is_variable field.kind ≡ false = ap is_variable kind in
    let four : fixed_length field.kind ≡ 4 = ap fixed_length kind in
    omega (arith, fits.0 fixed, four)

-- a number in bytes that were cut out
num_in_cut : (page bytes : List ℕ) (from until width : ℕ) → slice_range page from until ≡ bytes
    → width ≤ length bytes → num page from width ≡ num bytes 0 width
num_in_cut page bytes from until width cut fits =
    let size : length (slice_range page from until) ≡ length bytes = ap length cut in
    let taken = length-take (until - from) (drop from page) in
    let wide : width ≤ until - from = omega (arith, size, taken) in
    num_from_bytes page bytes from 0 width
    (λ k below.
    let zero' : 0 + k ≡ k = omega arith in
    sym (get_or-between page from until k 0 (omega arith)) ∙ ap (λ (xs : List ℕ). get_or xs k 0) cut
    ∙ ap (λ (n : ℕ). get_or bytes n 0) (sym zero'))

child_is : (page : List ℕ) (origin : ℕ) (fields : Fields) (parts : List Part) → StandsAt page origin fields parts
    → HaveChild fields → child_at page fields origin ≡ child_of_parts fields parts
unfolding child_at child_of_parts place_of
child_is page origin fields parts stands have =
    let i : ℕ = fields.keys in
    num_in_cut page (local_bytes (part_at parts i)) (origin + local_before page origin fields i)
    (origin + local_before page origin fields i + local_length page origin fields i) 4
    (cut_at page origin fields parts i stands have.inside)
    (child_fits (field_at fields i) (part_at parts i) (fit_at fields parts i stands.fit have.inside) have.kind
    have.present)

external_fits : (field : Field) (part : Part) → FitsField field part → is_external_part part ≡ true
    → (field.may_leave ≡ true) × (20 ≤ length (local_bytes part))
external_fits field Null fits external = absurd (false≢true external)
external_fits field (Bytes bytes true) fits external = (fits.0, fits.1)
external_fits field (Bytes bytes false) fits external = absurd (false≢true external)

spelled_at : (page : List ℕ) (origin : ℕ) (fields : Fields) (parts : List Part) (i : ℕ)
    → StandsAt page origin fields parts → i < length fields.fields → FieldIsSpelled page origin fields i
spelled_at page origin fields parts i stands below =
    let external = external_at page origin fields parts i stands below in
    let local = local_at page origin fields parts i stands below in
    let fits = fit_at fields parts i stands.fit below in
    record {
      shortest = λ long inside.
          rw local (long_at page origin fields parts i stands below long (sym external ∙ inside));
      leaves = λ leaves. (external_fits (field_at fields i) (part_at parts i) fits (sym external ∙ leaves)).0;
      refers = λ leaves.
          rw local (external_fits (field_at fields i) (part_at parts i) fits (sym external ∙ leaves)).1;
    }

-- the record's head, all of it
head_is : (page : List ℕ) (origin : ℕ) (fields : Fields) (parts : List Part) → StandsAt page origin fields parts
    → head_length page origin fields ≡ 5 + length (bytes_below fields parts)
unfolding head_length
head_is page origin fields parts stands =
    let n : ℕ = field_count fields in
    let lengths = lengths_are page origin fields parts n stands (omega arith) in
    let all : taken_before fields parts n ≡ length (all_lengths fields parts) =
    ap (λ (xs : List FieldPart). length (flat_map length_of_part xs))
    (take_all n (pairs fields parts) (omega (arith, length-pairs fields parts stands.fit))) in
    omega (arith, lengths, all, length-bytes_below fields parts)

end_is : (page : List ℕ) (origin : ℕ) (fields : Fields) (parts : List Part) → StandsAt page origin fields parts
    → record_end page origin fields ≡ origin + length (value_bytes parts)
unfolding record_end
end_is page origin fields parts stands =
    let n : ℕ = field_count fields in
    let locals = locals_are page origin fields parts n stands (omega arith) in
    let all : values_before parts n ≡ length (flat_map local_bytes parts) =
    ap (λ (xs : List Part). length (flat_map local_bytes xs))
    (take_all n parts (omega (arith, fit_same fields parts stands.fit))) in
    omega (arith, locals, all, length-value_bytes parts)

key_is : (page : List ℕ) (origin : ℕ) (fields : Fields) (parts : List Part) → StandsAt page origin fields parts
    → key_of page origin fields ≡ key_of_parts fields parts
unfolding key_of key_of_parts
key_is page origin fields parts stands =
    let keys : ℕ = fields.keys in
    let few : keys ≤ length parts = omega (arith, fit_same fields parts stands.fit, stands.are_fields.has_keys) in
    let front : List Part = take keys parts in
    let size : length front ≡ keys = length-take-le keys parts few in
    let whole : length (map part_cell front) ≡ keys = length-map front part_cell ∙ size in
    sym (fill_by_all (λ (i : ℕ). cell_at page (place_of page origin fields i)) (map part_cell front) keys None whole
    (λ k below.
    get_or-map part_cell front k Null None (omega (arith, size)) ∙ ap part_cell (get_or-take keys parts k Null below)
    ∙ sym (cell_is page origin fields parts k stands (omega (arith, stands.are_fields.has_keys)))))

pub reads_what_stands : ReadsWhatStands
reads_what_stands page origin fields parts stands =
    let same = fit_same fields parts stands.fit in
    let head = head_is page origin fields parts stands in
    record {
      spelled = record {
        room = omega (arith, head, stands.room);
        each = λ i below. spelled_at page origin fields parts i stands below;
      };
      starts = ap (λ (n : ℕ). origin - n) head;
      ends = end_is page origin fields parts stands;
      each = λ i inside.
          let below : i < length fields.fields = omega (arith, same) in
          record {
            null = null_at page origin fields parts i stands below;
            external = external_at page origin fields parts i stands below;
            local = local_at page origin fields parts i stands below;
            cell = cell_is page origin fields parts i stands below;
          };
      key = key_is page origin fields parts stands;
      child = λ have. child_is page origin fields parts stands have;
    }
