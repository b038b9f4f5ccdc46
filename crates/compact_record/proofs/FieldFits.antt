-- The fields of an index and the parts that fit them.
use Rattle.std.proofs.Common.{◌≡◌, ℕ, zero, suc, ◌+◌, ◌<◌, ◌≤◌, true, false, ◌||◌, nat_lt, List, [], ◌∷◌, length}
use Rattle.std.proofs.Common.{get_or, refl, sym, ◌∙◌, ◌/◌, arith}
use Rattle.std.specs.List.{AllZip}
use Rattle.std.proofs.lemmas.Bool.{false≢true, le-ltb}
use Rattle.std.proofs.lemmas.Slice.Zip.{AllZip-long}
use Rattle.column_values.specs.declared.kind.ColumnType.{ColumnType}
use Rattle.column_values.specs.declared.kind.ColumnType.TheVariants.{Int, Date, Char, Varchar, Binary, Varbinary, Text}
use Rattle.column_values.specs.declared.kind.ColumnType.TheVariants.{Blob, Utf8Varchar, Utf8Text, DateTime, Timestamp}
use Rattle.column_values.specs.declared.kind.ColumnType.TheVariants.{Year, Decimal}
use Rattle.column_values.specs.declared.field.FieldType.{FieldType}
use Rattle.column_values.specs.declared.field.FieldType.TheVariants.{Column, RowId, TrxId, RollPointer, Child}
use Rattle.column_values.specs.declared.field.Field.{Field}
use Rattle.column_values.specs.Lengths.{decimal_length}
use Rattle.column_values.specs.Types.{Fields, AreListed, IsFieldKind, IsColumnType, is_variable, is_variable_kind}
use Rattle.column_values.specs.Types.{is_big}
use Rattle.column_values.specs.Types.{is_big_kind, fixed_length, field_at, child_field}
use Rattle.column_values.proofs.DecimalLengths.{decimal_length_is}
use Rattle.compact_record.specs.declared.parts.Part.{Part}
use Rattle.compact_record.specs.declared.parts.Part.TheVariants.{Null, Bytes}
use Rattle.compact_record.specs.Writing.{FitsField, FitFields, is_null_part, part_at}
use Rattle.compact_record.proofs.PartSpelling.{FitsSo}

pub fit_same : (fields : Fields) (parts : List Part) → FitFields fields parts → length parts ≡ length fields.fields
fit_same fields parts fit = AllZip-long FitsField fields.fields parts fit

fit_in : (fs : List Field) (ps : List Part) (i : ℕ) → AllZip FitsField fs ps → i < length fs
    → FitsField (get_or fs i child_field) (get_or ps i Null)
fit_in [] ps i fit below = absurd (omega arith)
fit_in (f ∷ fs) [] i fit below = absurd fit
fit_in (f ∷ fs) (p ∷ ps) zero fit below = fit.0
fit_in (f ∷ fs) (p ∷ ps) (suc i) fit below = fit_in fs ps i fit.1 (omega arith)

-- part i fits field i
pub fit_at : (fields : Fields) (parts : List Part) (i : ℕ) → FitFields fields parts → i < length fields.fields
    → FitsField (field_at fields i) (part_at parts i)
fit_at fields parts i fit below = fit_in fields.fields parts i fit below

-- a field that can't be null has a value
pub value_stands : (field : Field) (part : Part) → FitsField field part → field.nullable ≡ false
    → is_null_part part ≡ false
value_stands field Null fits never = absurd (false≢true (sym never ∙ fits))
value_stands field (Bytes bytes external) fits never = refl

not_big : (n : ℕ) → n ≤ 255 → (nat_lt 255 n || false) ≡ true → false ≡ true
not_big n few big = let under : nat_lt 255 n ≡ false = le-ltb 255 n few in rw under at big

-- only a length that varies may be spelled in two bytes
column_varies : (kind : ColumnType) → IsColumnType kind → is_big_kind kind ≡ true → is_variable_kind kind ≡ true
column_varies (Int width signed) is big = not_big width (omega (arith, is)) big
column_varies Date is big = big
column_varies (Char n) is big = not_big n is.1 big
column_varies (Varchar n) is big = refl
column_varies (Binary n) is big = not_big n is.1 big
column_varies (Varbinary n) is big = refl
column_varies (Text n) is big = refl
column_varies (Blob n) is big = refl
column_varies (Utf8Varchar n) is big = refl
column_varies (Utf8Text n) is big = refl
column_varies (DateTime f) is big = not_big (5 + (f + 1) / 2) (omega (arith, is)) big
column_varies (Timestamp f) is big = not_big (4 + (f + 1) / 2) (omega (arith, is)) big
column_varies Year is big = big
column_varies (Decimal p s) is big =
    let length' = decimal_length_is p s in
    not_big (decimal_length p s) (omega (arith, is.1, is.2, length')) big

field_varies : (kind : FieldType) → IsFieldKind kind → is_big kind ≡ true → is_variable kind ≡ true
field_varies (Column kind) is big = column_varies kind is big
field_varies RowId is big = big
field_varies TrxId is big = big
field_varies RollPointer is big = big
field_varies Child is big = big

so_fits : (field : Field) (part : Part) → FitsField field part
    → (field.may_leave ≡ true → (is_variable field.kind ≡ true) × (is_big field.kind ≡ true))
    → FitsSo (is_variable field.kind) (is_big field.kind) (fixed_length field.kind) part
so_fits field Null fits leaves = tt
so_fits field (Bytes bytes true) fits leaves = let go = leaves fits.0 in (go.0, go.1, fits.1, fits.2)
so_fits field (Bytes bytes false) fits leaves = fits

-- part i by the kind of field i
pub fits_so : (fields : Fields) (parts : List Part) (i : ℕ) → AreListed fields → FitFields fields parts
    → i < length fields.fields
    → FitsSo (is_variable (field_at fields i).kind) (is_big (field_at fields i).kind)
    (fixed_length (field_at fields i).kind) (part_at parts i)
fits_so fields parts i listed fit below =
    so_fits (field_at fields i) (part_at parts i) (fit_at fields parts i fit below)
    (λ leaves.
    let big = (listed.leaving i leaves).0 in
    (field_varies (field_at fields i).kind (listed.kinds i child_field below) big, big))
