-- The parts of entries fit their fields.
use Rattle.std.proofs.Common.{◌≡◌, ℕ, ◌+◌, ◌<◌, ◌||◌, ltb, Bool, true, false, cond}
use Rattle.std.proofs.Common.{length, refl, sym, ◌∙◌, subst, arith}
use Rattle.std.proofs.lemmas.Bool.{true≢false, false≢true, ltb-false}
use Rattle.column_values.specs.declared.kind.ColumnType.{ColumnType}
use Rattle.column_values.specs.declared.field.Field.{Field}
use Rattle.column_values.specs.declared.field.FieldType.{FieldType}
use Rattle.column_values.specs.declared.field.FieldType.TheVariants as kinds
use Rattle.column_values.specs.Types.{IsFieldKind, is_big_kind, is_long_kind}
use Rattle.column_values.specs.Types.{greatest_length}
use Rattle.schema_text.specs.declared.table.Format.{Format}
use Rattle.compact_record.specs.declared.parts.Part.TheVariants as parts
use Rattle.compact_record.specs.Writing.{FitsBytes, FitsField, local_bytes}
use Rattle.row_layout.specs.StoredRow.{Stored, part_of_field, kept_prefix}
use Rattle.row_layout.specs.Fitting.{WentOff}
use Rattle.row_layout.proofs.Held.{local_size}
use Rattle.row_layout.proofs.Stored.{StoresKind, StoresField}
use Rattle.row_layout.proofs.Lengths.{spell_fits, spell_fixed}
use Rattle.schema_text.specs.declared.table.Format.TheVariants.{Compact, Dynamic}

small_prefix : (format : Format) → kept_prefix format + 20 < 16384
small_prefix Compact = omega arith
small_prefix Dynamic = omega arith

-- bytes that are few enough fit a field of their kind
few_bytes : (big : Bool) (n limit : ℕ) → n < 16384 → (big ≡ false → n < 256) → n < cond big 16384 256
few_bytes true n limit few small = few
few_bytes false n limit few small = small refl

not_big : (kind : ColumnType) → is_big_kind kind ≡ false → greatest_length kind < 256
not_big kind is = by_test (ltb 255 (greatest_length kind)) refl is
  where
    by_test : (b : Bool) → ltb 255 (greatest_length kind) ≡ b → (b || is_long_kind kind) ≡ false
        → greatest_length kind < 256
    by_test true more is = absurd (true≢false is)
    by_test false few is = let most = ltb-false 255 (greatest_length kind) few in omega arith

local_fits : (kind : FieldType) (nullable leaves : Bool) (stored : Stored) → IsFieldKind kind
    → StoresKind kind nullable stored → stored.null ≡ false → length stored.bytes < 16384
    → FitsBytes (record { kind = kind; nullable = nullable; may_leave = leaves }) stored.bytes false
local_fits (kinds.Column kind) nullable leaves stored is stores some few =
    let value = stores.0.0 in
    let spelled = stores.0.1.spelled some in (
      (λ fixed. spell_fixed kind value stored.bytes is spelled fixed),
      (λ variable. few_bytes (is_big_kind kind) (length stored.bytes) 0 few
          (λ small.
          let fits = spell_fits kind value stored.bytes is spelled in
          let most = not_big kind small in omega arith)),
    )
local_fits kinds.RowId nullable leaves stored is stores some few =
    ((λ fixed. stores.1), (λ variable. absurd (false≢true variable)))
local_fits kinds.TrxId nullable leaves stored is stores some few =
    ((λ fixed. stores.1), (λ variable. absurd (false≢true variable)))
local_fits kinds.RollPointer nullable leaves stored is stores some few =
    ((λ fixed. stores.1), (λ variable. absurd (false≢true variable)))
local_fits kinds.Child nullable leaves stored is stores some few =
    ((λ fixed. stores.1), (λ variable. absurd (false≢true variable)))

null_fits : (kind : FieldType) (nullable : Bool) (stored : Stored) → StoresKind kind nullable stored
    → stored.null ≡ true → nullable ≡ true
null_fits (kinds.Column kind) nullable stored stores null = stores.1 null
null_fits kinds.RowId nullable stored stores null = absurd (true≢false (sym null ∙ stores.0))
null_fits kinds.TrxId nullable stored stores null = absurd (true≢false (sym null ∙ stores.0))
null_fits kinds.RollPointer nullable stored stores null = absurd (true≢false (sym null ∙ stores.0))
null_fits kinds.Child nullable stored stores null = absurd (true≢false (sym null ∙ stores.0))

-- a part fits its field
pub part_fits : (format : Format) (n : ℕ) (field : Field) (stored : Stored) → IsFieldKind field.kind
    → StoresField field stored → (stored.off ≡ true → WentOff format field stored)
    → (stored.off ≡ false → length (local_bytes (part_of_field format n stored)) < 16384)
    → FitsField field (part_of_field format n stored)
part_fits format n field stored is stores went few = by_tests stored.null stored.off refl refl
  where
    by_tests : (b o : Bool) → stored.null ≡ b → stored.off ≡ o → FitsField field (part_of_field format n stored)
    by_tests true o null off = rw null (null_fits field.kind field.nullable stored stores null)
    by_tests false true some off =
        let size = local_size format n field stored (went off) in
        let most = small_prefix format in
        rw (some, off) ((went off).leaves, omega arith, omega arith)
    by_tests false false some near =
        let part : part_of_field format n stored ≡ parts.Bytes stored.bytes false = rw (some, near) refl in
        rw (some, near)
        (local_fits field.kind field.nullable field.may_leave stored is stores some
        (subst (λ p. length (local_bytes p) < 16384) part (few near)))
