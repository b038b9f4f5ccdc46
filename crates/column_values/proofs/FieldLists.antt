-- A field list that got one more field.
use Rattle.std.proofs.Common.{◌≡◌, ◌<◌, ◌≤◌, ℕ, true, false, [], ◌∷◌, ◌++◌, length, sym, subst, inl, inr, arith}
use Rattle.std.proofs.Common.{length-append}
use Rattle.std.proofs.lemmas.Bool.{cases_order, false≢true}
use Rattle.std.proofs.lemmas.List.{get_or_push, get_or_append_left, get_or_past}
use Rattle.std.proofs.lemmas.List.Elements.{All-push}
use Rattle.column_values.specs.declared.field.Field.{Field}
use Rattle.column_values.specs.declared.field.FieldType.TheVariants.{Child}
use Rattle.column_values.specs.Types.{Fields, field_at, is_big, IsFieldKind, MayLeave, AreListed, CanFollow, with_field}

-- the field at a place is one of the old ones, the new one, or none
place_cases : (fields : Fields) (field : Field) (i : ℕ) (P : Field → Type 0)
    → (i < length fields.fields → P (field_at fields i)) → (i ≡ length fields.fields → P field)
    → P (record { kind = Child; nullable = false; may_leave = false }) → P (field_at (with_field fields field) i)
place_cases fields field i P old new none =
    let d : Field = record { kind = Child; nullable = false; may_leave = false } in
    elim (cases_order i (length fields.fields)) [
      | inl here ↦ subst P (sym (get_or_push fields.fields field d i (sym here))) (new here)
      | inr rest ↦ elim rest [
        | inl inside ↦ subst P (sym (get_or_append_left fields.fields (field ∷ []) d i inside)) (old inside)
        | inr past ↦ subst P (sym (get_or_past (fields.fields ++ field ∷ []) i d
            (omega (arith, past, length-append fields.fields (field ∷ []))))) none
      ]
    ]

leaves_more : (fields : Fields) (field : Field) → AreListed fields → CanFollow fields field
    → (i : ℕ) → (field_at (with_field fields field) i).may_leave ≡ true → MayLeave (with_field fields field) i
leaves_more fields field listed follow i =
    place_cases fields field i (λ (f : Field). f.may_leave ≡ true → (is_big f.kind ≡ true) × (fields.keys ≤ i))
    (λ _. listed.leaving i)
    (λ here leaves. ((follow.leaving leaves).0, omega (arith, here, (follow.leaving leaves).1)))
    (λ leaves. absurd (false≢true leaves))

pub listed_more : (fields : Fields) (field : Field) → AreListed fields → CanFollow fields field
    → AreListed (with_field fields field)
listed_more fields field listed follow = record {
  few = omega (arith, length-append fields.fields (field ∷ []), follow.few);
  kinds = All-push (λ (f : Field). IsFieldKind f.kind) fields.fields field listed.kinds follow.kind;
  nullables = follow.nullables;
  leaving = leaves_more fields field listed follow;
}
