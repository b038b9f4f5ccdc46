-- The order of keys, field by field.
use Rattle.std.proofs.Common.{◌≡◌, ℕ, ◌+◌, ◌<◌, ◌≤◌, List, length, get_or, drop, take, None, refl, sym}
use Rattle.std.proofs.Common.{ap, ◌∙◌, arith, add-one}
use Rattle.std.specs.declared.cmp.Ordering.{Ordering}
use Rattle.std.specs.declared.cmp.Ordering.TheVariants.{Equal}
use Rattle.std.specs.Ordering.{ordering_then}
use Rattle.std.proofs.Math.Seq.{drop-cons}
use Rattle.std.proofs.lemmas.List.{drop_all, length-map, length-take-le, get_or-map, get_or-take}
use Rattle.column_values.specs.declared.field.Field.{Field}
use Rattle.column_values.specs.declared.field.FieldType.{FieldType}
use Rattle.column_values.specs.declared.field.FieldType.TheVariants.{Child}
use Rattle.column_values.specs.Types.{Fields, field_at, child_field}
use Rattle.column_values.specs.Order.{Key, cell_cmp, key_cmp}
use Rattle.compact_record.specs.Reading.{key_kinds}

-- what is left of two keys from field i on, in their order
abbrev pub LeftOf : List FieldType → Key → Key → ℕ → Ordering
LeftOf kinds a b i = key_cmp (drop i kinds) (drop i a) (drop i b)

-- the fields at a place decide, or what is left behind them does
pub cells_decide : (kinds : List FieldType) (a b : Key) (i : ℕ) (d kind : FieldType) (o answer whole : Ordering)
    → length a ≡ length kinds → length b ≡ length kinds → i < length kinds → kind ≡ get_or kinds i d
    → o ≡ cell_cmp kind (get_or a i None) (get_or b i None) → o ≡ answer → LeftOf kinds a b i ≡ whole
    → ordering_then answer (LeftOf kinds a b (i + 1)) ≡ whole
cells_decide kinds a b i d kind o answer whole first second below is compared says left =
    let rest = LeftOf kinds a b (i + 1) in
    let k = drop-cons kinds i d below in
    let x = drop-cons a i None (omega (arith, first, below)) in
    let y = drop-cons b i None (omega (arith, second, below)) in
    let step : LeftOf kinds a b i
    ≡ ordering_then (cell_cmp (get_or kinds i d) (get_or a i None) (get_or b i None)) rest =
    rw (k, x, y, add-one) refl in
    let same : cell_cmp (get_or kinds i d) (get_or a i None) (get_or b i None) ≡ answer =
    ap (λ (f : FieldType). cell_cmp f (get_or a i None) (get_or b i None)) (sym is) ∙ sym compared ∙ says in
    ap (λ (r : Ordering). ordering_then r rest) (sym same) ∙ sym step ∙ left

pub cells_end : (kinds : List FieldType) (a b : Key) (i : ℕ) (whole : Ordering) → length kinds ≤ i
    → LeftOf kinds a b i ≡ whole → Equal ≡ whole
cells_end kinds a b i whole past left =
    let none = drop_all i kinds past in
    let e : LeftOf kinds a b i ≡ Equal = rw none refl in
    sym e ∙ left

-- the kinds of a key's fields
pub kinds_size : (fields : Fields) → fields.keys ≤ length fields.fields → length (key_kinds fields) ≡ fields.keys
kinds_size fields few =
    length-map (take fields.keys fields.fields) (λ (f : Field). f.kind)
    ∙ length-take-le fields.keys fields.fields few

pub kind_of_field : (fields : Fields) (i : ℕ) → fields.keys ≤ length fields.fields → i < fields.keys
    → (field_at fields i).kind ≡ get_or (key_kinds fields) i Child
kind_of_field fields i few below =
    sym (get_or-map (λ (f : Field). f.kind) (take fields.keys fields.fields) i child_field Child
    (omega (arith, below, length-take-le fields.keys fields.fields few))
    ∙ ap (λ (f : Field). f.kind) (get_or-take fields.keys fields.fields i child_field below))
