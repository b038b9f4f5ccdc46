-- Keys of the same kinds, field by field.
use Rattle.std.proofs.Common.{◌≡◌, ℕ, zero, suc, ◌<◌, List, [], ◌∷◌, length, get_or, None, refl}
use Rattle.std.proofs.Common.{arith}
use Rattle.std.specs.Ordering.{ordering_then}
use Rattle.std.specs.declared.cmp.Ordering.{Ordering}
use Rattle.std.specs.declared.cmp.Ordering.TheVariants.{Less, Equal, Greater}
use Rattle.column_values.specs.declared.field.FieldType.{FieldType}
use Rattle.column_values.specs.Order.{Key, cell_cmp, key_cmp, AreEqualKeys}

first_equal : (p q : Ordering) → ordering_then p q ≡ Equal → p ≡ Equal
first_equal Less q e = e
first_equal Equal q e = refl
first_equal Greater q e = e

second_equal : (p q : Ordering) → ordering_then p q ≡ Equal → q ≡ Equal
second_equal Less q e = cc
second_equal Equal q e = e
second_equal Greater q e = cc

both_equal : (p q : Ordering) → p ≡ Equal → q ≡ Equal → ordering_then p q ≡ Equal
both_equal p q e f = rw (e, f) refl

-- equal keys have equal fields
pub equal_field : (kinds : List FieldType) (a b : Key) (j : ℕ) (d : FieldType) → AreEqualKeys kinds a b
    → length a ≡ length kinds → length b ≡ length kinds → j < length kinds
    → cell_cmp (get_or kinds j d) (get_or a j None) (get_or b j None) ≡ Equal
equal_field [] a b j d e m n within = absurd (omega (arith, within))
equal_field (kind ∷ kinds) [] b j d e m n within = absurd (omega (arith, m))
equal_field (kind ∷ kinds) (x ∷ xs) [] j d e m n within = absurd (omega (arith, n))
equal_field (kind ∷ kinds) (x ∷ xs) (y ∷ ys) zero d e m n within =
    first_equal (cell_cmp kind x y) (key_cmp kinds xs ys) e
equal_field (kind ∷ kinds) (x ∷ xs) (y ∷ ys) (suc j) d e m n within =
    equal_field kinds xs ys j d (second_equal (cell_cmp kind x y) (key_cmp kinds xs ys) e) (omega (arith, m))
    (omega (arith, n)) (omega (arith, within))

-- keys with equal fields are equal
pub equal_by_fields : (kinds : List FieldType) (a b : Key) (d : FieldType) → length a ≡ length kinds
    → length b ≡ length kinds
    → ((j : ℕ) → j < length kinds → cell_cmp (get_or kinds j d) (get_or a j None) (get_or b j None) ≡ Equal)
    → AreEqualKeys kinds a b
equal_by_fields [] a b d m n each = refl
equal_by_fields (kind ∷ kinds) [] b d m n each = absurd (omega (arith, m))
equal_by_fields (kind ∷ kinds) (x ∷ xs) [] d m n each = absurd (omega (arith, n))
equal_by_fields (kind ∷ kinds) (x ∷ xs) (y ∷ ys) d m n each =
    both_equal (cell_cmp kind x y) (key_cmp kinds xs ys) (each zero (omega arith))
    (equal_by_fields kinds xs ys d (omega (arith, m)) (omega (arith, n))
    (λ j within. each (suc j) (omega (arith, within))))
