-- The order of fields and of keys is a total one up to equality.
use Rattle.std.proofs.Common.{◌≡◌, ℕ, ◌+◌, ◌-◌, ◌≤◌, max, List, [], ◌∷◌, ◌++◌, length, replicate, Some, None, refl, sym}
use Rattle.std.proofs.Common.{ap, ◌∙◌, arith, append_assoc}
use Rattle.std.specs.Prelude.{Option}
use Rattle.std.specs.declared.cmp.Ordering.{Ordering}
use Rattle.std.specs.declared.cmp.Ordering.TheVariants.{Less, Equal, Greater}
use Rattle.std.specs.Ordering.{nat_cmp, ordering_then, ordering_reverse, on}
use Rattle.std.specs.Cmp.{IsTotalOrder, then_flip}
use Rattle.std.specs.Cmp.Lexicographic.{slice_cmp}
use Rattle.std.proofs.lemmas.Cmp.{nat_list_cmp_total, on_total, tied_itself, tied_back, alike_right}
use Rattle.std.proofs.lemmas.List.{replicate-append-replicate}
use Rattle.column_values.specs.declared.kind.ColumnType.TheVariants as types
use Rattle.column_values.specs.declared.field.FieldType.{FieldType}
use Rattle.column_values.specs.declared.field.FieldType.TheVariants as fields
use Rattle.column_values.specs.Order.{bytes_cmp, filled, text_cmp, field_cmp, cell_cmp, Key, key_cmp, IsBelow}
use Rattle.column_values.specs.Order.{AreEqualKeys}
use Rattle.column_values.proofs.TextOrder.{length-filled}
use Rattle.column_values.specs.Laws.{IsStrict, IsTransitive, IsReflexive, Symmetric, Agrees, Splits, IsTotal}

-- an equal end doesn't count
same_end : (x y z : List ℕ) → length x ≡ length y → bytes_cmp (x ++ z) (y ++ z) ≡ bytes_cmp x y
same_end [] [] z h = tied_itself nat_list_cmp_total z
same_end [] (y ∷ ys) z h = absurd (omega arith)
same_end (x ∷ xs) [] z h = absurd (omega arith)
same_end (x ∷ xs) (y ∷ ys) z h = ap (ordering_then (nat_cmp x y)) (same_end xs ys z (omega arith))

filled_more : (a : List ℕ) (n more : ℕ) → length a ≤ n → filled a (n + more) ≡ filled a n ++ replicate more 32
filled_more a n more within =
    let e : n + more - length a ≡ (n - length a) + more = omega arith in
    let spaces : replicate ((n - length a) + more) 32 ≡ replicate (n - length a) 32 ++ replicate more 32 =
    sym (replicate-append-replicate {A = ℕ} (n - length a) more 32) in
    rw (e, spaces) (sym (append_assoc a (replicate (n - length a) 32) (replicate more 32)))

-- texts compare as if both were filled up to any length that holds both
text_cmp_at : (a b : List ℕ) (n : ℕ) → max (length a) (length b) ≤ n
    → text_cmp a b ≡ bytes_cmp (filled a n) (filled b n)
text_cmp_at a b n within =
    let m : ℕ = max (length a) (length b) in
    let first : length b - length a ≡ m - length a = omega arith in
    let second : length a - length b ≡ m - length b = omega arith in
    let e : n ≡ m + (n - m) = omega arith in
    rw (first, second)
    (rw (e, filled_more a m (n - m) (omega arith), filled_more b m (n - m) (omega arith))
    (sym (same_end (filled a m) (filled b m) (replicate (n - m) 32)
    (omega (arith, length-filled a m, length-filled b m)))))

-- an order that comes from lists as long as two at hand
filled_total : (n : ℕ) → IsTotalOrder (on (λ (a : List ℕ). filled a n) (slice_cmp nat_cmp))
filled_total n = on_total (λ (a : List ℕ). filled a n) nat_list_cmp_total

text_antisymm : (x y : List ℕ) → text_cmp x y ≡ ordering_reverse (text_cmp y x)
text_antisymm x y =
    let n : ℕ = length x + length y in
    text_cmp_at x y n (omega arith) ∙ (filled_total n).antisymm x y
    ∙ ap ordering_reverse (sym (text_cmp_at y x n (omega arith)))

text_trans : (x y z : List ℕ) → text_cmp x y ≡ Less → text_cmp y z ≡ Less → text_cmp x z ≡ Less
text_trans x y z h g =
    let n : ℕ = length x + length y + length z in
    text_cmp_at x z n (omega arith)
    ∙ (filled_total n).trans x y z (sym (text_cmp_at x y n (omega arith)) ∙ h) (sym (text_cmp_at y z n (omega arith))
    ∙ g)

text_congr : (x y z : List ℕ) → text_cmp x y ≡ Equal → text_cmp x z ≡ text_cmp y z
text_congr x y z h =
    let n : ℕ = length x + length y + length z in
    text_cmp_at x z n (omega arith)
    ∙ (filled_total n).congr x y z (sym (text_cmp_at x y n (omega arith)) ∙ h) ∙ sym (text_cmp_at y z n (omega arith))

text_total : IsTotalOrder text_cmp
text_total = record { antisymm = text_antisymm; trans = text_trans; congr = text_congr }

pub field_total : (kind : FieldType) → IsTotalOrder (field_cmp kind)
field_total (fields.Column (types.Char n)) = text_total
field_total (fields.Column (types.Varchar n)) = text_total
field_total (fields.Column (types.Text n)) = text_total
field_total (fields.Column (types.Utf8Varchar n)) = text_total
field_total (fields.Column (types.Utf8Text n)) = text_total
field_total _ = nat_list_cmp_total

cell_antisymm : (kind : FieldType) (x y : Option (List ℕ)) → cell_cmp kind x y ≡ ordering_reverse (cell_cmp kind y x)
cell_antisymm kind None None = refl
cell_antisymm kind None (Some y) = refl
cell_antisymm kind (Some x) None = refl
cell_antisymm kind (Some x) (Some y) = (field_total kind).antisymm x y

cell_trans : (kind : FieldType) (x y z : Option (List ℕ)) → cell_cmp kind x y ≡ Less → cell_cmp kind y z ≡ Less
    → cell_cmp kind x z ≡ Less
cell_trans kind None None z h g = g
cell_trans kind None (Some y) None h g = cc
cell_trans kind None (Some y) (Some z) h g = refl
cell_trans kind (Some x) None z h g = cc
cell_trans kind (Some x) (Some y) None h g = cc
cell_trans kind (Some x) (Some y) (Some z) h g = (field_total kind).trans x y z h g

cell_congr : (kind : FieldType) (x y z : Option (List ℕ)) → cell_cmp kind x y ≡ Equal
    → cell_cmp kind x z ≡ cell_cmp kind y z
cell_congr kind None None z h = refl
cell_congr kind None (Some y) z h = cc
cell_congr kind (Some x) None z h = cc
cell_congr kind (Some x) (Some y) None h = refl
cell_congr kind (Some x) (Some y) (Some z) h = (field_total kind).congr x y z h

pub cell_total : (kind : FieldType) → IsTotalOrder (cell_cmp kind)
cell_total kind = record { antisymm = cell_antisymm kind; trans = cell_trans kind; congr = cell_congr kind }

-- the first parts p, q and r decide, or where these are equal the rests a, b and c
then_trans : (p q r a b c : Ordering) → (p ≡ Less → q ≡ Less → r ≡ Less) → (p ≡ Equal → r ≡ q) → (q ≡ Equal → r ≡ p)
    → (a ≡ Less → b ≡ Less → c ≡ Less) → ordering_then p a ≡ Less → ordering_then q b ≡ Less → ordering_then r c ≡ Less
then_trans Less Less r a b c less first second rest h g = let e = less refl refl in rw e refl
then_trans Less Equal r a b c less first second rest h g = let e = second refl in rw e refl
then_trans Less Greater r a b c less first second rest h g = cc
then_trans Equal Less r a b c less first second rest h g = let e = first refl in rw e refl
then_trans Equal Equal r a b c less first second rest h g = let e = first refl in rw e (rest h g)
then_trans Equal Greater r a b c less first second rest h g = cc
then_trans Greater q r a b c less first second rest h g = cc

then_congr : (p q r a b c : Ordering) → (p ≡ Equal → q ≡ r) → (a ≡ Equal → b ≡ c) → ordering_then p a ≡ Equal
    → ordering_then q b ≡ ordering_then r c
then_congr Less q r a b c first rest h = cc
then_congr Equal q r a b c first rest h = rw (first refl, rest h) refl
then_congr Greater q r a b c first rest h = cc

key_antisymm : (kinds : List FieldType) (x y : Key) → key_cmp kinds x y ≡ ordering_reverse (key_cmp kinds y x)
key_antisymm [] x y = refl
key_antisymm (kind ∷ kinds) [] [] = refl
key_antisymm (kind ∷ kinds) [] (y ∷ ys) = refl
key_antisymm (kind ∷ kinds) (x ∷ xs) [] = refl
key_antisymm (kind ∷ kinds) (x ∷ xs) (y ∷ ys) =
    rw (cell_antisymm kind x y, key_antisymm kinds xs ys) (then_flip (cell_cmp kind y x) (key_cmp kinds ys xs))

key_trans : (kinds : List FieldType) (x y z : Key) → key_cmp kinds x y ≡ Less → key_cmp kinds y z ≡ Less
    → key_cmp kinds x z ≡ Less
key_trans [] x y z h g = g
key_trans (kind ∷ kinds) [] [] z h g = g
key_trans (kind ∷ kinds) [] (y ∷ ys) [] h g = cc
key_trans (kind ∷ kinds) [] (y ∷ ys) (z ∷ zs) h g = refl
key_trans (kind ∷ kinds) (x ∷ xs) [] z h g = cc
key_trans (kind ∷ kinds) (x ∷ xs) (y ∷ ys) [] h g = cc
key_trans (kind ∷ kinds) (x ∷ xs) (y ∷ ys) (z ∷ zs) h g =
    then_trans (cell_cmp kind x y) (cell_cmp kind y z) (cell_cmp kind x z) (key_cmp kinds xs ys)
    (key_cmp kinds ys zs) (key_cmp kinds xs zs)
    (cell_trans kind x y z) (cell_congr kind x y z) (λ e. sym (alike_right (cell_total kind) y z x e))
    (key_trans kinds xs ys zs) h g

key_congr : (kinds : List FieldType) (x y z : Key) → key_cmp kinds x y ≡ Equal → key_cmp kinds x z ≡ key_cmp kinds y z
key_congr [] x y z h = refl
key_congr (kind ∷ kinds) [] [] z h = refl
key_congr (kind ∷ kinds) [] (y ∷ ys) z h = cc
key_congr (kind ∷ kinds) (x ∷ xs) [] z h = cc
key_congr (kind ∷ kinds) (x ∷ xs) (y ∷ ys) [] h = refl
key_congr (kind ∷ kinds) (x ∷ xs) (y ∷ ys) (z ∷ zs) h =
    then_congr (cell_cmp kind x y) (cell_cmp kind x z) (cell_cmp kind y z) (key_cmp kinds xs ys)
    (key_cmp kinds xs zs) (key_cmp kinds ys zs)
    (cell_congr kind x y z) (key_congr kinds xs ys zs) h

pub key_total : (kinds : List FieldType) → IsTotalOrder (key_cmp kinds)
key_total kinds = record { antisymm = key_antisymm kinds; trans = key_trans kinds; congr = key_congr kinds }

pub is_strict : (kinds : List FieldType) → IsStrict kinds
is_strict kinds a h = let e = tied_itself (key_total kinds) a in let f : Less ≡ Equal = sym h ∙ e in cc

pub is_transitive : (kinds : List FieldType) → IsTransitive kinds
is_transitive kinds a b c h g = key_trans kinds a b c h g

pub is_reflexive : (kinds : List FieldType) → IsReflexive kinds
is_reflexive kinds a = tied_itself (key_total kinds) a

pub symmetric : (kinds : List FieldType) → Symmetric kinds
symmetric kinds s t h = tied_back (key_total kinds) s t h

pub agrees : (kinds : List FieldType) → Agrees kinds
agrees kinds = record {
  before = λ a s t h g. sym (alike_right (key_total kinds) s t a h) ∙ g;
  after = λ s t b h g. sym (key_congr kinds s t b h) ∙ g;
  equal = λ s t u h g. key_congr kinds s t u h ∙ g;
}

-- what the order of two keys may be
turned : (kinds : List FieldType) (a b : Key) (o : Ordering) → key_cmp kinds a b ≡ o
    → key_cmp kinds b a ≡ ordering_reverse o
turned kinds a b o h = key_antisymm kinds b a ∙ ap ordering_reverse h

split_by : (kinds : List FieldType) (a s b : Key) (o : Ordering) → key_cmp kinds b s ≡ o → IsBelow kinds a s
    → (IsBelow kinds b s → ⊥) → IsBelow kinds a b
split_by kinds a s b Less h below above = absurd (above h)
split_by kinds a s b Equal h below above = alike_right (key_total kinds) b s a h ∙ below
split_by kinds a s b Greater h below above = key_trans kinds a s b below (turned kinds b s Greater h)

pub splits : (kinds : List FieldType) → Splits kinds
splits kinds a s b below above = split_by kinds a s b (key_cmp kinds b s) refl below above

total_by : (kinds : List FieldType) (a b : Key) (o : Ordering) → key_cmp kinds a b ≡ o → (IsBelow kinds a b → ⊥)
    → (IsBelow kinds b a → ⊥) → AreEqualKeys kinds a b
total_by kinds a b Less h first second = absurd (first h)
total_by kinds a b Equal h first second = h
total_by kinds a b Greater h first second = absurd (second (turned kinds a b Greater h))

pub is_total : (kinds : List FieldType) → IsTotal kinds
is_total kinds a b first second = total_by kinds a b (key_cmp kinds a b) refl first second
