-- Keys order as their fronts do, if these differ.
use Rattle.std.proofs.Common.{◌≡◌, ℕ, zero, suc, ◌+◌, ◌-◌, ◌*◌, ◌/◌, ◌%◌, ◌^◌, ◌<◌, ◌≤◌, List, [], ◌∷◌}
use Rattle.std.proofs.Common.{length, get_or, replicate, Option, Some, None, false, refl, sym, ap, ◌∙◌, subst}
use Rattle.std.proofs.Common.{inl, inr, arith}
use Rattle.std.specs.declared.cmp.Ordering.{Ordering}
use Rattle.std.specs.declared.cmp.Ordering.TheVariants.{Less, Equal, Greater}
use Rattle.std.specs.Ordering.{is_lt, nat_cmp, ordering_then, ordering_reverse}
use Rattle.std.specs.Cmp.{nat_cmp_is}
use Rattle.std.proofs.Math.Nat.{mul-le-mul_right, suc-mul}
use Rattle.std.proofs.lemmas.Nat.{div-mul-add, mod-mul-add}
use Rattle.std.proofs.lemmas.Bool.{cases_lt}
use Rattle.std.proofs.lemmas.List.{get_or_past, get_or_append_left, get_or-append_right}
use Rattle.std.proofs.lemmas.List.{get_or-replicate, length-replicate}
use Rattle.column_values.specs.declared.kind.ColumnType.TheVariants as types
use Rattle.column_values.specs.declared.field.FieldType.{FieldType}
use Rattle.column_values.specs.declared.field.FieldType.TheVariants as fields
use Rattle.column_values.specs.declared.field.FieldType.TheVariants.{Child}
use Rattle.column_values.specs.Order.{bytes_cmp, filled, text_cmp, field_cmp, cell_cmp, Key, key_cmp}
use Rattle.column_values.proofs.KeyOrder.{cell_total}
use Rattle.column_values.proofs.TextOrder.{length-filled}
use Rattle.key_ranks.specs.declared.fronts.Digit.{Digit}
use Rattle.key_ranks.specs.Ranks.{filler_of, digit_at, number_of, IsFront, HasFront, HaveFronts, key_of_rank}
use Rattle.key_ranks.specs.Keys.{KeyTable}

-- what holds at each place below one, and there too
pub one_place_more : (P : ℕ → Type 0) (n : ℕ) → ((j : ℕ) → j < n → P j) → P n → (j : ℕ) → j < n + 1 → P j
one_place_more P n before here j within = elim (cases_lt j n) [
  | inl less ↦ before j less
  | inr more ↦ let e : n ≡ j = omega (arith, within, more) in subst P e here
]

-- two values are the same up to a place
abbrev SameTo : ℕ → List ℕ → List ℕ → ℕ → Type 0
SameTo filler a b n = (j : ℕ) → j < n → get_or a j filler ≡ get_or b j filler

same_on : (filler : ℕ) (a b : List ℕ) (n : ℕ) → SameTo filler a b n → get_or a n filler ≡ get_or b n filler
    → SameTo filler a b (n + 1)
same_on filler a b n = one_place_more (λ j. get_or a j filler ≡ get_or b j filler) n

less_first : (x y : ℕ) (rest : Ordering) → x < y → ordering_then (nat_cmp x y) rest ≡ Less
less_first x y rest less = ap (λ (o : Ordering). ordering_then o rest) (sym (nat_cmp_is x y Less less))

same_first : (x y : ℕ) (rest : Ordering) → x ≡ y → ordering_then (nat_cmp x y) rest ≡ rest
same_first x y rest same = ap (λ (o : Ordering). ordering_then o rest) (sym (nat_cmp_is x y Equal same))

-- bytes, the first of which that differ are these
bytes_less : (a b : List ℕ) (n : ℕ) → SameTo 0 a b n → get_or a n 0 < get_or b n 0 → bytes_cmp a b ≡ Less
bytes_less [] [] n same less = absurd (omega (arith, less))
bytes_less [] (y ∷ b) n same less = refl
bytes_less (x ∷ a) [] n same less = absurd (omega (arith, less))
bytes_less (x ∷ a) (y ∷ b) zero same less = less_first x y (bytes_cmp a b) less
bytes_less (x ∷ a) (y ∷ b) (suc n) same less =
    same_first x y (bytes_cmp a b) (same zero (omega arith))
    ∙ bytes_less a b n (λ j within. same (suc j) (omega (arith, within))) less

-- of two lists of one length, whatever they go on with
long_less : (a b : List ℕ) (d n : ℕ) → length a ≡ length b → SameTo d a b n → get_or a n d < get_or b n d
    → bytes_cmp a b ≡ Less
long_less [] [] d n size same less = absurd (omega (arith, less))
long_less [] (y ∷ b) d n size same less = absurd (omega (arith, size))
long_less (x ∷ a) [] d n size same less = absurd (omega (arith, size))
long_less (x ∷ a) (y ∷ b) d zero size same less = less_first x y (bytes_cmp a b) less
long_less (x ∷ a) (y ∷ b) d (suc n) size same less =
    same_first x y (bytes_cmp a b) (same zero (omega arith))
    ∙ long_less a b d n (omega (arith, size)) (λ j within. same (suc j) (omega (arith, within))) less

-- a byte of a text is the same in the text with spaces after it
filled_at : (a : List ℕ) (n i : ℕ) → get_or (filled a n) i 32 ≡ get_or a i 32
filled_at a n i = elim (cases_lt i (length a)) [
  | inl less ↦ get_or_append_left a (replicate {A = ℕ} (n - length a) 32) 32 i less
  | inr more ↦
      get_or-append_right a (replicate {A = ℕ} (n - length a) 32) (length a) i 32 refl more
      ∙ spaces (n - length a) (i - length a) ∙ sym (get_or_past a i 32 more)
]
  where
    spaces : (k j : ℕ) → get_or (replicate {A = ℕ} k 32) j 32 ≡ 32
    spaces k j = elim (cases_lt j k) [
      | inl less ↦ get_or-replicate {A = ℕ} k j 32 32 less
      | inr more ↦ get_or_past (replicate {A = ℕ} k 32) j 32 (omega (arith, more, length-replicate {A = ℕ} k 32))
    ]

text_less : (a b : List ℕ) (n : ℕ) → SameTo 32 a b n → get_or a n 32 < get_or b n 32 → text_cmp a b ≡ Less
text_less a b n same less =
    let first = filled_at a (length b) in
    let second = filled_at b (length a) in
    long_less (filled a (length b)) (filled b (length a)) 32 n
    (omega (arith, length-filled a (length b), length-filled b (length a)))
    (λ j within. first j ∙ same j within ∙ sym (second j)) (rw (first n, second n) less)

field_less : (kind : FieldType) (a b : List ℕ) (n : ℕ) → SameTo (filler_of kind) a b n
    → get_or a n (filler_of kind) < get_or b n (filler_of kind) → field_cmp kind a b ≡ Less
field_less (fields.Column (types.Char n)) a b = text_less a b
field_less (fields.Column (types.Varchar n)) a b = text_less a b
field_less (fields.Column (types.Text n)) a b = text_less a b
field_less (fields.Column (types.Utf8Varchar n)) a b = text_less a b
field_less (fields.Column (types.Utf8Text n)) a b = text_less a b
field_less _ a b = bytes_less a b

-- no digits spell 0
pub number_none : (filler : ℕ) (digits : List Digit) (value : List ℕ) → 0 ≡ number_of filler digits value 0
unfolding number_of
number_none filler digits value = refl

-- one byte more
pub number_more : (filler : ℕ) (digits : List Digit) (value : List ℕ) (i number byte : ℕ)
    → number ≡ number_of filler digits value i → byte ≡ get_or value i filler
    → number * (digit_at digits i).width + (byte - (digit_at digits i).low) ≡ number_of filler digits value (i + 1)
unfolding number_of
number_more filler digits value i number byte is here =
    let e : suc i ≡ i + 1 = omega arith in
    rw (is, here) (ap (number_of filler digits value) e)

-- a number goes on with one more digit
carried : (x y width p q : ℕ) → x < y → p < width → x * width + p < y * width + q
carried x y width p q less small =
    let more : suc x * width ≤ y * width = mul-le-mul_right width (omega (arith, less)) in
    omega (arith, suc-mul x width, more, small)

-- where two values first differ, the first one has the less byte
record LessAt (filler : ℕ) (a b : List ℕ) : Type 0 where
  place : ℕ
  same : SameTo filler a b place
  less : get_or a place filler < get_or b place filler

module _ (filler : ℕ) (digits : List Digit) (a b : List ℕ) {m n : ℕ} (first : IsFront filler digits a m)
    (second : IsFront filler digits b n) where
  abbrev digit : List ℕ → ℕ → ℕ
  digit value i = get_or value i filler - (digit_at digits i).low

  small : {front : ℕ} (value : List ℕ) → IsFront filler digits value front → (i : ℕ) → i < length digits
      → digit value i < (digit_at digits i).width
  small value is i within = omega (arith, is.least i within, is.most i within)

  -- equal numbers are spelled by equal bytes
  same_to : (i : ℕ) → i ≤ length digits → number_of filler digits a i ≡ number_of filler digits b i
      → SameTo filler a b i
  unfolding number_of
  same_to zero few is = λ j within. absurd (omega (arith, within))
  same_to (suc i) few is =
      let within : i < length digits = omega (arith, few) in
      let width = (digit_at digits i).width in
      let x = number_of filler digits a i in
      let y = number_of filler digits b i in
      let one = small a first i within in
      let two = small b second i within in
      let before : x ≡ y =
      sym (div-mul-add x width (digit a i) one) ∙ ap (λ (k : ℕ). k / width) is
      ∙ div-mul-add y width (digit b i) two in
      let here : digit a i ≡ digit b i =
      sym (mod-mul-add x width (digit a i) one) ∙ ap (λ (k : ℕ). k % width) is
      ∙ mod-mul-add y width (digit b i) two in
      let same = same_on filler a b i (same_to i (omega (arith, few)) before)
      (omega (arith, here, first.least i within, second.least i within)) in
      λ j below. same j (omega (arith, below))

  -- of two numbers the less one has the less byte, where they first differ
  less_at : (i : ℕ) → i ≤ length digits → number_of filler digits a i < number_of filler digits b i
      → LessAt filler a b
  unfolding number_of
  less_at zero few less = absurd (omega (arith, less))
  less_at (suc i) few less =
      let within : i < length digits = omega (arith, few) in
      let width = (digit_at digits i).width in
      let x = number_of filler digits a i in
      let y = number_of filler digits b i in
      elim (cases_lt x y) [
        | inl low ↦ less_at i (omega (arith, few)) low
        | inr not_low ↦ elim (cases_lt y x) [
          | inl high ↦
              absurd (omega (arith, less, carried y x width (digit b i) (digit a i) high (small b second i within)))
          | inr not_high ↦
              let e : x ≡ y = omega (arith, not_low, not_high) in
              let front : x * width ≡ y * width = ap (λ (k : ℕ). k * width) e in
              record {
                place = i;
                same = same_to i (omega (arith, few)) e;
                less = omega (arith, less, front, first.least i within, second.least i within);
              }
        ]
      ]

values_less : (kind : FieldType) (digits : List Digit) (a b : List ℕ) (m n : ℕ) → IsFront (filler_of kind) digits a m
    → IsFront (filler_of kind) digits b n → m < n → field_cmp kind a b ≡ Less
values_less kind digits a b m n first second less =
    let at = less_at (filler_of kind) digits a b first second (length digits) (omega arith)
    (omega (arith, less, first.is, second.is)) in
    field_less kind a b at.place at.same at.less

cells_less : (kind : FieldType) (digits : List Digit) (x y : Option (List ℕ)) (m n : ℕ)
    → HasFront (filler_of kind) digits x m → HasFront (filler_of kind) digits y n → m < n → cell_cmp kind x y ≡ Less
cells_less kind digits None None m n first second less = absurd (omega (arith, second, less))
cells_less kind digits None (Some y) m n first second less = refl
cells_less kind digits (Some x) None m n first second less = absurd (omega (arith, second, less))
cells_less kind digits (Some x) (Some y) m n first second less =
    values_less kind digits x y m n first second less

-- keys whose first values are in order
not_below : (kinds : List FieldType) (x y : Key) (kind d : FieldType) → length x ≡ length kinds
    → length y ≡ length kinds → (0 < length kinds → kind ≡ get_or kinds 0 d)
    → cell_cmp kind (get_or x 0 None) (get_or y 0 None) ≡ Less → is_lt (key_cmp kinds y x) ≡ false
not_below [] x y kind d one two is less = refl
not_below (k ∷ kinds) [] y kind d one two is less = absurd (omega (arith, one))
not_below (k ∷ kinds) (x ∷ xs) [] kind d one two is less = absurd (omega (arith, two))
not_below (k ∷ kinds) (x ∷ xs) (y ∷ ys) kind d one two is less =
    let here : cell_cmp k x y ≡ Less = subst (λ (f : FieldType). cell_cmp f x y ≡ Less) (is (omega arith)) less in
    let back : cell_cmp k y x ≡ Greater = (cell_total k).antisymm y x ∙ ap ordering_reverse here in
    ap (λ (o : Ordering). is_lt (ordering_then o (key_cmp kinds ys xs))) back

-- of two ranks with different fronts
pub fronts_decide : (table : KeyTable) (kind : FieldType) (digits : List Digit) (before here : ℕ)
    → ((d : FieldType) → 0 < length table.kinds → kind ≡ get_or table.kinds 0 d)
    → HaveFronts table (filler_of kind) digits (before ∷ here ∷ []) → before / 2 ^ 24 < here / 2 ^ 24
    → is_lt (key_cmp table.kinds (key_of_rank table here) (key_of_rank table before)) ≡ false
fronts_decide table kind digits before here is fronts less =
    let first = fronts 0 0 (omega arith) in
    let second = fronts 1 0 (omega arith) in
    not_below table.kinds (key_of_rank table before) (key_of_rank table here) kind Child first.whole second.whole
    (is Child) (cells_less kind digits _ _ (before / 2 ^ 24) (here / 2 ^ 24) first.front second.front less)
