-- Bytes of moments, years and decimals order as their values do.
use Rattle.std.proofs.Common.{◌≡◌, ℕ, suc, ◌+◌, ◌-◌, ◌*◌, ◌/◌, ◌%◌, ◌^◌, ◌<◌, ◌≤◌, eqb, true, false, List, [], ◌∷◌}
use Rattle.std.proofs.Common.{◌++◌, length, take, drop, slice_index, sum, refl, sym, ap, ◌∙◌, subst, inl, inr, arith}
use Rattle.std.specs.Prelude.{ℤ, pos, negsuc, nat_abs, bit_xor}
use Rattle.std.specs.declared.cmp.Ordering.{Ordering}
use Rattle.std.specs.declared.cmp.Ordering.TheVariants.{Less, Equal, Greater}
use Rattle.std.specs.Ordering.{nat_cmp, int_cmp, ordering_then}
use Rattle.std.proofs.lemmas.Bool.{cases_lt, cases_order}
use Rattle.std.proofs.lemmas.Bool.Decides.{nat_tests}
use Rattle.std.proofs.lemmas.List.{take-append-drop, length-take-le}
use Rattle.std.proofs.lemmas.List.Elements.{All-head, All-tail, All-take, All-drop}
use Rattle.std.proofs.lemmas.Nat.{div-add-mod'}
use Rattle.byteorder.specs.Numbers.{length-bytes_high_first}
use Rattle.page_source.specs.Pages.{num, be_bytes, AreBytes}
use Rattle.column_values.specs.declared.kind.ColumnType.TheVariants as types
use Rattle.column_values.specs.declared.value.Value.TheVariants as values
use Rattle.column_values.specs.Types.{IsColumnType}
use Rattle.column_values.specs.Lengths.{group_length, fraction_length, decimal_groups}
use Rattle.column_values.specs.Moments.{fraction_unit, SpellsFraction, SpellsDateTime, SpellsTimestamp, packed_moment}
use Rattle.column_values.specs.Moments.{year_of}
use Rattle.column_values.specs.Decimals.{grouped, complemented, with_top_turned, signed_groups, SpellsDecimal}
use Rattle.column_values.specs.Order.{bytes_cmp}
use Rattle.column_values.specs.Laws.{value_cmp, OrdersValues}
use Rattle.column_values.proofs.Bytes.{cmp-less, cmp-equal, cmp-greater, cmp-digits, worth, num-worth, num-take}
use Rattle.column_values.proofs.Bytes.{worth_orders, worth-be_bytes, are_be_bytes}
use Rattle.column_values.proofs.Spellings.{some_unit}
use Rattle.column_values.proofs.Groups.{Few, few_groups, some_power, first_digits, last_digits, group_fits, power_parts}
use Rattle.column_values.proofs.Groups.{are_grouped, length-grouped, sum-groups}
use Rattle.column_values.proofs.DecimalValues.{turned_back, signed_low, signed_high, are_signed, length-signed}
use Rattle.column_values.proofs.DecimalValues.{decimal_size, top_twice, turned_low, turned_high}

then_assoc : (a b c : Ordering) → ordering_then (ordering_then a b) c ≡ ordering_then a (ordering_then b c)
then_assoc Less b c = refl
then_assoc Equal b c = refl
then_assoc Greater b c = refl

then_none : (a : Ordering) → ordering_then a Equal ≡ a
then_none Less = refl
then_none Equal = refl
then_none Greater = refl

-- two lists that begin with parts of one length
pub cmp-append : (a b c d : List ℕ) → length a ≡ length c → bytes_cmp (a ++ b) (c ++ d) ≡ ordering_then (bytes_cmp a c)
    (bytes_cmp b d)
cmp-append [] b [] d size = refl
cmp-append [] b (y ∷ c) d size = absurd (omega arith)
cmp-append (x ∷ a) b [] d size = absurd (omega arith)
cmp-append (x ∷ a) b (y ∷ c) d size =
    ap (ordering_then (nat_cmp x y)) (cmp-append a b c d (omega arith))
    ∙ sym (then_assoc (nat_cmp x y) (bytes_cmp a c) (bytes_cmp b d))

-- the same added to both, and the same factor
cmp-shift : (k a b : ℕ) → nat_cmp (k + a) (k + b) ≡ nat_cmp a b
cmp-shift k a b =
    elim (cases_order a b) [
      | inl same ↦ cmp-equal (k + a) (k + b) (omega arith) ∙ sym (cmp-equal a b same)
      | inr rest ↦ elim rest [
        | inl less ↦ cmp-less (k + a) (k + b) (omega arith) ∙ sym (cmp-less a b less)
        | inr more ↦ cmp-greater (k + a) (k + b) (omega arith) ∙ sym (cmp-greater a b more)
      ]
    ]

cmp-times : (u a b : ℕ) → 1 ≤ u → nat_cmp (a * u) (b * u) ≡ nat_cmp a b
cmp-times u a b some =
    let first : a * u ≡ a * u + 0 = omega arith in
    let second : b * u ≡ b * u + 0 = omega arith in
    let low : 0 < u = omega arith in
    (λ i. nat_cmp (first i) (second i)) ∙ cmp-digits a b u 0 0 low low
    ∙ ap (ordering_then (nat_cmp a b)) (cmp-equal 0 0 refl) ∙ then_none (nat_cmp a b)

-- bytes order as the numbers in front, and then as what stands behind these
by_front : (w : ℕ) (a b : List ℕ) → w ≤ length a → w ≤ length b → AreBytes a → AreBytes b
    → bytes_cmp a b ≡ ordering_then (nat_cmp (num a 0 w) (num b 0 w)) (bytes_cmp (drop w a) (drop w b))
by_front w a b long_a long_b are_a are_b =
    let size_a = length-take-le w a long_a in
    let size_b = length-take-le w b long_b in
    let number_a : worth (take w a) ≡ num a 0 w = sym (num-worth w (take w a) size_a) ∙ num-take w a in
    let number_b : worth (take w b) ≡ num b 0 w = sym (num-worth w (take w b) size_b) ∙ num-take w b in
    let fronts : bytes_cmp (take w a) (take w b) ≡ nat_cmp (num a 0 w) (num b 0 w) =
    worth_orders (take w a) (take w b) (size_a ∙ sym size_b) (All-take (λ (x : ℕ). x < 256) w a are_a)
    (All-take (λ (x : ℕ). x < 256) w b are_b) ∙ (λ i. nat_cmp (number_a i) (number_b i)) in
    (λ i. bytes_cmp (sym (take-append-drop w a) i) (sym (take-append-drop w b) i))
    ∙ cmp-append (take w a) (drop w a) (take w b) (drop w b) (size_a ∙ sym size_b)
    ∙ ap (λ (o : Ordering). ordering_then o (bytes_cmp (drop w a) (drop w b))) fronts

pub whole_number : (w : ℕ) (a b : List ℕ) → length a ≡ w → length b ≡ w → AreBytes a → AreBytes b
    → bytes_cmp a b ≡ nat_cmp (num a 0 w) (num b 0 w)
whole_number w a b size_a size_b are_a are_b =
    worth_orders a b (size_a ∙ sym size_b) are_a are_b
    ∙ (λ i. nat_cmp (sym (num-worth w a size_a) i) (sym (num-worth w b size_b) i))

fraction_orders : (f u v : ℕ) (a b : List ℕ) → AreBytes a → AreBytes b → SpellsFraction f u a → SpellsFraction f v b
    → bytes_cmp a b ≡ nat_cmp u v
fraction_orders f u v a b are_a are_b first second =
    whole_number (fraction_length f) a b first.size second.size are_a are_b
    ∙ sym (cmp-times (fraction_unit f) (num a 0 (fraction_length f)) (num b 0 (fraction_length f)) (some_unit f))
    ∙ (λ i. nat_cmp (sym first.units i) (sym second.units i))

timestamp_orders : (f s1 u1 s2 u2 : ℕ) (a b : List ℕ) → AreBytes a → AreBytes b → SpellsTimestamp f s1 u1 a
    → SpellsTimestamp f s2 u2 b
    → bytes_cmp a b ≡ ordering_then (nat_cmp s1 s2) (ordering_then (nat_cmp u1 u2) Equal)
timestamp_orders f s1 u1 s2 u2 a b are_a are_b first second =
    by_front 4 a b (omega (arith, first.size)) (omega (arith, second.size)) are_a are_b
    ∙ (λ i. ordering_then (nat_cmp (first.counted i) (second.counted i))
    (fraction_orders f u1 u2 (drop 4 a) (drop 4 b) (All-drop (λ (x : ℕ). x < 256) 4 a are_a)
    (All-drop (λ (x : ℕ). x < 256) 4 b are_b) first.fraction second.fraction i))
    ∙ ap (ordering_then (nat_cmp s1 s2)) (sym (then_none (nat_cmp u1 u2)))

-- a moment's parts from the greatest down
packed_orders : (y1 mo1 d1 h1 mi1 s1 y2 mo2 d2 h2 mi2 s2 : ℕ) → mo1 ≤ 12 → d1 ≤ 31 → h1 ≤ 23 → mi1 ≤ 59 → s1 ≤ 59
    → mo2 ≤ 12 → d2 ≤ 31 → h2 ≤ 23 → mi2 ≤ 59 → s2 ≤ 59
    → nat_cmp (packed_moment y1 mo1 d1 h1 mi1 s1) (packed_moment y2 mo2 d2 h2 mi2 s2)
    ≡ ordering_then (ordering_then (ordering_then (nat_cmp y1 y2) (nat_cmp mo1 mo2)) (nat_cmp d1 d2))
    (ordering_then (ordering_then (nat_cmp h1 h2) (nat_cmp mi1 mi2)) (nat_cmp s1 s2))
packed_orders y1 mo1 d1 h1 mi1 s1 y2 mo2 d2 h2 mi2 s2 a1 a2 a3 a4 a5 b1 b2 b3 b4 b5 =
    let t1 : h1 * 4096 + mi1 * 64 + s1 ≡ (h1 * 64 + mi1) * 64 + s1 = omega arith in
    let t2 : h2 * 4096 + mi2 * 64 + s2 ≡ (h2 * 64 + mi2) * 64 + s2 = omega arith in
    let time : nat_cmp (h1 * 4096 + mi1 * 64 + s1) (h2 * 4096 + mi2 * 64 + s2) ≡ ordering_then
    (ordering_then (nat_cmp h1 h2) (nat_cmp mi1 mi2)) (nat_cmp s1 s2) =
    (λ i. nat_cmp (t1 i) (t2 i)) ∙ cmp-digits (h1 * 64 + mi1) (h2 * 64 + mi2) 64 s1 s2 (omega arith) (omega arith)
    ∙ ap (λ (o : Ordering). ordering_then o (nat_cmp s1 s2))
    (cmp-digits h1 h2 64 mi1 mi2 (omega arith) (omega arith)) in
    let days : nat_cmp ((y1 * 13 + mo1) * 32 + d1) ((y2 * 13 + mo2) * 32 + d2) ≡ ordering_then
    (ordering_then (nat_cmp y1 y2) (nat_cmp mo1 mo2)) (nat_cmp d1 d2) =
    cmp-digits (y1 * 13 + mo1) (y2 * 13 + mo2) 32 d1 d2 (omega arith) (omega arith)
    ∙ ap (λ (o : Ordering). ordering_then o (nat_cmp d1 d2))
    (cmp-digits y1 y2 13 mo1 mo2 (omega arith) (omega arith)) in
    cmp-digits ((y1 * 13 + mo1) * 32 + d1) ((y2 * 13 + mo2) * 32 + d2) 131072 (h1 * 4096 + mi1 * 64 + s1)
    (h2 * 4096 + mi2 * 64 + s2) (omega arith) (omega arith)
    ∙ (λ i. ordering_then (days i) (time i))

seven : (a b c d e f g : Ordering) → ordering_then (ordering_then (ordering_then (ordering_then a b) c)
    (ordering_then (ordering_then d e) f)) g
    ≡ ordering_then a (ordering_then b (ordering_then c
    (ordering_then d (ordering_then e (ordering_then f (ordering_then g Equal))))))
seven Less b c d e f g = refl
seven Greater b c d e f g = refl
seven Equal Less c d e f g = refl
seven Equal Greater c d e f g = refl
seven Equal Equal Less d e f g = refl
seven Equal Equal Greater d e f g = refl
seven Equal Equal Equal Less e f g = refl
seven Equal Equal Equal Greater e f g = refl
seven Equal Equal Equal Equal Less f g = refl
seven Equal Equal Equal Equal Greater f g = refl
seven Equal Equal Equal Equal Equal f g = ap (ordering_then f) (sym (then_none g))

moment_orders : (f y1 mo1 d1 h1 mi1 s1 u1 y2 mo2 d2 h2 mi2 s2 u2 : ℕ) (a b : List ℕ) → AreBytes a → AreBytes b
    → SpellsDateTime f y1 mo1 d1 h1 mi1 s1 u1 a → SpellsDateTime f y2 mo2 d2 h2 mi2 s2 u2 b
    → bytes_cmp a b ≡ value_cmp (values.DateTime y1 mo1 d1 h1 mi1 s1 u1) (values.DateTime y2 mo2 d2 h2 mi2 s2 u2)
moment_orders f y1 mo1 d1 h1 mi1 s1 u1 y2 mo2 d2 h2 mi2 s2 u2 a b are_a are_b first second =
    let am = first.is_moment in
    let bm = second.is_moment in
    by_front 5 a b (omega (arith, first.size)) (omega (arith, second.size)) are_a are_b
    ∙ (λ i. ordering_then (nat_cmp (first.packed i) (second.packed i))
    (fraction_orders f u1 u2 (drop 5 a) (drop 5 b) (All-drop (λ (x : ℕ). x < 256) 5 a are_a)
    (All-drop (λ (x : ℕ). x < 256) 5 b are_b) first.fraction second.fraction i))
    ∙ ap (λ (o : Ordering). ordering_then o (nat_cmp u1 u2))
    (cmp-shift (2 ^ 39) (packed_moment y1 mo1 d1 h1 mi1 s1) (packed_moment y2 mo2 d2 h2 mi2 s2)
    ∙ packed_orders y1 mo1 d1 h1 mi1 s1 y2 mo2 d2 h2 mi2 s2 am.greatest_month am.greatest_day am.greatest_hour
    am.greatest_minute am.greatest_second
    bm.greatest_month bm.greatest_day bm.greatest_hour bm.greatest_minute bm.greatest_second)
    ∙ seven (nat_cmp y1 y2) (nat_cmp mo1 mo2) (nat_cmp d1 d2) (nat_cmp h1 h2) (nat_cmp mi1 mi2) (nat_cmp s1 s2)
    (nat_cmp u1 u2)

-- the year of a byte grows with it
year_zero : (byte : ℕ) → byte ≡ 0 → year_of byte ≡ 0
year_zero byte is = let t : eqb byte 0 ≡ true = grind (arith, nat_tests) in rw t refl

year_more : (byte : ℕ) → 0 < byte → year_of byte ≡ 1900 + byte
year_more byte some = let t : eqb byte 0 ≡ false = grind (arith, nat_tests) in rw t refl

year_grows : (x y : ℕ) → x < y → year_of x < year_of y
year_grows x y less =
    elim (cases_lt 0 x) [
      | inl some ↦ omega (arith, year_more x some, year_more y (omega arith))
      | inr none ↦ omega (arith, year_zero x (omega arith), year_more y (omega arith))
    ]

year_orders : (x y : ℕ) → nat_cmp x y ≡ nat_cmp (year_of x) (year_of y)
year_orders x y =
    elim (cases_order x y) [
      | inl same ↦ cmp-equal x y same ∙ sym (cmp-equal (year_of x) (year_of y) (ap year_of same))
      | inr rest ↦ elim rest [
        | inl less ↦ cmp-less x y less ∙ sym (cmp-less (year_of x) (year_of y) (year_grows x y less))
        | inr more ↦ cmp-greater x y more ∙ sym (cmp-greater (year_of x) (year_of y) (year_grows y x more))
      ]
    ]

-- groups of digits order as their number does
grouped_orders : (groups : List ℕ) (m n : ℕ) → Few groups → m < 10 ^ sum groups → n < 10 ^ sum groups
    → bytes_cmp (grouped groups m) (grouped groups n) ≡ nat_cmp m n
grouped_orders [] m n few m_low n_low = sym (cmp-equal m n (omega arith))
grouped_orders (d ∷ groups) m n few m_low n_low =
    let p : ℕ = 10 ^ sum groups in
    let w : ℕ = group_length d in
    let some : 1 ≤ p = some_power (sum groups) in
    let few_d : d ≤ 9 = All-head (λ (x : ℕ). x ≤ 9) d groups few in
    let m_first : m / p < 256 ^ w = omega (
      arith,
      group_fits d few_d,
      first_digits d m p some (power_parts d groups m m_low),
    ) in
    let n_first : n / p < 256 ^ w = omega (
      arith,
      group_fits d few_d,
      first_digits d n p some (power_parts d groups n n_low),
    ) in
    let sizes : length (be_bytes w (m / p)) ≡ length (be_bytes w (n / p)) = length-bytes_high_first w (m / p)
    ∙ sym (length-bytes_high_first w (n / p)) in
    let fronts : bytes_cmp (be_bytes w (m / p)) (be_bytes w (n / p)) ≡ nat_cmp (m / p) (n / p) =
    worth_orders (be_bytes w (m / p)) (be_bytes w (n / p)) sizes (are_be_bytes w (m / p)) (are_be_bytes w (n / p))
    ∙ (λ i. nat_cmp (worth-be_bytes w (m / p) m_first i) (worth-be_bytes w (n / p) n_first i)) in
    let rests = grouped_orders groups (m % p) (n % p) (All-tail (λ (x : ℕ). x ≤ 9) d groups few)
    (last_digits m p some) (last_digits n p some) in
    cmp-append (be_bytes w (m / p)) (grouped groups (m % p)) (be_bytes w (n / p)) (grouped groups (n % p)) sizes
    ∙ (λ i. ordering_then (fronts i) (rests i))
    ∙ sym (cmp-digits (m / p) (n / p) p (m % p) (n % p) (last_digits m p some) (last_digits n p some))
    ∙ (λ i. nat_cmp (div-add-mod' m p i) (div-add-mod' n p i))

-- complemented bytes order the other way round
cmp-complement : (x y : ℕ) → x < 256 → y < 256 → nat_cmp (255 - x) (255 - y) ≡ nat_cmp y x
cmp-complement x y x_low y_low =
    elim (cases_order x y) [
      | inl same ↦ cmp-equal (255 - x) (255 - y) (omega arith) ∙ sym (cmp-equal y x (omega arith))
      | inr rest ↦ elim rest [
        | inl less ↦ cmp-greater (255 - x) (255 - y) (omega arith) ∙ sym (cmp-greater y x less)
        | inr more ↦ cmp-less (255 - x) (255 - y) (omega arith) ∙ sym (cmp-less y x more)
      ]
    ]

complement_orders : (a b : List ℕ) → length a ≡ length b → AreBytes a → AreBytes b
    → bytes_cmp (complemented a) (complemented b) ≡ bytes_cmp b a
complement_orders [] [] size are_a are_b = refl
complement_orders [] (y ∷ b) size are_a are_b = absurd (omega arith)
complement_orders (x ∷ a) [] size are_a are_b = absurd (omega arith)
complement_orders (x ∷ a) (y ∷ b) size are_a are_b =
    let heads = cmp-complement x y (All-head (λ (n : ℕ). n < 256) x a are_a)
    (All-head (λ (n : ℕ). n < 256) y b are_b) in
    let tails = complement_orders a b (omega arith) (All-tail (λ (n : ℕ). n < 256) x a are_a)
    (All-tail (λ (n : ℕ). n < 256) y b are_b) in
    λ i. ordering_then (heads i) (tails i)

-- the top bit of the first byte, turned in both
cmp-turned_low : (x y : ℕ) → x < 128 → y < 128 → nat_cmp (bit_xor x 128) (bit_xor y 128) ≡ nat_cmp x y
cmp-turned_low x y x_low y_low = (λ i. nat_cmp (turned_low x x_low i) (turned_low y y_low i)) ∙ cmp-shift 128 x y

cmp-turned_high : (x y : ℕ) → 128 ≤ x → x < 256 → 128 ≤ y → y < 256
    → nat_cmp (bit_xor x 128) (bit_xor y 128) ≡ nat_cmp x y
cmp-turned_high x y x_high x_low y_high y_low =
    let first : 128 + (x - 128) ≡ x = omega arith in
    let second : 128 + (y - 128) ≡ y = omega arith in
    (λ i. nat_cmp (turned_high x x_high x_low i) (turned_high y y_high y_low i))
    ∙ sym (cmp-shift 128 (x - 128) (y - 128)) ∙ (λ i. nat_cmp (first i) (second i))

top_low_orders : (a b : List ℕ) → slice_index a 0 < 128 → slice_index b 0 < 128
    → bytes_cmp (with_top_turned a) (with_top_turned b) ≡ bytes_cmp a b
top_low_orders [] [] a_low b_low = refl
top_low_orders [] (y ∷ b) a_low b_low = refl
top_low_orders (x ∷ a) [] a_low b_low = refl
top_low_orders (x ∷ a) (y ∷ b) a_low b_low = ap (λ (o : Ordering). ordering_then o (bytes_cmp a b))
    (cmp-turned_low x y a_low b_low)

top_high_orders : (a b : List ℕ) → AreBytes a → AreBytes b → 128 ≤ slice_index a 0 → 128 ≤ slice_index b 0
    → bytes_cmp (with_top_turned a) (with_top_turned b) ≡ bytes_cmp a b
top_high_orders [] b are_a are_b a_high b_high = absurd (omega arith)
top_high_orders (x ∷ a) [] are_a are_b a_high b_high = absurd (omega arith)
top_high_orders (x ∷ a) (y ∷ b) are_a are_b a_high b_high =
    ap (λ (o : Ordering). ordering_then o (bytes_cmp a b))
    (cmp-turned_high x y a_high (All-head (λ (n : ℕ). n < 256) x a are_a) b_high
    (All-head (λ (n : ℕ). n < 256) y b are_b))

-- a clear top bit is the greater one once it is turned
top_mixed : (a b : List ℕ) → AreBytes b → 1 ≤ length a → slice_index a 0 < 128 → 128 ≤ slice_index b 0
    → (bytes_cmp (with_top_turned a) (with_top_turned b) ≡ Greater) ×
    (bytes_cmp (with_top_turned b) (with_top_turned a) ≡ Less)
top_mixed [] b are_b some a_low b_high = absurd (omega arith)
top_mixed (x ∷ a) [] are_b some a_low b_high = absurd (omega arith)
top_mixed (x ∷ a) (y ∷ b) are_b some a_low b_high =
    let first = turned_low x a_low in
    let second = turned_high y b_high (All-head (λ (n : ℕ). n < 256) y b are_b) in
    let y_low : y < 256 = All-head (λ (n : ℕ). n < 256) y b are_b in (
      ap (λ (o : Ordering). ordering_then o (bytes_cmp a b))
          (cmp-greater (bit_xor x 128) (bit_xor y 128) (omega arith)),
      ap (λ (o : Ordering). ordering_then o (bytes_cmp b a)) (cmp-less (bit_xor y 128) (bit_xor x 128) (omega arith)),
    )

positive_cmp : (m n : ℕ) → int_cmp (pos m) (pos n) ≡ nat_cmp m n
positive_cmp m n = grind (arith, nat_tests)

negative_cmp : (m n : ℕ) → int_cmp (negsuc m) (negsuc n) ≡ nat_cmp (suc n) (suc m)
negative_cmp m n = grind (arith, nat_tests)

module _ (p s : ℕ) (known : IsColumnType (types.Decimal p s)) where
  below : (n : ℕ) → n < 10 ^ p → n < 10 ^ sum (decimal_groups p s)
  below n low = subst (λ (k : ℕ). n < 10 ^ k) (sym (sum-groups p s (omega (arith, known)))) low

  signed_orders : (y z : ℤ) → nat_abs y < 10 ^ p → nat_abs z < 10 ^ p
      → bytes_cmp (with_top_turned (signed_groups (decimal_groups p s) y))
      (with_top_turned (signed_groups (decimal_groups p s) z)) ≡ int_cmp y z
  signed_orders (pos m) (pos n) m_low n_low =
      top_low_orders (grouped (decimal_groups p s) m) (grouped (decimal_groups p s) n) (signed_low p s known m m_low)
      (signed_low p s known n n_low)
      ∙ grouped_orders (decimal_groups p s) m n (few_groups p s) (below m m_low) (below n n_low)
      ∙ sym (positive_cmp m n)
  signed_orders (negsuc m) (negsuc n) m_low n_low =
      top_high_orders (signed_groups (decimal_groups p s) (negsuc m)) (signed_groups (decimal_groups p s) (negsuc n))
      (are_signed p s known (negsuc m)) (are_signed p s known (negsuc n))
      (signed_high p s known m m_low) (signed_high p s known n n_low)
      ∙ complement_orders (grouped (decimal_groups p s) (suc m)) (grouped (decimal_groups p s) (suc n))
      (length-grouped (decimal_groups p s) (suc m) ∙ sym (length-grouped (decimal_groups p s) (suc n)))
      (are_grouped (decimal_groups p s) (suc m)) (are_grouped (decimal_groups p s) (suc n))
      ∙ grouped_orders (decimal_groups p s) (suc n) (suc m) (few_groups p s) (below (suc n) n_low)
      (below (suc m) m_low) ∙ sym (negative_cmp m n)
  signed_orders (pos m) (negsuc n) m_low n_low =
      (top_mixed (signed_groups (decimal_groups p s) (pos m)) (signed_groups (decimal_groups p s) (negsuc n))
      (are_signed p s known (negsuc n))
      (omega (arith, length-signed p s known (pos m), (decimal_size p s known).0)) (signed_low p s known m m_low)
      (signed_high p s known n n_low)).0
  signed_orders (negsuc m) (pos n) m_low n_low =
      (top_mixed (signed_groups (decimal_groups p s) (pos n)) (signed_groups (decimal_groups p s) (negsuc m))
      (are_signed p s known (negsuc m))
      (omega (arith, length-signed p s known (pos n), (decimal_size p s known).0)) (signed_low p s known n n_low)
      (signed_high p s known m m_low)).1

  decimal_orders : (y z : ℤ) (a b : List ℕ) → AreBytes a → AreBytes b → SpellsDecimal p s y a → SpellsDecimal p s z b
      → bytes_cmp a b ≡ int_cmp y z
  decimal_orders y z a b are_a are_b first second =
      let a_is : a ≡ with_top_turned (signed_groups (decimal_groups p s) y) = sym (top_twice a are_a)
      ∙ ap with_top_turned (turned_back p s known y a first) in
      let b_is : b ≡ with_top_turned (signed_groups (decimal_groups p s) z) = sym (top_twice b are_b)
      ∙ ap with_top_turned (turned_back p s known z b second) in
      (λ i. bytes_cmp (a_is i) (b_is i)) ∙ signed_orders y z first.few second.few

pub orders_values : OrdersValues
orders_values (types.DateTime f) (values.DateTime y1 mo1 d1 h1 mi1 s1 u1)
    (values.DateTime y2 mo2 d2 h2 mi2 s2 u2) a b known is are_a are_b first second =
    moment_orders f y1 mo1 d1 h1 mi1 s1 u1 y2 mo2 d2 h2 mi2 s2 u2 a b are_a are_b first second
orders_values (types.Timestamp f) (values.Timestamp s1 u1)
    (values.Timestamp s2 u2) a b known is are_a are_b first second =
    timestamp_orders f s1 u1 s2 u2 a b are_a are_b first second
orders_values types.Year (values.Year y) (values.Year z) a b known is are_a are_b first second =
    whole_number 1 a b first.size second.size are_a are_b ∙ year_orders (num a 0 1) (num b 0 1)
    ∙ (λ i. nat_cmp (sym first.counted i) (sym second.counted i))
orders_values (types.Decimal p s) (values.Decimal y) (values.Decimal z) a b known is are_a are_b first second =
    decimal_orders p s known y z a b are_a are_b first second
orders_values (types.DateTime f) (values.DateTime y1 mo1 d1 h1 mi1 s1 u1) _ a b known is are_a are_b first second =
    absurd second
orders_values (types.DateTime f) _ w a b known is are_a are_b first second = absurd first
orders_values (types.Timestamp f) (values.Timestamp s1 u1) _ a b known is are_a are_b first second = absurd second
orders_values (types.Timestamp f) _ w a b known is are_a are_b first second = absurd first
orders_values types.Year (values.Year y) _ a b known is are_a are_b first second = absurd second
orders_values types.Year _ w a b known is are_a are_b first second = absurd first
orders_values (types.Decimal p s) (values.Decimal y) _ a b known is are_a are_b first second = absurd second
orders_values (types.Decimal p s) _ w a b known is are_a are_b first second = absurd first
orders_values _ v w a b known is are_a are_b first second = absurd is
