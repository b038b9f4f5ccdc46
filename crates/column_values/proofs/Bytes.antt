-- Big-endian numbers and their bytes, both ways, and their order.
use Rattle.std.proofs.Common.{◌≡◌, ℕ, zero, suc, ◌+◌, ◌*◌, ◌^◌, ◌<◌, ◌≤◌, List, [], ◌∷◌, ◌++◌, length, take}
use Rattle.std.proofs.Common.{slice_index, refl, sym, ap, ◌∙◌, inl, inr, arith}
use Rattle.std.proofs.lemmas.Bool.{cases_order}
use Rattle.std.proofs.lemmas.Bool.Decides.{nat_tests}
use Rattle.std.proofs.lemmas.List.Elements.{All-nil, All-cons, All-head, All-tail, All-take, All-from_get_or}
use Rattle.std.proofs.lemmas.List.{append-nil, length-take-le}
use Rattle.std.proofs.lemmas.Map.Lookups.{exact_bytes}
use Rattle.std.proofs.Math.Nat.{mul-le-mul_left, pow-suc}
use Rattle.std.specs.declared.cmp.Ordering.TheVariants.{Less, Equal, Greater}
use Rattle.std.specs.Ordering.{nat_cmp, ordering_then}
use Rattle.std.specs.Int.{byte_at}
use Rattle.byteorder.specs.Endian.{big_from}
use Rattle.byteorder.specs.Numbers.{big_from-cons, big_from-take, big_number-reads_back, length-bytes_high_first}
use Rattle.page_source.specs.Pages.{num, be_bytes, AreBytes}
use Rattle.page_source.proofs.Numbers.{num-is_big}
use Rattle.column_values.specs.Order.{bytes_cmp}

-- what a comparison of numbers answers
pub cmp-less : (x y : ℕ) → x < y → nat_cmp x y ≡ Less
cmp-less x y h = grind (arith, nat_tests)

pub cmp-equal : (x y : ℕ) → x ≡ y → nat_cmp x y ≡ Equal
cmp-equal x y h = grind (arith, nat_tests)

pub cmp-greater : (x y : ℕ) → y < x → nat_cmp x y ≡ Greater
cmp-greater x y h = grind (arith, nat_tests)

row_less : (x y k a b : ℕ) → x < y → a < k → x * k + a < y * k + b
row_less x y k a b h low = let whole : k * suc x ≤ k * y = mul-le-mul_left k h in omega (arith, whole)

same_row : (x y k a b : ℕ) → x ≡ y → nat_cmp (x * k + a) (y * k + b) ≡ nat_cmp a b
same_row x y k a b h =
    let rows : x * k ≡ y * k = ap (λ (n : ℕ). n * k) h in
    elim (cases_order a b) [
      | inl same ↦ cmp-equal (x * k + a) (y * k + b) (omega arith) ∙ sym (cmp-equal a b same)
      | inr rest ↦ elim rest [
        | inl less ↦ cmp-less (x * k + a) (y * k + b) (omega arith) ∙ sym (cmp-less a b less)
        | inr more ↦ cmp-greater (x * k + a) (y * k + b) (omega arith) ∙ sym (cmp-greater a b more)
      ]
    ]

-- two numbers of two digits each, in any base
pub cmp-digits : (x y k a b : ℕ) → a < k → b < k → nat_cmp (x * k + a) (y * k + b) ≡ ordering_then (nat_cmp x y)
    (nat_cmp a b)
cmp-digits x y k a b h g =
    elim (cases_order x y) [
      | inl same ↦ rw (cmp-equal x y same) (same_row x y k a b same)
      | inr rest ↦ elim rest [
        | inl less ↦ rw (cmp-less x y less) (cmp-less (x * k + a) (y * k + b) (row_less x y k a b less h))
        | inr more ↦ rw (cmp-greater x y more) (cmp-greater (x * k + a) (y * k + b) (row_less y x k b a more g))
      ]
    ]

-- the number of a list of bytes, the highest first
abbrev pub worth : List ℕ → ℕ
worth [] = 0
worth (x ∷ xs) = x * 256 ^ length xs + worth xs

worth_from : (xs : List ℕ) → big_from 0 (length xs) xs ≡ worth xs
worth_from [] = refl
worth_from (x ∷ xs) = let rest = worth_from xs in let next = big_from-cons 0 (length xs) x xs in
    omega (arith, rest, next)

pub num-worth : (w : ℕ) (xs : List ℕ) → length xs ≡ w → num xs 0 w ≡ worth xs
num-worth w xs size = num-is_big xs 0 w ∙ rw (← size) (worth_from xs)

pub worth-lt : (xs : List ℕ) → AreBytes xs → worth xs < 256 ^ length xs
worth-lt [] bytes = omega arith
worth-lt (x ∷ xs) bytes =
    let first : x < 256 = All-head (λ (b : ℕ). b < 256) x xs bytes in
    let rest = worth-lt xs (All-tail (λ (b : ℕ). b < 256) x xs bytes) in
    let whole : 256 ^ length xs * suc x ≤ 256 ^ length xs * 256 = mul-le-mul_left (256 ^ length xs) first in
    rw (pow-suc 256 (length xs)) (omega (arith, whole, rest))

-- lists of bytes of one length order as their numbers do
pub worth_orders : (xs ys : List ℕ) → length xs ≡ length ys → AreBytes xs → AreBytes ys
    → bytes_cmp xs ys ≡ nat_cmp (worth xs) (worth ys)
worth_orders [] [] size first second = refl
worth_orders [] (y ∷ ys) size first second = absurd (omega arith)
worth_orders (x ∷ xs) [] size first second = absurd (omega arith)
worth_orders (x ∷ xs) (y ∷ ys) size first second =
    let long : length xs ≡ length ys = omega arith in
    let xs_bytes : AreBytes xs = All-tail (λ (b : ℕ). b < 256) x xs first in
    let ys_bytes : AreBytes ys = All-tail (λ (b : ℕ). b < 256) y ys second in
    let rest = worth_orders xs ys long xs_bytes ys_bytes in
    let low = worth-lt xs xs_bytes in
    let high : worth ys < 256 ^ length xs = rw long (worth-lt ys ys_bytes) in
    rw (rest, ← long) (sym (cmp-digits x y (256 ^ length xs) (worth xs) (worth ys) low high))

-- and are the same where their numbers are
pub same_worth : (xs ys : List ℕ) → length xs ≡ length ys → AreBytes xs → AreBytes ys → worth xs ≡ worth ys → xs ≡ ys
same_worth xs ys size first second same =
    exact_bytes xs ys (worth_orders xs ys size first second ∙ cmp-equal (worth xs) (worth ys) same)

byte_at-lt : (i n : ℕ) → byte_at i n < 256
byte_at-lt zero n = omega arith
byte_at-lt (suc i) n = omega arith

pub are_be_bytes : (w n : ℕ) → AreBytes (be_bytes w n)
are_be_bytes zero n = All-nil (λ (b : ℕ). b < 256)
are_be_bytes (suc w) n = All-cons (λ (b : ℕ). b < 256) (byte_at w n) (be_bytes w n) (byte_at-lt w n) (are_be_bytes w n)

-- what was written is read
pub num-be_bytes : (w n : ℕ) (rest : List ℕ) → n < 256 ^ w → num (be_bytes w n ++ rest) 0 w ≡ n
num-be_bytes w n rest fits = num-is_big (be_bytes w n ++ rest) 0 w ∙ big_number-reads_back w n rest fits

pub worth-be_bytes : (w n : ℕ) → n < 256 ^ w → worth (be_bytes w n) ≡ n
worth-be_bytes w n fits =
    sym (num-worth w (be_bytes w n) (length-bytes_high_first w n))
    ∙ ap (λ (x : List ℕ). num x 0 w) (sym (append-nil (be_bytes w n))) ∙ num-be_bytes w n [] fits

-- what was read is written
pub be_bytes-num : (w : ℕ) (xs : List ℕ) → length xs ≡ w → AreBytes xs → be_bytes w (num xs 0 w) ≡ xs
be_bytes-num w xs size bytes =
    let n = num-worth w xs size in
    let fits : worth xs < 256 ^ w = rw (← size) (worth-lt xs bytes) in
    rw n (same_worth (be_bytes w (worth xs)) xs (length-bytes_high_first w (worth xs)
    ∙ sym size) (are_be_bytes w (worth xs)) bytes (worth-be_bytes w (worth xs) fits))

pub num-take : (w : ℕ) (xs : List ℕ) → num (take w xs) 0 w ≡ num xs 0 w
num-take w xs =
    let le : 0 + w ≤ w = omega arith in
    num-is_big (take w xs) 0 w ∙ big_from-take 0 w w xs le ∙ sym (num-is_big xs 0 w)

-- a front of so many bytes
pub be_bytes-front : (w : ℕ) (xs : List ℕ) → w ≤ length xs → AreBytes xs → be_bytes w (num xs 0 w) ≡ take w xs
be_bytes-front w xs long bytes =
    rw (← num-take w xs) (be_bytes-num w (take w xs) (length-take-le w xs long)
    (All-take (λ (b : ℕ). b < 256) w xs bytes))

-- the bytes of a slice are bytes
pub are_bytes : (xs : List ℕ) → ((k : ℕ) → slice_index xs k < 256) → AreBytes xs
are_bytes xs each = All-from_get_or (λ (b : ℕ). b < 256) xs 0 (λ i h. each i)
