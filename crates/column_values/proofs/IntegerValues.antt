-- Which values the bytes of integers spell.
use Rattle.std.proofs.Common.{◌≡◌, ℕ, ◌-◌, ◌*◌, ◌^◌, ◌<◌, ◌≤◌, Bool, true, false, Some, length, drop, List, [], ◌++◌}
use Rattle.std.proofs.Common.{refl, sym, ap, ◌∙◌, subst, arith}
use Rattle.std.specs.Prelude.{ℤ, pos, ◌-ℤ◌, ◌+ℤ◌, nat_abs}
use Rattle.std.proofs.lemmas.Int.{ints}
use Rattle.std.proofs.lemmas.List.{append-nil, drop_all}
use Rattle.byteorder.specs.Numbers.{length-bytes_high_first}
use Rattle.page_source.specs.Pages.{num, be_bytes, AreBytes}
use Rattle.column_values.specs.declared.kind.ColumnType.TheVariants as types
use Rattle.column_values.specs.declared.value.Value.{Value}
use Rattle.column_values.specs.declared.value.Value.TheVariants as values
use Rattle.column_values.specs.Spell.{int_of, int_bytes, IsInRange, IsNumberOf, IsValueOf, IsSpelled, IsSpelling, Spell}
use Rattle.column_values.proofs.Bytes.{worth, num-worth, worth-lt, are_be_bytes, num-be_bytes}
use Rattle.column_values.proofs.Numbers.{signed_range, whole_is_twice}

-- the number of bytes is below their size
pub num-below : (w : ℕ) (bytes : List ℕ) → length bytes ≡ w → AreBytes bytes → num bytes 0 w < 256 ^ w
num-below w bytes size are = rw (num-worth w bytes size)
    (subst (λ (n : ℕ). worth bytes < 256 ^ n) size (worth-lt bytes are))

-- a written number is read
pub num-written : (w n : ℕ) → n < 256 ^ w → num (be_bytes w n) 0 w ≡ n
num-written w n fits = ap (λ (x : List ℕ). num x 0 w) (sym (append-nil (be_bytes w n))) ∙ num-be_bytes w n _ fits

pub integer_in_range : (w : ℕ) (signed : Bool) (value : Value) (z : ℤ) → 1 ≤ w → IsNumberOf signed value (Some z)
    → IsValueOf (types.Int w signed) value → IsInRange signed w z
integer_in_range w true (values.Signed y) z some is (bytes, are, spell) =
    let e : z ≡ pos (num bytes 0 w) -ℤ pos (2 ^ (8 * w - 1)) = cc (spell.1, is) in
    rw e (signed_range w (num bytes 0 w) some (num-below w bytes spell.0 are))
integer_in_range w false (values.Unsigned n) z some is (bytes, are, spell) =
    let e : z ≡ pos n = cc is in
    let fits = num-below w bytes spell.0 are in
    rw e (omega (arith, ints), omega (arith, ints, spell.1))
integer_in_range w true _ z some is (bytes, are, spell) = absurd spell
integer_in_range w false _ z some is (bytes, are, spell) = absurd spell

pub integer_spelled : (w : ℕ) (signed : Bool) (value : Value) (z : ℤ) (bytes : List ℕ)
    → IsNumberOf signed value (Some z)
    → int_of signed w bytes ≡ z → bytes ≡ int_bytes signed w z → IsSpelled (types.Int w signed) value bytes
integer_spelled w true (values.Signed y) z bytes is read wrote =
    let e : y ≡ z = cc is in
    let n : ℕ = nat_abs (z +ℤ pos (2 ^ (8 * w - 1))) in
    rw e (record {
      are_bytes = rw wrote (are_be_bytes w n);
      spell =
          (rw wrote (length-bytes_high_first w n), sym read);
      same = wrote;
    })
integer_spelled w false (values.Unsigned n) z bytes is read wrote =
    let e : z ≡ pos n = cc is in
    let same : bytes ≡ be_bytes w n = rw e at wrote in
    let number : pos (num bytes 0 w) ≡ pos n = read ∙ e in
    record {
      are_bytes = rw same (are_be_bytes w n);
      spell =
          (rw same (length-bytes_high_first w n), cc number);
      same = same;
    }
integer_spelled w true _ z bytes is read wrote = cc is
integer_spelled w false _ z bytes is read wrote = cc is

-- what is read of the bytes that are written
pub signed_written : (w : ℕ) (z : ℤ) → 1 ≤ w → IsInRange true w z → int_of true w (int_bytes true w z) ≡ z
signed_written w z some range =
    let n : ℕ = nat_abs (z +ℤ pos (2 ^ (8 * w - 1))) in
    let twice = whole_is_twice w some in
    let fits : n < 256 ^ w = omega (arith, ints, range.0, range.1) in
    let e = num-written w n fits in
    rw e (omega (arith, ints, range.0))

pub unsigned_written : (w : ℕ) (z : ℤ) → IsInRange false w z → int_of false w (int_bytes false w z) ≡ z
unsigned_written w z range =
    let fits : nat_abs z < 256 ^ w = omega (arith, ints, range.0, range.1) in
    let e = num-written w (nat_abs z) fits in
    rw e (omega (arith, ints, range.0))

-- a write that fills the whole room
pub whole_write : (w n m : ℕ) (new old : List ℕ) → length old ≡ w → new ≡ be_bytes w n ++ drop w old → n ≡ m
    → new ≡ be_bytes w m
whole_write w n m new old size wrote same =
    let none : drop w old ≡ [] = drop_all w old (omega arith) in
    rw (wrote, none, same) (append-nil (be_bytes w m))

-- a number that was added to an empty list
pub alone : (w n m : ℕ) (new old : List ℕ) → old ≡ [] → new ≡ old ++ be_bytes w n → n ≡ m → new ≡ be_bytes w m
alone w n m new old empty wrote same = rw (wrote, empty, same) refl

-- any bytes of the width spell an integer, and only these do
pub spelling_of_size : (w : ℕ) (signed : Bool) (bytes : List ℕ) → length bytes ≡ w
    → IsSpelling (types.Int w signed) bytes
spelling_of_size w true bytes size = (values.Signed (int_of true w bytes), (size, refl))
spelling_of_size w false bytes size = (values.Unsigned (num bytes 0 w), (size, refl))

pub size_of_spelling : (w : ℕ) (signed : Bool) (value : Value) (bytes : List ℕ)
    → Spell (types.Int w signed) value bytes → length bytes ≡ w
size_of_spelling w true (values.Signed z) bytes spell = spell.0
size_of_spelling w false (values.Unsigned n) bytes spell = spell.0
size_of_spelling w true _ bytes spell = absurd spell
size_of_spelling w false _ bytes spell = absurd spell
