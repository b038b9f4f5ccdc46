-- The states after bytes, by the tables.
use Rattle.std.proofs.Common.{◌≡◌, ℕ, zero, suc, ◌+◌, ◌/◌, ◌%◌, ◌^◌, ◌<◌, List, [], ◌∷◌, length, replicate, get_or, map}
use Rattle.std.proofs.Common.{fold, bit_xor, refl, sym, ◌∙◌, ap, add-one, arith}
use Rattle.std.specs.List.{range_with_len}
use Rattle.std.specs.Int.Bits.{xor_zero_l, xor_zero_r}
use Rattle.std.proofs.Math.Nat.{div-one}
use Rattle.std.proofs.lemmas.Nat.{shr-shr}
use Rattle.std.proofs.lemmas.List.FromFn.{get_or-map-range_with_len, length-map-range_with_len}
use Rattle.fil_frame.specs.declared.tables.TheConstants.{TABLE_0, TABLE_1, TABLE_2, TABLE_3, TABLE_4, TABLE_5, TABLE_6}
use Rattle.fil_frame.specs.declared.tables.TheConstants.{TABLE_7}
use Rattle.fil_frame.specs.Crc.{byte_bits, crc_step, crc_state}
use Rattle.fil_frame.specs.Sparse.{zero_bytes}
use Rattle.fil_frame.specs.Tables.{table_entry, IsTable}
use Rattle.fil_frame.proofs.CrcLemmas.{crc_state-append, state_after, state_after_more}
use Rattle.fil_frame.proofs.Linear.{xor_swap, crc_step-shift, byte-xor}

-- zero bits, after which a number that was added to the state has come in bit by bit
zero_bits : (s n k : ℕ) → state_after (bit_xor s n) (λ _. 0) k ≡ bit_xor (state_after s (λ j. n / 2 ^ j % 2) k)
    (n / 2 ^ k)
zero_bits s n zero = ap (bit_xor s) (sym (div-one n))
zero_bits s n (suc k) =
    let bit = λ (j : ℕ). n / 2 ^ j % 2 in
    let step : state_after (bit_xor s n) (λ _. 0) (k + 1) ≡ bit_xor (state_after s bit (k + 1)) (n / 2 ^ (k + 1)) =
    state_after_more (bit_xor s n) (λ _. 0) k ∙ ap (λ (r : ℕ). crc_step r 0) (zero_bits s n k)
    ∙ crc_step-shift (state_after s bit k) (n / 2 ^ k)
    ∙ ap (λ (r : ℕ). bit_xor r (n / 2 ^ k / 2)) (sym (state_after_more s bit k))
    ∙ ap (bit_xor (state_after s bit (k + 1))) (shr-shr n k 1) in
    rw (add-one k) at step

-- only the lowest eight bits of a number are those of a byte
low_bits : (n : ℕ) → byte_bits n ≡ byte_bits (n % 256)
low_bits n =
    let bit_0 : n / 2 ^ 0 % 2 ≡ n % 256 / 2 ^ 0 % 2 = omega arith in
    let bit_1 : n / 2 ^ 1 % 2 ≡ n % 256 / 2 ^ 1 % 2 = omega arith in
    let bit_2 : n / 2 ^ 2 % 2 ≡ n % 256 / 2 ^ 2 % 2 = omega arith in
    let bit_3 : n / 2 ^ 3 % 2 ≡ n % 256 / 2 ^ 3 % 2 = omega arith in
    let bit_4 : n / 2 ^ 4 % 2 ≡ n % 256 / 2 ^ 4 % 2 = omega arith in
    let bit_5 : n / 2 ^ 5 % 2 ≡ n % 256 / 2 ^ 5 % 2 = omega arith in
    let bit_6 : n / 2 ^ 6 % 2 ≡ n % 256 / 2 ^ 6 % 2 = omega arith in
    let bit_7 : n / 2 ^ 7 % 2 ≡ n % 256 / 2 ^ 7 % 2 = omega arith in
    cc

-- a zero byte: the lowest byte of the state is looked up, and the others move down
pub zero_byte : (s : ℕ) → crc_state s (0 ∷ []) ≡ bit_xor (table_entry 0 (s % 256)) (s / 256)
unfolding crc_state
zero_byte s =
    ap (λ (r : ℕ). state_after r (λ _. 0) 8) (sym (xor_zero_l s)) ∙ zero_bits 0 s 8
    ∙ ap (λ (bits : List ℕ). bit_xor (fold crc_step 0 bits) (s / 256)) (low_bits s)

-- a byte by itself
byte-apart : (s b : ℕ) → crc_state s (b ∷ []) ≡ bit_xor (crc_state s (0 ∷ [])) (crc_state 0 (b ∷ []))
byte-apart s b =
    ap (λ (r : ℕ). crc_state r (b ∷ [])) (sym (xor_zero_r s))
    ∙ ap (λ (c : ℕ). crc_state (bit_xor s 0) (c ∷ [])) (sym (xor_zero_l b))
    ∙ byte-xor s 0 0 b

-- a byte, added to the lowest one of the state
pub one_byte : (s b : ℕ) → crc_state s (b ∷ []) ≡ bit_xor (table_entry 0 (bit_xor (s % 256) b)) (s / 256)
one_byte s b =
    let low = s % 256 in
    let together : table_entry 0 (bit_xor low b) ≡ bit_xor (table_entry 0 low) (table_entry 0 b) = byte-xor 0 0 low b in
    byte-apart s b ∙ ap (λ (r : ℕ). bit_xor r (table_entry 0 b)) (zero_byte s)
    ∙ xor_swap (table_entry 0 low) (s / 256) (table_entry 0 b)
    ∙ ap (λ (r : ℕ). bit_xor r (s / 256)) (sym together)

-- zero bytes, the first of them by itself
pub zero_bytes-first : (k s : ℕ) → zero_bytes (suc k) s ≡ zero_bytes k (crc_state s (0 ∷ []))
unfolding zero_bytes
zero_bytes-first zero s = refl
zero_bytes-first (suc k) s = ap (λ (r : ℕ). crc_state r (0 ∷ [])) (zero_bytes-first k s)

crc_state-zeros : (k s : ℕ) → crc_state s (replicate k 0) ≡ zero_bytes k s
unfolding zero_bytes crc_state
crc_state-zeros zero s = refl
crc_state-zeros (suc k) s =
    crc_state-append s (0 ∷ []) (replicate k 0) ∙ crc_state-zeros k (crc_state s (0 ∷ [])) ∙ sym (zero_bytes-first k s)

-- an entry, by that of the first table
pub table_entry-zeros : (k b : ℕ) → table_entry k b ≡ zero_bytes k (table_entry 0 b)
table_entry-zeros k b = crc_state-append 0 (b ∷ []) (replicate k 0) ∙ crc_state-zeros k (crc_state 0 (b ∷ []))

-- one more zero byte
table_entry-suc : (k b : ℕ) → table_entry (suc k) b ≡ bit_xor (table_entry 0 (table_entry k b % 256))
    (table_entry k b / 256)
unfolding zero_bytes
table_entry-suc k b =
    table_entry-zeros (suc k) b ∙ ap (λ (r : ℕ). crc_state r (0 ∷ [])) (sym (table_entry-zeros k b))
    ∙ zero_byte (table_entry k b)

-- the table with these entries
IsTable-map : (k : ℕ) (entry : ℕ → ℕ) (table : List ℕ) → map entry (range_with_len 0 256) ≡ table
    → ((b : ℕ) → b < 256 → entry b ≡ table_entry k b) → IsTable k table
IsTable-map k entry table computed right =
    record {
      count = ap length (sym computed) ∙ length-map-range_with_len entry 0 256;
      each = λ b below. ap (λ (xs : List ℕ). get_or xs b 0) (sym computed)
          ∙ get_or-map-range_with_len entry 0 256 b b 0 below (omega arith) ∙ right b below;
    }

-- an entry by the first table and the table before
abbrev next_entry : List ℕ → List ℕ → ℕ → ℕ
next_entry first before b = bit_xor (get_or first (get_or before b 0 % 256) 0) (get_or before b 0 / 256)

-- a table by the first one and the one before
IsTable-next : (k : ℕ) (first before table : List ℕ) → IsTable 0 first → IsTable k before
    → map (next_entry first before) (range_with_len 0 256) ≡ table → IsTable (suc k) table
IsTable-next k first before table is_first is_before computed =
    IsTable-map (suc k) (next_entry first before) table computed
    (λ b below.
    let here = is_before.each b below in
    ap (λ (r : ℕ). bit_xor (get_or first (r % 256) 0) (r / 256)) here
    ∙ ap (λ (r : ℕ). bit_xor r (table_entry k b / 256)) (is_first.each (table_entry k b % 256) (omega arith))
    ∙ sym (table_entry-suc k b))

computed_0 : map (table_entry 0) (range_with_len 0 256) ≡ TABLE_0
unfolding crc_state
computed_0 = refl

pub is_table_0 : IsTable 0 TABLE_0
is_table_0 = IsTable-map 0 (table_entry 0) TABLE_0 computed_0 (λ b _. refl)

pub is_table_1 : IsTable 1 TABLE_1
is_table_1 = IsTable-next 0 TABLE_0 TABLE_0 TABLE_1 is_table_0 is_table_0 refl

pub is_table_2 : IsTable 2 TABLE_2
is_table_2 = IsTable-next 1 TABLE_0 TABLE_1 TABLE_2 is_table_0 is_table_1 refl

pub is_table_3 : IsTable 3 TABLE_3
is_table_3 = IsTable-next 2 TABLE_0 TABLE_2 TABLE_3 is_table_0 is_table_2 refl

pub is_table_4 : IsTable 4 TABLE_4
is_table_4 = IsTable-next 3 TABLE_0 TABLE_3 TABLE_4 is_table_0 is_table_3 refl

pub is_table_5 : IsTable 5 TABLE_5
is_table_5 = IsTable-next 4 TABLE_0 TABLE_4 TABLE_5 is_table_0 is_table_4 refl

pub is_table_6 : IsTable 6 TABLE_6
is_table_6 = IsTable-next 5 TABLE_0 TABLE_5 TABLE_6 is_table_0 is_table_5 refl

pub is_table_7 : IsTable 7 TABLE_7
is_table_7 = IsTable-next 6 TABLE_0 TABLE_6 TABLE_7 is_table_0 is_table_6 refl
