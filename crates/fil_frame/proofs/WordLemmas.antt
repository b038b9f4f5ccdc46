-- The state after eight bytes, by eight look-ups.
use Rattle.std.proofs.Common.{◌≡◌, ℕ, suc, ◌+◌, ◌*◌, ◌/◌, ◌%◌, ◌^◌, ◌<◌, List, [], ◌∷◌, length, get_or, bit_xor, sym}
use Rattle.std.proofs.Common.{◌∙◌, ap, arith, rules}
use Rattle.std.specs.List.{AllByRecursion}
use Rattle.std.specs.Int.Bits.{xor_assoc, xor_zero_r}
use Rattle.std.proofs.lemmas.Slice.Eq.{text_from_reads}
use Rattle.std.proofs.lemmas.Nat.{xor_shr, xor_mod, shr-shr}
use Rattle.fil_frame.specs.declared.tables.TheConstants.{TABLE_0, TABLE_1, TABLE_2, TABLE_3, TABLE_4, TABLE_5, TABLE_6}
use Rattle.fil_frame.specs.declared.tables.TheConstants.{TABLE_7}
use Rattle.fil_frame.specs.Crc.{crc_state}
use Rattle.fil_frame.specs.Sparse.{zero_bytes}
use Rattle.fil_frame.specs.Tables.{table_entry}
use Rattle.fil_frame.proofs.CrcLemmas.{crc_state-append}
use Rattle.fil_frame.proofs.Linear.{xor_both}
use Rattle.fil_frame.proofs.Cancels.{zero_bytes-xor}
use Rattle.fil_frame.proofs.TableLemmas.{is_table_0, is_table_1, is_table_2, is_table_3, is_table_4, is_table_5}
use Rattle.fil_frame.proofs.TableLemmas.{is_table_6, is_table_7, zero_byte, one_byte, zero_bytes-first}
use Rattle.fil_frame.proofs.TableLemmas.{table_entry-zeros}

-- the number of bytes, the lowest first
abbrev pub low_first : List ℕ → ℕ
low_first [] = 0
low_first (b ∷ bytes) = b + 256 * low_first bytes

-- a byte is added to the lowest one of the state, and what is added above it moves down
byte_and_more : (s b m : ℕ) → b < 256 → bit_xor (crc_state s (b ∷ [])) m ≡ crc_state (bit_xor s (b + 256 * m)) (0 ∷ [])
byte_and_more s b m is_byte =
    let n = b + 256 * m in
    let low_n : n % 256 ≡ b = omega arith in
    let high_n : n / 256 ≡ m = omega arith in
    let low : bit_xor s n % 256 ≡ bit_xor (s % 256) b = xor_mod s n 8 ∙ ap (bit_xor (s % 256)) low_n in
    let high : bit_xor s n / 256 ≡ bit_xor (s / 256) m = xor_shr s n 8 ∙ ap (bit_xor (s / 256)) high_n in
    ap (λ (r : ℕ). bit_xor r m) (one_byte s b) ∙ xor_assoc (table_entry 0 (bit_xor (s % 256) b)) (s / 256) m
    ∙ sym (zero_byte (bit_xor s n) ∙ xor_both _ _ _ _ (ap (table_entry 0) low) high)

-- bytes are added to the state, and then as many zero bytes come
pub crc_state-low_first : (s : ℕ) (bytes : List ℕ) → AllByRecursion (λ b. b < 256) bytes
    → crc_state s bytes ≡ zero_bytes (length bytes) (bit_xor s (low_first bytes))
unfolding zero_bytes crc_state
crc_state-low_first s [] are_bytes = sym (xor_zero_r s)
crc_state-low_first s (b ∷ bytes) are_bytes =
    crc_state-append s (b ∷ []) bytes
    ∙ crc_state-low_first (crc_state s (b ∷ [])) bytes are_bytes.1
    ∙ ap (zero_bytes (length bytes)) (byte_and_more s b (low_first bytes) are_bytes.0)
    ∙ sym (zero_bytes-first (length bytes) (bit_xor s (b + 256 * low_first bytes)))

-- the lowest byte of a number is looked up
look_up : (k n : ℕ) → zero_bytes (suc k) n ≡ bit_xor (table_entry k (n % 256)) (zero_bytes k (n / 256))
look_up k n =
    zero_bytes-first k n ∙ ap (zero_bytes k) (zero_byte n) ∙ zero_bytes-xor k (table_entry 0 (n % 256)) (n / 256)
    ∙ ap (λ (r : ℕ). bit_xor r (zero_bytes k (n / 256))) (sym (table_entry-zeros k (n % 256)))

-- the same of the byte at a place
look_up_at : (k n place : ℕ) → zero_bytes (suc k) (n / 2 ^ place)
    ≡ bit_xor (table_entry k (n / 2 ^ place % 256)) (zero_bytes k (n / 2 ^ (place + 8)))
look_up_at k n place =
    look_up k (n / 2 ^ place) ∙ ap (λ (m : ℕ). bit_xor (table_entry k (n / 2 ^ place % 256)) (zero_bytes k m))
    (shr-shr n place 8)

-- eight zero bytes, where the number has eight bytes
pub eight_look_ups : (n : ℕ) → n < 2 ^ 64 → zero_bytes 8 n
    ≡ bit_xor (table_entry 7 (n % 256)) (bit_xor (table_entry 6 (n / 2 ^ 8 % 256)) (bit_xor (table_entry 5
    (n / 2 ^ 16 % 256))
    (bit_xor (table_entry 4 (n / 2 ^ 24 % 256)) (bit_xor (table_entry 3 (n / 2 ^ 32 % 256)) (bit_xor (table_entry 2
    (n / 2 ^ 40 % 256))
    (bit_xor (table_entry 1 (n / 2 ^ 48 % 256)) (table_entry 0 (n / 2 ^ 56 % 256))))))))
unfolding zero_bytes
eight_look_ups n fits =
    let none : n / 2 ^ 64 ≡ 0 = omega arith in
    look_up 7 n
    ∙ ap (bit_xor (table_entry 7 (n % 256))) (look_up_at 6 n 8
    ∙ ap (bit_xor (table_entry 6 (n / 2 ^ 8 % 256))) (look_up_at 5 n 16
    ∙ ap (bit_xor (table_entry 5 (n / 2 ^ 16 % 256))) (look_up_at 4 n 24
    ∙ ap (bit_xor (table_entry 4 (n / 2 ^ 24 % 256))) (look_up_at 3 n 32
    ∙ ap (bit_xor (table_entry 3 (n / 2 ^ 32 % 256))) (look_up_at 2 n 40
    ∙ ap (bit_xor (table_entry 2 (n / 2 ^ 40 % 256))) (look_up_at 1 n 48
    ∙ ap (bit_xor (table_entry 1 (n / 2 ^ 48 % 256))) (look_up_at 0 n 56
    ∙ ap (bit_xor (table_entry 0 (n / 2 ^ 56 % 256))) none ∙ xor_zero_r (table_entry 0 (n / 2 ^ 56 % 256)))))))))

-- the eight look-ups together
pub by_tables : (n : ℕ) → n < 2 ^ 64
    → bit_xor (bit_xor (bit_xor (bit_xor (bit_xor (bit_xor (bit_xor (get_or TABLE_7 (n / 1 % 256) 0)
    (get_or TABLE_6 (n / 2 ^ 8 % 256) 0)) (get_or TABLE_5 (n / 2 ^ 16 % 256) 0)) (get_or TABLE_4
    (n / 2 ^ 24 % 256) 0)) (get_or TABLE_3 (n / 2 ^ 32 % 256) 0)) (get_or TABLE_2 (n / 2 ^ 40 % 256) 0))
    (get_or TABLE_1 (n / 2 ^ 48 % 256) 0)) (get_or TABLE_0 (n / 2 ^ 56 % 256) 0) ≡ zero_bytes 8 n
by_tables n fits =
    let byte_0 : n / 1 ≡ n = omega arith in
    let entry_7 : get_or TABLE_7 (n / 1 % 256) 0 ≡ table_entry 7 (n / 1 % 256) =
    is_table_7.each (n / 1 % 256) (omega arith) in
    let entry_6 : get_or TABLE_6 (n / 2 ^ 8 % 256) 0 ≡ table_entry 6 (n / 2 ^ 8 % 256) =
    is_table_6.each (n / 2 ^ 8 % 256) (omega arith) in
    let entry_5 : get_or TABLE_5 (n / 2 ^ 16 % 256) 0 ≡ table_entry 5 (n / 2 ^ 16 % 256) =
    is_table_5.each (n / 2 ^ 16 % 256) (omega arith) in
    let entry_4 : get_or TABLE_4 (n / 2 ^ 24 % 256) 0 ≡ table_entry 4 (n / 2 ^ 24 % 256) =
    is_table_4.each (n / 2 ^ 24 % 256) (omega arith) in
    let entry_3 : get_or TABLE_3 (n / 2 ^ 32 % 256) 0 ≡ table_entry 3 (n / 2 ^ 32 % 256) =
    is_table_3.each (n / 2 ^ 32 % 256) (omega arith) in
    let entry_2 : get_or TABLE_2 (n / 2 ^ 40 % 256) 0 ≡ table_entry 2 (n / 2 ^ 40 % 256) =
    is_table_2.each (n / 2 ^ 40 % 256) (omega arith) in
    let entry_1 : get_or TABLE_1 (n / 2 ^ 48 % 256) 0 ≡ table_entry 1 (n / 2 ^ 48 % 256) =
    is_table_1.each (n / 2 ^ 48 % 256) (omega arith) in
    let entry_0 : get_or TABLE_0 (n / 2 ^ 56 % 256) 0 ≡ table_entry 0 (n / 2 ^ 56 % 256) =
    is_table_0.each (n / 2 ^ 56 % 256) (omega arith) in
    rw (entry_7, entry_6, entry_5, entry_4, entry_3, entry_2, entry_1, entry_0, byte_0)
    (sym (eight_look_ups n fits ∙ sym (simp xor_assoc)))

-- the first eight of some bytes
abbrev pub first_eight : List ℕ → List ℕ
first_eight bytes =
    get_or bytes 0 0 ∷ get_or bytes 1 0 ∷ get_or bytes 2 0 ∷ get_or bytes 3 0
    ∷ get_or bytes 4 0 ∷ get_or bytes 5 0 ∷ get_or bytes 6 0 ∷ get_or bytes 7 0 ∷ []

-- eight bytes, by the number that they are
pub group_by_word : (s : ℕ) (bytes : List ℕ) → length bytes ≡ 8 → ((i : ℕ) → get_or bytes i 0 < 256)
    → zero_bytes 8 (bit_xor s (low_first (first_eight bytes))) ≡ crc_state s bytes
group_by_word s bytes size are_bytes =
    let whole : bytes ≡ first_eight bytes = text_from_reads bytes (first_eight bytes) size (search rules) in
    let all_bytes : AllByRecursion (λ b. b < 256) (first_eight bytes) = search (rules, are_bytes) in
    sym (crc_state-low_first s (first_eight bytes) all_bytes) ∙ ap (crc_state s) (sym whole)
