-- What is read of a page depends only on the bytes where it stands.
use Rattle.std.proofs.Common.{◌≡◌, ℕ, ◌+◌, ◌*◌, ◌/◌, ◌%◌, ◌^◌, ◌<◌, ◌≤◌, ◌==◌, suc, List, [], ◌∷◌, length, get_or, cond}
use Rattle.std.proofs.Common.{flat_map, take, refl, sym, ap, ◌∙◌, arith}
use Rattle.std.proofs.Math.Nat.{mul-zero, mul-suc}
use Rattle.std.proofs.lemmas.List.{length-take-le, length-append}
use Rattle.std.proofs.lemmas.List.Edits.{get_or-between}
use Rattle.std.proofs.lemmas.List.Concat.{get_or-flat_map}
use Rattle.page_source.specs.Pages.{num}
use Rattle.page_source.proofs.Written.{num_from_bytes}
use Rattle.fil_frame.specs.Frame.{Seals}
use Rattle.space_header.specs.Header.{address_at, base_at, node_at, header_of}
use Rattle.extent_map.specs.Extents.{is_bit_clear, used_mask, extent_at}
use Rattle.inode_segments.specs.Inodes.{inode_at, slots_at}
use Rattle.space_layout.proofs.Ranges.{map_same, sum_same}

times_more : (w n : ℕ) → w * suc n ≡ w + w * n
times_more w n = mul-suc w n ∙ omega arith

-- the n bytes from i on are those of another page from j on
abbrev pub AreSame : ℕ → List ℕ → ℕ → List ℕ → ℕ → Type 0
AreSame n xs i ys j = (k : ℕ) → k < n → get_or xs (i + k) 0 ≡ get_or ys (j + k) 0

pub num_same : (n : ℕ) (xs : List ℕ) (i : ℕ) (ys : List ℕ) (j : ℕ) → AreSame n xs i ys j → (at width p q : ℕ)
    → p ≡ i + at → q ≡ j + at → at + width ≤ n → num xs p width ≡ num ys q width
num_same n xs i ys j same at width p q there here inside =
    num_from_bytes xs ys p q width
    (λ k below.
    let a : p + k ≡ i + (at + k) = omega arith in
    let b : q + k ≡ j + (at + k) = omega arith in
    ap (λ (m : ℕ). get_or xs m 0) a ∙ same (at + k) (omega arith) ∙ ap (λ (m : ℕ). get_or ys m 0) (sym b))

base_same : (n : ℕ) (xs : List ℕ) (i : ℕ) (ys : List ℕ) (j : ℕ) → AreSame n xs i ys j → (at p q : ℕ)
    → p ≡ i + at → q ≡ j + at → at + 16 ≤ n → base_at xs p ≡ base_at ys q
unfolding base_at address_at
base_same n xs i ys j same at p q there here inside =
    let go = num_same n xs i ys j same in
    rw (
      go at 4 p q there here (omega arith),
      go (at + 4) 4 (p + 4) (q + 4) (omega arith) (omega arith) (omega arith),
      go (at + 8) 2 (p + 4 + 4) (q + 4 + 4) (omega arith) (omega arith) (omega arith),
      go (at + 10) 4 (p + 10) (q + 10) (omega arith) (omega arith) (omega arith),
      go (at + 14) 2 (p + 10 + 4) (q + 10 + 4) (omega arith) (omega arith) (omega arith),
    ) refl

pub node_same : (n : ℕ) (xs : List ℕ) (i : ℕ) (ys : List ℕ) (j : ℕ) → AreSame n xs i ys j → (at p q : ℕ)
    → p ≡ i + at → q ≡ j + at → at + 12 ≤ n → node_at xs p ≡ node_at ys q
unfolding node_at address_at
node_same n xs i ys j same at p q there here inside =
    let go = num_same n xs i ys j same in
    rw (
      go at 4 p q there here (omega arith),
      go (at + 4) 2 (p + 4) (q + 4) (omega arith) (omega arith) (omega arith),
      go (at + 6) 4 (p + 6) (q + 6) (omega arith) (omega arith) (omega arith),
      go (at + 10) 2 (p + 6 + 4) (q + 6 + 4) (omega arith) (omega arith) (omega arith),
    ) refl

used_same : (n : ℕ) (xs : List ℕ) (i : ℕ) (ys : List ℕ) (j : ℕ) → AreSame n xs i ys j → (at p q : ℕ)
    → p ≡ i + at → q ≡ j + at → at + 16 ≤ n → used_mask xs p ≡ used_mask ys q
unfolding used_mask
used_same n xs i ys j same at p q there here inside =
    sum_same (λ j. cond (is_bit_clear xs p j) (2 ^ j) 0) (λ j. cond (is_bit_clear ys q j) (2 ^ j) 0) 0 64
    (λ k low below.
    let a : p + k / 4 ≡ i + (at + k / 4) = omega arith in
    let b : q + k / 4 ≡ j + (at + k / 4) = omega arith in
    let byte : get_or xs (p + k / 4) 0 ≡ get_or ys (q + k / 4) 0 =
    ap (λ (m : ℕ). get_or xs m 0) a ∙ same (at + k / 4) (omega arith) ∙ ap (λ (m : ℕ). get_or ys m 0) (sym b) in
    ap (λ (x : ℕ). cond (x / 2 ^ (2 * (k % 4)) % 2 == 0) (2 ^ k) 0) byte)

pub extent_same : (xs : List ℕ) (i : ℕ) (ys : List ℕ) (j : ℕ) → AreSame 40 xs i ys j → extent_at xs i ≡ extent_at ys j
unfolding extent_at
extent_same xs i ys j same =
    rw (
      num_same 40 xs i ys j same 0 8 i j (omega arith) (omega arith) (omega arith),
      node_same 40 xs i ys j same 8 (i + 8) (j + 8) refl refl (omega arith),
      num_same 40 xs i ys j same 20 4 (i + 20) (j + 20) refl refl (omega arith),
      used_same 40 xs i ys j same 24 (i + 24) (j + 24) refl refl (omega arith),
    ) refl

slots_same : (n : ℕ) (xs : List ℕ) (i : ℕ) (ys : List ℕ) (j : ℕ) → AreSame n xs i ys j → (at p q : ℕ)
    → p ≡ i + at → q ≡ j + at → at + 128 ≤ n → slots_at xs p ≡ slots_at ys q
unfolding slots_at
slots_same n xs i ys j same at p q there here inside =
    map_same (λ k. num xs (p + 4 * k) 4) (λ k. num ys (q + 4 * k) 4) 0 32
    (λ k low high. num_same n xs i ys j same (at + 4 * k) 4 (p + 4 * k) (q + 4 * k) (omega arith) (omega arith)
    (omega arith))

pub inode_same : (xs : List ℕ) (i : ℕ) (ys : List ℕ) (j : ℕ) → AreSame 192 xs i ys j → inode_at xs i ≡ inode_at ys j
unfolding inode_at
inode_same xs i ys j same =
    rw (
      num_same 192 xs i ys j same 0 8 i j (omega arith) (omega arith) (omega arith),
      num_same 192 xs i ys j same 8 4 (i + 8) (j + 8) refl refl (omega arith),
      base_same 192 xs i ys j same 12 (i + 12) (j + 12) refl refl (omega arith),
      base_same 192 xs i ys j same 28 (i + 28) (j + 28) refl refl (omega arith),
      base_same 192 xs i ys j same 44 (i + 44) (j + 44) refl refl (omega arith),
      num_same 192 xs i ys j same 60 4 (i + 60) (j + 60) refl refl (omega arith),
      slots_same 192 xs i ys j same 64 (i + 64) (j + 64) refl refl (omega arith),
    ) refl

pub header_same : (xs ys : List ℕ) → AreSame 112 xs 38 ys 38 → header_of xs ≡ header_of ys
unfolding header_of
header_same xs ys same =
    let go = num_same 112 xs 38 ys 38 same in
    let base = base_same 112 xs 38 ys 38 same in
    rw (
      go 0 4 38 38 refl refl (omega arith),
      go 8 4 46 46 refl refl (omega arith),
      go 12 4 50 50 refl refl (omega arith),
      go 16 4 54 54 refl refl (omega arith),
      go 20 4 58 58 refl refl (omega arith),
      base 24 62 62 refl refl (omega arith),
      base 40 78 78 refl refl (omega arith),
      base 56 94 94 refl refl (omega arith),
      go 72 8 110 110 refl refl (omega arith),
      base 80 118 118 refl refl (omega arith),
      base 96 134 134 refl refl (omega arith),
    ) refl

-- the body of a sealed page is as before
pub seal_same : (old new : List ℕ) (n space lsn kind : ℕ) → Seals old new n space lsn kind → (k : ℕ) → 38 + k < 16376
    → get_or new (38 + k) 0 ≡ get_or old (38 + k) 0
seal_same old new n space lsn kind h k inside =
    sym (get_or-between new 38 16376 k 0 inside) ∙ ap (λ (xs : List ℕ). get_or xs k 0) h.body
    ∙ get_or-between old 38 16376 k 0 inside

-- a list of pieces of one size
pub pieces_length : {X : Type 0} (f : X → List ℕ) (w : ℕ) → ((x : X) → length (f x) ≡ w) → (xs : List X)
    → length (flat_map f xs) ≡ w * length xs
pieces_length f w size [] = sym (mul-zero w)
pieces_length f w size (x ∷ xs) =
    length-append (f x) (flat_map f xs) ∙ ap (λ (n : ℕ). n + length (flat_map f xs)) (size x)
    ∙ ap (λ (n : ℕ). w + n) (pieces_length f w size xs) ∙ sym (times_more w (length xs))

pub piece_same : {X : Type 0} (f : X → List ℕ) (w : ℕ) → ((x : X) → length (f x) ≡ w) → (xs : List X) (e : ℕ) (d : X)
    → e < length xs → AreSame w (flat_map f xs) (w * e) (f (get_or xs e d)) 0
piece_same f w size xs e d inside k below =
    let before : length (flat_map f (take e xs)) ≡ w * e = pieces_length f w size (take e xs)
    ∙ ap (λ (n : ℕ). w * n) (length-take-le e xs (omega arith)) in
    let one = size (get_or xs e d) in
    let zero_k : 0 + k ≡ k = omega arith in
    ap (λ (n : ℕ). get_or (flat_map f xs) (n + k) 0) (sym before)
    ∙ get_or-flat_map f xs e k d 0 inside (omega arith)
    ∙ ap (λ (n : ℕ). get_or (f (get_or xs e d)) n 0) (sym zero_k)
