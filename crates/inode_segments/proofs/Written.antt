-- An inode that stands in its bytes is read again.
use Rattle.std.proofs.Common.{◌≡◌, ℕ, ◌+◌, ◌*◌, ◌^◌, ◌<◌, ◌≤◌, List, length, get_or, All, flat_map, refl, sym, ap, ◌∙◌}
use Rattle.std.proofs.Common.{take, arith}
use Rattle.std.proofs.lemmas.List.{length-take-le}
use Rattle.std.proofs.lemmas.List.Concat.{get_or-flat_map}
use Rattle.page_source.specs.Pages.{num, be_bytes, with_bytes}
use Rattle.page_source.proofs.Numbers.{num-with_bytes}
use Rattle.page_source.proofs.Written.{num_from_bytes, num-with_bytes_at}
use Rattle.space_header.specs.Writing.{base_bytes}
use Rattle.space_header.specs.Laws.{WrittenFieldsAreRead}
use Rattle.inode_segments.specs.Inodes.{inode_at, slots_at}
use Rattle.inode_segments.specs.Writing.{slots_bytes}
use Rattle.inode_segments.specs.Laws.{WrittenInodesAreRead}
use Rattle.inode_segments.proofs.Writing.{put, put_after, base_size, slots_size, slots_read, inode_read, inode_written}

-- a number in its bytes
number_back : (n : ℕ) → n < 2 ^ 32 → num (be_bytes 4 n) 0 4 ≡ n
unfolding num
number_back n fits = omega (arith, fits)

-- the four bytes of a slot
slot_bytes : (slots : List ℕ) (k : ℕ) → k < length slots
    → num (flat_map (be_bytes 4) slots) (4 * k) 4 ≡ num (be_bytes 4 (get_or slots k 0)) 0 4
unfolding slots_bytes
slot_bytes slots k inside =
    num_from_bytes (flat_map (be_bytes 4) slots) (be_bytes 4 (get_or slots k 0)) (4 * k) 0 4
    (λ i small.
    let before : length (flat_map (be_bytes 4) (take k slots)) ≡ 4 * k =
    slots_size (take k slots) ∙ ap (λ (n : ℕ). 4 * n) (length-take-le k slots (omega arith)) in
    let here : 0 + i ≡ i = omega arith in
    ap (λ (n : ℕ). get_or (flat_map (be_bytes 4) slots) (n + i) 0) (sym before)
    ∙ get_or-flat_map (be_bytes 4) slots k i 0 0 inside small
    ∙ ap (λ (n : ℕ). get_or (be_bytes 4 (get_or slots k 0)) n 0) (sym here))

slots_back : (page : List ℕ) (at : ℕ) (slots : List ℕ) → at + 128 ≤ length page → length slots ≡ 32
    → All (λ slot. slot < 2 ^ 32) slots → slots_at (with_bytes page at (slots_bytes slots)) at ≡ slots
unfolding slots_bytes
slots_back page at slots inside count fits =
    let bytes = flat_map (be_bytes 4) slots in
    let size = slots_size slots in
    slots_read (with_bytes page at (slots_bytes slots)) at slots count
    (λ k small.
    num-with_bytes_at page at bytes (4 * k) 4 (omega arith) (omega (arith, size))
    ∙ slot_bytes slots k (omega arith)
    ∙ number_back (get_or slots k 0) (fits k 0 (omega arith)))

pub inode_back : WrittenFieldsAreRead → WrittenInodesAreRead
inode_back fields page at x whole inside fits =
    let p0 = with_bytes page at (be_bytes 8 x.id) in
    let p1 = with_bytes p0 (at + 8) (be_bytes 4 x.not_full_used) in
    let p2 = with_bytes p1 (at + 12) (base_bytes x.free) in
    let p3 = with_bytes p2 (at + 28) (base_bytes x.not_full) in
    let p4 = with_bytes p3 (at + 44) (base_bytes x.full) in
    let p5 = with_bytes p4 (at + 60) (be_bytes 4 x.magic) in
    let p6 = with_bytes p5 (at + 64) (slots_bytes x.slots) in
    let id = put page p0 at 8 (be_bytes 8 x.id) refl whole refl (omega arith) in
    let used = put p0 p1 (at + 8) 4 (be_bytes 4 x.not_full_used) refl id.size refl (omega arith) in
    let free = put p1 p2 (at + 12) 16 (base_bytes x.free) refl used.size (base_size x.free) (omega arith) in
    let not_full = put p2 p3 (at + 28) 16 (base_bytes x.not_full) refl free.size (base_size x.not_full) (omega arith) in
    let full = put p3 p4 (at + 44) 16 (base_bytes x.full) refl not_full.size (base_size x.full) (omega arith) in
    let magic = put p4 p5 (at + 60) 4 (be_bytes 4 x.magic) refl full.size refl (omega arith) in
    let slots = put_after p5 p6 (at + 64) (slots_bytes x.slots) refl (omega (arith, magic.size)) in
    ap (λ (p : List ℕ). inode_at p at) (sym (inode_written page at x (omega (arith, whole))))
    ∙ inode_read p0 p1 p2 p3 p4 p5 p6 at x
    used.same free.same not_full.same full.same magic.same slots
    (num-with_bytes page at 8 x.id (omega (arith, whole)) fits.id)
    (num-with_bytes p0 (at + 8) 4 x.not_full_used (omega (arith, id.size)) fits.used)
    (fields.base p1 (at + 12) x.free (omega (arith, used.size)) fits.free)
    (fields.base p2 (at + 28) x.not_full (omega (arith, free.size)) fits.not_full)
    (fields.base p3 (at + 44) x.full (omega (arith, not_full.size)) fits.full)
    (num-with_bytes p4 (at + 60) 4 x.magic (omega (arith, full.size)) fits.magic)
    (slots_back p5 (at + 64) x.slots (omega (arith, magic.size)) fits.count fits.slots)
