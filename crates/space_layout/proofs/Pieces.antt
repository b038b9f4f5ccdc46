-- How many bytes a list node, a descriptor and an inode take.
use Rattle.std.proofs.Common.{◌≡◌, ℕ, ◌*◌, List, ◌++◌, length, refl, arith}
use Rattle.std.proofs.lemmas.List.{length-append}
use Rattle.std.proofs.lemmas.List.FromFn.{length-map-range_with_len}
use Rattle.page_source.specs.Pages.{be_bytes}
use Rattle.space_header.specs.Writing.{node_bytes, base_bytes}
use Rattle.extent_map.specs.declared.extent.Extent.{Extent}
use Rattle.extent_map.specs.Writing.{extent_bytes, bitmap_byte, bitmap_bytes}
use Rattle.extent_map.proofs.Writing.{node_size}
use Rattle.inode_segments.specs.declared.inode.Inode.{Inode}
use Rattle.inode_segments.specs.Writing.{inode_bytes, slots_bytes}
use Rattle.inode_segments.proofs.Writing.{base_size}
use Rattle.space_layout.proofs.SameBytes.{pieces_length}

pub extent_size : (x : Extent) → length (extent_bytes x) ≡ 40
unfolding extent_bytes bitmap_bytes
extent_size x =
    let bits = length-map-range_with_len (bitmap_byte x.used) 0 16 in
    let a = length-append (be_bytes 8 x.id) (node_bytes x.node) in
    let b = length-append (be_bytes 8 x.id ++ node_bytes x.node) (be_bytes 4 x.state) in
    let c = length-append (be_bytes 8 x.id ++ node_bytes x.node ++ be_bytes 4 x.state) (bitmap_bytes x.used) in
    let n = node_size x.node in
    let eight : length (be_bytes 8 x.id) ≡ 8 = refl in
    let four : length (be_bytes 4 x.state) ≡ 4 = refl in
    omega (arith, a, b, c, n, bits, eight, four)

slots_size : (slots : List ℕ) → length (slots_bytes slots) ≡ 4 * length slots
unfolding slots_bytes
slots_size slots = pieces_length (be_bytes 4) 4 (λ n. refl) slots

pub inode_size : (x : Inode) → length x.slots ≡ 32 → length (inode_bytes x) ≡ 192
unfolding inode_bytes
inode_size x count =
    let id = be_bytes 8 x.id in
    let used = be_bytes 4 x.not_full_used in
    let magic = be_bytes 4 x.magic in
    let a = length-append id used in
    let b = length-append (id ++ used) (base_bytes x.free) in
    let c = length-append (id ++ used ++ base_bytes x.free) (base_bytes x.not_full) in
    let d = length-append (id ++ used ++ base_bytes x.free ++ base_bytes x.not_full) (base_bytes x.full) in
    let e = length-append (id ++ used ++ base_bytes x.free ++ base_bytes x.not_full ++ base_bytes x.full) magic in
    let f = length-append (id ++ used ++ base_bytes x.free ++ base_bytes x.not_full ++ base_bytes x.full ++ magic)
    (slots_bytes x.slots) in
    let eight : length id ≡ 8 = refl in
    let four : length used ≡ 4 = refl in
    let also : length magic ≡ 4 = refl in
    omega (
      arith,
      a,
      b,
      c,
      d,
      e,
      f,
      eight,
      four,
      also,
      base_size x.free,
      base_size x.not_full,
      base_size x.full,
      slots_size x.slots,
    )
