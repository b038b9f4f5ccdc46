-- The numbers of the header, the descriptors and the inodes fit their fields.
use Rattle.std.proofs.Common.{ℕ, ◌+◌, ◌-◌, ◌/◌, ◌%◌, ◌^◌, ◌<◌, ◌≤◌, List, length}
use Rattle.std.proofs.Common.{inl, inr, arith, lit<}
use Rattle.std.proofs.Math.Nat.{pow-le-pow_right}
use Rattle.std.proofs.lemmas.Nat.{pow_pos}
use Rattle.std.proofs.lemmas.Bool.{cases_lt, lt-ltb, le-ltb}
use Rattle.std.proofs.lemmas.Bool.Decides.{eqb_tells}
use Rattle.std.proofs.lemmas.List.FromFn.{length-map-range_with_len}
use Rattle.space_header.specs.Header.{extent_address}
use Rattle.space_header.specs.Writing.{FitsAddress, FitsBase, FitsNode, FitsHeader}
use Rattle.extent_map.specs.Writing.{FitsExtent}
use Rattle.inode_segments.specs.Writing.{FitsInode}
use Rattle.space_layout.specs.Numbers.{own_of, used_fragments, fragment_extents, extent_start}
use Rattle.space_layout.specs.Numbers.{size_at, IsShape}
use Rattle.space_layout.specs.declared.runs.Run.{Run}
use Rattle.space_layout.specs.Runs.{no_run, null_address, base_of, node_of}
use Rattle.space_layout.specs.Fields.{full_fragments, open_fragments, full_of, open_of, described, fragment_descriptor}
use Rattle.space_layout.specs.Fields.{own_descriptor, header, lone_node, slot_of, inode}
use Rattle.space_layout.proofs.PageNumbers.{extent_counts, own_end, page_high}
use Rattle.space_layout.proofs.Ranges.{all_from_range}

null_fits : FitsAddress null_address
null_fits = record { page = lit< tt; offset = lit< tt }

address_fits : (e : ℕ) → e ≤ 256 → FitsAddress (extent_address e)
address_fits e small = record { page = omega arith; offset = omega arith }

-- a run below extent 256
base_fits : (run : Run) → run.first + run.count ≤ 256 → FitsBase (base_of run)
unfolding base_of
base_fits run small = elim (eqb_tells run.count 0) [
  | inl q ↦ rw q.0 (record { length = lit< tt; first = null_fits; last = null_fits })
  | inr q ↦ rw q.0 (record {
    length = omega arith;
    first = address_fits run.first (omega arith);
    last = address_fits (run.first + run.count - 1) (omega arith);
  })
]

node_fits : (run : Run) (e : ℕ) → e < 256 → FitsNode (node_of run e)
unfolding node_of
node_fits run e small = record {
  prev = elim (eqb_tells e run.first) [
    | inl q ↦ rw q.0 null_fits
    | inr q ↦ rw q.0 (address_fits (e - 1) (omega arith))
  ];
  next = elim (eqb_tells (e + 1) (run.first + run.count)) [
    | inl q ↦ rw q.0 null_fits
    | inr q ↦ rw q.0 (address_fits (e + 1) (omega arith))
  ];
}

pub lone_fits : FitsNode lone_node
lone_fits = record { prev = null_fits; next = null_fits }

bits_fit : (count : ℕ) → count ≤ 64 → 2 ^ count - 1 < 2 ^ 64
bits_fit count few =
    let least : 2 ^ count ≤ 2 ^ 64 = pow-le-pow_right (omega arith) few in
    omega (arith, least, pow_pos count)

described_fits : (id state : ℕ) (run : Run) (count e : ℕ) → id < 256 → state < 256 → count ≤ 64 → e < 256
    → FitsExtent (described id state run count e)
unfolding described
described_fits id state run count e small_id small_state few small = record {
  id = omega arith;
  node = node_fits run e small;
  state = omega arith;
  used = bits_fit count few;
}

pub fragment_fits : (sizes : List ℕ) → IsShape sizes → (e : ℕ) → e < fragment_extents sizes
    → FitsExtent (fragment_descriptor sizes e)
unfolding fragment_descriptor
fragment_fits sizes shape e below =
    let fits = shape.fits in
    elim (cases_lt e (used_fragments sizes / 64)) [
      | inl l ↦ rw (lt-ltb e (used_fragments sizes / 64) l)
          (described_fits 0 3 (full_fragments sizes) 64 e (omega arith) (omega arith) (omega arith) (omega arith))
      | inr l ↦ rw (le-ltb e (used_fragments sizes / 64) l)
          (described_fits 0 2 (open_fragments sizes) (used_fragments sizes % 64) e (omega arith) (omega arith)
          (omega arith) (omega arith))
    ]

pub own_fits : (sizes : List ℕ) → IsShape sizes → (s k : ℕ) → s < length sizes → k < extent_counts sizes s
    → FitsExtent (own_descriptor sizes s k)
unfolding own_descriptor
own_fits sizes shape s k sn below =
    let fits = shape.fits in
    let few = shape.few in
    let end = own_end sizes s sn in
    let e = extent_start sizes s + k in
    elim (cases_lt k (own_of (size_at sizes s) / 64)) [
      | inl l ↦ rw (lt-ltb k (own_of (size_at sizes s) / 64) l)
          (described_fits (s + 1) 4 (full_of sizes s) 64 e (omega arith) (omega arith) (omega arith) (omega arith))
      | inr l ↦ rw (le-ltb k (own_of (size_at sizes s) / 64) l)
          (described_fits (s + 1) 4 (open_of sizes s) (own_of (size_at sizes s) % 64) e (omega arith) (omega arith)
          (omega arith) (omega arith))
    ]

two_fits : FitsBase (record {
  length = 1;
  first = record { page = 2; offset = 38 };
  last = record
      { page = 2; offset = 38 };
})
two_fits = record {
  length = lit< tt;
  first = record { page = lit< tt; offset = lit< tt };
  last = record { page = lit< tt; offset = lit< tt };
}

pub header_fits : (sizes : List ℕ) (flags : ℕ) → IsShape sizes → flags < 2 ^ 32 → FitsHeader (header sizes flags)
unfolding header
header_fits sizes flags shape small =
    let fits = shape.fits in
    let few = shape.few in
    record {
      space = lit< tt;
      size = omega arith;
      limit = omega arith;
      flags = small;
      frag_used = omega arith;
      next_segment = omega arith;
      free = base_fits no_run (omega arith);
      free_frag = base_fits (open_fragments sizes) (omega arith);
      full_frag = base_fits (full_fragments sizes) (omega arith);
      inodes_full = base_fits no_run (omega arith);
      inodes_free = two_fits;
    }

slot_fits : (sizes : List ℕ) → IsShape sizes → (s i : ℕ) → s < length sizes → slot_of sizes s i < 2 ^ 32
slot_fits sizes shape s i sn = elim (cases_lt i (size_at sizes s)) [
  | inl l ↦ rw (lt-ltb i (size_at sizes s) l)
      (let high = page_high sizes shape s i sn l in let fits = shape.fits in omega arith)
  | inr l ↦ rw (le-ltb i (size_at sizes s) l) (lit< tt)
]

pub inode_fits : (sizes : List ℕ) → IsShape sizes → (s : ℕ) → s < length sizes → FitsInode (inode sizes s)
unfolding inode
inode_fits sizes shape s sn =
    let fits = shape.fits in
    let few = shape.few in
    let end = own_end sizes s sn in
    record {
      id = omega arith;
      used = omega arith;
      free = base_fits no_run (omega arith);
      not_full = base_fits (open_of sizes s) (omega arith);
      full = base_fits (full_of sizes s) (omega arith);
      magic = lit< tt;
      count = length-map-range_with_len (slot_of sizes s) 0 32;
      slots = all_from_range (λ slot. slot < 2 ^ 32) (slot_of sizes s) 0 32
          (λ i low high. slot_fits sizes shape s i sn);
    }
