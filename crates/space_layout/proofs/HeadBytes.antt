-- The first three pages of a built tablespace have its header, descriptors and inodes.
use Rattle.std.proofs.Common.{◌≡◌, ℕ, zero, suc, ◌+◌, ◌*◌, ◌^◌, ◌<◌, ◌≤◌, not, false, Some}
use Rattle.std.proofs.Common.{List, length, flat_map, get_or, replicate, unwrap_or, Option}
use Rattle.std.proofs.Common.{inl, inr, refl, sym, ap, ◌∙◌, subst, arith, lit<}
use Rattle.std.specs.List.{range_with_len}
use Rattle.std.specs.FinMap.{get}
use Rattle.std.proofs.lemmas.Bool.{eq-eqb}
use Rattle.std.proofs.lemmas.List.{length-replicate, get_or-replicate}
use Rattle.std.proofs.lemmas.List.FromFn.{length-range_with_len, get_or-range_with_len, length-map-range_with_len}
use Rattle.page_source.specs.Pages.{page_of, page_size, num, be_bytes, with_bytes}
use Rattle.page_source.specs.Objects.{PageMap, held_page, file_of}
use Rattle.page_source.specs.Sources.{AreWhole}
use Rattle.page_source.proofs.SparseFiles.{pages_of_file, page_of_file}
use Rattle.page_source.proofs.Written.{length-with_bytes, get_or-with_bytes_at, get_or-with_bytes_before}
use Rattle.page_source.proofs.Written.{get_or-with_bytes_after}
use Rattle.fil_frame.specs.Kinds.{header_kind, bitmap_kind, inode_kind, blob_kind, index_kind}
use Rattle.fil_frame.specs.Frame.{IsFramed, kind_of, Seals, sealed}
use Rattle.space_header.specs.declared.header.SpaceHeader.{SpaceHeader}
use Rattle.space_header.specs.Header.{header_of, node_at}
use Rattle.space_header.specs.Writing.{with_header, header_bytes, base_bytes, address_bytes, node_bytes}
use Rattle.extent_map.specs.declared.extent.Extent.{Extent}
use Rattle.extent_map.specs.Extents.{extent_at, extent_of, descriptor_page, descriptor_byte}
use Rattle.extent_map.specs.Writing.{FitsExtent, extent_bytes}
use Rattle.extent_map.proofs.Writing.{node_size}
use Rattle.inode_segments.specs.Inodes.{inode_at, inode_byte, is_used_place}
use Rattle.inode_segments.specs.Writing.{inode_bytes}
use Rattle.space_layout.specs.Numbers.{extent_start, extents_needed, space_pages, segment_page}
use Rattle.space_layout.specs.Numbers.{IsShape}
use Rattle.space_layout.specs.Fields.{header, fragment_descriptor, own_descriptor, inode, slot_of, lone_node}
use Rattle.space_layout.specs.Holds.{IsPage, IsSegmentPage, HoldsHeads, HoldsSpace}
use Rattle.space_layout.specs.HeadPages.{zeros, descriptors, inodes, header_page, bitmap_page, inode_page}
use Rattle.space_layout.specs.HeadPages.{IsSegmentBytes, HoldsPages}
use Rattle.space_layout.specs.Laws.{AreHeadPages}
use Rattle.space_layout.specs.LowerLaws.{PageLaws}
use Rattle.space_layout.proofs.Ranges.{pieces_same}
use Rattle.space_layout.proofs.PageNumbers.{own_below, page_high}
use Rattle.space_layout.proofs.SameBytes.{node_same, extent_same, inode_same, header_same, seal_same}
use Rattle.space_layout.proofs.SameBytes.{piece_same, pieces_length}
use Rattle.space_layout.proofs.Pieces.{extent_size, inode_size}
use Rattle.space_layout.proofs.Fits.{header_fits, fragment_fits, own_fits, lone_fits, inode_fits}
use Rattle.space_layout.proofs.Listed.{descriptors_length, fragment_listed, own_listed}

-- zeros
pub zeros_length : length zeros ≡ 16384
unfolding zeros
zeros_length = length-replicate {A = ℕ} 16384 0

zero_at : (k : ℕ) → k < 16384 → get_or zeros k 0 ≡ 0
unfolding zeros
zero_at k l = get_or-replicate 16384 k 0 0 l

-- a sealed page
sealed_seals : PageLaws → (page : List ℕ) (n kind : ℕ) → length page ≡ 16384 → n < 2 ^ 32 → kind < 2 ^ 16
    → Seals page (sealed page n 1 1 kind) n 1 1 kind
sealed_seals laws page n kind size small_n small_kind =
    (laws.sealed page n 1 1 kind size small_n (lit< tt) (lit< tt) small_kind).seals

-- the header page before it is sealed
header_bytes_length : (x : SpaceHeader) → length (header_bytes x) ≡ 104
unfolding header_bytes base_bytes address_bytes
header_bytes_length x = refl

header_length : (x : SpaceHeader) → length (with_header zeros x) ≡ 16384
unfolding with_header
header_length x =
    let first = with_bytes zeros 38 (be_bytes 4 x.space) in
    let size = zeros_length in
    let first_size : length first ≡ 16384 = length-with_bytes zeros 38 (be_bytes 4 x.space) (omega arith) ∙ size in
    let whole = header_bytes_length x in
    length-with_bytes first 46 (header_bytes x) (omega arith) ∙ first_size

abbrev pub header_body : List ℕ → ℕ → List ℕ
header_body sizes flags = with_bytes (with_header zeros (header sizes flags)) 150
    (flat_map extent_bytes (descriptors sizes))

descriptor_bytes_length : (sizes : List ℕ) → length (flat_map extent_bytes (descriptors sizes))
    ≡ 40 * extents_needed sizes
descriptor_bytes_length sizes =
    pieces_length extent_bytes 40 extent_size (descriptors sizes) ∙ ap (λ (n : ℕ). 40 * n) (descriptors_length sizes)

header_body_length : (sizes : List ℕ) (flags : ℕ) → IsShape sizes → length (header_body sizes flags) ≡ 16384
header_body_length sizes flags shape =
    let fits = shape.fits in
    let size = header_length (header sizes flags) in
    length-with_bytes (with_header zeros (header sizes flags)) 150 (flat_map extent_bytes (descriptors sizes))
    (omega (arith, descriptor_bytes_length sizes)) ∙ size

header_seals : PageLaws → (sizes : List ℕ) (flags : ℕ) → IsShape sizes
    → Seals (header_body sizes flags) (header_page sizes flags) 0 1 1 header_kind
unfolding header_page
header_seals laws sizes flags shape =
    sealed_seals laws (header_body sizes flags) 0 header_kind (header_body_length sizes flags shape) (lit< tt) (lit< tt)

-- its header
page_header : PageLaws → (sizes : List ℕ) (flags : ℕ) → IsShape sizes → flags < 2 ^ 32
    → header_of (header_page sizes flags) ≡ header sizes flags
page_header laws sizes flags shape small =
    let base = with_header zeros (header sizes flags) in
    let size = header_length (header sizes flags) in
    header_same (header_page sizes flags) base
    (λ k below. seal_same (header_body sizes flags) (header_page sizes flags) 0 1 1 header_kind
    (header_seals laws sizes flags shape) k (omega arith)
    ∙ get_or-with_bytes_before base 150 (flat_map extent_bytes (descriptors sizes)) (38 + k) 0 (omega arith)
    (omega arith))
    ∙ laws.fields.header zeros (header sizes flags) zeros_length (header_fits sizes flags shape small)

-- its descriptors
page_extent : PageLaws → (sizes : List ℕ) (flags : ℕ) → IsShape sizes → (e : ℕ) (x : Extent) → e < extents_needed sizes
    → get_or (descriptors sizes) e x ≡ x → FitsExtent x
    → extent_at (header_page sizes flags) (150 + 40 * e) ≡ x
page_extent laws sizes flags shape e x below is fits =
    let few = shape.fits in
    let base = with_header zeros (header sizes flags) in
    let bytes = flat_map extent_bytes (descriptors sizes) in
    let size = header_length (header sizes flags) in
    let count = descriptors_length sizes in
    let total = descriptor_bytes_length sizes in
    let zero = zeros_length in
    extent_same (header_page sizes flags) (150 + 40 * e) (with_bytes zeros 0 (extent_bytes x)) 0
    (λ k small.
    let place : 150 + 40 * e + k ≡ 38 + (112 + 40 * e + k) = omega arith in
    let also : 38 + (112 + 40 * e + k) ≡ 150 + (40 * e + k) = omega arith in
    ap (λ (n : ℕ). get_or (header_page sizes flags) n 0) place
    ∙ seal_same (header_body sizes flags) (header_page sizes flags) 0 1 1 header_kind
    (header_seals laws sizes flags shape) (112 + 40 * e + k) (omega arith)
    ∙ ap (λ (n : ℕ). get_or (header_body sizes flags) n 0) also
    ∙ get_or-with_bytes_at base 150 bytes (40 * e + k) 0 (omega arith) (omega arith)
    ∙ piece_same extent_bytes 40 extent_size (descriptors sizes) e x (omega arith) k small
    ∙ ap (λ (y : Extent). get_or (extent_bytes y) (0 + k) 0) is
    ∙ ap (λ (n : ℕ). get_or (extent_bytes x) n 0) (omega arith)
    ∙ sym (get_or-with_bytes_at zeros 0 (extent_bytes x) k 0 (omega arith) (omega (arith, extent_size x))))
    ∙ laws.extents zeros 0 x (omega arith) fits

-- the inode page before it is sealed
abbrev pub node_body : List ℕ
node_body = with_bytes zeros 38 (node_bytes lone_node)

abbrev pub inode_body : List ℕ → List ℕ
inode_body sizes = with_bytes node_body 50 (flat_map inode_bytes (inodes sizes))

node_body_length : length node_body ≡ 16384
node_body_length =
    let size = zeros_length in
    length-with_bytes zeros 38 (node_bytes lone_node) (omega (arith, node_size lone_node)) ∙ size

-- the bytes of its inodes
abbrev pub bytes_of_inode : List ℕ → ℕ → List ℕ
bytes_of_inode sizes s = inode_bytes (inode sizes s)

pub one_inode_length : (sizes : List ℕ) (s : ℕ) → length (bytes_of_inode sizes s) ≡ 192
unfolding inode
one_inode_length sizes s =
    inode_size (inode sizes s) (length-map-range_with_len (slot_of sizes s) 0 32)

inodes_listed : (sizes : List ℕ)
    → flat_map inode_bytes (inodes sizes) ≡ flat_map (bytes_of_inode sizes) (range_with_len 0 (length sizes))
unfolding inodes
inodes_listed sizes =
    pieces_same inode_bytes (inode sizes) (bytes_of_inode sizes) 0 (length sizes) (λ s low high. refl)

inodes_length : (sizes : List ℕ) → length (flat_map inode_bytes (inodes sizes)) ≡ 192 * length sizes
inodes_length sizes =
    ap (λ (xs : List ℕ). length xs) (inodes_listed sizes)
    ∙ pieces_length (bytes_of_inode sizes) 192 (one_inode_length sizes) (range_with_len 0 (length sizes))
    ∙ ap (λ (n : ℕ). 192 * n) (length-range_with_len 0 (length sizes))

inode_body_length : (sizes : List ℕ) → IsShape sizes → length (inode_body sizes) ≡ 16384
inode_body_length sizes shape =
    let few = shape.few in
    let size = node_body_length in
    length-with_bytes node_body 50 (flat_map inode_bytes (inodes sizes)) (omega (arith, inodes_length sizes)) ∙ size

inode_seals : PageLaws → (sizes : List ℕ) → IsShape sizes → Seals (inode_body sizes) (inode_page sizes) 2 1 1 inode_kind
unfolding inode_page
inode_seals laws sizes shape =
    sealed_seals laws (inode_body sizes) 2 inode_kind (inode_body_length sizes shape) (lit< tt) (lit< tt)

-- a byte of it behind the frame
inode_page_byte : PageLaws → (sizes : List ℕ) → IsShape sizes → (k : ℕ) → 38 + k < 16376
    → get_or (inode_page sizes) (38 + k) 0 ≡ get_or (inode_body sizes) (38 + k) 0
inode_page_byte laws sizes shape k l =
    seal_same (inode_body sizes) (inode_page sizes) 2 1 1 inode_kind (inode_seals laws sizes shape) k l

-- its list node
page_lone_node : PageLaws → (sizes : List ℕ) → IsShape sizes → node_at (inode_page sizes) 38 ≡ lone_node
page_lone_node laws sizes shape =
    let size = node_body_length in
    let zero = zeros_length in
    node_same 12 (inode_page sizes) 38 node_body 38
    (λ k below. inode_page_byte laws sizes shape k (omega arith)
    ∙ get_or-with_bytes_before node_body 50 (flat_map inode_bytes (inodes sizes)) (38 + k) 0 (omega arith)
    (omega arith))
    0 38 38 refl refl (omega arith)
    ∙ laws.fields.node zeros 38 lone_node (omega arith) lone_fits

-- its inodes
page_inode : PageLaws → (sizes : List ℕ) → IsShape sizes → (s : ℕ) → s < length sizes
    → inode_at (inode_page sizes) (inode_byte s) ≡ inode sizes s
page_inode laws sizes shape s sn =
    let few = shape.few in
    let size = node_body_length in
    let zero = zeros_length in
    let bytes = flat_map inode_bytes (inodes sizes) in
    let total = inodes_length sizes in
    let one = one_inode_length sizes s in
    let all = length-range_with_len 0 (length sizes) in
    let here : get_or (range_with_len 0 (length sizes)) s 0 ≡ s =
    get_or-range_with_len 0 (length sizes) s 0 sn ∙ omega arith in
    inode_same (inode_page sizes) (inode_byte s) (with_bytes zeros 0 (bytes_of_inode sizes s)) 0
    (λ k small.
    let place : inode_byte s + k ≡ 38 + (12 + 192 * s + k) = omega arith in
    let also : 38 + (12 + 192 * s + k) ≡ 50 + (192 * s + k) = omega arith in
    ap (λ (n : ℕ). get_or (inode_page sizes) n 0) place
    ∙ inode_page_byte laws sizes shape (12 + 192 * s + k) (omega arith)
    ∙ ap (λ (n : ℕ). get_or (inode_body sizes) n 0) also
    ∙ get_or-with_bytes_at node_body 50 bytes (192 * s + k) 0 (omega arith) (omega arith)
    ∙ ap (λ (xs : List ℕ). get_or xs (192 * s + k) 0) (inodes_listed sizes)
    ∙ piece_same (bytes_of_inode sizes) 192 (one_inode_length sizes) (range_with_len 0 (length sizes)) s 0
    (omega arith) k
    small
    ∙ ap (λ (t : ℕ). get_or (bytes_of_inode sizes t) (0 + k) 0) here
    ∙ ap (λ (n : ℕ). get_or (bytes_of_inode sizes s) n 0) (omega arith)
    ∙ sym (get_or-with_bytes_at zeros 0 (bytes_of_inode sizes s) k 0 (omega arith) (omega arith)))
    ∙ laws.inodes zeros 0 (inode sizes s) zeros_length (omega arith) (inode_fits sizes shape s sn)

num_none : (xs : List ℕ) (at width : ℕ) → ((k : ℕ) → k < width → get_or xs (at + k) 0 ≡ 0) → num xs at width ≡ 0
unfolding num
num_none xs at zero h = refl
num_none xs at (suc width) h =
    let before = num_none xs at width (λ k l. h k (omega arith)) in
    let last = h width (omega arith) in
    omega arith

page_unused : PageLaws → (sizes : List ℕ) → IsShape sizes → (s : ℕ) → length sizes ≤ s → s < 85
    → is_used_place (inode_page sizes) s ≡ false
page_unused laws sizes shape s low high =
    let few = shape.few in
    let size = node_body_length in
    let zero = zeros_length in
    let node = node_size lone_node in
    let total = inodes_length sizes in
    let none : num (inode_page sizes) (inode_byte s) 8 ≡ 0 =
    num_none (inode_page sizes) (inode_byte s) 8
    (λ k small.
    let place : inode_byte s + k ≡ 38 + (12 + 192 * s + k) = omega arith in
    ap (λ (n : ℕ). get_or (inode_page sizes) n 0) place
    ∙ inode_page_byte laws sizes shape (12 + 192 * s + k) (omega arith)
    ∙ get_or-with_bytes_after node_body 50 (flat_map inode_bytes (inodes sizes)) (38 + (12 + 192 * s + k)) 0
    (omega arith)
    (omega arith)
    ∙ get_or-with_bytes_after zeros 38 (node_bytes lone_node) (38 + (12 + 192 * s + k)) 0 (omega arith) (omega arith)
    ∙ zero_at (38 + (12 + 192 * s + k)) (omega arith)) in
    ap not (eq-eqb (num (inode_page sizes) (inode_byte s) 8) 0 none)

-- a file whose first three pages are these
pub record HasHeadPages (file sizes : List ℕ) (flags : ℕ) : Type 0 where
  pub head : page_of file 0 ≡ header_page sizes flags
  pub bitmap : page_of file 1 ≡ bitmap_page
  pub inodes : page_of file 2 ≡ inode_page sizes

page_by_bytes : (file page : List ℕ) (n kind : ℕ) → page_of file n ≡ page → IsFramed page n 1 → kind_of page ≡ kind
    → IsPage file n kind
page_by_bytes file page n kind is framed has_kind = record {
  framed = subst (λ (p : List ℕ). IsFramed p n 1) (sym is) framed;
  has_kind = ap (λ (p : List ℕ). kind_of p) is ∙ has_kind;
}

sealed_page : (file old new : List ℕ) (n kind : ℕ) → page_of file n ≡ new → Seals old new n 1 1 kind
    → IsPage file n kind
sealed_page file old new n kind is seals =
    page_by_bytes file new n kind is seals.framed seals.has_kind

bitmap_seals : PageLaws → Seals zeros bitmap_page 1 1 1 bitmap_kind
unfolding bitmap_page
bitmap_seals laws = sealed_seals laws zeros 1 bitmap_kind zeros_length (lit< tt) (lit< tt)

extent_there : (file page : List ℕ) (e : ℕ) → page_of file 0 ≡ page → e < 256 → extent_of file e
    ≡ extent_at page (150 + 40 * e)
unfolding extent_of
extent_there file page e is small =
    let first : descriptor_page e ≡ 0 = omega arith in
    let byte : descriptor_byte e ≡ 150 + 40 * e = omega arith in
    rw (first, byte, is) refl

pub heads_held : PageLaws → (file sizes : List ℕ) (flags : ℕ) → IsShape sizes → flags < 2 ^ 32
    → HasHeadPages file sizes flags → HoldsHeads file sizes flags
heads_held laws file sizes flags shape small h =
    let fits = shape.fits in
    record {
      head = sealed_page file (header_body sizes flags) (header_page sizes flags) 0 header_kind h.head
          (header_seals laws sizes flags shape);
      has_header = ap header_of h.head ∙ page_header laws sizes flags shape small;
      fragments = λ e l.
          extent_there file (header_page sizes flags) e h.head (omega arith)
          ∙ page_extent laws sizes flags shape e (fragment_descriptor sizes e) (omega arith)
          (fragment_listed sizes e (fragment_descriptor sizes e) l) (fragment_fits sizes shape e l);
      own = λ s k sn l.
          let below = own_below sizes s k sn l in
          extent_there file (header_page sizes flags) (extent_start sizes s + k) h.head (omega arith)
          ∙ page_extent laws sizes flags shape (extent_start sizes s + k) (own_descriptor sizes s k) below
          (own_listed sizes s k (own_descriptor sizes s k) sn l) (own_fits sizes shape s k sn l);
      bitmap = sealed_page file zeros bitmap_page 1 bitmap_kind h.bitmap (bitmap_seals laws);
      inodes = sealed_page file (inode_body sizes) (inode_page sizes) 2 inode_kind h.inodes
          (inode_seals laws sizes shape);
      node = ap (λ (p : List ℕ). node_at p 38) h.inodes ∙ page_lone_node laws sizes shape;
      has_inodes = λ s sn. ap (λ (p : List ℕ). inode_at p (inode_byte s)) h.inodes ∙ page_inode laws sizes shape s sn;
      unused = λ k low high. ap (λ (p : List ℕ). is_used_place p k) h.inodes ∙ page_unused laws sizes shape k low high;
    }

-- a page that the map holds
held_is : (held : PageMap) (n : ℕ) (page : List ℕ) → get held n ≡ Some page → held_page held n ≡ page
unfolding held_page
held_is held n page is = ap (λ (o : Option (List ℕ)). unwrap_or o (replicate page_size 0)) is

page_held : (held : PageMap) (pages n : ℕ) (page : List ℕ) → AreWhole held → n < pages → get held n ≡ Some page
    → page_of (file_of pages held) n ≡ page
page_held held pages n page whole l is = page_of_file pages held n whole l ∙ held_is held n page is

segment_page_held : (file page : List ℕ) (n : ℕ) → page_of file n ≡ page → IsSegmentBytes page n → IsSegmentPage file n
segment_page_held file page n is p = elim p.kind [
  | inl index ↦ inl (page_by_bytes file page n index_kind is p.framed index)
  | inr blob ↦ inr (page_by_bytes file page n blob_kind is p.framed blob)
]

pub file_holds : PageLaws → (held : PageMap) (sizes : List ℕ) (flags : ℕ) → IsShape sizes → flags < 2 ^ 32
    → HoldsPages held sizes flags → HoldsSpace (file_of (space_pages sizes) held) sizes flags
file_holds laws held sizes flags shape small h =
    let pages = space_pages sizes in
    record {
      pages = pages_of_file pages held h.whole;
      heads = heads_held laws (file_of pages held) sizes flags shape small (record {
        head = page_held held pages 0 (header_page sizes flags) h.whole (omega arith) h.head;
        bitmap = page_held held pages 1 bitmap_page h.whole (omega arith) h.bitmap;
        inodes = page_held held pages 2 (inode_page sizes) h.whole (omega arith) h.inodes;
      });
      segments = λ s i sn l.
          let n = segment_page sizes s i in
          let p = h.segments s i n (record { below = sn; inside = l; there = refl }) in
          segment_page_held (file_of pages held) p.0 n
          (page_held held pages n p.0 h.whole (page_high sizes shape s i sn l) p.1) p.2;
    }

-- a sealed page has its length
sealed_length : PageLaws → (page : List ℕ) (n kind : ℕ) → length page ≡ 16384 → n < 2 ^ 32 → kind < 2 ^ 16
    → length (sealed page n 1 1 kind) ≡ 16384
sealed_length laws page n kind size small_n small_kind =
    (laws.sealed page n 1 1 kind size small_n (lit< tt) (lit< tt) small_kind).whole

pub are_head_pages : PageLaws → (sizes : List ℕ) (flags : ℕ) → IsShape sizes → AreHeadPages sizes flags
unfolding header_page bitmap_page inode_page
are_head_pages laws sizes flags shape = record {
  head = sealed_length laws (header_body sizes flags) 0 header_kind (header_body_length sizes flags shape)
      (lit< tt) (lit< tt);
  bitmap = sealed_length laws zeros 1 bitmap_kind zeros_length (lit< tt) (lit< tt);
  inodes = sealed_length laws (inode_body sizes) 2 inode_kind (inode_body_length sizes shape) (lit< tt) (lit< tt);
}
