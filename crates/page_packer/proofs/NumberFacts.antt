-- The numbers that a page is packed with are read back.
use Rattle.std.proofs.Common.{◌≡◌, ℕ, ◌+◌, ◌-◌, ◌*◌, ◌^◌, ◌<◌, ◌≤◌, Bool, true, List, [], ◌++◌, length, get_or}
use Rattle.std.proofs.Common.{replicate, flat_map, slice_index, Option, Some, None, refl, sym, ap, ◌∙◌, subst, arith}
use Rattle.std.proofs.Common.{lit≤, append-nil}
use Rattle.std.proofs.Common.{length-append}
use Rattle.std.proofs.lemmas.List.{length-replicate, get_or_append_left, get_or-append-add}
use Rattle.page_source.specs.Pages.{num, be_bytes, with_bytes}
use Rattle.page_source.proofs.Written.{get_or-with_bytes_before, get_or-with_bytes_at, num_from_bytes}
use Rattle.page_source.proofs.Written.{length-with_bytes}
use Rattle.fil_frame.specs.declared.frame.SumKind.TheVariants.{Crc32}
use Rattle.fil_frame.proofs.Sealed.{SealsAs-sealed_as, sealed_as-crc32}
use Rattle.column_values.proofs.Bytes.{num-be_bytes}
use Rattle.page_packer.specs.declared.packer.Heads.{Heads}
use Rattle.page_packer.specs.Packing.{Packing, AreWhole, slots_for, total_size, sizes_fit, page_header, head_bytes}
use Rattle.page_packer.specs.Packing.{front_bytes, page_beside, packed_page, directory_bytes}
use Rattle.page_packer.specs.Laws.{HasBodyOf, HaveRoom, HasHeads}
use Rattle.page_packer.specs.Laws.{PacksNumbers, HasOwnBody, SealingKeepsBody, SealedHasBody}
use Rattle.page_packer.specs.Entries.{packing_with, lowest_mark}
use Rattle.page_packer.proofs.Packed.{ArePacked, packed_entries}
use Rattle.page_packer.specs.Packing.{is_leaf, header_numbers}
use Rattle.index_page.specs.Page.{is_lowest_first}
use Rattle.page_packer.proofs.Sizes.{fits_of}
use Rattle.page_packer.proofs.PagePieces.{HasPieces, pieces_of_body, header_num, same_byte, beside_length, front_length}
use Rattle.page_packer.proofs.RecordFacts.{are_whole}

-- a number inside joined lists
num_middle : (front piece rest : List ℕ) (width : ℕ) → width ≤ length piece
    → num (front ++ piece ++ rest) (length front) width ≡ num piece 0 width
num_middle front piece rest width fits =
    num_from_bytes (front ++ piece ++ rest) piece (length front) 0 width
    (λ k below.
    let zero' : 0 + k ≡ k = omega arith in
    get_or_append_left (front ++ piece) rest 0 (length front + k) (omega (arith, length-append front piece))
    ∙ get_or-append-add front piece k 0 ∙ ap (λ (n : ℕ). get_or piece n 0) (sym zero'))

pub num_whole : (width n : ℕ) → n < 256 ^ width → num (be_bytes width n) 0 width ≡ n
num_whole width n fits =
    ap (λ (xs : List ℕ). num xs 0 width) (sym (append-nil (be_bytes width n))) ∙ num-be_bytes width n [] fits

-- the header before the index id
abbrev before_id : Packing → List ℕ
before_id packing = flat_map (be_bytes 2) (header_numbers packing)

header_is : (packing : Packing) (index_id : ℕ) (heads : Option Heads)
    → page_header packing index_id heads ≡ before_id packing ++ be_bytes 8 index_id ++ head_bytes heads
unfolding page_header
header_is packing index_id heads = refl

id_in : (packing : Packing) (index_id : ℕ) (heads : Option Heads) → index_id < 2 ^ 64
    → num (page_header packing index_id heads) 28 8 ≡ index_id
id_in packing index_id heads fits =
    let size : length (before_id packing) ≡ 28 = refl in
    ap (λ (xs : List ℕ). num xs 28 8) (header_is packing index_id heads)
    ∙ num_middle (before_id packing) (be_bytes 8 index_id) (head_bytes heads) 8 (lit≤ tt) ∙ num_whole 8 index_id fits

level_in : (packing : Packing) (index_id : ℕ) (heads : Option Heads) → packing.level < 2 ^ 16
    → num (page_header packing index_id heads) 26 2 ≡ packing.level
unfolding page_header num
level_in packing index_id heads fits = omega arith

leaf_space_in : (packing : Packing) (index_id : ℕ) (heads : Heads) → heads.space < 2 ^ 32
    → num (page_header packing index_id (Some heads)) 36 4 ≡ heads.space
unfolding page_header num
leaf_space_in packing index_id heads fits = omega arith

leaf_page_in : (packing : Packing) (index_id : ℕ) (heads : Heads) → heads.page < 2 ^ 32
    → num (page_header packing index_id (Some heads)) 40 4 ≡ heads.page
unfolding page_header num
leaf_page_in packing index_id heads fits = omega arith

leaf_offset_in : (packing : Packing) (index_id : ℕ) (heads : Heads) → heads.leaf < 2 ^ 16
    → num (page_header packing index_id (Some heads)) 44 2 ≡ heads.leaf
unfolding page_header num
leaf_offset_in packing index_id heads fits = omega arith

top_space_in : (packing : Packing) (index_id : ℕ) (heads : Heads) → heads.space < 2 ^ 32
    → num (page_header packing index_id (Some heads)) 46 4 ≡ heads.space
unfolding page_header num
top_space_in packing index_id heads fits = omega arith

top_page_in : (packing : Packing) (index_id : ℕ) (heads : Heads) → heads.page < 2 ^ 32
    → num (page_header packing index_id (Some heads)) 50 4 ≡ heads.page
unfolding page_header num
top_page_in packing index_id heads fits = omega arith

top_offset_in : (packing : Packing) (index_id : ℕ) (heads : Heads) → heads.top < 2 ^ 16
    → num (page_header packing index_id (Some heads)) 54 2 ≡ heads.top
unfolding page_header num
top_offset_in packing index_id heads fits = omega arith

has_heads : (page : List ℕ) (packing : Packing) (index_id : ℕ) (heads : Option Heads)
    → HasPieces page packing index_id heads → HaveRoom heads → HasHeads page heads
has_heads page packing index_id None has fit = tt
has_heads page packing index_id (Some heads) has fit =
    record {
      leaf_space = header_num page packing index_id (Some heads) 74 36 4 has (lit≤ tt) refl
          ∙ leaf_space_in packing index_id heads fit.space;
      leaf_page = header_num page packing index_id (Some heads) 78 40 4 has (lit≤ tt) refl
          ∙ leaf_page_in packing index_id heads fit.inode_page;
      leaf_offset = header_num page packing index_id (Some heads) 82 44 2 has (lit≤ tt) refl
          ∙ leaf_offset_in packing index_id heads fit.leaf;
      top_space = header_num page packing index_id (Some heads) 84 46 4 has (lit≤ tt) refl
          ∙ top_space_in packing index_id heads fit.space;
      top_page = header_num page packing index_id (Some heads) 88 50 4 has (lit≤ tt) refl
          ∙ top_page_in packing index_id heads fit.inode_page;
      top_offset = header_num page packing index_id (Some heads) 92 54 2 has (lit≤ tt) refl
          ∙ top_offset_in packing index_id heads fit.top;
    }

-- the neighbours
abbrev links_of : ℕ → ℕ → List ℕ
links_of prev next = be_bytes 4 prev ++ be_bytes 4 next

next_in : (prev next : ℕ) → next < 2 ^ 32 → num (links_of prev next) 4 4 ≡ next
unfolding num
next_in prev next fits = omega arith

link_in : (prev next k : ℕ) → k < 8 → slice_index (page_beside prev next) (8 + k) ≡ get_or (links_of prev next) k 0
unfolding page_beside
link_in prev next k below =
    let zeros = length-replicate {A = ℕ} 16384 0 in
    get_or-with_bytes_at (replicate 16384 0) 8 (links_of prev next) k 0 (omega (arith, zeros)) below

link_at : (packing : Packing) (prev next index_id : ℕ) (heads : Option Heads) (k : ℕ) → AreWhole packing.records
    → sizes_fit (length packing.records) (total_size packing.records) ≡ true → k < 8
    → slice_index (packed_page packing prev next index_id heads) (8 + k) ≡ get_or (links_of prev next) k 0
unfolding packed_page
link_at packing prev next index_id heads k whole fit below =
    let fits = fits_of (length packing.records) (total_size packing.records) fit in
    let beside : List ℕ = page_beside prev next in
    let front : List ℕ = front_bytes packing index_id heads in
    let e0 : length beside ≡ 16384 = beside_length prev next in
    let e1 : length front ≡ 82 + total_size packing.records = front_length packing index_id heads whole in
    let e2 : length (with_bytes beside 38 front) ≡ length beside = length-with_bytes beside 38 front (omega arith) in
    get_or-with_bytes_before (with_bytes beside 38 front) (16376 - 2 * slots_for (length packing.records))
    (directory_bytes packing.records) (8 + k) 0 (omega arith) (omega arith)
    ∙ get_or-with_bytes_before beside 38 front (8 + k) 0 (omega arith) (omega arith) ∙ link_in prev next k below

link_num : (page : List ℕ) (packing : Packing) (prev next index_id : ℕ) (heads : Option Heads) (at i : ℕ)
    → AreWhole packing.records → sizes_fit (length packing.records) (total_size packing.records) ≡ true
    → HasBodyOf (packed_page packing prev next index_id heads) page → i + 4 ≤ 8 → at ≡ 8 + i
    → num page at 4 ≡ num (links_of prev next) i 4
link_num page packing prev next index_id heads at i whole fit has inside place =
    num_from_bytes page (links_of prev next) at i 4
    (λ k below.
    let there : at + k ≡ 8 + (i + k) = omega arith in
    ap (λ (n : ℕ). slice_index page n) there
    ∙ same_byte page (packed_page packing prev next index_id heads) 8 16 (8 + (i + k)) has.links (omega arith)
    (omega arith)
    ∙ link_at packing prev next index_id heads (i + k) whole fit (omega arith))

pub packs_numbers : PacksNumbers
unfolding packing_with
packs_numbers page fields level root leftmost entries prev next index_id heads make fit has =
    let marks : ℕ → Bool = lowest_mark (is_lowest_first (is_leaf level) leftmost) in
    let packing : Packing = packing_with fields level marks entries in
    let packed : ArePacked fields root leftmost marks entries packing =
    packed_entries fields level root leftmost marks entries make in
    let whole : AreWhole packing.records =
    are_whole fields level marks entries packing.records packed.pushed in
    let pieces : HasPieces page packing index_id heads =
    pieces_of_body page packing prev next index_id heads whole packed.fit has in
    record {
      has_level = header_num page packing index_id heads 64 26 2 pieces (lit≤ tt) refl
          ∙ level_in packing index_id heads fit.level_fits;
      has_prev = link_num page packing prev next index_id heads 8 0 whole packed.fit has (lit≤ tt) refl
          ∙ num-be_bytes 4 prev (be_bytes 4 next) fit.prev_fits;
      has_next = link_num page packing prev next index_id heads 12 4 whole packed.fit has (lit≤ tt) refl
          ∙ next_in prev next fit.next_fits;
      has_id = header_num page packing index_id heads 66 28 8 pieces (lit≤ tt) refl
          ∙ id_in packing index_id heads fit.id_fits;
      has_heads = has_heads page packing index_id heads pieces fit.heads_fit;
    }

pub has_own_body : HasOwnBody
has_own_body page = record { links = refl; body = refl }

pub sealing_keeps_body : SealingKeepsBody
sealing_keeps_body other page n space lsn kind seals = record { links = seals.links; body = seals.body }

pub sealed_has_body : SealedHasBody
sealed_has_body page n space lsn kind size n_fits space_fits lsn_fits kind_fits =
    let seals = (SealsAs-sealed_as page n space lsn kind Crc32 size n_fits space_fits lsn_fits kind_fits).seals in
    let same = sealed_as-crc32 page n space lsn kind size in
    subst (λ (p : List ℕ). HasBodyOf page p) same (record { links = seals.links; body = seals.body })
