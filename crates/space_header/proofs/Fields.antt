-- Addresses, list bases, nodes and headers that were written are read again.
use Rattle.std.proofs.Common.{◌≡◌, ℕ, ◌+◌, ◌≤◌, List, [], ◌∷◌, ◌++◌, length, drop, refl, ◌∙◌, ap, lit≤, arith}
use Rattle.page_source.specs.Pages.{num, be_bytes, with_bytes}
use Rattle.page_source.proofs.Numbers.{num-with_bytes}
use Rattle.page_source.proofs.Written.{num-written, with_bytes-next, length-with_bytes}
use Rattle.page_source.proofs.WrittenFields.{AllFit, AreRead, fields_read}
use Rattle.space_header.specs.declared.address.Address.{Address}
use Rattle.space_header.specs.declared.address.Base.{Base}
use Rattle.space_header.specs.declared.address.Node.{Node}
use Rattle.space_header.specs.declared.header.SpaceHeader.{SpaceHeader}
use Rattle.space_header.specs.Header.{address_at, base_at, node_at, header_of}
use Rattle.space_header.specs.Writing.{FitsBase, FitsNode, FitsHeader, address_bytes, base_bytes, node_bytes}
use Rattle.space_header.specs.Writing.{header_bytes, with_header}

-- the numbers of a base, each after its width, and then others
abbrev base_numbers : Base → List (ℕ × ℕ) → List (ℕ × ℕ)
base_numbers base later =
    (4, base.length) ∷ (4, base.first.page) ∷ (2, base.first.offset) ∷ (4, base.last.page) ∷ (2, base.last.offset)
    ∷ later

base_fits : (base : Base) (later : List (ℕ × ℕ)) → FitsBase base → AllFit later → AllFit (base_numbers base later)
base_fits base later fits rest =
    (fits.length, (fits.first.page, (fits.first.offset, (fits.last.page, (fits.last.offset, rest)))))

-- a base whose numbers are read, and what is read after it
base_from : (page : List ℕ) (at : ℕ) (base : Base) (later : List (ℕ × ℕ)) → AreRead page at (base_numbers base later)
    → (base_at page at ≡ base) × AreRead page (at + 4 + 4 + 2 + 4 + 2) later
unfolding base_at address_at
base_from page at base later read =
    let last : at + 10 ≡ at + 4 + 4 + 2 = omega arith in
    (rw (last, read.0, read.1.0, read.1.1.0, read.1.1.1.0, read.1.1.1.1.0) refl, read.1.1.1.1.1)

pub base_read : (page : List ℕ) (at : ℕ) (base : Base) → at ≤ length page → FitsBase base
    → base_at (with_bytes page at (base_bytes base)) at ≡ base
unfolding base_bytes address_bytes
base_read page at base inside fits =
    let read = fields_read page at (base_bytes base) (base_numbers base []) refl inside (base_fits base [] fits tt) in
    (base_from (with_bytes page at (base_bytes base)) at base [] read).0

abbrev node_numbers : Node → List (ℕ × ℕ)
node_numbers node = (4, node.prev.page) ∷ (2, node.prev.offset) ∷ (4, node.next.page) ∷ (2, node.next.offset) ∷ []

node_from : (page : List ℕ) (at : ℕ) (node : Node) → AreRead page at (node_numbers node)
    → node_at page at ≡ node
unfolding node_at address_at
node_from page at node read =
    let next : at + 6 ≡ at + 4 + 2 = omega arith in
    rw (next, read.0, read.1.0, read.1.1.0, read.1.1.1.0) refl

pub node_read : (page : List ℕ) (at : ℕ) (node : Node) → at ≤ length page → FitsNode node
    → node_at (with_bytes page at (node_bytes node)) at ≡ node
unfolding node_bytes address_bytes
node_read page at node inside fits =
    node_from (with_bytes page at (node_bytes node)) at node
    (fields_read page at (node_bytes node) (node_numbers node) refl inside
    (fits.prev.page, (fits.prev.offset, (fits.next.page, (fits.next.offset, tt)))))

-- fields that are written one behind the other
pub address_written : (page : List ℕ) (at : ℕ) (a : Address) → at + 6 ≤ length page
    → with_bytes (with_bytes page at (be_bytes 4 a.page)) (at + 4) (be_bytes 2 a.offset) ≡ with_bytes page at
    (address_bytes a)
unfolding address_bytes
address_written page at a inside = with_bytes-next page at (at + 4) (be_bytes 4 a.page) (be_bytes 2 a.offset) refl
    (omega arith)

pub base_written : (page : List ℕ) (at : ℕ) (base : Base) → at + 16 ≤ length page
    → with_bytes (with_bytes (with_bytes page at (be_bytes 4 base.length)) (at + 4) (address_bytes base.first))
    (at + 10)
    (address_bytes base.last) ≡ with_bytes page at (base_bytes base)
unfolding base_bytes address_bytes
base_written page at base inside =
    let count = be_bytes 4 base.length in
    let first = address_bytes base.first in
    ap (λ (now : List ℕ). with_bytes now (at + 10) (address_bytes base.last))
    (with_bytes-next page at (at + 4) count first refl (omega arith))
    ∙ with_bytes-next page at (at + 10) (count ++ first) (address_bytes base.last) refl (omega arith)

pub node_written : (page : List ℕ) (at : ℕ) (node : Node) → at + 12 ≤ length page
    → with_bytes (with_bytes page at (address_bytes node.prev)) (at + 6)
    (address_bytes node.next) ≡ with_bytes page at (node_bytes node)
unfolding node_bytes address_bytes
node_written page at node inside =
    with_bytes-next page at (at + 6) (address_bytes node.prev) (address_bytes node.next) refl (omega arith)

-- the fields of a header that are written one behind the other
abbrev pub header_fields : List ℕ → SpaceHeader → List ℕ
header_fields page header =
    let size = with_bytes (with_bytes page 38 (be_bytes 4 header.space)) 46 (be_bytes 4 header.size) in
    let limit = with_bytes size 50 (be_bytes 4 header.limit) in
    let flags = with_bytes limit 54 (be_bytes 4 header.flags) in
    let frag_used = with_bytes flags 58 (be_bytes 4 header.frag_used) in
    let free = with_bytes frag_used 62 (base_bytes header.free) in
    let free_frag = with_bytes free 78 (base_bytes header.free_frag) in
    let full_frag = with_bytes free_frag 94 (base_bytes header.full_frag) in
    let next_segment = with_bytes full_frag 110 (be_bytes 8 header.next_segment) in
    let inodes_full = with_bytes next_segment 118 (base_bytes header.inodes_full) in
    with_bytes inodes_full 134 (base_bytes header.inodes_free)

-- one more field
more : (page : List ℕ) (xs now : List ℕ) (next : ℕ) (ys : List ℕ) → length page ≡ 16384 → now ≡ with_bytes page 46 xs
    → next ≡ 46 + length xs → next ≤ 16384 → with_bytes now next ys ≡ with_bytes page 46 (xs ++ ys)
more page xs now next ys size is there inside =
    ap (λ (p : List ℕ). with_bytes p next ys) is ∙ with_bytes-next page 46 next xs ys there (omega arith)

pub header_written : (page : List ℕ) (header : SpaceHeader) → length page ≡ 16384
    → header_fields page header ≡ with_header page header
unfolding with_header header_bytes base_bytes address_bytes
header_written page header size =
    let first = with_bytes page 38 (be_bytes 4 header.space) in
    let first_size : length first ≡ 16384 = length-with_bytes page 38 (be_bytes 4 header.space) (omega
    (arith, size)) ∙ size in
    let add = λ (xs now : List ℕ) (next : ℕ) (ys : List ℕ). more first xs now next ys first_size in
    add _ _ 134 (base_bytes header.inodes_free)
    (add _ _ 118 (base_bytes header.inodes_full)
    (add _ _ 110 (be_bytes 8 header.next_segment)
    (add _ _ 94 (base_bytes header.full_frag)
    (add _ _ 78 (base_bytes header.free_frag)
    (add _ _ 62 (base_bytes header.free)
    (add _ _ 58 (be_bytes 4 header.frag_used)
    (add _ _ 54 (be_bytes 4 header.flags)
    (add (be_bytes 4 header.size) _ 50 (be_bytes 4 header.limit) refl refl (lit≤ tt))
    refl (lit≤ tt)) refl (lit≤ tt)) refl (lit≤ tt)) refl (lit≤ tt)) refl (lit≤ tt)) refl (lit≤ tt)) refl
    (lit≤ tt)) refl (lit≤ tt)

-- the numbers of a header after its space id
abbrev header_numbers : SpaceHeader → List (ℕ × ℕ)
header_numbers header =
    let inodes = base_numbers header.inodes_full (base_numbers header.inodes_free []) in
    let full_frag = base_numbers header.full_frag ((8, header.next_segment) ∷ inodes) in
    let lists = base_numbers header.free (base_numbers header.free_frag full_frag) in
    (4, header.size) ∷ (4, header.limit) ∷ (4, header.flags) ∷ (4, header.frag_used) ∷ lists

header_fits : (header : SpaceHeader) → FitsHeader header → AllFit (header_numbers header)
header_fits header fits =
    let numbers = header_numbers header in
    let inodes = base_fits header.inodes_full (drop 25 numbers) fits.inodes_full
    (base_fits header.inodes_free [] fits.inodes_free tt) in
    let full_frag = base_fits header.full_frag (drop 19 numbers) fits.full_frag (fits.next_segment, inodes) in
    let free_frag = base_fits header.free_frag (drop 14 numbers) fits.free_frag full_frag in
    let lists = base_fits header.free (drop 9 numbers) fits.free free_frag in
    (fits.size, (fits.limit, (fits.flags, (fits.frag_used, lists))))

header_from : (page : List ℕ) (header : SpaceHeader) → num page 38 4 ≡ header.space
    → AreRead page 46 (header_numbers header) → header_of page ≡ header
unfolding header_of
header_from page header space read =
    let numbers = header_numbers header in
    let free = base_from page 62 header.free (drop 9 numbers) read.1.1.1.1 in
    let free_frag = base_from page 78 header.free_frag (drop 14 numbers) free.1 in
    let full_frag = base_from page 94 header.full_frag (drop 19 numbers) free_frag.1 in
    let inodes_full = base_from page 118 header.inodes_full (drop 25 numbers) full_frag.1.1 in
    let inodes_free = base_from page 134 header.inodes_free [] inodes_full.1 in
    rw (space, read.0, read.1.0, read.1.1.0, read.1.1.1.0)
    (rw (free.0, free_frag.0, full_frag.0, full_frag.1.0, inodes_full.0, inodes_free.0) refl)

pub header_read : (page : List ℕ) (header : SpaceHeader) → length page ≡ 16384 → FitsHeader header
    → header_of (with_header page header) ≡ header
unfolding with_header header_bytes base_bytes address_bytes
header_read page header size fits =
    let first = with_bytes page 38 (be_bytes 4 header.space) in
    let first_size : length first ≡ 16384 = length-with_bytes page 38 (be_bytes 4 header.space) (omega (arith, size))
    ∙ size in
    let bytes = header_bytes header in
    header_from (with_bytes first 46 bytes) header
    (num-written first 16384 ((46, bytes) ∷ []) 38 4 first_size refl refl
    ∙ num-with_bytes page 38 4 header.space (omega (arith, size)) fits.space)
    (fields_read first 46 bytes (header_numbers header) refl (omega (arith, first_size)) (header_fits header fits))
