-- What stands on a page of a part.
use Rattle.std.proofs.Common.{◌≡◌, ℕ, ◌+◌, ◌^◌, ◌<◌, ◌≤◌, List, ◌++◌, length, get_or, slice_range, replicate}
use Rattle.std.proofs.Common.{refl, sym, ap, ◌∙◌, subst, arith, lit<, length-append}
use Rattle.std.proofs.lemmas.List.{same_lists, get_or-append-add, get_or_default, length-replicate, get_or-replicate}
use Rattle.std.proofs.lemmas.List.Edits.{get_or-between, length-between}
use Rattle.byteorder.specs.Numbers.{length-bytes_high_first}
use Rattle.page_source.specs.Pages.{num, be_bytes, with_bytes, page_size}
use Rattle.page_source.proofs.Written.{length-with_bytes, get_or-with_bytes_at, get_or-with_bytes_before}
use Rattle.page_source.proofs.Written.{num_from_bytes}
use Rattle.column_values.proofs.Bytes.{num-be_bytes}
use Rattle.fil_frame.specs.declared.frame.SumKind.TheVariants.{Crc32}
use Rattle.fil_frame.specs.Kinds.{blob_kind}
use Rattle.fil_frame.specs.Sums.{page_sum_of}
use Rattle.fil_frame.specs.Frame.{Seals, sealed, with_frame}
use Rattle.fil_frame.proofs.Sealed.{SealsAs-sealed_as, sealed_as-crc32, length-with_frame}
use Rattle.offpage_chain.specs.Chain.{part_length, next_part, part_bytes}
use Rattle.offpage_chain.specs.ValuePage.{part_body, part_page}
use Rattle.offpage_chain.specs.ValuePageLaws.{IsPartPage}

abbrev zeros : List ℕ
zeros = replicate page_size 0

zeros_length : length zeros ≡ 16384
zeros_length = length-replicate {A = ℕ} 16384 0

-- a sealed page
sealed_seals : (page : List ℕ) (n space : ℕ) → length page ≡ 16384 → n < 2 ^ 32 → space < 2 ^ 32
    → Seals page (sealed page n space 1 blob_kind) n space 1 blob_kind
sealed_seals page n space size small here =
    subst (λ (new : List ℕ). Seals page new n space 1 blob_kind) (sealed_as-crc32 page n space 1 blob_kind size)
    (SealsAs-sealed_as page n space 1 blob_kind Crc32 size small here (lit< tt) (lit< tt)).seals

sealed_length : (page : List ℕ) (n space : ℕ) → length page ≡ 16384
    → length (sealed page n space 1 blob_kind) ≡ 16384
unfolding sealed
sealed_length page n space size =
    let framed = with_frame page n space 1 blob_kind in
    let sum = be_bytes 4 (page_sum_of framed) in
    let once = with_bytes framed 0 sum in
    let framed_size = length-with_frame page n space 1 blob_kind size in
    let once_size : length once ≡ 16384 = length-with_bytes framed 0 sum (omega arith) ∙ framed_size in
    length-with_bytes once 16376 sum (omega arith) ∙ once_size

-- the body of a sealed page is as before, and so are its links
seal_same : (old new : List ℕ) (n space : ℕ) → Seals old new n space 1 blob_kind → (k : ℕ) → 38 + k < 16376
    → get_or new (38 + k) 0 ≡ get_or old (38 + k) 0
seal_same old new n space h k inside =
    sym (get_or-between new 38 16376 k 0 inside) ∙ ap (λ (xs : List ℕ). get_or xs k 0) h.body
    ∙ get_or-between old 38 16376 k 0 inside

link_same : (old new : List ℕ) (n space : ℕ) → Seals old new n space 1 blob_kind → (k : ℕ) → 8 + k < 16
    → get_or new (8 + k) 0 ≡ get_or old (8 + k) 0
link_same old new n space h k inside =
    sym (get_or-between new 8 16 k 0 inside) ∙ ap (λ (xs : List ℕ). get_or xs k 0) h.links
    ∙ get_or-between old 8 16 k 0 inside

no_number : num (replicate 4 0) 0 4 ≡ 0
unfolding num
no_number = refl

module _ (part : List ℕ) (next : ℕ) (short : length part ≤ 16330) (small : next < 2 ^ 32) where
  abbrev bytes : List ℕ
  bytes = part_body part next

  abbrev body : List ℕ
  body = with_bytes zeros 38 bytes

  bytes_long : length bytes ≡ 8 + length part
  bytes_long =
      let first = length-bytes_high_first 4 (length part) in
      let second = length-bytes_high_first 4 next in
      let all = length-append (be_bytes 4 (length part)) (be_bytes 4 next ++ part) in
      let rest = length-append (be_bytes 4 next) part in
      omega arith

  body_long : length body ≡ 16384
  body_long =
      let size = bytes_long in
      let zero = zeros_length in
      length-with_bytes zeros 38 bytes (omega arith) ∙ zero

  -- byte k behind the two numbers
  part_byte : (k : ℕ) → get_or bytes (8 + k) 0 ≡ get_or part k 0
  part_byte k =
      let first = length-bytes_high_first 4 (length part) in
      let second = length-bytes_high_first 4 next in
      let a : 8 + k ≡ length (be_bytes 4 (length part)) + (4 + k) = omega arith in
      let b : 4 + k ≡ length (be_bytes 4 next) + k = omega arith in
      ap (λ n. get_or bytes n 0) a
      ∙ get_or-append-add (be_bytes 4 (length part)) (be_bytes 4 next ++ part) (4 + k) 0
      ∙ ap (λ n. get_or (be_bytes 4 next ++ part) n 0) b
      ∙ get_or-append-add (be_bytes 4 next) part k 0

  module _ (page : List ℕ) (n space : ℕ) (seals : Seals body page n space 1 blob_kind) where
    page_byte : (k : ℕ) → k < length bytes → get_or page (38 + k) 0 ≡ get_or bytes k 0
    page_byte k below =
        let size = bytes_long in
        let zero = zeros_length in
        seal_same body page n space seals k (omega arith)
        ∙ get_or-with_bytes_at zeros 38 bytes k 0 (omega arith) below

    -- the links are zeros
    link_byte : (k : ℕ) → k < 8 → get_or page (8 + k) 0 ≡ 0
    link_byte k below =
        let zero = zeros_length in
        link_same body page n space seals k (omega arith)
        ∙ get_or-with_bytes_before zeros 38 bytes (8 + k) 0 (omega arith) (omega arith)
        ∙ get_or-replicate 16384 (8 + k) 0 0 (omega arith)

    link_read : (at : ℕ) → at + 4 ≤ 8 → num page (8 + at) 4 ≡ 0
    link_read at inside =
        num_from_bytes page (replicate 4 0) (8 + at) 0 4
        (λ k below. let place : 8 + at + k ≡ 8 + (at + k) = omega arith in
        ap (λ m. get_or page m 0) place ∙ link_byte (at + k) (omega arith)
        ∙ sym (get_or-replicate 4 (0 + k) 0 0 (omega arith)))
        ∙ no_number

    number_at : (at : ℕ) → at + 4 ≤ length bytes → num page (38 + at) 4 ≡ num bytes at 4
    number_at at inside = num_from_bytes page bytes (38 + at) at 4
        (λ k below. let place : 38 + at + k ≡ 38 + (at + k) = omega arith in
        ap (λ m. get_or page m 0) place ∙ page_byte (at + k) (omega arith))

    length_read : part_length page ≡ length part
    length_read =
        let size = bytes_long in
        number_at 0 (omega arith) ∙ num-be_bytes 4 (length part) (be_bytes 4 next ++ part) (omega arith)

    next_read : next_part page ≡ next
    next_read =
        let size = bytes_long in
        let first = length-bytes_high_first 4 (length part) in
        number_at 4 (omega arith)
        ∙ num_from_bytes bytes (be_bytes 4 next ++ part) 4 0 4
        (λ k below.
        let a : 4 + k ≡ length (be_bytes 4 (length part)) + k = omega arith in
        let b : 0 + k ≡ k = omega arith in
        ap (λ m. get_or bytes m 0) a
        ∙ get_or-append-add (be_bytes 4 (length part)) (be_bytes 4 next ++ part) k 0
        ∙ ap (λ m. get_or (be_bytes 4 next ++ part) m 0) (sym b))
        ∙ num-be_bytes 4 next part (omega arith)

    -- the page has its bytes
    module _ (whole : length page ≡ 16384) where
      cut_long : length (slice_range page 46 (46 + length part)) ≡ length part
      cut_long = length-between page 46 (46 + length part) (omega arith) ∙ omega arith

      bytes_read : part_bytes page ≡ part
      bytes_read =
          ap (λ m. slice_range page 46 (46 + m)) length_read
          ∙ same_lists (slice_range page 46 (46 + length part)) part cut_long
          (λ k d below.
          let size = bytes_long in
          let long = cut_long in
          let place : 46 + k ≡ 38 + (8 + k) = omega arith in
          get_or-between page 46 (46 + length part) k d (omega arith)
          ∙ get_or_default page (46 + k) d 0 (omega arith)
          ∙ ap (λ m. get_or page m 0) place ∙ page_byte (8 + k) (omega arith) ∙ part_byte k
          ∙ get_or_default part k 0 d (omega arith))

pub part_page_read : (space n next : ℕ) (part : List ℕ) → space < 2 ^ 32 → n < 2 ^ 32 → next < 2 ^ 32
    → length part ≤ 16330 → IsPartPage (part_page space n next part) space n next part
unfolding part_page
part_page_read space n next part here small next_small short =
    let page = part_page space n next part in
    let old = with_bytes zeros 38 (part_body part next) in
    let long = body_long part next short next_small in
    let whole : length page ≡ 16384 = sealed_length old n space long in
    let seals : Seals old page n space 1 blob_kind = sealed_seals old n space long small here in
    record {
      whole = whole;
      framed = seals.framed;
      has_lsn = seals.has_lsn;
      has_kind = seals.has_kind;
      no_previous = link_read part next short next_small page n space seals 0 (omega arith);
      no_next = link_read part next short next_small page n space seals 4 (omega arith);
      size = length_read part next short next_small page n space seals;
      next_is = next_read part next short next_small page n space seals;
      bytes_are = bytes_read part next short next_small page n space seals whole;
    }
