-- The pages of a value are the chain of its reference.
use Rattle.std.proofs.Common.{◌≡◌, ℕ, zero, suc, ◌+◌, ◌*◌, ◌-◌, ◌^◌, ◌<◌, ◌≤◌, List, [], ◌∷◌, ◌++◌, length, take, drop}
use Rattle.std.proofs.Common.{All, get_or, flat_map, refl, sym, ap, ◌∙◌, subst, arith, inl, inr, slice_index}
use Rattle.std.proofs.Common.{length-append, length-drop}
use Rattle.std.specs.List.{range_with_len, sum_by}
use Rattle.std.proofs.Math.Seq.{take-add}
use Rattle.std.proofs.lemmas.Bool.{cases_lt}
use Rattle.std.proofs.lemmas.List.{length-take, take_all, get_or_past, drop-drop}
use Rattle.std.proofs.lemmas.List.Sums.{sum_by-cons}
use Rattle.std.proofs.lemmas.List.Elements.{All-get_or, All-from_get_or}
use Rattle.page_source.specs.Pages.{page_of, fil_null}
use Rattle.page_source.specs.Lists.{after_place}
use Rattle.offpage_chain.specs.declared.reference.Reference.{Reference}
use Rattle.offpage_chain.specs.Chain.{part_length, next_part, part_bytes, chain_pages, bytes_on, total_on, IsPartLength}
use Rattle.offpage_chain.specs.Chain.{IsBlobPage}
use Rattle.offpage_chain.specs.ValuePage.{pages_for, blob_part, value_page}
use Rattle.offpage_chain.specs.ValuePageLaws.{IsPartPage, HasValuePages, IsReferenceTo, LeadsAlong}
use Rattle.offpage_chain.proofs.Links.{Links, chain_links, links_pages, links_go_on}
use Rattle.offpage_chain.proofs.PartPages.{part_page_read}
use Rattle.offpage_chain.proofs.Writes.{part_short}

-- what is the same for each place of a list
flat_at : (g f : ℕ → List ℕ) (xs : List ℕ) (from : ℕ)
    → ((k : ℕ) → k < length xs → g (slice_index xs k) ≡ f (from + k))
    → flat_map g xs ≡ flat_map f (range_with_len from (length xs))
flat_at g f [] from same = refl
flat_at g f (x ∷ xs) from same =
    let here : g x ≡ f from = same 0 (omega arith) ∙ ap f (omega arith) in
    let rest = flat_at g f xs (from + 1)
    (λ k below. let next : from + suc k ≡ from + 1 + k = omega arith in same (suc k) (omega arith) ∙ ap f next) in
    rw (here, rest) refl

sum_at : (g : ℕ → ℕ) (f : ℕ → List ℕ) (xs : List ℕ) (from : ℕ)
    → ((k : ℕ) → k < length xs → g (slice_index xs k) ≡ length (f (from + k)))
    → sum_by g xs ≡ length (flat_map f (range_with_len from (length xs)))
sum_at g f [] from same = refl
sum_at g f (x ∷ xs) from same =
    let first : from + 0 ≡ from = omega arith in
    let here : g x ≡ length (f from) = same 0 (omega arith) ∙ ap (λ m. length (f m)) first in
    let rest = sum_at g f xs (from + 1)
    (λ k below. let next : from + suc k ≡ from + 1 + k = omega arith in
    same (suc k) (omega arith) ∙ ap (λ m. length (f m)) next) in
    sum_by-cons g x xs ∙ rw (here, rest)
    (sym (length-append (f from) (flat_map f (range_with_len (from + 1) (length xs)))))

-- pieces of a list, one after another
pieces_join : (xs : List ℕ) (c from count : ℕ)
    → flat_map (λ k. take c (drop (c * k) xs)) (range_with_len from count) ≡ take (c * count) (drop (c * from) xs)
pieces_join xs c from zero = let none : c * 0 ≡ 0 = omega arith in rw none refl
pieces_join xs c from (suc count) =
    let rest = pieces_join xs c (from + 1) count in
    let next : c * (from + 1) ≡ c * from + c = omega arith in
    let all : c * suc count ≡ c + c * count = omega arith in
    ap (λ ys. take c (drop (c * from) xs) ++ ys)
    (rest ∙ ap (λ n. take (c * count) (drop n xs)) next
    ∙ ap (take (c * count)) (sym (drop-drop c (c * from) xs)))
    ∙ sym (take-add c (c * count) (drop (c * from) xs)) ∙ ap (λ n. take n (drop (c * from) xs)) (sym all)

-- a part has as many bytes as a page holds, or those that are left
part_is : (bytes : List ℕ) (k : ℕ) → blob_part bytes k ≡ take 16330 (drop (16330 * k) bytes)
part_is bytes k =
    let from : 16330 * k + 16330 - 16330 * k ≡ 16330 = omega arith in
    ap (λ n. take n (drop (16330 * k) bytes)) from

part_some : (bytes : List ℕ) (k : ℕ) → k < pages_for (length bytes) → 1 ≤ length (blob_part bytes k)
part_some bytes k within =
    let left = length-drop (16330 * k) bytes in
    let size = length-take 16330 (drop (16330 * k) bytes) in
    let same = ap length (part_is bytes k) in
    omega arith

-- the next number fits its bytes
next_fits : (numbers : List ℕ) → All (λ n. n < fil_null) numbers → (k : ℕ) → after_place fil_null numbers k < 2 ^ 32
next_fits numbers real k = elim (cases_lt (k + 1) (length numbers)) [
  | inl more ↦
      let next = All-get_or (λ n. n < fil_null) numbers (k + 1) fil_null more real in
      omega arith
  | inr past ↦ let last = get_or_past numbers (k + 1) fil_null past in omega arith
]

-- what is read of the page of a part
pub value_page_read : (space : ℕ) (numbers bytes : List ℕ) → space < 2 ^ 32 → All (λ n. n < fil_null) numbers
    → (k : ℕ) → k < length numbers
    → IsPartPage (value_page space numbers bytes k) space (slice_index numbers k) (after_place fil_null numbers k)
    (blob_part bytes k)
value_page_read space numbers bytes here real k within =
    let number : slice_index numbers k < fil_null = All-get_or (λ n. n < fil_null) numbers k 0 within real in
    part_page_read space (slice_index numbers k) (after_place fil_null numbers k) (blob_part bytes k) here (omega arith)
    (next_fits numbers real k) (part_short bytes k)

module _ (file : List ℕ) (space : ℕ) (numbers bytes : List ℕ) (has : HasValuePages file space numbers bytes) where
  -- what is read of each page
  page_read : (k : ℕ) → k < length numbers
      → IsPartPage (page_of file (slice_index numbers k)) space (slice_index numbers k) (after_place fil_null numbers k)
      (blob_part bytes k)
  page_read k within =
      subst (λ (page : List ℕ). IsPartPage page space (slice_index numbers k) (after_place fil_null numbers k)
      (blob_part bytes k))
      (sym (has.pages k within)) (value_page_read space numbers bytes has.space_fits has.are_pages k within)

  -- the parts one after another
  parts_join : flat_map (blob_part bytes) (range_with_len 0 (length numbers)) ≡ bytes
  parts_join =
      let count = has.count in
      flat_range 0 (length numbers) ∙ pieces_join bytes 16330 0 (length numbers)
      ∙ take_all (16330 * length numbers) bytes (omega arith)
    where
      flat_range : (from count : ℕ) → flat_map (blob_part bytes) (range_with_len from count)
          ≡ flat_map (λ k. take 16330 (drop (16330 * k) bytes)) (range_with_len from count)
      flat_range from zero = refl
      flat_range from (suc count) = rw (part_is bytes from, flat_range (from + 1) count) refl

  bytes_joined : bytes_on file numbers ≡ bytes
  unfolding bytes_on
  bytes_joined =
      flat_at (λ n. part_bytes (page_of file n)) (blob_part bytes) numbers 0
      (λ k below. let place : k ≡ 0 + k = omega arith in
      (page_read k below).bytes_are ∙ ap (blob_part bytes) place)
      ∙ parts_join

  total_is : total_on file numbers ≡ length bytes
  unfolding total_on
  total_is =
      sum_at (λ n. part_length (page_of file n)) (blob_part bytes) numbers 0
      (λ k below. let place : k ≡ 0 + k = omega arith in
      (page_read k below).size ∙ ap (λ m. length (blob_part bytes m)) place)
      ∙ ap length parts_join

  parts_fit : All (λ n. IsPartLength (part_length (page_of file n))) numbers
  parts_fit =
      All-from_get_or (λ n. IsPartLength (part_length (page_of file n))) numbers 0
      (λ k below.
      let count = has.count in
      let size = (page_read k below).size in
      let some = part_some bytes k (omega arith) in
      let short = part_short bytes k in
      (omega arith, omega arith))

  next_is : (k : ℕ) → k < length numbers
      → next_part (page_of file (get_or numbers k 0)) ≡ after_place fil_null numbers k
  next_is k below = (page_read k below).next_is

  module _ (reference : Reference) (to : IsReferenceTo reference numbers bytes) where
    links : Links file reference.page reference.length numbers
    links =
        chain_links file reference.page reference.length numbers (λ some. to.first) next_is parts_fit has.are_pages
        (total_is ∙ sym to.size)

    unfolded : chain_pages file reference ≡ numbers
    unfolding chain_pages
    unfolded =
        sym (links_pages file reference.page reference.length reference.length numbers (omega arith) links)

    pub leads_along : LeadsAlong file reference numbers bytes
    leads_along = record {
      pages = unfolded;
      bytes_are = bytes_joined;
      goes_on = λ inside. links_go_on file reference.page reference.length numbers links inside;
      chain = λ segment some here used. record {
        here = here;
        some_page = let count = has.count in omega arith;
        first = sym to.first;
        next = next_is;
        parts = parts_fit;
        total = total_is ∙ sym to.size;
        blobs = All-from_get_or (IsBlobPage file segment) numbers 0
            (λ k below. record {
              below = (used k 0 below).0;
              used = (used k 0 below).1;
              has_kind = (page_read k below).has_kind;
            });
      };
    }
