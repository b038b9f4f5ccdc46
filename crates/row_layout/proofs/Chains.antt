-- The chain of a value whose parts stand on their pages.
use Rattle.std.proofs.Common.{◌≡◌, ℕ, ◌+◌, ◌-◌, ◌*◌, ◌<◌, ◌≤◌, List, length, take, drop, map}
use Rattle.std.proofs.Common.{get_or, refl, sym, ap, ◌∙◌, arith, inl, inr, length-drop}
use Rattle.std.specs.List.{flat_map, range_with_len}
use Rattle.std.proofs.lemmas.Bool.{ne_eqb, eq-eqb, cases_lt}
use Rattle.std.proofs.lemmas.List.{length-take, take_all, get_or_past}
use Rattle.std.proofs.lemmas.List.Folds.{flat_map-map}
use Rattle.std.proofs.lemmas.List.FromFn.{get_or-map-range_with_len, length-map-range_with_len}
use Rattle.page_source.specs.Pages.{page_of, fil_null}
use Rattle.page_source.specs.Lists.{after_place}
use Rattle.offpage_chain.specs.declared.reference.Reference.{Reference}
use Rattle.offpage_chain.specs.Chain.{part_length, next_part, part_bytes, bytes_on, total_on, IsPartLength, RefersHere}
use Rattle.offpage_chain.specs.Chain.{IsBlobPage, IsChain}
use Rattle.row_layout.specs.HoldsValues.{pages_for, blob_part, HoldsBytes, next_number}
use Rattle.row_layout.proofs.Ranges.{flat_same, all_map, pieces_join, sum_lengths}

-- each part has a byte, and only the last has fewer than fit a page
length-part : (bytes : List ℕ) (k : ℕ) → k < pages_for (length bytes)
    → (1 ≤ length (blob_part bytes k)) × (length (blob_part bytes k) ≤ 16330)
length-part bytes k within =
    let from : 16330 * k + 16330 - 16330 * k ≡ 16330 = omega arith in
    let left = length-drop (16330 * k) bytes in
    rw from
    (let size = length-take 16330 (drop (16330 * k) bytes) in (omega arith, omega arith))

-- all parts are the bytes
pub parts_join : (bytes : List ℕ) → flat_map (blob_part bytes) (range_with_len 0 (pages_for (length bytes))) ≡ bytes
parts_join bytes =
    flat_same (blob_part bytes) (λ k. take 16330 (drop (16330 * k) bytes)) 0 (pages_for (length bytes))
    (λ k low high.
    let from : 16330 * k + 16330 - 16330 * k ≡ 16330 = omega arith in
    ap (λ n. take n (drop (16330 * k) bytes)) from)
    ∙ pieces_join bytes 16330 0 (pages_for (length bytes))
    ∙ take_all (16330 * pages_for (length bytes)) bytes (omega arith)

unfoldable pub pages_in : (ℕ → ℕ) → List ℕ → List ℕ
pages_in number bytes = map number (range_with_len 0 (pages_for (length bytes)))

module _ (file : List ℕ) (segment : ℕ) (number : ℕ → ℕ) (bytes : List ℕ)
    (holds : HoldsBytes file segment number bytes) where
  -- the bytes on these pages
  pub bytes_are : bytes_on file (pages_in number bytes) ≡ bytes
  unfolding bytes_on pages_in
  bytes_are =
      flat_map-map (λ n. part_bytes (page_of file n)) number (range_with_len 0 (pages_for (length bytes)))
      ∙ flat_same (λ k. part_bytes (page_of file (number k))) (blob_part bytes) 0 (pages_for (length bytes))
      (λ k low high. (holds k (omega arith)).bytes_are)
      ∙ parts_join bytes

  -- and how many
  total_is : total_on file (pages_in number bytes) ≡ length bytes
  unfolding total_on pages_in
  total_is =
      sum_lengths (λ n. part_length (page_of file n)) number (blob_part bytes) 0 (pages_for (length bytes))
      (λ k low high. (holds k (omega arith)).size)
      ∙ ap length (parts_join bytes)

  length-pages : length (pages_in number bytes) ≡ pages_for (length bytes)
  unfolding pages_in
  length-pages = length-map-range_with_len number 0 (pages_for (length bytes))

  page_at : (k d : ℕ) → k < pages_for (length bytes) → get_or (pages_in number bytes) k d ≡ number k
  unfolding pages_in
  page_at k d within = get_or-map-range_with_len number 0 (pages_for (length bytes)) k k d within (omega arith)

  -- they are a chain
  pub is_chain : (reference : Reference) → RefersHere file reference → 0 < length bytes
      → reference.page ≡ number 0 → reference.length ≡ length bytes
      → IsChain file segment reference (pages_in number bytes)
  unfolding pages_in
  is_chain reference here some first size = record {
    here = here;
    some_page = let size = length-pages in omega arith;
    first = page_at 0 0 (omega arith) ∙ sym first;
    next = λ k below.
        let all = length-pages in
        let within : k < pages_for (length bytes) = omega arith in
        ap (λ n. next_part (page_of file n)) (page_at k 0 within) ∙ (holds k within).next_is ∙ sym (after k within);
    parts = all_map (λ n. IsPartLength (part_length (page_of file n))) number (pages_for (length bytes)) 0
        (λ k within. rw (holds k within).size (length-part bytes k within));
    total = total_is ∙ sym size;
    blobs = all_map (IsBlobPage file segment) number (pages_for (length bytes)) 0 (λ k within. (holds k within).blob);
  }
    where
      -- the page behind one of them
      after : (k : ℕ) → k < pages_for (length bytes)
          → after_place fil_null (pages_in number bytes) k ≡ next_number number (pages_for (length bytes)) k
      after k within = elim (cases_lt (k + 1) (pages_for (length bytes))) [
        | inl more ↦ page_at (k + 1) fil_null more ∙ rw (ne_eqb (k + 1) (pages_for (length bytes)) (omega arith)) refl
        | inr last ↦
            let all = length-pages in
            get_or_past (pages_in number bytes) (k + 1) fil_null (omega arith)
            ∙ rw (eq-eqb (k + 1) (pages_for (length bytes)) (omega arith)) refl
      ]
