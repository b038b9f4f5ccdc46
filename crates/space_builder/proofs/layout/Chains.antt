-- The pages of a chain that is written are those of the layout.
use Rattle.std.proofs.Common.{◌≡◌, ℕ, ◌+◌, ◌<◌, cond, length, map, get_or, ap, sym, ◌∙◌, arith}
use Rattle.std.proofs.Common.{inl, inr}
use Rattle.std.specs.List.{range_with_len}
use Rattle.std.proofs.lemmas.Bool.Decides.{eqb_tells}
use Rattle.std.proofs.lemmas.List.{get_or_past}
use Rattle.std.proofs.lemmas.List.FromFn.{get_or-map-range_with_len, length-map-range_with_len}
use Rattle.page_source.specs.Pages.{fil_null}
use Rattle.offpage_chain.specs.ValuePage.{pages_for, blob_part, part_page}
use Rattle.row_layout.specs.HoldsValues.{next_number}
use Rattle.space_builder.specs.layout.ValuePage.{value_page_bytes, PagesAreOfChains}

next_is : (number : ℕ → ℕ) (count k : ℕ) → k < count
    → get_or (map number (range_with_len 0 count)) (k + 1) fil_null ≡ next_number number count k
next_is number count k below =
    let size = length-map-range_with_len number 0 count in
    elim (eqb_tells (k + 1) count) [
      | inl last ↦
          get_or_past (map number (range_with_len 0 count)) (k + 1) fil_null (let e = last.1 in omega arith)
          ∙ sym (ap (λ b. cond b fil_null (number (k + 1))) last.0)
      | inr more ↦
          get_or-map-range_with_len number 0 count (k + 1) (k + 1) fil_null (let no = more.1 in omega arith)
          (omega arith)
          ∙ sym (ap (λ b. cond b fil_null (number (k + 1))) more.0)
    ]

pub chain_pages_law : PagesAreOfChains
unfolding value_page_bytes
chain_pages_law number bytes k below =
    let count = pages_for (length bytes) in
    ap (λ n. part_page 1 n (get_or (map number (range_with_len 0 count)) (k + 1) fil_null) (blob_part bytes k))
    (get_or-map-range_with_len number 0 count k k 0 below (omega arith))
    ∙ ap (λ next. part_page 1 (number k) next (blob_part bytes k)) (next_is number count k below)
