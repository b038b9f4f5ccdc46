-- The parts of entries, field by field.
use Rattle.std.proofs.Common.{◌≡◌, ℕ, ◌-◌, ◌<◌, ◌≤◌, min, List, [], ◌++◌, length, map, take, get_or}
use Rattle.std.proofs.Common.{drop, length-drop, sym, ap, ◌∙◌, arith, inl, inr}
use Rattle.std.specs.List.{range_with_len}
use Rattle.std.proofs.lemmas.Bool.{cases_lt}
use Rattle.std.proofs.lemmas.List.{get_or-map, length-map, take_all}
use Rattle.std.proofs.lemmas.List.FromFn.{get_or-map-range_with_len, length-map-range_with_len, take-map-range_with_len}
use Rattle.schema_text.specs.declared.table.Format.{Format}
use Rattle.page_packer.specs.Entries.{Entry, entry_at}
use Rattle.row_layout.specs.StoredRow.{Stored, parts_of_row, kept, kept_prefix}
use Rattle.row_layout.specs.StoredRow.{off_local}
use Rattle.offpage_chain.specs.Reference.{reference_bytes}
use Rattle.row_layout.specs.HoldsValues.{stored_in, clustered_entry, clustered_entries}
use Rattle.space_builder.specs.calls.Picked.{clustered_part, picked_entry, picked_entries}

-- the first ones of a list, at most all
pub take_least : {X : Type 0} (n k : ℕ) (xs : List X) → k ≡ min n (length xs) → take k xs ≡ take n xs
take_least n k xs is = elim (cases_lt n (length xs)) [
  | inl less ↦ let e : k ≡ n = omega arith in ap (λ (m : ℕ). take m xs) e
  | inr more ↦
      let e : k ≡ length xs = omega arith in
      take_all k xs (omega arith) ∙ sym (take_all n xs (omega arith))
]

module _ (format : Format) (number : ℕ → ℕ → ℕ → ℕ) (rows : List (List Stored)) where
  -- the records of the rows
  pub count_clustered : length (clustered_entries format number rows) ≡ length rows
  unfolding clustered_entries
  count_clustered = length-map-range_with_len (clustered_entry format number rows) 0 (length rows)

  pub clustered_at : (r : ℕ) → r < length rows
      → entry_at (clustered_entries format number rows) r ≡ clustered_entry format number rows r
  unfolding clustered_entries
  clustered_at r within =
      get_or-map-range_with_len (clustered_entry format number rows) 0 (length rows) r r [] within (omega arith)

  pub clustered_width : (r : ℕ) → length (clustered_entry format number rows r) ≡ length (stored_in rows r)
  unfolding parts_of_row
  clustered_width r =
      length-map-range_with_len (clustered_part format number rows r) 0 (length (stored_in rows r))

  -- and their first parts
  pub first_parts : (r count : ℕ) → count ≤ length (stored_in rows r)
      → map (clustered_part format number rows r) (range_with_len 0 count)
      ≡ take count (clustered_entry format number rows r)
  unfolding parts_of_row
  first_parts r count within =
      sym (take-map-range_with_len (clustered_part format number rows r) 0 (length (stored_in rows r)) count within)

  pub all_parts : (r : ℕ)
      → take (length (stored_in rows r)) (clustered_entry format number rows r) ≡ clustered_entry format number rows r
  all_parts r =
      take_all (length (stored_in rows r)) (clustered_entry format number rows r)
      (omega (arith, clustered_width r))

-- the entries of rows in some order
module _ (fields : List ℕ) (rows : List (List Stored)) (order : List ℕ) where
  abbrev pub picked : ℕ → Entry
  picked r = picked_entry fields (stored_in rows r)

  pub count_picked : length (picked_entries fields rows order) ≡ length order
  unfolding picked_entries
  count_picked = length-map order picked

  pub picked_at : (k : ℕ) → k < length order
      → entry_at (picked_entries fields rows order) k ≡ picked (get_or order k 0)
  unfolding picked_entries
  picked_at k within = get_or-map picked order k 0 [] within

-- what stays on the page of a value that goes on elsewhere
pub off_local_is : (format : Format) (page : ℕ) (bytes : List ℕ) (prefix size : ℕ)
    → prefix ≡ min (kept_prefix format) (length bytes) → size ≡ length bytes - prefix
    → take prefix bytes ++ reference_bytes (record { space = 1; page = page; offset = 38; length = size })
    ≡ off_local format page (kept bytes)
off_local_is format page bytes prefix size is rest =
    let most = kept_prefix format in
    let gone : size ≡ length (drop most bytes) = omega (arith, is, rest, length-drop most bytes) in
    ap (λ (xs : List ℕ). xs ++ reference_bytes (record { space = 1; page = page; offset = 38; length = size }))
    (take_least most prefix bytes is)
    ∙ ap (λ (n : ℕ). take most bytes
    ++ reference_bytes (record { space = 1; page = page; offset = 38; length = n })) gone
