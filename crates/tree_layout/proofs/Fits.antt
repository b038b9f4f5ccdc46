-- The parts of the entries of each level fit their fields.
use Rattle.std.proofs.Common.{◌≡◌, ℕ, zero, suc, ◌<◌, List, [], ◌∷◌, length, get_or, take}
use Rattle.std.proofs.Common.{false, sym, subst, arith, inl, inr}
use Rattle.std.specs.List.{All, AllZip}
use Rattle.std.proofs.lemmas.Bool.{cases_lt}
use Rattle.page_source.specs.Pages.{be_bytes}
use Rattle.column_values.specs.Types.{Fields, AreOfOneIndex, child_field}
use Rattle.compact_record.specs.Reading.{field_count}
use Rattle.compact_record.specs.declared.parts.Part.TheVariants.{Bytes}
use Rattle.compact_record.specs.Writing.{FitsField, FitFields}
use Rattle.tree_layout.specs.Entries.{Entry}
use Rattle.tree_layout.specs.Division.{Level, pointer_with}
use Rattle.tree_layout.specs.Levels.{AreLevels, EachPage, level_at, width_at, page_entries, entries_at}
use Rattle.tree_layout.proofs.Offsets.{all_within}
use Rattle.tree_layout.proofs.Zips.{zip-append, zip_length}
use Rattle.tree_layout.proofs.Rise.{fields_at, fields_up, count_above, entry_above, key_above, level_rises}
use Rattle.page_packer.proofs.Pointers.{child_part}

zip-take : {A B : Type 0} (R : A → B → Type 0) (n : ℕ) (xs : List A) (ys : List B) → AllZip R xs ys
    → AllZip R (take n xs) (take n ys)
zip-take R zero xs ys z = tt
zip-take R (suc n) [] [] z = tt
zip-take R (suc n) [] (y ∷ ys) z = absurd z
zip-take R (suc n) (x ∷ xs) [] z = absurd z
zip-take R (suc n) (x ∷ xs) (y ∷ ys) z = (z.0, zip-take R n xs ys z.1)

-- the parts of an entry's key fit the fields of the key
abbrev pub KeyFits : Fields → Entry → Type 0
KeyFits leaf entry = AllZip FitsField (take leaf.keys leaf.fields) (take leaf.keys entry)

-- so a pointer by that key fits the fields of node pointers
pointer_fits : (leaf node : Fields) → AreOfOneIndex leaf node → (entry : Entry) (n : ℕ) → KeyFits leaf entry
    → FitFields node (pointer_with node.keys entry n)
pointer_fits leaf node one entry n fits =
    rw (one.pointers, one.keys)
    (zip-append FitsField (take leaf.keys leaf.fields) (child_field ∷ []) (take leaf.keys entry)
    (Bytes (be_bytes 4 n) false ∷ []) fits (child_part n, tt))

module _ (leaf node : Fields) (numbers : ℕ → ℕ → ℕ) (levels : List Level) (one : AreOfOneIndex leaf node)
    (tree : AreLevels leaf node numbers levels) where
  first_in : (P : Entry → Type 0) (l k : ℕ) → suc l < length levels → k < width_at levels l
      → All P (entries_at levels l) → P (get_or (page_entries levels l k) 0 [])
  first_in P l k inside within all =
      all_within P (level_at levels l) k all within 0 [] (tree.filled (omega arith) l k (omega arith) within)

  module _ (fit : All (FitFields leaf) (entries_at levels 0)) where
    keys_fit : (l : ℕ) → l < length levels → All (KeyFits leaf) (entries_at levels l)
    keys_fit zero inside = λ k d within. zip-take FitsField leaf.keys leaf.fields _ (fit k d within)
    keys_fit (suc l) inside = λ k d within.
        let count = count_above leaf node numbers levels one tree l inside in
        let keys = (level_rises leaf node numbers levels one tree l (omega arith)).keys in
        let inner : k < width_at levels l = omega arith in
        subst (λ parts. AllZip FitsField (take leaf.keys leaf.fields) parts)
        (sym (key_above leaf node numbers levels one tree l k d inside inner keys))
        (first_in (KeyFits leaf) l k inside inner (keys_fit l (omega arith)))

    level_fit : (l : ℕ) → l < length levels → All (FitFields (fields_at leaf node l)) (entries_at levels l)
    level_fit zero inside = fit
    level_fit (suc l) inside = λ k d within.
        let count = count_above leaf node numbers levels one tree l inside in
        let inner : k < width_at levels l = omega arith in
        subst (λ fields. FitFields fields (get_or (entries_at levels (suc l)) k d)) (sym (fields_up leaf node l))
        (subst (FitFields node) (sym (entry_above leaf node numbers levels one tree l k d inside inner))
        (pointer_fits leaf node one (get_or (page_entries levels l k) 0 []) (numbers l k)
        (first_in (KeyFits leaf) l k inside inner (keys_fit l (omega arith)))))

    -- on every page
    pub page_fit : EachPage levels (λ l k. All (FitFields (fields_at leaf node l)) (page_entries levels l k))
    page_fit l k inside within =
        all_within (FitFields (fields_at leaf node l)) (level_at levels l) k (level_fit l inside) within

  -- only a root without rows has no entry
  pub page_empty : EachPage levels (λ l k. length (page_entries levels l k) ≡ 0 → (l ≡ 0) × (length levels ≡ 1))
  page_empty l k inside within empty =
      elim (cases_lt 1 (length levels)) [
        | inl more ↦ let filled = tree.filled more l k inside within in absurd (omega arith)
        | inr one ↦ (omega arith, omega arith)
      ]

-- entries that fit have a part for each field
pub parts_of_fit : (leaf : Fields) (entries : List Entry) → All (FitFields leaf) entries
    → All (λ (entry : Entry). length entry ≡ field_count leaf) entries
parts_of_fit leaf entries fit k d within = sym (zip_length FitsField leaf.fields _ (fit k d within))
