-- A file of a map in which the pages of a value were put.
use Rattle.std.proofs.Common.{◌≡◌, ℕ, ◌^◌, ◌<◌, ◌≤◌, ◌⊎◌, List, [], ◌∷◌, length, All, Contains, Some, Option, unwrap_or}
use Rattle.std.proofs.Common.{slice_index, replicate, refl, sym, ap, ◌∙◌, subst, arith, inl, inr}
use Rattle.std.specs.FinMap.{get, empty}
use Rattle.std.proofs.lemmas.Bool.{cases_order}
use Rattle.std.proofs.lemmas.List.{get_or_default}
use Rattle.std.proofs.lemmas.List.Elements.{All-get_or}
use Rattle.page_source.specs.Pages.{page_size, fil_null}
use Rattle.page_source.specs.Objects.{PageMap, held_page, file_of}
use Rattle.page_source.specs.Sources.{AreWhole}
use Rattle.page_source.proofs.Members.{contains_none, contains_here, contains_there, contains_cases}
use Rattle.page_source.proofs.SparseFiles.{page_of_file, found_page}
use Rattle.offpage_chain.specs.ValuePage.{pages_for, value_page}
use Rattle.offpage_chain.specs.Writing.{HoldsParts, HoldsAllBut}
use Rattle.offpage_chain.specs.ValuePageLaws.{HasValuePages}
use Rattle.offpage_chain.proofs.ValueChains.{value_page_read}

-- a number is in a list or not
is_member : (xs : List ℕ) (n : ℕ) → Contains xs n ⊎ (¬ (Contains xs n))
is_member [] n = inr (contains_none n)
is_member (x ∷ xs) n = elim (cases_order x n) [
  | inl same ↦ inl (subst (λ (m : ℕ). Contains (x ∷ xs) m) same (contains_here x xs))
  | inr other ↦ elim (is_member xs n) [
    | inl later ↦ inl (contains_there x xs n later)
    | inr none ↦ inr (λ found. elim (contains_cases x xs n found) [
      | inl same ↦ elim other [ inl below ↦ omega arith | inr above ↦ omega arith ]
      | inr later ↦ none later
    ])
  ]
]

module _ (size space : ℕ) (old held : PageMap) (numbers bytes : List ℕ) (here : space < 2 ^ 32)
    (real : All (λ n. n < fil_null) numbers) (whole : AreWhole old) (kept : HoldsAllBut numbers (Some old) (Some held))
    (parts : HoldsParts held space numbers bytes (length numbers)) where
  -- the page of a part
  held_part : (k : ℕ) → k < length numbers → held_page held (slice_index numbers k) ≡ value_page space numbers bytes k
  held_part k inside =
      sym (found_page held (slice_index numbers k) (value_page space numbers bytes k) (value_page space numbers bytes k)
      (parts k inside) refl)

  -- any other page
  held_other : (n : ℕ) → ¬ (Contains numbers n) → held_page held n ≡ held_page old n
  unfolding held_page
  held_other n other =
      let same : held ≡ kept.0 = ap (λ (o : Option PageMap). unwrap_or o empty) kept.1 in
      ap (λ (o : Option (List ℕ)). unwrap_or o (replicate page_size 0))
      (ap (λ (map : PageMap). get map n) same ∙ kept.2 n other)

  held_whole : AreWhole held
  held_whole n = elim (is_member numbers n) [
    | inl found ↦
        let number : slice_index numbers found.0 ≡ n = get_or_default numbers found.0 0 n found.1 ∙ found.2 in
        ap (λ (m : ℕ). length (held_page held m)) (sym number) ∙ ap length (held_part found.0 found.1)
        ∙ (value_page_read space numbers bytes here real found.0 found.1).whole
    | inr other ↦ ap length (held_other n other) ∙ whole n
  ]

pub held_parts : (size space : ℕ) (old held : PageMap) (numbers bytes : List ℕ)
    → space < 2 ^ 32 → length numbers ≡ pages_for (length bytes) → size ≤ fil_null → All (λ n. n < size) numbers
    → AreWhole old → HoldsAllBut numbers (Some old) (Some held)
    → HoldsParts held space numbers bytes (length numbers)
    → AreWhole held × HasValuePages (file_of size held) space numbers bytes
held_parts size space old held numbers bytes here count few below whole kept parts =
    let real : All (λ n. n < fil_null) numbers = λ k d inside. let b = below k d inside in omega arith in
    let all : AreWhole held = held_whole size space old held numbers bytes here real whole kept parts in (
      all,
      record {
        space_fits = here;
        count = count;
        are_pages = real;
        pages = λ k inside.
            page_of_file size held (slice_index numbers k) all (All-get_or (λ n. n < size) numbers k 0 inside below)
            ∙ held_part size space old held numbers bytes here real whole kept parts k inside;
      },
    )
