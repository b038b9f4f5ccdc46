-- The fields that some entry has, one index after another and one field after another.
use Rattle.std.proofs.Common.{◌≡◌, ℕ, ◌+◌, ◌-◌, ◌≤◌, Bool, cond, List, [], ◌∷◌, ◌++◌}
use Rattle.std.proofs.Common.{filter, flat_map, sym, ap, ◌∙◌, arith}
use Rattle.std.specs.Prelude.{◌==◌}
use Rattle.std.specs.List.{list_any, range_with_len}
use Rattle.std.proofs.lemmas.List.{append-nil}
use Rattle.std.proofs.lemmas.List.Concat.{flat_map-append}
use Rattle.std.proofs.lemmas.List.Elements.{filter-append}
use Rattle.schema_text.specs.TableDef.{TableDef}
use Rattle.schema_text.specs.IndexFields.{entry_fields}
use Rattle.page_source.proofs.Lists.{range_next}

-- the fields of one index more
pub all_more : (table : TableDef) (list next : List ℕ) (index : ℕ) → 1 ≤ index
    → list ≡ flat_map (entry_fields table) (range_with_len 1 (index - 1)) → next ≡ list ++ entry_fields table index
    → next ≡ flat_map (entry_fields table) (range_with_len 1 (index + 1 - 1))
all_more table list next index some so grown =
    let front = flat_map (entry_fields table) (range_with_len 1 (index - 1)) in
    let e : index + 1 - 1 ≡ (index - 1) + 1 = omega arith in
    let last : 1 + (index - 1) ≡ index = omega arith in
    grown ∙ ap (λ (xs : List ℕ). xs ++ entry_fields table index) so
    ∙ sym (ap (λ (n : ℕ). flat_map (entry_fields table) (range_with_len 1 n)) e
    ∙ ap (flat_map (entry_fields table)) (range_next 1 (index - 1))
    ∙ flat_map-append (entry_fields table) (range_with_len 1 (index - 1)) ((1 + (index - 1)) ∷ [])
    ∙ ap (λ (n : ℕ). front ++ flat_map (entry_fields table) (n ∷ [])) last
    ∙ ap (λ (xs : List ℕ). front ++ xs) (append-nil (entry_fields table index)))

-- one field more is kept or not
pub kept_more : (all list next : List ℕ) (n : ℕ) (b : Bool) → list_any (λ j. j == n) all ≡ b
    → list ≡ filter (λ k. list_any (λ j. j == k) all) (range_with_len 0 n) → next ≡ list ++ cond b (n ∷ []) []
    → next ≡ filter (λ k. list_any (λ j. j == k) all) (range_with_len 0 (n + 1))
kept_more all list next n b among so grown =
    let p : ℕ → Bool = λ k. list_any (λ j. j == k) all in
    let last : 0 + n ≡ n = omega arith in
    grown ∙ ap (λ (xs : List ℕ). xs ++ cond b (n ∷ []) []) so
    ∙ ap (λ (t : Bool). filter p (range_with_len 0 n) ++ cond t (n ∷ []) []) (sym among)
    ∙ sym (ap (filter p) (range_next 0 n ∙ ap (λ (m : ℕ). range_with_len 0 n ++ m ∷ []) last)
    ∙ filter-append p (range_with_len 0 n) (n ∷ []))
