-- The places of the records of a kind, one after another.
use Rattle.std.proofs.Common.{◌≡◌, ℕ, zero, suc, ◌+◌, ◌-◌, ◌≤◌, Bool, true, false, cond, List, [], ◌∷◌, ◌++◌}
use Rattle.std.proofs.Common.{length, map, take, sym, ap, ◌∙◌, arith, append_assoc, add-one}
use Rattle.std.specs.Prelude.{filter}
use Rattle.std.specs.List.{range_with_len}
use Rattle.std.proofs.Math.Seq.{take-append_seam}
use Rattle.std.proofs.lemmas.List.{map-append, length-map, append-nil}
use Rattle.std.proofs.lemmas.List.Elements.{filter-append}
use Rattle.salvage_model.specs.declared.kind.RecordKind.{RecordKind}
use Rattle.salvage_model.specs.Records.{first_place, list_length, is_place_of, places_of}
use Rattle.salvage_model.specs.Outcome.{SavedRow}
use Rattle.table_salvage.specs.Work.{places_before}
use Rattle.page_source.proofs.Lists.{range_next}

-- the numbers from a on that pass, up to the last one
module _ (is : ℕ → Bool) (a : ℕ) where
  pass_more : (k : ℕ) → filter is (range_with_len a (suc k))
      ≡ filter is (range_with_len a k) ++ cond (is (a + k)) ((a + k) ∷ []) []
  pass_more k =
      ap (λ (t : List ℕ). filter is t) (ap (range_with_len a) (sym (add-one k)) ∙ range_next a k)
      ∙ filter-append is (range_with_len a k) ((a + k) ∷ [])

  pass_to : (place : ℕ) → a ≤ place → filter is (range_with_len a ((place + 1) - a))
      ≡ filter is (range_with_len a (place - a)) ++ cond (is place) (place ∷ []) []
  pass_to place least =
      let more : (place + 1) - a ≡ suc (place - a) = omega (arith, least) in
      let last : a + (place - a) ≡ place = omega (arith, least) in
      ap (λ (k : ℕ). filter is (range_with_len a k)) more ∙ pass_more (place - a)
      ∙ ap (λ (k : ℕ). filter is (range_with_len a (place - a)) ++ cond (is k) (k ∷ []) []) last

  -- the first of them begin all
  pass_front : (p m : ℕ)
      → (rest : List ℕ) × (filter is (range_with_len a (p + m)) ≡ filter is (range_with_len a p) ++ rest)
  pass_front p zero =
      let e : p + 0 ≡ p = omega arith in ([], rw e (sym (append-nil (filter is (range_with_len a p)))))
  pass_front p (suc m) =
      let h = pass_front p m in
      let e : p + suc m ≡ suc (p + m) = omega arith in
      let last = cond (is (a + (p + m))) ((a + (p + m)) ∷ []) [] in (
        h.0 ++ last,
        rw e (pass_more (p + m) ∙ ap (λ (t : List ℕ). t ++ last) h.1
            ∙ append_assoc (filter is (range_with_len a p)) h.0 last),
      )

  pass_take : (p count : ℕ) → p ≤ count
      → take (length (filter is (range_with_len a p))) (filter is (range_with_len a count))
      ≡ filter is (range_with_len a p)
  pass_take p count few =
      let e : count ≡ p + (count - p) = omega arith in
      let h = pass_front p (count - p) in
      rw e (ap (λ (t : List ℕ). take (length (filter is (range_with_len a p))) t) h.1
      ∙ take-append_seam (filter is (range_with_len a p)) h.0)

module _ (kind : RecordKind) (page : List ℕ) where
  -- none before the first place
  pub none_before : (place : ℕ) → place ≤ first_place kind page → places_before kind page place ≡ []
  none_before place most =
      let e : place - first_place kind page ≡ 0 = omega (arith, most) in
      ap (λ (k : ℕ). filter (is_place_of kind page) (range_with_len (first_place kind page) k)) e

  -- a record that isn't of the kind
  pub places_past : (place : ℕ) → first_place kind page ≤ place → is_place_of kind page place ≡ false
      → places_before kind page (place + 1) ≡ places_before kind page place
  places_past place least isnt =
      pass_to (is_place_of kind page) (first_place kind page) place least
      ∙ ap (λ (b : Bool). places_before kind page place ++ cond b (place ∷ []) []) isnt
      ∙ append-nil (places_before kind page place)

  -- one that is
  pub places_more : (rows : List SavedRow) (place : ℕ) (row : SavedRow)
      → map (λ (r : SavedRow). r.place) rows ≡ places_before kind page place → first_place kind page ≤ place
      → is_place_of kind page place ≡ true → row.place ≡ place
      → map (λ (r : SavedRow). r.place) (rows ++ row ∷ []) ≡ places_before kind page (place + 1)
  places_more rows place row places least is same =
      map-append (λ (r : SavedRow). r.place) rows (row ∷ [])
      ∙ ap (λ (t : List ℕ). t ++ row.place ∷ []) places
      ∙ ap (λ p. places_before kind page place ++ p ∷ []) same
      ∙ ap (λ (b : Bool). places_before kind page place ++ cond b (place ∷ []) []) (sym is)
      ∙ sym (pass_to (is_place_of kind page) (first_place kind page) place least)

  size_of : (rows : List SavedRow) (place : ℕ)
      → map (λ (r : SavedRow). r.place) rows ≡ places_before kind page place
      → length (places_before kind page place) ≡ length rows
  size_of rows place places =
      sym (ap (λ (t : List ℕ). length t) places) ∙ length-map rows (λ (r : SavedRow). r.place)

  -- they are the first of all
  pub places_front : (rows : List SavedRow) (place : ℕ)
      → map (λ (r : SavedRow). r.place) rows ≡ places_before kind page place
      → place ≤ first_place kind page + list_length kind page
      → map (λ (r : SavedRow). r.place) rows ≡ take (length rows) (places_of kind page)
  unfolding places_of
  places_front rows place places most =
      let few : place - first_place kind page ≤ list_length kind page = omega (arith, most) in
      places
      ∙ sym (pass_take (is_place_of kind page) (first_place kind page) (place - first_place kind page)
      (list_length kind page) few)
      ∙ ap (λ k. take k (places_of kind page)) (size_of rows place places)

  -- and all of them after the last one
  pub places_all : (rows : List SavedRow) (place : ℕ)
      → map (λ (r : SavedRow). r.place) rows ≡ places_before kind page place
      → place ≡ first_place kind page + list_length kind page → length rows ≡ length (places_of kind page)
  unfolding places_of
  places_all rows place places last =
      let e : place - first_place kind page ≡ list_length kind page = omega (arith, last) in
      sym (size_of rows place places)
      ∙ ap (λ (k : ℕ). length (filter (is_place_of kind page) (range_with_len (first_place kind page) k))) e
