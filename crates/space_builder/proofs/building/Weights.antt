-- The leaves of a tree, cut entry by entry, and the sizes of its records.
use Rattle.std.proofs.Common.{◌≡◌, ℕ, ◌+◌, ◌<◌, false, List, [], ◌∷◌, ◌++◌, length, map}
use Rattle.std.proofs.Common.{take, refl, sym, ap, ◌∙◌, arith}
use Rattle.std.proofs.lemmas.List.{map_more}
use Rattle.column_values.specs.Types.{Fields}
use Rattle.compact_record.specs.Writing.{FitFields}
use Rattle.page_packer.specs.Entries.{Entry, entry_at, pointer_to}
use Rattle.page_packer.specs.Laws.{PointersPoint}
use Rattle.tree_layout.specs.declared.cuts.Weight.{Weight}
use Rattle.tree_layout.specs.Division.{CanDivide, pointer_with}
use Rattle.std.proofs.Common.{Bool, true, ◌==◌, ◌||◌}
use Rattle.page_packer.specs.Packing.{sizes_fit}
use Rattle.tree_layout.specs.Counting.{begins_page}
use Rattle.tree_layout.specs.Counting.{Cutting, weight_of, nothing_cut, one_more, cut_more}
use Rattle.tree_layout.proofs.Counting.{cut_snoc}

-- one entry more
pub cut_step : (leaf node : Fields) (entries : List Entry) (k : ℕ) → k < length entries
    → one_more (cut_more nothing_cut (map (weight_of leaf node) (take k entries)))
    (weight_of leaf node (entry_at entries k))
    ≡ cut_more nothing_cut (map (weight_of leaf node) (take (k + 1) entries))
cut_step leaf node entries k within =
    sym (ap (cut_more nothing_cut) (map_more (weight_of leaf node) entries k [] within)
    ∙ cut_snoc nothing_cut (map (weight_of leaf node) (take k entries)) (weight_of leaf node (entry_at entries k)))

-- a pointer by the key of an entry fits
pub pointer_fits : PointersPoint → (leaf node : Fields) (entries : List Entry) → CanDivide leaf node entries → (k : ℕ)
    → k < length entries → FitFields node (pointer_with node.keys (entry_at entries k) 0)
unfolding pointer_to
pointer_fits points leaf node entries can k within =
    let fits = ((points leaf node (entry_at entries k) 0 can.one_index (omega arith)).0 (can.fit k [] within)).fit in
    rw can.one_index.keys fits

-- the size of a pointer counts only where its entry begins a page
pub only_first : (cutting : Cutting) (weight here : Weight) → here.size ≡ weight.size
    → (begins_page cutting here.size ≡ true → here.pointer ≡ weight.pointer)
    → one_more cutting here ≡ one_more cutting weight
unfolding one_more
only_first cutting weight here size pointer =
    let part : one_more cutting (record { size = here.size; pointer = here.pointer })
    ≡ one_more cutting (record { size = here.size; pointer = weight.pointer }) =
    by_cases (cutting.count == 0) (sizes_fit (cutting.count + 1) (cutting.total + here.size)) refl refl in
    part ∙ ap (λ (n : ℕ). one_more cutting (record { size = n; pointer = weight.pointer })) size
  where
    by_cases : (none fit : Bool) → cutting.count == 0 ≡ none
        → sizes_fit (cutting.count + 1) (cutting.total + here.size) ≡ fit
        → one_more cutting (record { size = here.size; pointer = here.pointer })
        ≡ one_more cutting (record { size = here.size; pointer = weight.pointer })
    by_cases none false a b =
        rw b (ap (λ (n : ℕ). record {
          closed = cutting.closed ++ cutting.first ∷ [];
          count = 1;
          total = here.size;
          first = n;
        }) (pointer (rw (a, b) (always none))))
      where
        always : (x : Bool) → (x || true) ≡ true
        always true = refl
        always false = refl
    by_cases true true a b = rw (b, a) (ap (λ (n : ℕ). record {
      closed = cutting.closed;
      count = cutting.count + 1;
      total = cutting.total + here.size;
      first = n;
    }) (pointer (rw a refl)))
    by_cases false true a b = rw (b, a) refl
