-- The columns of a key, by their places.
use Rattle.std.proofs.Common.{◌≡◌, ℕ, zero, suc, ◌<◌, List, [], ◌∷◌, length, get_or, Option, Some, refl, sym, ap, ◌∙◌}
use Rattle.std.proofs.Common.{arith}
use Rattle.std.specs.Prelude.{All, slice_get, filter_map}
use Rattle.std.specs.List.{cons_option}
use Rattle.std.proofs.lemmas.List.Elements.{All-head, All-tail}
use Rattle.std.proofs.lemmas.Option.{slice_get-get_or}
use Rattle.schema_text.specs.declared.table.Column.{Column}

abbrev IsPlace : List Column → ℕ → Type 0
IsPlace columns i = i < length columns

-- the first place's column, and the others'
key_step : (columns : List Column) (i : ℕ) (places : List ℕ) (d : Column) → All (λ i. i < length columns) (i ∷ places)
    → filter_map (slice_get columns) (i ∷ places) ≡ get_or columns i d ∷ filter_map (slice_get columns) places
key_step columns i places d within =
    ap (λ (o : Option Column). cons_option o (filter_map (slice_get columns) places))
    (slice_get-get_or columns i d (All-head (IsPlace columns) i places within))

key_count : (columns : List Column) (places : List ℕ) → All (λ i. i < length columns) places
    → length (filter_map (slice_get columns) places) ≡ length places
key_count [] [] within = refl
key_count [] (i ∷ places) within = absurd (omega (arith, All-head (IsPlace []) i places within))
key_count (c ∷ columns) [] within = refl
key_count (c ∷ columns) (i ∷ places) within =
    ap length (key_step (c ∷ columns) i places c within)
    ∙ ap suc (key_count (c ∷ columns) places (All-tail (IsPlace (c ∷ columns)) i places within))

key_column_at : (columns : List Column) (places : List ℕ) (k : ℕ) (d : Column)
    → All (λ i. i < length columns) places → k < length places
    → slice_get (filter_map (slice_get columns) places) k ≡ Some (get_or columns (get_or places k 0) d)
key_column_at columns [] k d within lt = absurd (omega (arith, lt))
key_column_at columns (i ∷ places) zero d within lt =
    ap (λ (cs : List Column). slice_get cs 0) (key_step columns i places d within)
key_column_at columns (i ∷ places) (suc k) d within lt =
    ap (λ (cs : List Column). slice_get cs (suc k)) (key_step columns i places d within)
    ∙ key_column_at columns places k d (All-tail (IsPlace columns) i places within) (omega (arith, lt))

-- the column of the next value
pub key_next : (columns cols : List Column) (places items : List ℕ) (k n index : ℕ) (column : Column) → items ≡ places
    → cols ≡ columns → All (λ i. i < length columns) items → n ≡ k → k < length items → index ≡ get_or items k 0
    → column ≡ get_or cols index column → slice_get (filter_map (slice_get columns) places) n ≡ Some column
key_next columns cols places items k n index column same whole within count lt place is =
    let here : column ≡ get_or columns (get_or items k 0) column =
    is ∙ ap (λ (cs : List Column). get_or cs index column) whole ∙ ap (λ (i : ℕ). get_or columns i column) place in
    ap (λ (ps : List ℕ). slice_get (filter_map (slice_get columns) ps) n) (sym same)
    ∙ ap (slice_get (filter_map (slice_get columns) items)) count
    ∙ key_column_at columns items k column within lt ∙ ap Some (sym here)

pub key_size : (columns : List Column) (places items : List ℕ) → items ≡ places → All (λ i. i < length columns) items
    → length (filter_map (slice_get columns) places) ≡ length items
key_size columns places items same within =
    ap (λ (ps : List ℕ). length (filter_map (slice_get columns) ps)) (sym same) ∙ key_count columns items within
