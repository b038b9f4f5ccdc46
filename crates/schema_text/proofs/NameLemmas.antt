-- The names of columns, and the places where they stand.
use Rattle.std.proofs.Common.{◌≡◌, ◌≢◌, ℕ, ◌<◌, Bool, true, false, cond, List, [], ◌∷◌}
use Rattle.std.proofs.Common.{length, get_or, Option, Some, None, sym}
use Rattle.std.proofs.Common.{All, Decides}
use Rattle.std.proofs.lemmas.Bool.{false≢true}
use Rattle.std.proofs.lemmas.List.Elements.{All-nil, All-cons}
use Rattle.std.specs.Prelude.{position, bytes_eq}
use Rattle.schema_text.specs.Refusals.{column_named}
use Rattle.schema_text.specs.Cuts.{IsAmong}
use Rattle.schema_text.proofs.Positions.{none_passes}
use Rattle.std.proofs.lemmas.Slice.Eq.{bytes_eq-Decides}
use Rattle.schema_text.specs.declared.table.Column.{Column}
use Rattle.schema_text.proofs.ColumnCheckLemmas.{any_not_all}

abbrev pub has_name : List ℕ → Column → Bool
has_name name c = bytes_eq c.name name

-- where no place is found, no column has the name
pub unnamed : (columns : List Column) (name : List ℕ) → None ≡ position (has_name name) columns → (k : ℕ) (d : Column)
    → k < length columns → (get_or columns k d).name ≢ name
unnamed columns name none k d within e =
    let fails = none_passes (has_name name) columns (sym none) k d within in
    let passes = (bytes_eq-Decides (get_or columns k d).name name).1 e in
    cc

-- a column that is there is found
pub not_missed : (columns : List Column) (name : List ℕ) → IsAmong columns name
    → None ≡ position (has_name name) columns → ⊥
not_missed columns name there none = any_not_all (λ (c : Column). c.name
    ≡ name) columns there (unnamed columns name none)

not_first : (b : Bool) (P : Type 0) (c : Column) (rest : Option Column) → Decides b P → None ≡ cond b (Some c) rest
    → (P → ⊥) × (None ≡ rest)
not_first true P c rest d e = absurd (cc)
not_first false P c rest d e = (λ p. absurd (false≢true (d.1 p)), e)

none_named : (columns : List Column) (name : List ℕ) → None ≡ column_named columns name
    → All (λ (c : Column). c.name ≡ name → ⊥) columns
none_named [] name e = All-nil (λ (c : Column). c.name ≡ name → ⊥)
none_named (c ∷ columns) name e =
    let first = not_first (bytes_eq c.name name) (c.name ≡ name) c (column_named columns name)
    (bytes_eq-Decides c.name name) e in
    All-cons (λ (c : Column). c.name ≡ name → ⊥) c columns first.0 (none_named columns name first.1)

pub not_unfound : (columns : List Column) (name : List ℕ) → IsAmong columns name → None ≡ column_named columns name → ⊥
not_unfound columns name there none = any_not_all (λ (c : Column). c.name
    ≡ name) columns there (none_named columns name none)
