-- The words of a line behind its first one.
use Rattle.std.specs.Prelude.{ℕ, ◌<◌, List, [], ◌∷◌, ◌++◌, map, length, All, codes, decimal, flat_map}
use Rattle.schema_text.specs.declared.table.Column.{Column}
use Rattle.schema_text.specs.declared.table.IndexDef.{IndexDef}
use Rattle.schema_text.specs.IndexFields.{columns_at}
use Rattle.schema_text.specs.Grammar.{space}

-- the words, each behind a space
abbrev pub spaced : List (List ℕ) → List ℕ
spaced words = flat_map (λ word. space ∷ word) words

-- the names of the columns at these positions
abbrev pub names_at : List Column → List ℕ → List (List ℕ)
names_at columns positions = map (λ (c : Column). c.name) (columns_at columns positions)

-- the words of the clustered line, and of another index's line, by the columns of the table
abbrev pub clustered_by : List Column → IndexDef → List (List ℕ)
clustered_by columns index = (codes "clustered" ∷ codes "root" ∷ decimal index.root ∷ [])
    ++ names_at columns index.columns

abbrev pub index_by : List Column → IndexDef → List (List ℕ)
index_by columns index = (codes "index" ∷ index.name ∷ codes "root" ∷ decimal index.root ∷ [])
    ++ names_at columns index.columns

-- all columns of the index are among these
abbrev pub HasKnownColumns : List Column → IndexDef → Type 0
HasKnownColumns columns index = All (λ i. i < length columns) index.columns
