-- Lines that are held back until there are enough of them for one write.
use Rattle.std.specs.Prelude.{◌≡◌, ℕ, ◌+◌, ⊤, Bool, true, false, List, ◌++◌, Option, Result, Ok, Err}
use Rattle.page_source.specs.Objects.{GrowsBy, GrowsByPart}
use Rattle.sql_dump.specs.declared.stop.WriteStop.{WriteStop}
use Rattle.sql_dump.specs.declared.stop.WriteStop.TheVariants.{Broken, Source, Sink}

-- what a buffer holds, and how many pieces it refused
pub record Held : Type 0 where
  pub bytes : List ℕ
  pub refused : ℕ

-- of a text and what is put after it this much went to the sink, and the rest is held
pub record IsSent (old new : Option (List ℕ)) (text held : List ℕ) : Type 0 where
  pub sent : List ℕ
  pub grown : GrowsBy old new sent
  pub split : text ≡ sent ++ held

-- a text was put after what the buffer held, or the sink got a prefix of both; no rule is found broken
abbrev pub Moves : {A : Type 0} → Result A WriteStop → Option (List ℕ) → Option (List ℕ) → List ℕ → List ℕ → List ℕ →
    Type 0
Moves (Ok a) old new held now text = IsSent old new (held ++ text) now
Moves (Err (Broken fault)) old new held now text = ⊥
Moves (Err Source) old new held now text = GrowsByPart old new (held ++ text)
Moves (Err Sink) old new held now text = GrowsByPart old new (held ++ text)

-- a line was kept in the buffer or not; no rule is found broken
abbrev pub Keeps : Result Bool WriteStop → List ℕ → List ℕ → List ℕ → Type 0
Keeps (Ok true) held now line = now ≡ held ++ line
Keeps (Ok false) held now line = now ≡ held
Keeps (Err (Broken fault)) held now line = ⊥
Keeps (Err Source) held now line = ⊤
Keeps (Err Sink) held now line = ⊥

-- how many fetches are left after the pages of a line were read, or weren't
abbrev pub LeavesOf : Bool → ℕ → ℕ → ℕ → Type 0
LeavesOf true left now pages = now + pages ≡ left
LeavesOf false left now pages = now ≡ left
