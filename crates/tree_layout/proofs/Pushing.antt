-- Entries are divided one by one, and the levels of a tree are known from how they stand on each other.
use Rattle.std.proofs.Common.{◌≡◌, ℕ, zero, suc, ◌+◌, ◌<◌, ◌≤◌, List, [], ◌∷◌, ◌++◌, length, cond, true, false}
use Rattle.std.proofs.Common.{nat_le, refl, sym, ap, ◌∙◌, arith, inl, inr}
use Rattle.std.proofs.lemmas.Bool.{le-leb}
use Rattle.std.proofs.lemmas.Bool.Decides.{leb_tells}
use Rattle.std.proofs.lemmas.List.{ext_get_or, get_or_append_left, get_or_push, length_push}
use Rattle.column_values.specs.Types.{Fields}
use Rattle.tree_layout.specs.Entries.{Entry}
use Rattle.tree_layout.specs.Division.{Level, has_room_for, divided_from, divided, pointer_to_page, pointers_to}
use Rattle.tree_layout.specs.Division.{levels_from, tree_levels}
use Rattle.tree_layout.specs.Levels.{level_at}
use Rattle.tree_layout.specs.Steps.{StandsOpen, IsPushed, DivisionGoesOn, StandOnEachOther, LevelsStand}
use Rattle.tree_layout.proofs.Divided.{CanClimb, climbs, half, leaves_climb, divided_some}
use Rattle.tree_layout.proofs.Rise.{length-pointers, get_or-pointers}

-- one entry more

-- the pages with one entry more, where these pages are closed and this one is open
abbrev pushed : Fields → Level → List Entry → Entry → Level
pushed fields closed last_page entry =
    cond (has_room_for fields last_page entry) (closed ++ (last_page ++ entry ∷ []) ∷ [])
    ((closed ++ last_page ∷ []) ++ (entry ∷ []) ∷ [])

-- a page before the closed ones stays
pushed_behind : (fields : Fields) (page : List Entry) (closed : Level) (last_page : List Entry) (entry : Entry)
    → page ∷ pushed fields closed last_page entry ≡ pushed fields (page ∷ closed) last_page entry
pushed_behind fields page closed last_page entry =
    elim (has_room_for fields last_page entry) as (λ room. page ∷ cond room (closed ++ (last_page ++ entry ∷ []) ∷ [])
    ((closed ++ last_page ∷ []) ++ (entry ∷ []) ∷ [])
    ≡ cond room ((page ∷ closed) ++ (last_page ++ entry ∷ []) ∷ [])
    (((page ∷ closed) ++ last_page ∷ []) ++ (entry ∷ []) ∷ []))
    [ true ↦ refl | false ↦ refl ]

-- a page was closed, and the others go on
closed_push : (fields : Fields) (page : List Entry) (x : Entry) (xs : List Entry) (closed : Level)
    (last_page : List Entry) (entry : Entry) → page ∷ divided_from fields (x ∷ []) xs ≡ closed ++ last_page ∷ []
    → ((closed : Level) (last_page : List Entry) (entry : Entry)
    → divided_from fields (x ∷ []) xs ≡ closed ++ last_page ∷ []
    → divided_from fields (x ∷ []) (xs ++ entry ∷ []) ≡ pushed fields closed last_page entry)
    → page ∷ divided_from fields (x ∷ []) (xs ++ entry ∷ []) ≡ pushed fields closed last_page entry
closed_push fields page x xs [] last_page entry same more =
    let some = divided_some fields (x ∷ []) xs in
    let sizes = ap length same in
    absurd (omega arith)
closed_push fields page x xs (first ∷ rest) last_page entry same more =
    let head : page ≡ first = cc in
    let tail : divided_from fields (x ∷ []) xs ≡ rest ++ last_page ∷ [] = cc in
    ap (λ pages. page ∷ pages) (more rest last_page entry tail) ∙ pushed_behind fields page rest last_page entry
    ∙ ap (λ page. pushed fields (page ∷ rest) last_page entry) head

divided_push : (fields : Fields) (page entries : List Entry) (closed : Level) (last_page : List Entry) (entry : Entry)
    → divided_from fields page entries ≡ closed ++ last_page ∷ []
    → divided_from fields page (entries ++ entry ∷ []) ≡ pushed fields closed last_page entry
divided_push fields page [] [] last_page entry same =
    let one : page ≡ last_page = cc in rw one refl
divided_push fields page [] (first ∷ []) last_page entry same = cc
divided_push fields page [] (first ∷ second ∷ rest) last_page entry same = cc
divided_push fields page (x ∷ xs) closed last_page entry same =
    elim (has_room_for fields page x) as (λ room. cond room (divided_from fields (page ++ x ∷ []) xs)
    (page ∷ divided_from fields (x ∷ []) xs) ≡ closed ++ last_page ∷ []
    → cond room (divided_from fields (page ++ x ∷ []) (xs ++ entry ∷ []))
    (page ∷ divided_from fields (x ∷ []) (xs ++ entry ∷ [])) ≡ pushed fields closed last_page entry) [
      | true ↦ λ same. divided_push fields (page ++ x ∷ []) xs closed last_page entry same
      | false ↦ λ same. closed_push fields page x xs closed last_page entry same
          (divided_push fields (x ∷ []) xs)
    ] same

goes_on : (fields : Fields) (entries : List Entry) (closed : Level) (last_page : List Entry) (entry : Entry)
    → StandsOpen fields entries closed last_page → IsPushed fields entries closed last_page entry
unfolding divided
goes_on fields entries closed last_page entry same = divided_push fields [] entries closed last_page entry same

starts : (fields : Fields) → StandsOpen fields [] [] []
unfolding divided
starts fields = refl

-- one pointer more
pointers_push : (keys : ℕ) (pages : Level) (page : List Entry) (number : ℕ → ℕ)
    → pointers_to keys (pages ++ page ∷ []) number
    ≡ pointers_to keys pages number ++ pointer_to_page keys page (number (length pages)) ∷ []
pointers_push keys pages page number =
    let all = pages ++ page ∷ [] in
    let last = pointer_to_page keys page (number (length pages)) in
    let front = pointers_to keys pages number in
    let count = length-pointers keys all number in
    let few = length-pointers keys pages number in
    let size = length_push pages page in
    let both = length_push front last in
    ext_get_or [] (pointers_to keys all number) (front ++ last ∷ []) (omega arith)
    (λ k below.
    let whole = get_or-pointers keys all number k [] (omega arith) in
    elim (leb_tells (suc k) (length pages)) [
      | inl inside ↦
          let kept = get_or_append_left pages (page ∷ []) [] k inside.1 in
          let old = get_or-pointers keys pages number k [] inside.1 in
          whole ∙ ap (λ page. pointer_to_page keys page (number k)) kept ∙ sym old
          ∙ sym (get_or_append_left front (last ∷ []) [] k (omega arith))
      | inr behind ↦
          let is : length pages ≡ k = omega arith in
          let new = get_or_push pages page [] k is in
          whole ∙ ap (λ page. pointer_to_page keys page (number k)) new
          ∙ ap (λ n. pointer_to_page keys page (number n)) (sym is) ∙ sym (get_or_push front last [] k (omega arith))
    ])

pub goes_on_law : DivisionGoesOn
goes_on_law fields = record {
  start = starts fields;
  more = goes_on fields;
  pointers = pointers_push fields.keys;
}

-- level by level

levels_first : (node : Fields) (numbers : ℕ → ℕ → ℕ) (most level : ℕ) (pages : Level)
    → level_at (levels_from node numbers most level pages) 0 ≡ pages
levels_first node numbers zero level pages = refl
levels_first node numbers (suc most) level pages =
    elim (nat_le (length pages) 1) as (λ one. level_at (cond one (pages ∷ [])
    (pages ∷ levels_from node numbers most (level + 1)
    (divided node (pointers_to node.keys pages (numbers level))))) 0 ≡ pages)
    [ true ↦ refl | false ↦ refl ]

stand_more : (node : Fields) (numbers : ℕ → ℕ → ℕ) (level : ℕ) (pages : Level) (levels : List Level) (up : Level)
    → 1 < length pages → level_at levels 0 ≡ divided node (pointers_to node.keys pages (numbers level))
    → StandOnEachOther node numbers (level + 1) levels → StandOnEachOther node numbers level (pages ∷ levels)
stand_more node numbers level pages [] up many first stands = absurd stands
stand_more node numbers level pages (next ∷ rest) up many first stands = (many, first, stands)

stand : (node : Fields) (numbers : ℕ → ℕ → ℕ) (most level : ℕ) (pages : Level) → CanClimb node pages
    → length pages ≤ most + 1
    → StandOnEachOther node numbers level (levels_from node numbers most level pages)
stand node numbers zero level pages can few = omega arith
stand node numbers (suc most) level pages can few =
    let up = divided node (pointers_to node.keys pages (numbers level)) in
    elim (leb_tells (length pages) 1) [
      | inl one ↦ rw one.0 one.1
      | inr more ↦
          let less = half node pages (numbers level) can in
          let rest = stand node numbers most (level + 1) up (climbs node pages (numbers level) can) (omega arith) in
          rw more.0 (stand_more node numbers level pages (levels_from node numbers most (level + 1) up) up more.1
          (levels_first node numbers most (level + 1) up) rest)
    ]

only_levels : (node : Fields) (numbers : ℕ → ℕ → ℕ) (most level : ℕ) (pages : Level) (levels : List Level)
    → CanClimb node pages → length pages ≤ most + 1 → level_at levels 0 ≡ pages
    → StandOnEachOther node numbers level levels → levels ≡ levels_from node numbers most level pages
only_levels node numbers most level pages [] can few first stands = absurd stands
only_levels node numbers zero level pages (low ∷ []) can few first stands = ap (λ low. low ∷ []) first
only_levels node numbers zero level pages (low ∷ next ∷ rest) can few first stands =
    let many = stands.0 in let same = ap length first in absurd (omega arith)
only_levels node numbers (suc most) level pages (low ∷ []) can few first stands =
    let same = ap length first in
    rw (le-leb (length pages) 1 (omega arith)) (ap (λ low. low ∷ []) first)
only_levels node numbers (suc most) level pages (low ∷ next ∷ rest) can few first stands =
    let many = stands.0 in
    let same = ap length first in
    let less = half node pages (numbers level) can in
    let up = divided node (pointers_to node.keys pages (numbers level)) in
    let above : next ≡ up = stands.1 ∙ ap (λ low. divided node (pointers_to node.keys low (numbers level))) first in
    let behind = only_levels node numbers most (level + 1) up (next ∷ rest) (climbs node pages (numbers level) can)
    (omega arith) above stands.2 in
    elim (leb_tells (length pages) 1) [
      | inl one ↦ absurd (omega (arith, one.1))
      | inr more ↦ rw more.0 (ap (λ low. low ∷ next ∷ rest) first ∙ ap (λ levels. pages ∷ levels) behind)
    ]

empty_stands : (leaf node : Fields) (numbers : ℕ → ℕ → ℕ) (levels : List Level) → level_at levels 0 ≡ [] ∷ []
    → StandOnEachOther node numbers 0 levels → levels ≡ ([] ∷ []) ∷ []
empty_stands leaf node numbers [] first stands = absurd stands
empty_stands leaf node numbers (low ∷ []) first stands = ap (λ low. low ∷ []) first
empty_stands leaf node numbers (low ∷ next ∷ rest) first stands =
    let many = stands.0 in let same = ap length first in absurd (omega arith)

pub stand_law : LevelsStand
unfolding tree_levels divided
stand_law leaf node numbers [] can = record {
  leaves = refl;
  stand = omega arith;
  only = empty_stands leaf node numbers;
}
stand_law leaf node numbers (entry ∷ entries) can =
    let all = entry ∷ entries in
    let pages = divided leaf all in
    let climb = leaves_climb leaf node all can (omega arith) in record {
      leaves = levels_first node numbers (length pages) 0 pages;
      stand = stand node numbers (length pages) 0 pages climb (omega arith);
      only = λ levels first stands.
          only_levels node numbers (length pages) 0 pages levels climb (omega arith) first stands;
    }
