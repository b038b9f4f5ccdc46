-- Where the members of lists stand when these are put one after another.
use Rattle.std.proofs.Common.{◌≡◌, ℕ, zero, suc, ◌+◌, ◌-◌, ◌<◌, ◌≤◌, List, [], ◌∷◌, ◌++◌, length, get_or, take}
use Rattle.std.proofs.Common.{ap, ◌∙◌, arith, append-nil, length-append}
use Rattle.std.specs.List.{flat_map, All, AllPairs}
use Rattle.std.proofs.lemmas.List.{take_more, take_all}
use Rattle.std.proofs.lemmas.List.Concat.{flat_map-append, get_or-flat_map}

-- all of them
abbrev pub joined : {X : Type 0} → List (List X) → List X
joined lists = flat_map (λ list. list) lists

-- how many members stand before list k
abbrev pub offset : {X : Type 0} → List (List X) → ℕ → ℕ
offset lists k = length (joined (take k lists))

pub entry_place : {X : Type 0} (lists : List (List X)) (k i : ℕ) (d : X) → k < length lists
    → i < length (get_or lists k []) → get_or (joined lists) (offset lists k + i) d ≡ get_or (get_or lists k []) i d
entry_place lists k i d inside within = get_or-flat_map (λ list. list) lists k i [] d inside within

offset_more : {X : Type 0} (lists : List (List X)) (k : ℕ) → k < length lists
    → offset lists (k + 1) ≡ offset lists k + length (get_or lists k [])
offset_more lists k inside =
    let list = get_or lists k [] in
    ap (λ xs. length (joined xs)) (take_more lists k [] inside)
    ∙ ap length (flat_map-append (λ xs. xs) (take k lists) (list ∷ []) ∙ ap (λ xs. joined (take k lists) ++ xs)
    (append-nil list))
    ∙ length-append (joined (take k lists)) list

offset_rises : {X : Type 0} (lists : List (List X)) (k n : ℕ) → k + n ≤ length lists
    → offset lists k ≤ offset lists (k + n)
offset_rises lists k zero inside = let e : k + 0 ≡ k = omega arith in rw e (omega arith)
offset_rises lists k (suc n) inside =
    let before = offset_rises lists k n (omega arith) in
    let more = offset_more lists (k + n) (omega arith) in
    let e : k + suc n ≡ k + n + 1 = omega arith in
    rw e (omega arith)

-- a list ends before each later one begins
pub offset_before : {X : Type 0} (lists : List (List X)) (i j : ℕ) → i < j → j ≤ length lists
    → offset lists i + length (get_or lists i []) ≤ offset lists j
offset_before lists i j before inside =
    let more = offset_more lists i (omega arith) in
    let rest = offset_rises lists (i + 1) (j - (i + 1)) (omega arith) in
    let e : i + 1 + (j - (i + 1)) ≡ j = omega arith in
    let last : offset lists (i + 1) ≤ offset lists j = rw e at rest in
    omega arith

-- and the last where all of them end
pub offset_within : {X : Type 0} (lists : List (List X)) (k : ℕ) → k < length lists
    → offset lists k + length (get_or lists k []) ≤ length (joined lists)
offset_within lists k inside =
    let before = offset_before lists k (length lists) inside (omega arith) in
    let whole = ap (λ xs. length (joined xs)) (take_all (length lists) lists (omega arith)) in
    omega arith

module _ {X : Type 0} (R : X → X → Type 0) (lists : List (List X)) (pairs : AllPairs R (joined lists)) where
  -- what holds of each member and each later one holds within a list
  pub pairs_within : (k : ℕ) → k < length lists → AllPairs R (get_or lists k [])
  pairs_within k inside i j d before within =
      let end = offset_within lists k inside in
      let first = entry_place lists k i d inside (omega arith) in
      let second = entry_place lists k j d inside within in
      let both = pairs (offset lists k + i) (offset lists k + j) d (omega arith) (omega arith) in
      rw (first, second) at both

  -- and of the members of two lists
  pub pairs_across : (i j a b : ℕ) (d : X) → i < j → j < length lists → a < length (get_or lists i [])
      → b < length (get_or lists j []) → R (get_or (get_or lists i []) a d) (get_or (get_or lists j []) b d)
  pairs_across i j a b d before inside first_in second_in =
      let end = offset_within lists j inside in
      let apart = offset_before lists i j before (omega arith) in
      let first = entry_place lists i a d (omega arith) first_in in
      let second = entry_place lists j b d inside second_in in
      let both = pairs (offset lists i + a) (offset lists j + b) d (omega arith) (omega arith) in
      rw (first, second) at both

-- what holds of all members holds of those of each list
pub all_within : {X : Type 0} (P : X → Type 0) (lists : List (List X)) (k : ℕ) → All P (joined lists)
    → k < length lists → All P (get_or lists k [])
all_within P lists k all inside i d within =
    let end = offset_within lists k inside in
    let place = entry_place lists k i d inside within in
    rw place at (all (offset lists k + i) d (omega arith))
