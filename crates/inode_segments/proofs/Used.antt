-- The used inodes among the first of a page.
use Rattle.std.proofs.Common.{◌≡◌, ℕ, ◌+◌, Bool, true, false, cond, List, [], ◌∷◌, ◌++◌, map, append-nil, append_assoc}
use Rattle.std.proofs.Common.{refl, sym, ◌∙◌, ap}
use Rattle.std.specs.List.{range_with_len, filter}
use Rattle.std.proofs.lemmas.List.{map-append}
use Rattle.std.proofs.lemmas.List.Elements.{filter-append}
use Rattle.page_source.proofs.Members.{range_more}
use Rattle.inode_segments.specs.Inodes.{is_used_place, used_places}

unfoldable pub used_before : List ℕ → ℕ → List ℕ
used_before page k = filter (is_used_place page) (range_with_len 0 k)

pub used_before-none : (page : List ℕ) → used_before page 0 ≡ []
unfolding used_before
used_before-none page = refl

pub used_before-all : (page : List ℕ) → used_before page 85 ≡ used_places page
unfolding used_before used_places
used_before-all page = refl

used_more : (page : List ℕ) (k : ℕ)
    → used_before page (k + 1) ≡ used_before page k ++ cond (is_used_place page k) (k ∷ []) []
unfolding used_before
used_more page k =
    let p = is_used_place page in
    ap (filter p) (range_more k) ∙ filter-append p (range_with_len 0 k) (k ∷ [])

pub used_one : (page : List ℕ) (k : ℕ) → is_used_place page k ≡ true
    → used_before page (k + 1) ≡ used_before page k ++ k ∷ []
used_one page k is = used_more page k ∙ ap (λ (b : Bool). used_before page k ++ cond b (k ∷ []) []) is

pub unused_one : (page : List ℕ) (k : ℕ) → is_used_place page k ≡ false → used_before page (k + 1) ≡ used_before page k
unused_one page k is =
    used_more page k ∙ ap (λ (b : Bool). used_before page k ++ cond b (k ∷ []) []) is ∙ append-nil (used_before page k)

-- what is kept of the segments so far, with one more
pub kept_more : {S X : Type 0} (field : S → X) (of : ℕ → X) (segments : List S) (old : List X) (before : List ℕ)
    (s : S) (k : ℕ) → map field segments ≡ old ++ map of before → field s ≡ of k
    → map field (segments ++ s ∷ []) ≡ old ++ map of (before ++ k ∷ [])
kept_more field of segments old before s k so_far is =
    map-append field segments (s ∷ [])
    ∙ ap (λ xs. xs ++ field s ∷ []) so_far ∙ append_assoc old (map of before) (field s ∷ [])
    ∙ ap (λ x. old ++ (map of before ++ x ∷ [])) is ∙ ap (λ xs. old ++ xs) (sym (map-append of before (k ∷ [])))
