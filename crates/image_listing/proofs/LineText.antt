-- The text of a listing, piece by piece.
use Rattle.std.proofs.Common.{◌≡◌, ℕ, Option, List, [], ◌∷◌, ◌++◌, map, flat_map, codes, decimal, ap, ◌∙◌, append-nil}
use Rattle.std.proofs.lemmas.List.{map-append}
use Rattle.std.proofs.lemmas.List.Concat.{flat_map-append}
use Rattle.image_listing.specs.declared.lines.Tally.{Tally}
use Rattle.image_listing.specs.Listing.{counted, line_text, listing_text}
use Rattle.image_listing.specs.Tallies.{line_of}

-- the words that each line begins with
abbrev pub space_text : ℕ → List ℕ
space_text space = counted (codes "space ") space

pub space_pieces : (space : ℕ) (name digits : List ℕ) → name ≡ codes "space " → digits ≡ decimal space
    → name ++ (digits ++ []) ≡ space_text space
space_pieces space name digits is spelled =
    rw (is, spelled) (ap (λ (t : List ℕ). codes "space " ++ t) (append-nil (decimal space)))

abbrev pub Counted : Type 0
Counted = (ℕ × Option ℕ) × Tally

-- the lines before one, this one, and those after it
pub lines_split : (lines before rest after : List Counted) (line : Counted)
    → lines ≡ before ++ rest → rest ≡ line ∷ after
    → listing_text (map line_of lines) ≡ flat_map line_text (map line_of before)
    ++ (line_text (line_of line) ++ flat_map line_text (map line_of after))
unfolding listing_text
lines_split lines before rest after line is here =
    ap (λ (all : List Counted). flat_map line_text (map line_of all))
    (is ∙ ap (λ (more : List Counted). before ++ more) here)
    ∙ ap (flat_map line_text) (map-append line_of before (line ∷ after))
    ∙ flat_map-append line_text (map line_of before) (map line_of (line ∷ after))
