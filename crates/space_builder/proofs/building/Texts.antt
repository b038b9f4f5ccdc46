-- A text whose lines are good is that of their rows.
use Rattle.std.proofs.Common.{◌≡◌, ◌≢◌, ℕ, suc, ◌-◌, ◌<◌, true, false, cond, eqb, List, [], ◌∷◌, ◌++◌}
use Rattle.std.proofs.Common.{length, take, get_or, refl, sym, ap, ◌∙◌, arith, inl, inr, ◌⊎◌, append_assoc}
use Rattle.std.specs.List.{flat_map, join_with_byte}
use Rattle.std.proofs.lemmas.Bool.Decides.{eqb_tells}
use Rattle.std.proofs.lemmas.List.{append-nil}
use Rattle.std.proofs.lemmas.List.Splits.{join_with_byte-slice_split, length-slice_split}
use Rattle.schema_text.specs.Grammar.{line_feed}
use Rattle.row_text.specs.Line.{line_of, text_of}
use Rattle.row_store.specs.BadLine.{pieces_of, last_piece, row_lines, HasFeed, RowChecks}
use Rattle.space_builder.specs.build.Laws.{GoodTextsAreOfRows}

abbrev with_feed : List ℕ → List ℕ
with_feed line = line ++ line_feed ∷ []

-- pieces, joined by LFs
joined_pieces : (pieces : List (List ℕ)) → 0 < length pieces
    → join_with_byte line_feed pieces
    ≡ flat_map with_feed (take (length pieces - 1) pieces) ++ get_or pieces (length pieces - 1) []
joined_pieces [] some = absurd (omega arith)
joined_pieces (x ∷ []) some = refl
joined_pieces (x ∷ y ∷ zs) some =
    let rest = joined_pieces (y ∷ zs) (omega arith) in
    let last : suc (suc (length zs)) - 1 ≡ suc (length zs) = omega arith in
    let before : suc (length zs) - 1 ≡ length zs = omega arith in
    ap (λ more. x ++ line_feed ∷ more) (rest ∙ ap (λ n. flat_map with_feed (take n (y ∷ zs)) ++ get_or (y ∷ zs) n [])
    before)
    ∙ sym (ap (λ n. flat_map with_feed (take n (x ∷ y ∷ zs)) ++ get_or (x ∷ y ∷ zs) n []) last
    ∙ append_assoc (with_feed x) (flat_map with_feed (take (length zs) (y ∷ zs))) (get_or (y ∷ zs) (length zs) [])
    ∙ append_assoc x (line_feed ∷ []) (flat_map with_feed (take (length zs) (y ∷ zs)) ++ get_or (y ∷ zs) (length zs)
    []))

-- two lists whose members give the same pieces
flats_same : {A B : Type 0} (f : A → List ℕ) (g : B → List ℕ) (xs : List A) (ys : List B) (d : A) (e : B)
    → length xs ≡ length ys → ((i : ℕ) → i < length ys → f (get_or xs i d) ≡ g (get_or ys i e))
    → flat_map f xs ≡ flat_map g ys
flats_same f g [] [] d e same each = refl
flats_same f g [] (y ∷ ys) d e same each = absurd (omega arith)
flats_same f g (x ∷ xs) [] d e same each = absurd (omega arith)
flats_same f g (x ∷ xs) (y ∷ ys) d e same each =
    let here = each 0 (omega arith) in
    let rest = flats_same f g xs ys d e (omega arith) (λ i below. each (suc i) (omega arith)) in
    rw (here, rest) refl

none_left : (xs : List ℕ) → length xs ≡ 0 → xs ≡ []
none_left [] none = refl
none_left (x ∷ xs) none = absurd (omega arith)

-- a text whose lines all end with LF is these lines
text_is : (text : List ℕ) → ((k : ℕ) → k < length (row_lines text) → HasFeed text k)
    → text ≡ flat_map with_feed (row_lines text)
unfolding row_lines
text_is text feeds = by_last (eqb_tells (length (last_piece text)) 0)
  where
    some : 0 < length (pieces_of text)
    some = omega (arith, length-slice_split (λ b. eqb b line_feed) text)

    whole : text ≡ flat_map with_feed (take (length (pieces_of text) - 1) (pieces_of text)) ++ last_piece text
    whole = sym (join_with_byte-slice_split line_feed text) ∙ joined_pieces (pieces_of text) some

    by_last : ((eqb (length (last_piece text)) 0 ≡ true) × (length (last_piece text) ≡ 0))
        ⊎ ((eqb (length (last_piece text)) 0 ≡ false) × (length (last_piece text) ≢ 0))
        → text ≡ flat_map with_feed
        (cond (eqb (length (last_piece text)) 0) (take (length (pieces_of text) - 1) (pieces_of text)) (pieces_of text))
    by_last (inl none) =
        whole ∙ ap (λ last. flat_map with_feed (take (length (pieces_of text) - 1) (pieces_of text)) ++ last)
        (none_left (last_piece text) none.1)
        ∙ append-nil (flat_map with_feed (take (length (pieces_of text) - 1) (pieces_of text)))
        ∙ ap (λ b. flat_map with_feed (cond b (take (length (pieces_of text) - 1) (pieces_of text)) (pieces_of text)))
        (sym none.0)
    by_last (inr other) =
        let all : cond (eqb (length (last_piece text)) 0) (take (length (pieces_of text) - 1) (pieces_of text))
        (pieces_of text) ≡ pieces_of text =
        ap (λ b. cond b (take (length (pieces_of text) - 1) (pieces_of text)) (pieces_of text)) other.0 in
        let size = ap length all in
        let feed = feeds (length (pieces_of text) - 1) (let here = some in omega arith) in
        absurd (let here = some in omega arith)

pub texts_are_of_rows : GoodTextsAreOfRows
unfolding text_of RowChecks
texts_are_of_rows table text rows are =
    let count = are.count in
    sym (text_is text (λ k below. (are.good k below).1.1.0.feed)
    ∙ flats_same with_feed (line_of table) (row_lines text) rows [] [] (sym count)
    (λ k below. (are.each k below).spelled))
