-- The places of the pages of long values.
use Rattle.std.proofs.Common.{◌≡◌, ℕ, ◌+◌, ◌<◌, List, [], length, get_or, sum, refl, sym, ap, ◌∙◌, subst, arith}
use Rattle.std.proofs.lemmas.List.{take_all}
use Rattle.std.proofs.lemmas.List.Sums.{sum_by_more}
use Rattle.space_layout.specs.ValuePlaces.{row_at, pages_before_row, pages_before_field}
use Rattle.space_layout.specs.ValuePlaces.{IsPart, HavePlaces}
use Rattle.space_layout.proofs.FollowingPieces.{FollowOn, piece_before, one_place, some_place}

abbrev row_total : List (List ℕ) → ℕ → ℕ
row_total counts r = sum (row_at counts r)

rows_follow : (counts : List (List ℕ)) → FollowOn (pages_before_row counts) (row_total counts) (length counts)
unfolding pages_before_row
rows_follow counts = record { next = λ r l. sum_by_more (λ (row : List ℕ). sum row) counts r [] l }

abbrev field_total : List ℕ → ℕ → ℕ
field_total row i = get_or row i 0

fields_follow : (row : List ℕ) → FollowOn (pages_before_field row) (field_total row) (length row)
unfolding pages_before_field
fields_follow row = record { next = λ i l. sum_by_more (λ (n : ℕ). n) row i 0 l }

fields_all : (row : List ℕ) → pages_before_field row (length row) ≡ sum row
unfolding pages_before_field
fields_all row = ap (λ (xs : List ℕ). sum xs) (take_all (length row) row (omega arith))

fields_none : (row : List ℕ) → pages_before_field row 0 ≡ 0
unfolding pages_before_field
fields_none row = refl

pub rows_none : (counts : List (List ℕ)) → pages_before_row counts 0 ≡ 0
unfolding pages_before_row
rows_none counts = refl

-- the place of a part within its row
in_row : (counts : List (List ℕ)) (r i k : ℕ) → IsPart counts r i k
    → pages_before_field (row_at counts r) i + k < row_total counts r
in_row counts r i k p =
    let row = row_at counts r in
    let all = fields_all row in
    let before = piece_before (pages_before_field row) (field_total row) (length row) (fields_follow row) i
    (length row) k
    p.field (omega arith) p.part in
    omega arith

joined : (a b x n : ℕ) → x ≡ b → a + b ≡ n → a + x ≡ n
joined a b x n e f = omega arith

pub have_places : (counts : List (List ℕ)) → HavePlaces counts
have_places counts = record {
  below = λ r i k p. piece_before (pages_before_row counts) (row_total counts) (length counts) (rows_follow counts) r
      (length counts) (pages_before_field (row_at counts r) i + k) p.row (omega arith) (in_row counts r i k p);
  one = λ r i k s j m p q e.
      let rows = one_place (pages_before_row counts) (row_total counts) (length counts) (rows_follow counts) r s
      (pages_before_field (row_at counts r) i + k) (pages_before_field (row_at counts s) j + m) p.row q.row
      (in_row counts r i k p) (in_row counts s j m q) e in
      let back : row_at counts s ≡ row_at counts r = ap (row_at counts) (sym rows.0) in
      let row = row_at counts r in
      let field : j < length row = subst (λ (xs : List ℕ). j < length xs) back q.field in
      let part : m < get_or row j 0 = subst (λ (xs : List ℕ). m < get_or xs j 0) back q.part in
      let same : pages_before_field row i + k ≡ pages_before_field row j + m =
      rows.1 ∙ ap (λ (xs : List ℕ). pages_before_field xs j + m) back in
      let fields = one_place (pages_before_field row) (field_total row) (length row) (fields_follow row) i j k m p.field
      field p.part part same in
      (rows.0, fields.0, fields.1);
  every = λ n l.
      let none = rows_none counts in
      let row = some_place (pages_before_row counts) (row_total counts) (length counts) (rows_follow counts) n
      (omega arith)
      l in
      let fields = row_at counts row.piece in
      let start = fields_none fields in
      let all = fields_all fields in
      let inside = row.inside in
      let field = some_place (pages_before_field fields) (field_total fields) (length fields)
      (fields_follow fields) row.at
      (omega arith) (omega arith) in
      record {
        r = row.piece;
        i = field.piece;
        k = field.at;
        is = record { row = row.below; field = field.below; part = field.inside };
        there = joined (pages_before_row counts row.piece) row.at (pages_before_field fields field.piece + field.at) n
            field.there row.there;
      };
}
