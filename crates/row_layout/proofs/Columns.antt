-- Where a column stands in the key, or among the others.
use Rattle.std.proofs.Common.{◌≡◌, ℕ, ◌+◌, ◌<◌, ◌==◌, ◌||◌, Bool, true, false, not, Contains}
use Rattle.std.proofs.Common.{List, [], ◌∷◌, length, get_or, refl, sym, ap, ◌∙◌, subst, arith, inl, inr}
use Rattle.std.specs.List.{list_any, range_with_len, position_or_len}
use Rattle.std.proofs.lemmas.Bool.{eqb-true, eq-eqb, false≢true, cases_lt}
use Rattle.std.proofs.lemmas.Bool.Decides.{eqb_tells}
use Rattle.std.proofs.lemmas.List.Sums.{fails_before_first, passes_at_first}
use Rattle.std.proofs.lemmas.List.Elements.{at_from_Contains}
use Rattle.page_source.proofs.Members.{contains_here, contains_there, contains_filter, contains_range}
use Rattle.schema_text.specs.TableDef.{TableDef}
use Rattle.schema_text.specs.IndexFields.{clustered_positions, other_positions, clustered_key, field_of_column}

abbrev pub place_among : List ℕ → ℕ → ℕ
place_among list c = position_or_len (λ i. i == c) list

-- what stands in a list stands at its place
pub placed : (list : List ℕ) (c : ℕ) → Contains list c
    → (place_among list c < length list) × (get_or list (place_among list c) 0 ≡ c)
placed list c has =
    let found = at_from_Contains list c has in
    elim (cases_lt found.0 (place_among list c)) [
      | inl before ↦
          absurd (false≢true (sym (fails_before_first (λ i. i == c) list found.0 0 before)
          ∙ eq-eqb (get_or list found.0 0) c (found.2 0)))
      | inr reached ↦
          let within = found.1 in
          let here : place_among list c < length list = omega arith in
          (here, eqb-true (get_or list (place_among list c) 0) c (passes_at_first (λ i. i == c) list 0 here))
    ]

abbrev pub has_column : List ℕ → ℕ → Bool
has_column key c = list_any (λ j. j == c) key

pub any_contains : (list : List ℕ) (c : ℕ) → has_column list c ≡ true → Contains list c
any_contains [] c is = absurd (false≢true is)
any_contains (x ∷ xs) c is = elim (eqb_tells x c) [
  | inl q ↦ subst (λ k. Contains (x ∷ xs) k) q.1 (contains_here x xs)
  | inr q ↦ contains_there x xs c (any_contains xs c (sym (ap (λ (b : Bool). b || has_column xs c) q.0) ∙ is))
]

-- a column that isn't in the key is one of the others
pub is_other : (table : TableDef) (c : ℕ) → c < length table.columns → has_column (clustered_positions table) c ≡ false
    → Contains (other_positions table) c
is_other table c within lacks =
    contains_filter (λ i. not (list_any (λ j. j == i) (clustered_positions table)))
    (range_with_len 0 (length table.columns)) c (contains_range (length table.columns) c within) (ap not lacks)

-- the field of a column
pub field_in_key : (table : TableDef) (c : ℕ) → has_column (clustered_positions table) c ≡ true
    → field_of_column table c ≡ place_among (clustered_positions table) c
unfolding field_of_column
field_in_key table c is = rw is refl

pub field_behind : (table : TableDef) (c : ℕ) → has_column (clustered_positions table) c ≡ false
    → field_of_column table c ≡ length (clustered_key table) + 2 + place_among (other_positions table) c
unfolding field_of_column
field_behind table c is = rw is refl
