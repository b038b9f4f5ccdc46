-- The kept fields of a record: where they lie, that they can be read whole, and in how many pages they go on.
use Rattle.std.proofs.Common.{◌≡◌, ℕ, ◌+◌, ◌<◌, ◌≤◌, Bool, true, false, not, List, [], ◌∷◌, length, get_or, map}
use Rattle.std.proofs.Common.{All}
use Rattle.std.proofs.Common.{filter, refl, ap, ◌∙◌, subst, arith, cond}
use Rattle.std.specs.Prelude.{sum_by, ◌&&◌, ◌==◌}
use Rattle.std.specs.List.{range_with_len, list_any}
use Rattle.std.proofs.lemmas.Bool.{false≢true}
use Rattle.std.proofs.lemmas.List.Concat.{length-flat_map}
use Rattle.std.proofs.lemmas.List.Sums.{sum_by-append}
use Rattle.std.proofs.lemmas.List.Elements.{All-head, All-tail, All-filter}
use Rattle.std.proofs.lemmas.List.FromFn.{length-range_with_len, get_or-range_with_len, get_or-map-range_with_len}
use Rattle.page_source.specs.Pages.{page_count}
use Rattle.column_values.specs.declared.kind.ColumnType.{ColumnType}
use Rattle.column_values.specs.declared.field.FieldType.{FieldType}
use Rattle.column_values.specs.declared.field.FieldType.TheVariants as kinds
use Rattle.column_values.specs.Types.{Fields, AreFields, field_at, is_big}
use Rattle.compact_record.specs.declared.places.Place.{Place}
use Rattle.compact_record.specs.Reading.{place_of, places_of, field_count}
use Rattle.space_header.specs.Header.{size_of}
use Rattle.offpage_chain.specs.Reference.{reference_of}
use Rattle.offpage_chain.specs.Reader.{GoesOn}
use Rattle.offpage_chain.specs.Laws.{HasOneChain, ChainGoesOn}
use Rattle.schema_text.specs.TableDef.{TableDef}
use Rattle.schema_text.specs.IndexFields.{leaf_fields}
use Rattle.tree_walk.specs.Records.{IsRecord}
use Rattle.table_check.specs.Values.{bytes_at, pages_of_field, pages_of_record}
use Rattle.table_check.specs.Values.{pages_of_value}
use Rattle.table_check.specs.Valid.{IsSoundValue, IsSoundField}
use Rattle.cross_index.specs.calls.Gather.{CanFollowPlace, pages_of_place, place_in, pages_of_fields}
use Rattle.cross_index.specs.calls.Gather.{kept_fields, all_entry_fields}

sum_cons : (f : ℕ → ℕ) (x : ℕ) (xs : List ℕ) → sum_by f (x ∷ xs) ≡ f x + sum_by f xs
sum_cons f x xs = omega (arith, sum_by-append f (x ∷ []) xs)

sum_same : (f g : ℕ → ℕ) (xs : List ℕ) → All (λ x. f x ≡ g x) xs → sum_by f xs ≡ sum_by g xs
sum_same f g [] same = refl
sum_same f g (x ∷ xs) same =
    let here : f x ≡ g x = All-head (λ x. f x ≡ g x) x xs same in
    omega (
      arith,
      sum_cons f x xs,
      sum_cons g x xs,
      here,
      sum_same f g xs (All-tail (λ x. f x ≡ g x) x xs same),
    )

sum_filter : (f : ℕ → ℕ) (p : ℕ → Bool) (xs : List ℕ) → sum_by f (filter p xs) ≤ sum_by f xs
sum_filter f p [] = omega arith
sum_filter f p (x ∷ xs) = by_test (p x) (sum_filter f p xs)
  where
    by_test : (b : Bool) → sum_by f (filter p xs) ≤ sum_by f xs
        → sum_by f (cond b (x ∷ filter p xs) (filter p xs)) ≤ sum_by f (x ∷ xs)
    by_test true rest = omega (arith, rest, sum_cons f x (filter p xs), sum_cons f x xs)
    by_test false rest = omega (arith, rest, sum_cons f x xs)

pub map_same : {Y : Type 0} (f g : ℕ → Y) (xs : List ℕ) → All (λ x. f x ≡ g x) xs → map f xs ≡ map g xs
map_same f g [] same = refl
map_same f g (x ∷ xs) same =
    rw (All-head (λ x. f x ≡ g x) x xs same, map_same f g xs (All-tail (λ x. f x ≡ g x) x xs same)) refl

all_below : (n : ℕ) → All (λ k. k < n) (range_with_len 0 n)
all_below n k d inside =
    let here : k < n = omega (arith, inside, length-range_with_len 0 n) in
    omega (arith, here, get_or-range_with_len 0 n k d here)

-- the kept fields are fields of a row
pub kept_below : (table : TableDef) → All (λ k. k < field_count (leaf_fields table 0)) (kept_fields table)
unfolding kept_fields
kept_below table =
    All-filter (λ k. list_any (λ j. j == k) (all_entry_fields table)) (λ k. k < field_count (leaf_fields table 0))
    (range_with_len 0 (field_count (leaf_fields table 0))) (all_below (field_count (leaf_fields table 0)))

-- the place of a field that was read
pub place_is : (page : List ℕ) (origin : ℕ) (fields : Fields) (k : ℕ) → k < field_count fields
    → place_in (places_of page origin fields) k ≡ place_of page origin fields k
unfolding place_in places_of
place_is page origin fields k inside =
    get_or-map-range_with_len (place_of page origin fields) 0 (field_count fields) k k _ inside (omega arith)

module _ (one : HasOneChain) (goes : ChainGoesOn) (file : List ℕ) (most : size_of file ≤ 4194304)
    (least : size_of file ≤ page_count file) where
  sound_follow : (segment : ℕ) (kind : ColumnType) (page : List ℕ) (place : Place)
      → IsSoundValue file segment kind page place → CanFollowPlace file page place
  sound_follow segment kind page place sound null away =
      let long = sound.external null away in
      let reference = reference_of (bytes_at page place) in
      record {
        goes_on = subst (λ (pages : List ℕ). GoesOn file reference.page reference.length pages)
            (one file segment reference long.whole.pages most long.whole.chain)
            (goes file segment reference long.whole.pages most least long.whole.chain);
      }

  -- only the value of a column goes on elsewhere
  pub field_follow : (segment : ℕ) (kind : FieldType) (page : List ℕ) (place : Place)
      → (place.external ≡ true → is_big kind ≡ true) → IsSoundField file segment kind page place
      → CanFollowPlace file page place
  field_follow segment (kinds.Column kind) page place big sound = sound_follow segment kind page place sound
  field_follow segment kinds.RowId page place big sound = λ null away. absurd (false≢true (big away))
  field_follow segment kinds.TrxId page place big sound = λ null away. absurd (false≢true (big away))
  field_follow segment kinds.RollPointer page place big sound = λ null away. absurd (false≢true (big away))
  field_follow segment kinds.Child page place big sound = λ null away. absurd (false≢true (big away))

near_pages : (file page : List ℕ) (place : Place) → (place.external ≡ true → ⊥)
    → length (pages_of_place file page place) ≡ 0
near_pages file page place near = by_tests place.null place.external refl
  where
    by_tests : (n e : Bool) → place.external ≡ e
        → length (cond (not n && e) (pages_of_value file (bytes_at page place) true) []) ≡ 0
    by_tests n true is = absurd (near is)
    by_tests true false is = refl
    by_tests false false is = refl

same_pages : (file : List ℕ) (kind : FieldType) (page : List ℕ) (place : Place)
    → (place.external ≡ true → is_big kind ≡ true)
    → length (pages_of_place file page place) ≡ length (pages_of_field file kind page place)
same_pages file (kinds.Column kind) page place big = refl
same_pages file kinds.RowId page place big = near_pages file page place (λ away. false≢true (big away))
same_pages file kinds.TrxId page place big = near_pages file page place (λ away. false≢true (big away))
same_pages file kinds.RollPointer page place big = near_pages file page place (λ away. false≢true (big away))
same_pages file kinds.Child page place big = near_pages file page place (λ away. false≢true (big away))

-- a record of the clustered tree
module _ (file page : List ℕ) (table : TableDef) (origin : ℕ) (are : AreFields (leaf_fields table 0))
    (can : IsRecord page (leaf_fields table 0) origin) where
  abbrev fields : Fields
  fields = leaf_fields table 0

  abbrev count : ℕ
  count = field_count fields

  pub big : (k : ℕ) → k < count → (place_of page origin fields k).external ≡ true
      → is_big (field_at fields k).kind ≡ true
  unfolding place_of
  big k inside away = (are.listed.leaving k ((can.spelled.each k inside).leaves away)).0

  -- the kept fields go on in some of the pages of the record
  pub pages_within : pages_of_fields file page (places_of page origin fields) (kept_fields table)
      ≤ length (pages_of_record file page origin fields)
  unfolding pages_of_fields pages_of_record kept_fields
  pages_within =
      let f : ℕ → ℕ = λ k. length (pages_of_place file page (place_in (places_of page origin fields) k)) in
      let h : ℕ → ℕ = λ k. length (pages_of_field file (field_at fields k).kind page (place_of page origin fields k)) in
      let same = sum_same f h (range_with_len 0 count)
      (λ n d inside.
      let k = get_or (range_with_len 0 count) n d in
      let within : k < count = all_below count n d inside in
      ap (λ (p : Place). length (pages_of_place file page p)) (place_is page origin fields k within)
      ∙ same_pages file (field_at fields k).kind page (place_of page origin fields k) (big k within)) in
      let part = sum_filter f (λ k. list_any (λ j. j == k) (all_entry_fields table)) (range_with_len 0 count) in
      let all = length-flat_map (λ k. pages_of_field file (field_at fields k).kind page (place_of page origin fields k))
      (range_with_len 0 count) in
      omega (arith, same, part, all)
