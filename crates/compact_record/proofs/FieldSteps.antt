-- The running pointers of a record's fields, one field on.
use Rattle.std.proofs.Common.{◌≡◌, ℕ, ◌+◌, ◌/◌, ◌<◌, ◌≤◌, Bool, true, false, cond, ◌&&◌, List, ◌++◌, length, get_or}
use Rattle.std.proofs.Common.{map, All, take, drop, sum_by, set, subst, get_or-set_same, get_or-set_other, refl, sym}
use Rattle.std.proofs.Common.{ap}
use Rattle.std.proofs.Common.{◌∙◌, arith, add-one, inl, inr}
use Rattle.std.specs.List.{range_with_len}
use Rattle.std.proofs.lemmas.Bool.{cases_eq, false≢true}
use Rattle.std.proofs.lemmas.List.{get_or-map, length-map, map-id, ext_get_or, get_or-take, length-take-le, take_at}
use Rattle.std.proofs.lemmas.List.Filters.{length-filter_more}
use Rattle.std.proofs.lemmas.List.FromFn.{sum_by-map-range_with_len_more, get_or-map-range_with_len}
use Rattle.std.proofs.lemmas.List.FromFn.{length-map-range_with_len}
use Rattle.column_values.specs.declared.field.Field.{Field}
use Rattle.column_values.specs.declared.field.FieldType.TheVariants.{Child}
use Rattle.column_values.specs.declared.field.Storage.{Storage}
use Rattle.column_values.specs.Types.{Fields, field_at, is_variable, fixed_length, storage_of, IsShort}
use Rattle.compact_record.specs.declared.places.Place.{Place}
use Rattle.compact_record.specs.Reading.{nullable_before, lengths_before, length_byte, has_length, has_long_length}
use Rattle.compact_record.specs.Reading.{is_long_length, is_null, local_before, local_length, place_of, places_of}
use Rattle.compact_record.specs.Reading.{field_count, is_external, head_length, record_end, FieldIsSpelled}

pub nullable_more : (fields : Fields) (i : ℕ) → i < length fields.fields
    → nullable_before fields (i + 1) ≡ nullable_before fields i + cond ((field_at fields i).nullable) 1 0
nullable_more fields i below =
    length-filter_more (λ (f : Field). f.nullable) fields.fields i
    (record { kind = Child; nullable = false; may_leave = false }) below

two_or_one : (has long : Bool) → ◌≡◌ {A = ℕ} (cond has (cond long 2 1) 0) (cond has (cond (has && long) 2 1) 0)
two_or_one true long = refl
two_or_one false long = refl

pub lengths_more : (page : List ℕ) (origin : ℕ) (fields : Fields) (i : ℕ)
    → lengths_before page origin fields (i + 1) ≡ lengths_before page origin fields i + cond
    (has_length page origin fields i) (cond (has_long_length page origin fields i) 2 1) 0
unfolding length_byte
lengths_more page origin fields i =
    let has = has_length page origin fields i in
    let long = is_long_length page (field_at fields i) (length_byte page origin fields i) in
    rw add-one (ap (λ (n : ℕ). lengths_before page origin fields i + n) (two_or_one has long))

sum_by-range : (f : ℕ → ℕ) (n : ℕ) → sum_by f (range_with_len 0 (n + 1)) ≡ sum_by f (range_with_len 0 n) + f n
sum_by-range f n =
    let more = sum_by-map-range_with_len_more f (λ (x : ℕ). x) 0 n n (omega arith) in
    rw (map-id (range_with_len 0 (n + 1)), map-id (range_with_len 0 n)) at more

pub local_more : (page : List ℕ) (origin : ℕ) (fields : Fields) (i : ℕ)
    → local_before page origin fields (i + 1) ≡ local_before page origin fields i + local_length page origin fields i
local_more page origin fields i = sum_by-range (local_length page origin fields) i

-- a place that was made of what was read
pub place_here : (page : List ℕ) (origin : ℕ) (fields : Fields) (i : ℕ) (null external : Bool) (local length' : ℕ)
    → null ≡ is_null page origin fields i → external ≡ is_external page origin fields i
    → local ≡ local_before page origin fields i → length' ≡ local_length page origin fields i
    → ◌≡◌ {A = Place} (record {
      null = null;
      external = external;
      from = origin + local;
      until = origin + local +
          length';
    }) (place_of page origin fields i)
unfolding place_of
place_here page origin fields i null external local length' e1 e2 e3 e4 = rw (e1, e2, e3, e4) refl

-- one place more
pub places_more : (page : List ℕ) (origin : ℕ) (fields : Fields) (places : List Place) (i : ℕ) (p : Place)
    → i < length places → p ≡ place_of page origin fields i
    → ((k : ℕ) (d : Place) → k < i → get_or places k d ≡ place_of page origin fields k) → (k : ℕ) (d : Place)
    → k < i + 1 → get_or (set places i p) k d ≡ place_of page origin fields k
places_more page origin fields places i p within here before k d below =
    elim (cases_eq k i) [
      | inl e ↦ rw e (get_or-set_same places i p d within ∙ here)
      | inr other ↦ get_or-set_other places i k p d other ∙ before k d (omega arith)
    ]

pub spelled_more : (page : List ℕ) (origin : ℕ) (fields : Fields) (i : ℕ) → FieldIsSpelled page origin fields i
    → ((k : ℕ) → k < i → FieldIsSpelled page origin fields k)
    → (k : ℕ) → k < i + 1 → FieldIsSpelled page origin fields k
spelled_more page origin fields i here before k below =
    elim (cases_eq k i) [
      | inl e ↦ let P : ℕ → Type 0 = λ j. FieldIsSpelled page origin fields j in subst P (sym e) here
      | inr other ↦ before k (omega arith)
    ]

-- the record's head, as the code adds it up
pub head_is : (page : List ℕ) (origin : ℕ) (fields : Fields) (lengths : ℕ)
    → lengths ≡ lengths_before page origin fields (field_count fields)
    → 5 + (fields.nullable + 7) / 8 + lengths ≡ head_length page origin fields
unfolding head_length
head_is page origin fields lengths e = ap (λ (n : ℕ). 5 + (fields.nullable + 7) / 8 + n) e

pub end_is : (page : List ℕ) (origin : ℕ) (fields : Fields) (local : ℕ)
    → local ≡ local_before page origin fields (field_count fields) → origin + local ≡ record_end page origin fields
unfolding record_end
end_is page origin fields local e = ap (λ (n : ℕ). origin + n) e

-- all places together
pub places_are : (page : List ℕ) (origin : ℕ) (fields : Fields) (places : List Place) (n : ℕ) → n ≡ field_count fields
    → n ≤ length places
    → ((k : ℕ) (d : Place) → k < field_count fields → get_or places k d ≡ place_of page origin fields k)
    → take n places ≡ places_of page origin fields
unfolding places_of
places_are page origin fields places n counted room each =
    let none : Place = record { null = false; external = false; from = 0; until = 0 } in
    let size : length (take n places) ≡ n = length-take-le n places room in
    let all = length-map-range_with_len (place_of page origin fields) 0 (field_count fields) in
    ext_get_or none (take n places) (map (place_of page origin fields) (range_with_len 0 (field_count fields)))
    (omega (arith, size, all))
    (λ k below.
    let in' : k < n = omega (arith, size) in
    let out : k < field_count fields = omega arith in
    get_or-take n places k none in' ∙ each k none out ∙ sym
    (get_or-map-range_with_len (place_of page origin fields) 0 (field_count fields) k k none out (omega arith)))

-- the whole slice of a vector, written back
pub whole_slice : (xs ys : List Place) (n : ℕ) → length xs ≡ n → take n (xs ++ drop (length xs) ys) ≡ xs
whole_slice xs ys n size =
    take_at xs (drop (length xs) ys) n size

-- how a record keeps the field at a place
pub storage_in : (fields : Fields) (stored : List Storage) (i : ℕ) (d : Storage)
    → stored ≡ map storage_of fields.fields → i < length fields.fields
    → get_or stored i d ≡ storage_of (field_at fields i)
storage_in fields stored i d same below =
    ap (λ (xs : List Storage). get_or xs i d) same ∙ get_or-map storage_of fields.fields i
    (record { kind = Child; nullable = false; may_leave = false }) d below

pub storage_short : (fields : Fields) (stored : List Storage) (i : ℕ) (d : Storage)
    → stored ≡ map storage_of fields.fields → All IsShort stored → i < length fields.fields
    → (get_or stored i d).length < 34359738368
storage_short fields stored i d same short below =
    short i d (omega (arith, below, ap (λ (xs : List Storage). length xs) same, length-map fields.fields storage_of))

-- a field of a fixed length that is never null has no null bit and no length
pub record FixedFacts (page : List ℕ) (origin : ℕ) (fields : Fields) (i length' : ℕ) : Type 0 where
  pub null : false ≡ is_null page origin fields i
  pub external : false ≡ is_external page origin fields i
  pub size : length' ≡ local_length page origin fields i
  pub nulls : nullable_before fields (i + 1) ≡ nullable_before fields i
  pub lengths : lengths_before page origin fields (i + 1) ≡ lengths_before page origin fields i
  pub spelled : FieldIsSpelled page origin fields i

pub fixed_facts : (page : List ℕ) (origin : ℕ) (fields : Fields) (i : ℕ) (stored : Storage) → i < length fields.fields
    → stored ≡ storage_of (field_at fields i) → stored.nullable ≡ false → stored.variable ≡ false
    → FixedFacts page origin fields i stored.length
unfolding is_null is_external local_length
fixed_facts page origin fields i stored below is never fixed =
    let n : (field_at fields i).nullable ≡ false = sym (ap (λ (s : Storage). s.nullable) is) ∙ never in
    let v : is_variable (field_at fields i).kind ≡ false = sym (ap (λ (s : Storage). s.variable) is) ∙ fixed in
    let long : has_long_length page origin fields i ≡ false = rw v refl in
    let external : is_external page origin fields i ≡ false = rw v refl in
    let size : local_length page origin fields i ≡ fixed_length (field_at fields i).kind = rw (n, v) refl in
    let more = nullable_more fields i below in
    let most = lengths_more page origin fields i in
    record {
      null = rw n refl;
      external = sym external;
      size = ap (λ (s : Storage). s.length) is ∙ sym size;
      nulls = omega (arith, rw n at more);
      lengths = omega (arith, rw v at most);
      spelled = record {
        shortest = λ is_long. absurd (false≢true (sym long ∙ is_long));
        leaves = λ leaves. absurd (false≢true (sym external ∙ leaves));
        refers = λ leaves. absurd (false≢true (sym external ∙ leaves));
      };
    }
