-- The order of two keys, field by field.
use Rattle.std.proofs.Common.{◌≡◌, ℕ, zero, suc, ◌+◌, ◌<◌, ◌≤◌, List, length, get_or, map, take, All}
use Rattle.std.proofs.Common.{Option, None, subst, inl, inr, refl, sym, ap, ◌∙◌, arith}
use Rattle.std.specs.declared.cmp.Ordering.{Ordering}
use Rattle.std.specs.Ordering.{ordering_then}
use Rattle.std.proofs.lemmas.List.{length-map, length-take-le, get_or-map, get_or-take}
use Rattle.std.proofs.lemmas.Simd.{map-map}
use Rattle.std.specs.List.{range_with_len}
use Rattle.std.proofs.lemmas.Bool.{cases_eq}
use Rattle.std.proofs.lemmas.List.FromFn.{take-map-range_with_len, get_or-map-range_with_len}
use Rattle.std.proofs.lemmas.List.FromFn.{length-map-range_with_len}
use Rattle.column_values.specs.declared.field.Field.{Field}
use Rattle.column_values.specs.declared.field.FieldType.{FieldType}
use Rattle.column_values.specs.declared.field.FieldType.TheVariants.{Child}
use Rattle.column_values.specs.Types.{Fields, field_at}
use Rattle.column_values.specs.Order.{cell_cmp, key_cmp, Key}
use Rattle.compact_record.specs.declared.places.Place.{Place}
use Rattle.compact_record.specs.Reading.{cell_at, key_kinds, key_of, places_of, place_of, field_count, local_before}
use Rattle.compact_record.specs.Reading.{local_length, record_end, is_null, Reading, IsReading}
use Rattle.compact_record.specs.Keys.{key_at, IsOnPage, LiesBelow, HaveChild}
use Rattle.compact_record.proofs.KeyOrders.{LeftOf, cells_decide, kinds_size, kind_of_field}
use Rattle.compact_record.proofs.FieldSteps.{local_more}

-- what is left of two keys from field i on, in their order
abbrev pub KeyLeft : List ℕ → List ℕ → Fields → List Place → List Place → ℕ → Ordering
KeyLeft page other fields a b i = LeftOf (key_kinds fields) (key_at page fields a) (key_at other fields b) i

length-key : (page : List ℕ) (fields : Fields) (a : List Place) → fields.keys ≤ length a
    → length (key_at page fields a) ≡ fields.keys
unfolding key_at
length-key page fields a most = length-map (take fields.keys a) (cell_at page) ∙ length-take-le fields.keys a most

cell_in : (page : List ℕ) (fields : Fields) (a : List Place) (i : ℕ) (d : Place) → fields.keys ≤ length a
    → i < fields.keys → get_or (key_at page fields a) i None ≡ cell_at page (get_or a i d)
unfolding key_at
cell_in page fields a i d most below =
    get_or-map (cell_at page) (take fields.keys a) i d None (omega (arith, length-take-le fields.keys a most))
    ∙ ap (λ p. cell_at page p) (get_or-take fields.keys a i d below)

-- the fields at a place decide, or what is left behind them does
pub key_decides : (page other : List ℕ) (fields : Fields) (a b : List Place) (i : ℕ) (f : Field) (p q : Place)
    (o answer whole : Ordering)
    → fields.keys ≤ length fields.fields → fields.keys ≤ length a → fields.keys ≤ length b → i < fields.keys
    → f ≡ field_at fields i → ((d : Place) → p ≡ get_or a i d) → ((d : Place) → q ≡ get_or b i d)
    → o ≡ cell_cmp f.kind (cell_at page p) (cell_at other q) → o ≡ answer
    → KeyLeft page other fields a b i ≡ whole → ordering_then answer (KeyLeft page other fields a b (i + 1)) ≡ whole
key_decides page other fields a b i f p q o answer whole few first second below ff pp qq is says left =
    let size = kinds_size fields few in
    let one = ap (cell_at page) (pp p) ∙ sym (cell_in page fields a i p first below) in
    let two = ap (cell_at other) (qq q) ∙ sym (cell_in other fields b i q second below) in
    cells_decide (key_kinds fields) (key_at page fields a) (key_at other fields b) i Child f.kind o answer whole
    (length-key page fields a first ∙ sym size) (length-key other fields b second ∙ sym size)
    (omega (arith, below, size))
    (ap (λ (g : Field). g.kind) ff ∙ kind_of_field fields i few below)
    (is ∙ ap (λ (v : Option (List ℕ)). cell_cmp f.kind v (cell_at other q)) one
    ∙ ap (cell_cmp f.kind (get_or (key_at page fields a) i None)) two) says left

-- the key of a record that was read
pub key_is : (page : List ℕ) (origin : ℕ) (fields : Fields) → fields.keys ≤ length fields.fields
    → key_at page fields (places_of page origin fields) ≡ key_of page origin fields
unfolding key_at places_of key_of
key_is page origin fields few =
    ap (λ (ps : List Place). map (cell_at page) ps) (take-map-range_with_len (place_of page origin fields) 0
    (field_count fields) fields.keys few)
    ∙ map-map (cell_at page) (place_of page origin fields) (range_with_len 0 fields.keys)

local_rises : (page : List ℕ) (origin : ℕ) (fields : Fields) (n i : ℕ) → i ≤ n
    → local_before page origin fields i ≤ local_before page origin fields n
local_rises page origin fields zero i least = let e : i
    ≡ 0 = omega arith in let same = ap (λ (j : ℕ). local_before page origin fields j) e in omega (arith, same)
local_rises page origin fields (suc n) i least =
    elim (cases_eq i (suc n)) [
      | inl e ↦ let same = ap (λ (j : ℕ). local_before page origin fields j) e in omega (arith, same)
      | inr other ↦
          let more = local_more page origin fields n in
          let e : suc n ≡ n + 1 = omega arith in
          let same = ap (λ (j : ℕ). local_before page origin fields j) e in
          omega (arith, same, more, local_rises page origin fields n i (omega arith))
    ]

pub on_page : (page : List ℕ) (origin : ℕ) (fields : Fields) → record_end page origin fields ≤ 16384
    → All IsOnPage (places_of page origin fields)
unfolding places_of place_of record_end
on_page page origin fields ends k d below =
    let n = field_count fields in
    let in' : k < n = omega (arith, length-map-range_with_len (place_of page origin fields) 0 n) in
    let here = get_or-map-range_with_len (place_of page origin fields) 0 n k k d in' (omega arith) in
    let more = local_more page origin fields k in
    let most = local_rises page origin fields n (k + 1) (omega arith) in
    subst IsOnPage (sym here) (record { rising = omega arith; inside = omega (arith, more, most, ends) })

-- where each field lies in a record that was read
pub lie_below : (page : List ℕ) (origin : ℕ) (fields : Fields) (reading : Reading)
    → IsReading page origin fields reading
    → All (LiesBelow reading.end) reading.places
unfolding places_of place_of record_end
lie_below page origin fields reading read = rw (read.holds, read.ends) (λ k d below.
    let n = field_count fields in
    let in' : k < n = omega (arith, length-map-range_with_len (place_of page origin fields) 0 n) in
    let here = get_or-map-range_with_len (place_of page origin fields) 0 n k k d in' (omega arith) in
    let more = local_more page origin fields k in
    let most = local_rises page origin fields n (k + 1) (omega arith) in
    subst (LiesBelow (record_end page origin fields)) (sym here) (record {
      rising = omega arith;
      below = omega (arith, more, most);
      refers = λ external. omega (arith, (read.spelled.each k in').refers external);
    }))

pub count_of_places : (page : List ℕ) (origin : ℕ) (fields : Fields)
    → length (places_of page origin fields) ≡ field_count fields
unfolding places_of
count_of_places page origin fields = length-map-range_with_len (place_of page origin fields) 0 (field_count fields)

-- keys of the same kinds have as many fields
pub same_keys : (fields others : Fields) → fields.keys ≤ length fields.fields → others.keys ≤ length others.fields
    → key_kinds others ≡ key_kinds fields → others.keys ≡ fields.keys
same_keys fields others few other_few same =
    sym (kinds_size others other_few) ∙ ap (λ (kinds : List FieldType). length kinds) same ∙ kinds_size fields few

pub order_of_keys : (page other : List ℕ) (fields others : Fields) (here there : ℕ) (a b : List Place) (o : Ordering)
    → fields.keys ≤ length fields.fields → others.keys ≤ length others.fields → key_kinds others ≡ key_kinds fields
    → a ≡ places_of page here fields → b ≡ places_of other there others
    → o ≡ key_cmp (key_kinds fields) (key_at page fields a) (key_at other fields b)
    → o ≡ key_cmp (key_kinds fields) (key_of page here fields) (key_of other there others)
unfolding key_at
order_of_keys page other fields others here there a b o few other_few same first second is =
    let x = ap (λ (ps : List Place). key_at page fields ps) first ∙ key_is page here fields few in
    let k = sym (same_keys fields others few other_few same) in
    let y = ap (λ (n : ℕ). map (cell_at other) (take n b)) k ∙ ap (λ (ps : List Place). key_at other others ps) second
    ∙ key_is other there others other_few in
    is ∙ ap (λ (q : Key). key_cmp (key_kinds fields) q (key_at other fields b)) x
    ∙ ap (λ (q : Key). key_cmp (key_kinds fields) (key_of page here fields) q) y

-- the child page lies on the page
child_length : (page : List ℕ) (origin : ℕ) (fields : Fields) → HaveChild fields
    → local_length page origin fields fields.keys ≡ 4
unfolding local_length is_null
child_length page origin fields have = rw (have.present, have.kind) refl

pub child_fits : (page : List ℕ) (origin : ℕ) (fields : Fields) (p : Place) → HaveChild fields
    → record_end page origin fields ≤ 16384
    → p ≡ place_of page origin fields fields.keys → p.from + 4 ≤ 16384
unfolding record_end place_of
child_fits page origin fields p have ends same =
    let more = local_more page origin fields fields.keys in
    let most = local_rises page origin fields (field_count fields) (fields.keys + 1) (omega (arith, have.inside)) in
    omega (arith, more, most, ends, child_length page origin fields have, ap (λ (q : Place). q.from) same)

-- a place among those that were read
pub place_read : (page : List ℕ) (origin : ℕ) (fields : Fields) (places : List Place) (i : ℕ) (d p : Place)
    → places ≡ places_of page origin fields → i < field_count fields
    → p ≡ get_or places i d → p ≡ place_of page origin fields i
unfolding places_of
place_read page origin fields places i d p same below is =
    is ∙ ap (λ (ps : List Place). get_or ps i d) same ∙ get_or-map-range_with_len (place_of page origin fields) 0
    (field_count fields) i i d below (omega arith)
