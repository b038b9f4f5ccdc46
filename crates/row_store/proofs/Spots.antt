-- The fields of a row among its bytes.
use Rattle.std.proofs.Common.{◌≡◌, ◌≢◌, ℕ, zero, suc, ◌+◌, ◌-◌, ◌<◌, ◌≤◌, Bool, true, false, List, [], ◌∷◌, ◌++◌}
use Rattle.std.proofs.Common.{length}
use Rattle.std.proofs.Common.{take, drop, set, get_or, map, slice_range, refl, sym, ap, ◌∙◌, arith, inl, inr}
use Rattle.std.proofs.lemmas.Bool.{cases_eq}
use Rattle.std.proofs.lemmas.List.{length-set, length_push, get_or_append_left, get_or_push, get_or-set_same}
use Rattle.std.proofs.lemmas.List.{get_or-set_other, ext_get_or, take_all, drop_at}
use Rattle.std.proofs.lemmas.List.{get_or_read}
use Rattle.std.proofs.lemmas.List.FromFn.{length-map-range_with_len, get_or-map-range_with_len, map-range_with_len_more}
use Rattle.std.proofs.lemmas.List.FromFn.{fill_by_all}
use Rattle.std.specs.List.{range_with_len}
use Rattle.row_layout.specs.StoredRow.{Stored, stored_at, with_off}
use Rattle.row_layout.proofs.Fitting.{length-with_off}
use Rattle.row_store.specs.declared.marks.FieldSpot.{FieldSpot}
use Rattle.row_store.specs.calls.Stored.{spot_at, spot_start, field_from, field_in, row_of}
use Rattle.row_store.specs.calls.RowFields.{AreFilled}
use Rattle.page_source.proofs.Lists.{slice_range_append}

abbrev pub no_spot : FieldSpot
no_spot = record { null = true; off = false; end = 0 }

abbrev pub no_field : Stored
no_field = record { null = true; off = false; bytes = [] }

slice_behind : (xs ys : List ℕ) (a b : ℕ) → a ≡ length xs → b ≡ length xs + length ys → slice_range (xs ++ ys) a b ≡ ys
slice_behind xs ys a b from until =
    ap (λ n. take (b - n) (drop n (xs ++ ys))) from
    ∙ ap (take (b - length xs)) (drop_at xs ys (length xs) refl)
    ∙ take_all (b - length xs) ys (omega arith)

pub length-row : (spots : List FieldSpot) (bytes : List ℕ) → length (row_of spots bytes) ≡ length spots
unfolding row_of
length-row spots bytes = length-map-range_with_len (field_in spots bytes) 0 (length spots)

pub field_at_spot : (spots : List FieldSpot) (bytes : List ℕ) (i : ℕ) (d : Stored) → i < length spots
    → get_or (row_of spots bytes) i d ≡ field_in spots bytes i
unfolding row_of
field_at_spot spots bytes i d within =
    get_or-map-range_with_len (field_in spots bytes) 0 (length spots) i i d within (omega arith)

pub no_row : row_of [] [] ≡ []
unfolding row_of
no_row = refl

-- what is read of a spot
pub spot_read : (spots : List FieldSpot) (i : ℕ) (spot : FieldSpot) → i < length spots → spot ≡ get_or spots i spot
    → spot ≡ spot_at spots i
spot_read spots i spot within is = get_or_read spots i spot within is no_spot

-- a field of a row that is seen
pub within_spots : (spots : List FieldSpot) (bytes : List ℕ) (row : List Stored) (i : ℕ) → row_of spots bytes ≡ row
    → i < length row → i < length spots
within_spots spots bytes row i is within =
    let size = ap length is in let long = length-row spots bytes in omega arith

pub field_seen : (spots : List FieldSpot) (bytes : List ℕ) (row : List Stored) (i : ℕ) → row_of spots bytes ≡ row
    → i < length row → stored_at row i ≡ field_in spots bytes i
field_seen spots bytes row i is within =
    ap (λ (fields : List Stored). stored_at fields i) (sym is)
    ∙ field_at_spot spots bytes i no_field (within_spots spots bytes row i is within)

pub bytes_seen : (spots given : List FieldSpot) (bytes room : List ℕ) (row : List Stored) (i start end : ℕ)
    → row_of spots bytes ≡ row → i < length row → given ≡ spots → room ≡ bytes → start ≡ spot_start given i
    → end ≡ (spot_at given i).end → take (end - start) (drop start room) ≡ (stored_at row i).bytes
bytes_seen spots given bytes room row i start end is within same filled start_is end_is =
    let from : start ≡ spot_start spots i = start_is ∙ ap (λ (s : List FieldSpot). spot_start s i) same in
    let until : end ≡ (spot_at spots i).end = end_is ∙ ap (λ (s : List FieldSpot). (spot_at s i).end) same in
    ap (λ n. take (n - start) (drop start room)) until
    ∙ ap (λ n. take ((spot_at spots i).end - n) (drop n room)) from
    ∙ ap (λ (b : List ℕ). slice_range b (spot_start spots i) (spot_at spots i).end) filled
    ∙ sym (ap (λ (f : Stored). f.bytes) (field_seen spots bytes row i is within))

-- one field more
module _ (spots : List FieldSpot) (bytes more : List ℕ) (null : Bool) (end : ℕ) (filled : AreFilled spots bytes)
    (end_is : end ≡ length bytes + length more) where
  abbrev spot : FieldSpot
  spot = record { null = null; off = false; end = end }

  abbrev grown : List FieldSpot
  grown = spots ++ spot ∷ []

  spot_before : (i : ℕ) → i < length spots → spot_at grown i ≡ spot_at spots i
  spot_before i below = get_or_append_left spots (spot ∷ []) no_spot i below

  spot_last : (i : ℕ) → length spots ≡ i → spot_at grown i ≡ spot
  spot_last i same = get_or_push spots spot no_spot i same

  start_same : (i : ℕ) → i ≤ length spots → spot_start grown i ≡ spot_start spots i
  start_same zero within = refl
  start_same (suc i) within = ap (λ (s : FieldSpot). s.end) (spot_before i (omega arith))

  start_last : (i : ℕ) → length spots ≡ i → spot_start grown i ≡ length bytes
  start_last i same = start_same i (omega arith) ∙ ap (spot_start spots) (sym same) ∙ filled.full

  field_before : (i : ℕ) → i < length spots
      → field_in grown (bytes ++ more) i ≡ field_in spots bytes i
  field_before i below =
      ap (λ (s : FieldSpot). field_from (bytes ++ more) (spot_start grown i) s) (spot_before i below)
      ∙ ap (λ n. field_from (bytes ++ more) n (spot_at spots i)) (start_same i (omega arith))
      ∙ ap (λ (b : List ℕ). record { null = (spot_at spots i).null; off = (spot_at spots i).off; bytes = b })
      (slice_range_append bytes more (spot_start spots i) (spot_at spots i).end (filled.are.rising i below)
      (filled.are.inside i below))

  field_last : (i : ℕ) → length spots ≡ i
      → field_in grown (bytes ++ more) i ≡ record { null = null; off = false; bytes = more }
  field_last i same =
      ap (λ (s : FieldSpot). field_from (bytes ++ more) (spot_start grown i) s) (spot_last i same)
      ∙ ap (λ n. field_from (bytes ++ more) n spot) (start_last i same)
      ∙ ap (λ (b : List ℕ). record { null = null; off = false; bytes = b })
      (slice_behind bytes more (length bytes) end refl end_is)

  pub row_more : row_of grown (bytes ++ more)
      ≡ row_of spots bytes ++ (record { null = null; off = false; bytes = more }) ∷ []
  unfolding row_of
  row_more =
      let n = length spots in
      let f = field_in grown (bytes ++ more) in
      ap (λ k. map (field_in grown (bytes ++ more)) (range_with_len 0 k)) (length_push spots spot)
      ∙ map-range_with_len_more (field_in grown (bytes ++ more)) 0 n n (omega arith)
      ∙ ap (λ (front : List Stored). front ++ field_in grown (bytes ++ more) n ∷ [])
      (sym (fill_by_all (field_in grown (bytes ++ more)) (map (field_in spots bytes) (range_with_len 0 n)) n no_field
      (length-map-range_with_len (field_in spots bytes) 0 n)
      (λ k below.
      get_or-map-range_with_len (field_in spots bytes) 0 n k k no_field below (omega arith)
      ∙ sym (field_before k below))))
      ∙ ap (λ (s : Stored). map (field_in spots bytes) (range_with_len 0 n) ++ s ∷ []) (field_last n refl)

-- a field goes off the page
off_same : (row : List Stored) (i : ℕ) (d : Stored) → i < length row
    → get_or (with_off i row) i d ≡ record { null = (get_or row i d).null; off = true; bytes = (get_or row i d).bytes }
off_same [] i d within = absurd (omega arith)
off_same (field ∷ row) zero d within = refl
off_same (field ∷ row) (suc i) d within = off_same row i d (omega arith)

off_other : (row : List Stored) (i k : ℕ) (d : Stored) → k ≢ i → get_or (with_off i row) k d ≡ get_or row k d
off_other [] i k d other = refl
off_other (field ∷ row) zero zero d other = absurd (other refl)
off_other (field ∷ row) zero (suc k) d other = refl
off_other (field ∷ row) (suc i) zero d other = refl
off_other (field ∷ row) (suc i) (suc k) d other = off_other row i k d (λ same. other (ap suc same))

module _ (spots : List FieldSpot) (bytes : List ℕ) (i : ℕ) (here : FieldSpot) (filled : AreFilled spots bytes)
    (within : i < length spots) (is : here ≡ spot_at spots i) where
  abbrev gone : FieldSpot
  gone = record { null = here.null; off = true; end = here.end }

  abbrev sent : List FieldSpot
  sent = set spots i gone

  sent_size : length sent ≡ length spots
  sent_size = length-set spots i gone

  end_sent : (k : ℕ) → (spot_at sent k).end ≡ (spot_at spots k).end
  end_sent k = elim (cases_eq k i) [
    | inl same ↦
        ap (λ n. (spot_at sent n).end) same
        ∙ ap (λ (s : FieldSpot). s.end) (get_or-set_same spots i gone no_spot within)
        ∙ ap (λ (s : FieldSpot). s.end) is ∙ ap (λ n. (spot_at spots n).end) (sym same)
    | inr other ↦ ap (λ (s : FieldSpot). s.end) (get_or-set_other spots i k gone no_spot other)
  ]

  start_sent : (k : ℕ) → spot_start sent k ≡ spot_start spots k
  start_sent zero = refl
  start_sent (suc k) = end_sent k

  field_sent : (k : ℕ) → k < length spots
      → field_in sent bytes k ≡ get_or (with_off i (row_of spots bytes)) k no_field
  field_sent k below = elim (cases_eq k i) [
    | inl same ↦
        let row = row_of spots bytes in
        let size = length-row spots bytes in
        let old : get_or row i no_field ≡ field_in spots bytes i = field_at_spot spots bytes i no_field within in
        let spot : spot_at sent k ≡ gone =
        ap (spot_at sent) same ∙ get_or-set_same spots i gone no_spot within in
        ap (λ (s : FieldSpot). field_from bytes (spot_start sent k) s) spot
        ∙ ap (λ n. field_from bytes n gone) (start_sent k ∙ ap (spot_start spots) same)
        ∙ ap (λ (s : FieldSpot). record {
          null = s.null;
          off = true;
          bytes = slice_range bytes (spot_start spots i) s.end;
        }) is
        ∙ ap (λ (f : Stored). record { null = f.null; off = true; bytes = f.bytes }) (sym old)
        ∙ sym (ap (λ n. get_or (with_off i row) n no_field) same ∙ off_same row i no_field (omega arith))
    | inr other ↦
        let row = row_of spots bytes in
        ap (λ (s : FieldSpot). field_from bytes (spot_start sent k) s) (get_or-set_other spots i k gone no_spot other)
        ∙ ap (λ n. field_from bytes n (spot_at spots k)) (start_sent k)
        ∙ sym (field_at_spot spots bytes k no_field below) ∙ sym (off_other row i k no_field other)
  ]

  pub row_sent : row_of sent bytes ≡ with_off i (row_of spots bytes)
  row_sent =
      let row = row_of spots bytes in
      let size = sent_size in
      let long = length-row sent bytes in
      let short = length-row spots bytes in
      let off = length-with_off i (row_of spots bytes) in
      ext_get_or no_field (row_of sent bytes) (with_off i (row_of spots bytes)) (omega arith)
      (λ k below. field_at_spot sent bytes k no_field (omega arith) ∙ field_sent k (omega arith))
