-- A page that is filled: what one more record changes.
use Rattle.std.proofs.Common.{◌≡◌, ℕ, zero, suc, ◌+◌, ◌-◌, ◌*◌, ◌<◌, ◌≤◌, Bool, true, false, if◌then◌else◌, lit<}
use Rattle.std.proofs.Common.{List, [], ◌∷◌, ◌++◌, length, take, drop, map, set, append-nil, append_assoc}
use Rattle.std.proofs.Common.{slice_index, slice_range, refl, sym, ap, ◌∙◌, subst, arith, inl, inr, lit≤, length-set}
use Rattle.std.proofs.lemmas.Bool.{cases_eq}
use Rattle.std.proofs.lemmas.List.{same_lists, length-map, get_or-map, get_or-take, length-take-le, take_more_set}
use Rattle.std.proofs.lemmas.List.{map_push, take_all, take_more, append_cancel_right}
use Rattle.std.proofs.lemmas.List.Concat.{flat_map-append}
use Rattle.std.proofs.lemmas.List.Folds.{drop_split}
use Rattle.std.proofs.lemmas.List.{take-append-le, take_at, get_or-set_same, get_or-set_other, get_or_default}
use Rattle.std.proofs.lemmas.List.Edits.{get_or-between, length-between}
use Rattle.std.proofs.lemmas.List.Sums.{sum_by_push}
use Rattle.page_source.specs.Pages.{with_bytes}
use Rattle.page_source.proofs.Written.{length-with_bytes, get_or-with_bytes_before, get_or-with_bytes_at}
use Rattle.column_values.specs.Types.{Fields}
use Rattle.compact_record.specs.declared.parts.Part.{Part}
use Rattle.compact_record.specs.Writing.{record_bytes, origin_in, size_of_record, bytes_below}
use Rattle.compact_record.proofs.Placed.{length-record_bytes, record_header, size_is, origin_is}
use Rattle.page_packer.specs.declared.packer.Spot.{Spot}
use Rattle.page_packer.specs.Packing.{pushed_record, with_record, status_on}
use Rattle.page_packer.specs.Packing.{Pushed, Packing, AreWhole, slots_for, total_size, fits_more, pushed_at, start_of}
use Rattle.page_packer.specs.Filling.{pushed_from, pushed_in, unlinked_bytes, spot_at, IsSpot, IsFilled, HasSpot}
use Rattle.page_packer.proofs.Sizes.{start_is, start_none, start_more, start_all, none_pushed, origin_in_page}
use Rattle.page_packer.proofs.Sizes.{slots_least, fits_of}

-- the bytes before a write stay
slice_before : (page : List ℕ) (at : ℕ) (bytes : List ℕ) (s e : ℕ) → e ≤ at → at + length bytes ≤ length page
    → slice_range (with_bytes page at bytes) s e ≡ slice_range page s e
slice_before page at bytes s e before inside =
    let now : List ℕ = with_bytes page at bytes in
    let long : length now ≡ length page = length-with_bytes page at bytes inside in
    let a : length (slice_range now s e) ≡ e - s = length-between now s e (omega arith) in
    let b : length (slice_range page s e) ≡ e - s = length-between page s e (omega arith) in
    same_lists (slice_range now s e) (slice_range page s e) (a ∙ sym b)
    (λ k d below.
    get_or-between now s e k d (omega (arith, a)) ∙ get_or_default now (s + k) d 0 (omega (arith, a))
    ∙ get_or-with_bytes_before page at bytes (s + k) 0 (omega arith) (omega (arith, a))
    ∙ get_or_default page (s + k) 0 d (omega (arith, a)) ∙ sym (get_or-between page s e k d (omega (arith, a))))

-- the bytes that were written
slice_written : (page : List ℕ) (at : ℕ) (bytes : List ℕ) → at + length bytes ≤ length page
    → slice_range (with_bytes page at bytes) at (at + length bytes) ≡ bytes
slice_written page at bytes inside =
    let now : List ℕ = with_bytes page at bytes in
    let e : ℕ = at + length bytes in
    let long : length now ≡ length page = length-with_bytes page at bytes inside in
    let size : length (slice_range now at e) ≡ length bytes = omega (arith, length-between now at e (omega arith)) in
    same_lists (slice_range now at e) bytes size
    (λ k d below.
    get_or-between now at e k d (omega (arith, size)) ∙ get_or_default now (at + k) d 0 (omega (arith, size))
    ∙ get_or-with_bytes_at page at bytes k 0 (omega arith) (omega (arith, size))
    ∙ get_or_default bytes k 0 d (omega (arith, size)))

abbrev no_spot : Spot
no_spot = record { start = 0; origin = 0; end = 0 }

-- the records before a write stay
pushed_same : (page : List ℕ) (at : ℕ) (bytes : List ℕ) (spots : List Spot)
    → ((k : ℕ) → k < length spots → (spot_at spots k).end ≤ at) → at + length bytes ≤ length page
    → pushed_in (with_bytes page at bytes) spots ≡ pushed_in page spots
unfolding pushed_in
pushed_same page at bytes spots before inside =
    let now : List ℕ = with_bytes page at bytes in
    let size = length-map spots (pushed_from now) in
    same_lists (map (pushed_from now) spots) (map (pushed_from page) spots)
    (size ∙ sym (length-map spots (pushed_from page)))
    (λ k d below.
    let in' : k < length spots = omega (arith, size) in
    let spot : Spot = spot_at spots k in
    let same : slice_range now spot.start spot.end ≡ slice_range page spot.start spot.end =
    slice_before page at bytes spot.start spot.end (before k in') inside in
    get_or-map (pushed_from now) spots k no_spot d in'
    ∙ ap (λ (bs : List ℕ). record { bytes = bs; origin = spot.origin - spot.start }) same
    ∙ sym (get_or-map (pushed_from page) spots k no_spot d in'))

-- how many there are, and the k-th of them
pub pushed_count : (page : List ℕ) (spots : List Spot) (count : ℕ) → count ≤ length spots
    → length (pushed_in page (take count spots)) ≡ count
unfolding pushed_in
pushed_count page spots count most =
    length-map (take count spots) (pushed_from page) ∙ length-take-le count spots most

pub pushed_is : (page : List ℕ) (spots : List Spot) (count k : ℕ) → count ≤ length spots → k < count
    → pushed_at (pushed_in page (take count spots)) k ≡ pushed_from page (spot_at spots k)
unfolding pushed_in
pushed_is page spots count k most below =
    let size : length (take count spots) ≡ count = length-take-le count spots most in
    get_or-map (pushed_from page) (take count spots) k no_spot none_pushed (omega (arith, size))
    ∙ ap (pushed_from page) (get_or-take count spots k no_spot below)

-- nothing pushed
pub filled_none : (page : List ℕ) (spots : List Spot) → length spots ≡ 4096 → IsFilled page spots 0 120
unfolding pushed_in
filled_none page spots room =
    record {
      room = room;
      few = lit≤ tt;
      top_is = refl;
      fits = lit≤ tt;
      each = λ k below. absurd (omega arith);
      starts = λ k below. absurd (omega arith);
    }

pub none_in : (page : List ℕ) (spots : List Spot) → pushed_in page (take 0 spots) ≡ []
unfolding pushed_in
none_in page spots = refl

-- one more record
abbrev pub spot_of : ℕ → ℕ → List ℕ → Spot
spot_of top origin bytes = record { start = top; origin = top + origin; end = top + length bytes }

pub pushed_more : (page : List ℕ) (spots : List Spot) (count top origin : ℕ) (bytes : List ℕ)
    → IsFilled page spots count top → count < length spots → top + length bytes ≤ length page
    → pushed_in (with_bytes page top bytes) (take (count + 1) (set spots count (spot_of top origin bytes)))
    ≡ pushed_in page (take count spots) ++ record { bytes = bytes; origin = origin } ∷ []
unfolding pushed_in
pushed_more page spots count top origin bytes filled below inside =
    let now : List ℕ = with_bytes page top bytes in
    let spot : Spot = spot_of top origin bytes in
    let size : length (take count spots) ≡ count = length-take-le count spots (omega arith) in
    let before : (k : ℕ) → k < length (take count spots) → (spot_at (take count spots) k).end ≤ top =
    λ k in'.
    let low : k < count = omega (arith, size) in
    let same : spot_at (take count spots) k ≡ spot_at spots k = get_or-take count spots k no_spot low in
    subst (λ (s : Spot). s.end ≤ top) (sym same) (filled.each k low).most in
    let e : top + origin - top ≡ origin = omega arith in
    let here : pushed_from now spot ≡ record { bytes = bytes; origin = origin } =
    ap (λ (bs : List ℕ). record { bytes = bs; origin = top + origin - top }) (slice_written page top bytes inside)
    ∙ ap (λ (o : ℕ). record { bytes = bytes; origin = o }) e in
    ap (λ (ss : List Spot). map (pushed_from now) ss) (take_more_set spots count spot below)
    ∙ map_push (pushed_from now) (take count spots) spot
    ∙ ap (λ (rs : List Pushed). rs ++ pushed_from now spot ∷ [])
    (pushed_same page top bytes (take count spots) before inside)
    ∙ ap (λ (r : Pushed). map (pushed_from page) (take count spots) ++ r ∷ []) here

-- the starts of the records before stay
start_same : (records : List Pushed) (r : Pushed) (k : ℕ) → k ≤ length records
    → start_of (records ++ r ∷ []) k ≡ start_of records k
start_same records r k most =
    start_is (records ++ r ∷ []) k
    ∙ ap (λ (rs : List Pushed). 120 + total_size rs) (take-append-le k records (r ∷ []) most) ∙ sym (start_is records k)

start_last : (records : List Pushed) (r : Pushed) (k : ℕ) → length records ≡ k
    → start_of (records ++ r ∷ []) k ≡ 120 + total_size records
start_last records r k size =
    start_is (records ++ r ∷ []) k ∙ ap (λ (rs : List Pushed). 120 + total_size rs) (take_at records (r ∷ []) k size)

spot_stays : (page : List ℕ) (top : ℕ) (bytes : List ℕ) (spot : Spot) → top + length bytes ≤ length page
    → IsSpot page top spot → IsSpot (with_bytes page top bytes) (top + length bytes) spot
spot_stays page top bytes spot inside is =
    let header = is.header in
    let within = is.inside in
    let most = is.most in
    let same : slice_index (with_bytes page top bytes) (spot.origin - 5) ≡ slice_index page (spot.origin - 5) =
    get_or-with_bytes_before page top bytes (spot.origin - 5) 0 (omega arith) (omega arith) in
    record {
      least = is.least;
      header = header;
      inside = within;
      most = omega arith;
      info = rw same is.info;
    }

pub filled_more : (page : List ℕ) (spots : List Spot) (count top origin : ℕ) (bytes : List ℕ)
    → IsFilled page spots count top → length page ≡ 16384 → 5 ≤ origin → origin ≤ length bytes
    → slice_index bytes (origin - 5) ≤ 16 → top + length bytes + 2 * slots_for (count + 1) ≤ 16376
    → IsFilled (with_bytes page top bytes) (set spots count (spot_of top origin bytes)) (count + 1) (top + length bytes)
filled_more page spots count top origin bytes filled long least most info fits =
    let now : List ℕ = with_bytes page top bytes in
    let spot : Spot = spot_of top origin bytes in
    let spots' : List Spot = set spots count spot in
    let records : List Pushed = pushed_in page (take count spots) in
    let r : Pushed = record { bytes = bytes; origin = origin } in
    let few = filled.few in
    let room = filled.room in
    let top_is = filled.top_is in
    let below : count < length spots = omega arith in
    let inside : top + length bytes ≤ length page = omega arith in
    let size : length records ≡ count = pushed_count page spots count (omega arith) in
    let more : pushed_in now (take (count + 1) spots') ≡ records ++ r ∷ [] =
    pushed_more page spots count top origin bytes filled below inside in
    let total : total_size (pushed_in now (take (count + 1) spots')) ≡ total_size records + length bytes =
    ap (λ (rs : List Pushed). total_size rs) more ∙ sum_by_push (λ (p : Pushed). length p.bytes) records r in
    let place : top + (origin - 5) ≡ top + origin - 5 = omega arith in
    let here : IsSpot now (top + length bytes) spot = record {
      least = omega arith;
      header = omega arith;
      inside = omega arith;
      most = omega arith;
      info = subst (λ (n : ℕ). slice_index now n ≤ 16) place
          (rw (get_or-with_bytes_at page top bytes (origin - 5) 0 (omega arith) (omega arith)) info);
    } in
    record {
      room = length-set spots count spot ∙ room;
      few = omega arith;
      top_is = omega (arith, total);
      fits = fits;
      each = λ k in'.
          elim (cases_eq k count) [
            | inl e ↦
                let same : spot_at spots' k ≡ spot =
                ap (λ (n : ℕ). spot_at spots' n) e ∙ get_or-set_same spots count spot no_spot below in
                subst (λ (s : Spot). IsSpot now (top + length bytes) s) (sym same) here
            | inr other ↦
                let same : spot_at spots' k ≡ spot_at spots k = get_or-set_other spots count k spot no_spot other in
                subst (λ (s : Spot). IsSpot now (top + length bytes) s) (sym same)
                (spot_stays page top bytes (spot_at spots k) inside (filled.each k (omega (arith, other))))
          ];
      starts = λ k in'.
          subst (λ (rs : List Pushed). (spot_at spots' k).start ≡ start_of rs k) (sym more)
          (elim (cases_eq k count) [
            | inl e ↦
                let same : spot_at spots' k ≡ spot =
                ap (λ (n : ℕ). spot_at spots' n) e ∙ get_or-set_same spots count spot no_spot below in
                ap (λ (s : Spot). s.start) same ∙ top_is ∙ sym (start_last records r k (size ∙ sym e))
            | inr other ↦
                let same : spot_at spots' k ≡ spot_at spots k = get_or-set_other spots count k spot no_spot other in
                let low : k < count = omega (arith, other) in
                ap (λ (s : Spot). s.start) same ∙ filled.starts k low
                ∙ sym (start_same records r k (omega (arith, size)))
          ]);
    }

-- what is known of record k of a page that is filled
pub has_spot : (page : List ℕ) (spots : List Spot) (count top k : ℕ) → length page ≡ 16384
    → IsFilled page spots count top → k < count → HasSpot (pushed_in page (take count spots)) k (spot_at spots k)
has_spot page spots count top k long filled below =
    let few = filled.few in
    let room = filled.room in
    let fits = filled.fits in
    let most : count ≤ length spots = omega arith in
    let records : List Pushed = pushed_in page (take count spots) in
    let spot : Spot = spot_at spots k in
    let is = filled.each k below in
    let least = is.least in
    let header = is.header in
    let inside = is.inside in
    let end = is.most in
    let info = is.info in
    let here : pushed_at records k ≡ pushed_from page spot = pushed_is page spots count k most below in
    let bytes : (pushed_at records k).bytes ≡ slice_range page spot.start spot.end =
    ap (λ (r : Pushed). r.bytes) here in
    let origin : (pushed_at records k).origin ≡ spot.origin - spot.start = ap (λ (r : Pushed). r.origin) here in
    let size : length (pushed_at records k).bytes ≡ spot.end - spot.start =
    ap (λ (xs : List ℕ). length xs) bytes ∙ length-between page spot.start spot.end (omega arith) in
    let start : spot.start ≡ start_of records k = filled.starts k below in
    let count_is : length records ≡ count = pushed_count page spots count most in
    let place : spot.start + (spot.origin - spot.start - 5) ≡ spot.origin - 5 = omega arith in
    let byte : slice_index (pushed_at records k).bytes ((pushed_at records k).origin - 5)
    ≡ slice_index page (spot.origin - 5) =
    ap (λ (n : ℕ). slice_index (pushed_at records k).bytes (n - 5)) origin
    ∙ ap (λ (xs : List ℕ). slice_index xs (spot.origin - spot.start - 5)) bytes
    ∙ get_or-between page spot.start spot.end (spot.origin - spot.start - 5) 0 (omega arith)
    ∙ ap (λ (n : ℕ). slice_index page n) place in
    record {
      start_is = start;
      origin_is = sym (origin_in_page records k (omega arith) ∙ omega (arith, start, origin));
      end_is = omega (arith, start, size);
      whole = record { least = omega arith; most = omega arith };
      first = least;
      header = header;
      inside = inside;
      last = omega arith;
      info_is = rw byte info;
    }

pub whole_filled : (page : List ℕ) (spots : List Spot) (count top : ℕ) → length page ≡ 16384
    → IsFilled page spots count top → AreWhole (pushed_in page (take count spots))
whole_filled page spots count top long filled =
    let few = filled.few in
    let room = filled.room in
    let fits = filled.fits in
    let size : length (pushed_in page (take count spots)) ≡ count = pushed_count page spots count (omega arith) in
    record { each = λ k below. (has_spot page spots count top k long filled (omega (arith, size))).whole }

-- the bytes of one more record
pub unlinked_more : (records : List Pushed) (k : ℕ) → k < length records
    → unlinked_bytes (take (k + 1) records) ≡ unlinked_bytes (take k records) ++ (pushed_at records k).bytes
unlinked_more records k below =
    let r : Pushed = pushed_at records k in
    ap (λ (rs : List Pushed). unlinked_bytes rs) (take_more records k none_pushed below)
    ∙ flat_map-append (λ (p : Pushed). p.bytes) (take k records) (r ∷ [])
    ∙ ap (λ (xs : List ℕ). unlinked_bytes (take k records) ++ xs) (append-nil r.bytes)

-- the bytes from the start of the heap on are those of the first k records, and what stands behind them
heap_pieces : (page : List ℕ) (spots : List Spot) (count top : ℕ) → length page ≡ 16384
    → IsFilled page spots count top → (k : ℕ) → k ≤ count
    → drop 120 page
    ≡ unlinked_bytes (take k (pushed_in page (take count spots)))
    ++ drop (start_of (pushed_in page (take count spots)) k) page
heap_pieces page spots count top long filled zero most =
    ap (λ (n : ℕ). drop n page) (sym (start_none (pushed_in page (take count spots))))
heap_pieces page spots count top long filled (suc k) most =
    let few = filled.few in
    let room = filled.room in
    let fits = filled.fits in
    let records : List Pushed = pushed_in page (take count spots) in
    let r : Pushed = pushed_at records k in
    let start : ℕ = start_of records k in
    let end : ℕ = start_of records (k + 1) in
    let size : length records ≡ count = pushed_count page spots count (omega arith) in
    let has = has_spot page spots count top k long filled (omega arith) in
    let more : end ≡ start + length r.bytes = start_more records k (omega (arith, size)) in
    let bytes : slice_range page start end ≡ r.bytes =
    ap (λ (n : ℕ). slice_range page n end) (sym has.start_is)
    ∙ ap (λ (n : ℕ). slice_range page (spot_at spots k).start n) (more ∙ sym has.end_is)
    ∙ sym (ap (λ (p : Pushed). p.bytes) (pushed_is page spots count k (omega arith) (omega arith))) in
    let cut : drop start page ≡ r.bytes ++ drop end page =
    drop_split page start end (omega (arith, more)) ∙ ap (λ (xs : List ℕ). xs ++ drop end page) bytes in
    let front : unlinked_bytes (take (k + 1) records) ≡ unlinked_bytes (take k records) ++ r.bytes =
    unlinked_more records k (omega (arith, size)) in
    let step : drop 120 page ≡ unlinked_bytes (take (k + 1) records) ++ drop end page =
    heap_pieces page spots count top long filled k (omega arith)
    ∙ ap (λ (xs : List ℕ). unlinked_bytes (take k records) ++ xs) cut
    ∙ sym (append_assoc (unlinked_bytes (take k records)) r.bytes (drop end page))
    ∙ ap (λ (xs : List ℕ). xs ++ drop end page) (sym front) in
    let next : k + 1 ≡ suc k = omega arith in
    subst (λ (n : ℕ). drop 120 page ≡ unlinked_bytes (take n records) ++ drop (start_of records n) page) next step

-- so the heap has the bytes of all records
pub heap_is : (page : List ℕ) (spots : List Spot) (count top : ℕ) → length page ≡ 16384
    → IsFilled page spots count top
    → slice_range page 120 top ≡ unlinked_bytes (pushed_in page (take count spots))
heap_is page spots count top long filled =
    let few = filled.few in
    let room = filled.room in
    let fits = filled.fits in
    let records : List Pushed = pushed_in page (take count spots) in
    let size : length records ≡ count = pushed_count page spots count (omega arith) in
    let all : take count records ≡ records = take_all count records (omega (arith, size)) in
    let end : start_of records count ≡ top =
    ap (λ (n : ℕ). start_of records n) (sym size) ∙ start_all records ∙ sym filled.top_is in
    append_cancel_right (slice_range page 120 top) (unlinked_bytes records) (drop top page)
    (sym (drop_split page 120 top (omega arith)) ∙ heap_pieces page spots count top long filled count (omega arith)
    ∙ ap (λ (rs : List Pushed). unlinked_bytes rs ++ drop (start_of records count) page) all
    ∙ ap (λ (n : ℕ). unlinked_bytes records ++ drop n page) end)

mark_low : (minimum : Bool) → (if minimum then 16 else 0) ≤ 16
mark_low true = lit≤ tt
mark_low false = lit≤ tt

-- a record of parts that is pushed
info_low : (fields : Fields) (parts : List Part) (heap kind : ℕ) (minimum : Bool)
    → slice_index (record_bytes fields parts heap kind minimum) (origin_in fields parts - 5) ≤ 16
info_low fields parts heap kind minimum =
    let b : ℕ = length (bytes_below fields parts) in
    let place : origin_in fields parts - 5 ≡ b + 0 = omega (arith, origin_is fields parts) in
    rw (place, record_header fields parts heap kind minimum 0 (lit< tt)) (mark_low minimum)

-- one more record that fits ends before the directory
pub room_more : (packing : Packing) (page : List ℕ) (spots : List Spot) (count top size : ℕ)
    → IsFilled page spots count top → packing.records ≡ pushed_in page (take count spots)
    → fits_more packing size ≡ true → top + size + 2 * slots_for (count + 1) ≤ 16376
room_more packing page spots count top size filled same more =
    let few = filled.few in
    let room = filled.room in
    let fits = filled.fits in
    let top_is = filled.top_is in
    let counted : length packing.records ≡ count =
    ap (λ (rs : List Pushed). length rs) same ∙ pushed_count page spots count (omega arith) in
    let sum = fits_of (length packing.records + 1) (total_size packing.records + size) more in
    let slots : slots_for (length packing.records + 1) ≡ slots_for (count + 1) =
    ap (λ (n : ℕ). slots_for (n + 1)) counted in
    omega (arith, sum, slots, ap (λ (rs : List Pushed). total_size rs) same)

pub push_filled : (page now : List ℕ) (spots : List Spot) (count top : ℕ) (fields : Fields) (parts : List Part)
    (heap kind : ℕ) (minimum : Bool) (origin end : ℕ)
    → IsFilled page spots count top → length page ≡ 16384
    → now ≡ with_bytes page top (record_bytes fields parts heap kind minimum)
    → origin ≡ top + origin_in fields parts → end ≡ top + size_of_record fields parts
    → end + 2 * slots_for (count + 1) ≤ 16376
    → IsFilled now (set spots count (record { start = top; origin = origin; end = end })) (count + 1) end
push_filled page now spots count top fields parts heap kind minimum origin end filled long is place ends fits =
    let bytes : List ℕ = record_bytes fields parts heap kind minimum in
    let size = length-record_bytes fields parts heap kind minimum in
    let all : end ≡ top + length bytes = omega (arith, ends, size) in
    let sizes = size_is fields parts in
    let offset = origin_is fields parts in
    let fits' : top + length bytes + 2 * slots_for (count + 1) ≤ 16376 = rw all at fits in
    rw (is, place, all) (filled_more page spots count top (origin_in fields parts) bytes filled long (omega arith)
    (omega (arith, size, sizes, offset)) (info_low fields parts heap kind minimum) fits')

pub push_records : (page now : List ℕ) (spots : List Spot) (count top : ℕ) (fields : Fields) (parts : List Part)
    (heap kind : ℕ) (minimum : Bool) (origin end : ℕ)
    → IsFilled page spots count top → length page ≡ 16384
    → now ≡ with_bytes page top (record_bytes fields parts heap kind minimum)
    → origin ≡ top + origin_in fields parts → end ≡ top + size_of_record fields parts
    → end + 2 * slots_for (count + 1) ≤ 16376
    → pushed_in now (take (count + 1) (set spots count (record { start = top; origin = origin; end = end })))
    ≡ pushed_in page (take count spots)
    ++ record { bytes = record_bytes fields parts heap kind minimum; origin = origin_in fields parts } ∷ []
push_records page now spots count top fields parts heap kind minimum origin end filled long is place ends fits =
    let bytes : List ℕ = record_bytes fields parts heap kind minimum in
    let size = length-record_bytes fields parts heap kind minimum in
    let all : end ≡ top + length bytes = omega (arith, ends, size) in
    let few = filled.few in
    let room = filled.room in
    let least = slots_least (count + 1) in
    rw (is, place, all) (pushed_more page spots count top (origin_in fields parts) bytes filled (omega arith)
    (omega (arith, all)))

pub with_record_is : (level count : ℕ) (records : List Pushed) (fields : Fields) (parts : List Part) (minimum : Bool)
    → length records ≡ count
    → with_record (record { level = level; records = records }) fields parts minimum
    ≡ record {
      level = level;
      records = records
          ++ record {
            bytes = record_bytes fields parts (2 + count) (status_on level) minimum;
            origin = origin_in fields parts;
          } ∷ [];
    }
unfolding with_record pushed_record
with_record_is level count records fields parts minimum size =
    ap (λ (n : ℕ). record {
      level = level;
      records = records
          ++ record {
            bytes = record_bytes fields parts (2 + n) (status_on level) minimum;
            origin = origin_in fields parts;
          } ∷ [];
    }) size
