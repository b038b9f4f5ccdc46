-- facts on a cursor that goes along the pointers of a level by next fields
use Rattle.std.proofs.Common.{◌≡◌, ◌≢◌, ◌==◌, ◌-◌, Err, ℕ, ◌+◌, ◌<◌, ◌≤◌, List, length, get_or, take, refl, sym, ◌∙◌}
use Rattle.std.proofs.Common.{ap, arith, Bool, true, false, Option, None, Some, inl, inr, length-append}
use Rattle.std.proofs.Common.{slice_get, cond, subst}
use Rattle.std.proofs.lemmas.Bool.{cases_lt}
use Rattle.std.proofs.lemmas.List.{length-map, take_all, get_or-map, get_or_default, get_or_past}
use Rattle.std.proofs.lemmas.Option.{slice_get-get_or, slice_get_past}
use Rattle.std.proofs.lemmas.List.Concat.{get_or-flat_map}
use Rattle.page_source.specs.Pages.{fil_null}
use Rattle.page_source.specs.Checks.{HaltsAt}
use Rattle.page_source.specs.declared.rule.Fault.{Fault}
use Rattle.page_source.specs.declared.checks.Halt.{Halt}
use Rattle.page_source.specs.declared.checks.Halt.TheVariants.{Broken, Source}
use Rattle.fil_frame.specs.Frame.{next_page}
use Rattle.column_values.specs.Types.{Fields}
use Rattle.column_values.specs.Order.{Key}
use Rattle.compact_record.specs.Header.{next_origin}
use Rattle.compact_record.specs.Reading.{key_of}
use Rattle.index_page.specs.Header.{records_of, record_count}
use Rattle.tree_walk.specs.declared.cursor.Cursor.{Cursor}
use Rattle.tree_walk.specs.declared.cursor.Next.{Next}
use Rattle.tree_walk.specs.declared.cursor.Next.TheVariants.{Here, Ahead, End}
use Rattle.tree_walk.specs.Index.{Index, Row, page_in, root_level, index_id, pages_at, places, rows_of, rows_on}
use Rattle.tree_walk.specs.Index.{row_at, no_row, children, child_of, held_child, key_in}
use Rattle.compact_record.specs.Keys.{child_at}
use Rattle.tree_walk.specs.Segments.{segment_at}
use Rattle.tree_walk.specs.Records.{IsRecord, PageFacts, held_key}
use Rattle.tree_walk.specs.Facts.{LevelFacts}
use Rattle.tree_walk.specs.declared.walk.Walk.{Walk}
use Rattle.tree_walk.specs.declared.level.Aim.{Aim}
use Rattle.tree_walk.specs.declared.level.Place.{Place}
use Rattle.tree_walk.specs.declared.place.tally.Tally.{Tally}
use Rattle.space_audit.specs.Marks.{is_set}
use Rattle.tree_walk.specs.Walk.{Stands, StandsAt, Follows, FindsNext, page_after, origin_after, IsAtPlace}
use Rattle.tree_walk.specs.Walk.{PlaceInHand, CheckAtPlace, child_in_hand, page_at_place, GrowsBy, IsTally}
use Rattle.tree_walk.specs.Place.{PlaceAt}
use Rattle.tree_walk.specs.TreeChecks.{before, high_of, PlaceWith}
use Rattle.tree_walk.proofs.Lists.{flat_map-take_more, length-flat_map-take}
use Rattle.tree_walk.proofs.Records.{length-records, more_record, first_record, record_at, next_after}

-- the pointers of one more page
pub rows_more : (index : Index) (pages : List ℕ) (i : ℕ) → i < length pages
    → length (rows_of index (take (i + 1) pages)) ≡ length (rows_of index (take i pages)) + length
    (records_of (page_in index (get_or pages i 0)))
rows_more index pages i h =
    ap length (flat_map-take_more (rows_on index) pages i 0 h)
    ∙ length-append (rows_of index (take i pages)) (rows_on index (get_or pages i 0))
    ∙ ap (λ n. length (rows_of index (take i pages)) + n) (length-map
    (records_of (page_in index (get_or pages i 0))) (λ origin. record
    { page = get_or pages i 0; origin = origin }))

module _ (index : Index) (depth : ℕ) (cursor : Cursor) (page : List ℕ) (j : ℕ) where
  width : (i k : ℕ) → StandsAt index depth cursor page j i k → length (records_of page) ≡ length
      (records_of (page_in index (get_or (pages_at index depth) i 0)))
  width i k s = rw (s.held, s.number) refl

  next_is : (fields : Fields) → LevelFacts index fields depth → (i k : ℕ) → StandsAt index depth cursor page j i k →
      next_page page ≡ get_or (pages_at index depth) (i + 1) fil_null
  next_is fields facts i k s = rw (s.held, s.number) (facts.linked i s.within)

  sound_here : (fields : Fields) → LevelFacts index fields depth → (i k : ℕ) → StandsAt index depth cursor page j i
      k → PageFacts page fields
  sound_here fields facts i k s = rw (s.held, s.number) (facts.sound i 0 s.within)

  -- the record in hand can be read
  pub stands_record : (fields : Fields) → LevelFacts index fields depth → Stands index depth cursor page j →
      IsRecord page fields cursor.origin
  stands_record fields facts (i, (k, s)) =
      let f = sound_here fields facts i k s in
      rw (s.origin) (f.records k 0 s.slot)

  pub here_at : (fields : Fields) → LevelFacts index fields depth → (i k : ℕ) → StandsAt index depth cursor page j i
      k → (next : ℕ) → next ≡ next_origin page cursor.origin → 125 ≤ next
      → StandsAt index depth (record { number = cursor.number; origin = next; more = cursor.more }) page (j + 1) i
      (k + 1)
  here_at fields facts i k s next e l =
      let f = sound_here fields facts i k s in
      let n = length-records page in
      let h = s.slot in
      let q : next ≡ next_origin page (get_or (records_of page) k 0) = e ∙ ap (next_origin page) s.origin in
      let m = next_after page fields k next f (omega arith) q l in
      record {
        within = s.within;
        number = s.number;
        held = s.held;
        slot = omega arith;
        origin = q ∙ sym (more_record page k m);
        place = let l = s.place in omega arith;
        more = s.more;
      }

  pub follows_here : (fields : Fields) → LevelFacts index fields depth → Stands index depth cursor page j →
      (next : ℕ) → next ≡ next_origin page cursor.origin → 125 ≤ next
      → (ahead : List ℕ) → Follows index depth (Here (record
      { number = cursor.number; origin = next; more = cursor.more })) page ahead j
  follows_here fields facts (i, (k, s)) next e l ahead = (i, (k + 1, here_at fields facts i k s next e l))

  -- the last record of its page
  last_here : (fields : Fields) → LevelFacts index fields depth → (i k : ℕ) → StandsAt index depth cursor page j i k
      → (next : ℕ) → next ≡ next_origin page cursor.origin → next < 125
      → length (records_of page) ≤ k + 1
  last_here fields facts i k s next e l =
      let f = sound_here fields facts i k s in
      let n = length-records page in
      elim (cases_lt (k + 1) (length (records_of page))) [
        | inl h ↦
            let m = more_record page k (omega arith) in
            let r = (record_at page fields (k + 1) f (omega arith)).least in
            let q : next ≡ next_origin page (get_or (records_of page) k 0) = e ∙ ap (next_origin page) s.origin in
            absurd (omega arith)
        | inr h ↦ h
      ]

  pub ahead_at : (fields : Fields) → LevelFacts index fields depth → 0 < root_level index → (i k : ℕ) → StandsAt
      index depth cursor page j i k → (next : ℕ) → next ≡ next_origin page cursor.origin → next < 125
      → (number : ℕ) → number ≡ next_page page → i + 1 < length (pages_at index depth)
      → (ahead : List ℕ) → ahead ≡ page_in index number → (origin : ℕ) → origin ≡ next_origin ahead 99
      → StandsAt index depth (record { number = number; origin = origin; more = cursor.more - 1 }) ahead (j + 1)
      (i + 1) 0
  ahead_at fields facts above i k s next e l number en h ahead r origin eo =
      let last = last_here fields facts i k s next e l in
      let n = en ∙ next_is fields facts i k s in
      let p = rows_more index (pages_at index depth) i s.within in
      let w = width i k s in
      let q = n ∙ get_or_default (pages_at index depth) (i + 1) fil_null 0 h in
      let f : 0 < record_count ahead = rw (r, q) (facts.filled above (i + 1) 0 h) in
      let g = length-records ahead in
      record {
        within = h;
        number = q;
        held = r;
        slot = omega arith;
        origin = eo ∙ sym (first_record ahead f);
        place = let l = s.place in let m = s.slot in omega arith;
        more = let t = s.more in omega arith;
      }

  -- a number that stands in the next field is that of the page ahead
  pub ahead_is : (fields : Fields) → LevelFacts index fields depth → (i k : ℕ) → StandsAt index depth cursor page j
      i k → (number : ℕ) → number ≡ next_page page → number ≢ fil_null → i + 1 < length (pages_at index depth)
  ahead_is fields facts i k s number en ne =
      let n = en ∙ next_is fields facts i k s in
      elim (cases_lt (i + 1) (length (pages_at index depth))) [
        | inl h ↦ h
        | inr h ↦ absurd (ne (n ∙ get_or_past (pages_at index depth) (i + 1) fil_null h))
      ]

  -- where the page ahead is due there are more pages
  pub follows_more : (fields : Fields) → LevelFacts index fields depth → Stands index depth cursor page j →
      (number : ℕ) → number ≡ next_page page → number ≢ fil_null → 0 < cursor.more
  follows_more fields facts (i, (k, s)) number en ne =
      let h = ahead_is fields facts i k s number en ne in
      let t = s.more in
      omega arith

  pub follows_ahead : (fields : Fields) → LevelFacts index fields depth → 0 < root_level index → Stands index depth
      cursor page j → (next : ℕ) → next ≡ next_origin page cursor.origin → next < 125
      → (number : ℕ) → number ≡ next_page page → number ≢ fil_null
      → (ahead : List ℕ) → ahead ≡ page_in index number → (origin : ℕ) → origin ≡ next_origin ahead 99
      → Follows index depth (Ahead (record { number = number; origin = origin; more = cursor.more - 1 })) page ahead j
  follows_ahead fields facts above (i, (k, s)) next e l number en ne ahead r origin eo = (
    i + 1,
    (
      0,
      ahead_at fields facts above i k s next e l number en (ahead_is fields facts i k s number en ne)
          ahead r origin eo,
    ),
  )

  pub follows_end : (fields : Fields) → LevelFacts index fields depth → Stands index depth cursor page j →
      (next : ℕ) → next ≡ next_origin page cursor.origin → next < 125
      → next_page page ≡ fil_null → (ahead : List ℕ) → Follows index depth End page ahead j
  follows_end fields facts (i, (k, s)) next e l en ahead =
      let last = last_here fields facts i k s next e l in
      let n = next_is fields facts i k s in
      let p = rows_more index (pages_at index depth) i s.within in
      let w = width i k s in
      elim (cases_lt (i + 1) (length (pages_at index depth))) [
        | inl h ↦
            let q : get_or (pages_at index depth) (i + 1) fil_null < fil_null = facts.small (i + 1) fil_null h in
            absurd (omega arith)
        | inr h ↦
            let t = ap (λ xs. length (rows_of index xs)) (take_all (i + 1) (pages_at index depth) h) in
            let l = s.place in
            omega arith
      ]

  within_places : (i k : ℕ) → StandsAt index depth cursor page j i k → j < length (places index depth)
  within_places i k s =
      let p = rows_more index (pages_at index depth) i s.within in
      let w = width i k s in
      let l = s.place in
      let m = s.slot in
      let t = length-flat_map-take (rows_on index) (pages_at index depth) (i + 1) in
      omega arith

  read_is : (i k : ℕ) → StandsAt index depth cursor page j i k → row_at (places index depth) j ≡ record
      { page = cursor.number; origin = cursor.origin }
  unfolding row_at
  read_is i k s =
      let w = width i k s in
      let pages = pages_at index depth in
      let m = s.slot in
      let c : k < length (records_of (page_in index (get_or pages i 0))) = omega arith in
      let m : k < length (rows_on index (get_or pages i 0)) = rw length-map c in
      let x = get_or-flat_map (rows_on index) pages i k 0 no_row s.within m in
      let y = get_or-map (λ origin. record { page = get_or pages i 0; origin = origin })
      (records_of (page_in index (get_or pages i 0))) k 0 no_row c in
      rw (s.place, s.origin, s.held, s.number) (x ∙ y)

  pub stands_within : Stands index depth cursor page j → j < length (places index depth)
  stands_within (i, (k, s)) = within_places i k s

  pub stands_read : Stands index depth cursor page j → row_at (places index depth) j ≡ record
      { page = cursor.number; origin = cursor.origin }
  stands_read (i, (k, s)) = read_is i k s

  pub stands_page : Stands index depth cursor page j → page ≡ page_in index cursor.number
  stands_page (i, (k, s)) = s.held

  -- its key and its child
  pub stands_child : Stands index depth cursor page j → child_of index (row_at (places index depth) j) ≡ child_at
      page index.node cursor.origin
  unfolding child_of
  stands_child s = rw (stands_read s, stands_page s) refl

  pub stands_key : Stands index depth cursor page j → key_in index (row_at (places index depth) j) ≡ key_of page
      cursor.origin index.node
  unfolding key_in
  stands_key s = rw (stands_read s, stands_page s) refl

-- the pointer behind the one in hand

row_or : (ps : List Row) (i : ℕ) → i < length ps → slice_get ps i ≡ Some (row_at ps i)
unfolding row_at
row_or ps i h = slice_get-get_or ps i no_row h

child_or : (index : Index) (ps : List Row) (i : ℕ) → i < length ps → get_or (children index ps) i fil_null ≡
    child_of index (row_at ps i)
unfolding row_at
child_or index ps i h = get_or-map (child_of index) ps i no_row fil_null h

high_is : (index : Index) (depth : ℕ) (cursor : Cursor) (page : List ℕ) (j : ℕ) → Stands index depth cursor page
    (j + 1) → held_key page index.node (Some cursor.origin) ≡ high_of index (places index depth) j
high_is index depth cursor page j s =
    rw (
      row_or (places index depth) (j + 1) (stands_within index depth cursor page (j + 1) s),
      stands_key index
          depth cursor page (j + 1) s,
    ) refl

next_is' : (index : Index) (depth : ℕ) (cursor : Cursor) (page : List ℕ) (j : ℕ) → Stands index depth cursor page
    (j + 1) → held_child page index.node (Some cursor.origin) ≡ get_or (children index (places index depth)) (j + 1)
    fil_null
next_is' index depth cursor page j s =
    rw (
      child_or index (places index depth) (j + 1) (stands_within index depth cursor page (j + 1) s),
      stands_child
          index depth cursor page (j + 1) s,
    ) refl

pub follows_key : (index : Index) (depth : ℕ) (next : Next) (page ahead : List ℕ) (j : ℕ) → Follows index depth next
    page ahead j
    → held_key (page_after next page ahead) index.node (origin_after next) ≡ high_of index (places index depth) j
follows_key index depth (Here c) page ahead j f = high_is index depth c page j f
follows_key index depth (Ahead c) page ahead j f = high_is index depth c ahead j f
follows_key index depth End page ahead j f = rw (slice_get_past (places index depth) (j + 1) f) refl

pub follows_child : (index : Index) (depth : ℕ) (next : Next) (page ahead : List ℕ) (j : ℕ) → Follows index depth
    next page ahead j
    → held_child (page_after next page ahead) index.node (origin_after next) ≡ get_or
    (children index (places index depth)) (j + 1) fil_null
follows_child index depth (Here c) page ahead j f = next_is' index depth c page j f
follows_child index depth (Ahead c) page ahead j f = next_is' index depth c ahead j f
follows_child index depth End page ahead j f = sym (get_or_past (children index (places index depth)) (j + 1)
    fil_null (rw length-map f))

low_is : (b : Bool) (page : List ℕ) (fields : Fields) (o : ℕ) (k : Key) → k ≡ key_of page o fields → cond b None
    (Some k) ≡ held_key page fields (cond b None (Some o))
low_is true page fields o k e = refl
low_is false page fields o k e = ap (λ x. Some x) e

-- the same check of the same values
same_place : (index : Index) (verdict : Option Fault) (segment segment' id id' : ℕ) (taken taken' : Bool)
    (holder holder' n n' level : ℕ) (low low' high high' : Option Key) (leftmost : Bool) (prev prev' next next' : ℕ)
    → segment' ≡ segment → id' ≡ id → taken' ≡ taken → holder' ≡ holder → n' ≡ n → low' ≡ low → high' ≡ high → prev'
    ≡ prev → next' ≡ next
    → PlaceAt index segment id taken holder (record {
      page = n;
      level = level;
      low = low;
      high = high;
      root = false;
      leftmost = leftmost;
    }) prev next verdict
    → PlaceAt index segment' id' taken' holder' (record {
      page = n';
      level = level;
      low = low';
      high = high';
      root =
          false;
      leftmost = leftmost;
    }) prev' next' verdict
same_place index verdict segment segment' id id' taken taken' holder holder' n n' level low low' high high' leftmost
    prev prev' next next' a b c d e f g h i x =
    rw (a, b, c, d, e, f, g, h, i) x

-- a check of what is in hand at a place is the check of that place
module _ (index : Index) (level depth : ℕ) (next : Next) (cursor : Cursor) (page ahead : List ℕ) (j : ℕ)
    (marks : List Bool) (segment id previous : ℕ)
    (sg : segment ≡ segment_at index level) (ei : id ≡ index_id index)
    (p : previous ≡ before (children index (places index depth)) j)
    (s : Stands index depth cursor page j) (f : Follows index depth next page ahead j) where
  pub placed : (verdict : Option Fault)
      → PlaceAt index segment id (get_or marks (child_at page index.node cursor.origin) false) cursor.number
      (record {
        page = child_at page index.node cursor.origin;
        level = level;
        low = held_key page index.node (cond (j == 0) None (Some cursor.origin));
        high = held_key (page_after next page ahead) index.node (origin_after next);
        root = false;
        leftmost = j == 0;
      })
      previous (held_child (page_after next page ahead) index.node (origin_after next)) verdict
      → PlaceWith index level (get_or marks (child_of index (row_at (places index depth) j)) false)
      (places index depth) j verdict
  placed verdict x =
      let ch = stands_child index depth cursor page j s in
      same_place index verdict segment _ id _ _ _ cursor.number _ _ _ level _ _ _ _ (j == 0) previous _ _ _
      (sym sg) (sym ei) (ap (λ n. get_or marks n false) ch) (ap (λ (r : Row). r.page)
      (stands_read index depth cursor page j s)) ch
      (low_is (j == 0) page index.node cursor.origin (key_in index (row_at (places index depth) j))
      (stands_key index depth cursor page j s))
      (sym (follows_key index depth next page ahead j f)) (sym p)
      (sym (follows_child index depth next page ahead j f)) x

-- the same by what is in hand
module _ (index : Index) (aim : Aim) (place : Place) (next : Next) (walk : Walk) (page ahead : List ℕ)
    (ep : walk.parent ≡ page) (ea : walk.after ≡ ahead)
    (a : IsAtPlace index aim place page) (f : Follows index aim.depth next page ahead place.j) where
  pub child_is : child_in_hand walk index.node place ≡ page_at_place index aim place
  child_is = rw ep (sym (stands_child index aim.depth place.cursor page place.j a.stands))

  pub placed_in_hand : (marks : List Bool) (verdict : Option Fault) → PlaceInHand index walk aim place next
      (is_set marks (child_in_hand walk index.node place)) verdict
      → CheckAtPlace index aim place (is_set marks (page_at_place index aim place)) verdict
  placed_in_hand marks verdict x =
      placed index aim.level aim.depth next place.cursor page ahead place.j marks aim.segment aim.index_id
      place.previous a.is_aim.segment a.is_aim.id a.previous a.stands f verdict (rw (ep, ea) at x)

  pub halts_in_hand : (marks : List Bool) (halt : Halt) → HaltsAt halt
      (PlaceInHand index walk aim place next (is_set marks (child_in_hand walk index.node place)))
      → HaltsAt halt (CheckAtPlace index aim place (is_set marks (page_at_place index aim place)))
  halts_in_hand marks (Broken fault) x = placed_in_hand marks (Some fault) x
  halts_in_hand marks Source x = tt

  pub grew_in_hand : (old new : List Bool) → GrowsBy old new (child_in_hand walk index.node place) → GrowsBy old new
      (page_at_place index aim place)
  grew_in_hand old new g = subst (GrowsBy old new) child_is g

  pub tally_in_hand : (tally : Tally) → IsTally (page_in index (child_in_hand walk index.node place)) index.leaf tally
      → IsTally (page_in index (page_at_place index aim place)) index.leaf tally
  tally_in_hand tally t = subst (λ n. IsTally (page_in index n) index.leaf tally) child_is t

-- a search that breaks off stops the checks there, and it never breaks off
pub looks_halt : (index : Index) (depth j : ℕ) (page ahead : List ℕ) (halt : Halt) (checks : Option Fault → Type 0)
    → FindsNext index depth j page ahead (Err halt) → HaltsAt halt checks
looks_halt index depth j page ahead (Broken fault) checks x = absurd x
looks_halt index depth j page ahead Source checks x = tt
