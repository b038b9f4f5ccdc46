-- one place of a level, the level's end, and the tree
use Rattle.std.proofs.Common.{◌≡◌, ◌-◌, ℕ, ◌+◌, ◌<◌, ◌≤◌, ◌&&◌, List, [], length, get_or, take, Bool, true, sym, ◌∙◌}
use Rattle.std.proofs.Common.{below_more, add-one, refl, arith, None}
use Rattle.std.proofs.lemmas.List.{length-map, get_or-map}
use Rattle.page_source.specs.Pages.{fil_null}
use Rattle.page_source.specs.Checks.{HaltsAt}
use Rattle.page_source.specs.declared.checks.Halt.{Halt}
use Rattle.compact_record.specs.Header.{next_origin}
use Rattle.index_page.specs.Header.{record_count}
use Rattle.tree_walk.specs.declared.cursor.Cursor.{Cursor}
use Rattle.tree_walk.specs.Index.{Index, Row, page_in, pages_at, places, row_at, children, child_of, no_row}
use Rattle.compact_record.specs.Keys.{child_at}
use Rattle.space_audit.specs.Marks.{is_set, Marked}
use Rattle.space_audit.proofs.Marking.{marked_none}
use Rattle.tree_walk.specs.Records.{IsRecord}
use Rattle.tree_walk.specs.declared.level.Aim.{Aim}
use Rattle.tree_walk.specs.declared.level.Place.{Place}
use Rattle.tree_walk.specs.declared.level.Level.{Level}
use Rattle.tree_walk.specs.declared.place.tally.Tally.{Tally}
use Rattle.tree_walk.specs.Walk.{Stands, IsAtLevel, IsLevel, CheckAtPlace, page_at_place, GrowsBy}
use Rattle.tree_walk.proofs.States.{LevelState}
use Rattle.tree_walk.specs.Walk.{IsTally, IsTallyOf}
use Rattle.tree_walk.proofs.Tallies.{tally_none, tally_more}
use Rattle.tree_walk.specs.TreeChecks.{before, PlaceCheck, LevelCheck}
use Rattle.tree_walk.proofs.Records.{length-records, first_record}
use Rattle.tree_walk.proofs.Levels.{check_at, marks_step, children_more, children_all, pages_at_more}
use Rattle.tree_walk.proofs.Levels.{level_halts}
use Rattle.tree_walk.proofs.Cursors.{stands_within, stands_child, stands_record}

before_is : (index : Index) (ps : List Row) (j : ℕ) → j < length ps → before (children index ps) (j + 1) ≡ child_of
    index (row_at ps j)
unfolding row_at
before_is index ps j h = rw add-one (get_or-map (child_of index) ps j no_row fil_null h)

module _ (index : Index) (aim : Aim) (start marks : List Bool) (place : Place) (page : List ℕ) (tally : Tally)
    (state : LevelState index aim start marks place page tally) where
  within : place.j < length (places index aim.depth)
  within = stands_within index aim.depth place.cursor page place.j state.at.stands

  -- the first fault of the level
  pub level_halts_here : (halt : Halt) → HaltsAt halt (CheckAtPlace index aim place
      (is_set marks (page_at_place index aim place)))
      → HaltsAt halt (LevelCheck index aim.level (is_set start) [] (places index aim.depth))
  level_halts_here halt x = level_halts index aim.level (is_set start) marks (places index aim.depth) place.j halt
      within state.marked state.held x

  module _ (marks' : List Bool) (check : CheckAtPlace index aim place (is_set marks (page_at_place index aim place))
      None) (g : GrowsBy marks marks' (page_at_place index aim place)) where
    marked_more' : Marked (is_set start) marks' (take (place.j + 1) (children index (places index aim.depth)))
    marked_more' = marks_step index (is_set start) marks marks' (places index aim.depth) place.j within g state.marked

    held_more : (k : ℕ) → k < place.j + 1 → PlaceCheck index aim.level (is_set start) [] (places index aim.depth) k None
    held_more = below_more (λ k. PlaceCheck index aim.level (is_set start) [] (places index aim.depth) k None)
        place.j state.held
        (check_at index aim.level (is_set start) marks (places index aim.depth) place.j None state.marked check)

    module _ (one both : Tally)
        (o : aim.level ≡ 0 → IsTally (page_in index (page_at_place index aim place)) index.leaf one)
        (l : both.live ≡ tally.live + one.live) (d : both.deleted ≡ tally.deleted + one.deleted)
        (w : both.whole ≡ (tally.whole && one.whole)) where
      tallied_more : aim.level ≡ 0 → IsTallyOf index (take (place.j + 1) (children index (places index aim.depth))) both
      tallied_more z =
          rw (children_more index (places index aim.depth) place.j within)
          (tally_more index (take place.j (children index (places index aim.depth))) (page_at_place index aim place)
          tally one both (state.tallied z) (o z) l d w)

      pub state_more : (cursor' : Cursor) (page' : List ℕ) (at : ℕ) → Stands index aim.depth cursor' page'
          (place.j + 1) → at ≡ child_at page index.node place.cursor.origin
          → LevelState index aim start marks' (record { cursor = cursor'; previous = at; j = place.j + 1 }) page' both
      state_more cursor' page' at s p = record {
        at = record {
          facts = state.at.facts;
          is_aim = state.at.is_aim;
          stands = s;
          previous = p ∙ sym (before_is index (places index aim.depth) place.j within ∙ stands_child index aim.depth
              place.cursor page place.j state.at.stands);
        };
        marked = marked_more';
        held = held_more;
        tallied = tallied_more;
      }

      module _ (end : length (places index aim.depth) ≤ place.j + 1) where
        pub level_holds : LevelCheck index aim.level (is_set start) [] (places index aim.depth) None
        level_holds k h = held_more k (omega arith)

        pub level_marked : Marked (is_set start) marks' (children index (places index aim.depth))
        level_marked = rw (← children_all index (places index aim.depth) (place.j + 1) end) marked_more'

        pub level_is : (first : ℕ) → first ≡ get_or (pages_at index (aim.depth + 1)) 0 0 → IsLevel index aim
            (record { first = first; pages = place.j + 1; tally = both })
        level_is first e = record {
          first = e;
          pages = let w = within in rw (pages_at_more, length-map) (omega arith);
          tallied = λ z. rw (pages_at_more, ← children_all index (places index aim.depth) (place.j + 1) end)
              (tallied_more z);
        }

-- the first place of a level
module _ (index : Index) (aim : Aim) (upper : Level) (origin : ℕ) (page : List ℕ) (a : IsAtLevel index aim upper)
    (p : page ≡ page_in index upper.first) (o : origin ≡ next_origin page 99) where
  pub stands_first : Stands index aim.depth (record {
    number = upper.first;
    origin = origin;
    more = upper.pages - 1;
  }) page 0
  stands_first =
      let b = a.is_aim.above in
      let f : 0 < record_count page = rw (p, a.leftmost) (a.facts.filled (omega arith) 0 0 a.facts.some) in
      let n = length-records page in (
        0,
        (
          0,
          record {
            within = a.facts.some;
            number = a.leftmost;
            held = p;
            slot = omega arith;
            origin = o ∙ sym (first_record page f);
            place = refl;
            more = let w = a.width in let h = a.facts.some in omega arith;
          },
        ),
      )

  pub first_is_record : IsRecord page index.node origin
  first_is_record = stands_record index aim.depth (record {
    number = upper.first;
    origin = origin;
    more =
        upper.pages - 1;
  }) page 0 index.node a.facts stands_first

  pub state_first : (start : List Bool) → LevelState index aim start start
      (record {
        cursor = record { number = upper.first; origin = origin; more = upper.pages - 1 };
        previous =
            fil_null;
        j = 0;
      }) page (record { live = 0; deleted = 0; whole = true })
  state_first start = record {
    at = record { facts = a.facts; is_aim = a.is_aim; stands = stands_first; previous = refl };
    marked = marked_none start;
    held = λ k h. absurd (omega arith);
    tallied = λ z. tally_none index;
  }

  -- the leftmost page of the depth below
  pub leftmost_is : (n : ℕ) → n ≡ child_at page index.node origin → n ≡ get_or (pages_at index (aim.depth + 1)) 0 0
  unfolding row_at
  leftmost_is n q =
      let s = stands_first in
      let w = stands_within index aim.depth (record {
        number = upper.first;
        origin = origin;
        more = upper.pages - 1;
      }) page 0 s in
      let c = stands_child index aim.depth (record {
        number = upper.first;
        origin = origin;
        more = upper.pages - 1;
      }) page 0 s in
      rw pages_at_more (q ∙ sym c ∙ sym (get_or-map (child_of index) (places index aim.depth) 0 no_row 0 w))
