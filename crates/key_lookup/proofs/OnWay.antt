-- Along the way, page by page.
use Rattle.std.proofs.Common.{◌≡◌, ℕ, ◌+◌, ◌==◌, ◌<◌, ◌≤◌, Bool, if◌then◌else◌, List, None, inl, inr}
use Rattle.std.proofs.Common.{refl, sym, ap, ◌∙◌, subst, arith}
use Rattle.std.proofs.lemmas.Bool.{cases_lt, ne_eqb, true≢false}
use Rattle.page_source.specs.Verdict.{AllBelow}
use Rattle.column_values.specs.Types.{Fields}
use Rattle.column_values.specs.Order.{Key}
use Rattle.index_page.specs.Header.{record_count}
use Rattle.index_page.specs.PageChecks.{PageChecks}
use Rattle.tree_walk.specs.declared.walk.Walk.{Walk}
use Rattle.tree_walk.specs.Index.{Index, page_in, root_level}
use Rattle.tree_walk.specs.Records.{PageFacts}
use Rattle.tree_walk.proofs.Records.{page_facts, length-records}
use Rattle.key_lookup.specs.declared.way.Due.{Due}
use Rattle.key_lookup.specs.Path.{way, leaf_for}
use Rattle.key_lookup.specs.GetFirst.{WayChecks, AllWayChecks}
use Rattle.key_lookup.specs.Way.{IsDue, IsHeldNode, IsOnWay}
use Rattle.key_lookup.proofs.WaySteps.{page_is}
use Rattle.table_check.proofs.RecordSteps.{below_more}

-- a page above the leaves whose checks hold has a record
some_above : (page : List ℕ) (fields : Fields) (level : ℕ) (root leftmost : Bool) → 0 < level
    → PageChecks page fields (level == 0) root leftmost None → 0 < record_count page
unfolding PageChecks
some_above page fields level root leftmost h c =
    let n = length-records page in
    elim (cases_lt 0 (record_count page)) [
      | inl l ↦ l
      | inr l ↦
          let e = (c.1.1.1.1.1.1.1.1.1.0 (omega arith)).0 in
          absurd (true≢false (sym e ∙ ne_eqb level 0 (λ q. omega arith)))
    ]

module _ (walk : Walk) (leaf node : Fields) (due : Due) (held : IsHeldNode walk leaf node due) where
  pub level_most : due.stand.level ≤ 50
  level_most = held.checked.0.1

  facts : PageFacts walk.child (if due.stand.level == 0 then leaf else node)
  facts = page_facts walk.child (if due.stand.level == 0 then leaf else node) (due.stand.level == 0) due.stand.root
      due.stand.leftmost held.checked.1.0

  pub facts_above : 0 < due.stand.level → PageFacts walk.child node
  facts_above some =
      let e : (if due.stand.level == 0 then leaf else node) ≡ node =
      rw (ne_eqb due.stand.level 0 (λ q. omega arith)) refl
      in
      subst (PageFacts walk.child) e facts

  pub facts_leaf : due.stand.level ≡ 0 → PageFacts walk.child leaf
  facts_leaf none =
      let e : (if due.stand.level == 0 then leaf else node) ≡ leaf = rw none refl in
      subst (PageFacts walk.child) e facts

  pub some_pointer : 0 < due.stand.level → 0 < record_count walk.child
  some_pointer some =
      some_above walk.child (if due.stand.level == 0 then leaf else node) due.stand.level due.stand.root
      due.stand.leftmost some held.checked.1.0

module _ (index : Index) (key : Key) where
  -- the root
  pub on_root : (walk : Walk) (due : Due) → IsDue index key 0 walk due → walk.child ≡ page_in index due.stand.page
      → WayChecks index key 0 None → IsOnWay index key walk due
  on_root walk due is page holds = record {
    depth = 0;
    is_due = is;
    page = page;
    held = λ j less. let e : 0 ≡ j = omega arith in subst (λ (d : ℕ). WayChecks index key d None) e holds;
  }

  -- one page further down
  pub on_next : (walk now : Walk) (due next : Due) → (on : IsOnWay index key walk due)
      → IsDue index key (on.depth + 1) now next → now.child ≡ page_in index next.stand.page
      → WayChecks index key (on.depth + 1) None → IsOnWay index key now next
  on_next walk now due next on is page holds = record {
    depth = on.depth + 1;
    is_due = is;
    page = page;
    held = below_more (WayChecks index key) (on.depth + 1) on.held holds;
  }

  -- the leaf
  module _ (walk : Walk) (due : Due) (on : IsOnWay index key walk due) (none : due.stand.level ≡ 0) where
    depth_is : on.depth ≡ root_level index
    depth_is = let l = on.is_due.level in omega arith

    pub all_hold : AllWayChecks index key None
    all_hold = subst (λ (d : ℕ). AllBelow (WayChecks index key) (d + 1)) depth_is on.held

    pub leaf_is : due.stand.page ≡ leaf_for index key
    leaf_is = page_is index key on.depth walk due on.is_due ∙ ap (λ (d : ℕ). (way index key d).page) depth_is
