-- The steps of the way, as they are taken.
use Rattle.std.specs.Prelude.{◌≡◌, ℕ, ◌+◌, ◌==◌, nat_lt, if◌then◌else◌, List, Option, Some, None}
use Rattle.page_source.specs.declared.rule.Fault.{Fault}
use Rattle.page_source.specs.declared.rule.Rule.TheVariants.{IndexId}
use Rattle.page_source.specs.Verdict.{AllBelow, Then}
use Rattle.page_source.specs.Answers.{Holds}
use Rattle.column_values.specs.Types.{Fields}
use Rattle.column_values.specs.Order.{Key}
use Rattle.index_page.specs.Header.{index_id_of, record_count}
use Rattle.tree_walk.specs.declared.cursor.Next.{Next}
use Rattle.tree_walk.specs.declared.walk.Walk.{Walk}
use Rattle.tree_walk.specs.Index.{Index, page_in, root_level, index_id}
use Rattle.tree_walk.specs.Place.{Spot, NodeAt}
use Rattle.tree_walk.specs.Records.{record_key, held_key}
use Rattle.tree_walk.specs.Walk.{page_after, origin_after, HoldsBeside, spot_beside}
use Rattle.tree_walk.specs.Descent.{spot_on}
use Rattle.key_lookup.specs.declared.way.Due.{Due}
use Rattle.key_lookup.specs.Path.{way}
use Rattle.key_lookup.specs.GetFirst.{way_fault, WayChecks}

-- where the page stands that is due: between the keys of the node pointers beside it
abbrev pub spot_due : Walk → Fields → Due → Spot
spot_due walk node due = spot_beside walk node due.stand due.low due.next

-- the page that is due is the one at this depth of the way
pub record IsDue (index : Index) (key : Key) (depth : ℕ) (walk : Walk) (due : Due) : Type 0 where
  pub spot : spot_due walk index.node due ≡ spot_on due.stand.level (depth == 0) (way index key depth)
  pub fault : due.fault ≡ way_fault index key depth
  pub id : due.stand.index_id ≡ index_id index
  pub level : due.stand.level + depth ≡ root_level index

-- the checks of a page in hand that is due
abbrev pub PageInHand : List ℕ → Fields → Spot → ℕ → Option Fault → Type 0
PageInHand page fields spot id =
    Then (Holds IndexId spot.page (index_id_of page ≡ id)) (NodeAt page fields spot)

-- the page in hand is the one that was due, and its checks hold
pub record IsHeldNode (walk : Walk) (leaf node : Fields) (due : Due) : Type 0 where
  pub checked : NodeAt walk.child (if due.stand.level == 0 then leaf else node) (spot_due walk node due) None
  pub beside : HoldsBeside walk node due.stand.root due.low due.next

-- the page in hand is at some depth of the way, and all checks so far hold
pub record IsOnWay (index : Index) (key : Key) (walk : Walk) (due : Due) : Type 0 where
  pub depth : ℕ
  pub is_due : IsDue index key depth walk due
  pub page : walk.child ≡ page_in index due.stand.page
  pub held : AllBelow (WayChecks index key) (depth + 1)

-- the key of the high separator that a walk holds
abbrev pub high_held : Walk → Fields → Next → Option Key
high_held walk node next = held_key (page_after next walk.parent walk.after) node (origin_after next)

-- the high separator of a child: the key of the node pointer after its own, or that of the page itself
abbrev pub high_behind : List ℕ → Fields → ℕ → Option Key → Option Key
high_behind page node k high =
    if nat_lt (k + 1) (record_count page) then Some (record_key page node (k + 1)) else high
