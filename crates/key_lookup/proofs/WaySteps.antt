-- The checks of the page that is due, one after another.
use Rattle.std.proofs.Common.{◌≡◌, ℕ, ◌-◌, ◌==◌, ◌<◌, ◌≤◌, true, List, Option, Some, None, inl, inr, ap, ◌∙◌}
use Rattle.std.proofs.Common.{subst}
use Rattle.std.proofs.Common.{arith}
use Rattle.page_source.specs.declared.rule.Fault.{Fault}
use Rattle.page_source.specs.declared.checks.Halt.{Halt}
use Rattle.page_source.specs.declared.checks.Halt.TheVariants.{Broken, Source}
use Rattle.page_source.specs.Checks.{HaltsAt}
use Rattle.fil_frame.specs.Kinds.{index_kind}
use Rattle.space_header.specs.Header.{size_of}
use Rattle.column_values.specs.Types.{Fields}
use Rattle.column_values.specs.Order.{Key}
use Rattle.tree_walk.specs.declared.walk.Walk.{Walk}
use Rattle.tree_walk.specs.Index.{Index, page_in, fields_on, root_level, index_id}
use Rattle.tree_walk.specs.Place.{Spot}
use Rattle.tree_walk.specs.Descent.{spot_on, bounded_root}
use Rattle.index_page.specs.Header.{level_of, index_id_of}
use Rattle.key_lookup.specs.declared.way.Due.{Due}
use Rattle.key_lookup.specs.Path.{way}
use Rattle.offpage_chain.specs.Fetched.{FramedChecks}
use Rattle.key_lookup.specs.GetFirst.{way_fault, WayChecks, AllWayChecks}
use Rattle.key_lookup.specs.Way.{spot_due, IsDue, PageInHand}

module _ (index : Index) (key : Key) (depth : ℕ) (walk : Walk) (due : Due) (is : IsDue index key depth walk due) where
  abbrev level : ℕ
  level = root_level index - depth

  level_is : due.stand.level ≡ level
  level_is = omega (arith, is.level)

  pub page_is : due.stand.page ≡ (way index key depth).page
  page_is = ap (λ (spot : Spot). spot.page) is.spot

  -- the checks of the page that is due are those at its depth
  in_hand : (v : Option Fault) (page : List ℕ) (fields : Fields) → page ≡ page_in index due.stand.page
      → fields ≡ fields_on index due.stand.level
      → PageInHand page fields (spot_due walk index.node due) due.stand.index_id v
      → PageInHand (page_in index (way index key depth).page) (fields_on index level)
      (spot_on level (depth == 0) (way index key depth)) (index_id index) v
  in_hand v page fields p f y =
      let held = subst (λ (page : List ℕ). PageInHand page fields
      (spot_due walk index.node due) due.stand.index_id v) p y
      in
      let x = subst (λ (f : Fields). PageInHand (page_in index due.stand.page) f (spot_due walk index.node due)
      due.stand.index_id v) f held in
      let one = subst (λ (spot : Spot). PageInHand (page_in index due.stand.page) (fields_on index due.stand.level) spot
      due.stand.index_id v) is.spot x in
      let two = subst (λ (id : ℕ). PageInHand (page_in index due.stand.page) (fields_on index due.stand.level)
      (spot_on due.stand.level (depth == 0) (way index key depth)) id v) is.id one in
      let three = subst (λ (n : ℕ). PageInHand (page_in index n) (fields_on index due.stand.level)
      (spot_on due.stand.level (depth == 0) (way index key depth)) (index_id index) v) page_is two in
      subst (λ (l : ℕ). PageInHand (page_in index (way index key depth).page) (fields_on index l)
      (spot_on l (depth == 0) (way index key depth)) (index_id index) v) level_is three

  framed : (v : Option Fault) → FramedChecks index.file due.fault index_kind due.stand.page v
      → FramedChecks index.file (way_fault index key depth) index_kind (way index key depth).page v
  framed v x =
      let one = subst (λ (f : Fault). FramedChecks index.file f index_kind due.stand.page v) is.fault x in
      subst (λ (n : ℕ). FramedChecks index.file (way_fault index key depth) index_kind n v) page_is one

  -- the page that is due lies beyond the file
  pub due_beyond : size_of index.file ≤ due.stand.page → WayChecks index key depth (Some due.fault)
  unfolding WayChecks
  due_beyond beyond = inl (inl ((λ below. omega (arith, beyond, below, page_is)), is.fault))

  -- the frame or the type of the page breaks
  pub due_halts : (halt : Halt) → due.stand.page < size_of index.file
      → HaltsAt halt (FramedChecks index.file due.fault index_kind due.stand.page)
      → HaltsAt halt (WayChecks index key depth)
  unfolding WayChecks
  due_halts (Broken fault) below x = inl (inr (omega (arith, below, page_is), framed (Some fault) x))
  due_halts Source below x = tt

  -- the records or keys of the page break
  pub due_breaks : (fault : Fault) (page : List ℕ) (fields : Fields) → due.stand.page < size_of index.file
      → FramedChecks index.file due.fault index_kind due.stand.page None
      → page ≡ page_in index due.stand.page → fields ≡ fields_on index due.stand.level
      → PageInHand page fields (spot_due walk index.node due) due.stand.index_id (Some fault)
      → WayChecks index key depth (Some fault)
  unfolding WayChecks
  due_breaks fault page fields below f p e x =
      inr ((omega (arith, below, page_is), framed None f), in_hand (Some fault) page fields p e x)

  -- all checks of the page hold
  pub due_holds : (page : List ℕ) (fields : Fields) → due.stand.page < size_of index.file
      → FramedChecks index.file due.fault index_kind due.stand.page None
      → page ≡ page_in index due.stand.page → fields ≡ fields_on index due.stand.level
      → PageInHand page fields (spot_due walk index.node due) due.stand.index_id None
      → WayChecks index key depth None
  unfolding WayChecks
  due_holds page fields below f p e x =
      ((omega (arith, below, page_is), framed None f), in_hand None page fields p e x)

-- the root, whose level and index are read from itself
module _ (index : Index) (key : Key) where
  pub root_beyond : (fault : Fault) → fault ≡ way_fault index key 0 → size_of index.file ≤ index.root
      → WayChecks index key 0 (Some fault)
  unfolding WayChecks
  root_beyond fault e beyond = inl (inl ((λ below. omega (arith, beyond, below)), e))

  pub root_halts : (fault : Fault) (halt : Halt) → fault ≡ way_fault index key 0 → index.root < size_of index.file
      → HaltsAt halt (FramedChecks index.file fault index_kind index.root) → HaltsAt halt (WayChecks index key 0)
  unfolding WayChecks
  root_halts fault (Broken other) e below x =
      inl (inr (below, subst (λ (f : Fault). FramedChecks index.file f index_kind index.root (Some other)) e x))
  root_halts fault Source e below x = tt

  -- the checks of the root in hand are those at depth 0
  root_in_hand : (page : List ℕ) (fields : Fields) (level id : ℕ) (v : Option Fault) → page ≡ page_in index index.root
      → level ≡ level_of page → id ≡ index_id_of page → fields ≡ fields_on index level
      → PageInHand page fields (spot_on level true (bounded_root index)) id v
      → PageInHand (page_in index index.root) (fields_on index (root_level index - 0))
      (spot_on (root_level index - 0) true (bounded_root index)) (index_id index) v
  root_in_hand page fields level id v p l i f x =
      let le : level ≡ root_level index - 0 = l ∙ ap level_of p ∙ omega arith in
      let ie : id ≡ index_id index = i ∙ ap index_id_of p in
      let one = subst (λ (f : Fields). PageInHand page f (spot_on level true (bounded_root index)) id v) f x in
      let two = subst (λ (n : ℕ). PageInHand page (fields_on index n) (spot_on n true (bounded_root index)) id v) le one
      in
      let three = subst (λ (n : ℕ). PageInHand page (fields_on index (root_level index - 0))
      (spot_on (root_level index - 0) true (bounded_root index)) n v) ie two in
      subst (λ (page : List ℕ). PageInHand page (fields_on index (root_level index - 0))
      (spot_on (root_level index - 0) true (bounded_root index)) (index_id index) v) p three

  pub root_breaks : (fault broken : Fault) (page : List ℕ) (fields : Fields) (level id : ℕ)
      → fault ≡ way_fault index key 0 → index.root < size_of index.file
      → FramedChecks index.file fault index_kind index.root None
      → page ≡ page_in index index.root → level ≡ level_of page → id ≡ index_id_of page
      → fields ≡ fields_on index level
      → PageInHand page fields (spot_on level true (bounded_root index)) id (Some broken)
      → WayChecks index key 0 (Some broken)
  unfolding WayChecks
  root_breaks fault broken page fields level id e below framed p l i f x =
      inr (
        (below, subst (λ (f : Fault). FramedChecks index.file f index_kind index.root None) e framed),
        root_in_hand page fields level id (Some broken) p l i f x,
      )

  pub root_holds : (fault : Fault) (page : List ℕ) (fields : Fields) (level id : ℕ)
      → fault ≡ way_fault index key 0 → index.root < size_of index.file
      → FramedChecks index.file fault index_kind index.root None
      → page ≡ page_in index index.root → level ≡ level_of page → id ≡ index_id_of page
      → fields ≡ fields_on index level
      → PageInHand page fields (spot_on level true (bounded_root index)) id None
      → WayChecks index key 0 None
  unfolding WayChecks
  root_holds fault page fields level id e below framed p l i f x = (
    (below, subst (λ (f : Fault). FramedChecks index.file f index_kind index.root None) e framed),
    root_in_hand page fields level id None p l i f x,
  )
