-- The pages of a tablespace are put: those of values, those of trees, and the first three.
use Rattle.std.proofs.Common.{◌≡◌, ℕ, ◌+◌, ◌<◌, ◌≤◌, ◌++◌, List, [], length, Result, Ok, Err}
use Rattle.std.proofs.Common.{sym, ap, ◌∙◌, subst, arith, inl, inr}
use Rattle.std.proofs.lemmas.List.Elements.{Contains-append_left, Contains-append_right, Contains-append_cases}
use Rattle.page_source.specs.declared.objects.PageStore.{Ghosts as StoreOf}
use Rattle.page_source.specs.Objects.{Store}
use Rattle.page_source.proofs.Members.{contains_none}
use Rattle.schema_text.specs.TableDef.{TableDef}
use Rattle.schema_text.specs.declared.table.Format.{Format}
use Rattle.space_layout.specs.NumberedPages.{Numbered}
use Rattle.space_layout.specs.ValuePlaces.{value_page_count}
use Rattle.row_layout.specs.StoredRow.{Stored}
use Rattle.space_builder.specs.declared.built.PutStop.{PutStop}
use Rattle.space_builder.specs.declared.space.Space.{Space}
use Rattle.space_builder.specs.build.Puts.{HaveOnePage, PutsPages}
use Rattle.space_builder.specs.calls.Room.{TakesPages, TakesValues, HasLeafPages, pages_behind, AreFirstPages}
use Rattle.space_builder.specs.calls.Space.{IsSpaceOf, leaves_of, pages_behind_head}
use Rattle.row_store.specs.StoredRows.{Rows}
use Rattle.space_builder.specs.layout.Layout.{tree_counts, segment_sizes, value_counts, value_number, value_total}
use Rattle.space_builder.specs.layout.Layout.{value_pages, trees_pages}
use Rattle.space_builder.specs.layout.Layout.{segment_pages, system_pages}
use Rattle.space_builder.specs.layout.LowerLaws.{LowerLaws}
use Rattle.space_builder.specs.layout.ValuePage.{page_counts}
use Rattle.space_builder.proofs.Puts.{ArePut, all_put, none_put, puts_all, stopped_behind}
use Rattle.space_builder.proofs.PutSteps.{AreSome, some_among, some_one, both_put_one}
use Rattle.space_builder.proofs.SpacePuts.{behind_one, same_put}
use Rattle.space_builder.proofs.layout.Laid.{fits, shape}
use Rattle.space_builder.proofs.layout.Sizes.{leaf_is, segments_are}

-- some pages, and others behind them, of the same whole
both_some : (pages others all : List Numbered) → AreSome pages all → AreSome others all → AreSome (pages ++ others) all
both_some pages others all first second page among =
    elim (Contains-append_cases pages others page among) [
      | inl here ↦ first page here
      | inr there ↦ second page there
    ]

pub some_index : (space : Space) (rows : Rows) → IsSpaceOf space rows → 0 < length space.schema.now.indexes
some_index space rows is = let some = is.can.is_table.clustered in omega arith

module _ (laws : LowerLaws) (space : Space) (rows : Rows) (is : IsSpaceOf space rows) where
  abbrev table : TableDef
  table = space.schema.now

  abbrev sizes : List ℕ
  sizes = space.plan.now.sizes.items

  -- the three parts
  abbrev values : List Numbered
  values = value_pages table rows

  abbrev trees : List Numbered
  trees = trees_pages table rows

  abbrev system : List Numbered
  system = system_pages (segment_sizes table rows)

  abbrev behind : List Numbered
  behind = pages_behind_head table rows

  some_values : AreSome values behind
  unfolding segment_pages
  some_values page among =
      Contains-append_left (segment_pages table rows) system page (Contains-append_right trees values page among)

  some_trees : AreSome trees behind
  unfolding segment_pages
  some_trees page among =
      Contains-append_left (segment_pages table rows) system page (Contains-append_left trees values page among)

  some_system : AreSome system behind
  some_system page among = Contains-append_right (segment_pages table rows) system page among

  one : HaveOnePage behind
  one = behind_one laws table rows is.can

  pub trees_one : HaveOnePage trees
  trees_one = some_one trees behind some_trees one

  -- the values
  pub values_are : (leaves : ℕ) → leaves ≡ leaves_of table rows
      → pages_behind table.format sizes leaves space.rows.now ≡ values
  unfolding value_number value_counts
  values_are leaves leaves_are =
      ap (λ (s : List ℕ). pages_behind table.format s leaves space.rows.now) is.plan.sizes
      ∙ ap (λ (n : ℕ). pages_behind table.format (segment_sizes table rows) n space.rows.now) leaves_are
      ∙ ap (pages_behind table.format (segment_sizes table rows) (leaves_of table rows)) is.same

  pub values_told : {T A : Type 0} (g : StoreOf T) (old new : T) (format : Format) (sizes_now : List ℕ) (leaves : ℕ)
      (result : Result A PutStop) → format ≡ table.format → sizes_now ≡ sizes → leaves ≡ leaves_of table rows
      → PutsPages g old new (pages_behind format sizes_now leaves space.rows.now) result
      → PutsPages g old new values result
  values_told g old new format sizes_now leaves result format_is sizes_are leaves_are puts =
      subst (λ (pages : List Numbered). PutsPages g old new pages result)
      (ap (λ (f : Format). pages_behind f sizes_now leaves space.rows.now) format_is
      ∙ ap (λ (s : List ℕ). pages_behind table.format s leaves space.rows.now) sizes_are
      ∙ values_are leaves leaves_are) puts

  pub first_pages_are : (starts pages : List ℕ) (format : Format) (sizes_now : List ℕ) (leaves : ℕ)
      → format ≡ table.format → sizes_now ≡ sizes → leaves ≡ leaves_of table rows
      → AreFirstPages format sizes_now leaves space.rows.now starts pages
      → AreFirstPages table.format (segment_sizes table rows) (leaves_of table rows) space.rows.now starts pages
  first_pages_are starts pages format sizes_now leaves format_is sizes_are leaves_are first =
      subst (λ (n : ℕ). AreFirstPages table.format (segment_sizes table rows) n space.rows.now starts pages) leaves_are
      (subst (λ (s : List ℕ). AreFirstPages table.format s leaves space.rows.now starts pages)
      (sizes_are ∙ is.plan.sizes)
      (subst (λ (f : Format). AreFirstPages f sizes_now leaves space.rows.now starts pages) format_is first))

  has_leaf_pages : HasLeafPages (segment_sizes table rows) (leaves_of table rows + value_total table rows)
  has_leaf_pages =
      let some = is.can.is_table.clustered in
      let count = segments_are laws table rows in
      let size = leaf_is laws table rows 0 (omega arith) in
      record { segment = omega arith; pages = omega arith }

  pub takes_values : (store : Store) (leaves : ℕ) → leaves ≡ leaves_of table rows → TakesPages store sizes
      → TakesValues store table.format sizes leaves space.rows.now
  unfolding value_counts
  takes_values store leaves leaves_are takes = record {
    takes = takes;
    has = subst (λ (s : List ℕ). HasLeafPages s (leaves + value_page_count (page_counts table.format space.rows.now)))
        (sym is.plan.sizes)
        (subst (λ (n : ℕ). HasLeafPages (segment_sizes table rows)
        (n + value_page_count (page_counts table.format space.rows.now))) (sym leaves_are)
        (subst (λ (stored : List (List Stored)). HasLeafPages (segment_sizes table rows)
        (leaves_of table rows + value_page_count (page_counts table.format stored))) (sym is.same) has_leaf_pages));
    one = subst HaveOnePage (sym (values_are leaves leaves_are)) (some_one values behind some_values one);
  }

  -- a tree has a level, and there are few segments
  pub some_levels : 0 < length (tree_counts table rows 0)
  some_levels =
      let some = is.can.is_table.clustered in
      (fits laws table rows is.can 0 (omega arith)).some

  pub few_sizes : length sizes ≤ 32
  few_sizes =
      let same = ap (λ (s : List ℕ). length s) is.plan.sizes in
      let few = (shape laws table rows is.can).few in
      omega arith

  -- all of them
  pub stop_in_values : {T A B : Type 0} (g : StoreOf T) (old new : T) (stop : PutStop)
      → PutsPages {A = A} g old new values (Err stop) → PutsPages {A = B} g old new behind (Err stop)
  stop_in_values {T} {A} {B} g old new stop failed =
      stopped_behind {A = A} {B = B} g old old new [] values behind stop (λ n among. absurd (contains_none n among))
      (some_among values behind some_values) (none_put g old) failed

  module _ {T : Type 0} (g : StoreOf T) (old valued : T) (first : ArePut g old valued values) where
    pub stop_in_trees : {A B : Type 0} (new : T) (stop : PutStop) → PutsPages {A = A} g valued new trees (Err stop)
        → PutsPages {A = B} g old new behind (Err stop)
    stop_in_trees {A} {B} new stop failed =
        stopped_behind {A = A} {B = B} g old valued new values trees behind stop (some_among values behind some_values)
        (some_among trees behind some_trees) first failed

    module _ (planted : T) (second : ArePut g valued planted trees) where
      two_put : ArePut g old planted (values ++ trees)
      two_put =
          both_put_one g old valued planted values trees
          (some_one (values ++ trees) behind (both_some values trees behind some_values some_trees) one) first second

      pub stop_in_system : {A B : Type 0} (new : T) (stop : PutStop)
          → PutsPages {A = A} g planted new system (Err stop) → PutsPages {A = B} g old new behind (Err stop)
      stop_in_system {A} {B} new stop failed =
          stopped_behind {A = A} {B = B} g old planted new (values ++ trees) system behind stop
          (some_among (values ++ trees) behind (both_some values trees behind some_values some_trees))
          (some_among system behind some_system) two_put failed

      pub all_behind : (new : T) → ArePut g planted new system → ArePut g old new behind
      unfolding segment_pages
      all_behind new third =
          same_put g old new (values ++ trees ++ system) behind
          (both_some (values ++ trees) system behind (both_some values trees behind some_values some_trees)
          some_system)
          (λ page among. elim (Contains-append_cases (segment_pages table rows) system page among) [
            | inl segment ↦ elim (Contains-append_cases trees values page segment) [
              | inl tree ↦
                  Contains-append_left (values ++ trees) system page (Contains-append_right values trees page tree)
              | inr value ↦
                  Contains-append_left (values ++ trees) system page (Contains-append_left values trees page value)
            ]
            | inr last ↦ Contains-append_right (values ++ trees) system page last
          ])
          (both_put_one g old planted new (values ++ trees) system
          (some_one (values ++ trees ++ system) behind
          (both_some (values ++ trees) system behind (both_some values trees behind some_values some_trees) some_system)
          one) two_put third)

      pub ends_in_system : {A : Type 0} (new : T) (result : Result A PutStop) (sizes_now : List ℕ)
          → sizes_now ≡ sizes → PutsPages g planted new (system_pages sizes_now) result
          → PutsPages g old new behind result
      ends_in_system new (Ok a) sizes_now same puts =
          puts_all g old new behind a
          (all_behind new
          (subst (λ (s : List ℕ). ArePut g planted new (system_pages s)) (same ∙ is.plan.sizes)
          (all_put g planted new (system_pages sizes_now) a puts)))
      ends_in_system {A} new (Err stop) sizes_now same puts =
          stop_in_system {A = A} {B = A} new stop
          (subst (λ (s : List ℕ). PutsPages {A = A} g planted new (system_pages s) (Err stop)) (same ∙ is.plan.sizes)
          puts)
