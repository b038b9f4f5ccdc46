-- The first three pages are put.
use Rattle.std.proofs.Common.{ℕ, ◌<◌, ◌≤◌, List, [], ◌∷◌, Err}
use Rattle.std.proofs.Common.{arith}
use Rattle.page_source.specs.declared.objects.PageStore.{Ghosts as StoreOf}
use Rattle.page_source.specs.Faults.{Rose}
use Rattle.page_source.specs.Objects.{Store, CanPut, KeepsSizes, HoldsOthers}
use Rattle.page_source.proofs.Members.{contains_none}
use Rattle.page_source.proofs.Told.{map_told}
use Rattle.space_layout.specs.HeadPages.{bitmap_page, inode_page}
use Rattle.space_layout.specs.NumberedPages.{Numbered}
use Rattle.space_builder.specs.declared.built.PutStop.TheVariants as stops
use Rattle.space_builder.specs.build.Puts.{PutsPages}
use Rattle.space_builder.specs.calls.Room.{TakesPages}
use Rattle.space_builder.specs.layout.Layout.{system_pages}
use Rattle.space_builder.proofs.Puts.{ArePut, among_left, among_right, both_put, none_put, one_failed, stopped_behind}
use Rattle.space_builder.proofs.SpacePuts.{only_member}

pub heads_below : (store : Store) (sizes : List ℕ) (n : ℕ) → n < 3 → TakesPages store sizes → CanPut store n
heads_below store sizes n few takes = map_told store.size (λ size most. omega arith) takes.below

module _ {T : Type 0} (g : StoreOf T) (sizes : List ℕ) where
  abbrev second : Numbered
  second = (2, inode_page sizes)

  abbrev third : Numbered
  third = (1, bitmap_page)

  pub second_failed : {A : Type 0} (old new : T) → KeepsSizes (g.told old) (g.told new)
      → HoldsOthers (g.told old).held (g.told new).held 2 → g.faults old ≤ g.faults new
      → Rose (g.faults old) (g.faults new) → PutsPages {A = A} g old new (system_pages sizes) (Err stops.Store)
  second_failed {A} old new kept lost later rose =
      stopped_behind {A = A} g old old new [] (second ∷ []) (second ∷ third ∷ []) stops.Store
      (λ n among. absurd (contains_none n among)) (among_left (second ∷ []) (third ∷ [])) (none_put g old)
      (one_failed g old new 2 second.1 kept lost later rose)

  pub third_failed : {A : Type 0} (old now new : T) → ArePut g old now (second ∷ [])
      → KeepsSizes (g.told now) (g.told new) → HoldsOthers (g.told now).held (g.told new).held 1
      → g.faults now ≤ g.faults new → Rose (g.faults now) (g.faults new)
      → PutsPages {A = A} g old new (system_pages sizes) (Err stops.Store)
  third_failed {A} old now new put kept lost later rose =
      stopped_behind {A = A} g old now new (second ∷ []) (third ∷ []) (second ∷ third ∷ []) stops.Store
      (among_left (second ∷ []) (third ∷ [])) (among_right (second ∷ []) (third ∷ [])) put
      (one_failed g now new 1 third.1 kept lost later rose)

  pub system_put : (old now new : T) → ArePut g old now (second ∷ []) → ArePut g now new (third ∷ [])
      → ArePut g old new (system_pages sizes)
  system_put old now new first last =
      both_put g old now new (second ∷ []) (third ∷ [])
      (λ n here there.
      let two = only_member 2 n here in
      let one = only_member 1 n there in
      absurd (omega arith)) first last
