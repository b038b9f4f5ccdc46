-- What a store holds where the putting of a tablespace ends.
use Rattle.std.proofs.Common.{◌≡◌, ◌≢◌, ℕ, ◌≤◌, [], ◌∷◌, Result, Ok, Err}
use Rattle.std.proofs.Common.{refl, sym, subst, inl, inr, arith}
use Rattle.page_source.specs.declared.objects.PageStore.{Ghosts as StoreOf}
use Rattle.page_source.specs.Faults.{Rose}
use Rattle.page_source.specs.Objects.{IsFresh, IsTold, Asks, CanSize}
use Rattle.schema_text.specs.Formats.{flags_of}
use Rattle.schema_text.specs.TableDef.{TableDef}
use Rattle.space_layout.specs.HeadPages.{header_page}
use Rattle.space_builder.specs.declared.built.PutStop.{PutStop}
use Rattle.space_builder.specs.declared.built.PutStop.TheVariants as stops
use Rattle.space_builder.specs.declared.space.Space.{Space}
use Rattle.space_builder.specs.build.Puts.{PutsPages, numbers_of}
use Rattle.space_builder.specs.calls.Room.{TakesPages}
use Rattle.space_builder.specs.calls.Space.{IsSpaceOf, PutsSpace, pages_behind_head}
use Rattle.row_store.specs.StoredRows.{Rows}
use Rattle.space_builder.specs.layout.Layout.{segment_sizes, layout_size}
use Rattle.space_builder.specs.layout.LowerLaws.{LowerLaws}
use Rattle.space_builder.proofs.Builds.{fresh_lacks}
use Rattle.space_builder.proofs.Puts.{all_put, keeps_same}
use Rattle.space_builder.proofs.SpacePuts.{takes_sized, part_behind, lacks_behind, sized_behind, part_head}
use Rattle.space_builder.proofs.SpacePuts.{holds_layout}
use Rattle.space_builder.proofs.layout.Laid.{shape}

-- results that differ
abbrev IsStore : {A : Type 0} → Result A PutStop → Type 0
IsStore (Ok a) = ⊥
IsStore (Err stops.Store) = Unit {0}
IsStore (Err stops.Memory) = ⊥

abbrev IsMemory : {A : Type 0} → Result A PutStop → Type 0
IsMemory (Ok a) = ⊥
IsMemory (Err stops.Store) = ⊥
IsMemory (Err stops.Memory) = Unit {0}

module _ (laws : LowerLaws) (space : Space) (rows : Rows) (is : IsSpaceOf space rows) {T : Type 0} (g : StoreOf T)
    (old : T) (fresh : IsFresh (g.told old)) where
  abbrev table : TableDef
  table = space.schema.now

  pub no_page : {A : Type 0} → PutsSpace {A = A} g table rows old old (Err stops.Memory)
  no_page = record {
    leaves = fresh_lacks (g.told old) fresh;
    memory = λ same. inl refl;
    later = omega arith;
    store_rose = λ same. absurd (subst IsStore (sym same) tt);
  }

  pub can_size : (pages : ℕ) → pages ≡ layout_size table rows → CanSize (g.told old) pages
  can_size pages size =
      let few = is.can.fits in
      record { whole = omega arith; most = omega arith; once = fresh.asked }

  module _ (sized : T) (pages : ℕ) (size : pages ≡ layout_size table rows) (sized_later : g.faults old ≤ g.faults sized)
    where
      pub not_sized : {A : Type 0} → Asks (g.told old) (g.told sized) pages → Rose (g.faults old) (g.faults sized)
          → PutsSpace {A = A} g table rows old sized (Err stops.Store)
      not_sized asks rose = record {
        leaves = part_behind laws table rows is.can g old sized pages fresh asks size sized
            (keeps_same (numbers_of (pages_behind_head table rows)) (g.told sized));
        memory = λ same. absurd (subst IsMemory (sym same) tt);
        later = sized_later;
        store_rose = λ same. rose;
      }

      pub takes_pages : IsTold (g.told old).size (g.told sized).size pages
          → TakesPages (g.told sized) space.plan.now.sizes.items
      takes_pages told =
          subst (TakesPages (g.told sized)) (sym is.plan.sizes)
          (takes_sized (g.told old) (g.told sized) (segment_sizes table rows) pages (shape laws table rows is.can) size
          told)

      pub behind_failed : {A B : Type 0} (new : T) (stop : PutStop) → Asks (g.told old) (g.told sized) pages
          → IsTold (g.told old).size (g.told sized).size pages
          → PutsPages {A = A} g sized new (pages_behind_head table rows) (Err stop)
          → PutsSpace {A = B} g table rows old new (Err stop)
      behind_failed new stops.Store asks told puts = record {
        leaves = part_behind laws table rows is.can g old sized pages fresh asks size new puts.others;
        memory = λ same. absurd (subst IsMemory (sym same) tt);
        later = omega (arith, sized_later, puts.later);
        store_rose = λ same. omega (arith, sized_later, puts.store_rose refl);
      }
      behind_failed new stops.Memory asks told puts = record {
        leaves = lacks_behind laws table rows is.can g old sized pages fresh asks size new puts.others;
        memory = λ same.
            inr (sized_behind laws table rows is.can g old sized pages fresh asks size new told puts.others);
        later = omega (arith, sized_later, puts.later);
        store_rose = λ same. absurd (subst IsStore (sym same) tt);
      }

      pub head_ends : {A B : Type 0} (now new : T) (b : B) (result : Result A PutStop)
          → Asks (g.told old) (g.told sized) pages → IsTold (g.told old).size (g.told sized).size pages
          → PutsPages g sized now (pages_behind_head table rows) (Ok b) → result ≢ Err stops.Memory
          → PutsPages g now new ((0, header_page (segment_sizes table rows) (flags_of table.format)) ∷ []) result
          → PutsSpace g table rows old new result
      head_ends now new b (Ok a) asks told behind no_memory head =
          let put = all_put g sized now (pages_behind_head table rows) b behind in
          record {
            leaves = holds_layout laws table rows is.can g old sized pages fresh asks size now new told put
                (all_put g now new ((0, header_page (segment_sizes table rows) (flags_of table.format)) ∷ []) a head);
            memory = λ same. absurd (subst IsMemory (sym same) tt);
            later = omega (arith, sized_later, behind.later, head.later);
            store_rose = λ same. absurd (subst IsStore (sym same) tt);
          }
      head_ends now new b (Err stops.Store) asks told behind no_memory head = record {
        leaves = part_head laws table rows is.can g old sized pages fresh asks size now new
            (all_put g sized now (pages_behind_head table rows) b behind) head.others;
        memory = λ same. absurd (subst IsMemory (sym same) tt);
        later = omega (arith, sized_later, behind.later, head.later);
        store_rose = λ same. omega (arith, sized_later, behind.later, head.store_rose refl);
      }
      head_ends now new b (Err stops.Memory) asks told behind no_memory head = absurd (no_memory refl)
