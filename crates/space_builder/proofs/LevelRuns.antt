-- A level is put page by page while its entries come.
use Rattle.std.proofs.Common.{◌≡◌, ℕ, zero, suc, ◌+◌, ◌-◌, ◌<◌, ◌≤◌, ◌==◌, ◌&&◌, Bool, true, false, not, cond}
use Rattle.std.proofs.Common.{List, [], ◌∷◌, ◌++◌, length, get_or, take, drop, slice_index, append_assoc}
use Rattle.std.proofs.Common.{refl, sym, ap, ◌∙◌, subst, arith, inl, inr, Ok, Err}
use Rattle.std.proofs.lemmas.Bool.{cases_lt, ne_eqb, eq-eqb, true≢false}
use Rattle.std.proofs.lemmas.Bool.Decides.{eqb_tells}
use Rattle.std.proofs.lemmas.List.{length_push, get_or_append_left, get_or_push, take_more, take_all, take-append-drop}
use Rattle.std.proofs.lemmas.List.{append-nil}
use Rattle.std.proofs.lemmas.List.Sums.{sum_by_push}
use Rattle.page_source.specs.declared.objects.PageStore.{Ghosts as StoreOf}
use Rattle.column_values.specs.Types.{Fields}
use Rattle.compact_record.specs.Writing.{size_of_record}
use Rattle.index_page.specs.Page.{is_lowest_first}
use Rattle.page_packer.specs.Packing.{Packing, is_leaf, none_packed, with_record, fits_more}
use Rattle.page_packer.specs.Entries.{Entry, lowest_mark, packing_of}
use Rattle.space_layout.specs.NumberedPages.{Numbered}
use Rattle.tree_layout.specs.Division.{Level, has_room_for, divided, FitsAlone}
use Rattle.tree_layout.specs.Steps.{StandsOpen, GoesOn}
use Rattle.space_builder.specs.declared.tree_plan.TreePlan.{TreePlan}
use Rattle.space_builder.specs.layout.TreeSpot.{page_at_spot}
use Rattle.space_builder.specs.declared.built.PutStop.{PutStop}
use Rattle.space_builder.specs.declared.built.PutStop.TheVariants as stops
use Rattle.space_builder.specs.build.Puts.{PutsPages}
use Rattle.space_builder.specs.calls.MakesRoom.{MakesRoom}
use Rattle.space_builder.specs.calls.PutLaws.{PutLaws}
use Rattle.space_builder.specs.calls.TreePlan.{fields_in, width_in, number_in, spot_in, laid_pages, BeginsWith, BeginAt}
use Rattle.space_builder.specs.calls.TreePlan.{HasPage, CanPutLevel}
use Rattle.space_builder.proofs.Puts.{ArePut, none_put, both_put, all_put, memory_behind, stopped_behind}
use Rattle.space_builder.proofs.Turns.{open_page}
use Rattle.space_builder.proofs.LaidPages.{laid_page, none_laid, laid_push, laid_among, page_among, page_differs}

-- the first k entries are divided into pages that were put and one that is packed
pub record Stands {T : Type 0} (g : StoreOf T) (plan : TreePlan) (l : ℕ) (old now : T) (packing : Packing)
    (entries : List Entry) (starts : List ℕ) (k : ℕ) : Type 0 where
  pub closed : Level
  pub last : List Entry
  pub divides : StandsOpen (fields_in plan l) (take k entries) closed last
  pub packed : packing ≡ packing_of (fields_in plan l) l (is_lowest_first (is_leaf l) (length closed == 0)) last
  pub put : ArePut g old now (laid_pages plan l closed)
  pub begins : BeginAt entries (closed ++ last ∷ []) starts
  pub fresh : k ≡ 0 → (length closed ≡ 0) × (length last ≡ 0) × (slice_index starts 0 ≡ 0)
  pub filled : 0 < k → 0 < length last

-- where pages begin

begin_last : (entries last : List Entry) (k start : ℕ) → BeginsWith entries last start
    → (length last ≡ 0 → start ≡ k) → k < length entries → BeginsWith entries (last ++ get_or entries k [] ∷ []) start
begin_last entries [] k start begins fresh below =
    λ some. let is = fresh refl in (omega arith, ap (λ n. get_or entries n []) (sym is))
begin_last entries (x ∷ xs) k start begins fresh below = λ some. begins (omega arith)

begins_more : (entries : List Entry) (closed : Level) (last : List Entry) (starts : List ℕ) (k : ℕ)
    → BeginAt entries (closed ++ last ∷ []) starts → (length last ≡ 0 → slice_index starts (length closed) ≡ k)
    → k < length entries → BeginAt entries (closed ++ (last ++ get_or entries k [] ∷ []) ∷ []) starts
begins_more entries closed last starts k begins fresh below =
    let new = last ++ get_or entries k [] ∷ [] in
    let size = length_push closed last in
    let more = length_push closed new in
    let count = begins.count in record {
      count = omega arith;
      each = λ i inside.
          let P : List Entry → Type 0 = λ page. BeginsWith entries page (slice_index starts i) in
          elim (cases_lt i (length closed)) [
            | inl before ↦
                subst P (get_or_append_left closed (last ∷ []) [] i before
                ∙ sym (get_or_append_left closed (new ∷ []) [] i before)) (begins.each i (omega arith))
            | inr behind ↦
                let here : length closed ≡ i = omega arith in
                subst P (sym (get_or_push closed new [] i here))
                (begin_last entries last k (slice_index starts i)
                (subst P (get_or_push closed last [] i here) (begins.each i (omega arith)))
                (λ none. ap (slice_index starts) (sym here) ∙ fresh none) below)
          ];
    }

begins_turn : (entries : List Entry) (pages : Level) (starts : List ℕ) (k : ℕ) → BeginAt entries pages starts
    → k < length entries → BeginAt entries (pages ++ (get_or entries k [] ∷ []) ∷ []) (starts ++ k ∷ [])
begins_turn entries pages starts k begins below =
    let new = get_or entries k [] ∷ [] in
    let size = length_push pages new in
    let more = length_push starts k in
    let count = begins.count in record {
      count = omega arith;
      each = λ i inside.
          elim (cases_lt i (length pages)) [
            | inl before ↦
                subst (λ start. BeginsWith entries (get_or (pages ++ new ∷ []) i []) start)
                (sym (get_or_append_left starts (k ∷ []) 0 i (omega arith)))
                (subst (λ page. BeginsWith entries page (slice_index starts i))
                (sym (get_or_append_left pages (new ∷ []) [] i before)) (begins.each i before))
            | inr behind ↦
                subst (λ start. BeginsWith entries (get_or (pages ++ new ∷ []) i []) start)
                (sym (get_or_push starts k 0 i (omega arith)))
                (subst (λ page. BeginsWith entries page k) (sym (get_or_push pages new [] i (omega arith)))
                (λ some. (below, refl)))
          ];
    }

-- a page without entries
empty_page : (page : List Entry) → length page ≡ 0 → page ≡ []
empty_page [] none = refl
empty_page (x ∷ xs) none = absurd (omega arith)

-- a level with one page without entries
abbrev bare : Level
bare = [] ∷ []

no_entry : (k : ℕ) → 0 < length (get_or bare k []) → ⊥
no_entry zero some = omega arith
no_entry (suc k) some = omega arith

-- how many pages there are

longer : (fields : Fields) (law : GoesOn fields) (xs rest : List Entry) (closed : Level) (last : List Entry)
    → StandsOpen fields xs closed last → length closed < length (divided fields (xs ++ rest))
longer fields law xs [] closed last stands =
    let size = length_push closed last in
    let same = ap length (ap (divided fields) (append-nil xs) ∙ stands) in
    omega arith
longer fields law xs (y ∷ ys) closed last stands =
    elim (has_room_for fields last y) as (λ room. divided fields (xs ++ y ∷ [])
    ≡ cond room (closed ++ (last ++ y ∷ []) ∷ []) ((closed ++ last ∷ []) ++ (y ∷ []) ∷ [])
    → length closed < length (divided fields (xs ++ y ∷ ys))) [
      | true ↦ λ more.
          subst (λ zs. length closed < length (divided fields zs)) (append_assoc xs (y ∷ []) ys)
          (longer fields law (xs ++ y ∷ []) ys closed (last ++ y ∷ []) more)
      | false ↦ λ more.
          let below = longer fields law (xs ++ y ∷ []) ys (closed ++ last ∷ []) (y ∷ []) more in
          let size = length_push closed last in
          let same = ap (λ zs. length (divided fields zs)) (append_assoc xs (y ∷ []) ys) in
          omega arith
    ] (law.more xs closed last y stands)

-- the minimum mark

mark_at_first : (level : Bool) → (not level && true) ≡ ((true && not level) && true)
mark_at_first true = refl
mark_at_first false = refl

no_mark : (a b : Bool) → (a && false) ≡ (b && false)
no_mark true true = refl
no_mark true false = refl
no_mark false true = refl
no_mark false false = refl

no_mark_behind : (a b : Bool) → (a && false) ≡ ((false && b) && true)
no_mark_behind true b = refl
no_mark_behind false b = refl

mark_more : (l k closed last : ℕ) → (k ≡ 0 → (closed ≡ 0) × (last ≡ 0)) → (0 < k → 0 < last)
    → (not (l == 0) && (k == 0)) ≡ (is_lowest_first (is_leaf l) (closed == 0) && (last == 0))
mark_more l k closed last fresh filled =
    elim (eqb_tells k 0) [
      | inl first ↦
          let none = fresh first.1 in
          rw (first.0, eq-eqb closed 0 none.0, eq-eqb last 0 none.1) (mark_at_first (l == 0))
      | inr later ↦
          let no = later.1 in
          let some = filled (omega arith) in
          rw (later.0, ne_eqb last 0 (λ e. omega arith)) (no_mark (not (l == 0))
          (is_lowest_first (is_leaf l) (closed == 0)))
    ]

module _ (laws : PutLaws) (plan : TreePlan) (l : ℕ) (entries : List Entry) (can : CanPutLevel plan l entries) where
  abbrev fields : Fields
  fields = fields_in plan l

  -- whether the next entry fits
  room_is : (lowest : Bool) (last : List Entry) (entry : Entry)
      → fits_more (packing_of fields l lowest last) (size_of_record fields entry) ≡ has_room_for fields last entry
  room_is lowest last entry =
      (laws.pushes fields l (lowest_mark lowest) last entry).fits
      ∙ rw (length_push last entry, sum_by_push (size_of_record fields) last entry) refl

  packing_more : (packing : Packing) (lowest mark : Bool) (last : List Entry) (entry : Entry)
      → packing ≡ packing_of fields l lowest last → mark ≡ (lowest && (length last == 0))
      → with_record packing fields entry mark ≡ packing_of fields l lowest (last ++ entry ∷ [])
  packing_more packing lowest mark last entry packed marked =
      ap (λ (p : Packing). with_record p fields entry mark) packed
      ∙ ap (with_record (packing_of fields l lowest last) fields entry) marked
      ∙ (laws.pushes fields l (lowest_mark lowest) last entry).more

  module _ {T : Type 0} (g : StoreOf T) (old : T) where
    pub stands_start : Stands g plan l old old (none_packed l) entries (0 ∷ []) 0
    stands_start = record {
      closed = [];
      last = [];
      divides = (laws.goes fields).start;
      packed = (laws.pushes fields l (lowest_mark (is_lowest_first (is_leaf l) true)) [] []).none;
      put = subst (ArePut g old old) (sym (none_laid plan l)) (none_put g old);
      begins = record { count = refl; each = λ k inside some. absurd (no_entry k some) };
      fresh = λ is. (refl, refl, refl);
      filled = λ some. absurd (omega arith);
    }

    -- what is known where these entries stand so
    module _ (now : T) (packing : Packing) (starts : List ℕ) (k : ℕ)
        (stands : Stands g plan l old now packing entries starts k) where
      abbrev closed : Level
      closed = stands.closed

      abbrev last : List Entry
      last = stands.last

      pub fits_is : (entry : Entry) → fits_more packing (size_of_record fields entry) ≡ has_room_for fields last entry
      fits_is entry =
          ap (λ (p : Packing). fits_more p (size_of_record fields entry)) stands.packed
          ∙ room_is (is_lowest_first (is_leaf l) (length closed == 0)) last entry

      pub page_within : length closed < width_in plan l
      page_within =
          let more = longer fields (laws.goes fields) (take k entries) (drop k entries) closed last stands.divides in
          let all = ap (λ xs. length (divided fields xs)) (take-append-drop k entries) in
          let width = can.width in
          omega arith

      pub starts_some : 0 < length starts
      starts_some = let count = stands.begins.count in let size = length_push closed last in omega arith

      pub starts_within : length starts ≤ width_in plan l
      starts_within =
          let count = stands.begins.count in
          let size = length_push closed last in
          let within = page_within in
          omega arith

      pub page_there : HasPage plan l (length starts - 1)
      page_there =
          let some = starts_some in
          let within = starts_within in
          record { inside = can.inside; within = omega arith }

      pub place_is : length starts - 1 ≡ length closed
      place_is = let count = stands.begins.count in let size = length_push closed last in omega arith

      -- the page that is packed
      abbrev page_here : Numbered
      page_here = open_page plan l packing starts

      page_is : page_here ≡ laid_page plan l (length closed) last
      page_is =
          ap (λ (n : ℕ). (number_in plan l n, page_at_spot packing (spot_in plan l n))) place_is
          ∙ ap (λ (p : Packing). (number_in plan l (length closed), page_at_spot p (spot_in plan l (length closed))))
          stands.packed

      -- it is put
      page_put : (new : T) → ArePut g now new (page_here ∷ [])
          → ArePut g old new (laid_pages plan l (closed ++ last ∷ []))
      page_put new put =
          let page = laid_page plan l (length closed) last in
          subst (ArePut g old new) (sym (laid_push plan l closed last))
          (both_put g old now new (laid_pages plan l closed) (page ∷ [])
          (page_differs laws plan can.is_plan l closed page.1 can.inside page_within) stands.put
          (subst (λ page. ArePut g now new (page ∷ [])) page_is put))

      -- it couldn't be put, or memory ran out before
      few_closed : length closed < length (divided fields entries)
      few_closed = let width = can.width in let within = page_within in omega arith

      pub stopped : {A B : Type 0} (new : T) (stop : PutStop)
          → PutsPages {A = A} g now new (page_here ∷ []) (Err stop)
          → PutsPages {A = B} g old new (laid_pages plan l (divided fields entries)) (Err stop)
      stopped new stop puts =
          let few = few_closed in
          let place = place_is in
          stopped_behind g old now new (laid_pages plan l closed) (page_here ∷ [])
          (laid_pages plan l (divided fields entries)) stop
          (laid_among plan l closed (divided fields entries) (omega arith))
          (page_among plan l (length starts - 1) page_here.1 (divided fields entries) (omega arith)) stands.put puts

      pub no_memory : {A : Type 0}
          → PutsPages {A = A} g old now (laid_pages plan l (divided fields entries)) (Err stops.Memory)
      no_memory =
          let few = few_closed in
          memory_behind g old now (laid_pages plan l closed) (laid_pages plan l (divided fields entries))
          (laid_among plan l closed (divided fields entries) (omega arith)) stands.put

      -- all entries came
      pub all_divided : length entries ≤ k → divided fields entries ≡ closed ++ last ∷ []
      all_divided all = ap (divided fields) (sym (take_all k entries all)) ∙ stands.divides

      pub level_put : (new : T) → length entries ≤ k → ArePut g now new (page_here ∷ [])
          → ArePut g old new (laid_pages plan l (divided fields entries))
      level_put new all put =
          subst (λ pages. ArePut g old new (laid_pages plan l pages)) (sym (all_divided all)) (page_put new put)

      -- one more entry comes
      module _ (below : k < length entries) where
        abbrev entry : Entry
        entry = get_or entries k []

        abbrev IsNext : Bool → Type 0
        IsNext room =
            divided fields (take (k + 1) entries)
            ≡ cond room (closed ++ (last ++ entry ∷ []) ∷ []) ((closed ++ last ∷ []) ++ (entry ∷ []) ∷ [])

        next_divides : IsNext (has_room_for fields last entry)
        next_divides =
            ap (divided fields) (take_more entries k [] below)
            ∙ (laws.goes fields).more (take k entries) closed last entry stands.divides

        -- on the same page
        pub stands_kept : (mark : Bool) → mark ≡ (not (l == 0) && (k == 0)) → has_room_for fields last entry ≡ true
            → Stands g plan l old now (with_record packing fields entry mark) entries starts (k + 1)
        stands_kept mark marked room =
            let size = length_push last entry in
            let place = place_is in record {
              closed = closed;
              last = last ++ entry ∷ [];
              divides = subst IsNext room next_divides;
              packed = packing_more packing (is_lowest_first (is_leaf l) (length closed == 0)) mark last entry
                  stands.packed
                  (marked ∙ mark_more l k (length closed) (length last)
                  (λ first. let none = stands.fresh first in (none.0, none.1)) stands.filled);
              put = stands.put;
              begins = begins_more entries closed last starts k stands.begins begins_here below;
              fresh = λ none. absurd (omega arith);
              filled = λ some. omega arith;
            }
          where
            begins_here : length last ≡ 0 → slice_index starts (length closed) ≡ k
            begins_here none =
                elim (eqb_tells k 0) [
                  | inl first ↦
                      let fresh = stands.fresh first.1 in
                      ap (slice_index starts) fresh.0 ∙ fresh.2 ∙ sym first.1
                  | inr later ↦
                      let no = later.1 in
                      let some = stands.filled (omega arith) in
                      absurd (omega arith)
                ]

        -- on the next page
        fits_first : length last ≡ 0 → has_room_for fields last entry ≡ true
        fits_first none =
            let e : 0 + size_of_record fields entry ≡ size_of_record fields entry = omega arith in
            let alone : FitsAlone fields entry = can.alone k [] below in
            let room : has_room_for fields [] entry ≡ true = rw e alone in
            subst (λ page. has_room_for fields page entry ≡ true) (sym (empty_page last none)) room

        pub turns_later : has_room_for fields last entry ≡ false → 0 < k
        turns_later none =
            elim (eqb_tells k 0) [
              | inl first ↦ absurd (true≢false (sym (fits_first (stands.fresh first.1).1) ∙ none))
              | inr later ↦ let no = later.1 in omega arith
            ]

        pub stands_turned : (new : T) (mark : Bool) → mark ≡ (not (l == 0) && (k == 0))
            → has_room_for fields last entry ≡ false → ArePut g now new (page_here ∷ [])
            → Stands g plan l old new (with_record (none_packed l) fields entry mark) entries (starts ++ k ∷ []) (k + 1)
        stands_turned new mark marked none put =
            let later = turns_later none in
            let size = length_push closed last in
            let lowest : Bool = is_lowest_first (is_leaf l) (length (closed ++ last ∷ []) == 0) in record {
              closed = closed ++ last ∷ [];
              last = entry ∷ [];
              divides = subst IsNext none next_divides;
              packed = packing_more (none_packed l) lowest mark [] entry
                  (laws.pushes fields l (lowest_mark lowest) [] []).none
                  (marked ∙ no_mark_here later (omega arith));
              put = page_put new put;
              begins = begins_turn entries (closed ++ last ∷ []) starts k stands.begins below;
              fresh = λ first. absurd (omega arith);
              filled = λ some. omega arith;
            }
          where
            no_mark_here : 0 < k → 0 < length (closed ++ last ∷ [])
                → (not (l == 0) && (k == 0))
                ≡ (is_lowest_first (is_leaf l) (length (closed ++ last ∷ []) == 0) && true)
            no_mark_here later some =
                rw (ne_eqb k 0 (λ e. omega arith), ne_eqb (length (closed ++ last ∷ [])) 0 (λ e. omega arith))
                (no_mark_behind (not (l == 0)) (not (l == 0)))

        -- on either
        abbrev room_here : Bool
        room_here = fits_more packing (size_of_record fields entry)

        pub stands_next : (new : T) (next : Packing) (more : List ℕ) (mark : Bool)
            → mark ≡ (not (l == 0) && (k == 0))
            → MakesRoom g plan l k room_here now new packing next starts more (Ok tt)
            → Stands g plan l old new (with_record next fields entry mark) entries more (k + 1)
        stands_next new next more mark marked made =
            elim room_here as (λ room. room_here ≡ room → MakesRoom g plan l k room now new packing next starts more
            (Ok tt)
            → Stands g plan l old new (with_record next fields entry mark) entries more (k + 1)) [
              | true ↦ λ room made.
                  subst (λ (new : T). Stands g plan l old new (with_record next fields entry mark) entries more (k + 1))
                  (sym made.store)
                  (subst (λ (p : Packing). Stands g plan l old now (with_record p fields entry mark) entries more
                  (k + 1))
                  (sym made.packed)
                  (subst (λ (xs : List ℕ). Stands g plan l old now (with_record packing fields entry mark) entries xs
                  (k + 1)) (sym made.begins) (stands_kept mark marked (sym (fits_is entry) ∙ room))))
              | false ↦ λ room made.
                  subst (λ (p : Packing). Stands g plan l old new (with_record p fields entry mark) entries more
                  (k + 1))
                  (sym made.packed)
                  (subst (λ (xs : List ℕ). Stands g plan l old new (with_record (none_packed l) fields entry mark)
                  entries
                  xs (k + 1)) (sym made.begins)
                  (stands_turned new mark marked (sym (fits_is entry) ∙ room)
                  (all_put g now new (page_here ∷ []) tt made.puts)))
            ] refl made
