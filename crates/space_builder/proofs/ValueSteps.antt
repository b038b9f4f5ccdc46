-- The pages of values are put field by field, and row by row.
use Rattle.std.proofs.Common.{◌≡◌, ℕ, ◌+◌, ◌<◌, ◌++◌, List, [], ◌∷◌, length, map, sum, slice_index, Ok, Err}
use Rattle.std.proofs.Common.{sym, ap, ◌∙◌, subst, arith, append_assoc, append-nil}
use Rattle.std.specs.List.{flat_map, range_with_len}
use Rattle.std.proofs.lemmas.List.{length-map}
use Rattle.page_source.specs.declared.objects.PageStore.{Ghosts as StoreOf}
use Rattle.page_source.specs.Objects.{Store}
use Rattle.offpage_chain.specs.ValuePage.{pages_for}
use Rattle.schema_text.specs.declared.table.Format.{Format}
use Rattle.space_layout.specs.Numbers.{segment_page}
use Rattle.space_layout.specs.NumberedPages.{Numbered}
use Rattle.space_layout.specs.ValuePlaces.{pages_before_row, pages_before_field}
use Rattle.space_layout.proofs.Parts.{rows_none}
use Rattle.row_layout.specs.StoredRow.{Stored, stored_at}
use Rattle.row_layout.specs.HoldsValues.{pages_of_stored, stored_in}
use Rattle.space_builder.specs.declared.built.PutStop.{PutStop}
use Rattle.space_builder.specs.layout.ValuePage.{page_counts, pages_of_bytes, pages_of_field, pages_of_row}
use Rattle.space_builder.specs.layout.ValuePage.{pages_of_values}
use Rattle.space_builder.specs.build.Puts.{HaveOnePage, PutsPages}
use Rattle.space_builder.specs.calls.Room.{TakesPages, HasLeafPages, TakesRow, TakesValues, gone_bytes, row_counts}
use Rattle.space_builder.specs.calls.Room.{row_number, row_pages, first_page}
use Rattle.space_builder.specs.calls.Room.{number_behind, pages_behind}
use Rattle.space_builder.proofs.Puts.{ArePut, none_put, all_put, puts_all}
use Rattle.space_builder.proofs.PutSteps.{next_put, next_failed, some_next, some_one}
use Rattle.space_builder.proofs.ValuePuts.{field_pages, field_count_is, count_at, counts_at, row_number_is, takes_still}
use Rattle.space_builder.proofs.ValuePuts.{before_none, before_more, before_all, before_room, first_more}
use Rattle.space_builder.proofs.ValuePuts.{rows_more, rows_room}

-- the fields of a row, whose pages stand from a place on
module _ {T : Type 0} (g : StoreOf T) (format : Format) (sizes : List ℕ) (at : ℕ) (row : List Stored) where
  abbrev counts : List ℕ
  counts = row_counts format row

  abbrev field_list : ℕ → List Numbered
  field_list i = pages_of_field format (row_number sizes at counts i) (stored_at row i)

  abbrev first_of : ℕ → ℕ
  first_of i = first_page (row_number sizes at counts i) (pages_of_stored format (stored_at row i))

  -- those before field i are put
  pub record FieldsPut (old now : T) (i next : ℕ) (before firsts : List ℕ) : Type 0 where
    pub put : ArePut g old now (flat_map field_list (range_with_len 0 i))
    pub place : next ≡ at + pages_before_field counts i
    pub first : firsts ≡ before ++ map first_of (range_with_len 0 i)

  pub fields_none : (old : T) (before : List ℕ) → FieldsPut old old 0 at before before
  fields_none old before = record {
    put = none_put g old;
    place = let none = before_none counts in omega arith;
    first = sym (append-nil before);
  }

  count_is : (i : ℕ) → i < length row
      → slice_index counts i ≡ pages_for (length (gone_bytes format (stored_at row i)))
  count_is i inside = count_at format row i inside ∙ field_count_is format (stored_at row i)

  pub field_has : (store : Store) → TakesRow store format sizes at row → (old now : T) (i next : ℕ)
      (before firsts : List ℕ) → i < length row → FieldsPut old now i next before firsts
      → HasLeafPages sizes (next + pages_for (length (gone_bytes format (stored_at row i))))
  field_has store takes old now i next before firsts inside put =
      let long = length-map row (pages_of_stored format) in
      let room = before_room counts i (omega arith) in
      let count = count_is i inside in
      let place = put.place in
      let has = takes.has.pages in
      record { segment = takes.has.segment; pages = omega arith }

  pub field_takes : (old now : T) (i next : ℕ) (before firsts : List ℕ) → TakesRow (g.told old) format sizes at row
      → FieldsPut old now i next before firsts → TakesPages (g.told now) sizes
  field_takes old now i next before firsts takes put =
      takes_still (g.told old) (g.told now) sizes put.put.others.sizes.size takes.takes

  -- the pages of field i, by its bytes
  pages_are : (i next : ℕ) → next ≡ at + pages_before_field counts i
      → pages_of_bytes (λ k. segment_page sizes 1 (next + k)) (gone_bytes format (stored_at row i)) ≡ field_list i
  pages_are i next place =
      ap (λ (n : ℕ). pages_of_bytes (λ k. segment_page sizes 1 (n + k)) (gone_bytes format (stored_at row i))) place
      ∙ sym (field_pages format (row_number sizes at counts i) (stored_at row i))

  pub fields_more : (old now new : T) (i next next' : ℕ) (before firsts firsts' : List ℕ)
      → HaveOnePage (row_pages format sizes at row) → i < length row → FieldsPut old now i next before firsts
      → PutsPages g now new (pages_of_bytes (λ k. segment_page sizes 1 (next + k))
      (gone_bytes format (stored_at row i)))
      (Ok next')
      → next' ≡ next + pages_for (length (gone_bytes format (stored_at row i)))
      → firsts' ≡ firsts ++ first_page (λ k. segment_page sizes 1 (next + k))
      (pages_for (length (gone_bytes format (stored_at row i)))) ∷ []
      → FieldsPut old new (i + 1) next' before firsts'
  fields_more old now new i next next' before firsts firsts' one inside put puts place first =
      let long = length-map row (pages_of_stored format) in
      let more = before_more counts i (omega arith) in
      let count = count_is i inside in
      let here = put.place in record {
        put = next_put g field_list (length row) one old now new i inside put.put
            (all_put g now new (field_list i) next' (subst (λ (pages : List Numbered). PutsPages g now new pages
            (Ok next'))
            (pages_are i next here) puts));
        place = omega arith;
        first =
            first
            ∙ ap (λ (n : ℕ). firsts ++ first_page (λ k. segment_page sizes 1 (n + k))
            (pages_for (length (gone_bytes format (stored_at row i)))) ∷ []) here
            ∙ ap (λ (n : ℕ). firsts ++ first_page (row_number sizes at counts i) n ∷ [])
            (sym (field_count_is format (stored_at row i)))
            ∙ ap (λ (ns : List ℕ). ns ++ first_of i ∷ []) put.first
            ∙ append_assoc before (map first_of (range_with_len 0 i)) (first_of i ∷ [])
            ∙ ap (λ (ns : List ℕ). before ++ ns) (sym (first_more format (row_number sizes at counts) row i));
      }

  pub field_failed : {A B : Type 0} (old now new : T) (i next : ℕ) (before firsts : List ℕ) (stop : PutStop)
      → i < length row → FieldsPut old now i next before firsts
      → PutsPages {A = A} g now new
      (pages_of_bytes (λ k. segment_page sizes 1 (next + k)) (gone_bytes format (stored_at row i))) (Err stop)
      → PutsPages {A = B} g old new (row_pages format sizes at row) (Err stop)
  field_failed {A} {B} old now new i next before firsts stop inside put puts =
      next_failed g field_list (length row) {A = A} {B = B} old now new i stop inside put.put
      (subst (λ (pages : List Numbered). PutsPages {A = A} g now new pages (Err stop)) (pages_are i next put.place)
      puts)

  pub fields_all : {A : Type 0} (old now : T) (next : ℕ) (before firsts : List ℕ) (a : A)
      → FieldsPut old now (length row) next before firsts → PutsPages g old now (row_pages format sizes at row) (Ok a)
  fields_all old now next before firsts a put = puts_all g old now (row_pages format sizes at row) a put.put

  pub fields_place : (old now : T) (next : ℕ) (before firsts : List ℕ)
      → FieldsPut old now (length row) next before firsts → next ≡ at + sum counts
  fields_place old now next before firsts put =
      let long = length-map row (pages_of_stored format) in
      put.place ∙ ap (λ (n : ℕ). at + pages_before_field counts n) (sym long)
      ∙ ap (λ (n : ℕ). at + n) (before_all counts)

-- the rows
module _ {T : Type 0} (g : StoreOf T) (format : Format) (sizes : List ℕ) (leaves : ℕ) (rows : List (List Stored)) where
  abbrev row_list : ℕ → List Numbered
  row_list r = pages_of_row format (number_behind format sizes leaves rows r) (stored_in rows r)

  pub record RowsPut (old now : T) (r next : ℕ) : Type 0 where
    pub put : ArePut g old now (flat_map row_list (range_with_len 0 r))
    pub place : next ≡ leaves + pages_before_row (page_counts format rows) r

  pub rows_start : (old : T) → RowsPut old old 0 leaves
  rows_start old = record {
    put = none_put g old;
    place = let none = rows_none (page_counts format rows) in omega arith;
  }

  row_pages_are : (r next : ℕ) → r < length rows → next ≡ leaves + pages_before_row (page_counts format rows) r
      → row_pages format sizes next (stored_in rows r) ≡ row_list r
  row_pages_are r next inside place =
      ap (λ (number : ℕ → ℕ → ℕ). pages_of_row format number (stored_in rows r))
      (row_number_is format sizes leaves rows r next inside place)

  one_row : HaveOnePage (pages_behind format sizes leaves rows) → (r : ℕ) → r < length rows → HaveOnePage (row_list r)
  unfolding pages_of_values
  one_row one r inside =
      some_one (row_list r) (pages_behind format sizes leaves rows) (some_next g row_list (length rows) r inside) one

  pub row_takes : (old now : T) (r next : ℕ) → TakesValues (g.told old) format sizes leaves rows
      → r < length rows → RowsPut old now r next → TakesRow (g.told now) format sizes next (stored_in rows r)
  row_takes old now r next takes inside put =
      let long = length-map rows (λ (row : List Stored). map (pages_of_stored format) row) in
      let room = rows_room (page_counts format rows) r (omega arith) in
      let counts = ap (λ (ns : List ℕ). sum ns) (counts_at format rows r inside) in
      let place = put.place in
      let has = takes.has.pages in
      record {
        takes = takes_still (g.told old) (g.told now) sizes put.put.others.sizes.size takes.takes;
        has = record { segment = takes.has.segment; pages = omega arith };
        one = subst HaveOnePage (sym (row_pages_are r next inside put.place)) (one_row takes.one r inside);
      }

  pub rows_next : (old now new : T) (r next next' : ℕ)
      → HaveOnePage (pages_behind format sizes leaves rows) → r < length rows → RowsPut old now r next
      → PutsPages g now new (row_pages format sizes next (stored_in rows r)) (Ok next')
      → next' ≡ next + sum (row_counts format (stored_in rows r)) → RowsPut old new (r + 1) next'
  unfolding pages_of_values
  rows_next old now new r next next' one inside put puts place =
      let long = length-map rows (λ (row : List Stored). map (pages_of_stored format) row) in
      let more = rows_more (page_counts format rows) r (omega arith) in
      let counts = ap (λ (ns : List ℕ). sum ns) (counts_at format rows r inside) in
      let here = put.place in record {
        put = next_put g row_list (length rows) one old now new r inside put.put
            (all_put g now new (row_list r) next' (subst (λ (pages : List Numbered). PutsPages g now new pages
            (Ok next'))
            (row_pages_are r next inside here) puts));
        place = omega arith;
      }

  pub row_failed : {A B : Type 0} (old now new : T) (r next : ℕ) (stop : PutStop) → r < length rows
      → RowsPut old now r next
      → PutsPages {A = A} g now new (row_pages format sizes next (stored_in rows r)) (Err stop)
      → PutsPages {A = B} g old new (pages_behind format sizes leaves rows) (Err stop)
  unfolding pages_of_values
  row_failed {A} {B} old now new r next stop inside put puts =
      next_failed g row_list (length rows) {A = A} {B = B} old now new r stop inside put.put
      (subst (λ (pages : List Numbered). PutsPages {A = A} g now new pages (Err stop))
      (row_pages_are r next inside put.place) puts)

  pub rows_all : {A : Type 0} (old now : T) (next : ℕ) (a : A)
      → RowsPut old now (length rows) next → PutsPages g old now (pages_behind format sizes leaves rows) (Ok a)
  unfolding pages_of_values
  rows_all old now next a put = puts_all g old now (pages_behind format sizes leaves rows) a put.put
