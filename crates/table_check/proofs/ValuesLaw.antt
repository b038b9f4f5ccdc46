-- The checks of a record's values find nothing exactly where each value is sound and its pages are new.
use Rattle.std.proofs.Common.{◌≡◌, ℕ, ◌+◌, ◌<◌, ◌≤◌, Bool, true, false, not, ◌&&◌, List, [], ◌∷◌, ◌++◌}
use Rattle.std.proofs.Common.{length, take, get_or, flat_map, All, None, refl, sym, ap, ◌∙◌, subst, inl, inr, arith}
use Rattle.std.proofs.lemmas.Bool.{true≢false, eq-eqb, cases_lt}
use Rattle.std.proofs.lemmas.List.{append-nil, take_more, take_all}
use Rattle.std.proofs.lemmas.List.Elements.{All-contains}
use Rattle.std.proofs.lemmas.Grind.{flat_map-append}
use Rattle.page_source.specs.Lists.{AreDistinct, times_in}
use Rattle.page_source.proofs.Members.{distinct_none, distinct_cons, all_members}
use Rattle.page_source.proofs.Times.{times_cons, times_once, times_some, contains_times}
use Rattle.column_values.specs.declared.kind.ColumnType.{ColumnType}
use Rattle.column_values.specs.declared.field.FieldType.{FieldType}
use Rattle.column_values.specs.declared.field.FieldType.TheVariants.{Column, RowId, TrxId, RollPointer, Child}
use Rattle.column_values.specs.Types.{Fields, field_at}
use Rattle.column_values.specs.Characters.{IsTextOfKind}
use Rattle.column_values.specs.Spell.{IsSpelling}
use Rattle.compact_record.specs.declared.places.Place.{Place}
use Rattle.compact_record.specs.Reading.{place_of, field_count}
use Rattle.space_header.specs.Header.{size_of}
use Rattle.space_audit.specs.Marks.{seen}
use Rattle.offpage_chain.specs.Reference.{reference_of}
use Rattle.offpage_chain.specs.Chain.{bytes_on, chain_pages}
use Rattle.offpage_chain.specs.ChainChecks.{IsWhole}
use Rattle.offpage_chain.specs.Laws.{HasOneChain, ChecksAreWhole}
use Rattle.tree_walk.specs.Index.{Index, Row, no_row, page_in}
use Rattle.tree_walk.specs.Segments.{leaf_segment}
use Rattle.tree_walk.specs.Laws.{ComeOnce}
use Rattle.table_check.specs.Values.{FitsKind, ValueChecks, FieldChecks, RecordChecks, RecordChecksBy, RowChecks}
use Rattle.table_check.specs.Values.{front_of}
use Rattle.table_check.specs.Values.{bytes_at, pages_of_value, pages_of_field, pages_of_part, pages_of_record}
use Rattle.table_check.specs.Values.{pages_of_row, pages_of_rows, live_rows}
use Rattle.table_check.specs.Valid.{IsSoundLongValue, IsSoundField, IsSoundRow}
use Rattle.table_check.proofs.RecordSteps.{part_more}
use Rattle.table_check.proofs.NewPages.{AreNew, none_new, times_here, all_new, each_new}

-- the laws of chains
pub record HasChainLaws : Type 0 where
  pub one : HasOneChain
  pub whole : ChecksAreWhole

-- no number comes twice where the members differ
come_once : (xs : List ℕ) → AreDistinct xs → ComeOnce xs
come_once xs d n = elim (cases_lt 0 (times_in xs n)) [
  | inl some ↦ let e = times_once xs n d (contains_times xs n some) in omega arith
  | inr none ↦ omega arith
]

-- and members differ where no number comes twice
pub are_distinct : (xs : List ℕ) → ComeOnce xs → AreDistinct xs
are_distinct [] once = distinct_none
are_distinct (x ∷ xs) once =
    distinct_cons x xs
    (λ c. let s = times_some xs x c in let t = times_here x xs x (eq-eqb x x refl) in let o = once x in
    absurd (omega arith))
    (are_distinct xs (λ n. let t = times_cons x xs n in let o = once n in omega arith))

-- pages are new where they differ and none was taken
pages_new : (taken : ℕ → Bool) (pages : List ℕ) → AreDistinct pages → All (λ n. taken n ≡ false) pages
    → AreNew taken pages
pages_new taken pages d all = record {
  once = come_once pages d;
  fresh = λ n s. All-contains (λ n. taken n ≡ false) pages n all (contains_times pages n (omega arith));
}

-- none of new pages was taken
all_untaken : (taken : ℕ → Bool) (pages : List ℕ) → AreNew taken pages → All (λ n. taken n ≡ false) pages
all_untaken taken pages h =
    all_members (λ n. taken n ≡ false) pages (λ n c. let s = times_some pages n c in h.fresh n (omega arith))

module _ (laws : HasChainLaws) (file : List ℕ) (size : size_of file ≤ 4194304) (segment leaf : ℕ) where
  module _ (kind : ColumnType) (local : List ℕ) (taken : ℕ → Bool) where
    -- a chain of new pages whose bytes are a text behind the local ones
    abbrev IsWholeBehind : Type 0
    IsWholeBehind =
        IsWhole file segment (reference_of local) taken (λ bytes. IsTextOfKind kind (front_of local ++ bytes))

    -- a value that goes on in such a chain is sound
    long_value : FitsKind kind local → IsWholeBehind → IsSoundLongValue file segment kind local
    long_value fits w = record {
      fits = fits;
      value = front_of local ++ bytes_on file w.pages;
      whole = record { pages = w.pages; chain = w.chain; is = refl };
      text = w.text;
    }

    -- its pages are new
    long_new : IsWholeBehind → AreNew taken (chain_pages file (reference_of local))
    long_new w =
        subst (AreNew taken) (laws.one file segment (reference_of local) w.pages size w.chain)
        (pages_new taken w.pages w.distinct w.new)

    -- a sound value with new pages is a whole one behind what was taken
    long_whole : IsSoundLongValue file segment kind local → AreNew taken (chain_pages file (reference_of local))
        → IsWholeBehind
    long_whole s n =
        let pages = s.whole.pages in
        let new = subst (AreNew taken) (sym (laws.one file segment (reference_of local) pages size s.whole.chain)) n in
        record {
          pages = pages;
          chain = s.whole.chain;
          distinct = are_distinct pages new.once;
          new = all_untaken taken pages new;
          text = subst (IsTextOfKind kind) s.whole.is s.text;
        }

    -- the checks of a value that isn't null
    abbrev Checks : Bool → Type 0
    Checks external = ValueChecks file segment leaf kind local external taken None

    -- the chain of a value whose checks hold
    is_whole : Checks true → IsWholeBehind
    is_whole c = (laws.whole file segment leaf (reference_of local) taken kind (front_of local) size).0 c.1

    -- where its checks hold, its pages are new
    value_new : (null external : Bool) → (null ≡ false → Checks external)
        → AreNew taken (pages_of_value file local (not null && external))
    value_new true external c = none_new taken
    value_new false false c = none_new taken
    value_new false true c = long_new (is_whole (c refl))

    -- it is spelled on its leaf
    value_local : (external : Bool) → external ≡ false → Checks external → IsSpelling kind local
    value_local false e c = c
    value_local true e c = absurd (true≢false e)

    -- or goes on elsewhere, and is sound
    value_long : (external : Bool) → external ≡ true → Checks external → IsSoundLongValue file segment kind local
    value_long false e c = absurd (true≢false (sym e))
    value_long true e c = long_value c.0 (is_whole c)

    -- and back
    value_checks : (null external : Bool) → (null ≡ false → external ≡ false → IsSpelling kind local)
        → (null ≡ false → external ≡ true → IsSoundLongValue file segment kind local)
        → AreNew taken (pages_of_value file local (not null && external)) → null ≡ false → Checks external
    value_checks true external spelled long new e = absurd (true≢false e)
    value_checks false false spelled long new e = spelled refl refl
    value_checks false true spelled long new e =
        let s = long refl refl in
        let whole = long_whole s new in
        (s.fits, (laws.whole file segment leaf (reference_of local) taken kind (front_of local) size).1 whole)

  -- a field, of a column or one of the server's own
  module _ (page : List ℕ) (place : Place) (taken : ℕ → Bool) where
    -- where its checks hold, it is sound
    field_sound : (kind : FieldType) → FieldChecks file segment leaf kind page place taken None
        → IsSoundField file segment kind page place
    field_sound (Column kind) c = record {
      local = λ e x. value_local kind (bytes_at page place) taken place.external x (c e);
      external = λ e x. value_long kind (bytes_at page place) taken place.external x (c e);
    }
    field_sound RowId c = tt
    field_sound TrxId c = tt
    field_sound RollPointer c = tt
    field_sound Child c = tt

    -- and its pages are new
    field_new : (kind : FieldType) → FieldChecks file segment leaf kind page place taken None
        → AreNew taken (pages_of_field file kind page place)
    field_new (Column kind) c = value_new kind (bytes_at page place) taken place.null place.external c
    field_new RowId c = none_new taken
    field_new TrxId c = none_new taken
    field_new RollPointer c = none_new taken
    field_new Child c = none_new taken

    -- and back
    field_checks : (kind : FieldType) → IsSoundField file segment kind page place
        → AreNew taken (pages_of_field file kind page place) → FieldChecks file segment leaf kind page place taken None
    field_checks (Column kind) s new =
        value_checks kind (bytes_at page place) taken place.null place.external s.local s.external new
    field_checks RowId s new = tt
    field_checks TrxId s new = tt
    field_checks RollPointer s new = tt
    field_checks Child s new = tt

  -- the fields of a record
  module _ (page : List ℕ) (origin : ℕ) (fields : Fields) (taken : ℕ → Bool) where
    -- each field is sound
    abbrev SoundFields : Type 0
    SoundFields = (i : ℕ) → i < field_count fields
        → IsSoundField file segment (field_at fields i).kind page (place_of page origin fields i)

    -- the pages of the first fields, and of one
    abbrev part : ℕ → List ℕ
    part = pages_of_part file page origin fields

    abbrev piece : ℕ → List ℕ
    piece i = pages_of_field file (field_at fields i).kind page (place_of page origin fields i)

    -- the pages of one field more
    more : (k : ℕ) → k < field_count fields → part (k + 1) ≡ part k ++ piece k
    more k h = part_more file page origin fields k

    -- where the checks of a record hold, each field is sound
    pub record_sound : RecordChecks file segment leaf page origin fields taken None → SoundFields
    unfolding RecordChecksBy
    record_sound c i h =
        field_sound page (place_of page origin fields i) (seen taken (part i)) (field_at fields i).kind (c i h)

    -- and its pages are new
    pub record_new : RecordChecks file segment leaf page origin fields taken None
        → AreNew taken (pages_of_record file page origin fields)
    unfolding RecordChecksBy pages_of_record
    record_new c =
        all_new taken part piece (field_count fields) refl more
        (λ i h. field_new page (place_of page origin fields i) (seen taken (part i)) (field_at fields i).kind (c i h))

    -- and back
    pub record_checks : SoundFields → AreNew taken (pages_of_record file page origin fields)
        → RecordChecks file segment leaf page origin fields taken None
    unfolding RecordChecksBy pages_of_record
    record_checks sound new i h =
        field_checks page (place_of page origin fields i) (seen taken (part i)) (field_at fields i).kind (sound i h)
        (each_new taken part piece (field_count fields) refl more new i h)

-- the rows of an index
module _ (laws : HasChainLaws) (index : Index) (size : size_of index.file ≤ 4194304) (taken : ℕ → Bool) where
  abbrev rows : List Row
  rows = live_rows index

  -- the pages of the first rows
  abbrev front : ℕ → List ℕ
  front k = pages_of_rows index (take k rows)

  -- no row has no pages
  front_none : front 0 ≡ []
  unfolding pages_of_rows
  front_none = refl

  -- the pages of one row more
  front_more : (d : Row) (k : ℕ) → k < length rows → front (k + 1) ≡ front k ++ pages_of_row index (get_or rows k d)
  unfolding pages_of_rows
  front_more d k h =
      ap (flat_map (pages_of_row index)) (take_more rows k d h)
      ∙ flat_map-append (pages_of_row index) (take k rows) (get_or rows k d ∷ [])
      ∙ ap (λ (rest : List ℕ). flat_map (pages_of_row index) (take k rows) ++ rest)
      (append-nil (pages_of_row index (get_or rows k d)))

  -- the first rows, as many as there are, are all of them
  front_all : front (length rows) ≡ pages_of_rows index rows
  front_all = ap (pages_of_rows index) (take_all (length rows) rows (omega arith))

  -- where the checks of all rows hold, each row is sound
  pub rows_sound : RowChecks index taken None → All (IsSoundRow index) rows
  rows_sound c k d h =
      let row = get_or rows k d in
      record_sound laws index.file size (leaf_segment index) row.page (page_in index row.page) row.origin index.leaf
      (seen taken (front k)) (c k d h)

  -- and the pages of all values are new
  pub rows_new : RowChecks index taken None → AreNew taken (pages_of_rows index rows)
  rows_new c =
      subst (AreNew taken) front_all
      (all_new taken front (λ k. pages_of_row index (get_or rows k no_row)) (length rows) front_none
      (front_more no_row)
      (λ k h. let row = get_or rows k no_row in
      record_new laws index.file size (leaf_segment index) row.page (page_in index row.page) row.origin index.leaf
      (seen taken (front k)) (c k no_row h)))

  -- and back
  pub rows_checks : All (IsSoundRow index) rows → AreNew taken (pages_of_rows index rows) → RowChecks index taken None
  rows_checks sound new k d h =
      let row = get_or rows k d in
      record_checks laws index.file size (leaf_segment index) row.page (page_in index row.page) row.origin index.leaf
      (seen taken (front k)) (sound k d h)
      (each_new taken front (λ k. pages_of_row index (get_or rows k d)) (length rows) front_none (front_more d)
      (subst (AreNew taken) (sym front_all) new) k h)
