-- No check of a column in a sound file is broken where its pages weren't looked at before.
use Rattle.std.proofs.Common.{◌≡◌, ℕ, zero, suc, ◌-◌, ◌<◌, ◌&&◌, not, Bool, false, List, [], ◌∷◌, length, take, get_or}
use Rattle.std.proofs.Common.{All, Contains, Option, Some, None, refl, sym, ap, ◌∙◌, subst, arith}
use Rattle.std.specs.List.{AllZip}
use Rattle.std.proofs.lemmas.List.Elements.{All-contains}
use Rattle.page_source.specs.Pages.{page_of}
use Rattle.page_source.specs.Lists.{AreDistinct, before_place}
use Rattle.page_source.proofs.Unique.{IsUnique, some_is_not_none}
use Rattle.column_values.specs.declared.kind.ColumnType.{ColumnType}
use Rattle.column_values.specs.declared.field.FieldType.{FieldType}
use Rattle.column_values.specs.declared.field.FieldType.TheVariants.{Column}
use Rattle.column_values.specs.declared.value.Value.{Value}
use Rattle.column_values.specs.declared.value.Value.TheVariants.{Null}
use Rattle.column_values.specs.Characters.{IsTextOfKind}
use Rattle.compact_record.specs.declared.places.Place.{Place}
use Rattle.compact_record.specs.Reading.{place_of}
use Rattle.fil_frame.specs.Frame.{IsFramed, space_of}
use Rattle.space_audit.specs.Audit.{IsSoundSpace}
use Rattle.space_audit.specs.Marks.{seen}
use Rattle.space_audit.proofs.OwnerFacts.{used_by}
use Rattle.offpage_chain.specs.Reference.{reference_of}
use Rattle.offpage_chain.specs.Chain.{chain_pages, total_on}
use Rattle.offpage_chain.specs.ChainChecks.{IsChainPlace, IsChainPart, ChainChecksBy}
use Rattle.offpage_chain.specs.Laws.{HasOneChain, ChecksAreWhole}
use Rattle.schema_text.specs.Formats.{flags_of}
use Rattle.schema_text.specs.TableDef.{TableDef, column_at}
use Rattle.schema_text.specs.Grammar.{IsTable}
use Rattle.schema_text.specs.IndexFields.{leaf_fields, field_of_column}
use Rattle.schema_text.proofs.ColumnFields.{holds_column}
use Rattle.tree_walk.specs.Index.{Index, Row}
use Rattle.tree_walk.specs.Segments.{leaf_segment}
use Rattle.tree_walk.specs.Laws.{ComeOnce}
use Rattle.table_check.specs.Trees.{index_in, clustered_tree}
use Rattle.table_check.specs.Values.{front_of, pages_of_value, live_rows}
use Rattle.table_check.specs.Valid.{IsValid, IsSoundLongValue, IsSoundValue, IsSoundField, IsSoundRow}
use Rattle.table_check.proofs.ValuesLaw.{are_distinct}
use Rattle.sql_dump.specs.Cells.{CellView, ReadsRow, local_bytes, row_on, cell_of_column, pages_of_cell}
use Rattle.sql_dump.specs.Lines.{ReadsRecord, ReadsRows}
use Rattle.sql_dump.proofs.Cells.{sound_value}
use Rattle.sql_dump.proofs.RowPages.{place_is}
use Rattle.salvage_model.specs.declared.loss.Loss.{Loss}
use Rattle.salvage_model.specs.ColumnChecks.{Lost, PartChecks, PartsChecksBy, PartsChecks, CellChecks}
use Rattle.salvage_model.specs.Judged.{lost_by}
use Rattle.salvage_laws.proofs.Used.{all_fetched}
use Rattle.salvage_laws.proofs.Owners.{cell_pages, cell_once}

-- what stands beside the member at a place
pub zip_at : {A B : Type 0} (R : A → B → Type 0) (xs : List A) (ys : List B) → AllZip R xs ys → (k : ℕ) (d : A) (e : B)
    → k < length xs → R (get_or xs k d) (get_or ys k e)
zip_at R [] ys zip k d e below = absurd (omega (arith, below))
zip_at R (x ∷ xs) [] zip k d e below = absurd zip
zip_at R (x ∷ xs) (y ∷ ys) zip zero d e below = zip.0
zip_at R (x ∷ xs) (y ∷ ys) zip (suc k) d e below = zip_at R xs ys zip.1 k d e (omega (arith, below))

-- where no check is broken, none is what is told
pub none_lost : (checks : Option Lost → Type 0) → IsUnique checks → checks None → (loss : Option Loss)
    (looked : List ℕ) → checks (lost_by loss looked) → loss ≡ None
none_lost checks u holds None looked told = refl
none_lost checks u holds (Some loss) looked told =
    some_is_not_none (record { loss = loss; looked = looked }) (sym (u _ _ holds told))

module _ (one : HasOneChain) (whole : ChecksAreWhole) (file : List ℕ) (flags : ℕ) (space : IsSoundSpace file flags)
    (n : ℕ) (n_space : space_of (page_of file n) ≡ space_of (page_of file 0)) where
  -- of a page of a chain
  part_holds : (segment : ℕ) (taken : Bool) (holder left : ℕ) (before : List ℕ) (m : ℕ)
      → IsChainPlace file segment taken m → IsChainPart (page_of file m) left
      → PartChecks file all_fetched (space_of (page_of file n)) holder taken left before m None
  part_holds segment taken holder left before m place part =
      let blob = place.blob in
      let size = space.extents.head.size in (
        record { below = omega (arith, blob.below, size.most, size.within); new = place.new },
        (
          refl,
          (
            subst (λ (s : ℕ). IsFramed (page_of file m) m s) (sym n_space)
                (space.frames.framed m (used_by file m segment blob.used)),
            (blob.has_kind, part),
          ),
        ),
      )

  -- of all of it
  parts_hold : (segment : ℕ) (kind : ColumnType) (local : List ℕ) (taken : ℕ → Bool)
      → IsSoundLongValue file segment kind local → ComeOnce (chain_pages file (reference_of local))
      → All (λ m. taken m ≡ false) (chain_pages file (reference_of local))
      → PartsChecks file all_fetched (space_of (page_of file n)) n kind local taken None
  unfolding PartsChecksBy ChainChecksBy
  parts_hold segment kind local taken long once new =
      let most = space.extents.head.size.most in
      let reference = reference_of local in
      let same = one file segment reference long.whole.pages most long.whole.chain in
      let checks = (whole file segment n reference taken kind (front_of local) most).1 (record {
        pages = long.whole.pages;
        chain = long.whole.chain;
        distinct = subst AreDistinct (sym same) (are_distinct (chain_pages file reference) once);
        new = subst (λ (pages : List ℕ). All (λ m. taken m ≡ false) pages) (sym same) new;
        text = subst (IsTextOfKind kind) long.whole.is long.text;
      }) in (
        checks.0,
        (
          record { has_space = checks.1.0.0 ∙ sym n_space; has_offset = checks.1.0.1 },
          (
            λ j d below.
                let both = checks.1.1.0 j d below in
                let before = take j (chain_pages file reference) in
                let m = get_or (chain_pages file reference) j d in
                part_holds segment (seen taken before m) (before_place n before (length before))
                (reference.length - total_on file before) before m both.0 both.1,
            checks.1.1.1,
          ),
        ),
      )

module _ (one : HasOneChain) (whole : ChecksAreWhole) (file : List ℕ) (table : TableDef) (is : IsTable table)
    (valid : IsValid file table) (all : List (List Value)) (reads : ReadsRows file table all) where
  abbrev tree : Index
  tree = clustered_tree file table

  abbrev cell_in : Row → ℕ → CellView
  cell_in row c = cell_of_column (row_on table (page_of file row.page) row.origin) c

  -- what is read of a row
  pub record RowRead (row : Row) : Type 0 where
    pub values_of : List Value
    pub reads_it : ReadsRow file (row_on table (page_of file row.page) row.origin) values_of

  pub row_read : (row : Row) → Contains (live_rows tree) row → RowRead row
  unfolding index_in
  row_read row among =
      let at = zip_at (ReadsRecord file table) (live_rows tree) all reads among.0 row [] among.1 in
      let here : ReadsRecord file table row (get_or all among.0 []) =
      subst (λ (r : Row). ReadsRecord file table r (get_or all among.0 [])) among.2 at in
      record { values_of = get_or all among.0 []; reads_it = here.reads }

  pub sound_cell : (row : Row) → Contains (live_rows tree) row → (c : ℕ) → c < length table.columns
      → IsSoundValue file (leaf_segment tree) (column_at table c).kind (page_of file row.page) (cell_in row c).place
  unfolding index_in
  sound_cell row among c within =
      let fields = leaf_fields table 0 in
      let page = page_of file row.page in
      let i = field_of_column table c in
      let holds = holds_column table c is within in
      let sound = All-contains (IsSoundRow tree) (live_rows tree) row valid.values.rows among i holds.inside in
      let column : IsSoundField file (leaf_segment tree) (Column (column_at table c).kind) page
      (place_of page row.origin fields i) =
      subst (λ (k : FieldType). IsSoundField file (leaf_segment tree) k page (place_of page row.origin fields i))
      holds.kind sound in
      subst (λ (p : Place). IsSoundValue file (leaf_segment tree) (column_at table c).kind page p)
      (sym (place_is table page row.origin c is within)) column

  -- no check of a column is broken
  pub cell_holds : (row : Row) → Contains (live_rows tree) row
      → space_of (page_of file row.page) ≡ space_of (page_of file 0) → (c : ℕ) → c < length table.columns
      → (taken : ℕ → Bool) → All (λ m. taken m ≡ false) (cell_pages file table (page_of file row.page) row.origin c)
      → CellChecks file all_fetched row.page (cell_in row c) taken None
  cell_holds row among n_space c within taken new =
      let read = row_read row among in
      let cell = cell_in row c in (
        sound_value file cell (get_or read.values_of c Null) (read.reads_it.each c within),
        λ goes.
            let same : pages_of_cell file cell ≡ chain_pages file (reference_of (local_bytes cell)) =
            ap (λ (u : Bool). pages_of_value file (local_bytes cell) (not u && cell.place.external)) goes.some_value
            ∙ ap (λ (e : Bool). pages_of_value file (local_bytes cell) e) goes.external in
            parts_hold one whole file (flags_of table.format) valid.space row.page n_space (leaf_segment tree) cell.kind
            (local_bytes cell) taken
            ((sound_cell row among c within).external goes.some_value goes.external)
            (subst ComeOnce same (cell_once file table is valid row among c within))
            (subst (λ (pages : List ℕ). All (λ m. taken m ≡ false) pages) same new),
      )
