-- The records of rows are short, whatever the numbers of pages are.
use Rattle.std.proofs.Common.{◌≡◌, ℕ, zero, suc, ◌+◌, ◌<◌, ◌≤◌, Bool, true, false, cond, List, [], ◌∷◌}
use Rattle.std.proofs.Common.{length, map, get_or, drop, take, refl, sym, ap, ◌∙◌, subst, arith}
use Rattle.std.specs.List.{AllZip, range_with_len, flat_map}
use Rattle.std.proofs.lemmas.Bool.{false≢true, leb-false, le-leb}
use Rattle.std.proofs.lemmas.List.{get_or_at, get_or-drop, length-drop}
use Rattle.std.proofs.Common.{length-append}
use Rattle.std.proofs.lemmas.List.Concat.{length-flat_map}
use Rattle.std.proofs.lemmas.List.Elements.{All-from_get_or}
use Rattle.std.proofs.lemmas.List.Sums.{get_or-le-sum_by}
use Rattle.std.proofs.lemmas.List.FromFn.{get_or-map-range_with_len, length-map-range_with_len}
use Rattle.column_values.specs.declared.field.Field.{Field}
use Rattle.column_values.specs.declared.field.FieldType.TheVariants as kinds
use Rattle.column_values.specs.declared.value.Value.{Value}
use Rattle.column_values.specs.Types.{Fields, field_at, child_field}
use Rattle.column_values.specs.Laws.{SpellingSpells}
use Rattle.compact_record.specs.Reading.{field_count}
use Rattle.schema_text.specs.declared.table.Format.{Format}
use Rattle.schema_text.specs.TableDef.{TableDef}
use Rattle.schema_text.specs.Grammar.{IsTable}
use Rattle.schema_text.specs.IndexFields.{leaf_fields, node_fields, clustered_key, clustered_rest, trx_id_field}
use Rattle.schema_text.specs.IndexFields.{roll_pointer_field, leaving_at, other_positions}
use Rattle.schema_text.specs.Laws.{ListsAreOfOneIndex}
use Rattle.compact_record.specs.declared.parts.Part.{Part}
use Rattle.compact_record.specs.declared.parts.Part.TheVariants as parts
use Rattle.compact_record.specs.Writing.{local_bytes, value_bytes, size_of_record, FitFields, FitsField}
use Rattle.tree_layout.specs.Entries.{Entry, IsAlike}
use Rattle.tree_layout.specs.Division.{FitsAlone, HasSmallPointers}
use Rattle.tree_layout.specs.DivisionLaws.{PointersAreSmall, AlikeRecordsHaveOneSize}
use Rattle.row_layout.specs.StoredRow.{Stored, stored_at, part_of_field, parts_of_row, off_local, size_of_row}
use Rattle.row_layout.specs.StoredRow.{kept_prefix, reference_to}
use Rattle.row_layout.specs.HoldsValues.{AreFitted, stored_in, clustered_entry, clustered_entries}
use Rattle.row_layout.specs.EntryLaws.{IsShort, RowsAreShort}
use Rattle.tree_layout.proofs.Zips.{zip_from}
use Rattle.row_layout.proofs.Stored.{StoresKind}
use Rattle.row_layout.proofs.Fits.{part_fits}
use Rattle.row_layout.proofs.FittedRows.{are_fields, count_now, field_kept, field_stores, short_row}
use Rattle.row_layout.proofs.Held.{length-reference}

-- a record of at most 8,125 bytes fits a page alone
pub short_alone : (fields : Fields) (entry : Entry) → size_of_record fields entry ≤ 8125 → FitsAlone fields entry
short_alone fields entry short =
    le-leb (120 + size_of_record fields entry + 4) 16376 (omega arith)

-- parts of the same field have the same size, whatever the number of its page is
pub part_alike : (format : Format) (n m : ℕ) (stored : Stored)
    → IsAlike (part_of_field format n stored) (part_of_field format m stored)
part_alike format n m stored = by_tests stored.null stored.off
  where
    local_length : (k : ℕ) → length (off_local format k stored)
        ≡ length (take (kept_prefix format) stored.bytes) + 20
    local_length k =
        length-append (take (kept_prefix format) stored.bytes) _
        ∙ ap (λ size. length (take (kept_prefix format) stored.bytes) + size)
        (length-reference (reference_to format k stored))

    by_tests : (null off : Bool) → IsAlike
        (cond null parts.Null (cond off (parts.Bytes (off_local format n stored) true)
        (parts.Bytes stored.bytes false)))
        (cond null parts.Null (cond off (parts.Bytes (off_local format m stored) true)
        (parts.Bytes stored.bytes false)))
    by_tests true off = tt
    by_tests false true = (local_length n ∙ sym (local_length m), refl)
    by_tests false false = (refl, refl)

pub zip_ranges : {A B : Type 0} (R : A → B → Type 0) (f : ℕ → A) (g : ℕ → B) (from count : ℕ)
    → ((i : ℕ) → R (f i) (g i))
    → AllZip R (map f (range_with_len from count)) (map g (range_with_len from count))
zip_ranges R f g from zero each = tt
zip_ranges R f g from (suc count) each = (each from, zip_ranges R f g (from + 1) count each)

-- each part is no longer than the record
values_within : (fields : Fields) (entry : Entry)
    → length (flat_map local_bytes entry) ≤ size_of_record fields entry
unfolding size_of_record value_bytes
values_within fields entry = omega arith

pub part_within : (fields : Fields) (entry : Entry) (i : ℕ) → i < length entry
    → length (local_bytes (get_or entry i parts.Null)) ≤ size_of_record fields entry
part_within fields entry i within =
    let size = values_within fields entry in
    let all = length-flat_map local_bytes entry in
    let here = get_or-le-sum_by (λ part. length (local_bytes part)) entry i parts.Null within in
    omega arith

-- and so are those from one on
pub part_behind : (entry : Entry) (i : ℕ) → i < length entry
    → length (local_bytes (get_or entry i parts.Null)) ≤ length (flat_map local_bytes (drop i entry))
part_behind entry i within =
    let rest = length-drop i entry in
    let all = length-flat_map local_bytes (drop i entry) in
    let here = get_or-le-sum_by (λ part. length (local_bytes part)) (drop i entry) 0 parts.Null (omega arith) in
    let e : i + 0 ≡ i = omega arith in
    let same : get_or (drop i entry) 0 parts.Null ≡ get_or entry i parts.Null =
    get_or-drop i entry 0 parts.Null ∙ ap (λ k. get_or entry k parts.Null) e in
    let sizes = ap (λ (part : Part). length (local_bytes part)) same in
    omega arith

-- behind the key stands the transaction id
behind_key : (table : TableDef) → field_at (leaf_fields table 0) (leaf_fields table 0).keys ≡ trx_id_field
unfolding leaf_fields
behind_key table =
    get_or_at (clustered_key table) trx_id_field
    (roll_pointer_field ∷ leaving_at table.columns (other_positions table)) child_field
    (length (clustered_key table)) refl

key_within : (table : TableDef) → (leaf_fields table 0).keys < field_count (leaf_fields table 0)
unfolding leaf_fields
key_within table =
    let size = length-append (clustered_key table) (clustered_rest table) in omega arith

module _ (spells : SpellingSpells) (small : PointersAreSmall) (sizes : AlikeRecordsHaveOneSize)
    (lists : ListsAreOfOneIndex) (table : TableDef) (is : IsTable table) (rows : List (List Value))
    (stored : List (List Stored)) (are : AreFitted table rows stored)
    (number : ℕ → ℕ → ℕ → ℕ) (r : ℕ) (within : r < length rows) where
  abbrev entry : Entry
  entry = clustered_entry table.format number stored r

  abbrev leaf : Fields
  leaf = leaf_fields table 0

  now : ℕ → Stored
  now i = stored_at (stored_in stored r) i

  length-entry : length entry ≡ field_count leaf
  unfolding parts_of_row
  length-entry =
      length-map-range_with_len (λ i. part_of_field table.format (number r i 0) (stored_at (stored_in stored r) i)) 0
      (length (stored_in stored r))
      ∙ count_now spells table is rows stored are r within

  part_at : (i : ℕ) → i < field_count leaf
      → get_or entry i parts.Null ≡ part_of_field table.format (number r i 0) (stored_at (stored_in stored r) i)
  unfolding parts_of_row
  part_at i inside =
      let count = count_now spells table is rows stored are r within in
      get_or-map-range_with_len (λ i. part_of_field table.format (number r i 0) (stored_at (stored_in stored r) i)) 0
      (length (stored_in stored r)) i i parts.Null (omega arith) (omega arith)

  -- its size is that which decided what goes
  size_now : size_of_record leaf entry ≡ size_of_row table (stored_in stored r)
  unfolding parts_of_row
  size_now =
      sizes leaf entry (parts_of_row table.format (λ i. 0) (stored_in stored r))
      (zip_ranges IsAlike (λ i. part_of_field table.format (number r i 0) (stored_at (stored_in stored r) i))
      (λ i. part_of_field table.format 0 (stored_at (stored_in stored r) i)) 0 (length (stored_in stored r))
      (λ i. part_alike table.format (number r i 0) 0 (stored_at (stored_in stored r) i)))

  size_short : size_of_record leaf entry ≤ 8125
  size_short =
      let same = size_now in
      let short =
      leb-false 8126 (size_of_row table (stored_in stored r)) (short_row spells table is rows stored are r within)
      in omega arith

  fits : FitFields leaf entry
  fits =
      let size = length-entry in
      zip_from FitsField leaf.fields entry child_field parts.Null (sym size)
      (λ i inside.
      let good = are_fields spells table is rows stored are in
      let short = size_short in
      let local = part_within leaf entry i (omega arith) in
      let few : length (local_bytes (get_or entry i parts.Null)) < 16384 = omega arith in
      subst (FitsField (field_at leaf i)) (sym (part_at i inside))
      (part_fits table.format (number r i 0) (field_at leaf i) (stored_at (stored_in stored r) i)
      (good.listed.kinds i child_field inside)
      (field_stores spells table is rows stored are r within i inside)
      (field_kept spells table is rows stored are r within i inside).went
      (λ near. subst (λ (part : Part). length (local_bytes part) < 16384) (part_at i inside) few)))

  -- behind the key stand six bytes of transaction id, at least
  six_behind : 6 ≤ length (flat_map local_bytes (drop leaf.keys entry))
  six_behind =
      let inside = key_within table in
      let size = length-entry in
      let field = behind_key table in
      let stores : StoresKind kinds.TrxId false (stored_at (stored_in stored r) leaf.keys) =
      subst (λ (f : Field). StoresKind f.kind f.nullable (stored_at (stored_in stored r) leaf.keys)) field
      (field_stores spells table is rows stored are r within leaf.keys inside) in
      let kept = field_kept spells table is rows stored are r within leaf.keys inside in
      let part = part_at leaf.keys inside in
      let behind = part_behind entry leaf.keys (omega arith) in
      let local = ap (λ (p : Part). length (local_bytes p)) part in
      let six = six_of (number r leaf.keys 0) (stored_at (stored_in stored r) leaf.keys) stores.0 stores.1
      (λ off. false≢true (sym (ap (λ (f : Field). f.may_leave) field) ∙ (kept.went off).leaves)) in
      omega arith
    where
      six_of : (n : ℕ) (s : Stored) → s.null ≡ false → length s.bytes ≡ 6 → (s.off ≡ true → ⊥)
          → length (local_bytes (part_of_field table.format n s)) ≡ 6
      six_of n s some size never = by_off s.off refl
        where
          by_off : (b : Bool) → s.off ≡ b → length (local_bytes (part_of_field table.format n s)) ≡ 6
          by_off true off = absurd (never off)
          by_off false near = rw (some, near) size

  pointers : HasSmallPointers (node_fields table 0) entry
  pointers n =
      let least = small leaf (node_fields table 0) entry n (lists table 0) fits in
      let behind = six_behind in
      let short = size_short in
      omega arith

  pub short : IsShort leaf (node_fields table 0) entry
  short = record { fit = fits; alone = short_alone leaf entry size_short; pointers = pointers }

pub rows_short : SpellingSpells → PointersAreSmall → AlikeRecordsHaveOneSize → ListsAreOfOneIndex → RowsAreShort
unfolding clustered_entries
rows_short spells small sizes lists table rows stored number is are =
    All-from_get_or (IsShort (leaf_fields table 0) (node_fields table 0))
    (clustered_entries table.format number stored) []
    (λ r below.
    let size = length-map-range_with_len (clustered_entry table.format number stored) 0 (length stored) in
    let count = are.count in
    let within : r < length rows = omega arith in
    subst (IsShort (leaf_fields table 0) (node_fields table 0))
    (sym (get_or-map-range_with_len (clustered_entry table.format number stored) 0 (length stored) r r [] (omega arith)
    (omega arith)))
    (short spells small sizes lists table is rows stored are number r within))
