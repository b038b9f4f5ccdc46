-- Rows as they are stored: each field stores what it is to.
use Rattle.std.proofs.Common.{◌≡◌, ℕ, ◌<◌, Bool, true, false, List, [], length, get_or, sym, ap, ◌∙◌}
use Rattle.std.proofs.Common.{subst, arith}
use Rattle.std.specs.List.{AllZip}
use Rattle.column_values.specs.declared.kind.ColumnType.{ColumnType}
use Rattle.column_values.specs.declared.field.FieldType.{FieldType}
use Rattle.column_values.specs.declared.field.FieldType.TheVariants as kinds
use Rattle.column_values.specs.declared.value.Value.{Value}
use Rattle.column_values.specs.declared.value.Value.TheVariants as values
use Rattle.column_values.specs.Types.{Fields, field_at, AreFields}
use Rattle.column_values.specs.Spell.{Spell}
use Rattle.column_values.specs.Laws.{SpellingSpells}
use Rattle.compact_record.specs.Reading.{field_count}
use Rattle.schema_text.specs.TableDef.{TableDef, column_at}
use Rattle.schema_text.specs.Grammar.{IsTable}
use Rattle.schema_text.specs.IndexFields.{leaf_fields, field_of_column}
use Rattle.schema_text.proofs.FieldLemmas.{leaf_good}
use Rattle.schema_text.proofs.ColumnFields.{holds_column}
use Rattle.row_layout.specs.StoredRow.{Stored, stored_at, stored_row, is_too_long}
use Rattle.row_layout.specs.Fitting.{IsFieldOf, AreFieldsOf}
use Rattle.row_layout.specs.HoldsValues.{AreFitted, stored_in}
use Rattle.tree_layout.proofs.Zips.{zip_length, zip_at}
use Rattle.row_layout.proofs.Held.{StoresValue}
use Rattle.row_layout.proofs.Stored.{StoresKind, StoresField, stores_row, stores_column, column_stored}
use Rattle.row_layout.proofs.Fitting.{fitted_fields}

-- a field that stays as it was stores the same
pub same_value : (kind : ColumnType) (old now : Stored) (value : Value) → now.null ≡ old.null → now.bytes ≡ old.bytes
    → StoresValue kind old value → StoresValue kind now value
same_value kind old now value null bytes stores = record {
  none = λ is. stores.none (sym null ∙ is);
  spelled = λ some. subst (Spell kind value) (sym bytes) (stores.spelled (sym null ∙ some));
}

pub same_stores : (kind : FieldType) (nullable : Bool) (old now : Stored) → now.null ≡ old.null → now.bytes ≡ old.bytes
    → StoresKind kind nullable old → StoresKind kind nullable now
same_stores (kinds.Column kind) nullable old now null bytes stores =
    ((stores.0.0, same_value kind old now stores.0.0 null bytes stores.0.1), λ is. stores.1 (sym null ∙ is))
same_stores kinds.RowId nullable old now null bytes stores = (null ∙ stores.0, ap length bytes ∙ stores.1)
same_stores kinds.TrxId nullable old now null bytes stores = (null ∙ stores.0, ap length bytes ∙ stores.1)
same_stores kinds.RollPointer nullable old now null bytes stores = (null ∙ stores.0, ap length bytes ∙ stores.1)
same_stores kinds.Child nullable old now null bytes stores = (null ∙ stores.0, ap length bytes ∙ stores.1)

module _ (spells : SpellingSpells) (table : TableDef) (is : IsTable table) (rows : List (List Value))
    (stored : List (List Stored)) (are : AreFitted table rows stored) where
  abbrev leaf : Fields
  leaf = leaf_fields table 0

  pub are_fields : AreFields (leaf_fields table 0)
  are_fields = leaf_good table 0 is (omega (arith, is.clustered))

  abbrev now_at : ℕ → ℕ → Stored
  now_at r i = stored_at (stored_in stored r) i

  module _ (r : ℕ) (within : r < length rows) where
    abbrev old : List Stored
    old = stored_row table r (get_or rows r [])

    pub kept_fields : AreFieldsOf table old (stored_in stored r)
    kept_fields = (fitted_fields table r (get_or rows r []) (stored_in stored r) (are.fit r within)).0

    pub short_row : is_too_long table (stored_in stored r) ≡ false
    short_row = (fitted_fields table r (get_or rows r []) (stored_in stored r) (are.fit r within)).1

    pub stores : AllZip StoresField (leaf_fields table 0).fields old
    stores = stores_row spells table is (get_or rows r []) (are.are_rows r within) r

    pub count_old : field_count leaf ≡ length old
    count_old = zip_length StoresField _ _ stores

    pub count_now : length (stored_in stored r) ≡ field_count leaf
    count_now = kept_fields.count ∙ sym count_old

    module _ (i : ℕ) (inside : i < field_count (leaf_fields table 0)) where
      pub field_kept : IsFieldOf table.format (field_at leaf i) (stored_at old i) (now_at r i)
      field_kept = let count = count_old in kept_fields.each i (omega arith)

      pub field_stores : StoresKind (field_at leaf i).kind (field_at leaf i).nullable (now_at r i)
      field_stores =
          let kept = field_kept in
          same_stores (field_at leaf i).kind (field_at leaf i).nullable (stored_at old i) (now_at r i) kept.null
          kept.bytes
          (zip_at StoresField leaf.fields old i _ (record { null = true; off = false; bytes = [] }) stores inside)

    -- the field of a column stores the value of the row
    pub column_holds : (c : ℕ) → c < length table.columns
        → StoresValue (column_at table c).kind (now_at r (field_of_column table c))
        (get_or (get_or rows r []) c values.Null)
    column_holds c known =
        let i = field_of_column table c in
        let inside : i < field_count leaf = (holds_column table c is known).inside in
        let kept = field_kept i inside in
        let kind = (column_at table c).kind in
        let value = get_or (get_or rows r []) c values.Null in
        let first : StoresValue kind (stored_at old i) value =
        subst (λ (s : Stored). StoresValue kind s value) (sym (column_stored table is r (get_or rows r []) c known))
        (stores_column spells table is (get_or rows r []) (are.are_rows r within) c known).0 in
        same_value kind (stored_at old i) (now_at r i) value kept.null kept.bytes first
