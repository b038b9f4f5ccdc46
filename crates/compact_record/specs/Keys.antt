-- Records that were read: their keys from the places in memory, and the child page of a node pointer.
use Rattle.std.specs.Prelude.{◌≡◌, ℕ, ◌+◌, ◌<◌, ◌≤◌, true, false, List, length, map, take}
use Rattle.page_source.specs.Pages.{num}
use Rattle.column_values.specs.declared.field.FieldType.TheVariants.{Child}
use Rattle.column_values.specs.Types.{Fields, field_at}
use Rattle.column_values.specs.Order.{Key}
use Rattle.compact_record.specs.declared.places.Place.{Place}
use Rattle.compact_record.specs.Reading.{place_of, record_end, Reading, IsReading, cell_at}

-- the key, from the places of the record's fields
unfoldable pub key_at : List ℕ → Fields → List Place → Key
key_at page fields places = map (cell_at page) (take fields.keys places)

-- a place on the page
pub record IsOnPage (place : Place) : Type 0 where
  pub rising : place.from ≤ place.until
  pub inside : place.until ≤ 16384

-- a place in a record that ends here; an external one has room for a reference
pub record LiesBelow (end : ℕ) (place : Place) : Type 0 where
  pub rising : place.from ≤ place.until
  pub below : place.until ≤ end
  pub refers : place.external ≡ true → place.from + 20 ≤ place.until

-- a record of the page was read, which ends on the page
pub record IsWholeReading (page : List ℕ) (fields : Fields) (reading : Reading) : Type 0 where
  pub read : IsReading page reading.origin fields reading
  pub ends : record_end page reading.origin fields ≤ 16384

-- the fields of node pointers: the child page stands behind the key
pub record HaveChild (fields : Fields) : Type 0 where
  pub inside : fields.keys < length fields.fields
  pub kind : (field_at fields fields.keys).kind ≡ Child
  pub present : (field_at fields fields.keys).nullable ≡ false

-- the child page of a node pointer
unfoldable pub child_at : List ℕ → Fields → ℕ → ℕ
child_at page fields origin = num page (place_of page origin fields fields.keys).from 4
