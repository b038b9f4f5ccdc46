-- The made table, its rows, and what a sample of them answers.
use Rattle.std.specs.Prelude.{◌≡◌, ℕ, ◌*◌, ◌%◌, ◌<◌, ⊤, true, false, ◌==◌, if◌then◌else◌, List, [], ◌∷◌, ◌++◌, length}
use Rattle.std.specs.Prelude.{map}
use Rattle.std.specs.Prelude.{replicate, codes, decimal, Result, Ok, Err}
use Rattle.std.specs.List.{range_with_len}
use Rattle.fil_frame.specs.Crc.{crc32c_of}
use Rattle.column_values.specs.declared.kind.ColumnType.TheVariants as types
use Rattle.column_values.specs.declared.value.Value.{Value}
use Rattle.column_values.specs.declared.value.Value.TheVariants.{Null, Unsigned, Text}
use Rattle.schema_text.specs.declared.table.Format.TheVariants.{Dynamic}
use Rattle.schema_text.specs.declared.table.Column.{Column}
use Rattle.schema_text.specs.declared.table.IndexDef.{IndexDef}
use Rattle.schema_text.specs.TableDef.{TableDef}
use Rattle.row_text.specs.Line.{text_of}
use Rattle.table_check.specs.First.{IsChecked}
use Rattle.row_store.specs.StoredRows.{Rows}
use Rattle.space_builder.specs.layout.Layout.{FitsSpace, layout_extents, layout_file}
use Rattle.sample_table.specs.declared.made.Sample.{Sample}
use Rattle.sample_table.specs.declared.made.SampleStop.{SampleStop}
use Rattle.sample_table.specs.declared.made.SampleStop.TheVariants.{Full, Memory}

-- `id int unsigned notnull`, `tag varchar 20 null` and `note text null`
abbrev pub id_column : Column
id_column = record { name = codes "id"; kind = types.Int 4 false; nullable = false }

abbrev pub tag_column : Column
tag_column = record { name = codes "tag"; kind = types.Varchar 20; nullable = true }

abbrev pub note_column : Column
note_column = record { name = codes "note"; kind = types.Text 65535; nullable = true }

-- `clustered root 3 id` and `index by_tag root 4 tag`, on the lines 5 and 6
abbrev pub by_id : IndexDef
by_id = record { name = []; root = 3; columns = 0 ∷ []; line = 5 }

abbrev pub by_tag : IndexDef
by_tag = record { name = codes "by_tag"; root = 4; columns = 1 ∷ []; line = 6 }

-- the made table
unfoldable pub sample_table : TableDef
sample_table = record {
  table = codes "sample";
  format = Dynamic;
  columns = id_column ∷ tag_column ∷ note_column ∷ [];
  indexes = by_id ∷ by_tag ∷ [];
}

-- the number that row i is made of
abbrev pub sample_number : ℕ → ℕ
sample_number i = i * 7919 % 10007

-- `t` and the number in decimal, null for each number that ends with 0
unfoldable pub sample_tag : ℕ → Value
sample_tag i = if sample_number i % 10 == 0 then Null else Text (codes "t" ++ decimal (sample_number i))

-- so many letters `n`
unfoldable pub letters : ℕ → List ℕ
letters count = replicate count 110

-- a long note in each thousandth row; else null in each third one, and up to 299 letters in all others
unfoldable pub sample_note : ℕ → Value
sample_note i =
    if i % 1000 == 0 then Text (letters 20000)
    else (if i % 3 == 0 then Null else Text (letters (sample_number i % 300)))

-- row i
unfoldable pub sample_row : ℕ → List Value
sample_row i = Unsigned i ∷ sample_tag i ∷ sample_note i ∷ []

-- the rows 1 to n
unfoldable pub sample_rows : ℕ → Rows
sample_rows n = map sample_row (range_with_len 1 n)

-- these rows fit a tablespace, the numbers are those of its check, and of the text of these rows
pub record IsSampled (rows : Rows) (sample : Sample) : Type 0 where
  pub fits : FitsSpace sample_table rows
  pub checked : IsChecked (layout_file sample_table rows) sample_table sample.checked
  pub bytes : sample.bytes ≡ length (text_of sample_table rows)
  pub sum : sample.sum ≡ crc32c_of (text_of sample_table rows)

-- what a sample of n rows answers
abbrev pub Samples : ℕ → Result Sample SampleStop → Type 0
Samples n (Ok sample) = IsSampled (sample_rows n) sample
Samples n (Err Full) = 256 < layout_extents sample_table (sample_rows n)
Samples n (Err Memory) = ⊤
