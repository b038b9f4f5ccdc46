-- Words that stand between the parts of a sample: the file of the made rows, and what building it answers.
use Rattle.std.specs.Prelude.{◌≡◌, ℕ, ◌<◌, ⊤, List, Result, Ok, Err}
use Rattle.page_source.specs.Objects.{file_of}
use Rattle.page_source.specs.Sources.{SparseFile}
use Rattle.table_check.specs.Rows.{AreRows}
use Rattle.table_check.specs.Valid.{IsValid}
use Rattle.row_store.specs.StoredRows.{Rows}
use Rattle.space_builder.specs.layout.Layout.{FitsSpace, layout_extents, layout_file}
use Rattle.sample_table.specs.declared.made.SampleStop.{SampleStop}
use Rattle.sample_table.specs.declared.made.SampleStop.TheVariants.{Full, Memory}
use Rattle.sample_table.specs.Sample.{sample_table, sample_rows}

-- the bytes of a file
abbrev pub bytes_of : SparseFile → List ℕ
bytes_of file = file_of file.size file.held

-- the file is that of these rows, is sound, and has these rows
pub record IsSampleFile (rows : Rows) (file : SparseFile) : Type 0 where
  pub fits : FitsSpace sample_table rows
  pub is : bytes_of file ≡ layout_file sample_table rows
  pub valid : IsValid (layout_file sample_table rows) sample_table
  pub has : AreRows (layout_file sample_table rows) sample_table rows

-- what the building of n rows answers
abbrev pub BuildsSample : ℕ → Result SparseFile SampleStop → Type 0
BuildsSample n (Ok file) = IsSampleFile (sample_rows n) file
BuildsSample n (Err Full) = 256 < layout_extents sample_table (sample_rows n)
BuildsSample n (Err Memory) = ⊤
