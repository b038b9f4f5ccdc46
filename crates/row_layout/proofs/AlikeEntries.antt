-- Numbers of pages change no lengths.
use Rattle.std.proofs.Common.{true, false, ◌==◌, cond, [], length, refl}
use Rattle.std.specs.List.{AllZip}
use Rattle.compact_record.specs.declared.parts.Part.{Part}
use Rattle.compact_record.specs.declared.parts.Part.TheVariants.{Null, Bytes}
use Rattle.tree_layout.specs.Entries.{IsAlike, AreAlike}
use Rattle.tree_layout.proofs.Alike.{alike_all}
use Rattle.row_layout.specs.StoredRow.{stored_at, part_of_field, parts_of_row}
use Rattle.row_layout.specs.HoldsValues.{stored_in, clustered_entry, clustered_entries}
use Rattle.row_layout.specs.SecondaryEntries.{secondary_entries}
use Rattle.row_layout.specs.EntryLaws.{EntriesAreAlike}
use Rattle.row_layout.proofs.Short.{part_alike, zip_ranges}

pub alike_law : EntriesAreAlike
unfolding clustered_entries parts_of_row
alike_law table rows stored n m j =
    elim (j == 0) as (λ b. AllZip AreAlike
    (cond b (clustered_entries table.format n stored) (secondary_entries table j rows))
    (cond b (clustered_entries table.format m stored) (secondary_entries table j rows))) [
      | true ↦
          zip_ranges AreAlike (clustered_entry table.format n stored) (clustered_entry table.format m stored) 0
          (length stored)
          (λ r. zip_ranges _ (λ i. part_of_field table.format (n r i 0) (stored_at (stored_in stored r) i))
          (λ i. part_of_field table.format (m r i 0) (stored_at (stored_in stored r) i)) 0
          (length (stored_in stored r))
          (λ i. part_alike table.format (n r i 0) (m r i 0) (stored_at (stored_in stored r) i)))
      | false ↦ alike_all (secondary_entries table j rows)
    ]
