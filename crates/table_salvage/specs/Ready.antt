-- What has to fit together before a part of a salvage: the source, what is looked for, the room and the page in hand.
use Rattle.std.specs.Prelude.{◌≡◌, ◌+◌, ◌*◌, ◌<◌, ◌≤◌, ℕ, Bool, true, false, List, [], length, replicate}
use Rattle.page_source.specs.declared.objects.PageSource.{Ghosts as FileOf}
use Rattle.page_source.specs.Pages.{page_of}
use Rattle.page_source.specs.Calls.{OfFile}
use Rattle.compact_record.specs.Reading.{IsHeapOrigin, IsSpelled, record_end}
use Rattle.schema_text.specs.IndexFields.{leaf_fields}
use Rattle.leaf_salvage.specs.Known.{Knows}
use Rattle.salvage_model.specs.declared.kind.RecordKind.{RecordKind}
use Rattle.salvage_model.specs.declared.saved.Saved.{Saved}
use Rattle.salvage_model.specs.Records.{first_place, list_length, origin_of, is_of}
use Rattle.row_salvage.specs.Calls.{CanLook}
use Rattle.table_salvage.specs.declared.search.Search.{Search}
use Rattle.table_salvage.specs.declared.room.Room.{Room}
use Rattle.table_salvage.specs.declared.records.FoundRecord.{FoundRecord}

-- the room is for the table that is looked for, with a mark for each page that is looked at, and the fields are those
-- of its leaf records
pub record IsReady {S : Type 0} (g : FileOf S) (source : S) (search : Search) (room : Room) : Type 0 where
  pub look : CanLook g source search.pages room.marks
  pub table : room.reader.table ≡ search.schema.now
  pub columns : length room.losses ≡ length search.schema.now.columns
  pub fields : search.fields ≡ leaf_fields search.schema.now 0
  pub keys : search.fields.keys ≤ length search.fields.fields
  pub scratch : length search.fields.fields ≤ room.scratch

-- nothing was done yet in the room, which has a mark for each of so many pages
pub record IsNew (pages : ℕ) (room : Room) : Type 0 where
  pub knows : (file : List ℕ) (missed : ℕ → Bool) → Knows file missed 0 room.descriptors
  pub marks : room.marks ≡ replicate pages false
  pub held : room.buffer.bytes ≡ []
  pub saved : room.saved ≡ record { rows = 0; partial = 0; leaves = 0; lost = 0 }
  pub heard : room.unheard ≡ false

-- the page in hand is page n of the file
pub record IsInHand {S : Type 0} (g : FileOf S) (source : S) (search : Search) (room : Room) (n : ℕ) : Type 0 where
  pub below : n < search.pages
  pub held : OfFile g source (λ file. room.page ≡ page_of file n)

-- a record of a page that can be read: the place is one of the list of this kind, and the record is of the kind
pub record IsRecordOf (kind : RecordKind) (page : List ℕ) (place origin : ℕ) : Type 0 where
  pub least : first_place kind page ≤ place
  pub most : place < first_place kind page + list_length kind page
  pub at : origin ≡ origin_of kind page place
  pub of : is_of kind page origin ≡ true

pub record IsFound (search : Search) (room : Room) (found : FoundRecord) : Type 0 where
  pub record_of : IsRecordOf search.kind room.page found.place found.origin
  pub fits : found.place < 65535
  pub heap : IsHeapOrigin found.origin
  pub spelled : IsSpelled room.page found.origin (leaf_fields search.schema.now 0)
  pub ends : record_end room.page found.origin (leaf_fields search.schema.now 0) ≤ 16384

-- the most records of so many pages
abbrev pub most_rows : ℕ → ℕ
most_rows pages = 65535 * pages

-- so many rows were written at the most, and so many leaves met and pages lost
pub record AreFew (pages rows : ℕ) (saved : Saved) : Type 0 where
  pub rows_most : saved.rows + saved.partial ≤ rows
  pub leaves_most : saved.leaves ≤ pages
  pub lost_most : saved.lost ≤ pages
