-- Rows in memory, in three lists.
use Rattle.std.specs.Prelude.{◌≡◌, ℕ, ◌+◌, ◌*◌, ◌/◌, ◌%◌, ◌≤◌, ◌==◌, List, [], ◌∷◌, ◌++◌, All, length, map, take, drop}
use Rattle.std.specs.Prelude.{slice_index_or}
use Rattle.row_layout.specs.StoredRow.{Stored}
use Rattle.row_store.specs.declared.marks.FieldSpot.{FieldSpot}
use Rattle.row_store.specs.declared.marks.Mark.{Mark}
use Rattle.row_store.specs.declared.stored.RowSpan.{RowSpan}
use Rattle.row_store.specs.declared.stored.Lists.{Lists}
use Rattle.row_store.specs.calls.Stored.{AreSpots, spot_start, row_of}

-- where a row lies: its first byte, and so many marks of its fields from the first one on
pub record Span : Type 0 where
  pub start : ℕ
  pub first : ℕ
  pub width : ℕ

-- where fields end in their rows, which rows of one shape share, the bytes of all rows, and where each row lies
pub record Arena : Type 0 where
  pub spots : List FieldSpot
  pub bytes : List ℕ
  pub spans : List Span

-- a field by its mark
abbrev pub spot_of : Mark → FieldSpot
spot_of mark =
    record { null = mark.code / 2 % 2 == 1; off = mark.code % 2 == 1; end = mark.code / 4 }

abbrev pub span_of : RowSpan → Span
span_of span =
    record { start = span.high * 4294967296 + span.low; first = span.first; width = span.width }

abbrev pub arena_of : Lists → Arena
arena_of lists = record {
  spots = map spot_of lists.marks.items;
  bytes = lists.bytes.items;
  spans = map span_of lists.spans.items;
}

-- row r; past the last one an empty one
abbrev pub span_at : Arena → ℕ → Span
span_at arena r = slice_index_or arena.spans r (record { start = 0; first = 0; width = 0 })

-- the fields of a row, and its bytes, behind which others may stand
abbrev pub spots_in : Arena → Span → List FieldSpot
spots_in arena span = take span.width (drop span.first arena.spots)

abbrev pub bytes_in : Arena → Span → List ℕ
bytes_in arena span = drop span.start arena.bytes

-- all rows
unfoldable pub rows_in : Arena → List (List Stored)
rows_in arena = map (λ span. row_of (spots_in arena span) (bytes_in arena span)) arena.spans

-- the marks of so many fields stand there
pub record AreMarked (spots fields : List FieldSpot) (first : ℕ) : Type 0 where
  pub inside : first + length fields ≤ length spots
  pub same : take (length fields) (drop first spots) ≡ fields

-- the row has all its marks and bytes
pub record LiesIn (arena : Arena) (span : Span) : Type 0 where
  pub marks : span.first + span.width ≤ length arena.spots
  pub start : span.start ≤ length arena.bytes
  pub fields : AreSpots (spots_in arena span) (bytes_in arena span)

abbrev pub AreRowsIn : Arena → Type 0
AreRowsIn arena = All (LiesIn arena) arena.spans

-- where a row of so many fields lies behind all bytes
abbrev pub next_span : Arena → ℕ → ℕ → Span
next_span arena first width = record { start = length arena.bytes; first = first; width = width }

-- one more row, of the fields that lie so among these bytes; they may have the marks of another row
pub record AddsFields (old new : Arena) (fields : List FieldSpot) (row : List ℕ) : Type 0 where
  pub first : ℕ
  pub begins : take (length old.spots) new.spots ≡ old.spots
  pub marked : AreMarked new.spots fields first
  pub bytes : new.bytes ≡ old.bytes ++ take (spot_start fields (length fields)) row
  pub spans : new.spans ≡ old.spans ++ next_span old first (length fields) ∷ []

-- the lists begin as they were
pub record Begins (old new : Lists) : Type 0 where
  pub marks : take (length old.marks.items) new.marks.items ≡ old.marks.items
  pub bytes : take (length old.bytes.items) new.bytes.items ≡ old.bytes.items
  pub spans : new.spans.items ≡ old.spans.items
