-- The lines of a text, and what is read of a text so far.
use Rattle.std.specs.Prelude.{◌≡◌, ◌≢◌, ℕ, ◌+◌, ◌<◌, ◌≤◌, ◌⊎◌, Bool, false, if◌then◌else◌, List, [], ◌∷◌, ◌++◌}
use Rattle.std.specs.Prelude.{flat_map, length, take, drop, sum_by, slice_index, Option, Some, None, IfSome}
use Rattle.std.specs.Prelude.{true, MatchOption, Result, Ok, Err}
use Rattle.page_source.specs.Faults.{Rose}
use Rattle.schema_text.specs.Grammar.{line_feed}
use Rattle.schema_text.specs.Cuts.{Lacks}
use Rattle.row_store.specs.declared.stop.RowsWhy.{RowsWhy}
use Rattle.row_store.specs.declared.stop.RowsWhy.TheVariants.{Long, Input, Line}
use Rattle.row_store.specs.declared.stop.ReadStop.{ReadStop}
use Rattle.row_store.specs.declared.stop.ReadStop.TheVariants as reads
use Rattle.row_store.specs.declared.line_reader.NextLine.{NextLine}
use Rattle.row_store.specs.ReadRows.{buffer_size}

-- a line with its LF, lines one after another, and how many bytes they have
abbrev pub with_feed : List ℕ → List ℕ
with_feed line = line ++ line_feed ∷ []

abbrev pub joined_lines : List (List ℕ) → List ℕ
joined_lines lines = flat_map with_feed lines

abbrev pub bytes_in : List (List ℕ) → ℕ
bytes_in lines = sum_by (λ (line : List ℕ). length line + 1) lines

-- what ends a line: its LF, or the text
abbrev pub end_of : Bool → List ℕ
end_of feed = if feed then line_feed ∷ [] else []

abbrev pub end_size : Bool → ℕ
end_size feed = if feed then 1 else 0

-- a line stands first in a text, with its LF or at the end
pub record StandsFirst (text line : List ℕ) (feed : Bool) (rest : List ℕ) : Type 0 where
  pub is : text ≡ line ++ (end_of feed ++ rest)
  pub lacks : Lacks line_feed line
  pub last : feed ≡ false → rest ≡ []

-- these bytes were taken of a text, where it is told
abbrev pub GivesBytes : Option (List ℕ) → Option (List ℕ) → List ℕ → Type 0
GivesBytes None now bytes = now ≡ None
GivesBytes (Some text) now bytes = (rest : List ℕ) × (now ≡ Some rest) × (text ≡ bytes ++ rest)

-- nothing is left of the text
abbrev pub IsAtEnd : Option (List ℕ) → Type 0
IsAtEnd left = IfSome left (λ rest. rest ≡ [])

-- so many bytes came behind those ahead, none only at the end of the text
pub record ComeBehind (left now : Option (List ℕ)) (before after : List ℕ) (count : ℕ) : Type 0 where
  pub piece : List ℕ
  pub count_is : length piece ≡ count
  pub few : count ≤ buffer_size
  pub behind : after ≡ before ++ piece
  pub given : GivesBytes left now piece
  pub ends : count ≡ 0 → IsAtEnd now

-- some bytes came behind those ahead
pub record GrewBehind (left now : Option (List ℕ)) (before after : List ℕ) : Type 0 where
  pub piece : List ℕ
  pub behind : after ≡ before ++ piece
  pub given : GivesBytes left now piece

-- no LF stands before this place, and one there, or nothing
pub record IsFeedPlace (bytes : List ℕ) (place : ℕ) : Type 0 where
  pub within : place ≤ length bytes
  pub lacks : (k : ℕ) → k < place → slice_index bytes k ≢ line_feed
  pub feed : place < length bytes → slice_index bytes place ≡ line_feed

-- at most a buffer is ahead behind so many bytes of a line, and behind the most that a line may have
pub record IsFewAhead (ahead : List ℕ) (size : ℕ) : Type 0 where
  pub behind : length ahead ≤ size + buffer_size
  pub longest : length ahead ≤ 16777216 + buffer_size

-- more bytes than any line may have
abbrev pub IsOverlong : ℕ → Type 0
IsOverlong size = 16777216 < size

-- the first line of what is ahead: it ends with its LF, or with the text, or is too long already
pub record IsNextLine (ahead : List ℕ) (left : Option (List ℕ)) (line : NextLine) : Type 0 where
  pub stands : StandsFirst ahead (take line.size ahead) line.feed (drop (line.size + end_size line.feed) ahead)
  pub within : line.size + end_size line.feed ≤ length ahead
  pub whole : line.feed ≡ false → IsOverlong line.size ⊎ IsAtEnd left
  pub some : line.feed ≡ false → line.size ≢ 0

-- the next line, or none at the end of the text
abbrev pub FindsLine : List ℕ → Option (List ℕ) → Option NextLine → Type 0
FindsLine ahead left line = MatchOption line ((ahead ≡ []) × IsAtEnd left) (IsNextLine ahead left)

-- a count of faults never falls, and the text is blamed only where it rose
pub record BlamesText {A : Type 0} (before now : ℕ) (result : Result A ReadStop) : Type 0 where
  pub later : before ≤ now
  pub rose : result ≡ Err reads.Source → Rose before now

-- a line behind so many bytes of the text, by its bytes alone: where it ends, or why it is refused
abbrev pub ChecksLine : NextLine → ℕ → Result ℕ RowsWhy → Type 0
ChecksLine line taken (Ok end) =
    (line.feed ≡ true) × (line.size + 1 ≤ 16777216) × (end ≡ taken + (line.size + 1)) × (end ≤ 4294967296)
ChecksLine line taken (Err Long) = 16777216 < line.size + end_size line.feed
ChecksLine line taken (Err Input) =
    (line.size + end_size line.feed ≤ 16777216) × (4294967296 < taken + (line.size + end_size line.feed))
ChecksLine line taken (Err Line) =
    (line.size + end_size line.feed ≤ 16777216) × (taken + (line.size + end_size line.feed) ≤ 4294967296)
    × (line.feed ≡ false)
ChecksLine line taken (Err why) = ⊥
