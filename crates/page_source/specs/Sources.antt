-- Further files in memory: one whose pages are held or zeros, one that keeps which pages were fetched, and one that
-- changes; and what is seen of real files.
use Rattle.std.specs.Prelude.{◌≡◌, ℕ, Option, Bool, true, if◌then◌else◌, nat_lt, List, [], ◌∷◌, ◌++◌, length, take}
use Rattle.std.specs.Fs.{new_options, with_read, with_write, with_create, with_truncate}
use Rattle.std.specs.declared.fs.options.OpenOptions.{OpenOptions}
use Rattle.page_source.specs.Pages.{page_size}
use Rattle.page_source.specs.Faults.{one_more, count_after}
use Rattle.page_source.specs.Objects.{PageMap, held_page}
use Rattle.page_source.specs.Memory.{CallLog, HeldBytes}

-- each page has all its bytes
abbrev pub AreWhole : PageMap → Type 0
AreWhole held = (n : ℕ) → length (held_page held n) ≡ page_size

-- so many pages, of which these are held and the others are zeros
pub record SparseFile : Type 0 where
  pub size : ℕ
  pub held : PageMap
  pub calls : CallLog

-- a file, and the first pages that it gave, up to a room
pub record LoggedFile : Type 0 where
  pub file : HeldBytes
  pub room : ℕ
  pub fetched : List ℕ

-- the pages that were given, with one more where there is room for it
abbrev pub log_after : LoggedFile → ℕ → Bool → List ℕ
log_after logged n failed = if failed then logged.fetched else take logged.room (logged.fetched ++ n ∷ [])

-- the bytes that the calls before number `at` see, and those that the others see
pub record ChangingFile : Type 0 where
  pub first : List ℕ
  pub second : List ℕ
  pub at : ℕ
  pub made : ℕ
  pub faults : ℕ
  pub fetches : ℕ

-- the bytes that the next call sees
abbrev pub seen_next : ChangingFile → List ℕ
seen_next file = if nat_lt (one_more file.made) file.at then file.first else file.second

-- the file after a call that failed or not
abbrev pub after_seen : ChangingFile → Bool → ChangingFile
after_seen file failed = record file { made = one_more file.made; faults = count_after file.faults failed }

-- what a file counts that tells nothing else
pub record FileCounts : Type 0 where
  pub faults : ℕ
  pub fetches : ℕ

-- a file is opened to be read, and for nothing else
abbrev pub for_reading : OpenOptions
for_reading = with_read new_options true

-- a file is opened to be written, made if there is none, and emptied
abbrev pub anew : OpenOptions
anew = with_truncate (with_create (with_write new_options true) true) true

-- the word that names a real file, if there is one, and how the file is opened
pub record FileName : Type 0 where
  pub word : Option (List ℕ)
  pub how : OpenOptions

-- a real file of pages: its name, and what it counts
pub record NamedPages : Type 0 where
  pub word : Option (List ℕ)
  pub how : OpenOptions
  pub faults : ℕ
  pub fetches : ℕ

-- a real text or store
pub record NamedObject : Type 0 where
  pub word : Option (List ℕ)
  pub how : OpenOptions
  pub faults : ℕ

-- the pages of this name, of which none was asked for
abbrev pub pages_to_read : Option (List ℕ) → NamedPages
pages_to_read word = record { word = word; how = for_reading; faults = 0; fetches = 0 }

-- the text of this name, before its first call
abbrev pub text_to_read : Option (List ℕ) → NamedObject
text_to_read word = record { word = word; how = for_reading; faults = 0 }

-- the pages that are to be made anew under this name
abbrev pub pages_to_make : Option (List ℕ) → NamedObject
pages_to_make word = record { word = word; how = anew; faults = 0 }
