-- Pages that stand by themselves, whatever the other pages of their file say.
use Rattle.std.specs.Prelude.{◌≡◌, ℕ, min, Bool, false, List, Option, Some, None}
use Rattle.page_source.specs.Pages.{page_of, page_count}
use Rattle.fil_frame.specs.Kinds.{index_kind}
use Rattle.fil_frame.specs.Frame.{IsFramed, space_of, kind_of}
use Rattle.index_page.specs.Header.{index_id_of}

-- how many pages of a file are looked at: those below 4,194,304
abbrev pub most_pages : ℕ
most_pages = 4194304

abbrev pub reach_of : List ℕ → ℕ
reach_of file = min (page_count file) most_pages

-- the frame is that of page n, of the space that it names itself
abbrev pub Stands : List ℕ → ℕ → Type 0
Stands page n = IsFramed page n (space_of page)

-- page n was fetched, and is this; `missed` are those pages whose fetch failed
pub record IsFetched (file : List ℕ) (missed : ℕ → Bool) (n : ℕ) (page : List ℕ) : Type 0 where
  pub read : missed n ≡ false
  pub same : page ≡ page_of file n

-- a page of some index stands, and this is the index's id
pub record HasIndexId (page : List ℕ) (n id : ℕ) : Type 0 where
  pub stands : Stands page n
  pub kind : kind_of page ≡ index_kind
  pub same : id ≡ index_id_of page

-- the id of the index that a page tells, none if no page of an index stands there
abbrev pub TellsIndexId : List ℕ → ℕ → Option ℕ → Type 0
TellsIndexId page n (Some id) = HasIndexId page n id
TellsIndexId page n None = (id : ℕ) → ¬ (HasIndexId page n id)
