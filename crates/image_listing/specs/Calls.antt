-- What a listing leaves of the image and the output.
use Rattle.std.specs.Prelude.{◌≡◌, ◌≤◌, ℕ, ⊤, List, [], Option, Some, Result, Ok, Err}
use Rattle.page_source.specs.declared.objects.ByteSource.{Ghosts as SourceOf}
use Rattle.page_source.specs.declared.objects.ByteSink.{Ghosts as SinkOf}
use Rattle.page_source.specs.Faults.{Rose}
use Rattle.page_source.specs.Objects.{GrowsBy, GrowsByPart}
use Rattle.image_listing.specs.declared.listing.ListStop.{ListStop}
use Rattle.image_listing.specs.declared.listing.ListStop.TheVariants.{Source, Sink, Memory}
use Rattle.image_listing.specs.Listing.{Line, IsListing, listing_text}

-- the image was read to its end, and the output grew by the text of its listing
pub record ListsAll (image : List ℕ) (left out out_now : Option (List ℕ)) : Type 0 where
  pub lines : List Line
  pub listing : IsListing image lines
  pub read : left ≡ Some []
  pub text : GrowsBy out out_now (listing_text lines)

-- the image was read to its end, and the output grew by a prefix of the text of its listing
pub record ListsSome (image : List ℕ) (left out out_now : Option (List ℕ)) : Type 0 where
  pub lines : List Line
  pub listing : IsListing image lines
  pub read : left ≡ Some []
  pub text : GrowsByPart out out_now (listing_text lines)

-- a listing of an image whose bytes are told
abbrev pub Lists : List ℕ → Option (List ℕ) → Option (List ℕ) → Option (List ℕ) → Result (Unit {0}) ListStop → Type 0
Lists image left out out_now (Ok u) = ListsAll image left out out_now
Lists image left out out_now (Err Sink) = ListsSome image left out out_now
Lists image left out out_now (Err Source) = ⊤
Lists image left out out_now (Err Memory) = ⊤

-- an answer of a listing that stopped before the first byte was written
abbrev pub ComesBeforeText : Result (Unit {0}) ListStop → Type 0
ComesBeforeText (Err Source) = ⊤
ComesBeforeText (Err Memory) = ⊤
ComesBeforeText _ = ⊥

-- whatever the image tells: no count of faults falls, an object is blamed only if its count rose, and nothing is
-- written before the image was read to its end and the lines were made
pub record ListsOver {Q O : Type 0} (q : SourceOf Q) (o : SinkOf O) (image image_now : Q) (out out_now : O)
    (result : Result (Unit {0}) ListStop) : Type 0 where
  pub image_later : q.faults image ≤ q.faults image_now
  pub out_later : o.faults out ≤ o.faults out_now
  pub source : result ≡ Err Source → Rose (q.faults image) (q.faults image_now)
  pub sink : result ≡ Err Sink → Rose (o.faults out) (o.faults out_now)
  pub unwritten : ComesBeforeText result → out_now ≡ out
