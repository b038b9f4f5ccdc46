-- What a listing leaves, if the image is told.
use Rattle.std.proofs.Common.{◌≡◌, ℕ, ◌<◌, ◌^◌, List, [], length, Option, Some, None, IfSome, Ok, Err}
use Rattle.std.specs.BTreeMap.{BTreeMap, IsOrdered}
use Rattle.page_source.specs.Objects.{GrowsBy, GrowsByPart}
use Rattle.image_listing.specs.declared.catalogue.Version.{Version}
use Rattle.image_listing.specs.declared.lines.Tally.{Tally}
use Rattle.image_listing.specs.declared.listing.ListStop.TheVariants.{Sink}
use Rattle.image_listing.specs.Listing.{listing_text}
use Rattle.image_listing.specs.Calls.{Lists}
use Rattle.image_listing.specs.Versions.{page_cmp, IsCatalogue}
use Rattle.image_listing.specs.Tallies.{line_cmp, AreTallies, lines_of}
use Rattle.image_listing.proofs.Listed.{is_listing}

-- the lines that were made of an image, up to its end
pub record AreMade (told left : Option (List ℕ)) (pages : BTreeMap (ℕ × ℕ) Version)
    (tallies : BTreeMap (ℕ × Option ℕ) Tally) : Type 0 where
  pub all : IfSome told (λ image. length image < 2 ^ 64 → IsCatalogue image pages)
  pub read : IfSome told (λ image. length image < 2 ^ 64 → left ≡ Some [])
  pub pages_rise : IsOrdered page_cmp pages
  pub rise : IsOrdered line_cmp tallies
  pub tallies_are : AreTallies pages.entries tallies

pub lists_all : (told left out out_now : Option (List ℕ)) (pages : BTreeMap (ℕ × ℕ) Version)
    (tallies : BTreeMap (ℕ × Option ℕ) Tally) (u : Unit {0}) → AreMade told left pages tallies
    → GrowsBy out out_now (listing_text (lines_of tallies))
    → IfSome told (λ image. length image < 2 ^ 64 → Lists image left out out_now (Ok u))
lists_all None left out out_now pages tallies u made text = tt
lists_all (Some image) left out out_now pages tallies u made text = λ few. record {
  lines = lines_of tallies;
  listing = is_listing image pages tallies made.pages_rise (made.all few) made.rise made.tallies_are;
  read = made.read few;
  text = text;
}

pub lists_some : (told left out out_now : Option (List ℕ)) (pages : BTreeMap (ℕ × ℕ) Version)
    (tallies : BTreeMap (ℕ × Option ℕ) Tally) → AreMade told left pages tallies
    → GrowsByPart out out_now (listing_text (lines_of tallies))
    → IfSome told (λ image. length image < 2 ^ 64 → Lists image left out out_now (Err Sink))
lists_some None left out out_now pages tallies made text = tt
lists_some (Some image) left out out_now pages tallies made text = λ few. record {
  lines = lines_of tallies;
  listing = is_listing image pages tallies made.pages_rise (made.all few) made.rise made.tallies_are;
  read = made.read few;
  text = text;
}
