-- Records that are read one after another.
use Rattle.std.proofs.Common.{◌≡◌, ℕ, ◌+◌, List, [], ◌∷◌, ◌++◌, subst}
use Rattle.std.proofs.lemmas.Slice.Zip.{all_zipped_more}
use Rattle.column_values.specs.Types.{Fields}
use Rattle.compact_record.specs.Reading.{Reading, IsReading}
use Rattle.index_page.specs.Header.{record_at, records_from}
use Rattle.index_page.specs.Readings.{AreRead}
use Rattle.index_page.proofs.RecordWalk.{records_from_none, records_from_more}

pub read_none : (page : List ℕ) (fields : Fields) (first : ℕ) (items : List Reading) → items ≡ []
    → AreRead page fields (records_from page first 0) items
read_none page fields first items none = rw (none, records_from_none page first) tt

pub read_more : (page : List ℕ) (fields : Fields) (first i origin : ℕ) (reading : Reading)
    (before after : List Reading) → origin ≡ record_at page first i
    → AreRead page fields (records_from page first i) before → IsReading page origin fields reading
    → after ≡ before ++ reading ∷ []
    → AreRead page fields (records_from page first (i + 1)) after
read_more page fields first i origin reading before after place all here grown =
    let P : ℕ → Type 0 = λ o. IsReading page o fields reading in
    rw (grown, records_from_more page first i) (all_zipped_more (λ o r. IsReading page o fields r)
    (records_from page first i) before (record_at page first i) reading all (subst P place here))
