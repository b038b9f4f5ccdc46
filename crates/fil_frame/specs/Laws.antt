-- A law of sealed pages, the contract of a function in the module of laws.
use Rattle.std.specs.Prelude.{◌≡◌, ℕ, ◌^◌, ◌<◌, List, length}
use Rattle.fil_frame.specs.Frame.{Seals, sealed}

-- the sealed page is whole, and its frame is right
pub record IsSealed (page : List ℕ) (n space lsn kind : ℕ) : Type 0 where
  pub whole : length (sealed page n space lsn kind) ≡ 16384
  pub seals : Seals page (sealed page n space lsn kind) n space lsn kind

-- a whole page that is sealed is whole, and its frame is right, if the numbers fit their fields
abbrev pub SealedPagesAreWhole : Type 0
SealedPagesAreWhole =
    (page : List ℕ) (n space lsn kind : ℕ) → length page ≡ 16384 → n < 2 ^ 32 → space < 2 ^ 32 → lsn < 2 ^ 64
    → kind < 2 ^ 16 → IsSealed page n space lsn kind
