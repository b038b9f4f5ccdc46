-- The reference to an externally stored value, 20 bytes (btr0types).
use Rattle.std.specs.Prelude.{ℕ, ◌<◌, ◌^◌, List, length, drop, ◌++◌, ◌-◌, replicate}
use Rattle.page_source.specs.Pages.{num, be_bytes}
use Rattle.offpage_chain.specs.declared.reference.Reference.{Reference}

-- the flags and the high bytes of the length aren't read
unfoldable pub reference_in : List ℕ → Reference
reference_in bytes = record {
  space = num bytes 0 4;
  page = num bytes 4 4;
  offset = num bytes 8 4;
  length = num bytes 16 4;
}

-- the flags and the high bytes of the length are written as 0
unfoldable pub reference_bytes : Reference → List ℕ
reference_bytes reference =
    be_bytes 4 reference.space ++ be_bytes 4 reference.page ++ be_bytes 4 reference.offset
    ++ replicate 4 0 ++ be_bytes 4 reference.length

-- the fields of a reference fit their bytes
pub record FitsReference (reference : Reference) : Type 0 where
  pub space : reference.space < 2 ^ 32
  pub page : reference.page < 2 ^ 32
  pub offset : reference.offset < 2 ^ 32
  pub length : reference.length < 2 ^ 32

-- the last 20 bytes are the reference, and those before it begin the value
abbrev pub reference_of : List ℕ → Reference
reference_of local = reference_in (drop (length local - 20) local)
