-- Laws of the definitions, each the contract of a function in a module of laws.
use Rattle.std.specs.Prelude.{◌≡◌, ℕ, ◌≤◌, ◌↔◌, ◌++◌, Bool, List, None}
use Rattle.column_values.specs.declared.kind.ColumnType.{ColumnType}
use Rattle.column_values.specs.Characters.{IsTextOfKind}
use Rattle.page_source.specs.Pages.{page_count}
use Rattle.space_header.specs.Header.{size_of}
use Rattle.offpage_chain.specs.declared.reference.Reference.{Reference}
use Rattle.offpage_chain.specs.Chain.{chain_pages, IsChain}
use Rattle.offpage_chain.specs.ChainChecks.{ChainChecks, IsWhole}
use Rattle.offpage_chain.specs.Reader.{GoesOn}

-- a reference leads along one list of pages at the most: those that are met one after another
abbrev pub HasOneChain : Type 0
HasOneChain =
    (file : List ℕ) (segment : ℕ) (reference : Reference) (pages : List ℕ) → size_of file ≤ 4194304
    → IsChain file segment reference pages → pages ≡ chain_pages file reference

-- the checks of a chain find nothing exactly where it is that of a whole value, of a type and behind some local bytes
abbrev pub ChecksAreWhole : Type 0
ChecksAreWhole =
    (file : List ℕ) (segment holder : ℕ) (reference : Reference) (taken : ℕ → Bool) (kind : ColumnType) (local : List ℕ)
    → size_of file ≤ 4194304
    → ChainChecks file segment holder reference taken (λ bytes. IsTextOfKind kind (local ++ bytes)) None
    ↔ IsWhole file segment reference taken (λ bytes. IsTextOfKind kind (local ++ bytes))

-- the value of a chain can be read along its pages, where the file has them
abbrev pub ChainGoesOn : Type 0
ChainGoesOn =
    (file : List ℕ) (segment : ℕ) (reference : Reference) (pages : List ℕ)
    → size_of file ≤ 4194304 → size_of file ≤ page_count file
    → IsChain file segment reference pages → GoesOn file reference.page reference.length pages
