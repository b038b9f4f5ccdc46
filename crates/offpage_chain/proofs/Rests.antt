-- What is left of a chain that can be read.
use Rattle.std.proofs.Common.{◌≡◌, ℕ, ◌<◌, List, [], ◌∷◌, ◌∙◌, sym, ap, subst, arith}
use Rattle.page_source.specs.Pages.{page_of, page_count}
use Rattle.offpage_chain.specs.ChainChecks.{IsChainPart}
use Rattle.offpage_chain.specs.Reader.{ChainRest, GoesOnAlong, IsRest}

-- the page that is due
along_due : (file : List ℕ) (rest : ChainRest) (pages : List ℕ) → 0 < rest.lacks → GoesOnAlong file rest pages
    → rest.page < page_count file
along_due file rest [] some goes = absurd (omega (arith, goes))
along_due file rest (p ∷ pages) some goes = omega (arith, goes.0, goes.1)

pub due_page : (file : List ℕ) (rest : ChainRest) → 0 < rest.lacks → IsRest file rest → rest.page < page_count file
due_page file rest some whole = along_due file rest whole.0 some whole.1

-- its part
pub due_part : (file : List ℕ) (rest : ChainRest) (pages : List ℕ) (page : List ℕ) → 0 < rest.lacks
    → GoesOnAlong file rest pages
    → page ≡ page_of file rest.page → IsChainPart page rest.lacks
due_part file rest [] page some goes is = absurd (omega (arith, goes))
due_part file rest (p ∷ pages) page some goes is =
    subst (λ (bytes : List ℕ). IsChainPart bytes rest.lacks) (sym (is ∙ ap (page_of file) goes.0)) goes.2
