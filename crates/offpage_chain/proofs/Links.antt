-- A value that goes on along a list of pages, and the ways to say so.
use Rattle.std.proofs.Common.{◌≡◌, ◌≢◌, ℕ, zero, suc, ◌+◌, ◌-◌, ◌<◌, ◌≤◌, List, [], ◌∷◌, length, take, get_or, All}
use Rattle.std.proofs.Common.{refl, sym, ap, ◌∙◌, subst, arith}
use Rattle.std.proofs.lemmas.Bool.{ne_eqb}
use Rattle.std.proofs.lemmas.List.Sums.{sum_by-cons}
use Rattle.std.proofs.lemmas.List.Elements.{All-head, All-tail, All-cons}
use Rattle.page_source.specs.Pages.{page_of, page_count, fil_null}
use Rattle.page_source.specs.Lists.{after_place}
use Rattle.offpage_chain.specs.Chain.{part_length, next_part, pages_from, total_on, IsPartLength}
use Rattle.offpage_chain.specs.ChainChecks.{IsChainPart}
use Rattle.offpage_chain.specs.Reader.{GoesOn}

-- the value goes on along these pages, wherever they lie
abbrev pub Links : List ℕ → ℕ → ℕ → List ℕ → Type 0
Links file n left [] = left ≡ 0
Links file n left (p ∷ pages) =
    (n ≡ p) × IsChainPart (page_of file p) left × Links file (next_part (page_of file p))
    (left - part_length (page_of file p)) pages

pub total_none : (file : List ℕ) → total_on file [] ≡ 0
unfolding total_on
total_none file = refl

pub total_cons : (file : List ℕ) (p : ℕ) (pages : List ℕ)
    → total_on file (p ∷ pages) ≡ part_length (page_of file p) + total_on file pages
unfolding total_on
total_cons file p pages = sum_by-cons (λ m. part_length (page_of file m)) p pages

-- these pages are those that are met
pub links_pages : (file : List ℕ) (n left fuel : ℕ) (pages : List ℕ) → left ≤ fuel → Links file n left pages
    → pages ≡ pages_from file fuel n left
links_pages file n left zero [] enough links = refl
links_pages file n left (suc fuel) [] enough links = rw links refl
links_pages file n left zero (p ∷ pages) enough links = absurd (omega (arith, links.1.part.0, links.1.within, enough))
links_pages file n left (suc fuel) (p ∷ pages) enough links =
    let some : left ≢ 0 = λ e. omega (arith, e, links.1.part.0, links.1.within) in
    let rest = links_pages file (next_part (page_of file p))
    (left - part_length (page_of file p)) fuel pages (omega (
      arith,
      links.1.part.0,
      links.1.within,
      enough,
    )) links.2 in
    rw (ne_eqb left 0 some, links.0) (ap (λ (t : List ℕ). p ∷ t) rest)

-- the page at hand is met where a byte is left
pub met : (file : List ℕ) (fuel n left : ℕ) → left ≢ 0
    → pages_from file (suc fuel) n left ≡ n ∷ pages_from file fuel (next_part (page_of file n))
    (left - part_length (page_of file n))
met file fuel n left some = rw (ne_eqb left 0 some) refl

-- each page of a list has its part
abbrev pub HaveParts : List ℕ → ℕ → List ℕ → Type 0
HaveParts file left pages =
    (j d : ℕ) → j < length pages → IsChainPart (page_of file (get_or pages j d)) (left - total_on file (take j pages))

-- where each page that is met has its part, the value goes on along them
pub links_met : (file : List ℕ) (fuel n left : ℕ) (pages : List ℕ) → pages ≡ pages_from file fuel n left → left ≤ fuel
    → HaveParts file left pages → Links file n left pages
links_met file zero n left pages e enough parts = subst (λ (t : List ℕ). Links file n left t) (sym e) (omega (
  arith,
  enough,
))
links_met file (suc fuel) n zero pages e enough parts = subst (λ (t : List ℕ). Links file n 0 t) (sym e) refl
links_met file (suc fuel) n (suc less) pages e enough parts =
    let rest = pages_from file fuel (next_part (page_of file n)) (suc less - part_length (page_of file n)) in
    let here : pages ≡ n ∷ rest = e ∙ met file fuel n (suc less) (λ z. omega (arith, z)) in
    let each : HaveParts file (suc less) (n ∷ rest) = subst (λ (t : List ℕ). HaveParts file (suc less) t) here parts in
    let first : IsChainPart (page_of file n) (suc less) =
    subst (λ (k : ℕ). IsChainPart (page_of file n) k) (omega (arith, total_none file)) (each 0 0 (omega arith)) in
    subst (λ (t : List ℕ). Links file n (suc less) t) (sym here) (
      refl,
      first,
      links_met file fuel (next_part (page_of file n))
          (suc less - part_length (page_of file n)) rest refl (omega (arith, first.part.0, enough))
          (λ j d h. subst (λ (k : ℕ). IsChainPart (page_of file (get_or rest j d)) k)
          (omega (arith, total_cons file n (take j rest))) (each (suc j) d (omega (arith, h)))),
    )

-- each page has its part
pub links_part : (file : List ℕ) (n left : ℕ) (pages : List ℕ) (j d : ℕ) → Links file n left pages → j < length pages
    → IsChainPart (page_of file (get_or pages j d)) (left - total_on file (take j pages))
links_part file n left [] j d links h = absurd (omega (arith, h))
links_part file n left (p ∷ pages) zero d links h = subst (λ (k : ℕ). IsChainPart (page_of file p) k) (omega (
  arith,
  total_none file,
)) links.1
links_part file n left (p ∷ pages) (suc j) d links h =
    subst (λ (k : ℕ). IsChainPart (page_of file (get_or pages j d)) k)
    (omega (arith, total_cons file p (take j pages)))
    (links_part file (next_part (page_of file p))
    (left - part_length (page_of file p)) pages j d links.2 (omega (arith, h)))

pub links_parts : (file : List ℕ) (n left : ℕ) (pages : List ℕ) → Links file n left pages
    → All (λ p. IsPartLength (part_length (page_of file p))) pages
links_parts file n left [] links = λ k d h. absurd (omega (arith, h))
links_parts file n left (p ∷ pages) links =
    All-cons (λ p. IsPartLength (part_length (page_of file p))) p pages links.1.part
    (links_parts file (next_part (page_of file p)) (left - part_length (page_of file p)) pages links.2)

-- the parts are the length
pub links_total : (file : List ℕ) (n left : ℕ) (pages : List ℕ) → Links file n left pages → total_on file pages ≡ left
links_total file n left [] links = total_none file ∙ sym links
links_total file n left (p ∷ pages) links =
    let rest = links_total file (next_part (page_of file p)) (left - part_length (page_of file p)) pages links.2 in
    omega (arith, total_cons file p pages, rest, links.1.within)

after_more : (p : ℕ) (pages : List ℕ) (k : ℕ) → after_place fil_null (p ∷ pages) (suc k) ≡ after_place fil_null pages k
after_more p pages k = let more : suc k + 1 ≡ suc (k + 1) = omega arith in ap (λ (i : ℕ). get_or
    (p ∷ pages) i fil_null) more

-- each page leads to the next one
next_here : (file : List ℕ) (p left : ℕ) (pages : List ℕ) → IsChainPart (page_of file p) left
    → Links file (next_part (page_of file p)) (left - part_length (page_of file p)) pages
    → next_part (page_of file p) ≡ get_or pages 0 fil_null
next_here file p left [] part links = part.ended.1 (omega (arith, links, part.within))
next_here file p left (q ∷ pages) part links = links.0

pub links_next : (file : List ℕ) (n left : ℕ) (pages : List ℕ) (k d : ℕ) → Links file n left pages → k < length pages
    → next_part (page_of file (get_or pages k d)) ≡ after_place fil_null pages k
links_next file n left [] k d links h = absurd (omega (arith, h))
links_next file n left (p ∷ pages) zero d links h = next_here file p left pages links.1 links.2
links_next file n left (p ∷ pages) (suc k) d links h =
    links_next file (next_part (page_of file p))
    (left - part_length (page_of file p)) pages k d links.2 (omega (arith, h)) ∙ sym (after_more p pages k)

-- a list of pages of which each leads to the next one
pub chain_links : (file : List ℕ) (n left : ℕ) (pages : List ℕ) → (1 ≤ length pages → n ≡ get_or pages 0 0)
    → ((k : ℕ) → k < length pages → next_part (page_of file (get_or pages k 0)) ≡ after_place fil_null pages k)
    → All (λ p. IsPartLength (part_length (page_of file p))) pages → All (λ p. p < fil_null) pages
    → total_on file pages ≡ left → Links file n left pages
chain_links file n left [] first next parts real total = sym total ∙ total_none file
chain_links file n left (p ∷ []) first next parts real total =
    let one = All-head (λ p. IsPartLength (part_length (page_of file p))) p [] parts in
    let whole : part_length (page_of file p) ≡ left = omega (arith, total, total_cons file p [], total_none file) in (
      first (omega arith),
      record {
        part = one;
        within = omega (arith, whole);
        ended = (
          (λ e. whole),
          (λ e. next 0 (omega arith)),
        );
      },
      omega (arith, whole),
    )
chain_links file n left (p ∷ q ∷ pages) first next parts real total =
    let one = All-head (λ p. IsPartLength (part_length (page_of file p))) p (q ∷ pages) parts in
    let others = All-tail (λ p. IsPartLength (part_length (page_of file p))) p (q ∷ pages) parts in
    let two = All-head (λ p. IsPartLength (part_length (page_of file p))) q pages others in
    let below = All-tail (λ p. p < fil_null) p (q ∷ pages) real in
    let low = All-head (λ p. p < fil_null) q pages below in
    let to : next_part (page_of file p) ≡ q = next 0 (omega arith) in
    let sums : total_on file (p ∷ q ∷ pages) ≡ part_length (page_of file p) + (part_length
    (page_of file q) + total_on file pages) =
    total_cons file p (q ∷ pages) ∙ ap (λ (k : ℕ). part_length (page_of file p) + k) (total_cons file q pages) in (
      first (omega arith),
      record {
        part = one;
        within = omega (arith, total, sums);
        ended = ((λ e. absurd (omega (arith, e, to, low))), (λ e. absurd (omega (arith, e, total, sums, two.0))));
      },
      chain_links file (next_part (page_of file p)) (left - part_length (page_of file p)) (q ∷ pages) (λ some. to)
          (λ k h. next (suc k) (omega (arith, h))
          ∙ after_more p (q ∷ pages) k) others below (omega (arith, total, total_cons file p (q ∷ pages))),
    )

-- pages that the file has can be read
pub links_go_on : (file : List ℕ) (n left : ℕ) (pages : List ℕ) → Links file n left pages
    → All (λ p. p < page_count file) pages → GoesOn file n left pages
links_go_on file n left [] links inside = links
links_go_on file n left (p ∷ pages) links inside = (
  links.0,
  All-head (λ p. p < page_count file) p pages inside,
  links.1,
  links_go_on file (next_part (page_of file p))
      (left - part_length (page_of file p)) pages links.2 (All-tail (λ p. p < page_count file) p pages inside),
)
