-- The checks of a chain, and the chain of a whole value.
use Rattle.std.proofs.Common.{◌≡◌, ◌≢◌, ◌↔◌, ℕ, zero, suc, ◌-◌, ◌<◌, ◌≤◌, ◌==◌, Bool, true, false, cond, List, [], ◌∷◌}
use Rattle.std.proofs.Common.{length, take, get_or, slice_index, All, refl, sym, ap, ◌∙◌, subst, None, arith}
use Rattle.std.proofs.lemmas.Bool.{false≢true, eq-eqb, ne_eqb}
use Rattle.std.proofs.lemmas.List.{get_or-take}
use Rattle.page_source.specs.Pages.{page_of, page_count, fil_null}
use Rattle.page_source.specs.Lists.{AreDistinct}
use Rattle.page_source.specs.Verdict.{EachOf}
use Rattle.space_header.specs.Header.{size_of}
use Rattle.space_audit.specs.Marks.{is_in, seen}
use Rattle.offpage_chain.specs.declared.reference.Reference.{Reference}
use Rattle.offpage_chain.specs.Chain.{pages_from, chain_pages, bytes_on, total_on, IsBlobPage, IsChain}
use Rattle.offpage_chain.specs.ChainChecks.{AuditedPlace, IsChainPart, PartCheck, ChainChecks, ChainChecksBy, IsWhole}
use Rattle.offpage_chain.specs.Reader.{GoesOn}
use Rattle.offpage_chain.proofs.Links.{Links, met, links_pages, links_met, links_part, links_parts, links_total}
use Rattle.offpage_chain.proofs.Links.{links_next, chain_links, links_go_on}

chain_real : (file : List ℕ) (segment : ℕ) (reference : Reference) (pages : List ℕ) → size_of file ≤ 4194304
    → IsChain file segment reference pages
    → All (λ p. p < fil_null) pages
chain_real file segment reference pages size chain = λ k d h. omega (arith, (chain.blobs k d h).below, size)

links_of : (file : List ℕ) (segment : ℕ) (reference : Reference) (pages : List ℕ) → size_of file ≤ 4194304
    → IsChain file segment reference pages
    → Links file reference.page reference.length pages
links_of file segment reference pages size chain =
    chain_links file reference.page reference.length pages (λ some. sym chain.first) chain.next chain.parts
    (chain_real file segment reference pages size chain) chain.total

pub chain_goes_on : (file : List ℕ) (segment : ℕ) (reference : Reference) (pages : List ℕ) → size_of file ≤ 4194304
    → size_of file ≤ page_count file
    → IsChain file segment reference pages → GoesOn file reference.page reference.length pages
chain_goes_on file segment reference pages size inside chain =
    links_go_on file reference.page reference.length pages (links_of file segment reference pages size chain)
    (λ k d h. omega (arith, (chain.blobs k d h).below, inside))

-- members of the front of a list
is_in_front : (xs : List ℕ) (i d : ℕ) → i < length xs → is_in xs (get_or xs i d) ≡ true
is_in_front [] i d h = absurd (omega (arith, h))
is_in_front (x ∷ xs) zero d h = rw (eq-eqb x x refl) refl
is_in_front (x ∷ xs) (suc i) d h =
    rw (is_in_front xs i d (omega (
      arith,
      h,
    ))) (elim (x == get_or xs i d) as (λ b. cond b true true ≡ true) [ true ↦ refl | false ↦ refl ])

not_in : (xs : List ℕ) (n : ℕ) → ((i : ℕ) → i < length xs → get_or xs i 0 ≢ n) → is_in xs n ≡ false
not_in [] n h = refl
not_in (x ∷ xs) n h =
    rw (ne_eqb x n (h 0 (omega arith))) (not_in xs n (λ i l. h (suc i) (omega (arith, l))))

take_length : (xs : List ℕ) (j : ℕ) → j ≤ length xs → length (take j xs) ≡ j
take_length xs zero h = refl
take_length [] (suc j) h = absurd (omega (arith, h))
take_length (x ∷ xs) (suc j) h = omega (arith, take_length xs j (omega (arith, h)))

get_same : (xs : List ℕ) (k d : ℕ) → k < length xs → get_or xs k d ≡ get_or xs k 0
get_same [] k d h = absurd (omega (arith, h))
get_same (x ∷ xs) zero d h = refl
get_same (x ∷ xs) (suc k) d h = get_same xs k d (omega (arith, h))

unseen : (taken : ℕ → Bool) (list : List ℕ) (n : ℕ) → seen taken list n ≡ false
    → (taken n ≡ false) × (is_in list n ≡ false)
unseen taken list n h = unseen_by (taken n) (is_in list n) h where
  unseen_by : (a b : Bool) → cond a true b ≡ false → (a ≡ false) × (b ≡ false)
  unseen_by true b e = absurd (false≢true (sym e))
  unseen_by false b e = (refl, e)

see_none : (taken : ℕ → Bool) (list : List ℕ) (n : ℕ) → taken n ≡ false → is_in list n ≡ false
    → seen taken list n ≡ false
see_none taken list n a b = rw a b

-- what the checks of all pages say
pub record HoldsAll (file : List ℕ) (segment holder : ℕ) (reference : Reference) (taken : ℕ → Bool) : Type 0 where
  pub links : Links file reference.page reference.length (chain_pages file reference)
  pub blobs : All (IsBlobPage file segment) (chain_pages file reference)
  pub distinct : AreDistinct (chain_pages file reference)
  pub new : All (λ n. taken n ≡ false) (chain_pages file reference)

-- where each page has its part, the value goes on along them
pub links_all : (file : List ℕ) (reference : Reference)
    → ((j d : ℕ) → j < length (chain_pages file reference)
    → IsChainPart (page_of file (get_or (chain_pages file reference) j d))
    (reference.length - total_on file (take j (chain_pages file reference))))
    → Links file reference.page reference.length (chain_pages file reference)
unfolding chain_pages
links_all file reference parts =
    links_met file reference.length reference.page reference.length (chain_pages file reference) refl
    (omega arith) parts

pub holds_all : (file : List ℕ) (segment holder : ℕ) (reference : Reference) (taken : ℕ → Bool)
    → EachOf (chain_pages file reference) (PartCheck file (AuditedPlace file segment) holder reference taken) None
    → HoldsAll file segment holder reference taken
holds_all file segment holder reference taken checks =
    let pages = chain_pages file reference in
    record {
      links = links_all file reference (λ j d h. (checks j d h).1);
      blobs = λ j d h. (checks j d h).0.blob;
      distinct = λ i j d l h e.
          let fresh = (unseen taken (take j pages) (get_or pages j d) (checks j d h).0.new).1 in
          let member : is_in (take j pages) (get_or (take j pages) i d) ≡ true =
          is_in_front (take j pages) i d (omega (arith, l, take_length pages j (omega (arith, h)))) in
          let same : get_or (take j pages) i d ≡ get_or pages j d = get_or-take j pages i d l ∙ e in
          absurd (false≢true (sym fresh ∙ (ap (is_in (take j pages)) (sym same) ∙ member)));
      new = λ j d h. (unseen taken (take j pages) (get_or pages j d) (checks j d h).0.new).0;
    }

pub all_hold : (file : List ℕ) (segment holder : ℕ) (reference : Reference) (taken : ℕ → Bool)
    → HoldsAll file segment holder reference taken
    → EachOf (chain_pages file reference) (PartCheck file (AuditedPlace file segment) holder reference taken) None
all_hold file segment holder reference taken h j d l =
    let pages = chain_pages file reference in (
      record {
        blob = h.blobs j d l;
        new = see_none taken (take j pages) (get_or pages j d) (h.new j d l)
            (not_in (take j pages) (get_or pages j d) (λ i m e.
            let few : i < j = omega (arith, m, take_length pages j (omega (arith, l))) in
            h.distinct i j d few l (get_same pages i d (omega (arith, few, l)) ∙ (sym (get_or-take j pages i 0 few)
            ∙ e))));
      },
      links_part file reference.page reference.length pages j d h.links l,
    )

-- the first page is met where a byte is stated
some_pages : (file : List ℕ) (reference : Reference) → 1 ≤ reference.length
    → (1 ≤ length (chain_pages file reference)) × (slice_index (chain_pages file reference) 0 ≡ reference.page)
unfolding chain_pages
some_pages file reference some = some_met file reference.length reference.page some where
  some_met : (file : List ℕ) (left n : ℕ) → 1 ≤ left
      → (1 ≤ length (pages_from file left n left)) × (slice_index (pages_from file left n left) 0 ≡ n)
  some_met file zero n some = absurd (omega (arith, some))
  some_met file (suc less) n some = rw (met file less n (suc less) (λ z. omega (arith, z))) (omega arith, refl)

one_chain : (file : List ℕ) (reference : Reference) (pages : List ℕ)
    → Links file reference.page reference.length pages → pages ≡ chain_pages file reference
unfolding chain_pages
one_chain file reference pages links = links_pages file reference.page reference.length reference.length pages
    (omega arith) links

stated : (file : List ℕ) (n left : ℕ) (pages : List ℕ) → 1 ≤ length pages → Links file n left pages → 1 ≤ left
stated file n left [] some links = absurd (omega (arith, some))
stated file n left (p ∷ pages) some links = omega (arith, links.1.part.0, links.1.within)

whole_of : (file : List ℕ) (segment holder : ℕ) (reference : Reference) (taken : ℕ → Bool) (IsText : List ℕ → Type 0)
    → ChainChecks file segment holder reference taken IsText None → IsWhole file segment reference taken IsText
unfolding ChainChecksBy
whole_of file segment holder reference taken IsText checks =
    let all = holds_all file segment holder reference taken checks.1.1.0 in
    let pages = chain_pages file reference in
    let some = some_pages file reference checks.0 in
    record {
      pages = pages;
      chain = record {
        here = checks.1.0;
        some_page = some.0;
        first = some.1;
        next = λ k h. links_next file reference.page reference.length pages k 0 all.links h;
        parts = links_parts file reference.page reference.length pages all.links;
        total = links_total file reference.page reference.length pages all.links;
        blobs = all.blobs;
      };
      distinct = all.distinct;
      new = all.new;
      text = checks.1.1.1;
    }

checks_of : (file : List ℕ) (segment holder : ℕ) (reference : Reference) (taken : ℕ → Bool) (IsText : List ℕ
    → Type 0) → size_of file ≤ 4194304
    → IsWhole file segment reference taken IsText → ChainChecks file segment holder reference taken IsText None
unfolding ChainChecksBy
checks_of file segment holder reference taken IsText size whole =
    let links = links_of file segment reference whole.pages size whole.chain in
    let same = one_chain file reference whole.pages links in
    let all : HoldsAll file segment holder reference taken = record {
      links = subst (λ (t : List ℕ). Links file reference.page reference.length t) same links;
      blobs = subst (λ (t : List ℕ). All (IsBlobPage file segment) t) same whole.chain.blobs;
      distinct = subst (λ (t : List ℕ). AreDistinct t) same whole.distinct;
      new = subst (λ (t : List ℕ). All (λ n. taken n ≡ false) t) same whole.new;
    } in
    let some : 1 ≤ reference.length = stated file reference.page reference.length whole.pages whole.chain.some_page
    links in (
      some,
      (
        whole.chain.here,
        (
          all_hold file segment holder reference taken all,
          subst (λ (t : List ℕ). IsText (bytes_on file t)) same whole.text,
        ),
      ),
    )

pub checks_are_whole : (file : List ℕ) (segment holder : ℕ) (reference : Reference) (taken : ℕ
    → Bool) (IsText : List ℕ → Type 0) → size_of file ≤ 4194304
    → ChainChecks file segment holder reference taken IsText None ↔ IsWhole file segment reference taken IsText
checks_are_whole file segment holder reference taken IsText size = (
  (λ c. whole_of file segment holder reference taken IsText c),
  (λ w. checks_of file segment holder reference taken IsText size w),
)

pub has_one_chain : (file : List ℕ) (segment : ℕ) (reference : Reference) (pages : List ℕ) → size_of file ≤ 4194304
    → IsChain file segment reference pages
    → pages ≡ chain_pages file reference
has_one_chain file segment reference pages size chain = one_chain file reference pages
    (links_of file segment reference pages size chain)
