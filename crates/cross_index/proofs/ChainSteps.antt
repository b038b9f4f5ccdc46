-- The bytes of a chain, read part by part.
use Rattle.std.proofs.Common.{◌≡◌, ℕ, ◌+◌, ◌≤◌, List, [], ◌∷◌, ◌++◌, length, slice_range, Some, None}
use Rattle.std.proofs.Common.{Err}
use Rattle.std.proofs.Common.{refl, sym, ap, ◌∙◌, subst, arith, append_assoc, length-append}
use Rattle.std.proofs.lemmas.List.{append-nil}
use Rattle.std.proofs.lemmas.List.Concat.{flat_map-append}
use Rattle.page_source.specs.declared.rule.Fault.{Fault}
use Rattle.page_source.specs.declared.checks.Halt.{Halt}
use Rattle.page_source.specs.declared.checks.Halt.TheVariants as halts
use Rattle.page_source.specs.Pages.{page_of}
use Rattle.offpage_chain.specs.declared.reference.Reference.{Reference}
use Rattle.offpage_chain.specs.Chain.{part_length, part_bytes, chain_pages, bytes_on}
use Rattle.offpage_chain.specs.Reader.{ChainRest, GoesOnAlong, GivesNext}
use Rattle.sql_dump.specs.Long.{CanFollowIn, chain_bytes}
use Rattle.sql_dump.proofs.Chains.{next_of}
use Rattle.cross_index.specs.Stops.{cross_stop_of, OnlyReads}

-- the bytes of the first pages of a chain were added, each for one fetch
pub record ChainSoFar (file : List ℕ) (reference : Reference) (rest : ChainRest) (old now : List ℕ) (most left : ℕ)
    : Type 0 where
  pub front : List ℕ
  pub back : List ℕ
  pub split : chain_pages file reference ≡ front ++ back
  pub goes_on : GoesOnAlong file rest back
  pub grown : now ≡ old ++ bytes_on file front
  pub used : left + length front ≡ most

pub chain_start : (file : List ℕ) (reference : Reference) (rest : ChainRest) (old : List ℕ) (left : ℕ)
    → rest ≡ record { page = reference.page; lacks = reference.length } → CanFollowIn file reference left
    → ChainSoFar file reference rest old old left left
unfolding bytes_on
chain_start file reference rest old left is can = record {
  front = [];
  back = chain_pages file reference;
  split = refl;
  goes_on = subst (λ (r : ChainRest). GoesOnAlong file r (chain_pages file reference)) (sym is) can.follow.goes_on;
  grown = sym (append-nil old);
  used = omega arith;
}

-- the reader never finds a rule broken
pub chain_reads : (file : List ℕ) (reference : Reference) (rest : ChainRest) (old now : List ℕ) (most left : ℕ)
    (halt : Halt) → ChainSoFar file reference rest old now most left → length (chain_pages file reference) ≤ most
    → ((pages : List ℕ) (fault : Fault) → GoesOnAlong file rest pages → length pages ≤ left
    → halt ≡ halts.Broken fault → ⊥)
    → OnlyReads {A = Unit {0}} (Err (cross_stop_of halt))
chain_reads file reference rest old now most left halt so few never =
    by_halt halt (λ fault. never so.back fault so.goes_on
    (omega (arith, ap length so.split ∙ length-append so.front so.back, few, so.used)))
  where
    by_halt : (halt : Halt) → ((fault : Fault) → halt ≡ halts.Broken fault → ⊥)
        → OnlyReads {A = Unit {0}} (Err (cross_stop_of halt))
    by_halt (halts.Broken fault) never = never fault refl
    by_halt halts.Source never = tt

-- none is left: the whole was added
pub chain_ends : (file : List ℕ) (reference : Reference) (rest new : ChainRest) (old now : List ℕ) (most left : ℕ)
    (page : List ℕ) → (so : ChainSoFar file reference rest old now most left)
    → ((pages : List ℕ) → GoesOnAlong file rest pages → GivesNext file pages new None page)
    → (now ≡ old ++ chain_bytes file reference) × (left + length (chain_pages file reference) ≡ most)
unfolding chain_bytes
chain_ends file reference rest new old now most left page so gives =
    by_rest so.back so.split (gives so.back so.goes_on)
  where
    by_rest : (back : List ℕ) → chain_pages file reference ≡ so.front ++ back → GivesNext file back new None page
        → (now ≡ old ++ bytes_on file (chain_pages file reference)) × (left + length (chain_pages file reference)
        ≡ most)
    by_rest [] split none =
        let all : chain_pages file reference ≡ so.front = split ∙ append-nil so.front in
        rw all (so.grown, so.used)
    by_rest (p ∷ back) split none = absurd (cc (none.0))

-- a part more
pub chain_more : (file : List ℕ) (reference : Reference) (rest new : ChainRest) (old now next : List ℕ)
    (most left less n : ℕ) (page : List ℕ) → ChainSoFar file reference rest old now most left
    → ((pages : List ℕ) → GoesOnAlong file rest pages → GivesNext file pages new (Some n) page)
    → next ≡ now ++ slice_range page 46 (46 + n) → less + 1 ≡ left
    → ChainSoFar file reference new old next most less
unfolding bytes_on
chain_more file reference rest new old now next most left less n page so gives grown one =
    let is = next_of file so.back new n page (gives so.back so.goes_on) in
    let bytes : List ℕ → List ℕ = λ pages. bytes_on file pages in
    let here : slice_range page 46 (46 + n) ≡ bytes_on file (is.p ∷ []) =
    ap (λ (k : ℕ). slice_range page 46 (46 + k)) is.size
    ∙ ap (λ (list : List ℕ). slice_range list 46 (46 + part_length (page_of file is.p))) is.held
    ∙ sym (append-nil (part_bytes (page_of file is.p))) in
    let both : bytes_on file (so.front ++ is.p ∷ []) ≡ bytes_on file so.front ++ bytes_on file (is.p ∷ []) =
    flat_map-append (λ n. part_bytes (page_of file n)) so.front (is.p ∷ []) in
    record {
      front = so.front ++ is.p ∷ [];
      back = is.back;
      split = so.split ∙ ap (λ (t : List ℕ). so.front ++ t) is.split
          ∙ sym (append_assoc so.front (is.p ∷ []) is.back);
      goes_on = is.goes_on;
      grown = grown ∙ ap (λ (t : List ℕ). t ++ slice_range page 46 (46 + n)) so.grown
          ∙ ap (λ (t : List ℕ). (old ++ bytes_on file so.front) ++ t) here
          ∙ append_assoc old (bytes_on file so.front) (bytes_on file (is.p ∷ []))
          ∙ ap (λ (t : List ℕ). old ++ t) (sym both);
      used = omega (arith, so.used, one, length-append so.front (is.p ∷ []));
    }
