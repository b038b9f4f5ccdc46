-- A walk along a linked list: what has been met leads up to here, and whatever list is linked begins with it.
use Rattle.std.proofs.Common.{◌≡◌, ℕ, ◌<◌, ◌≤◌, List, [], ◌∷◌, ◌++◌, length, All, Option, Some, None, refl, sym, ◌∙◌}
use Rattle.std.proofs.Common.{ap, subst, arith, append_assoc, append-nil, length-append}
use Rattle.std.proofs.lemmas.List.Elements.{All-contains, All-push, Contains-append_right}
use Rattle.page_source.proofs.Members.{contains_here}
use Rattle.space_header.specs.declared.address.Address.{Address}
use Rattle.space_header.specs.declared.address.Base.{Base}
use Rattle.space_header.specs.declared.address.Node.{Node}
use Rattle.space_header.specs.Header.{IsNull}
use Rattle.space_header.specs.Linked.{PointsTo, Leads, Linked}
use Rattle.space_header.proofs.Chains.{IsAddressing, linked_from_leads}

-- the rest of a list that begins with these members
pub record Rest (node : ℕ → Node) (address : ℕ → Address) (last : Address) (items : List ℕ) (before : Option ℕ)
    (found : Address) (whole : List ℕ) : Type 0 where
  pub rest : List ℕ
  pub is : whole ≡ items ++ rest
  pub leads : Leads node address last before found rest

pub record Walked (node : ℕ → Node) (address : ℕ → Address) (IsMember : ℕ
    → Type 0) (last first : Address) (items : List ℕ) (before : Option ℕ) (found : Address) : Type 0 where
  pub members : All IsMember items
  pub ahead : (rest : List ℕ) → Leads node address last before found rest
      → Leads node address last None first (items ++ rest)
  pub behind : (whole : List ℕ) → All IsMember whole → Leads node address last None first whole
      → length items ≤ length whole
      → Rest node address last items before found whole

pub walked_none : (node : ℕ → Node) (address : ℕ → Address) (IsMember : ℕ → Type 0) (last first : Address)
    → Walked node address IsMember last first [] None first
walked_none node address M last first = record {
  members = λ k d h. absurd (omega (arith, h));
  ahead =
      λ rest h. h;
  behind = λ whole m h n. record { rest = whole; is = refl; leads = h };
}

rest_more : (node : ℕ → Node) (address : ℕ → Address) (IsMember : ℕ
    → Type 0) (last : Address) (items : List ℕ) (before : Option ℕ) (found : Address)
    → IsAddressing address IsMember → (e : ℕ) → IsMember e → found ≡ address e
    → (whole rest : List ℕ) → All IsMember whole → whole ≡ items ++ rest
    → Leads node address last before found rest → length (items ++ e ∷ []) ≤ length whole
    → Rest node address last (items ++ e ∷ []) (Some e) (node e).next whole
rest_more node address M last items before found a e m f whole [] all is h n =
    absurd (omega (arith, n, ap length is, length-append items [], length-append items (e ∷ [])))
rest_more node address M last items before found a e m f whole (z ∷ rest) all is h n =
    let inside : M z = All-contains M whole z all (rw is (Contains-append_right items (z ∷ rest) z
    (contains_here z rest))) in
    let same : z ≡ e = a.one z e inside m (sym h.0 ∙ f) in
    record {
      rest = rest;
      is = is ∙ (ap (λ y. items ++ y ∷ rest) same ∙ sym (append_assoc items (e ∷ []) rest));
      leads = subst (λ y. Leads node address last (Some y) (node y).next rest) same h.2;
    }

pub walked_more : (node : ℕ → Node) (address : ℕ → Address) (IsMember : ℕ
    → Type 0) (last first : Address) (items : List ℕ) (before : Option ℕ) (found : Address)
    → IsAddressing address IsMember → (e : ℕ) → IsMember e → found ≡ address e → PointsTo address (node e).prev before
    → Walked node address IsMember last first items before found
    → Walked node address IsMember last first (items ++ e ∷ []) (Some e) (node e).next
walked_more node address M last first items before found a e m f p w =
    record {
      members = All-push M items e w.members m;
      ahead = λ rest h. rw append_assoc (w.ahead (e ∷ rest) (f, p, h));
      behind = λ whole all h n.
          let r = w.behind whole all h (omega (arith, n, length-append items (e ∷ []))) in
          rest_more node address M last items before found a e m f whole r.rest all r.is r.leads n;
    }

-- where a list is linked and more of it is left, it goes on from here
pub record GoesOn (node : ℕ → Node) (address : ℕ → Address) (IsMember : ℕ
    → Type 0) (before : Option ℕ) (found : Address) : Type 0 where
  pub member : ℕ
  pub is_member : IsMember member
  pub found_there : found ≡ address member
  pub back : PointsTo address (node member).prev before

goes_on : (node : ℕ → Node) (address : ℕ → Address) (IsMember : ℕ
    → Type 0) (last : Address) (items : List ℕ) (before : Option ℕ) (found : Address)
    → (whole rest : List ℕ) → All IsMember whole → whole ≡ items ++ rest
    → Leads node address last before found rest → length items < length whole
    → GoesOn node address IsMember before found
goes_on node address M last items before found whole [] all is h n =
    absurd (omega (arith, n, ap length is, length-append items []))
goes_on node address M last items before found whole (z ∷ rest) all is h n =
    record {
      member = z;
      is_member = All-contains M whole z all (rw is (Contains-append_right items (z ∷ rest) z
          (contains_here z rest)));
      found_there = h.0;
      back = h.1;
    }

pub walked_goes_on : (node : ℕ → Node) (address : ℕ → Address) (IsMember : ℕ
    → Type 0) (base : Base) (items : List ℕ) (before : Option ℕ) (found : Address)
    → Walked node address IsMember base.last base.first items before found → length items < base.length
    → (whole : List ℕ) → Linked base node address IsMember whole
    → GoesOn node address IsMember before found
walked_goes_on node address M base items before found w n whole h =
    let r = w.behind whole h.members h.leads (omega (arith, n, h.count)) in
    goes_on node address M base.last items before found whole r.rest h.members r.is r.leads (omega (arith, n, h.count))

-- and where none is left, it ends here
ends_here : (node : ℕ → Node) (address : ℕ → Address) (last : Address) (items : List ℕ) (before : Option ℕ)
    (found : Address)
    → (whole rest : List ℕ) → whole ≡ items ++ rest → Leads node address last before found rest
    → length whole ≤ length items
    → IsNull found × PointsTo address last before
ends_here node address last items before found whole [] is h n = (h.0, h.1)
ends_here node address last items before found whole (z ∷ rest) is h n =
    absurd (omega (arith, n, ap length is, length-append items (z ∷ rest)))

pub walked_ends : (node : ℕ → Node) (address : ℕ → Address) (IsMember : ℕ
    → Type 0) (base : Base) (items : List ℕ) (before : Option ℕ) (found : Address)
    → Walked node address IsMember base.last base.first items before found → length items ≡ base.length
    → (whole : List ℕ) → Linked base node address IsMember whole
    → IsNull found × PointsTo address base.last before
walked_ends node address M base items before found w n whole h =
    let r = w.behind whole h.members h.leads (omega (arith, n, h.count)) in
    ends_here node address base.last items before found whole r.rest r.is r.leads (omega (arith, n, h.count))

pub walked_linked : (node : ℕ → Node) (address : ℕ → Address) (IsMember : ℕ
    → Type 0) (base : Base) (items : List ℕ) (before : Option ℕ) (found : Address)
    → IsAddressing address IsMember → Walked node address IsMember base.last base.first items before found
    → length items ≡ base.length → IsNull found → PointsTo address base.last before
    → Linked base node address IsMember items
walked_linked node address M base items before found a w n null last =
    linked_from_leads base node address M a items n w.members (subst
    (λ xs. Leads node address base.last None base.first xs) (append-nil items) (w.ahead [] (null, last)))
