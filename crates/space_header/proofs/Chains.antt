-- A base and nodes link one list at the most, and its members differ.
use Rattle.std.proofs.Common.{◌≡◌, ℕ, ◌+◌, ◌*◌, ◌/◌, ◌%◌, ◌<◌, ◌≤◌, List, [], ◌∷◌, length, All, Contains, Option, Some}
use Rattle.std.proofs.Common.{None, refl, sym, ◌∙◌, ap, subst, inl, inr, arith}
use Rattle.std.proofs.lemmas.List.Elements.{All-head, All-tail, All-contains}
use Rattle.page_source.specs.Pages.{fil_null}
use Rattle.page_source.specs.Lists.{AreDistinct}
use Rattle.page_source.proofs.Members.{contains_none, contains_here, contains_there, contains_cases, distinct_none}
use Rattle.page_source.proofs.Members.{distinct_cons}
use Rattle.space_header.specs.declared.address.Address.{Address}
use Rattle.space_header.specs.declared.address.Base.{Base}
use Rattle.space_header.specs.declared.address.Node.{Node}
use Rattle.space_header.specs.Header.{IsNull, extent_address, node_address}
use Rattle.space_header.specs.Linked.{Leads, Linked}

-- addresses of members differ, and none is null
pub record IsAddressing (address : ℕ → Address) (IsMember : ℕ → Type 0) : Type 0 where
  pub one : (m n : ℕ) → IsMember m → IsMember n → address m ≡ address n → m ≡ n
  pub found : (n : ℕ) → IsMember n → ¬ (IsNull (address n))

-- the nodes lead along one list at the most
leads_one : (node : ℕ → Node) (address : ℕ → Address) (IsMember : ℕ → Type 0) (last : Address)
    → IsAddressing address IsMember
    → (before : Option ℕ) (found : Address) (xs ys : List ℕ) → All IsMember xs → All IsMember ys
    → Leads node address last before found xs → Leads node address last before found ys → xs ≡ ys
leads_one node address M last a before found [] [] p q h k = refl
leads_one node address M last a before found [] (y ∷ ys) p q h k =
    absurd (a.found y (All-head M y ys q) (subst IsNull k.0 h.0))
leads_one node address M last a before found (x ∷ xs) [] p q h k =
    absurd (a.found x (All-head M x xs p) (subst IsNull h.0 k.0))
leads_one node address M last a before found (x ∷ xs) (y ∷ ys) p q h k =
    let e : x ≡ y = a.one x y (All-head M x xs p) (All-head M y ys q) (sym h.0 ∙ k.0) in
    let there : Leads node address last (Some x) (node x).next ys =
    subst (λ z. Leads node address last (Some z) (node z).next ys) (sym e) k.2 in
    let rest : xs ≡ ys = leads_one node address M last a (Some x) (node x).next xs ys (All-tail M x xs p)
    (All-tail M y ys q) h.2 there in
    cc

pub linked_one : (base : Base) (node : ℕ → Node) (address : ℕ → Address) (IsMember : ℕ → Type 0)
    → IsAddressing address IsMember
    → (xs ys : List ℕ) → Linked base node address IsMember xs → Linked base node address IsMember ys → xs ≡ ys
linked_one base node address M a xs ys h k = leads_one node address M base.last a None base.first xs ys h.members
    k.members h.leads k.leads

-- a member behind the first points back to one of those before it
points_back : (node : ℕ → Node) (address : ℕ → Address) (last : Address) (before : ℕ) (found : Address) (xs : List ℕ)
    → Leads node address last (Some before) found xs → (n : ℕ) → Contains xs n → (p : ℕ)
    × Contains (before ∷ xs) p × ((node n).prev ≡ address p)
points_back node address last before found [] h n c = absurd (contains_none n c)
points_back node address last before found (x ∷ xs) h n c = elim (contains_cases x xs n c) [
  | inl e ↦ (before, contains_here before (x ∷ xs), subst (λ z. (node z).prev ≡ address before) e h.1)
  | inr k ↦ let r = points_back node address last x (node x).next xs h.2 n k in
      (r.0, contains_there before (x ∷ xs) r.0 r.1, r.2)
]

-- what stands before a list isn't in it
abbrev IsFresh : Option ℕ → List ℕ → Type 0
IsFresh None xs = Unit {0}
IsFresh (Some b) xs = ¬ (Contains xs b)

-- so the first member doesn't come again
head_is_new : (node : ℕ → Node) (address : ℕ → Address) (IsMember : ℕ → Type 0) (last : Address)
    → IsAddressing address IsMember
    → (before : Option ℕ) (found : Address) (x : ℕ) (xs : List ℕ) → All IsMember (x ∷ xs)
    → IsFresh before (x ∷ xs) → ((b : ℕ) → before ≡ Some b → IsMember b)
    → Leads node address last before found (x ∷ xs) → ¬ (Contains xs x)
head_is_new node address M last a None found x xs m f w h c =
    let r = points_back node address last x (node x).next xs h.2 x c in
    a.found r.0 (All-contains M (x ∷ xs) r.0 m r.1) (subst IsNull r.2 h.1)
head_is_new node address M last a (Some b) found x xs m f w h c =
    let r = points_back node address last x (node x).next xs h.2 x c in
    f (subst (λ z. Contains (x ∷ xs) z) (a.one r.0 b (All-contains M (x ∷ xs) r.0 m r.1) (w b refl) (sym r.2
    ∙ h.1)) r.1)

some_member : (IsMember : ℕ → Type 0) (x : ℕ) → IsMember x → (b : ℕ) → Some x ≡ Some b → IsMember b
some_member M x h b e = let q : x ≡ b = cc in subst M q h

leads_distinct : (node : ℕ → Node) (address : ℕ → Address) (IsMember : ℕ → Type 0) (last : Address)
    → IsAddressing address IsMember
    → (before : Option ℕ) (found : Address) (xs : List ℕ) → All IsMember xs → IsFresh before xs → ((b : ℕ)
    → before ≡ Some b → IsMember b)
    → Leads node address last before found xs → AreDistinct xs
leads_distinct node address M last a before found [] m f w h = distinct_none
leads_distinct node address M last a before found (x ∷ xs) m f w h =
    let new : ¬ (Contains xs x) = head_is_new node address M last a before found x xs m f w h in
    distinct_cons x xs new (leads_distinct node address M last a (Some x) (node x).next xs (All-tail M x xs m) new
    (some_member M x (All-head M x xs m)) h.2)

-- the nodes' backward addresses alone keep a list from coming back to a member
pub linked_from_leads : (base : Base) (node : ℕ → Node) (address : ℕ → Address) (IsMember : ℕ → Type 0)
    → IsAddressing address IsMember
    → (xs : List ℕ) → length xs ≡ base.length → All IsMember xs → Leads node address base.last None base.first xs
    → Linked base node address IsMember xs
linked_from_leads base node address M a xs n m h =
    record {
      count = n;
      distinct = leads_distinct node address M base.last a None base.first xs m tt
          (λ b e. cc) h;
      members = m;
      leads = h;
    }

-- addresses of extents
extent_one : (m n : ℕ) → extent_address m ≡ extent_address n → m ≡ n
extent_one m n e =
    let p : 16384 * (m / 256) ≡ 16384 * (n / 256) = ap (λ (a : Address). a.page) e in
    let o : 158 + 40 * (m % 256) ≡ 158 + 40 * (n % 256) = ap (λ (a : Address). a.offset) e in
    omega arith

pub extents_addressing : (count : ℕ) → count ≤ 65536 → IsAddressing extent_address (λ e. e < count)
extents_addressing count h = record {
  one = λ m n _ _ e. extent_one m n e;
  found =
      λ n l z. absurd (let q : 16384 * (n / 256) ≡ 4294967295 = z in omega arith);
}

-- addresses of pages
pub pages_addressing : (at count : ℕ) → count ≤ fil_null → IsAddressing (node_address at) (λ n. n < count)
pages_addressing at count h =
    record {
      one = λ m n _ _ e. ap (λ (a : Address). a.page) e;
      found = λ n l z. absurd (let q : n ≡ 4294967295 =
          z in omega arith);
    }
