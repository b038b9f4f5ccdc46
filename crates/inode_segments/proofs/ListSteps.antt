-- The steps along a list of inode pages, and the list that they link.
use Rattle.std.proofs.Common.{◌≡◌, ℕ, zero, suc, ◌+◌, ◌<◌, ◌≤◌, Bool, List, ◌++◌, length, get_or, map, Option, Some}
use Rattle.std.proofs.Common.{None, refl, sym, ◌∙◌, ap, subst, inl, inr, arith}
use Rattle.std.specs.List.{range_with_len}
use Rattle.std.proofs.lemmas.Bool.{cases_lt}
use Rattle.std.proofs.lemmas.List.FromFn.{length-map-range_with_len, get_or-map-range_with_len}
use Rattle.std.proofs.lemmas.List.Elements.{Contains-append_right}
use Rattle.page_source.specs.Pages.{page_of}
use Rattle.fil_frame.specs.Kinds.{inode_kind}
use Rattle.fil_frame.specs.Frame.{Framed, kind_of}
use Rattle.space_header.specs.declared.address.Address.{Address}
use Rattle.space_header.specs.declared.address.Base.{Base}
use Rattle.space_header.specs.Header.{IsNull}
use Rattle.space_header.specs.Linked.{PointsTo, Leads, Linked}
use Rattle.inode_segments.specs.Inodes.{step_address, stepped_pages, page_node, page_address, used_places}
use Rattle.inode_segments.specs.InodeChecks.{step_before, IsAddress, IsStep, IsFilled, IsInodePage, InodePageChecks}
use Rattle.inode_segments.specs.InodeChecks.{StepAt, StepChecks}

pub stepped_length : (file : List ℕ) (base : Base) (k : ℕ) → length (stepped_pages file base k) ≡ k
unfolding stepped_pages
stepped_length file base k = length-map-range_with_len (λ j. (step_address file base j).page) 0 k

pub stepped_at : (file : List ℕ) (base : Base) (k i d : ℕ) → i < k
    → get_or (stepped_pages file base k) i d ≡ (step_address file base i).page
unfolding stepped_pages
stepped_at file base k i d h =
    get_or-map-range_with_len (λ j. (step_address file base j).page) 0 k i i d h (omega arith)

address_is : (a : Address) → a.offset ≡ 38 → a ≡ page_address a.page
address_is a e = ap (λ (o : ℕ). let x : Address = record { page = a.page; offset = o } in x) e

-- the page of the step before
abbrev pub page_before : List ℕ → Base → ℕ → Option ℕ
page_before file base zero = None
page_before file base (suc k) = Some (step_address file base k).page

-- what a step's checks say
pub record Step (file : List ℕ) (is_fragment : ℕ → Bool) (full : Bool) (earlier : List ℕ) (base : Base) (k : ℕ)
    : Type 0 where
  pub place : IsStep file is_fragment (earlier ++ stepped_pages file base k) (step_address file base k)
  pub framed : Framed file (step_address file base k).page
  pub kind : kind_of (page_of file (step_address file base k).page) ≡ inode_kind
  pub back : IsAddress (page_node file (step_address file base k).page).prev (step_before file base k)
  pub filled : IsFilled full (length (used_places (page_of file (step_address file base k).page)))

pub step_holds : (file : List ℕ) (is_fragment : ℕ → Bool) (full : Bool) (earlier : List ℕ) (base : Base) (k : ℕ)
    → StepChecks file is_fragment full earlier base k None → Step file is_fragment full earlier base k
unfolding StepAt InodePageChecks
step_holds file is_fragment full earlier base k h =
    record { place = h.0; framed = h.1.0; kind = h.1.1.0; back = h.1.1.1.0; filled = h.1.1.1.1 }

pub step_checks : (file : List ℕ) (is_fragment : ℕ → Bool) (full : Bool) (earlier : List ℕ) (base : Base) (k : ℕ)
    → Step file is_fragment full earlier base k → StepChecks file is_fragment full earlier base k None
unfolding StepAt InodePageChecks
step_checks file is_fragment full earlier base k h = (h.place, (h.framed, (h.kind, (h.back, h.filled))))

-- addresses of steps as addresses of pages
points_from : (file : List ℕ) (base : Base) (a : Address) (k : ℕ)
    → ((j : ℕ) → j < k → (step_address file base j).offset ≡ 38) → IsAddress a (step_before file base k)
    → PointsTo page_address a (page_before file base k)
points_from file base a zero o h = h
points_from file base a (suc k) o h = h ∙ address_is (step_address file base k) (o k (omega arith))

points_back : (file : List ℕ) (base : Base) (a : Address) (k : ℕ)
    → ((j : ℕ) → j < k → (step_address file base j).offset ≡ 38) → PointsTo page_address a (page_before file base k)
    → IsAddress a (step_before file base k)
points_back file base a zero o h = h
points_back file base a (suc k) o h = h ∙ sym (address_is (step_address file base k) (o k (omega arith)))

-- a step goes to the node of its page, which points back to the page before
pub record Met (file : List ℕ) (base : Base) (k : ℕ) : Type 0 where
  pub offset : (step_address file base k).offset ≡ 38
  pub back : PointsTo page_address (page_node file (step_address file base k).page).prev (page_before file base k)

-- n steps on from step a, which is step b too, the list ends
abbrev pub Ends : List ℕ → Base → ℕ → Type 0
Ends file base k = IsNull (step_address file base k) × PointsTo page_address base.last (page_before file base k)

leads_on : (file : List ℕ) (base : Base) (n a b : ℕ) → b ≡ a → ((j : ℕ) → a ≤ j → j < a + n → Met file base j)
    → Ends file base (a + n)
    → Leads (page_node file) page_address base.last (page_before file base a) (step_address file base a)
    (map (λ j. (step_address file base j).page) (range_with_len b n))
leads_on file base zero a b same met ends = subst (λ k. Ends file base k) (omega arith) ends
leads_on file base (suc n) a b same met ends =
    let here = met a (omega arith) (omega arith) in
    let rest = leads_on file base n (suc a) (b + 1) (omega (arith, same))
    (λ j low high. met j (omega arith) (omega arith))
    (subst (λ k. Ends file base k) (omega arith) ends) in
    subst (λ m. (step_address file base a ≡ page_address m) × PointsTo page_address (page_node file m).prev
    (page_before file base a)
    × Leads (page_node file) page_address base.last (Some m) (page_node file m).next
    (map (λ j. (step_address file base j).page) (range_with_len (b + 1) n)))
    (ap (λ k. (step_address file base k).page) (sym same))
    (address_is (step_address file base a) here.offset, here.back, rest)

pub record Led (file : List ℕ) (base : Base) (n a : ℕ) : Type 0 where
  pub met : (j : ℕ) → a ≤ j → j < a + n → Met file base j
  pub ends : Ends file base (a + n)

led_on : (file : List ℕ) (base : Base) (n a b : ℕ) → b ≡ a
    → Leads (page_node file) page_address base.last (page_before file base a) (step_address file base a)
    (map (λ j. (step_address file base j).page) (range_with_len b n))
    → Led file base n a
led_on file base zero a b same leads =
    record { met = λ j low high. absurd (omega arith); ends = subst (λ k. Ends file base k) (omega arith) leads }
led_on file base (suc n) a b same leads =
    let to = subst (λ k. (step_address file base a ≡ page_address (step_address file base k).page)
    × PointsTo page_address (page_node file (step_address file base k).page).prev (page_before file base a)
    × Leads (page_node file) page_address base.last (Some (step_address file base k).page)
    (page_node file (step_address file base k).page).next
    (map (λ j. (step_address file base j).page) (range_with_len (b + 1) n))) same leads in
    let rest = led_on file base n (suc a) (b + 1) (omega (arith, same)) to.2 in
    let here : Met file base a = record { offset = ap (λ (x : Address). x.offset) to.0; back = to.1 } in
    record {
      met = λ j low high. elim (cases_lt a j) [
        | inl later ↦ rest.met j (omega arith) (omega arith)
        | inr now ↦ subst (λ k. Met file base k) (omega arith) here
      ];
      ends = subst (λ k. Ends file base k) (omega arith) rest.ends;
    }

step_member : (file : List ℕ) (is_fragment : ℕ → Bool) (full : Bool) (earlier : List ℕ) (base : Base) (k : ℕ)
    → Step file is_fragment full earlier base k → IsInodePage file is_fragment (step_address file base k).page
step_member file is_fragment full earlier base k s =
    record { below = s.place.below; fragment = s.place.fragment; framed = s.framed; kind = s.kind }

-- steps whose checks hold link their pages
pub linked_by_steps : (file : List ℕ) (is_fragment : ℕ → Bool) (full : Bool) (earlier : List ℕ) (base : Base)
    → ((j : ℕ) → j < base.length → Step file is_fragment full earlier base j)
    → IsNull (step_address file base base.length) → IsAddress base.last (step_before file base base.length)
    → Linked base (page_node file) page_address (IsInodePage file is_fragment) (stepped_pages file base base.length)
unfolding stepped_pages
linked_by_steps file is_fragment full earlier base steps null last =
    let whole = stepped_pages file base base.length in
    let count = stepped_length file base base.length in
    let offset = λ (j : ℕ) (below : j < base.length). (steps j below).place.offset in
    record {
      count = count;
      distinct = λ i j d before inside same.
          let below : j < base.length = omega (arith, inside, count) in
          let page = (step_address file base j).page in
          (steps j below).place.new (Contains-append_right earlier (stepped_pages file base j) page (
            i,
            omega (arith, before, stepped_length file base j),
            stepped_at file base j i page before
                ∙ sym (stepped_at file base base.length i d (omega arith)) ∙ same
                ∙ stepped_at file base base.length j d below,
          ));
      members = λ k d inside.
          let below : k < base.length = omega (arith, inside, count) in
          subst (IsInodePage file is_fragment) (sym (stepped_at file base base.length k d below))
          (step_member file is_fragment full earlier base k (steps k below));
      leads = leads_on file base base.length 0 0 refl (λ j _ high.
          let below : j < base.length = omega (arith, high) in
          record {
            offset = offset j below;
            back = points_from file base (page_node file (step_address file base j).page).prev j
                (λ i less. offset i (omega (arith, less, below))) (steps j below).back;
          }) (subst (λ k. Ends file base k) (omega arith)
          (null, points_from file base base.last base.length offset last));
    }

-- and a linked list of the pages of the steps says of each step what its checks ask
pub record ByList (file : List ℕ) (is_fragment : ℕ → Bool) (base : Base) : Type 0 where
  pub offset : (k : ℕ) → k < base.length → (step_address file base k).offset ≡ 38
  pub member : (k : ℕ) → k < base.length → IsInodePage file is_fragment (step_address file base k).page
  pub back : (k : ℕ) → k < base.length
      → IsAddress (page_node file (step_address file base k).page).prev (step_before file base k)
  pub null : IsNull (step_address file base base.length)
  pub last : IsAddress base.last (step_before file base base.length)

pub by_list : (file : List ℕ) (is_fragment : ℕ → Bool) (base : Base)
    → Linked base (page_node file) page_address (IsInodePage file is_fragment) (stepped_pages file base base.length)
    → ByList file is_fragment base
unfolding stepped_pages
by_list file is_fragment base list =
    let led = led_on file base base.length 0 0 refl list.leads in
    let met = λ (k : ℕ) (below : k < base.length). led.met k (omega arith) (omega (arith, below)) in
    let ends : Ends file base base.length = subst (λ k. Ends file base k) (omega arith) led.ends in
    record {
      offset = λ k below. (met k below).offset;
      member = λ k below. subst (IsInodePage file is_fragment) (stepped_at file base base.length k 0 below)
          (list.members k 0 (omega (arith, below, stepped_length file base base.length)));
      back = λ k below. points_back file base (page_node file (step_address file base k).page).prev k
          (λ j less. (met j (omega (arith, less, below))).offset) (met k below).back;
      null = ends.0;
      last = points_back file base base.last base.length (λ j less. (met j less).offset) ends.1;
    }
