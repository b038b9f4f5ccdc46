-- what an audited space says of a page
use Rattle.std.proofs.Common.{◌≡◌, ◌↔◌, ◌&&◌, ℕ, ◌+◌, ◌<◌, Bool, IsTrue, true, false, not, List, refl, sym, ap, ◌∙◌}
use Rattle.std.proofs.Common.{arith}
use Rattle.std.proofs.lemmas.Bool.{false≢true}
use Rattle.page_source.specs.Pages.{page_of, page_count, num}
use Rattle.space_header.specs.declared.address.Address.{Address}
use Rattle.fil_frame.specs.Kinds.{index_kind}
use Rattle.space_header.specs.Header.{address_at}
use Rattle.inode_segments.specs.Inodes.{segments}
use Rattle.space_audit.specs.Owners.{IsUsedBy}
use Rattle.space_audit.specs.Space.{SpaceView, IsAuditOf, IsPageOf}
use Rattle.space_audit.proofs.Audited.{head_size}
use Rattle.tree_walk.specs.declared.index.Tree.{Tree}
use Rattle.tree_walk.specs.Tree.{index_in}
use Rattle.tree_walk.specs.Segments.{segment_in, segment_named_at, leaf_segment, top_segment, AreNewSegments}
use Rattle.tree_walk.specs.TreeChecks.{IsRootPlace, HasNewSegments}
use Rattle.tree_walk.specs.Place.{IsPagePlace}

pub place_iff : (b taken : Bool) (file : List ℕ) (segment n : ℕ) → (IsTrue b ↔ IsPageOf file segment index_kind n) →
    IsTrue (b && not taken) ↔ IsPagePlace file taken segment n
place_iff true true file segment n i = ((λ t. absurd (false≢true t)), (λ p. absurd (false≢true (sym p.new))))
place_iff true false file segment n i = ((λ t. record { page = i.0 t; new = refl }), (λ p. i.1 p.page))
place_iff false taken file segment n i = ((λ t. absurd (false≢true t)), (λ p. i.1 p.page))

pub place_within : (file : List ℕ) (space : SpaceView) (taken : Bool) (segment n : ℕ) → IsAuditOf file space →
    IsPagePlace file taken segment n → n < page_count file
place_within file space taken segment n a p = let s = (head_size file space a).within in let b = p.page.below in
    omega arith

pub root_within : (file : List ℕ) (space : SpaceView) (taken : Bool) (n : ℕ) → IsAuditOf file space → IsRootPlace
    file taken n → n < page_count file
root_within file space taken n a p = let s = (head_size file space a).within in let b = p.page.1.below in omega arith

-- the segments that a root names
module _ (file : List ℕ) (tree : Tree) (page : List ℕ) (named : ℕ → Bool) (l t : ℕ)
    (a : IsAuditOf file tree.space.now) (p : page ≡ page_of file tree.root)
    (el : l ≡ segment_in tree.space.now.segments page 74) (et : t ≡ segment_in tree.space.now.segments page 84) where
  pub leaf_is : l ≡ leaf_segment (index_in file tree)
  unfolding segment_named_at
  leaf_is = el ∙ ap (λ xs. segment_in xs page 74) a.has_segments ∙ ap (λ pg. segment_in (segments file) pg 74) p

  pub top_is : t ≡ top_segment (index_in file tree)
  unfolding segment_named_at
  top_is = et ∙ ap (λ xs. segment_in xs page 84) a.has_segments ∙ ap (λ pg. segment_in (segments file) pg 84) p

  pub new_segments : (AreNewSegments tree.space.now named page l t × IsUsedBy file t tree.root)
      ↔ HasNewSegments (index_in file tree) named
  new_segments = (
    (λ (s, u). record {
      names = record {
        leaf_space = rw (← p) (s.leaf_space ∙ a.has_id);
        top_space = rw (← p) (s.top_space ∙ a.has_id);
        leaf_known = rw (← leaf_is, ← a.has_segments) s.leaf_known;
        top_known = rw (← top_is, ← a.has_segments) s.top_known;
        differ = rw (← leaf_is, ← top_is) s.differ;
      };
      leaf_new = rw (← leaf_is) s.leaf_new;
      top_new = rw (← top_is) s.top_new;
      owner = rw (← top_is) u;
    }),
    (λ s. (
      record {
        leaf_space = rw p (s.names.leaf_space ∙ sym a.has_id);
        top_space = rw p (s.names.top_space ∙ sym a.has_id);
        leaf_known = rw (leaf_is, a.has_segments) s.names.leaf_known;
        top_known = rw (top_is, a.has_segments) s.names.top_known;
        differ = rw (leaf_is, top_is) s.names.differ;
        leaf_new = rw leaf_is s.leaf_new;
        top_new = rw top_is s.top_new;
      },
      rw top_is s.owner,
    )),
  )

  pub new_iff : (b : Bool) → (IsTrue b ↔ (AreNewSegments tree.space.now named page l t × IsUsedBy file t tree.root))
      → IsTrue b ↔ HasNewSegments (index_in file tree) named
  new_iff b i = ((λ x. new_segments.0 (i.0 x)), (λ x. i.1 (new_segments.1 x)))

-- the address in a header
pub address_is : (page : List ℕ) (at n o : ℕ) → n ≡ num page (at + 4) 4 → o ≡ num page (at + 8) 2 → ◌≡◌
    {A = Address} (record { page = n; offset = o }) (address_at page (at + 4))
unfolding address_at
address_is page at n o a b =
    let e : at + 4 + 4 ≡ at + 8 = omega arith in
    rw (a, b, e) refl
