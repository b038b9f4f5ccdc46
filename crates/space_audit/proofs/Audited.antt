-- What an audit shows of a page.
use Rattle.std.proofs.Common.{◌≡◌, ◌↔◌, ℕ, ◌<◌, ◌≤◌, ◌/◌, ◌==◌, ◌&&◌, Bool, IsTrue, true, false, List, get_or, cond}
use Rattle.std.proofs.Common.{refl, sym, ◌∙◌, arith, None}
use Rattle.std.specs.List.{range_with_len}
use Rattle.std.proofs.lemmas.List.FromFn.{get_or-map-range_with_len}
use Rattle.page_source.specs.Pages.{page_of, page_count}
use Rattle.fil_frame.specs.Frame.{kind_of}
use Rattle.space_header.specs.Header.{size_of}
use Rattle.extent_map.specs.Head.{HeaderChecks, IsSize}
use Rattle.extent_map.specs.Extents.{IsUsed, is_used}
use Rattle.space_audit.specs.declared.owner.Owner.{Owner}
use Rattle.space_audit.specs.declared.owner.Owner.TheVariants.{System, InodePage, Used, Spare, FragmentFree, FreeExtent}
use Rattle.space_audit.specs.declared.owner.Owner.TheVariants.{Beyond}
use Rattle.space_audit.specs.Owners.{owner_of, IsUsedBy, owner_in_segment, owner_in_fragment}
use Rattle.space_audit.specs.Audit.{AuditChecks, OwnerChecks}
use Rattle.space_audit.specs.Space.{SpaceView, IsAuditOf, HasAuditedSize, IsPageOf}

pub head_size : (file : List ℕ) (space : SpaceView) → IsAuditOf file space → IsSize (size_of file) (page_count file)
unfolding OwnerChecks HeaderChecks
head_size file space a = a.sound.0.0.1.1.1.1.1.0

pub audited_size : (file : List ℕ) (space : SpaceView) (size : ℕ) → size ≡ space.size → IsAuditOf file space
    → HasAuditedSize file size
audited_size file space size e a =
    let s = head_size file space a in
    let h = a.has_size in
    record { stated = e ∙ h; most = omega (arith, s.most, e, h); within = omega (arith, s.within, e, h) }

pub audited_owner : (file : List ℕ) (space : SpaceView) (n : ℕ) (owner : Owner) → n < space.size
    → owner ≡ get_or space.owners n owner → IsAuditOf file space
    → owner ≡ owner_of file n
audited_owner file space n owner h e a =
    e ∙ rw (a.has_owners) (get_or-map-range_with_len (owner_of file) 0 (size_of file) n n owner
    (omega (arith, h, a.has_size)) (omega arith))

pub audited_kind : (file : List ℕ) (space : SpaceView) (n kind : ℕ) → kind ≡ get_or space.kinds n 0
    → IsAuditOf file space → IsUsed file n
    → kind ≡ kind_of (page_of file n)
audited_kind file space n kind e a used = e ∙ a.has_kinds n used

-- only a used page is used by a segment
in_segment : (b : Bool) (x s : ℕ) → cond b (Used x) (Spare x) ≡ Used s → b ≡ true
in_segment true x s e = refl
in_segment false x s e = cc

in_fragment : (b c d : Bool) (x s : ℕ) → cond b (cond c System (cond d InodePage (Used x))) FragmentFree ≡ Used s
    → b ≡ true
in_fragment true c d x s e = refl
in_fragment false c d x s e = cc

owned : (a b c : Bool) (p q : Owner) (s : ℕ) (u : Bool) → (p ≡ Used s → u ≡ true) → (q ≡ Used s → u ≡ true)
    → cond a (cond b FreeExtent (cond c p q)) Beyond ≡ Used s → u ≡ true
owned true true c p q s u f g e = cc
owned true false true p q s u f g e = f e
owned true false false p q s u f g e = g e
owned false b c p q s u f g e = cc

pub used_is : (file : List ℕ) (segment n : ℕ) → IsUsedBy file segment n → IsUsed file n
unfolding owner_of
used_is file segment n e =
    owned _ _ _ (owner_in_segment file n) (owner_in_fragment file n) segment (is_used file n)
    (in_segment (is_used file n) _ segment) (in_fragment (is_used file n) _ _ _ segment) e
