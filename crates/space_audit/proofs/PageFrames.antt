-- The frames and types of pages.
use Rattle.std.proofs.Common.{◌≡◌, ℕ, ◌+◌, ◌/◌, ◌<◌, ◌≤◌, Bool, true, false, cond, not, ◌&&◌, List, [], ◌∷◌, ◌++◌}
use Rattle.std.proofs.Common.{length, get_or, take, drop, count_by, is_some, Contains, Option, Some, None, refl, sym}
use Rattle.std.proofs.Common.{◌∙◌, ap, subst, inl, inr, arith, lt-ltb}
use Rattle.std.specs.Option.{unwrap_or}
use Rattle.std.proofs.lemmas.List.{get_or_append_left, take-append-drop}
use Rattle.std.proofs.Math.Seq.{get_or-append_seam}
use Rattle.std.proofs.lemmas.List.Sums.{sum_by-append, count_by_more_yes, count_by_more_no}
use Rattle.std.proofs.lemmas.Bool.{cases_lt, false≢true, not-true}
use Rattle.std.proofs.lemmas.List.Elements.{All-contains, Contains-append_cases}
use Rattle.page_source.specs.declared.checks.Stop.{Stop}
use Rattle.page_source.specs.declared.checks.Stop.TheVariants as stops
use Rattle.page_source.specs.Checks.{Stops}
use Rattle.page_source.specs.Verdict.{AllBelow}
use Rattle.page_source.proofs.Members.{count_more_yes, count_more_no}
use Rattle.page_source.specs.Pages.{page_of}
use Rattle.page_source.specs.Lists.{flag_in, unmarked}
use Rattle.fil_frame.specs.Frame.{kind_of}
use Rattle.space_header.specs.Header.{limit_of}
use Rattle.extent_map.specs.declared.extent.Extent.{Extent}
use Rattle.extent_map.specs.Extents.{is_used, IsUsed, is_fragment_page, is_fragment_extent, is_system_page}
use Rattle.extent_map.specs.Laws.{UsedPagesAreOfExtents}
use Rattle.extent_map.proofs.Used.{used_below}
use Rattle.inode_segments.specs.Inodes.{inode_pages, full_pages, free_pages}
use Rattle.inode_segments.specs.InodeChecks.{AreInodes, IsInodePage}
use Rattle.inode_segments.specs.Kept.{InodesView, AreKept}
use Rattle.space_audit.specs.declared.owner.Owner.TheVariants.{InodePage}
use Rattle.space_audit.specs.Owners.{owner_of}
use Rattle.space_audit.specs.Audit.{FrameCheck, FrameChecks, IsKindFor}
use Rattle.space_audit.specs.Read.{IsKind, AreKinds, AwaitsFrames, fetches_at}
use Rattle.space_audit.proofs.Fragments.{fragment_used, fragment_extent, and_right}
use Rattle.space_audit.proofs.ClaimSteps.{used_in_size}
use Rattle.space_audit.proofs.OwnerFacts.{not_one, not_four, contains_any}

inode_page : (file : List ℕ) (n : ℕ) (inodes : InodesView) → AreKept file inodes
    → AreInodes file (is_fragment_page file)
    → flag_in inodes.pages n ≡ true → Contains (inode_pages file) n × IsInodePage file (is_fragment_page file) n
inode_page file n inodes are a t =
    let c = (are.pages n).0 t in (
      c,
      elim (Contains-append_cases (full_pages file) (free_pages file) n c) [
        | inl k ↦ All-contains (IsInodePage file (is_fragment_page file)) (full_pages file) n a.full.members k
        | inr k ↦ All-contains (IsInodePage file (is_fragment_page file)) (free_pages file) n a.free.members k
      ],
    )

inode_owner : (file : List ℕ) (n : ℕ) → is_fragment_page file n ≡ true → Contains (inode_pages file) n
    → owner_of file n ≡ InodePage
unfolding owner_of
inode_owner file n f c =
    let used = fragment_used file n f in
    let fragment = fragment_extent file n f in
    let system = not-true (is_system_page n) (and_right (is_used file n && is_fragment_extent file (n / 64))
    (not (is_system_page n)) f) in
    let any = contains_any n (inode_pages file) c in
    rw (
      lt-ltb n (limit_of file) (used_below file n used),
      not_one file (n / 64) fragment,
      not_four file (n / 64)
          fragment,
      used,
      system,
      any,
    ) refl

-- the frame and the type of an inode page are known
pub inode_page_checks : (file : List ℕ) (n : ℕ) (inodes : InodesView) → AreKept file inodes
    → AreInodes file (is_fragment_page file)
    → flag_in inodes.pages n ≡ true → FrameCheck file n None
inode_page_checks file n inodes are a t u =
    let is = inode_page file n inodes are a t in (
      is.1.framed,
      subst (λ o. IsKindFor n o (kind_of (page_of file n)))
          (sym (inode_owner file n is.1.fragment is.0)) is.1.kind,
    )

pub inode_page_kind : (file : List ℕ) (n : ℕ) (inodes : InodesView) → AreKept file inodes
    → AreInodes file (is_fragment_page file)
    → flag_in inodes.pages n ≡ true → IsKind file n (Some 3)
inode_page_kind file n inodes are a t =
    let is = inode_page file n inodes are a t in
    (fragment_used file n is.1.fragment, sym is.1.kind)

-- a page breaks a check
pub frame_stops : (file : List ℕ) (n : ℕ) (stop : Stop) → AllBelow (FrameCheck file) n
    → Stops stop (FrameCheck file n) → Stops stop (FrameChecks file)
frame_stops file n (stops.Broken fault) below h = (n, used_below file n h.0, below, h)
frame_stops file n stops.Source below h = tt
frame_stops file n stops.Memory below h = tt

-- the pages that are fetched
cost_none : (b : Bool) (old new : ℕ) → new ≡ old → (b ≡ true → false ≡ true) → new + 1 ≤ old + cond b 0 1 + 0
cost_none true old new same listed = absurd (false≢true (listed refl))
cost_none false old new same listed = omega (arith, same)

more : (pages : List Bool) (n : ℕ) → n < length pages → (b : Bool) → flag_in pages n ≡ b
    → count_by not (take (n + 1) pages) ≡ count_by not (take n pages) + cond b 0 1
more pages n h true e = count_by_more_no not pages n false h (ap not e) ∙ omega arith
more pages n h false e = count_by_more_yes not pages n false h (ap not e)

pub cost_more : (pages : List Bool) (n : ℕ) → n < length pages
    → count_by not (take (n + 1) pages) ≡ count_by not (take n pages) + fetches_at pages n
cost_more pages n h = more pages n h (flag_in pages n) refl

pub cost_used : (pages : List Bool) (n : ℕ) (found : Option ℕ) (old new : ℕ)
    → new ≤ old + fetches_at pages n → (found ≡ None → new ≡ old)
    → (flag_in pages n ≡ true → is_some found ≡ true)
    → new + 1 ≤ old + fetches_at pages n + cond (is_some found) 1 0
cost_used pages n (Some kind) old new few none listed = omega (arith, few)
cost_used pages n None old new few none listed = cost_none (flag_in pages n) old new (none refl) listed

pub cost_all : (pages : List Bool) (n : ℕ) → count_by not (take n pages) ≤ unmarked pages
cost_all pages n =
    let both : count_by not (take n pages ++ drop n pages) ≡ count_by not pages = ap (λ xs. count_by not xs)
    (take-append-drop n pages) in
    omega (arith, both, sum_by-append (λ b. cond (not b) 1 0) (take n pages) (drop n pages))

-- all used pages are below the size
pub frames_hold : (file : List ℕ) → UsedPagesAreOfExtents → (space : ℕ) (extents : List Extent)
    (inodes : InodesView) (owners : List ℕ)
    → AwaitsFrames file space extents inodes owners → ((j : ℕ) → j < length owners → FrameCheck file j None)
    → FrameChecks file None
frames_hold file law space extents inodes owners h below j l u =
    let inside = used_in_size file law h.read.extents_are.whole h.read.extents_sound j u in
    below j (omega (arith, inside, h.size_is)) u

-- the type of one more page
unused : (b : Bool) → ¬ (b ≡ true) → b ≡ false
unused true h = absurd (h refl)
unused false h = refl

pub kinds_more : (file : List ℕ) (n : ℕ) (kinds : List ℕ) (used : ℕ) (kind : Option ℕ) → length kinds ≡ n
    → AreKinds file n kinds used → IsKind file n kind
    → AreKinds file (n + 1) (kinds ++ unwrap_or kind 0 ∷ []) (used + cond (is_some kind) 1 0)
kinds_more file n kinds used (Some kind) size h is = record {
  kinds_are = λ m l u. elim (cases_lt m n) [
    | inl below ↦ get_or_append_left kinds (kind ∷ []) 0 m (omega (arith, below, size)) ∙ h.kinds_are m below u
    | inr above ↦
        let here : n ≡ m = omega (arith, l, above) in
        subst (λ k. get_or (kinds ++ kind ∷ []) k 0 ≡ kind_of (page_of file k)) here
        (ap (λ k. get_or (kinds ++ kind ∷ []) k 0) (sym size) ∙ (get_or-append_seam kinds kind [] 0 ∙ is.1))
  ];
  used_is = let more = count_more_yes (is_used file) n is.0 in omega (arith, more, h.used_is);
}
kinds_more file n kinds used None size h is = record {
  kinds_are = λ m l u. elim (cases_lt m n) [
    | inl below ↦ get_or_append_left kinds (0 ∷ []) 0 m (omega (arith, below, size)) ∙ h.kinds_are m below u
    | inr above ↦ absurd (let here : m ≡ n = omega (arith, l, above) in is (subst (λ k. IsUsed file k) here u))
  ];
  used_is = let more = count_more_no (is_used file) n (unused (is_used file n) is) in omega (arith, more, h.used_is);
}

pub one_at_most : (b : Bool) → cond b 1 0 ≤ 1
one_at_most true = omega arith
one_at_most false = omega arith
