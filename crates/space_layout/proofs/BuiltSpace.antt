-- A file that holds the pages of a built tablespace is a sound space.
use Rattle.std.proofs.Common.{◌≡◌, ℕ, zero, suc, ◌+◌, ◌*◌, ◌/◌, ◌%◌, ◌<◌, ◌≤◌, List, length, All}
use Rattle.std.proofs.Common.{inl, inr, refl, sym, ◌∙◌, ap, subst, arith}
use Rattle.std.specs.List.{range_with_len}
use Rattle.std.proofs.lemmas.Bool.{cases_lt}
use Rattle.page_source.specs.Pages.{page_of}
use Rattle.page_source.proofs.Members.{all_members, range_only}
use Rattle.fil_frame.specs.Kinds.{header_kind, bitmap_kind, inode_kind, blob_kind, index_kind}
use Rattle.fil_frame.specs.Frame.{IsFramed, Framed, kind_of, space_of}
use Rattle.space_header.specs.Header.{size_of}
use Rattle.extent_map.specs.Head.{without_data_directory, IsHead}
use Rattle.extent_map.specs.Extents.{extent_count, extent_state, IsUsed, used_count, is_fragment_page}
use Rattle.extent_map.specs.Descriptors.{IsExtent, FitsUse, HasSystemPages}
use Rattle.inode_segments.specs.InodeChecks.{IsInodePage, AreInodes}
use Rattle.space_audit.specs.declared.owner.Owner.{Owner}
use Rattle.space_audit.specs.declared.owner.Owner.TheVariants.{System, InodePage, Used}
use Rattle.space_audit.specs.Lists.{HoldThree}
use Rattle.space_audit.specs.Owners.{owner_of}
use Rattle.space_audit.specs.Audit.{HasExtents, HasOwners, HasAllowedKind, IsKindFor, IsSoundSpace, HasNotFullCount}
use Rattle.extent_map.specs.Extents.{extent_nodes}
use Rattle.space_audit.specs.Lists.{segment_free_list, segment_not_full_list, segment_full_list}
use Rattle.space_audit.specs.Laws.{AreAllClaimed}
use Rattle.space_layout.specs.Numbers.{used_fragments, fragment_extents, extent_start}
use Rattle.space_layout.specs.Numbers.{segment_page, size_at, IsShape}
use Rattle.space_layout.specs.declared.runs.Run.{Run}
use Rattle.space_layout.specs.Fields.{full_fragments, open_fragments}
use Rattle.space_layout.specs.Holds.{IsPage}
use Rattle.space_layout.specs.Laws.{ArePlain}
use Rattle.space_layout.proofs.Known.{KnownHeads, KnownSpace}
use Rattle.space_layout.proofs.Given.{Given, given_state, given_count, given_pages}
use Rattle.space_layout.proofs.Spaces.{head_space, head_size, head_limit, head_flags, extent_total, full_fragment}
use Rattle.space_layout.proofs.Spaces.{open_fragment, own_extent_at, own_given, used_place}
use Rattle.space_layout.proofs.Inodes.{are_inodes, ids_distinct, each_segment}
use Rattle.space_layout.proofs.HomeLists.{space_lists, segment_lists, fragment_count, not_full_count, has_home}
use Rattle.space_layout.proofs.SlotPages.{each_slot, fragment_once, fragment_use, two_is_fragment}
use Rattle.space_layout.proofs.BuiltOwners.{page_owned, head_owner, bitmap_owner, inode_owner}

-- the head
pub space_is : (file sizes : List ℕ) (flags : ℕ) → KnownHeads file sizes flags → space_of (page_of file 0) ≡ 1
space_is file sizes flags h = h.held.head.framed.has_space

framed_here : (file sizes : List ℕ) (flags n kind : ℕ) → KnownHeads file sizes flags → IsPage file n kind
    → Framed file n
framed_here file sizes flags n kind h p =
    subst (λ (space : ℕ). IsFramed (page_of file n) n space) (sym (space_is file sizes flags h)) p.framed

is_head : (file sizes : List ℕ) (flags : ℕ) → IsShape sizes → ArePlain flags
    → KnownSpace file sizes flags → IsHead file flags
is_head file sizes flags shape plain h =
    let heads = h.heads in
    let pages = h.pages in
    let size = head_size file sizes flags heads in
    let limit = head_limit file sizes flags heads in
    let fits = shape.fits in
    record {
      pages = omega arith;
      framed = framed_here file sizes flags 0 header_kind heads heads.held.head;
      kind = heads.held.head.has_kind;
      space = space_is file sizes flags heads ∙ sym (head_space file sizes flags heads);
      has_flags = ap without_data_directory (head_flags file sizes flags heads) ∙ plain;
      size = record { least = omega arith; most = omega arith; within = omega arith };
      limit = record {
        whole = omega arith;
        short = λ l. omega arith;
        least = λ l. omega arith;
        most = λ l. omega arith;
      };
    }

-- extents
fits_use : (state count : ℕ) → (state ≡ 3 → count ≡ 64) → (state ≡ 2 → count < 64) → 0 < count → 2 ≤ state
    → FitsUse state count
fits_use state count full part some used =
    record { free = λ e. absurd (omega arith); some_used = λ e. some; some_free = part; full = full }

given_extent : (file sizes : List ℕ) (flags : ℕ) → IsShape sizes → KnownHeads file sizes flags
    → (e id state : ℕ) (run : Run) (count : ℕ)
    → Given file e id state run count → 2 ≤ state → state ≤ 4 → (state ≡ 3 → count ≡ 64) → (state ≡ 2 → count < 64)
    → IsExtent file e
given_extent file sizes flags shape h e id state run count g low high full part =
    let is_state = given_state file e id state run count g in
    let is_count = given_count file e id state run count g in
    let size = head_size file sizes flags h in
    let total = extent_total file sizes flags h in
    let below = g.below in
    let few = g.few in
    record {
      state = (omega arith, omega arith);
      fits = fits_use (extent_state file e) (used_count file e)
          (λ q. is_count ∙ full (sym is_state ∙ q))
          (λ q. let l = part (sym is_state ∙ q) in omega arith)
          (let some = g.some in omega arith) (omega arith);
      within = subst (λ (xs : List ℕ). All (λ n. n < size_of file) xs) (sym (given_pages file e id state run count g))
          (all_members (λ n. n < size_of file) (range_with_len (64 * e) count)
          (λ n c. let r = (range_only (64 * e) count n c).1 in omega arith));
      system = λ q.
          let fits = shape.fits in
          let first : e ≡ 0 = omega arith in
          subst (λ (x : ℕ). HasSystemPages file x) (sym first) (record {
            fragment = (fragment_use file sizes flags h 0 (omega arith)).fragment;
            descriptor = (fragment_use file sizes flags h 0 (omega arith)).used;
            bitmap = (fragment_use file sizes flags h 1 (omega arith)).used;
          });
    }

each_extent : (file sizes : List ℕ) (flags : ℕ) → IsShape sizes → KnownHeads file sizes flags → (e : ℕ)
    → e < extent_count file → IsExtent file e
each_extent file sizes flags shape h e l =
    let total = extent_total file sizes flags h in
    elim (cases_lt e (used_fragments sizes / 64)) [
      | inl full ↦ given_extent file sizes flags shape h e 0 3 (full_fragments sizes) 64
          (full_fragment file sizes flags h e full) (omega arith) (omega arith) (λ q. refl) (λ q. absurd (omega arith))
      | inr more ↦ elim (cases_lt e (fragment_extents sizes)) [
        | inl part ↦ given_extent file sizes flags shape h e 0 2 (open_fragments sizes) (used_fragments sizes % 64)
            (open_fragment file sizes flags h e more part) (omega arith) (omega arith) (λ q. absurd (omega arith))
            (λ q. omega arith)
        | inr own ↦
            let p = own_extent_at sizes e own (omega arith) in
            let o = own_given file sizes flags h p.piece p.at p.below p.inside in
            subst (λ (x : ℕ). IsExtent file x) p.there
            (given_extent file sizes flags shape h (extent_start sizes p.piece + p.at)
            (p.piece + 1) 4 o.is.run o.is.count
            o.is.given (omega arith) (omega arith) (λ q. absurd (omega arith)) (λ q. absurd (omega arith)))
      ]
    ]

has_extents : (file sizes : List ℕ) (flags : ℕ) → IsShape sizes → ArePlain flags
    → KnownSpace file sizes flags → HasExtents file flags
has_extents file sizes flags shape plain h =
    let limit = head_limit file sizes flags h.heads in
    let fits = shape.fits in
    record {
      head = is_head file sizes flags shape plain h;
      descriptors = λ k some l. absurd (omega arith);
      extents = each_extent file sizes flags shape h.heads;
    }

-- inodes
two_page : (file sizes : List ℕ) (flags : ℕ) → KnownHeads file sizes flags
    → IsInodePage file (is_fragment_page file) 2
two_page file sizes flags h =
    let size = head_size file sizes flags h in
    record {
      below = omega arith;
      fragment = two_is_fragment file sizes flags h;
      framed = framed_here file sizes flags 2 inode_kind h h.held.inodes;
      kind = h.held.inodes.has_kind;
    }

has_inodes : (file sizes : List ℕ) (flags : ℕ) → IsShape sizes → KnownHeads file sizes flags
    → AreInodes file (is_fragment_page file)
has_inodes file sizes flags shape h =
    are_inodes file sizes flags (is_fragment_page file) shape h (two_page file sizes flags h)

-- owners
pub has_claims : (file sizes : List ℕ) (flags : ℕ) → IsShape sizes → KnownHeads file sizes flags → AreAllClaimed file
has_claims file sizes flags shape h =
    let inodes = has_inodes file sizes flags shape h in
    let limit = head_limit file sizes flags h in
    h.laws.claims file record {
      whole = omega arith;
      extents = each_extent file sizes flags shape h;
      full = inodes.full.members;
      free = inodes.free.members;
      distinct = ids_distinct file sizes flags shape h;
      homes = has_home file sizes flags shape h;
      slots = each_slot file sizes flags shape h;
      once = λ n l u. fragment_once file sizes flags shape h n u;
    }

has_owners : (file sizes : List ℕ) (flags : ℕ) → IsShape sizes → KnownHeads file sizes flags → HasOwners file
has_owners file sizes flags shape h =
    let claims = has_claims file sizes flags shape h in
    record {
      lists = space_lists file sizes flags h;
      segment_lists = each_segment file sizes flags shape h (λ place. HoldThree (extent_nodes file)
          (segment_free_list file place) (segment_not_full_list file place) (segment_full_list file place))
          (segment_lists file sizes flags h);
      homes = has_home file sizes flags shape h;
      fragment_count = fragment_count file sizes flags h;
      not_full_counts = each_segment file sizes flags shape h (HasNotFullCount file)
          (not_full_count file sizes flags h);
      slots = each_slot file sizes flags shape h;
      partition = claims.partition;
    }

-- frames
pub record IsWhole (file : List ℕ) (n : ℕ) : Type 0 where
  pub framed : Framed file n
  pub kind : HasAllowedKind file n

head_whole : (file sizes : List ℕ) (flags n kind : ℕ) (owner : Owner) → KnownHeads file sizes flags → IsPage file n kind
    → owner_of file n ≡ owner → IsKindFor n owner kind → IsWhole file n
head_whole file sizes flags n kind owner h p is allowed = record {
  framed = framed_here file sizes flags n kind h p;
  kind = subst (λ (o : Owner). IsKindFor n o (kind_of (page_of file n))) (sym is)
      (subst (λ (k : ℕ). IsKindFor n owner k) (sym p.has_kind) allowed);
}

first_whole : (file sizes : List ℕ) (flags : ℕ) → KnownHeads file sizes flags → (n : ℕ) → n < 3 → IsWhole file n
first_whole file sizes flags h zero l =
    head_whole file sizes flags 0 header_kind System h h.held.head (head_owner file sizes flags h) refl
first_whole file sizes flags h (suc zero) l =
    head_whole file sizes flags 1 bitmap_kind System h h.held.bitmap (bitmap_owner file sizes flags h) refl
first_whole file sizes flags h (suc (suc zero)) l =
    head_whole file sizes flags 2 inode_kind InodePage h h.held.inodes (inode_owner file sizes flags h) refl
first_whole file sizes flags h (suc (suc (suc n))) l = absurd (omega arith)

segment_whole : (file sizes : List ℕ) (flags : ℕ) → IsShape sizes → KnownSpace file sizes flags → (s i : ℕ)
    → s < length sizes → i < size_at sizes s → IsWhole file (segment_page sizes s i)
segment_whole file sizes flags shape h s i sn inside =
    let n = segment_page sizes s i in
    let own = page_owned file sizes flags shape h.heads (has_claims file sizes flags shape h.heads) s i sn inside in
    elim (h.segments s i sn inside) [
      | inl p ↦ head_whole file sizes flags n index_kind (Used s) h.heads p own (inr (inr refl))
      | inr p ↦ head_whole file sizes flags n blob_kind (Used s) h.heads p own (inr (inl refl))
    ]

each_whole : (file sizes : List ℕ) (flags : ℕ) → IsShape sizes → KnownSpace file sizes flags → (n : ℕ) → IsUsed file n
    → IsWhole file n
each_whole file sizes flags shape h n used = elim (cases_lt n 3) [
  | inl few ↦ first_whole file sizes flags h.heads n few
  | inr many ↦
      let r = used_place file sizes flags shape h.heads n used many in
      subst (λ (m : ℕ). IsWhole file m) r.is.there
      (segment_whole file sizes flags shape h r.segment r.at r.is.below r.is.inside)
]

-- the whole space
pub is_sound : (file sizes : List ℕ) (flags : ℕ) → IsShape sizes → ArePlain flags
    → KnownSpace file sizes flags → IsSoundSpace file flags
is_sound file sizes flags shape plain h = record {
  extents = has_extents file sizes flags shape plain h;
  inodes = has_inodes file sizes flags shape h.heads;
  owners = has_owners file sizes flags shape h.heads;
  frames = record {
    framed = λ n u. (each_whole file sizes flags shape h n u).framed;
    kinds = λ n u. (each_whole file sizes flags shape h n u).kind;
  };
}
