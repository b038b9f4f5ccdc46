-- Both lists of inode pages, by the walk along each.
use Rattle.std.proofs.Common.{◌≡◌, ℕ, ◌<◌, Bool, true, false, List, [], ◌++◌, length, get_or, map, flat_map, replicate}
use Rattle.std.proofs.Common.{Contains, Option, Some, None, IfSome, Result, Ok, Err, OnOk, sym, ◌∙◌, ap, subst, inl}
use Rattle.std.proofs.Common.{inr, arith}
use Rattle.std.proofs.lemmas.Bool.{cases_lt, false≢true}
use Rattle.std.proofs.lemmas.List.{map-append, get_or-replicate, get_or_past, length-replicate}
use Rattle.std.proofs.lemmas.List.Concat.{flat_map-append}
use Rattle.std.proofs.lemmas.List.Elements.{Contains-append_cases}
use Rattle.page_source.specs.declared.checks.Stop.{Stop}
use Rattle.page_source.specs.declared.checks.Stop.TheVariants as stops
use Rattle.page_source.specs.Checks.{Stops, Answers}
use Rattle.page_source.specs.Lists.{AreMarked}
use Rattle.page_source.proofs.Members.{contains_none}
use Rattle.space_header.specs.declared.address.Base.{Base}
use Rattle.space_header.specs.declared.header.SpaceHeader.{SpaceHeader}
use Rattle.space_header.specs.Header.{head_of, size_of}
use Rattle.inode_segments.specs.Inodes.{list_pages, full_pages, free_pages, inode_pages, inodes_on, inode_of, segments}
use Rattle.inode_segments.specs.Inodes.{inodes_of}
use Rattle.inode_segments.specs.InodeChecks.{InodeListChecks, InodeListsChecks, SegmentChecks, AllInodeChecks}
use Rattle.inode_segments.specs.Kept.{InodesView, AreKept, none_kept}
use Rattle.inode_segments.specs.Walk.{DescribesFile, Grew}
use Rattle.inode_segments.proofs.Checked.{size_stated}
use Rattle.inode_segments.proofs.ListSteps.{stepped_at, stepped_length}
use Rattle.inode_segments.proofs.SoundLists.{list_holds}

unmarked_at : (n m : ℕ) → get_or (replicate n false) m false ≡ false
unmarked_at n m = elim (cases_lt m n) [
  | inl below ↦ get_or-replicate n m false false below
  | inr past ↦ get_or_past (replicate n false) m false (omega (arith, past, length-replicate n false))
]

pub none_size : (old : InodesView) (n : ℕ) → old ≡ none_kept n → length old.pages ≡ n
none_size old n none = ap (λ (o : InodesView). length o.pages) none ∙ length-replicate n false

-- no page is marked yet
pub none_marked : (old : InodesView) (n : ℕ) → old ≡ none_kept n → AreMarked old.pages []
none_marked old n none = rw none (λ m _. (
  λ is. absurd (false≢true (sym (unmarked_at n m) ∙ is)),
  λ has. absurd
      (contains_none m has),
))

-- how the first list stops
pub first_stops : (file : List ℕ) (is_fragment : ℕ → Bool) (header : SpaceHeader) → DescribesFile file header
    → (stop : Stop) → Stops stop (InodeListChecks file is_fragment true [] header.inodes_full)
    → Stops stop (InodeListsChecks file is_fragment)
unfolding InodeListsChecks
first_stops file is_fragment header is (stops.Broken fault) checks = inl (rw is.same at checks)
first_stops file is_fragment header is stops.Source checks = tt
first_stops file is_fragment header is stops.Memory checks = tt

-- what is answered after it
pub second_answers : {A : Type 0} (file : List ℕ) (is_fragment : ℕ → Bool) (header : SpaceHeader)
    → DescribesFile file header → InodeListChecks file is_fragment true [] header.inodes_full None
    → (result : Result A Stop)
    → Answers result (InodeListChecks file is_fragment false (list_pages file header.inodes_full) header.inodes_free)
    → Answers result (InodeListsChecks file is_fragment)
unfolding InodeListsChecks
second_answers file is_fragment header is first (Ok a) second = (rw is.same at first, rw is.same at second)
second_answers file is_fragment header is first (Err (stops.Broken fault)) second =
    inr (rw is.same at first, rw is.same at second)
second_answers file is_fragment header is first (Err stops.Source) second = tt
second_answers file is_fragment header is first (Err stops.Memory) second = tt

-- pages of lists whose checks hold are below the size
listed_below : (file : List ℕ) (is_fragment : ℕ → Bool) (full : Bool) (earlier : List ℕ) (base : Base)
    → InodeListChecks file is_fragment full earlier base None → (n : ℕ) → Contains (list_pages file base) n
    → n < size_of file
listed_below file is_fragment full earlier base checks n has =
    let inside : has.0 < base.length = omega (arith, has.1, stepped_length file base base.length) in
    let page = sym (stepped_at file base base.length has.0 n inside) ∙ has.2 in
    subst (λ k. k < size_of file) page ((list_holds file is_fragment full earlier base checks).steps has.0
    inside).place.below

pub pages_below : (file : List ℕ) (is_fragment : ℕ → Bool) → InodeListsChecks file is_fragment None → (n : ℕ)
    → Contains (inode_pages file) n → n < size_of file
unfolding InodeListsChecks
pages_below file is_fragment checks n has = elim (Contains-append_cases (full_pages file) (free_pages file) n has) [
  | inl first ↦ listed_below file is_fragment true [] (head_of file).inodes_full checks.0 n first
  | inr second ↦ listed_below file is_fragment false (full_pages file) (head_of file).inodes_free checks.1 n second
]

-- what is kept then is that of the file
pub kept_both : (file : List ℕ) (is_fragment : ℕ → Bool) (header : SpaceHeader) (old now new : InodesView)
    → DescribesFile file header → old ≡ none_kept header.size → Grew file (list_pages file header.inodes_full) old now
    → Grew file (list_pages file header.inodes_free) now new
    → AreMarked new.pages (list_pages file header.inodes_full ++ list_pages file header.inodes_free)
    → length new.pages ≡ header.size → InodeListsChecks file is_fragment None → AreKept file new
unfolding segments inodes_of
kept_both file is_fragment header old now new is none first second marked size checks =
    let full = full_pages file in
    let free = free_pages file in
    let on = inodes_on file in
    let first_here : Grew file full old now = subst
    (λ (h : SpaceHeader). Grew file (list_pages file h.inodes_full) old now) is.same first in
    let second_here : Grew file free now new = subst
    (λ (h : SpaceHeader). Grew file (list_pages file h.inodes_free) now new) is.same second in
    let marked_here : AreMarked new.pages (inode_pages file) =
    subst (λ (h : SpaceHeader). AreMarked new.pages
    (list_pages file h.inodes_full ++ list_pages file h.inodes_free)) is.same marked in
    let size_here : length new.pages ≡ size_of file = size ∙ sym (size_stated file header is) in
    record {
      places = second_here.places ∙ ap (λ xs. xs ++ flat_map on free)
          (first_here.places ∙ ap (λ (o : InodesView). o.places ++ flat_map on full) none)
          ∙ sym (flat_map-append on full free);
      inodes = second_here.inodes ∙ ap (λ xs. xs ++ map (inode_of file) (flat_map on free))
          (first_here.inodes ∙ ap (λ (o : InodesView). o.inodes ++ map (inode_of file) (flat_map on full)) none)
          ∙ sym (map-append (inode_of file) (flat_map on full) (flat_map on free))
          ∙ ap (map (inode_of file)) (sym (flat_map-append on full free));
      pages = λ n. elim (cases_lt n (length new.pages)) [
        | inl below ↦ marked_here n below
        | inr past ↦ (
          λ marked. absurd (false≢true (sym (get_or_past new.pages n false past) ∙ marked)),
          λ has. absurd (omega (arith, pages_below file is_fragment checks n has, size_here, past)),
        )
      ];
    }

-- the same of an answer that may be an error
pub kept_answer : {A : Type 0} (told : Option (List ℕ)) (is_fragment : ℕ → Bool) (header : SpaceHeader)
    (old now new : InodesView)
    (result : Result A Stop) → old ≡ none_kept header.size
    → IfSome told (λ file. DescribesFile file header)
    → IfSome told (λ file. Grew file (list_pages file header.inodes_full) old now)
    → OnOk result (IfSome told (λ file. Grew file (list_pages file header.inodes_free) now new))
    → IfSome told (λ file. AreMarked now.pages (list_pages file header.inodes_full))
    → OnOk result (IfSome told (λ file. (earlier : List ℕ) → AreMarked now.pages earlier
    → AreMarked new.pages (earlier ++ list_pages file header.inodes_free)))
    → length now.pages ≡ header.size → OnOk result (length new.pages ≡ length now.pages)
    → IfSome told (λ file. Answers result (InodeListsChecks file is_fragment))
    → OnOk result (IfSome told (λ file. AreKept file new))
kept_answer None is_fragment header old now new (Ok a) none is first second marked more room size checks = tt
kept_answer (Some file) is_fragment header old now new (Ok a) none is first second marked more room size checks =
    kept_both file is_fragment header old now new is none first second
    (more (list_pages file header.inodes_full) marked) (size ∙ room) checks
kept_answer told is_fragment header old now new (Err stop) none is first second marked more room size checks = tt

-- all checks, by those of the lists and of the segments
pub lists_stop : (file : List ℕ) (is_fragment : ℕ → Bool) (stop : Stop) → Stops stop (InodeListsChecks file is_fragment)
    → Stops stop (AllInodeChecks file is_fragment)
lists_stop file is_fragment (stops.Broken fault) checks = inl checks
lists_stop file is_fragment stops.Source checks = tt
lists_stop file is_fragment stops.Memory checks = tt

pub segments_stop : (file : List ℕ) (is_fragment : ℕ → Bool) → InodeListsChecks file is_fragment None → (stop : Stop)
    → Stops stop (SegmentChecks file) → Stops stop (AllInodeChecks file is_fragment)
segments_stop file is_fragment lists (stops.Broken fault) checks = inr (lists, checks)
segments_stop file is_fragment lists stops.Source checks = tt
segments_stop file is_fragment lists stops.Memory checks = tt

-- the id that the next segment gets
pub next_stated : (file : List ℕ) (header : SpaceHeader) → DescribesFile file header
    → (head_of file).next_segment ≡ header.next_segment
next_stated file header is = sym (ap (λ (x : SpaceHeader). x.next_segment) is.same)
