-- The checks of the inode lists find nothing exactly where these are sound.
use Rattle.std.proofs.Common.{◌≡◌, ℕ, ◌<◌, ◌≤◌, Bool, true, false, List, [], ◌++◌, length, get_or, All, Contains, None}
use Rattle.std.proofs.Common.{refl, sym, ◌∙◌, subst, ⊎_elim, arith}
use Rattle.std.proofs.lemmas.List.Elements.{Contains-append_cases, Contains-append_left, Contains-get_or}
use Rattle.page_source.specs.Pages.{page_of}
use Rattle.space_header.specs.declared.address.Base.{Base}
use Rattle.space_header.specs.Header.{IsNull, head_of, size_of}
use Rattle.space_header.specs.Linked.{Linked}
use Rattle.inode_segments.specs.Inodes.{step_address, stepped_pages, page_node, page_address, used_places, full_pages}
use Rattle.inode_segments.specs.InodeChecks.{step_before, IsAddress, IsFilled, IsInodePage, InodeListChecks}
use Rattle.inode_segments.specs.InodeChecks.{InodeListsChecks, AllInodeChecks, AreInodes}
use Rattle.inode_segments.proofs.Ids.{magic_sound, ids_sound, distinct_sound, segment_checks}
use Rattle.inode_segments.proofs.ListSteps.{Step, step_holds, step_checks, stepped_at, stepped_length, linked_by_steps}
use Rattle.inode_segments.proofs.ListSteps.{by_list}

-- a list whose checks hold
pub record ListHolds (file : List ℕ) (is_fragment : ℕ → Bool) (full : Bool) (earlier : List ℕ)
    (base : Base) : Type 0 where
  pub steps : (k : ℕ) → k < base.length → Step file is_fragment full earlier base k
  pub null : IsNull (step_address file base base.length)
  pub last : IsAddress base.last (step_before file base base.length)

pub list_holds : (file : List ℕ) (is_fragment : ℕ → Bool) (full : Bool) (earlier : List ℕ) (base : Base)
    → InodeListChecks file is_fragment full earlier base None → ListHolds file is_fragment full earlier base
list_holds file is_fragment full earlier base h =
    let e : h.0 ≡ base.length = sym h.3.counted in
    record {
      steps = λ k l. step_holds file is_fragment full earlier base k (h.2 k (omega (arith, l, e))).1;
      null = subst (λ n. IsNull (step_address file base n)) e h.1;
      last = subst (λ n. IsAddress base.last (step_before file base n)) e h.3.last;
    }

pub list_checks : (file : List ℕ) (is_fragment : ℕ → Bool) (full : Bool) (earlier : List ℕ) (base : Base)
    → size_of file ≤ 4194304 → ListHolds file is_fragment full earlier base
    → InodeListChecks file is_fragment full earlier base None
list_checks file is_fragment full earlier base few h = (
  base.length,
  h.null,
  (λ k l. (
    λ z. absurd (let q : (step_address file base k).page ≡ 4294967295 = z in
        omega (arith, (h.steps k l).place.below)),
    step_checks file is_fragment full earlier base k (h.steps k l),
  )),
  record { counted = refl; last = h.last },
)

filled : (file : List ℕ) (is_fragment : ℕ → Bool) (full : Bool) (earlier : List ℕ) (base : Base)
    → ListHolds file is_fragment full earlier base
    → All (λ n. IsFilled full (length (used_places (page_of file n)))) (stepped_pages file base base.length)
filled file is_fragment full earlier base h = λ k d l.
    let m : k < base.length = omega (arith, l, stepped_length file base base.length) in
    subst (λ n. IsFilled full (length (used_places (page_of file n))))
    (sym (stepped_at file base base.length k d m)) (h.steps k m).filled

apart : (file : List ℕ) (is_fragment : ℕ → Bool) (full : Bool) (earlier : List ℕ) (base : Base)
    → ListHolds file is_fragment full earlier base
    → (n : ℕ) → Contains earlier n → ¬ (Contains (stepped_pages file base base.length) n)
apart file is_fragment full earlier base h n e c =
    let m : c.0 < base.length = omega (arith, c.1, stepped_length file base base.length) in
    let there : (step_address file base c.0).page ≡ n = sym (stepped_at file base base.length c.0 n m) ∙ c.2 in
    (h.steps c.0 m).place.new (subst (λ x. Contains (earlier ++ stepped_pages file base c.0) x) (sym there)
    (Contains-append_left earlier (stepped_pages file base c.0) n e))

-- a sound list
holds : (file : List ℕ) (is_fragment : ℕ → Bool) (full : Bool) (earlier : List ℕ) (base : Base)
    → Linked base (page_node file) page_address (IsInodePage file is_fragment) (stepped_pages file base base.length)
    → All (λ n. IsFilled full (length (used_places (page_of file n)))) (stepped_pages file base base.length)
    → ((n : ℕ) → Contains earlier n → ¬ (Contains (stepped_pages file base base.length) n))
    → ListHolds file is_fragment full earlier base
holds file is_fragment full earlier base list filled apart =
    let whole = stepped_pages file base base.length in
    let by = by_list file is_fragment base list in
    record {
      steps = λ k l.
          let page = (step_address file base k).page in
          let member = by.member k l in
          let inside : k < length whole = omega (arith, l, stepped_length file base base.length) in
          let at : get_or whole k 0 ≡ page = stepped_at file base base.length k 0 l in
          record {
            place = record {
              offset = by.offset k l;
              below = member.below;
              fragment = member.fragment;
              new = λ c. ⊎_elim
                  (λ before. apart page before (subst (λ n. Contains whole n) at (Contains-get_or whole k 0 inside)))
                  (λ again.
                  let i : again.0 < k = omega (arith, again.1, stepped_length file base k) in
                  list.distinct again.0 k 0 i inside
                  (stepped_at file base base.length again.0 0 (omega (arith, i, l))
                  ∙ (sym (stepped_at file base k again.0 page i) ∙ (again.2 ∙ sym at))))
                  (Contains-append_cases earlier (stepped_pages file base k) page c);
            };
            framed = member.framed;
            kind = member.kind;
            back = by.back k l;
            filled = subst (λ n. IsFilled full (length (used_places (page_of file n)))) at (filled k 0 inside);
          };
      null = by.null;
      last = by.last;
    }

pub inodes_sound : (file : List ℕ) (is_fragment : ℕ → Bool) → AllInodeChecks file is_fragment None
    → AreInodes file is_fragment
unfolding InodeListsChecks
inodes_sound file is_fragment h =
    let a = list_holds file is_fragment true [] (head_of file).inodes_full h.0.0 in
    let b = list_holds file is_fragment false (full_pages file) (head_of file).inodes_free h.0.1 in
    record {
      full = linked_by_steps file is_fragment true [] (head_of file).inodes_full a.steps a.null a.last;
      free = linked_by_steps file is_fragment false (full_pages file) (head_of file).inodes_free b.steps b.null b.last;
      apart = apart file is_fragment false (full_pages file) (head_of file).inodes_free b;
      filled = filled file is_fragment true [] (head_of file).inodes_full a;
      has_unused = filled file is_fragment false (full_pages file) (head_of file).inodes_free b;
      magic = magic_sound file h.1;
      ids = ids_sound file h.1;
      distinct = distinct_sound file h.1;
    }

pub inode_checks : (file : List ℕ) (is_fragment : ℕ → Bool) → size_of file ≤ 4194304
    → AreInodes file is_fragment → AllInodeChecks file is_fragment None
unfolding InodeListsChecks
inode_checks file is_fragment few h =
    let a = holds file is_fragment true [] (head_of file).inodes_full h.full h.filled
    (λ n c. absurd (omega (arith, c.1))) in
    let b = holds file is_fragment false (full_pages file) (head_of file).inodes_free h.free h.has_unused h.apart in (
      (
        list_checks file is_fragment true [] (head_of file).inodes_full few a,
        list_checks file is_fragment false
            (full_pages file) (head_of file).inodes_free few b,
      ),
      segment_checks file h.magic h.ids h.distinct,
    )
