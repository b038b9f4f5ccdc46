-- Along a chain, page by page.
use Rattle.std.proofs.Common.{◌≡◌, ℕ, zero, suc, ◌+◌, ◌-◌, ◌<◌, ◌≤◌, Bool, List, [], ◌∷◌, ◌++◌}
use Rattle.std.proofs.Common.{length, take, get_or, flat_map, refl, sym, ap, ◌∙◌, subst, inl, inr, Option, Some, None}
use Rattle.std.proofs.Common.{arith, length-append, append_assoc}
use Rattle.std.proofs.Math.Seq.{take-append_seam, get_or-append_seam}
use Rattle.std.proofs.lemmas.Bool.{ne_eqb, cases_lt}
use Rattle.std.proofs.lemmas.List.{append-nil}
use Rattle.std.proofs.lemmas.List.Sums.{sum_by-append, sum_by-cons}
use Rattle.std.proofs.lemmas.List.Concat.{flat_map-append}
use Rattle.page_source.specs.declared.rule.Fault.{Fault}
use Rattle.page_source.specs.declared.checks.Halt.{Halt}
use Rattle.page_source.specs.declared.checks.Halt.TheVariants.{Broken, Source}
use Rattle.page_source.specs.Checks.{HaltsAt}
use Rattle.page_source.specs.Pages.{page_of}
use Rattle.page_source.specs.Lists.{before_place}
use Rattle.page_source.specs.Verdict.{AllBefore, EachOf}
use Rattle.column_values.specs.Utf8Reader.{Reader, IsFed}
use Rattle.space_audit.specs.Marks.{is_set, seen, Marked}
use Rattle.offpage_chain.specs.declared.check.Chain.{Chain}
use Rattle.offpage_chain.specs.declared.pages.Due.{Due}
use Rattle.offpage_chain.specs.Chain.{part_length, next_part, part_bytes, pages_from, chain_pages, bytes_on, total_on}
use Rattle.offpage_chain.specs.ChainChecks.{PlaceChecks, IsChainPart, PageCheck, PartCheck}
use Rattle.offpage_chain.specs.Places.{PlaceIn}
use Rattle.offpage_chain.specs.CheckSteps.{pages_in, first_due, DueCheck}
use Rattle.offpage_chain.proofs.Links.{total_none}

-- the checks of the pages of a chain
pub record Walk : Type 0 where
  pub file : List ℕ
  pub chain : Chain
  pub taken : ℕ → Bool

abbrev pub walk_of : List ℕ → Chain → List Bool → Walk
walk_of file chain marks = record { file = file; chain = chain; taken = is_set marks }

abbrev pub all_pages : Walk → List ℕ
all_pages w = pages_in w.file w.chain

-- what is asked of a page
abbrev pub place : Walk → PlaceChecks
place w = PlaceIn w.file w.chain.pages

abbrev pub Checks : Walk → List ℕ → ℕ → Option Fault → Type 0
Checks w = PartCheck w.file (place w) w.chain.holder w.chain.reference.now w.taken

-- some pages held, and then one is due
pub record IsAlong (w : Walk) (marks : List Bool) (old text : Reader) (due : Due) (count : ℕ) : Type 0 where
  pub before : List ℕ
  pub fuel : ℕ
  pub enough : due.left ≤ fuel
  pub split : all_pages w ≡ before ++ pages_from w.file fuel due.page due.left
  pub total : total_on w.file before + due.left ≡ w.chain.reference.now.length
  pub holder_is : due.holder ≡ before_place w.chain.holder before (length before)
  pub held : AllBefore (all_pages w) (Checks w) (length before)
  pub marked : Marked w.taken marks before
  pub counted : count ≡ length before
  pub fed : IsFed old text (bytes_on w.file before)

pub total_more : (file before : List ℕ) (n : ℕ)
    → total_on file (before ++ n ∷ []) ≡ total_on file before + part_length (page_of file n)
unfolding total_on
total_more file before n =
    let sums = sum_by-append (λ m. part_length (page_of file m)) before (n ∷ []) in
    let last = sum_by-cons (λ m. part_length (page_of file m)) n [] in
    omega (arith, sums, last)

pub no_bytes : (file : List ℕ) → bytes_on file [] ≡ []
unfolding bytes_on
no_bytes file = refl

pub bytes_more : (file before : List ℕ) (n : ℕ)
    → bytes_on file (before ++ n ∷ []) ≡ bytes_on file before ++ part_bytes (page_of file n)
unfolding bytes_on
bytes_more file before n =
    flat_map-append (λ m. part_bytes (page_of file m)) before (n ∷ [])
    ∙ ap (λ (t : List ℕ). flat_map (λ m. part_bytes (page_of file m)) before ++ t)
    (append-nil (part_bytes (page_of file n)))

-- the pages from one on, where some bytes are left
pub from_here : (file : List ℕ) (fuel n left : ℕ) → 0 < left → left ≤ fuel
    → (less : ℕ) × (fuel ≡ suc less) × (pages_from file fuel n left ≡ n ∷ pages_from file less (next_part
    (page_of file n)) (left - part_length (page_of file n)))
from_here file zero n left some enough = absurd (omega (arith, some, enough))
from_here file (suc less) n left some enough =
    (less, refl, rw (ne_eqb left 0 (λ e. omega (arith, e, some))) refl)

pub from_none : (file : List ℕ) (fuel n : ℕ) → pages_from file fuel n 0 ≡ []
from_none file zero n = refl
from_none file (suc fuel) n = refl

pub along_start : (w : Walk) (marks : List Bool) (text : Reader) (feeds : IsFed text text []) → Marked w.taken marks []
    → IsAlong w marks text text (first_due w.chain) 0
unfolding chain_pages
along_start w marks text feeds marked =
    record {
      before = [];
      fuel = w.chain.reference.now.length;
      enough = omega arith;
      split = refl;
      total = omega (arith, total_none w.file);
      holder_is = refl;
      held = λ j d below. absurd (omega (arith, below));
      marked = marked;
      counted = refl;
      fed = subst (λ (bytes : List ℕ). IsFed text text bytes) (sym (no_bytes w.file)) feeds;
    }

-- the check at the page at hand is that at its place
at_place : (w : Walk) (marks : List Bool) (old text : Reader) (due : Due) (count : ℕ) (v : Option Fault)
    → (a : IsAlong w marks old text due count) → 0 < due.left
    → DueCheck w.file w.chain (is_set marks) due v
    → (d : ℕ) → Checks w (take (length a.before) (all_pages w)) (get_or (all_pages w) (length a.before) d) v
at_place w marks old text due count v a some check d =
    let here = from_here w.file a.fuel due.page due.left some a.enough in
    let rest = pages_from w.file here.0 (next_part (page_of w.file due.page))
    (due.left - part_length (page_of w.file due.page)) in
    let split : all_pages w ≡ a.before ++ due.page ∷ rest = a.split ∙ ap (λ (t : List ℕ). a.before ++ t) here.2 in
    let front : take (length a.before) (all_pages w) ≡ a.before = ap (take (length a.before)) split
    ∙ take-append_seam a.before (due.page ∷ rest) in
    let page : get_or (all_pages w)
    (length a.before) d ≡ due.page = ap (λ (t : List ℕ). get_or t (length a.before) d) split
    ∙ get_or-append_seam a.before due.page rest d in
    let lacks : due.left ≡ w.chain.reference.now.length - total_on w.file a.before = omega (arith, a.total) in
    let one = subst (λ (h : ℕ). PageCheck w.file (place w) h (is_set marks due.page) due.left due.page v)
    a.holder_is check in
    let two = subst (λ (t : Bool). PageCheck w.file (place w) (before_place w.chain.holder a.before
    (length a.before)) t due.left due.page v) (a.marked due.page) one in
    let three = subst (λ (l : ℕ). PageCheck w.file (place w) (before_place w.chain.holder a.before (length a.before))
    (seen w.taken a.before due.page) l due.page v) lacks two in
    rw (front, page) three

within : (w : Walk) (marks : List Bool) (old text : Reader) (due : Due) (count : ℕ)
    → (a : IsAlong w marks old text due count) → 0 < due.left → length a.before < length (all_pages w)
within w marks old text due count a some =
    let here = from_here w.file a.fuel due.page due.left some a.enough in
    let rest = pages_from w.file here.0 (next_part (page_of w.file due.page))
    (due.left - part_length (page_of w.file due.page)) in
    let split : all_pages w ≡ a.before ++ due.page ∷ rest = a.split ∙ ap (λ (t : List ℕ). a.before ++ t) here.2 in
    omega (arith, ap length split, length-append a.before (due.page ∷ rest))

-- there is one page more than those that held
pub along_within : (w : Walk) (marks : List Bool) (old text : Reader) (due : Due) (count : ℕ)
    → IsAlong w marks old text due count → 0 < due.left → count < length (all_pages w)
along_within w marks old text due count a some = omega (arith, within w marks old text due count a some, a.counted)

-- the page at hand is the first that breaks
pub along_breaks : (w : Walk) (marks : List Bool) (old text : Reader) (due : Due) (count : ℕ) (fault : Fault)
    → IsAlong w marks old text due count → 0 < due.left
    → DueCheck w.file w.chain (is_set marks) due (Some fault)
    → EachOf (all_pages w) (Checks w) (Some fault)
along_breaks w marks old text due count fault a some check = (
  length a.before,
  within w marks old text due count a some,
  a.held,
  at_place w marks old text due count (Some fault) a some check,
)

pub along_halts : (w : Walk) (marks : List Bool) (old text : Reader) (due : Due) (count : ℕ) (halt : Halt)
    → IsAlong w marks old text due count → 0 < due.left
    → HaltsAt halt (DueCheck w.file w.chain (is_set marks) due)
    → HaltsAt halt (EachOf (all_pages w) (Checks w))
along_halts w marks old text due count (Broken fault) a some check =
    along_breaks w marks old text due count fault a some check
along_halts w marks old text due count Source a some check = tt

-- one page more
pub along_more : (w : Walk) (marks now : List Bool) (old text next : Reader) (due : Due) (count size : ℕ)
    (page : List ℕ)
    → IsAlong w marks old text due count → 0 < due.left
    → DueCheck w.file w.chain (is_set marks) due None
    → page ≡ page_of w.file due.page → size ≡ part_length page → IsChainPart page due.left
    → ((list : List ℕ) → Marked w.taken marks list → Marked w.taken now (list ++ due.page ∷ []))
    → ((bytes : List ℕ) → IsFed old text bytes → IsFed old next (bytes ++ part_bytes page))
    → IsAlong w now old next (record { page = next_part page; holder = due.page; left = due.left - size }) (count + 1)
along_more w marks now old text next due count size page a some check is length_is part more feeds =
    let here = from_here w.file a.fuel due.page due.left some a.enough in
    let size_is : size ≡ part_length (page_of w.file due.page) = length_is ∙ ap part_length is in
    let rest = pages_from w.file here.0 (next_part (page_of w.file due.page))
    (due.left - part_length (page_of w.file due.page)) in
    let split : all_pages w ≡ a.before ++ due.page ∷ rest = a.split ∙ ap (λ (t : List ℕ). a.before ++ t) here.2 in
    let longer : length (a.before ++ due.page ∷ []) ≡ suc (length a.before) =
    omega (arith, length-append a.before (due.page ∷ [])) in
    let same : pages_from w.file here.0 (next_part page) (due.left - size) ≡ rest =
    ap (λ (p : List ℕ). pages_from w.file here.0 (next_part p) (due.left - size)) is
    ∙ ap (pages_from w.file here.0 (next_part (page_of w.file due.page))) (ap (λ (k : ℕ). due.left - k) size_is) in
    record {
      before = a.before ++ due.page ∷ [];
      fuel = here.0;
      enough = omega (arith, a.enough, here.1, part.part.0, length_is);
      split = split ∙ (sym (append_assoc a.before (due.page ∷ []) rest)
          ∙ ap (λ (t : List ℕ). (a.before ++ due.page ∷ []) ++ t) (sym same));
      total = omega (arith, a.total, total_more w.file a.before due.page, size_is, part.within, length_is);
      holder_is = rw longer (sym (get_or-append_seam a.before due.page [] w.chain.holder));
      held = λ j d below. elim (cases_lt j (length a.before)) [
        | inl earlier ↦ a.held j d earlier
        | inr later ↦
            let last : length a.before ≡ j = omega (arith, below, later, longer) in
            subst (λ (i : ℕ). Checks w (take i (all_pages w)) (get_or (all_pages w) i d) None) last
            (at_place w marks old text due count None a some check d)
      ];
      marked = more a.before a.marked;
      counted = omega (arith, a.counted, longer);
      fed =
          subst (λ (bytes : List ℕ). IsFed old next bytes)
          (ap (λ (p : List ℕ). bytes_on w.file a.before ++ part_bytes p) is ∙ sym (bytes_more w.file a.before due.page))
          (feeds (bytes_on w.file a.before) a.fed);
    }

-- no byte is left: these are all pages
all_before : (w : Walk) (marks : List Bool) (old text : Reader) (due : Due) (count : ℕ) → due.left ≡ 0
    → (a : IsAlong w marks old text due count) → all_pages w ≡ a.before
all_before w marks old text due count none a =
    a.split ∙ (ap (λ (k : ℕ). a.before ++ pages_from w.file a.fuel due.page k) none
    ∙ (ap (λ (t : List ℕ). a.before ++ t) (from_none w.file a.fuel due.page) ∙ append-nil a.before))

pub along_holds : (w : Walk) (marks : List Bool) (old text : Reader) (due : Due) (count : ℕ) → due.left ≡ 0
    → IsAlong w marks old text due count → EachOf (all_pages w) (Checks w) None
along_holds w marks old text due count none a =
    subst (λ (k : ℕ). AllBefore (all_pages w) (Checks w) k)
    (ap length (sym (all_before w marks old text due count none a))) a.held

pub along_count : (w : Walk) (marks : List Bool) (old text : Reader) (due : Due) (count : ℕ) → due.left ≡ 0
    → IsAlong w marks old text due count → count ≡ length (all_pages w)
along_count w marks old text due count none a =
    a.counted ∙ ap length (sym (all_before w marks old text due count none a))

pub along_marked : (w : Walk) (marks : List Bool) (old text : Reader) (due : Due) (count : ℕ) → due.left ≡ 0
    → IsAlong w marks old text due count → Marked w.taken marks (all_pages w)
along_marked w marks old text due count none a =
    subst (λ (list : List ℕ). Marked w.taken marks list)
    (sym (all_before w marks old text due count none a)) a.marked

pub along_fed : (w : Walk) (marks : List Bool) (old text : Reader) (due : Due) (count : ℕ) → due.left ≡ 0
    → IsAlong w marks old text due count → IsFed old text (bytes_on w.file (all_pages w))
along_fed w marks old text due count none a =
    subst (λ (list : List ℕ). IsFed old text (bytes_on w.file list))
    (sym (all_before w marks old text due count none a)) a.fed
