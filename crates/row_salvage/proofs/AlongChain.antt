-- Along a chain, page by page.
use Rattle.std.proofs.Common.{◌≡◌, ℕ, suc, ◌+◌, ◌-◌, ◌<◌, ◌≤◌, Bool, List, [], ◌∷◌, ◌++◌}
use Rattle.std.proofs.Common.{length, take, get_or, refl, sym, ap, ◌∙◌, subst, inl, inr, Option, Some, None}
use Rattle.std.proofs.Common.{arith, length-append, append_assoc}
use Rattle.std.proofs.Math.Seq.{take-append_seam, get_or-append_seam}
use Rattle.std.proofs.lemmas.Bool.{cases_lt}
use Rattle.std.proofs.lemmas.List.{append-nil}
use Rattle.page_source.specs.Pages.{page_of}
use Rattle.page_source.specs.Lists.{before_place}
use Rattle.page_source.specs.Verdict.{AllBefore, EachOf}
use Rattle.column_values.specs.Utf8Reader.{Reader, IsFed}
use Rattle.space_audit.specs.Marks.{is_set, seen, Marked}
use Rattle.space_audit.proofs.Marking.{marked_none}
use Rattle.offpage_chain.specs.Chain.{part_length, next_part, part_bytes, pages_from, chain_pages, bytes_on, total_on}
use Rattle.offpage_chain.specs.ChainChecks.{IsChainPart}
use Rattle.offpage_chain.proofs.Links.{total_none}
use Rattle.offpage_chain.proofs.Alongs.{total_more, no_bytes, bytes_more, from_here, from_none}
use Rattle.salvage_model.specs.ColumnChecks.{Lost, PartChecks, PartCheck}
use Rattle.row_salvage.specs.declared.chain_check.Chain.{Chain}
use Rattle.row_salvage.specs.declared.chain_check.Due.{Due}
use Rattle.row_salvage.specs.Missed.{IsNewly, UnderMissed}
use Rattle.row_salvage.specs.Calls.{looked_now}
use Rattle.row_salvage.proofs.Missed.{Grew, grew_marked, under_none, under_then, under_more}
use Rattle.row_salvage.proofs.PartVerdict.{looked_new}

-- the checks of the pages of a chain, from these marks on
pub record Walk : Type 0 where
  pub file : List ℕ
  pub chain : Chain
  pub start : List Bool

abbrev pub walk_of : List ℕ → Chain → List Bool → Walk
walk_of file chain start = record { file = file; chain = chain; start = start }

abbrev pub all_pages : Walk → List ℕ
all_pages w = chain_pages w.file w.chain.reference

abbrev pub Checks : Walk → (ℕ → Bool) → List ℕ → ℕ → Option Lost → Type 0
Checks w missed = PartCheck w.file missed w.chain.space w.chain.leaf w.chain.reference (is_set w.start)

-- the checks of the page that is due
abbrev pub DueChecks : Walk → (ℕ → Bool) → List Bool → Due → List ℕ → Option Lost → Type 0
DueChecks w missed marks due before =
    PartChecks w.file missed w.chain.space due.holder (is_set marks due.page) due.left before due.page

abbrev pub first_due : Chain → Due
first_due chain = record { page = chain.reference.page; holder = chain.leaf; left = chain.reference.length }

-- some pages were looked at, and then one is due
pub record IsAlong (w : Walk) (marks : List Bool) (old text : Reader) (due : Due) (count : ℕ) : Type 0 where
  pub before : List ℕ
  pub fuel : ℕ
  pub enough : due.left ≤ fuel
  pub split : all_pages w ≡ before ++ pages_from w.file fuel due.page due.left
  pub total : total_on w.file before + due.left ≡ w.chain.reference.length
  pub holder_is : due.holder ≡ before_place w.chain.leaf before (length before)
  pub marked : Marked (is_set w.start) marks before
  pub counted : count ≡ length before
  pub fed : IsFed old text (bytes_on w.file before)

-- and those held
abbrev pub Held : Walk → List ℕ → (ℕ → Bool) → Type 0
Held w before missed = AllBefore (all_pages w) (Checks w missed) (length before)

pub record IsReached (w : Walk) (marks : List Bool) (old text : Reader) (due : Due) (count f g : ℕ) : Type 0 where
  pub along : IsAlong w marks old text due count
  pub held : UnderMissed w.start marks f g (Held w along.before)

along_start : (w : Walk) (text : Reader) → IsFed text text [] → IsAlong w w.start text text (first_due w.chain) 0
unfolding chain_pages
along_start w text feeds = record {
  before = [];
  fuel = w.chain.reference.length;
  enough = omega arith;
  split = refl;
  total = omega (arith, total_none w.file);
  holder_is = refl;
  marked = marked_none w.start;
  counted = refl;
  fed = subst (λ (bytes : List ℕ). IsFed text text bytes) (sym (no_bytes w.file)) feeds;
}

pub reached_start : (w : Walk) (text : Reader) (f : ℕ) → IsFed text text []
    → IsReached w w.start text text (first_due w.chain) 0 f f
reached_start w text f feeds =
    let a = along_start w text feeds in
    let none : length a.before ≡ 0 = omega (arith, sym a.counted) in
    record {
      along = a;
      held = under_none w.start w.start f f (Held w a.before) (omega arith)
          (λ missed j d below. absurd (omega (arith, below, none)));
    }

-- the page that is due is the next one of the chain
pub record IsNextPage (w : Walk) (due : Due) (before rest : List ℕ) : Type 0 where
  pub split : all_pages w ≡ before ++ due.page ∷ rest

next_page : (w : Walk) (marks : List Bool) (old text : Reader) (due : Due) (count : ℕ)
    → (a : IsAlong w marks old text due count) → 0 < due.left → (rest : List ℕ) × IsNextPage w due a.before rest
next_page w marks old text due count a some =
    let here = from_here w.file a.fuel due.page due.left some a.enough in (
      pages_from w.file here.0 (next_part (page_of w.file due.page))
          (due.left - part_length (page_of w.file due.page)),
      record { split = a.split ∙ ap (λ (t : List ℕ). a.before ++ t) here.2 },
    )

-- the check at the page at hand is that at its place
at_place : (w : Walk) (missed : ℕ → Bool) (marks : List Bool) (old text : Reader) (due : Due) (count : ℕ)
    (v : Option Lost) → (a : IsAlong w marks old text due count) → 0 < due.left
    → DueChecks w missed marks due a.before v
    → (d : ℕ) → Checks w missed (take (length a.before) (all_pages w)) (get_or (all_pages w) (length a.before) d) v
at_place w missed marks old text due count v a some check d =
    let next = next_page w marks old text due count a some in
    let split = (next.1).split in
    let front : take (length a.before) (all_pages w) ≡ a.before =
    ap (take (length a.before)) split ∙ take-append_seam a.before (due.page ∷ next.0) in
    let page : get_or (all_pages w) (length a.before) d ≡ due.page =
    ap (λ (t : List ℕ). get_or t (length a.before) d) split ∙ get_or-append_seam a.before due.page next.0 d in
    let lacks : due.left ≡ w.chain.reference.length - total_on w.file a.before = omega (arith, a.total) in
    let by : ℕ → Bool → ℕ → Type 0 =
    λ holder taken left. PartChecks w.file missed w.chain.space holder taken left a.before due.page v in
    let one = subst (λ (h : ℕ). by h (is_set marks due.page) due.left) a.holder_is check in
    let two = subst (λ (t : Bool). by (before_place w.chain.leaf a.before (length a.before)) t due.left)
    (a.marked due.page) one in
    let three = subst (λ (l : ℕ). by (before_place w.chain.leaf a.before (length a.before))
    (seen (is_set w.start) a.before due.page) l) lacks two in
    let At : List ℕ → ℕ → Type 0 = λ before n. Checks w missed before n v in
    subst (λ (before : List ℕ). At before (get_or (all_pages w) (length a.before) d)) (sym front)
    (subst (λ (n : ℕ). At a.before n) (sym page) three)

within : (w : Walk) (marks : List Bool) (old text : Reader) (due : Due) (count : ℕ)
    → (a : IsAlong w marks old text due count) → 0 < due.left → length a.before < length (all_pages w)
within w marks old text due count a some =
    let next = next_page w marks old text due count a some in
    omega (arith, ap length (next.1).split, length-append a.before (due.page ∷ next.0))

-- the checks up to a page that breaks
pub reached_breaks : (w : Walk) (missed : ℕ → Bool) (marks : List Bool) (old text : Reader) (due : Due) (count : ℕ)
    (lost : Lost) → (a : IsAlong w marks old text due count) → 0 < due.left → Held w a.before missed
    → DueChecks w missed marks due a.before (Some lost) → EachOf (all_pages w) (Checks w missed) (Some lost)
reached_breaks w missed marks old text due count lost a some held check = (
  length a.before,
  within w marks old text due count a some,
  held,
  at_place w missed marks old text due count (Some lost) a some check,
)

-- what was marked by the look at a page
pub grew_looked : (marks now : List Bool) (n : ℕ)
    → ((taken : ℕ → Bool) (list : List ℕ) → Marked taken marks list
    → Marked taken now (list ++ looked_now marks now n)) → Grew marks now
grew_looked marks now n more =
    grew_marked marks now (looked_now marks now n) (more (is_set marks) [] (marked_none marks))

-- one page more
module _ (w : Walk) (marks now : List Bool) (old text next : Reader) (due : Due) (count size f g h : ℕ)
    (page : List ℕ) where
  abbrev pub due_after : Due
  due_after = record { page = next_part page; holder = due.page; left = due.left - size }

  along_more : (a : IsAlong w marks old text due count) → 0 < due.left → page ≡ page_of w.file due.page
      → size ≡ part_length page → IsChainPart page due.left
      → Marked (is_set w.start) now (a.before ++ due.page ∷ [])
      → IsFed old next (bytes_on w.file a.before ++ part_bytes page)
      → (b : IsAlong w now old next due_after (count + 1)) × (b.before ≡ a.before ++ due.page ∷ [])
  along_more a some is length_is part marked feeds =
      let here = from_here w.file a.fuel due.page due.left some a.enough in
      let size_is : size ≡ part_length (page_of w.file due.page) = length_is ∙ ap part_length is in
      let rest = pages_from w.file here.0 (next_part (page_of w.file due.page))
      (due.left - part_length (page_of w.file due.page)) in
      let split : all_pages w ≡ a.before ++ due.page ∷ rest = a.split ∙ ap (λ (t : List ℕ). a.before ++ t) here.2 in
      let longer : length (a.before ++ due.page ∷ []) ≡ suc (length a.before) =
      omega (arith, length-append a.before (due.page ∷ [])) in
      let same : pages_from w.file here.0 (next_part page) (due.left - size) ≡ rest =
      ap (λ (p : List ℕ). pages_from w.file here.0 (next_part p) (due.left - size)) is
      ∙ ap (pages_from w.file here.0 (next_part (page_of w.file due.page))) (ap (λ (k : ℕ). due.left - k) size_is) in (
        record {
          before = a.before ++ due.page ∷ [];
          fuel = here.0;
          enough = omega (arith, a.enough, here.1, part.part.0, length_is);
          split = split ∙ (sym (append_assoc a.before (due.page ∷ []) rest)
              ∙ ap (λ (t : List ℕ). (a.before ++ due.page ∷ []) ++ t) (sym same));
          total = omega (arith, a.total, total_more w.file a.before due.page, size_is, part.within, length_is);
          holder_is = rw longer (sym (get_or-append_seam a.before due.page [] w.chain.leaf));
          marked = marked;
          counted = omega (arith, a.counted, longer);
          fed =
              subst (λ (bytes : List ℕ). IsFed old next bytes)
              (ap (λ (p : List ℕ). bytes_on w.file a.before ++ part_bytes p) is
              ∙ sym (bytes_more w.file a.before due.page))
              feeds;
        },
        refl,
      )

  -- the pages before it held, and so does it
  held_more : (missed : ℕ → Bool) (a : IsAlong w marks old text due count) → 0 < due.left
      → Held w a.before missed → DueChecks w missed marks due a.before None
      → Held w (a.before ++ due.page ∷ []) missed
  held_more missed a some held check j d below =
      let longer : length (a.before ++ due.page ∷ []) ≡ suc (length a.before) =
      omega (arith, length-append a.before (due.page ∷ [])) in
      elim (cases_lt j (length a.before)) [
        | inl earlier ↦ held j d earlier
        | inr later ↦
            let last : length a.before ≡ j = omega (arith, below, later, longer) in
            subst (λ (i : ℕ). Checks w missed (take i (all_pages w)) (get_or (all_pages w) i d) None) last
            (at_place w missed marks old text due count None a some check d)
      ]

  pub reached_more : (r : IsReached w marks old text due count f g) → 0 < due.left
      → UnderMissed marks now g h (λ missed. (before : List ℕ) → DueChecks w missed marks due before None)
      → page ≡ page_of w.file due.page → size ≡ part_length page → IsChainPart page due.left
      → IsNewly marks now due.page
      → ((taken : ℕ → Bool) (list : List ℕ) → Marked taken marks list
      → Marked taken now (list ++ looked_now marks now due.page))
      → ((bytes : List ℕ) → IsFed old text bytes → IsFed old next (bytes ++ part_bytes page))
      → IsReached w now old next due_after (count + 1) f h
  reached_more r some check is length_is part newly more feeds =
      let a = r.along in
      let looked = looked_new marks now due.page newly in
      let marked : Marked (is_set w.start) now (a.before ++ due.page ∷ []) =
      subst (λ (t : List ℕ). Marked (is_set w.start) now (a.before ++ t)) looked
      (more (is_set w.start) a.before a.marked) in
      let b = along_more a some is length_is part marked (feeds (bytes_on w.file a.before) a.fed) in
      let both = under_then w.start marks now f g h (Held w a.before)
      (λ missed. (before : List ℕ) → DueChecks w missed marks due before None)
      (grew_marked w.start marks a.before a.marked) (grew_looked marks now due.page more) r.held check in
      record {
        along = b.0;
        held = under_more w.start now f h
            (λ missed. Held w a.before missed × ((before : List ℕ) → DueChecks w missed marks due before None))
            (Held w (b.0).before)
            (λ missed two. subst (λ (t : List ℕ). Held w t missed) (sym b.1)
            (held_more missed a some two.0 (two.1 a.before)))
            both;
      }

-- no byte is left: these are all pages
all_before : (w : Walk) (marks : List Bool) (old text : Reader) (due : Due) (count : ℕ) → due.left ≡ 0
    → (a : IsAlong w marks old text due count) → all_pages w ≡ a.before
all_before w marks old text due count none a =
    a.split ∙ (ap (λ (k : ℕ). a.before ++ pages_from w.file a.fuel due.page k) none
    ∙ (ap (λ (t : List ℕ). a.before ++ t) (from_none w.file a.fuel due.page) ∙ append-nil a.before))

-- what is known of a chain whose pages held
pub record IsPassed (w : Walk) (marks : List Bool) (old text : Reader) (count f g : ℕ) : Type 0 where
  pub held : UnderMissed w.start marks f g (λ missed. EachOf (all_pages w) (Checks w missed) None)
  pub marked : Marked (is_set w.start) marks (all_pages w)
  pub counted : count ≡ length (all_pages w)
  pub fed : IsFed old text (bytes_on w.file (all_pages w))

pub reached_end : (w : Walk) (marks : List Bool) (old text : Reader) (due : Due) (count f g : ℕ) → due.left ≡ 0
    → IsReached w marks old text due count f g → IsPassed w marks old text count f g
reached_end w marks old text due count f g none r =
    let a = r.along in
    let all = all_before w marks old text due count none a in
    record {
      held = under_more w.start marks f g (Held w a.before) (λ missed. EachOf (all_pages w) (Checks w missed) None)
          (λ missed held. subst (λ (k : ℕ). AllBefore (all_pages w) (Checks w missed) k) (ap length (sym all)) held)
          r.held;
      marked = subst (λ (list : List ℕ). Marked (is_set w.start) marks list) (sym all) a.marked;
      counted = a.counted ∙ ap length (sym all);
      fed = subst (λ (list : List ℕ). IsFed old text (bytes_on w.file list)) (sym all) a.fed;
    }
