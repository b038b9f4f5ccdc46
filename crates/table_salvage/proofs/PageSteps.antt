-- One page is done, or breaks the work off.
use Rattle.std.proofs.Common.{◌≡◌, ℕ, ◌+◌, ◌<◌, ◌≤◌, Bool, true, false, List, [], ◌∷◌, ◌++◌, length}
use Rattle.std.proofs.Common.{refl, sym, ap, ◌∙◌, subst, arith}
use Rattle.page_source.specs.Pages.{page_of}
use Rattle.page_source.specs.declared.rule.Rule.{Rule}
use Rattle.page_source.specs.Faults.{Rose}
use Rattle.schema_text.specs.TableDef.{TableDef}
use Rattle.schema_text.specs.IndexFields.{leaf_fields}
use Rattle.column_values.specs.Types.{Fields}
use Rattle.leaf_salvage.specs.Known.{Known, Knows}
use Rattle.leaf_salvage.specs.Unused.{IsUnused}
use Rattle.leaf_salvage.specs.Leaf.{LeafVerdict}
use Rattle.leaf_salvage.specs.Standing.{reach_of}
use Rattle.leaf_salvage.specs.declared.verdict.Verdict.{Verdict}
use Rattle.leaf_salvage.specs.declared.verdict.Verdict.TheVariants as verdicts
use Rattle.space_audit.specs.Marks.{is_in}
use Rattle.salvage_model.specs.declared.saved.Saved.{Saved}
use Rattle.salvage_model.specs.Losses.{unread_line, broken_line}
use Rattle.salvage_model.specs.Outcome.{Job, Outcome, Unused, Unread, Other, Lost, Leaf, Is, ComesOf, IsFull}
use Rattle.salvage_model.specs.Outcome.{looked_of, looked_of_rows, looked_of_pages}
use Rattle.salvage_model.specs.Saved.{rows_on}
use Rattle.salvage_model.specs.Report.{losses_on, losses_of_rows}
use Rattle.table_salvage.specs.Heard.{GetsNext}
use Rattle.table_salvage.specs.Work.{Work, Start, Progress, job_with, AtPage, PagesDone, RowsDone}
use Rattle.table_salvage.proofs.MetPages.{met_page, met_missed}
use Rattle.table_salvage.proofs.Places.{none_before}
use Rattle.table_salvage.proofs.Firsts.{pages_more, no_rows}
use Rattle.table_salvage.proofs.KeptTexts.{with_page, SavesNone, kept_page}
use Rattle.table_salvage.proofs.Hearing.{gets_none}

-- an outcome without rows
pub record Bare (job : Job) (n : ℕ) (x : Outcome) : Type 0 where
  pub rows : rows_on x ≡ []
  pub looked : looked_of x ≡ []
  pub full : IsFull job n x
  pub comes : (taken : ℕ → Bool) → ComesOf job n taken x

page_put : {start : Start} {job : Job} {n : ℕ} {now next : Progress} (x : Outcome) → Bare job n x
    → n < reach_of job.file
    → Knows job.file job.missed (n + 1) next.known → next.saved ≡ with_page now.saved x → SavesNone now next
    → GetsNext now.unheard next.unheard now.written.losses next.written.losses (losses_on job.table n x)
    → AtPage start n now job → AtPage start (n + 1) next job
page_put {job = job} {now = now} {next = next} x bare below knows count stays report at = record {
  knows = knows;
  outcomes = at.outcomes ++ x ∷ [];
  pages = pages_more x at.pages below (bare.comes (is_in (looked_of_pages at.outcomes))) bare.full;
  kept =
      kept_page x bare.rows bare.looked count stays
      (subst (λ k. GetsNext now.unheard next.unheard now.written.losses next.written.losses (losses_on job.table k x))
      (sym at.pages.all) report) at.kept;
}

-- the numbers after these pages
abbrev pub add : Saved → ℕ → ℕ → Saved
add saved leaves lost = record {
  rows = saved.rows;
  partial = saved.partial;
  leaves = saved.leaves + leaves;
  lost = saved.lost + lost;
}

pub add_none : (saved : Saved) → saved ≡ add saved 0 0
add_none saved =
    let e : saved.leaves ≡ saved.leaves + 0 = omega arith in
    let f : saved.lost ≡ saved.lost + 0 = omega arith in
    ap (λ (k : ℕ). record { rows = saved.rows; partial = saved.partial; leaves = k; lost = saved.lost }) e
    ∙ ap (λ (k : ℕ). record { rows = saved.rows; partial = saved.partial; leaves = saved.leaves + 0; lost = k }) f

pub add_lost : (saved : Saved)
    → record { rows = saved.rows; partial = saved.partial; leaves = saved.leaves; lost = saved.lost + 1 }
    ≡ add saved 0 1
add_lost saved =
    let e : saved.leaves ≡ saved.leaves + 0 = omega arith in
    ap (λ (k : ℕ). record { rows = saved.rows; partial = saved.partial; leaves = k; lost = saved.lost + 1 }) e

pub add_leaf : (saved : Saved)
    → record { rows = saved.rows; partial = saved.partial; leaves = saved.leaves + 1; lost = saved.lost }
    ≡ add saved 1 0
add_leaf saved =
    let e : saved.lost ≡ saved.lost + 0 = omega arith in
    ap (λ (k : ℕ). record { rows = saved.rows; partial = saved.partial; leaves = saved.leaves + 1; lost = k }) e

-- by what is known it isn't free
abbrev pub IsUsed : ℕ → Known → Type 0
IsUsed n known = (file : List ℕ) (missed : ℕ → Bool) → Knows file missed n known → ¬ (IsUnused file missed n)

-- it is known to be free
pub page_unused : {work : Work} {start : Start} {n : ℕ} {now : Progress}
    → ((file : List ℕ) (missed : ℕ → Bool) → Knows file missed n now.known → IsUnused file missed n)
    → ((file : List ℕ) (missed : ℕ → Bool) → Knows file missed n now.known → Knows file missed (n + 1) now.known)
    → n < reach_of work.file → PagesDone n work start now → PagesDone (n + 1) work start now
page_unused {work = work} {now = now} free next below met =
    met_page (omega arith) refl (λ pages parts read at.
    page_put Unused
    (record { rows = refl; looked = refl; full = tt; comes = λ taken. free work.file pages at.knows })
    below (next work.file pages at.knows) (add_none now.saved) (record { marks = refl; held = refl; sink = refl })
    (gets_none now.unheard now.written.losses) at) met

-- it couldn't be fetched, and that was reported
unread_is : {work : Work} {n : ℕ} {known : Known} (pages parts : ℕ → Bool) → IsUsed n known → pages n ≡ true
    → Knows work.file pages n known → Bare (job_with work pages parts) n Unread
unread_is {work = work} pages parts used missed knows =
    record { rows = refl; looked = refl; full = tt; comes = λ taken. (used work.file pages knows, missed) }

pub page_unread : {work : Work} {start : Start} {n : ℕ} {now next : Progress} → IsUsed n now.known
    → ((file : List ℕ) (missed : ℕ → Bool) → missed n ≡ true → Knows file missed n now.known
    → Knows file missed (n + 1) next.known)
    → n < reach_of work.file → now.faults ≤ next.faults → Rose now.faults next.faults → next.saved ≡ add now.saved 0 1
    → SavesNone now next
    → GetsNext now.unheard next.unheard now.written.losses next.written.losses (unread_line n)
    → PagesDone n work start now → PagesDone (n + 1) work start next
page_unread {work = work} used on below least rose count stays report met =
    met_missed least stays.marks rose (λ pages parts missed at.
    page_put Unread (unread_is
    {work = work} pages parts used missed at.knows) below (on work.file pages missed at.knows)
    count stays report at) met

-- what is known of a page that was fetched: this is its verdict
pub record Fetched (work : Work) (n : ℕ) (known next : Known) (v : Verdict) : Type 0 where
  pub below : n < reach_of work.file
  pub page : List ℕ
  pub fields : Fields
  pub page_is : page ≡ page_of work.file n
  pub fields_are : fields ≡ leaf_fields work.table 0
  pub verdict : LeafVerdict page n work.id fields v
  pub used : IsUsed n known
  pub on : (file : List ℕ) (missed : ℕ → Bool) → missed n ≡ false → page ≡ page_of file n → Knows file missed n known
      → Knows file missed (n + 1) next

here_now : {work : Work} {n : ℕ} {known next : Known} {v : Verdict} (f : Fetched work n known next v)
    (pages parts : ℕ → Bool) → pages n ≡ false → Knows work.file pages n known → Is (job_with work pages parts) n v
here_now {work = work} {n = n} {v = v} f pages parts read knows = (
  record { used = f.used work.file pages knows; read = read },
  subst (λ (p : List ℕ). LeafVerdict p n work.id (leaf_fields work.table 0) v) f.page_is
      (subst (λ (fields : Fields). LeafVerdict f.page n work.id fields v) f.fields_are f.verdict),
)

-- the report got nothing
pub record IsUnchanged (now next : Progress) : Type 0 where
  pub losses : next.written.losses ≡ now.written.losses
  pub unheard : next.unheard ≡ now.unheard

unchanged : (now next : Progress) → IsUnchanged now next
    → GetsNext now.unheard next.unheard now.written.losses next.written.losses []
unchanged now next same = rw (same.losses, same.unheard) (gets_none now.unheard now.written.losses)

pub page_other : {work : Work} {start : Start} {n : ℕ} {now next : Progress}
    → Fetched work n now.known next.known verdicts.Other → now.faults ≤ next.faults → next.saved ≡ now.saved
    → SavesNone now next → IsUnchanged now next → PagesDone n work start now → PagesDone (n + 1) work start next
page_other {work = work} {now = now} {next = next} f least count stays same met =
    met_page least stays.marks (λ pages parts read at.
    page_put Other
    (record { rows = refl; looked = refl; full = tt; comes = λ taken. here_now f pages parts read at.knows })
    f.below (f.on work.file pages read f.page_is at.knows) (count ∙ add_none now.saved) stays
    (unchanged now next same) at) met

pub page_lost : {work : Work} {start : Start} {n : ℕ} {now next : Progress} (rule : Rule)
    → Fetched work n now.known next.known (verdicts.Lost rule) → now.faults ≤ next.faults
    → next.saved ≡ add now.saved 0 1 → SavesNone now next
    → GetsNext now.unheard next.unheard now.written.losses next.written.losses (broken_line n rule)
    → PagesDone n work start now → PagesDone (n + 1) work start next
page_lost {work = work} rule f least count stays report met =
    met_page least stays.marks (λ pages parts read at.
    page_put (Lost rule)
    (record { rows = refl; looked = refl; full = tt; comes = λ taken. here_now f pages parts read at.knows })
    f.below (f.on work.file pages read f.page_is at.knows) count stays report at) met

none_looked : looked_of (Leaf []) ≡ []
unfolding looked_of_rows
none_looked = refl

none_lost : (table : TableDef) (n : ℕ) → losses_on table n (Leaf []) ≡ []
unfolding losses_of_rows
none_lost table n = refl

-- a leaf begins
pub leaf_begins : {work : Work} {start : Start} {n : ℕ} {now next : Progress}
    → Fetched work n now.known next.known verdicts.Leaf → now.faults ≤ next.faults → next.saved ≡ add now.saved 1 0
    → SavesNone now next → IsUnchanged now next → PagesDone n work start now → RowsDone n 0 work start next
leaf_begins {work = work} {n = n} {now = now} {next = next} f least count stays same met =
    met_page least stays.marks (λ pages parts read at. record {
      knows = f.on work.file pages read f.page_is at.knows;
      is_leaf = here_now f pages parts read at.knows;
      outcomes = at.outcomes;
      pages = at.pages;
      rows = [];
      are = no_rows (job_with work pages parts) n (is_in (looked_of_pages at.outcomes));
      places = sym (none_before work.kind (page_of work.file n) 0 (omega arith));
      kept =
          kept_page (Leaf []) refl none_looked count stays
          (subst (λ (t : List ℕ). GetsNext now.unheard next.unheard now.written.losses next.written.losses t)
          (sym (none_lost work.table (length at.outcomes))) (unchanged now next same)) at.kept;
    }) met
