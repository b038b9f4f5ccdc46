-- What the checks of a chain answer.
use Rattle.std.proofs.Common.{◌≡◌, ℕ, ◌<◌, ◌≤◌, Bool, List, [], ◌++◌, Option, Some, None}
use Rattle.std.proofs.Common.{refl, arith}
use Rattle.page_source.specs.declared.rule.Fault.{Fault}
use Rattle.page_source.specs.declared.rule.Rule.TheVariants.{TextSpelling}
use Rattle.page_source.specs.Verdict.{EachOf}
use Rattle.column_values.specs.Utf8Reader.{Reader}
use Rattle.space_audit.specs.Marks.{is_set, Marked}
use Rattle.space_audit.proofs.Marking.{marked_none}
use Rattle.offpage_chain.specs.Chain.{bytes_on}
use Rattle.salvage_model.specs.declared.loss.Loss.{Loss}
use Rattle.salvage_model.specs.declared.loss.Loss.TheVariants.{Broken}
use Rattle.salvage_model.specs.ColumnChecks.{Lost, RefersTo, PartsChecksBy}
use Rattle.row_salvage.specs.declared.chain_check.Due.{Due}
use Rattle.row_salvage.specs.Missed.{UnderMissed}
use Rattle.row_salvage.specs.Calls.{AnswersParts, looked_now}
use Rattle.row_salvage.proofs.Missed.{grew_marked, under_none, under_then, under_more}
use Rattle.row_salvage.proofs.AlongChain.{Walk, all_pages, Checks, DueChecks, Held, IsReached, IsPassed}
use Rattle.row_salvage.proofs.AlongChain.{reached_breaks, grew_looked}
use Rattle.row_salvage.proofs.ChainVerdict.{parts_break, parts_untold, parts_hold}

pub not_none : (loss : Loss) (P : Type 0) → Some loss ≡ None → P
not_none loss P e = cc

module _ (w : Walk) (IsText : List ℕ → Type 0) where
  abbrev pub AllChecks : (ℕ → Bool) → Option Lost → Type 0
  AllChecks missed = PartsChecksBy w.file missed w.chain.space w.chain.leaf w.chain.reference (is_set w.start) IsText

  abbrev pub Answer : List Bool → Option Loss → (ℕ → Bool) → Type 0
  Answer now loss missed = AnswersParts (AllChecks missed) (all_pages w) w.start now loss

  -- no page was looked at
  pub answer_early : (f : ℕ) (loss : Loss)
      → ((missed : ℕ → Bool) → AllChecks missed (Some (record { loss = loss; looked = [] })))
      → UnderMissed w.start w.start f f (Answer w.start (Some loss))
  answer_early f loss checks =
      under_none w.start w.start f f (Answer w.start (Some loss)) (omega arith)
      (λ missed. record {
        looked = [];
        checks = checks missed;
        whole = λ e. not_none loss ([] ≡ all_pages w) e;
        marked = marked_none w.start;
      })

  module _ (some : 1 ≤ w.chain.reference.length) (here : RefersTo w.chain.space w.chain.reference) where
    -- a page broke
    pub answer_break : (marks now : List Bool) (old text : Reader) (due : Due) (count f g h : ℕ) (loss : Loss)
        → IsReached w marks old text due count f g → 0 < due.left
        → UnderMissed marks now g h (λ missed. (before : List ℕ) → DueChecks w missed marks due before
        (Some (record { loss = loss; looked = before ++ looked_now marks now due.page })))
        → ((taken : ℕ → Bool) (list : List ℕ) → Marked taken marks list
        → Marked taken now (list ++ looked_now marks now due.page))
        → UnderMissed w.start now f h (Answer now (Some loss))
    answer_break marks now old text due count f g h loss r left check more =
        let a = r.along in
        let looked = a.before ++ looked_now marks now due.page in
        let both = under_then w.start marks now f g h (Held w a.before)
        (λ missed. (before : List ℕ) → DueChecks w missed marks due before
        (Some (record { loss = loss; looked = before ++ looked_now marks now due.page })))
        (grew_marked w.start marks a.before a.marked) (grew_looked marks now due.page more) r.held check in
        under_more w.start now f h
        (λ missed. Held w a.before missed × ((before : List ℕ) → DueChecks w missed marks due before
        (Some (record { loss = loss; looked = before ++ looked_now marks now due.page }))))
        (Answer now (Some loss))
        (λ missed two. record {
          looked = looked;
          checks = parts_break w.file missed w.chain.space w.chain.leaf w.chain.reference (is_set w.start) IsText
              some here (record { loss = loss; looked = looked })
              (reached_breaks w missed marks old text due count (record { loss = loss; looked = looked }) a left two.0
              (two.1 a.before));
          whole = λ e. not_none loss (looked ≡ all_pages w) e;
          marked = more (is_set w.start) a.before a.marked;
        })
        both

    -- the bytes are no text
    pub answer_untold : (marks : List Bool) (old text : Reader) (count f g : ℕ) (fault : Fault)
        → IsPassed w marks old text count f g → ¬ (IsText (bytes_on w.file (all_pages w)))
        → fault ≡ record { rule = TextSpelling; page = w.chain.leaf }
        → UnderMissed w.start marks f g (Answer marks (Some (Broken fault)))
    answer_untold marks old text count f g fault passed bad is =
        under_more w.start marks f g (λ missed. EachOf (all_pages w) (Checks w missed) None)
        (Answer marks (Some (Broken fault)))
        (λ missed held. record {
          looked = all_pages w;
          checks = parts_untold w.file missed w.chain.space w.chain.leaf w.chain.reference (is_set w.start) IsText
              some here fault held bad is;
          whole = λ e. refl;
          marked = passed.marked;
        })
        passed.held

    pub answer_whole : (marks : List Bool) (old text : Reader) (count f g : ℕ)
        → IsPassed w marks old text count f g → IsText (bytes_on w.file (all_pages w))
        → UnderMissed w.start marks f g (Answer marks None)
    answer_whole marks old text count f g passed good =
        under_more w.start marks f g (λ missed. EachOf (all_pages w) (Checks w missed) None) (Answer marks None)
        (λ missed held. record {
          looked = all_pages w;
          checks = parts_hold w.file missed w.chain.space w.chain.leaf w.chain.reference (is_set w.start) IsText
              some here held good;
          whole = λ e. refl;
          marked = passed.marked;
        })
        passed.held
