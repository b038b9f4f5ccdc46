-- The checks of one page of a chain, and whether it was looked at.
use Rattle.std.proofs.Common.{◌≡◌, ◌≢◌, ◌≤◌, ℕ, Bool, true, false, not, ◌&&◌, if◌then◌else◌, List, [], ◌∷◌, ◌++◌}
use Rattle.std.proofs.Common.{Option, Some, None, Result, Ok, Err, OnOk, OnErr, refl, sym, ap, ◌∙◌, subst, inl, inr}
use Rattle.std.specs.Result.{is_err}
use Rattle.std.proofs.lemmas.Bool.{false≢true}
use Rattle.std.proofs.lemmas.List.{append-nil}
use Rattle.page_source.specs.declared.rule.Fault.{Fault}
use Rattle.page_source.specs.declared.rule.Rule.TheVariants.{Frame, ChainPlace, ChainLength}
use Rattle.page_source.specs.Faults.{Rose}
use Rattle.page_source.specs.Pages.{page_of}
use Rattle.fil_frame.specs.Kinds.{blob_kind}
use Rattle.fil_frame.specs.Frame.{IsFramed, kind_of}
use Rattle.space_audit.specs.Marks.{is_set}
use Rattle.offpage_chain.specs.ChainChecks.{IsChainPart}
use Rattle.salvage_model.specs.declared.loss.Loss.{Loss}
use Rattle.salvage_model.specs.declared.loss.Loss.TheVariants.{Broken, Unread}
use Rattle.salvage_model.specs.ColumnChecks.{Lost, IsNewPart, PartChecks}
use Rattle.row_salvage.specs.Missed.{IsNewly, UnderMissed}
use Rattle.row_salvage.specs.Calls.{looked_now}
use Rattle.row_salvage.proofs.Missed.{under_none, under_read, under_missed}

-- what an answer says if it isn't an error, and if it is
pub where_ok : {A E P : Type 0} (r : Result A E) → false ≡ is_err r → OnOk r P → P
where_ok (Ok a) e h = h
where_ok (Err x) e h = absurd (false≢true e)

pub where_err : {A E P : Type 0} (r : Result A E) → true ≡ is_err r → OnErr r P → P
where_err (Ok a) e h = absurd (false≢true (sym e))
where_err (Err x) e h = h

-- a page isn't looked at if its mark stays, and is if it is set
pub looked_same : (marks : List Bool) (n : ℕ) → looked_now marks marks n ≡ []
looked_same marks n = by_mark (is_set marks n) where
  by_mark : (b : Bool) → (if b && not b then n ∷ [] else []) ≡ []
  by_mark true = refl
  by_mark false = refl

pub looked_new : (before after : List Bool) (n : ℕ) → IsNewly before after n → looked_now before after n ≡ n ∷ []
looked_new before after n new = rw (new.unmarked, new.marked) refl

same_lost : (a b : Loss) (xs ys before : List ℕ) → a ≡ b → xs ≡ ys
    → ◌≡◌ {A = Lost} (record { loss = a; looked = before ++ xs }) (record { loss = b; looked = before ++ ys })
same_lost a b xs ys before same looked =
    let made : Loss → List ℕ → Lost = λ loss looked. record { loss = loss; looked = before ++ looked } in
    ap (λ (loss : Loss). made loss xs) same ∙ ap (made b) looked

module _ (file : List ℕ) (old new : List Bool) (f g space holder left n : ℕ) where
  -- what is said of the page
  abbrev pub Tells : List ℕ → Option Lost → (ℕ → Bool) → Type 0
  Tells before lost missed = PartChecks file missed space holder (is_set old n) left before n lost

  abbrev pub PartIs : Loss → Type 0
  PartIs loss =
      UnderMissed old new f g (λ missed. (before : List ℕ)
      → Tells before (Some (record { loss = loss; looked = before ++ looked_now old new n })) missed)

  -- it isn't a new page of the file
  pub part_taken : (fault : Fault) → new ≡ old → f ≤ g → ¬ (IsNewPart file (is_set old n) n)
      → fault ≡ record { rule = ChainPlace; page = holder } → PartIs (Broken fault)
  part_taken fault stays later bad is =
      let none : looked_now old new n ≡ [] =
      ap (λ (marks : List Bool). looked_now old marks n) stays ∙ looked_same old n in
      let empty : (before : List ℕ)
      → ◌≡◌ {A = Lost} (record { loss = Broken fault; looked = before ++ looked_now old new n })
      (record { loss = Broken (record { rule = ChainPlace; page = holder }); looked = before }) =
      λ before. same_lost (Broken fault) (Broken (record { rule = ChainPlace; page = holder })) (looked_now old new n)
      [] before (ap Broken is) none
      ∙ ap (λ (looked : List ℕ). let lost : Lost =
      record { loss = Broken (record { rule = ChainPlace; page = holder }); looked = looked } in lost)
      (append-nil before) in
      under_none old new f g
      (λ missed. (before : List ℕ)
      → Tells before (Some (record { loss = Broken fault; looked = before ++ looked_now old new n })) missed)
      later (λ missed before. inl (bad, empty before))

  module _ (fresh : IsNewPart file (is_set old n) n) (newly : IsNewly old new n) where
    seen_now : (a b : Loss) (before : List ℕ) → a ≡ b
        → ◌≡◌ {A = Lost} (record { loss = a; looked = before ++ looked_now old new n })
        (record { loss = b; looked = before ++ n ∷ [] })
    seen_now a b before same = same_lost a b (looked_now old new n) (n ∷ []) before same (looked_new old new n newly)

    -- it couldn't be fetched
    pub part_unread : Rose f g → PartIs (Unread n)
    part_unread rose =
        under_missed old new f g n
        (λ missed. (before : List ℕ)
        → Tells before (Some (record { loss = Unread n; looked = before ++ looked_now old new n })) missed) newly rose
        (λ missed lost before.
        inr (fresh, inl ((λ read. false≢true (sym read ∙ lost)), seen_now (Unread n) (Unread n) before refl)))

    module _ (page : List ℕ) (is : page ≡ page_of file n) (later : f ≤ g) where
      -- its frame is broken
      pub part_unframed : (fault : Fault) → ¬ (IsFramed page n space) → fault ≡ record { rule = Frame; page = n }
          → PartIs (Broken fault)
      part_unframed fault bad same =
          under_read old new f g n
          (λ missed. (before : List ℕ)
          → Tells before (Some (record { loss = Broken fault; looked = before ++ looked_now old new n })) missed)
          newly later
          (λ missed read before.
          inr (
            fresh,
            inr (
              read,
              inl (
                (λ framed. bad (subst (λ (p : List ℕ). IsFramed p n space) (sym is) framed)),
                seen_now (Broken fault) (Broken (record { rule = Frame; page = n })) before (ap Broken same),
              ),
            ),
          ))

      module _ (framed : IsFramed page n space) where
        framed_there : IsFramed (page_of file n) n space
        framed_there = subst (λ (p : List ℕ). IsFramed p n space) is framed

        -- its type is another
        pub part_kind : (fault : Fault) → kind_of page ≢ blob_kind
            → fault ≡ record { rule = ChainPlace; page = holder } → PartIs (Broken fault)
        part_kind fault other same =
            under_read old new f g n
            (λ missed. (before : List ℕ)
            → Tells before (Some (record { loss = Broken fault; looked = before ++ looked_now old new n })) missed)
            newly later
            (λ missed read before.
            inr (
              fresh,
              inr (
                read,
                inr (
                  framed_there,
                  inl (
                    (λ blob. other (ap kind_of is ∙ blob)),
                    seen_now (Broken fault) (Broken (record { rule = ChainPlace; page = holder })) before
                        (ap Broken same),
                  ),
                ),
              ),
            ))

        module _ (blob : kind_of page ≡ blob_kind) where
          blob_there : kind_of (page_of file n) ≡ blob_kind
          blob_there = ap kind_of (sym is) ∙ blob

          -- it has no part that fits
          pub part_short : (fault : Fault) → ¬ (IsChainPart page left)
              → fault ≡ record { rule = ChainLength; page = n } → PartIs (Broken fault)
          part_short fault bad same =
              under_read old new f g n
              (λ missed. (before : List ℕ)
              → Tells before (Some (record { loss = Broken fault; looked = before ++ looked_now old new n })) missed)
              newly later
              (λ missed read before.
              inr (
                fresh,
                inr (
                  read,
                  inr (
                    framed_there,
                    inr (
                      blob_there,
                      (
                        (λ part. bad (subst (λ (p : List ℕ). IsChainPart p left) (sym is) part)),
                        seen_now (Broken fault) (Broken (record { rule = ChainLength; page = n })) before
                            (ap Broken same),
                      ),
                    ),
                  ),
                ),
              ))

          -- all holds
          pub part_holds : IsChainPart page left
              → UnderMissed old new f g (λ missed. (before : List ℕ) → Tells before None missed)
          part_holds part =
              under_read old new f g n (λ missed. (before : List ℕ) → Tells before None missed) newly later
              (λ missed read before.
              (fresh, (read, (framed_there, (blob_there, subst (λ (p : List ℕ). IsChainPart p left) is part)))))
