use Rattle.std.proofs.Common.{◌≡◌, List, ℕ, [], get_or, sym, subst, refl, arith}
use Rattle.std.specs.List.{Any}
use Rattle.schema_text.specs.declared.table.Column.{Column}
use Rattle.schema_text.proofs.PlaceLemmas.{not_all_from, all_from, within_more}
use Rattle.schema_text.proofs.names.are_declared.Goals as goal

abbrev IsIn : List Column → List ℕ → Type 0
IsIn columns name = Any (λ (c : Column). c.name ≡ name) columns

pub returns-then-not-has_column : goal.returns-then-not-has_column
returns-then-not-has_column c =
    let columns = c.args.columns.now in
    let bad : IsIn columns (get_or c.args.line.now c.loop-i.i []) → ⊥ =
    λ h. let yes = c.if-not-has_column.ensures.yes.1 (subst (IsIn columns) (sym c.at.ensures) h) in cc in (
      λ t. cc,
      λ all. absurd (not_all_from (IsIn columns) c.args.line.now c.args.from c.loop-i.i (omega arith)
          (omega arith) bad all),
    )

pub loop-i-preserved : goal.loop-i-preserved
loop-i-preserved c =
    within_more (IsIn c.args.columns.now) c.args.line.now c.args.from c.loop-i.i (omega arith) c.loop-i.invariant
    (subst (IsIn c.args.columns.now) c.at.ensures (c.if-not-has_column.ensures.yes.0 refl))

pub returns : goal.returns
returns c = (
  λ _. all_from (IsIn c.args.columns.now) c.args.line.now c.args.from c.loop-i.i c.loop-i.invariant
      (omega arith),
  λ _. refl,
)
