use Rattle.std.proofs.Common.{[], get_or, sym, subst, arith}
use Rattle.schema_text.specs.Grammar.{IsName}
use Rattle.schema_text.proofs.PlaceLemmas.{not_all_from}
use Rattle.schema_text.proofs.names.are_names.Goals as goal

pub returns-then-not-is_name : goal.returns-then-not-is_name
returns-then-not-is_name c =
    let bad : IsName (get_or c.args.line.now c.loop-i.i []) → ⊥ =
    λ h. let yes = c.if-not-is_name.ensures.1 (subst IsName (sym c.at.ensures) h) in cc in (
      λ t. cc,
      λ all. absurd (not_all_from IsName c.args.line.now c.args.from c.loop-i.i (omega arith)
          (omega arith) bad all),
    )
