use Rattle.std.proofs.Common.{List, length, drop, All, sym, ap, subst, arith}
use Rattle.std.proofs.lemmas.Bool.{eqb-true, eq-eqb}
use Rattle.schema_text.specs.declared.table.Column.{Column}
use Rattle.schema_text.specs.Cuts.{IsAmong}
use Rattle.schema_text.proofs.KeyLemmas.{key_of_part}
use Rattle.schema_text.proofs.keys.has_key.Goals as goal

pub makes_key-requires : goal.makes_key-requires
makes_key-requires c =
    subst (λ (columns : List Column). All (IsAmong columns) (drop c.args.from c.args.line.now))
    (sym c.columns.ensures.same) c.requires

pub returns : goal.returns
returns c =
    let size = ap length c.indexes.ensures.same in
    let is = key_of_part c.args.part.now
    (drop c.args.from c.args.line.now) c.format.result _ c.columns.result.now c.format.ensures
    c.columns.ensures.same
    (λ e. let none = eqb-true (length c.indexes.result.now) 0 e in
    omega (arith, none, size)) (λ e. eq-eqb (length c.indexes.result.now) 0 (omega (arith, e, size))) in
    (λ t. is.0 (c.makes_key.ensures.0 t), λ h. c.makes_key.ensures.1 (is.1 h))
