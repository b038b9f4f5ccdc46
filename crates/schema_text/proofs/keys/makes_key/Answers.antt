use Rattle.std.proofs.Common.{◌≡◌, ◌∙◌, [], get_or, Some, sym, ap, refl, arith}
use Rattle.std.proofs.lemmas.Bool.{false≢true}
use Rattle.schema_text.specs.Refusals.{column_named}
use Rattle.schema_text.specs.Cuts.{IsAmong}
use Rattle.schema_text.proofs.KeyLemmas.{key_begun, key_more, key_not, key_made, key_known}
use Rattle.schema_text.proofs.keys.makes_key.Goals as goal

pub loop-i-init : goal.loop-i-init
loop-i-init c = key_begun c.args.format c.args.clustered c.args.columns.now c.args.line.now c.args.from

pub declared-column-requires : goal.declared-column-requires
declared-column-requires c =
    key_known (IsAmong c.args.columns.now) c.args.line.now c.args.from c.loop-i.i _ (omega arith)
    (omega arith) c.at.ensures c.requires

pub returns-in_default : goal.returns-in_default
returns-in_default c =
    let columns = c.args.columns.now in
    let named : column_named columns (get_or c.args.line.now c.loop-i.i []) ≡ Some c.declared-column.result.now =
    ap (column_named columns) (sym c.at.ensures) ∙ c.declared-column.ensures in (
      λ t. absurd (false≢true t),
      λ makes. absurd
          (key_not c.args.format c.args.clustered columns c.args.line.now c.args.from c.loop-i.i c.loop-i.total
          c.declared-column.result.now (omega arith) (omega arith) named c.loop-i.invariant c.in_default.ensures makes),
    )

pub loop-i-preserved : goal.loop-i-preserved
loop-i-preserved c =
    let columns = c.args.columns.now in
    let named : column_named columns (get_or c.args.line.now c.loop-i.i []) ≡ Some c.declared-column.result.now =
    ap (column_named columns) (sym c.at.ensures) ∙ c.declared-column.ensures in
    key_more c.args.format c.args.clustered columns c.args.line.now c.args.from c.loop-i.i c.loop-i.total
    c.in-Some.longer c.declared-column.result.now (omega arith)
    (omega arith) named c.loop-i.invariant c.in-Some.ensures

pub returns : goal.returns
returns c = (
  λ _. key_made c.args.format c.args.clustered c.args.columns.now c.args.line.now c.args.from c.loop-i.i
      c.loop-i.total (omega arith) c.loop-i.invariant,
  λ _. refl,
)
