use Rattle.std.proofs.Common.{◌∙◌, length, Some, sym, ap, subst, refl, arith}
use Rattle.std.proofs.lemmas.Bool.{false≢true}
use Rattle.schema_text.proofs.checks.check_column.Goals.{then-indexes-gt0-via-then-indexes-gt0}
use Rattle.schema_text.proofs.checks.check_column.Goals.{then-indexes-gt0-via-else-indexes-gt0+then-len-lt4}
use Rattle.schema_text.specs.Grammar.{IsName}
use Rattle.schema_text.specs.Refusals.{IsNullityWord}
use Rattle.schema_text.specs.Cuts.{IsColumnRead}
use Rattle.schema_text.proofs.CheckLemmas.{column_form, column_name, column_number, column_count, column_twice}
use Rattle.schema_text.proofs.ColumnCheckLemmas.{IsFormed, form_of, last_is, type_number, type_good, any_not_new}
use Rattle.schema_text.proofs.ColumnCheckLemmas.{is_new, column_read}
use Rattle.schema_text.proofs.checks.check_column.Goals as goal

pub returns-in_default : goal.returns-in_default
returns-in_default c = column_form _ _ (λ f. c.in_default.ensures f.1.1)

pub returns-then-indexes-gt0 : goal.returns-then-indexes-gt0
returns-then-indexes-gt0 c =
    let size = ap length c.indexes.ensures.same in
    column_form _ _
    (λ f. elim c.then-indexes-gt0.branch [
      | then-indexes-gt0-via-then-indexes-gt0 w ↦ omega
          (arith, f.0)
      | then-indexes-gt0-via-else-indexes-gt0+then-len-lt4 w ↦ omega (arith, f.1.0)
    ])

pub returns-in_default-nullity : goal.returns-in_default-nullity
returns-in_default-nullity c =
    column_form _ _ (λ f. let none = c.in_default-nullity.ensures.only
    (subst IsNullityWord (sym (last_is c.args.line.now _ _ c.len-2.ensures c.at.ensures)) f.1.2) in
    absurd (false≢true none))

pub returns-then-not-is_name : goal.returns-then-not-is_name
returns-then-not-is_name c =
    let size = ap length c.indexes.ensures.same in
    let formed : IsFormed c.args.part.now c.args.line.now c.in-Some.kind c.in-Some-nullity.nullable =
    record {
      before = omega arith;
      long = omega arith;
      type = c.in-Some.ensures;
      nullity = sym (last_is c.args.line.now _ _ c.len-2.ensures c.at.ensures) ∙ c.in-Some-nullity.ensures.found;
    } in
    column_name _ _ (form_of _ _ _ _ formed)
    (λ n. let yes = c.if-not-is_name.ensures.1 (subst IsName (sym c.at-name.ensures) n) in absurd (false≢true yes))

pub returns-in_default-kind : goal.returns-in_default-kind
returns-in_default-kind c =
    let size = ap length c.indexes.ensures.same in
    let formed : IsFormed c.args.part.now c.args.line.now c.in-Some.kind c.in-Some-nullity.nullable =
    record {
      before = omega arith;
      long = omega arith;
      type = c.in-Some.ensures;
      nullity = sym (last_is c.args.line.now _ _ c.len-2.ensures c.at.ensures) ∙ c.in-Some-nullity.ensures.found;
    } in
    let bad = type_number _ _ c.in_default-kind.is c.in-Some.ensures in
    let name = subst IsName c.at-name.ensures (c.if-not-is_name.ensures.0 refl) in
    column_number _ _ (form_of _ _ _ _ formed) name bad

pub returns-then-columns-ge-MOST_COLUMNS : goal.returns-then-columns-ge-MOST_COLUMNS
returns-then-columns-ge-MOST_COLUMNS c =
    let size = ap length c.indexes.ensures.same in
    let formed : IsFormed c.args.part.now c.args.line.now c.in-Some.kind c.in-Some-nullity.nullable =
    record {
      before = omega arith;
      long = omega arith;
      type = c.in-Some.ensures;
      nullity = sym (last_is c.args.line.now _ _ c.len-2.ensures c.at.ensures) ∙ c.in-Some-nullity.ensures.found;
    } in
    let type = type_good _ _ _ c.in-Some-kind.is c.in-Some.ensures in
    let name = subst IsName c.at-name.ensures (c.if-not-is_name.ensures.0 refl) in
    let many = ap length c.columns.ensures.same in
    column_count _ _ (form_of _ _ _ _ formed) name (c.in-Some-kind.kind, type.0, type.1) (omega arith)

pub returns-then-has_column : goal.returns-then-has_column
returns-then-has_column c =
    let size = ap length c.indexes.ensures.same in
    let formed : IsFormed c.args.part.now c.args.line.now c.in-Some.kind c.in-Some-nullity.nullable =
    record {
      before = omega arith;
      long = omega arith;
      type = c.in-Some.ensures;
      nullity = sym (last_is c.args.line.now _ _ c.len-2.ensures c.at.ensures) ∙ c.in-Some-nullity.ensures.found;
    } in
    let type = type_good _ _ _ c.in-Some-kind.is c.in-Some.ensures in
    let name = subst IsName c.at-name.ensures (c.if-not-is_name.ensures.0 refl) in
    let many = ap length c.columns.ensures.same in
    let there = c.if-has_column.ensures.yes.0 refl in
    column_twice _ _ (form_of _ _ _ _ formed) name (c.in-Some-kind.kind, type.0, type.1) (omega arith)
    (any_not_new c.args.part.now _ _ _ c.columns-2.ensures.same c.at-name.ensures there)

pub returns : goal.returns
returns c =
    let size = ap length c.indexes.ensures.same in
    let formed : IsFormed c.args.part.now c.args.line.now c.in-Some.kind c.in-Some-nullity.nullable =
    record {
      before = omega arith;
      long = omega arith;
      type = c.in-Some.ensures;
      nullity = sym (last_is c.args.line.now _ _ c.len-2.ensures c.at.ensures) ∙ c.in-Some-nullity.ensures.found;
    } in
    let type = type_good _ _ _ c.in-Some-kind.is c.in-Some.ensures in
    let name = subst IsName c.at-name.ensures (c.if-not-is_name.ensures.0 refl) in
    let many = ap length c.columns.ensures.same in
    let good : IsFormed c.args.part.now c.args.line.now (Some c.in-Some-kind.kind) c.in-Some-nullity.nullable =
    record { before = formed.before; long = formed.long; type = type; nullity = formed.nullity } in
    let new = is_new c.args.part.now _ _ _ c.columns-2.ensures.same c.at-name.ensures c.if-has_column.ensures.no in
    subst (λ n. IsColumnRead c.args.part.now c.args.line.now n c.in-Some-kind.kind c.in-Some-nullity.nullable)
    (sym c.at-name.ensures)
    (column_read c.args.part.now c.args.line.now c.in-Some-kind.kind c.in-Some-nullity.nullable c.indexes.ensures.part
    c.requires good name (omega arith) new)
