use Rattle.std.proofs.Common.{List, drop, All, sym, subst, refl}
use Rattle.std.proofs.lemmas.Bool.{false≢true}
use Rattle.std.proofs.lemmas.Option.{none-some}
use Rattle.schema_text.specs.declared.table.Column.{Column}
use Rattle.schema_text.specs.Refusals.{IsRootWord, IsNewRoot}
use Rattle.schema_text.specs.Cuts.{IsAmong}
use Rattle.schema_text.proofs.CheckLemmas.{key_number, key_count, key_twice, key_unknown, key_key, key_root, key_good}
use Rattle.schema_text.proofs.keys.check_key.Goals as goal

pub returns-in_default : goal.returns-in_default
returns-in_default c = key_number _ _ (λ h. none-some _ (c.in_default.ensures.only h.0 (h.2, h.1)))

pub returns-then-not-has_counts : goal.returns-then-not-has_counts
returns-then-not-has_counts c =
    let root : IsRootWord c.args.number.now = (c.in-Some.root, c.in-Some.ensures.found.1, c.in-Some.ensures.found.0) in
    key_count _ _ root (λ h. absurd (false≢true (c.if-not-has_counts.ensures.1 h)))

pub returns-then-not-has_new_names : goal.returns-then-not-has_new_names
returns-then-not-has_new_names c =
    let root : IsRootWord c.args.number.now = (c.in-Some.root, c.in-Some.ensures.found.1, c.in-Some.ensures.found.0) in
    key_twice _ _ root (c.if-not-has_counts.ensures.0 refl)
    (λ h. absurd (false≢true (c.if-not-has_new_names.ensures.1 h)))

pub returns-then-not-are_declared : goal.returns-then-not-are_declared
returns-then-not-are_declared c =
    let root : IsRootWord c.args.number.now = (c.in-Some.root, c.in-Some.ensures.found.1, c.in-Some.ensures.found.0) in
    key_unknown _ _ root (c.if-not-has_counts.ensures.0 refl) (c.if-not-has_new_names.ensures.0 refl)
    (λ h. absurd (false≢true (c.if-not-are_declared.ensures.1 (subst (λ (columns : List Column). All (IsAmong columns)
    (drop c.args.from c.args.line.now)) (sym c.columns.ensures.same) h))))

pub has_key-requires : goal.has_key-requires
has_key-requires c =
    subst (λ (columns : List Column). All (IsAmong columns) (drop c.args.from c.args.line.now)) c.columns.ensures.same
    (c.if-not-are_declared.ensures.0 refl)

pub returns-then-not-has_key : goal.returns-then-not-has_key
returns-then-not-has_key c =
    let root : IsRootWord c.args.number.now = (c.in-Some.root, c.in-Some.ensures.found.1, c.in-Some.ensures.found.0) in
    let known = subst (λ (columns : List Column). All (IsAmong columns)
    (drop c.args.from c.args.line.now)) c.columns.ensures.same (c.if-not-are_declared.ensures.0 refl) in
    key_key _ _ root (c.if-not-has_counts.ensures.0 refl) (c.if-not-has_new_names.ensures.0 refl) known
    (λ h. absurd (false≢true (c.if-not-has_key.ensures.1 h)))

pub returns-then-not-has_new_root : goal.returns-then-not-has_new_root
returns-then-not-has_new_root c =
    let root : IsRootWord c.args.number.now = (c.in-Some.root, c.in-Some.ensures.found.1, c.in-Some.ensures.found.0) in
    let known = subst (λ (columns : List Column). All (IsAmong columns)
    (drop c.args.from c.args.line.now)) c.columns.ensures.same (c.if-not-are_declared.ensures.0 refl) in
    key_root _ _ root (c.if-not-has_counts.ensures.0 refl) (c.if-not-has_new_names.ensures.0 refl) known
    (c.if-not-has_key.ensures.0 refl)
    (λ h. absurd (false≢true (c.if-not-has_new_root.ensures.1 (subst (IsNewRoot c.args.part.now)
    c.in-Some.ensures.found.1 h))))

pub returns : goal.returns
returns c =
    let root : IsRootWord c.args.number.now = (c.in-Some.root, c.in-Some.ensures.found.1, c.in-Some.ensures.found.0) in
    let known = subst (λ (columns : List Column). All (IsAmong columns)
    (drop c.args.from c.args.line.now)) c.columns.ensures.same (c.if-not-are_declared.ensures.0 refl) in
    let new = subst (IsNewRoot c.args.part.now) (sym c.in-Some.ensures.found.1)
    (c.if-not-has_new_root.ensures.0 refl) in (
      c.in-Some.ensures.found.0,
      c.in-Some.ensures.found.1,
      key_good _ _ root (c.if-not-has_counts.ensures.0 refl)
          (c.if-not-has_new_names.ensures.0 refl) known (c.if-not-has_key.ensures.0 refl) new,
    )
