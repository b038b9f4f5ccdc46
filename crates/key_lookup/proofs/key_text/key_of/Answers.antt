use Rattle.std.proofs.Common.{◌≡◌, ℕ, List, length, eqb, true, false, sym, ap, ◌∙◌}
use Rattle.schema_text.specs.IndexFields.{clustered_positions}
use Rattle.key_lookup.proofs.KeyCells.{is_id_text, is_columns_text, if_ok, values_of_id, values_of_columns}
use Rattle.key_lookup.proofs.KeyCells.{id_count, columns_count}
use Rattle.key_lookup.proofs.key_text.key_of.Goals as goal

pub id_key-requires : goal.id_key-requires
id_key-requires c =
    let none : eqb (length (clustered_positions c.args.schema.now)) 0 ≡ true =
    ap (λ (places : List ℕ). eqb (length places) 0) (sym c.key_places.ensures.same)
    ∙ sym c.is_empty.ensures ∙ c.if-is_empty.true in
    (c.requires.0, is_id_text c.args.schema.now c.args.row.now c.requires.0 none c.requires.1)

pub columns_key-requires : goal.columns_key-requires
columns_key-requires c =
    let some : eqb (length (clustered_positions c.args.schema.now)) 0 ≡ false =
    ap (λ (places : List ℕ). eqb (length places) 0) (sym c.key_places.ensures.same)
    ∙ sym c.is_empty.ensures ∙ c.if-is_empty.false in
    (is_columns_text c.args.schema.now c.args.row.now c.requires.0 some c.requires.1).fits

pub returns-then-is_empty-clause-same : goal.returns-then-is_empty-clause-same
returns-then-is_empty-clause-same c =
    let none : eqb (length (clustered_positions c.args.schema.now)) 0 ≡ true =
    ap (λ (places : List ℕ). eqb (length places) 0) (sym c.key_places.ensures.same)
    ∙ sym c.is_empty.ensures ∙ c.if-is_empty.true in
    if_ok c.id_key.result (λ key same. same ∙ values_of_id c.args.schema.now c.args.row.now none) c.id_key.ensures

pub returns-then-is_empty-clause-count : goal.returns-then-is_empty-clause-count
returns-then-is_empty-clause-count c =
    let none : eqb (length (clustered_positions c.args.schema.now)) 0 ≡ true =
    ap (λ (places : List ℕ). eqb (length places) 0) (sym c.key_places.ensures.same)
    ∙ sym c.is_empty.ensures ∙ c.if-is_empty.true in
    if_ok c.id_key.result
    (λ key same. id_count c.args.schema.now c.args.row.now c.requires.0 key none
    (is_id_text c.args.schema.now c.args.row.now c.requires.0 none c.requires.1) same) c.id_key.ensures

pub returns-else-is_empty-clause-same : goal.returns-else-is_empty-clause-same
returns-else-is_empty-clause-same c =
    let some : eqb (length (clustered_positions c.args.schema.now)) 0 ≡ false =
    ap (λ (places : List ℕ). eqb (length places) 0) (sym c.key_places.ensures.same)
    ∙ sym c.is_empty.ensures ∙ c.if-is_empty.false in
    if_ok c.columns_key.result (λ key same. same ∙ values_of_columns c.args.schema.now c.args.row.now some)
    c.columns_key.ensures

pub returns-else-is_empty-clause-count : goal.returns-else-is_empty-clause-count
returns-else-is_empty-clause-count c =
    let some : eqb (length (clustered_positions c.args.schema.now)) 0 ≡ false =
    ap (λ (places : List ℕ). eqb (length places) 0) (sym c.key_places.ensures.same)
    ∙ sym c.is_empty.ensures ∙ c.if-is_empty.false in
    if_ok c.columns_key.result
    (λ key same. columns_count c.args.schema.now c.args.row.now key some
    (is_columns_text c.args.schema.now c.args.row.now c.requires.0 some c.requires.1).fits same) c.columns_key.ensures
