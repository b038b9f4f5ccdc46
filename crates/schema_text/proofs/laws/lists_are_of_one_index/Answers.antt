use Rattle.std.proofs.Common.{ℕ, List, [], ◌∷◌, ◌++◌, refl, sym, ap, arith, length-append}
use Rattle.std.proofs.Math.Seq.{take-append_seam}
use Rattle.column_values.specs.declared.field.Field.{Field}
use Rattle.column_values.specs.Types.{AreOfOneIndex, child_field}
use Rattle.schema_text.specs.TableDef.{TableDef}
use Rattle.schema_text.specs.IndexFields.{key_fields, rest_fields, leaf_fields, node_fields}
use Rattle.schema_text.proofs.laws.lists_are_of_one_index.Goals as goal

of_one_index : (table : TableDef) (j : ℕ) → AreOfOneIndex (leaf_fields table j) (node_fields table j)
unfolding leaf_fields node_fields
of_one_index table j =
    let key = key_fields table j in
    let rest = rest_fields table j in
    record {
      few = omega (arith, length-append key rest);
      keys = refl;
      nullable = refl;
      pointers = ap (λ (fields : List Field). fields ++ child_field ∷ []) (sym (take-append_seam key rest));
    }

pub returns : goal.returns
returns c = of_one_index
