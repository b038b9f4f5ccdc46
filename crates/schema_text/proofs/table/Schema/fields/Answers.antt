use Rattle.std.proofs.Common.{◌≡◌, ◌∙◌, ◌++◌, ◌∷◌, [], length, sym, ap, subst, arith}
use Rattle.std.proofs.lemmas.Result.{IfOk-weaker}
use Rattle.column_values.specs.Types.{AreListed, AreFields, nullable_count, child_field}
use Rattle.schema_text.specs.Grammar.{IsTable}
use Rattle.schema_text.specs.IndexFields.{index_fields, leaf_fields, node_fields}
use Rattle.schema_text.proofs.FieldLemmas.{AreBuilt, built_few, built_leaf, built_node, leaf_good, node_good}
use Rattle.schema_text.proofs.table.Schema.fields.Goals as goal

pub overflow_cast-nullable : goal.overflow_cast-nullable
overflow_cast-nullable c =
    let t = c.args.self.now in
    let j = c.args.index in
    let key = c.in_ok-fields.fields.items in
    let fields = c.push_rest.new.fields.items in
    let nullable = c.nullable_count-nullable.result in
    let keys = length c.as_slice-keys.result.now in
    let built : AreBuilt t j key fields nullable keys = record {
      table = subst IsTable c.self.view_is c.self.invariant;
      within = c.requires;
      key_is = c.in_ok-fields.ensures;
      fields_are = c.in_ok-push_rest.ensures;
      count = c.nullable_count-nullable.ensures.value ∙ ap nullable_count c.deref.ensures.value;
      size = ap length c.as_slice-keys.ensures.value;
    } in
    let few = built_few t j key fields nullable keys built in
    let size = ap length c.deref.ensures.value in
    omega (arith, few.0, size, c.nullable_count-nullable.ensures.few)

pub overflow_cast-keys : goal.overflow_cast-keys
overflow_cast-keys c =
    let t = c.args.self.now in
    let j = c.args.index in
    let key = c.in_ok-fields.fields.items in
    let fields = c.push_rest.new.fields.items in
    let nullable = c.nullable_count-nullable.result in
    let keys = length c.as_slice-keys.result.now in
    let built : AreBuilt t j key fields nullable keys = record {
      table = subst IsTable c.self.view_is c.self.invariant;
      within = c.requires;
      key_is = c.in_ok-fields.ensures;
      fields_are = c.in_ok-push_rest.ensures;
      count = c.nullable_count-nullable.ensures.value ∙ ap nullable_count c.deref.ensures.value;
      size = ap length c.as_slice-keys.ensures.value;
    } in
    let few = built_few t j key fields nullable keys built in omega (arith, few.1)

pub list_of-requires : goal.list_of-requires
list_of-requires c =
    let t = c.args.self.now in
    let j = c.args.index in
    let key = c.in_ok-fields.fields.items in
    let fields = c.push_rest.new.fields.items in
    let nullable = c.nullable_count-nullable.result in
    let keys = length c.as_slice-keys.result.now in
    let built : AreBuilt t j key fields nullable keys = record {
      table = subst IsTable c.self.view_is c.self.invariant;
      within = c.requires;
      key_is = c.in_ok-fields.ensures;
      fields_are = c.in_ok-push_rest.ensures;
      count = c.nullable_count-nullable.ensures.value ∙ ap nullable_count c.deref.ensures.value;
      size = ap length c.as_slice-keys.ensures.value;
    } in
    let is : record { fields = c.deref-then-leaf.result.now; nullable = nullable; keys = keys } ≡ leaf_fields t j =
    ap (λ fs. record { fields = fs; nullable = nullable; keys = keys }) c.deref-then-leaf.ensures.value
    ∙ built_leaf t j key fields nullable keys built in
    subst AreListed (sym is) (leaf_good t j built.table built.within).listed

pub returns-then-leaf : goal.returns-then-leaf
returns-then-leaf c =
    let t = c.args.self.now in
    let j = c.args.index in
    let key = c.in_ok-fields.fields.items in
    let fields = c.push_rest.new.fields.items in
    let nullable = c.nullable_count-nullable.result in
    let keys = length c.as_slice-keys.result.now in
    let built : AreBuilt t j key fields nullable keys = record {
      table = subst IsTable c.self.view_is c.self.invariant;
      within = c.requires;
      key_is = c.in_ok-fields.ensures;
      fields_are = c.in_ok-push_rest.ensures;
      count = c.nullable_count-nullable.ensures.value ∙ ap nullable_count c.deref.ensures.value;
      size = ap length c.as_slice-keys.ensures.value;
    } in
    let is : record { fields = c.deref-then-leaf.result.now; nullable = nullable; keys = keys } ≡ leaf_fields t j =
    ap (λ fs. record { fields = fs; nullable = nullable; keys = keys }) c.deref-then-leaf.ensures.value
    ∙ built_leaf t j key fields nullable keys built in
    record {
      value = IfOk-weaker c.list_of.result _ (λ fields. fields ≡ index_fields t j c.args.leaf) (λ list h. h ∙ is
          ∙ ap (index_fields t j) (sym c.if-leaf.true)) c.list_of.ensures;
      are = IfOk-weaker c.list_of.result _ AreFields (λ list h. subst AreFields (sym (h
          ∙ is)) (leaf_good t j built.table built.within)) c.list_of.ensures;
    }

pub overflow_cast-nullable-2 : goal.overflow_cast-nullable-2
overflow_cast-nullable-2 c =
    let t = c.args.self.now in
    let j = c.args.index in
    let key = c.in_ok-fields.fields.items in
    let fields = c.push_rest.new.fields.items in
    let nullable = c.nullable_count-nullable.result in
    let keys = length c.as_slice-keys.result.now in
    let built : AreBuilt t j key fields nullable keys = record {
      table = subst IsTable c.self.view_is c.self.invariant;
      within = c.requires;
      key_is = c.in_ok-fields.ensures;
      fields_are = c.in_ok-push_rest.ensures;
      count = c.nullable_count-nullable.ensures.value ∙ ap nullable_count c.deref.ensures.value;
      size = ap length c.as_slice-keys.ensures.value;
    } in
    let few = built_few t j key fields nullable keys built in
    let size = ap length c.deref.ensures.value in
    omega (arith, few.0, size, c.nullable_count-nullable.ensures.few)

pub overflow_cast-keys-2 : goal.overflow_cast-keys-2
overflow_cast-keys-2 c =
    let t = c.args.self.now in
    let j = c.args.index in
    let key = c.in_ok-fields.fields.items in
    let fields = c.push_rest.new.fields.items in
    let nullable = c.nullable_count-nullable.result in
    let keys = length c.as_slice-keys.result.now in
    let built : AreBuilt t j key fields nullable keys = record {
      table = subst IsTable c.self.view_is c.self.invariant;
      within = c.requires;
      key_is = c.in_ok-fields.ensures;
      fields_are = c.in_ok-push_rest.ensures;
      count = c.nullable_count-nullable.ensures.value ∙ ap nullable_count c.deref.ensures.value;
      size = ap length c.as_slice-keys.ensures.value;
    } in
    let few = built_few t j key fields nullable keys built in omega (arith, few.1)

pub list_of-requires-2 : goal.list_of-requires-2
list_of-requires-2 c =
    let t = c.args.self.now in
    let j = c.args.index in
    let key = c.in_ok-fields.fields.items in
    let fields = c.push_rest.new.fields.items in
    let nullable = c.nullable_count-nullable.result in
    let keys = length c.as_slice-keys.result.now in
    let built : AreBuilt t j key fields nullable keys = record {
      table = subst IsTable c.self.view_is c.self.invariant;
      within = c.requires;
      key_is = c.in_ok-fields.ensures;
      fields_are = c.in_ok-push_rest.ensures;
      count = c.nullable_count-nullable.ensures.value ∙ ap nullable_count c.deref.ensures.value;
      size = ap length c.as_slice-keys.ensures.value;
    } in
    let nodes = c.deref-2.ensures.value ∙ c.in_ok-push.ensures.items
    ∙ ap (λ fs. fs ++ child_field ∷ []) c.truncate.ensures.items in
    let is : record { fields = c.deref-2.result.now; nullable = nullable; keys = keys } ≡ node_fields t j =
    built_node t j key fields c.deref-2.result.now nullable keys built nodes in
    subst AreListed (sym is) (node_good t j built.table built.within).listed

pub returns : goal.returns
returns c =
    let t = c.args.self.now in
    let j = c.args.index in
    let key = c.in_ok-fields.fields.items in
    let fields = c.push_rest.new.fields.items in
    let nullable = c.nullable_count-nullable.result in
    let keys = length c.as_slice-keys.result.now in
    let built : AreBuilt t j key fields nullable keys = record {
      table = subst IsTable c.self.view_is c.self.invariant;
      within = c.requires;
      key_is = c.in_ok-fields.ensures;
      fields_are = c.in_ok-push_rest.ensures;
      count = c.nullable_count-nullable.ensures.value ∙ ap nullable_count c.deref.ensures.value;
      size = ap length c.as_slice-keys.ensures.value;
    } in
    let nodes = c.deref-2.ensures.value ∙ c.in_ok-push.ensures.items
    ∙ ap (λ fs. fs ++ child_field ∷ []) c.truncate.ensures.items in
    let is : record { fields = c.deref-2.result.now; nullable = nullable; keys = keys } ≡ node_fields t j =
    built_node t j key fields c.deref-2.result.now nullable keys built nodes in
    record {
      value = IfOk-weaker c.list_of-2.result _ (λ fields. fields ≡ index_fields t j c.args.leaf) (λ list h. h ∙ is
          ∙ ap (index_fields t j) (sym c.if-leaf.false)) c.list_of-2.ensures;
      are = IfOk-weaker c.list_of-2.result _ AreFields (λ list h. subst AreFields (sym (h
          ∙ is)) (node_good t j built.table built.within)) c.list_of-2.ensures;
    }
