use Rattle.std.proofs.Common.{◌≡◌, ℕ, List, length, sym, ap, ◌∙◌, arith}
use Rattle.page_source.proofs.Told.{map_told, map_told2}
use Rattle.column_values.specs.Types.{Fields}
use Rattle.compact_record.specs.Reading.{key_kinds}
use Rattle.schema_text.specs.IndexFields.{entry_fields}
use Rattle.cross_index.specs.calls.Gather.{kept_fields}
use Rattle.cross_index.proofs.EntryFields.{keys_size}
use Rattle.cross_index.proofs.IndexSteps.{order_of_all, slots_stand, can_compare, few_counted}
use Rattle.cross_index.proofs.Named.{index_names, index_rules}
use Rattle.cross_index.proofs.indexes.compare_index.Goals as goal

pub order_of-requires-clause-each : goal.order_of-requires-clause-each
order_of-requires-clause-each g c =
    ap (λ (list : List ℕ). length list) c.deref-4.ensures.value ∙ c.in_ok-slots.ensures.count
    ∙ ap (λ (list : List ℕ). length list) (c.deref-3.ensures.value ∙ c.in_ok-own.ensures)
    ∙ sym (keys_size c.args.schema.now c.args.index c.indexes.ensures.table c.requires.index c.requires.second)
    ∙ ap (λ (fields : Fields). fields.keys) (sym c.in_ok-fields.ensures.value)

pub compare_entries-requires-clause-each : goal.compare_entries-requires-clause-each
compare_entries-requires-clause-each g c =
    ap (λ (list : List ℕ). length list) c.deref-4.ensures.value ∙ c.in_ok-slots.ensures.count
    ∙ ap (λ (list : List ℕ). length list) (c.deref-3.ensures.value ∙ c.in_ok-own.ensures)
    ∙ sym (keys_size c.args.schema.now c.args.index c.indexes.ensures.table c.requires.index c.requires.second)
    ∙ ap (λ (fields : Fields). fields.keys) (sym c.in_ok-fields.ensures.value)

pub compare_entries-requires-clause-order : goal.compare_entries-requires-clause-order
compare_entries-requires-clause-order g c =
    rw c.deref-5.ensures.value
    (order_of_all (key_kinds c.in_ok-fields.fields) c.args.found.now.cells c.len.result c.deref-4.result.now
    c.in_ok-order.order.items c.args.found.now.count c.in_ok-order.ensures)

pub compare_entries-requires-clause-told : goal.compare_entries-requires-clause-told
compare_entries-requires-clause-told g c =
    let table = c.args.schema.now in
    let width : c.len.result ≡ length (kept_fields table) =
    omega (arith, c.len.ensures, c.args.found.now.kept.ok, ap (λ (list : List ℕ). length list) c.requires.fields.fields)
    in
    let ordered = rw width at c.in_ok-order.ensures in
    let size : length c.deref-4.result.now ≡ length (entry_fields table c.args.index) =
    ap (λ (list : List ℕ). length list) c.deref-4.ensures.value ∙ c.in_ok-slots.ensures.count
    ∙ ap (λ (list : List ℕ). length list) (c.deref-3.ensures.value ∙ c.in_ok-own.ensures) in
    let stand = slots_stand table c.args.index c.indexes.ensures.table c.requires.index c.requires.second
    c.deref-2.result.now c.deref-3.result.now c.deref-4.result.now
    (c.deref-2.ensures.value ∙ c.requires.fields.fields)
    (c.deref-3.ensures.value ∙ c.in_ok-own.ensures) (rw (sym c.deref-4.ensures.value) at c.in_ok-slots.ensures.each) in
    rw (width, c.deref-5.ensures.value)
    (map_told (g.S.PageSource.content c.args.source.now)
    (λ file can. can_compare (record {
      rise = c.live_rows_rise.ensures;
      read = c.rows_can_be_read.ensures;
      walked = c.trees_are_walked.ensures;
    }) file table c.args.index c.args.ends.now c.args.found.now c.in_ok-entries.entries c.deref-4.result.now
    c.in_ok-order.order.items c.indexes.ensures.table c.requires.index c.requires.second can size stand
    c.in_ok-entries.ensures.told (key_kinds c.in_ok-fields.fields) ordered)
    c.requires.told)

pub returns-clause-few : goal.returns-clause-few
returns-clause-few g c =
    map_told2 (g.S.PageSource.content c.args.source.now)
    (λ file can compares. few_counted c.trees_are_walked.ensures c.leaves_are_sound.ensures file c.args.schema.now
    c.args.index c.args.ends.now
    c.args.found.now c.compare_entries.result c.requires.index c.has_32_bits.ensures can compares)
    c.requires.told c.compare_entries.ensures.exact

pub returns-clause-named : goal.returns-clause-named
returns-clause-named g c =
    index_names c.args.index _ c.compare_entries.new.entries c.compare_entries.result c.compare_entries.ensures.named

pub returns-clause-broken : goal.returns-clause-broken
returns-clause-broken g c =
    index_rules c.args.index _ c.compare_entries.new.entries c.compare_entries.result c.compare_entries.ensures.named
