use Rattle.std.proofs.Common.{arith, ◌≡◌, ◌-◌, ◌∙◌, ap, length, flat_map, ℕ}
use Rattle.std.specs.List.{range_with_len}
use Rattle.schema_text.specs.IndexFields.{entry_fields}
use Rattle.cross_index.specs.calls.Gather.{all_entry_fields}
use Rattle.cross_index.proofs.KeptSteps.{all_more}
use Rattle.cross_index.proofs.kept.all_fields.Goals as goal

pub loop-index-preserved : goal.loop-index-preserved
loop-index-preserved c = record {
  some = omega (arith, c.loop-index.invariant.some);
  list = all_more c.args.schema.now c.loop-index.list.items c.push_entry_fields.new.list.items c.loop-index.index
      c.loop-index.invariant.some c.loop-index.invariant.list c.in_ok-push_entry_fields.ensures;
}

pub returns : goal.returns
unfolding all_entry_fields
returns c =
    let e : c.loop-index.index - 1 ≡ length c.args.schema.now.indexes - 1 =
    omega (
      arith,
      c.loop-index-test.false,
      c.loop-index.auto.index-end,
      ap length c.indexes-index-end.ensures.same,
      c.indexes-index-end.ensures.table.clustered,
    ) in
    c.loop-index.invariant.list
    ∙ ap (λ (n : ℕ). flat_map (entry_fields c.args.schema.now) (range_with_len 1 n)) e
