use Rattle.std.proofs.Common.{rules, is_lt, subst, List, ℕ}
use Rattle.std.specs.List.Sorted.{IsPermutation}
use Rattle.std.proofs.lemmas.Fn.{always_returns_same}
use Rattle.std.proofs.lemmas.List.Sorted.{ranks_by}
use Rattle.column_values.specs.Order.{key_cmp}
use Rattle.column_values.proofs.KeyOrder.{key_total}
use Rattle.key_ranks.proofs.order.order_of_rows.Goals as goal

pub returns : goal.returns
returns g c =
    let table = g.K.RowKeys.table c.args.keys.now in
    record {
      places =
          subst (λ (list : List ℕ). IsPermutation list c.sort_by.new.self.items) c.in_ok-order.ensures
          c.in_ok-sort_by.ensures.permutation;
      sorted =
          c.in_ok-sort_by.ensures.sorted (λ a b. is_lt (key_cmp table.kinds (table.key a) (table.key b)))
          (ranks_by (key_total table.kinds) table.key) (always_returns_same _ _ _ (λ a r f k. search rules));
    }
