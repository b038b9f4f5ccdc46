use Rattle.column_values.proofs.KeyOrder.{is_strict, is_transitive, is_reflexive, symmetric, agrees, splits, is_total}
use Rattle.column_values.proofs.laws.keys_have_an_order.Goals as goal

pub returns : goal.returns
returns c = record {
  strict = is_strict;
  transitive = is_transitive;
  reflexive = is_reflexive;
  symmetric = symmetric;
  agrees = agrees;
  splits = splits;
  total = is_total;
}
