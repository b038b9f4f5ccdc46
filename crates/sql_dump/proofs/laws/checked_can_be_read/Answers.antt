use Rattle.sql_dump.proofs.laws.checked_can_be_read.Goals as goal

pub returns : goal.returns
returns c = record {
  audit = c.audit_is_soundness.ensures;
  readable = c.rows_can_be_read.ensures;
  one = c.has_one_chain.ensures;
  whole = c.checks_are_whole.ensures;
  goes_on = c.chain_goes_on.ensures;
}
