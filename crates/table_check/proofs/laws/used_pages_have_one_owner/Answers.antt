use Rattle.table_check.proofs.laws.used_pages_have_one_owner.Goals as goal

pub returns : goal.returns
returns c = λ file table valid n below used. valid.space.owners.partition.once n below used
