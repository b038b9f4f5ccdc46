use Rattle.key_lookup.proofs.key_text.spelled.Goals as goal

pub unreachable-requires : goal.unreachable-requires
unreachable-requires c =
    let refused = rw c.in-Err-BadValue.field-0-is at c.in-Err-BadValue.ensures in
    refused c.requires.is
