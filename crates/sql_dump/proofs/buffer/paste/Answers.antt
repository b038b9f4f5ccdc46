use Rattle.std.proofs.Common.{List, ℕ, ◌+◌, ◌++◌, length, take, ap, ◌∙◌, arith}
use Rattle.std.proofs.lemmas.Slice.{take-put_mid}
use Rattle.sql_dump.proofs.buffer.paste.Goals as goal

pub returns-clause-text : goal.returns-clause-text
returns-clause-text c =
    let after = c.copy_from_slice.ensures.after in
    take-put_mid c.args.at _ c.args.room.now _ (c.args.at + length c.args.piece.now)
    (omega (arith, ap (λ (t : List ℕ). length t) after)) (omega (arith, c.requires))
    ∙ ap (λ (t : List ℕ). take c.args.at c.args.room.now ++ t) after
