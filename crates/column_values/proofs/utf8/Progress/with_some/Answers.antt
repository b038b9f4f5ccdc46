use Rattle.std.proofs.Common.{◌≡◌, ◌∷◌, [], take, slice_index, arith, sym, subst}
use Rattle.std.proofs.lemmas.List.{take_more}
use Rattle.column_values.specs.Utf8View.{state_of, ReadsOn}
use Rattle.column_values.proofs.Utf8Steps.{reads_byte}
use Rattle.column_values.proofs.utf8.Progress.with_some.Goals as goal

pub returns-in-None-clause-reads : goal.returns-in-None-clause-reads
returns-in-None-clause-reads c =
    let block = c.args.block.now in
    let first : take 1 block ≡ slice_index block 0 ∷ [] = take_more block 0 0 (omega (arith, c.requires.size)) in
    subst (ReadsOn (state_of c.args.self) (state_of c.with.result)) (sym first)
    (reads_byte (state_of c.args.self) (state_of c.with.result) (slice_index block 0) c.with.ensures)
