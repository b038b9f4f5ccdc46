use Rattle.std.proofs.Common.{ℕ, ◌+◌, [], List, take, arith, subst, sym}
use Rattle.std.proofs.lemmas.List.{length-take-le}
use Rattle.column_values.specs.Utf8Reader.{Good}
use Rattle.column_values.specs.Utf8View.{ReadsOn}
use Rattle.column_values.proofs.Utf8Steps.{reads_characters}
use Rattle.column_values.proofs.utf8.Progress.with_front.Goals as goal

pub returns : goal.returns
returns c =
    let front = c.in_ok-size.ensures in
    let block = c.args.block.now in
    let size = c.in_ok-size.size in
    let characters = c.in-Good.characters in
    let count = c.in_ok-size.count in
    let long = length-take-le size block front.within in
    let reads = reads_characters characters count (take size block) front.characters (omega (arith, front.few, long)) in
    rw c.in-Good.is (
      front.some,
      omega (arith, front.within, c.requires.size),
      subst (λ (p : List ℕ). ReadsOn (Good characters p) (Good (characters + count) []) (take size block))
          (sym (c.is_nothing.ensures.0 c.if-not-is_nothing.false)) reads,
    )
