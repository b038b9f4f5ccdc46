use Rattle.std.proofs.Common.{◌≡◌, length, ◌∙◌, arith}
use Rattle.std.proofs.lemmas.List.{take_at}
use Rattle.page_source.proofs.Told.{map_told}
use Rattle.command_line.proofs.SchemaReading.{schema_halts}
use Rattle.command_line.proofs.schema_file.read_schema.Goals as goal

pub returns-in_err-read-clause-exact : goal.returns-in_err-read-clause-exact
returns-in_err-read-clause-exact g c =
    let buffer = c.read_up_to.new.buffer in
    let len : length buffer ≡ c.in_ok-buffer.buffer.len =
    omega (arith, c.read_up_to.auto.buffer, c.deref_mut.ensures.len) in
    let size : length buffer ≡ 65537 = omega (arith, len, c.in_ok-buffer.ensures) in
    let same : c.deref.result.now ≡ buffer = c.deref.ensures.value ∙ take_at buffer _ _ len in
    map_told (g.Q.ByteSource.left c.args.source.now)
    (λ text came. schema_halts text buffer c.deref.result.now _ c.in_ok-count.count _ _ size
    c.in_ok-count.ensures.within same
    c.in_err-read.ensures c.from_residual-in_err-read.ensures.1 came) c.in_ok-count.ensures.came
