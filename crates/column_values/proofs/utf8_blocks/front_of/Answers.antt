use Rattle.std.proofs.Common.{◌≡◌, ◌≤◌, ℕ, take, length, ap, ◌∙◌, sym, subst, arith}
use Rattle.std.proofs.lemmas.List.Sums.{count_by-le-length}
use Rattle.column_values.specs.Characters.{HasCharacters}
use Rattle.column_values.specs.Utf8Blocks.{is_start}
use Rattle.column_values.proofs.Utf8Fronts.{starts, front_characters}
use Rattle.column_values.proofs.utf8_blocks.front_of.Goals as goal

pub returns : goal.returns
returns c =
    let block = c.args.block.now in
    let at = c.last_end.result in
    let front = c.split_at.result.0.now in
    let size : length front ≡ at = c.split_at.ensures.front_len in
    let counted : c.from.result ≡ starts front = c.from.ensures ∙ c.starts.ensures in
    let few : starts front ≤ length front = count_by-le-length is_start front in
    let are = front_characters block at (c.is_good.ensures c.if-not-is_good.false) c.last_end.ensures.end in
    record {
      some = omega (arith, size, c.last_end.ensures.least);
      within = omega (arith, size, c.split_at.ensures.back_len);
      few = omega (arith, counted, few);
      characters = subst (λ (n : ℕ). HasCharacters (take (length front) block) n)
          (ap starts (sym c.split_at.ensures.front) ∙ sym counted)
          (subst (λ (k : ℕ). HasCharacters (take k block) (starts (take at block))) (sym size) are);
    }
