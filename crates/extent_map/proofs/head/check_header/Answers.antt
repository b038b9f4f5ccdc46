use Rattle.std.proofs.Common.{◌≡◌, ap, ◌∙◌, sym, refl, arith}
use Rattle.space_header.specs.Header.{header_of}
use Rattle.extent_map.specs.Head.{IsSize}
use Rattle.extent_map.proofs.head.check_header.Goals as goal

pub returns-clause-space : goal.returns-clause-space
unfolding header_of
returns-clause-space c =
    sym c.number-space.ensures ∙ c.if-space-number.false ∙ c.number.ensures ∙ sym (ap (λ h. h.space) c.read.ensures)

pub returns-clause-within : goal.returns-clause-within
unfolding header_of
returns-clause-within c =
    let size : IsSize c.number-size.result c.args.pages = c.if-not-is_size.ensures.within refl in
    omega (arith, size.within, c.number-size.ensures, ap (λ h. h.size) c.read.ensures)

pub returns-clause-bounds : goal.returns-clause-bounds
unfolding header_of
returns-clause-bounds c =
    let size : IsSize c.number-size.result c.args.pages = c.if-not-is_size.ensures.within refl in
    let same : c.read.result.size ≡ c.number-size.result = ap (λ h. h.size) c.read.ensures
    ∙ sym c.number-size.ensures in
    let limit : c.read.result.limit ≡ c.number-3.result = ap (λ h. h.limit) c.read.ensures ∙ sym c.number-3.ensures in
    record {
      least = omega (arith, size.least, same);
      most = omega (arith, size.most, same);
      limit = rw (same, limit) (c.if-not-is_limit.ensures.0 refl);
    }
