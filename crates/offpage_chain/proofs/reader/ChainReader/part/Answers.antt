use Rattle.std.proofs.Common.{◌≡◌, ◌<◌, ℕ, ap, subst, sym, arith}
use Rattle.std.proofs.lemmas.Bool.{iff_false}
use Rattle.page_source.specs.Pages.{page_of}
use Rattle.page_source.proofs.Told.{map_told}
use Rattle.offpage_chain.specs.ChainChecks.{IsChainPart}
use Rattle.offpage_chain.specs.Reader.{ChainRest}
use Rattle.offpage_chain.proofs.Rests.{due_page, due_part}
use Rattle.offpage_chain.proofs.reader.ChainReader.part.Goals as goal

pub fetch-requires : goal.fetch-requires
fetch-requires g c =
    let page = ap (λ (r : ChainRest). r.page) c.self.view_is in
    let lacks = ap (λ (r : ChainRest). r.lacks) c.self.view_is in
    map_told (g.S.PageSource.content c.args.source.now)
    (λ file whole. omega (arith, page, due_page file c.args.self.now (omega (arith, lacks, c.if-self-eq0.false)) whole))
    c.requires.told

pub returns-then-not-is_part-clause-never : goal.returns-then-not-is_part-clause-never
returns-then-not-is_part-clause-never g c =
    let page = ap (λ (r : ChainRest). r.page) c.self.view_is in
    let lacks = ap (λ (r : ChainRest). r.lacks) c.self.view_is in
    let some : 0 < c.args.self.now.lacks = omega (arith, lacks, c.if-self-eq0.false) in
    map_told (g.S.PageSource.content c.args.source.now)
    (λ file is pages fault goes few same. iff_false c.is_part.ensures c.if-not-is_part.true
    (subst (λ (n : ℕ). IsChainPart c.fetch.new.page n) (sym lacks)
    (due_part file c.args.self.now pages c.fetch.new.page some goes (subst (λ
    (n : ℕ). c.fetch.new.page ≡ page_of file n) page is))))
    c.in_ok-fetch.ensures.bytes
