use Rattle.std.proofs.Common.{◌≡◌, ℕ, List, ◌+◌, ◌*◌, ◌/◌, ◌<◌, ◌++◌, min, None, map, ap, sym, ◌∙◌, arith}
use Rattle.std.specs.List.{range_with_len}
use Rattle.std.proofs.lemmas.Result.{err_from_is_err_and}
use Rattle.page_source.specs.Pages.{page_of}
use Rattle.page_source.proofs.Told.{map_told2, map_told3}
use Rattle.fil_frame.specs.Frame.{space_of}
use Rattle.space_header.specs.Header.{limit_of}
use Rattle.extent_map.specs.Extents.{extent_of}
use Rattle.extent_map.specs.Descriptors.{DescriptorPageChecks, extents_on}
use Rattle.extent_map.proofs.Readers.{all_read}
use Rattle.extent_map.proofs.Stages.{header_size, header_limit, page_stops, stage_stops, page_holds, map_range_split}
use Rattle.extent_map.proofs.descriptors.read_extents.Goals as goal
use Rattle.extent_map.proofs.descriptors.read_extents.Goals.{then-k-gt0+in_ok-check_descriptor_page, else-k-gt0}

pub returns-in_err-check_descriptor_page-clause-exact : goal.returns-in_err-check_descriptor_page-clause-exact
returns-in_err-check_descriptor_page-clause-exact g c =
    let o = g.S.PageSource.content c.args.source.now in
    let k = c.loop-k.k in
    let r = err_from_is_err_and c.from_residual-in_err-check_descriptor_page.result
    c.from_residual-in_err-check_descriptor_page.ensures.1 in
    let bytes = rw c.loop-k.invariant.same at c.in_ok-fetch.ensures.bytes in
    rw (r.1, r.2) (map_told3 o (λ file has here below.
    page_stops file k _ (omega (arith, header_limit file c.args.header.now has)) below (omega arith)
    (c.in_err-check_descriptor_page.ensures file here has.space))
    c.requires.told bytes c.loop-k.invariant.checks)

pub returns-in_err-read_page-clause-exact : goal.returns-in_err-read_page-clause-exact
returns-in_err-read_page-clause-exact g c =
    let o = g.S.PageSource.content c.args.source.now in
    let k = c.loop-k.k in
    let header = c.args.header.now in
    let r = err_from_is_err_and c.from_residual-in_err-read_page.result c.from_residual-in_err-read_page.ensures.1 in
    let bytes = rw c.loop-k.invariant.same at c.in_ok-fetch.ensures.bytes in
    let page : (file : List ℕ) → c.fetch.new.page ≡ page_of file (16384 * k) → space_of (page_of file 0) ≡ header.space
    → 0 < k → DescriptorPageChecks file (16384 * k) None = λ file here space later. elim c.if-k-gt0.branch [
      | then-k-gt0+in_ok-check_descriptor_page w ↦ w.in_ok-check_descriptor_page.ensures file here space
      | else-k-gt0 w ↦ absurd (omega (arith, later))
    ] in
    rw (r.1, r.2) (map_told3 o (λ file has here below.
    let limit = header_limit file header has in
    stage_stops file k c.in_err-read_page.field-0.0 (omega (arith, limit)) below (page file here has.space)
    (c.in_err-read_page.ensures.exact file here (header_size file header has) limit))
    c.requires.told bytes c.loop-k.invariant.checks)

pub loop-k-preserved : goal.loop-k-preserved
loop-k-preserved g c =
    let o = g.S.PageSource.content c.args.source.now in
    let k = c.loop-k.k in
    let header = c.args.header.now in
    let inv = c.loop-k.invariant in
    let bytes = rw inv.same at c.in_ok-fetch.ensures.bytes in
    let page : (file : List ℕ) → c.fetch.new.page ≡ page_of file (16384 * k) → space_of (page_of file 0) ≡ header.space
    → 0 < k → DescriptorPageChecks file (16384 * k) None = λ file here space later. elim c.if-k-gt0.branch [
      | then-k-gt0+in_ok-check_descriptor_page w ↦ w.in_ok-check_descriptor_page.ensures file here space
      | else-k-gt0 w ↦ absurd (omega (arith, later))
    ] in
    record {
      same = c.fetch.ensures.same ∙ inv.same;
      later = omega (arith, inv.later, c.fetch.ensures.cause.later);
      asked = omega (arith, inv.asked, c.fetch.ensures.asked.most, c.fetch.ensures.step);
      steps = omega (arith, inv.steps, c.fetch.ensures.step);
      count = c.in_ok-read_page.ensures.count ∙ ap (λ n. min n (header.limit / 64)) (omega arith);
      checks = map_told3 o (λ file has here below. page_holds file k below (page file here has.space)
          (c.in_ok-read_page.ensures.exact file here (header_size file header has) (header_limit file header has)))
          c.requires.told bytes inv.checks;
      read = map_told3 o (λ file has here so_far.
          let limit = header_limit file header has in
          let before : min (256 * k) (header.limit / 64) ≡ 256 * k = omega arith in
          let after : min (256 * (k + 1)) (header.limit / 64) ≡ 256 * k + extents_on file k = omega (arith, limit) in
          c.in_ok-read_page.ensures.read file here limit
          ∙ ap (λ xs. xs ++ map (extent_of file) (range_with_len (256 * k) (extents_on file k)))
          (so_far ∙ ap (λ n. map (extent_of file) (range_with_len 0 n)) before)
          ∙ ap (λ a. map (extent_of file) (range_with_len 0 (256 * k)) ++ map (extent_of file) (range_with_len a
          (extents_on file k))) (omega arith)
          ∙ sym (ap (λ n. map (extent_of file) (range_with_len 0 n)) after
          ∙ map_range_split (extent_of file) 0 (256 * k) (extents_on file k)))
          c.requires.told bytes inv.read;
    }

pub returns-clause-exact : goal.returns-clause-exact
returns-clause-exact g c =
    let o = g.S.PageSource.content c.args.source.now in
    map_told2 o (λ file has below j inside. below j (omega (arith, inside, header_limit file c.args.header.now has)))
    c.requires.told c.loop-k.invariant.checks

pub returns-clause-read : goal.returns-clause-read
returns-clause-read g c =
    let o = g.S.PageSource.content c.args.source.now in
    map_told2 o (λ file has so_far.
    let limit = header_limit file c.args.header.now has in
    let all : min (256 * c.loop-k.k) (c.args.header.now.limit / 64) ≡ limit_of file / 64 = omega (arith, limit) in
    all_read file c.loop-k.extents (so_far ∙ ap (λ n. map (extent_of file) (range_with_len 0 n)) all) (omega
    (arith, limit, c.requires.bounds.limit.whole)))
    c.requires.told c.loop-k.invariant.read
