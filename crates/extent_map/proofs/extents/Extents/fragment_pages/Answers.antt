use Rattle.std.proofs.Common.{◌≡◌, ◌∷◌, [], ◌++◌, map, ap, sym, ◌∙◌, arith}
use Rattle.std.specs.List.{range_with_len}
use Rattle.std.proofs.lemmas.List.FromFn.{map-range_with_len_more}
use Rattle.space_header.specs.Header.{limit_of}
use Rattle.extent_map.specs.Extents.{is_fragment_page}
use Rattle.extent_map.proofs.Readers.{extents_count}
use Rattle.extent_map.proofs.extents.Extents.fragment_pages.Goals as goal

pub loop-n-preserved : goal.loop-n-preserved
loop-n-preserved c = λ file are.
    let n = c.loop-n.n in
    c.in_ok-push.ensures.items ∙ ap (λ flags. flags ++ c.is_fragment_page.result ∷ []) (c.loop-n.invariant file are)
    ∙ ap (λ b. map (is_fragment_page file) (range_with_len 0 n) ++ b ∷ []) (c.is_fragment_page.ensures file are)
    ∙ sym (map-range_with_len_more (is_fragment_page file) 0 n n (omega arith))

pub returns : goal.returns
returns c = λ file are.
    let pages : c.loop-n.n ≡ limit_of file = omega (arith, extents_count file c.args.self.now are, are.whole) in
    c.of.ensures ∙ c.loop-n.invariant file are ∙ ap (λ n. map (is_fragment_page file) (range_with_len 0 n)) pages
