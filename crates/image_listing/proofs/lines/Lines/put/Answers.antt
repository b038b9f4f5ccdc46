use Rattle.std.proofs.Common.{ℕ, List, ◌∙◌, map, flat_map, sym, subst, refl, Err}
use Rattle.std.proofs.lemmas.Map.Iter.{iter_end, rest_so_far, rest_more}
use Rattle.std.specs.Map.Iter.{deref_pair}
use Rattle.page_source.specs.Calls.{Puts}
use Rattle.page_source.proofs.Texts.{HasPut, put_cut}
use Rattle.image_listing.specs.Listing.{line_text, listing_text}
use Rattle.image_listing.specs.Tallies.{line_of}
use Rattle.image_listing.proofs.LineText.{Counted, lines_split}
use Rattle.image_listing.proofs.lines.Lines.put.Goals as goal

pub returns-in_err-put_line : goal.returns-in_err-put_line
returns-in_err-put_line g c =
    let before = map deref_pair c.loop-key.yielded in
    let line : Counted = (c.in-Some.key.now, c.in-Some.tally.now) in
    let gives = c.into_iter-key-iterator.ensures.into_iter_gives in
    let here = rest_more deref_pair c.loop-key.key-iterator c.next.new.self c.next.result
    (c.in-Some.key, c.in-Some.tally) c.in-Some.is c.next.ensures.steps in
    let split = sym gives.0 ∙ rest_so_far deref_pair c.loop-key.yielded c.into_iter-key-iterator.result
    c.loop-key.key-iterator c.loop-key.yielded_by in
    subst (λ (text : List ℕ). Puts g.O.ByteSink c.args.out.now c.put_line.new.out text c.from_residual.result)
    (sym (lines_split c.args.self.now.tallies.entries before c.loop-key.key-iterator c.next.new.self line split here))
    (put_cut g.O.ByteSink c.args.out.now c.loop-key.out c.put_line.new.out (flat_map line_text (map line_of before))
    (line_text (line_of line)) (flat_map line_text (map line_of c.next.new.self))
    (Err c.in_err-put_line.field-0.0) c.in_err-put_line.field-0.0 c.from_residual.result
    c.loop-key.invariant c.in_err-put_line.ensures refl c.from_residual.ensures.0)

pub returns : goal.returns
unfolding listing_text
returns g c =
    let gives = c.into_iter-key-iterator.ensures.into_iter_gives in
    let all = (iter_end deref_pair c.args.self.now.tallies.entries c.loop-key.yielded c.into_iter-key-iterator.result
    c.loop-key.key-iterator c.next.new.self c.next.result gives.0 c.loop-key.yielded_by c.in-None.is
    c.next.ensures.steps).0 in
    let put = subst (λ (lines : List Counted). HasPut g.O.ByteSink c.args.out.now c.loop-key.out
    (flat_map line_text (map line_of lines))) all c.loop-key.invariant in
    record { ok = put.grown; failed = tt; cause = record { later = put.later; failed = tt } }
