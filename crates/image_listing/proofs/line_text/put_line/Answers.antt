use Rattle.std.proofs.Common.{ℕ, List, [], ◌++◌, ◌∙◌, refl, sym, ap, subst, append_assoc, Err}
use Rattle.page_source.specs.Calls.{Puts}
use Rattle.page_source.proofs.Texts.{HasPut, put_none, put_more, put_cut, put_last}
use Rattle.image_listing.specs.Listing.{index_text, counts_text}
use Rattle.image_listing.proofs.LineText.{space_text, space_pieces}
use Rattle.image_listing.proofs.line_text.put_line.Goals as goal

pub returns-in_err-put_pieces : goal.returns-in_err-put_pieces
returns-in_err-put_pieces g c =
    let index = index_text c.args.key.1 c.args.tally.leaves in
    let rest = counts_text c.args.tally.pages c.args.tally.newest in
    let head = space_pieces c.args.key.0 _ _ c.as_slice.ensures (c.as_bytes.ensures.value ∙ c.format.ensures.text) in
    subst (λ (text : List ℕ). Puts g.O.ByteSink c.args.out.now c.put_pieces.new.sink text c.from_residual.result)
    (ap (λ (t : List ℕ). t ++ (index ++ rest)) head ∙ sym (append_assoc (space_text c.args.key.0) index rest))
    (put_cut g.O.ByteSink c.args.out.now c.args.out.now c.put_pieces.new.sink [] _ (index ++ rest)
    (Err c.in_err-put_pieces.field-0.0) c.in_err-put_pieces.field-0.0 c.from_residual.result
    (put_none g.O.ByteSink c.args.out.now) c.in_err-put_pieces.ensures refl c.from_residual.ensures.0)

pub returns-in_err-put_index : goal.returns-in_err-put_index
returns-in_err-put_index g c =
    let index = index_text c.args.key.1 c.args.tally.leaves in
    let rest = counts_text c.args.tally.pages c.args.tally.newest in
    let head = space_pieces c.args.key.0 _ _ c.as_slice.ensures (c.as_bytes.ensures.value ∙ c.format.ensures.text) in
    let put : HasPut g.O.ByteSink c.args.out.now c.put_pieces.new.sink (space_text c.args.key.0) =
    subst (λ (text : List ℕ). HasPut g.O.ByteSink c.args.out.now c.put_pieces.new.sink text) head
    (record { grown = c.in_ok-put_pieces.ensures.ok; later = c.in_ok-put_pieces.ensures.cause.later }) in
    subst (λ (text : List ℕ). Puts g.O.ByteSink c.args.out.now c.put_index.new.out text
    c.from_residual-in_err-put_index.result)
    (sym (append_assoc (space_text c.args.key.0) index rest))
    (put_cut g.O.ByteSink c.args.out.now c.put_pieces.new.sink c.put_index.new.out (space_text c.args.key.0) index rest
    (Err c.in_err-put_index.field-0.0) c.in_err-put_index.field-0.0 c.from_residual-in_err-put_index.result
    put c.in_err-put_index.ensures refl c.from_residual-in_err-put_index.ensures.0)

pub returns : goal.returns
returns g c =
    let index = index_text c.args.key.1 c.args.tally.leaves in
    let rest = counts_text c.args.tally.pages c.args.tally.newest in
    let head = space_pieces c.args.key.0 _ _ c.as_slice.ensures (c.as_bytes.ensures.value ∙ c.format.ensures.text) in
    let put : HasPut g.O.ByteSink c.args.out.now c.put_pieces.new.sink (space_text c.args.key.0) =
    subst (λ (text : List ℕ). HasPut g.O.ByteSink c.args.out.now c.put_pieces.new.sink text) head
    (record { grown = c.in_ok-put_pieces.ensures.ok; later = c.in_ok-put_pieces.ensures.cause.later }) in
    put_last g.O.ByteSink c.args.out.now c.put_index.new.out c.put_counts.new.out (space_text c.args.key.0 ++ index)
    rest c.put_counts.result
    (put_more g.O.ByteSink c.args.out.now c.put_pieces.new.sink c.put_index.new.out (space_text c.args.key.0) index _
    c.in_ok-put_index.field-0 put c.in_ok-put_index.ensures refl)
    c.put_counts.ensures
