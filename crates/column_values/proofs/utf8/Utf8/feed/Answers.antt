use Rattle.std.proofs.Common.{◌≡◌, ℕ, List, ◌++◌, length, take, ap, ◌∙◌, subst}
use Rattle.std.proofs.lemmas.List.{take-append-drop}
use Rattle.column_values.specs.Utf8View.{state_of, ReadsOn}
use Rattle.column_values.proofs.Utf8Steps.{reads_append, counts_view}
use Rattle.column_values.proofs.utf8.Utf8.feed.Goals as goal

pub returns-clause-counts : goal.returns-clause-counts
returns-clause-counts c = λ most low.
    let bytes = c.args.bytes.now in
    let at = c.with_blocks-at.result.0 in
    let old = c.self.inside.progress in
    let new = c.with_bytes-self-inside.result in
    let rest = c.split_at.result.1.now in
    let whole : take at bytes ++ rest ≡ bytes =
    ap (λ (t : List ℕ). take at bytes ++ t) c.split_at.ensures.back ∙ take-append-drop at bytes in
    let reads = subst (ReadsOn (state_of old) (state_of new)) whole
    (reads_append (state_of old) _ (state_of new) (take at bytes) rest c.with_blocks-at.ensures.reads
    c.with_bytes-self-inside.ensures) in
    let before = rw (← c.self.view_is) at low in
    counts_view most (length bytes) c.self.inside.limit old new reads.few before
