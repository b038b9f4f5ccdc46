use Rattle.std.proofs.Common.{◌≡◌, ◌∙◌, true, false, None, Some, codes, sym, ap, subst, refl}
use Rattle.std.specs.Prelude.{bytes_eq}
use Rattle.schema_text.specs.declared.errors.SchemaWhy.TheVariants.{Form}
use Rattle.schema_text.specs.Refusals.{NextChecks, ColumnChecks, ClusteredLineChecks, IndexLineChecks, is_column_line}
use Rattle.schema_text.specs.Refusals.{is_clustered_line, is_index_line}
use Rattle.schema_text.proofs.ReadLemmas.{by_column, by_clustered, by_index, by_none, on_ok_as, refused_as}
use Rattle.schema_text.proofs.read.next_line.Goals as goal

pub returns-then-is-clause-checked : goal.returns-then-is-clause-checked
returns-then-is-clause-checked c =
    let t = c.args.part.now in
    let words = c.in_ok-words.words in
    let a : is_column_line words ≡ true = sym (c.if-is.ensures.value
    ∙ ap (λ w. bytes_eq w (codes "column")) c.at-first.ensures) in
    on_ok_as c.column_line.result (ColumnChecks t words None) _
    (λ h. subst (λ l. NextChecks t l None) c.in_ok-words.ensures
    (by_column t words None a h)) c.column_line.ensures.checked

pub returns-then-is-clause-refused : goal.returns-then-is-clause-refused
returns-then-is-clause-refused c =
    let t = c.args.part.now in
    let words = c.in_ok-words.words in
    let a : is_column_line words ≡ true = sym (c.if-is.ensures.value
    ∙ ap (λ w. bytes_eq w (codes "column")) c.at-first.ensures) in
    refused_as _ c.column_line.result (ColumnChecks t words) _
    (λ why h. subst (λ l. NextChecks t l why) c.in_ok-words.ensures
    (by_column t words why a h)) c.column_line.ensures.refused

pub returns-then-is-2-clause-checked : goal.returns-then-is-2-clause-checked
returns-then-is-2-clause-checked c =
    let t = c.args.part.now in
    let words = c.in_ok-words.words in
    let a : is_column_line words ≡ false = sym (c.if-is.ensures.value
    ∙ ap (λ w. bytes_eq w (codes "column")) c.at-first.ensures) in
    let b : is_clustered_line words ≡ true = sym (c.if-is-2.ensures.value
    ∙ ap (λ w. bytes_eq w (codes "clustered")) c.at-first.ensures) in
    on_ok_as c.clustered_line.result (ClusteredLineChecks t words None) _
    (λ h. subst (λ l. NextChecks t l None) c.in_ok-words.ensures
    (by_clustered t words None a b h)) c.clustered_line.ensures.checked

pub returns-then-is-2-clause-refused : goal.returns-then-is-2-clause-refused
returns-then-is-2-clause-refused c =
    let t = c.args.part.now in
    let words = c.in_ok-words.words in
    let a : is_column_line words ≡ false = sym (c.if-is.ensures.value
    ∙ ap (λ w. bytes_eq w (codes "column")) c.at-first.ensures) in
    let b : is_clustered_line words ≡ true = sym (c.if-is-2.ensures.value
    ∙ ap (λ w. bytes_eq w (codes "clustered")) c.at-first.ensures) in
    refused_as _ c.clustered_line.result (ClusteredLineChecks t words) _
    (λ why h. subst (λ l. NextChecks t l why) c.in_ok-words.ensures
    (by_clustered t words why a b h)) c.clustered_line.ensures.refused

pub returns-then-is-3-clause-checked : goal.returns-then-is-3-clause-checked
returns-then-is-3-clause-checked c =
    let t = c.args.part.now in
    let words = c.in_ok-words.words in
    let a : is_column_line words ≡ false = sym (c.if-is.ensures.value
    ∙ ap (λ w. bytes_eq w (codes "column")) c.at-first.ensures) in
    let b : is_clustered_line words ≡ false = sym (c.if-is-2.ensures.value
    ∙ ap (λ w. bytes_eq w (codes "clustered")) c.at-first.ensures) in
    let c' : is_index_line words ≡ true = sym (c.if-is-3.ensures.value
    ∙ ap (λ w. bytes_eq w (codes "index")) c.at-first.ensures) in
    on_ok_as c.index_line.result (IndexLineChecks t words None) _
    (λ h. subst (λ l. NextChecks t l None) c.in_ok-words.ensures
    (by_index t words None a b c' h)) c.index_line.ensures.checked

pub returns-then-is-3-clause-refused : goal.returns-then-is-3-clause-refused
returns-then-is-3-clause-refused c =
    let t = c.args.part.now in
    let words = c.in_ok-words.words in
    let a : is_column_line words ≡ false = sym (c.if-is.ensures.value
    ∙ ap (λ w. bytes_eq w (codes "column")) c.at-first.ensures) in
    let b : is_clustered_line words ≡ false = sym (c.if-is-2.ensures.value
    ∙ ap (λ w. bytes_eq w (codes "clustered")) c.at-first.ensures) in
    let c' : is_index_line words ≡ true = sym (c.if-is-3.ensures.value
    ∙ ap (λ w. bytes_eq w (codes "index")) c.at-first.ensures) in
    refused_as _ c.index_line.result (IndexLineChecks t words) _
    (λ why h. subst (λ l. NextChecks t l why) c.in_ok-words.ensures
    (by_index t words why a b c' h)) c.index_line.ensures.refused

pub returns-clause-refused : goal.returns-clause-refused
returns-clause-refused c =
    let t = c.args.part.now in
    let words = c.in_ok-words.words in
    let a : is_column_line words ≡ false = sym (c.if-is.ensures.value
    ∙ ap (λ w. bytes_eq w (codes "column")) c.at-first.ensures) in
    let b : is_clustered_line words ≡ false = sym (c.if-is-2.ensures.value
    ∙ ap (λ w. bytes_eq w (codes "clustered")) c.at-first.ensures) in
    let c' : is_index_line words ≡ false = sym (c.if-is-3.ensures.value
    ∙ ap (λ w. bytes_eq w (codes "index")) c.at-first.ensures) in
    let checks = subst (λ l. NextChecks t l (Some Form)) c.in_ok-words.ensures (by_none t words a b c') in
    rw c.refused.ensures (refl, checks)
