use Rattle.std.proofs.Common.{◌≡◌, ◌∙◌, ◌++◌, ◌-◌, length, replicate, subst}
use Rattle.page_source.specs.Pages.{AreBytes}
use Rattle.column_values.specs.Spell.{IsTrimmed}
use Rattle.column_values.proofs.TextValues.{char_spelled}
use Rattle.column_values.proofs.texts.char_bytes.Goals as goal

pub returns-in_ok-push_spaces-in-Text : goal.returns-in_ok-push_spaces-in-Text
returns-in_ok-push_spaces-in-Text c =
    let text = c.in-Text.text in
    let n = c.args.n in
    let trimmed : IsTrimmed n text = subst (IsTrimmed n) c.bytes.ensures
    (c.is_trimmed.ensures.0 c.if-is_trimmed.true) in
    let same : c.in_ok-list-in-Text.list ≡ text = c.in_ok-list-in-Text.ensures.same ∙ c.bytes-in-Text.ensures in
    let are : AreBytes text = subst AreBytes same c.in_ok-list-in-Text.ensures.are_bytes in
    let filled : c.push_spaces.new.list ≡ text ++ replicate (n - length text) 32 =
    c.in_ok-push_spaces-in-Text.ensures ∙ (λ i. same i ++ replicate (n - length (c.bytes-in-Text-2.ensures i)) 32) in
    rw c.in-Text.is (char_spelled n text c.push_spaces.new.list trimmed are filled)
