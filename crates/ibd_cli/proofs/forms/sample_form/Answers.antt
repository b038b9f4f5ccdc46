use Rattle.std.proofs.Common.{◌∙◌, refl, ap, Some}
use Rattle.command_line.proofs.WordLists.{two_words}
use Rattle.ibd_cli.proofs.forms.sample_form.Goals as goal

pub returns-then-rows-le-MOST_ROWS : goal.returns-then-rows-le-MOST_ROWS
returns-then-rows-le-MOST_ROWS c =
    let shape = c.if-not-is_command.ensures.0 refl in
    let last = c.in_ok-get.ensures ∙ ap Some c.in_ok-rows.ensures.found in
    (c.if-rows-le-MOST_ROWS.true, two_words c.args.words.now _ _ shape.0 shape.1 last)
