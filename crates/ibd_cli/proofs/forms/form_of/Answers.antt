use Rattle.std.proofs.Common.{refl}
use Rattle.command_line.proofs.WordLists.{three_words, four_words}
use Rattle.ibd_cli.proofs.forms.form_of.Goals as goal

pub returns-then-is_command : goal.returns-then-is_command
returns-then-is_command c =
    let shape = c.if-is_command.ensures.0 refl in three_words c.args.words.now _ shape.0 shape.1

pub returns-then-is_command-2 : goal.returns-then-is_command-2
returns-then-is_command-2 c =
    let shape = c.if-is_command-2.ensures.0 refl in three_words c.args.words.now _ shape.0 shape.1

pub returns-then-is_command-3 : goal.returns-then-is_command-3
returns-then-is_command-3 c =
    let shape = c.if-is_command-3.ensures.0 refl in three_words c.args.words.now _ shape.0 shape.1

pub returns-then-is_command-4 : goal.returns-then-is_command-4
returns-then-is_command-4 c =
    let shape = c.if-is_command-4.ensures.0 refl in four_words c.args.words.now _ shape.0 shape.1

pub returns-then-is_command-5 : goal.returns-then-is_command-5
returns-then-is_command-5 c =
    let shape = c.if-is_command-5.ensures.0 refl in four_words c.args.words.now _ shape.0 shape.1
