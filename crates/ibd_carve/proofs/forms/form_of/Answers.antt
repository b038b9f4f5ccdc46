use Rattle.std.proofs.Common.{codes, refl}
use Rattle.std.proofs.lemmas.Bool.{false≢true}
use Rattle.std.proofs.lemmas.Bool.Decides.{Decides-eqb}
use Rattle.std.proofs.lemmas.Slice.Eq.{slice_eq-Decides}
use Rattle.ibd_carve.proofs.Commands.{name_and_word, name_and_three}
use Rattle.ibd_carve.proofs.forms.form_of.Goals as goal

pub returns-then-is_command : goal.returns-then-is_command
returns-then-is_command c =
    let shape = c.is_command.ensures.0 c.if-is_command.true in
    name_and_word c.args.words.now _ shape.0 shape.1

pub returns : goal.returns
returns c =
    let shape = c.if-not-is_command.ensures.0 refl in
    let image = c.in_ok-get.field-0.now in
    let file = c.in_ok-get-2.field-0.now in
    record {
      word = c.in_ok-get-3.field-0.now;
      image = image;
      file = file;
      words_are = name_and_three c.args.words.now (codes "take") _ image file shape.0 shape.1 c.in_ok-get-3.ensures
          c.in_ok-get.ensures c.in_ok-get-2.ensures;
      is_space = c.in_ok-space_id.ensures;
      other = λ same. false≢true ((slice_eq-Decides Decides-eqb image file _ c.if-eq.ensures).1 same);
    }
