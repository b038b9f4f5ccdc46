use Rattle.row_text.proofs.Words.{word_begins}
use Rattle.row_text.proofs.read.words.read_word.Goals as goal

pub returns-in-None-clause-found : goal.returns-in-None-clause-found
returns-in-None-clause-found c = λ value rest begins.
    let word = c.word_of-word.result.now in
    c.in-None.ensures value
    (word_begins c.args.kind.now value c.args.text.now word rest c.requires.known c.requires.number
    c.word_of-word.ensures.cut c.word_of-word.ensures.ends c.word_of-word.ensures.lacks begins)
