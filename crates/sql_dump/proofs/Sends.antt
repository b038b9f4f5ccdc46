-- Lines that go through the buffer on to the sink.
use Rattle.std.proofs.Common.{◌≡◌, ℕ, List, [], ◌++◌, Option, Result, Ok, Err, sym, ap, ◌∙◌, subst, append_assoc}
use Rattle.std.proofs.lemmas.List.{append-nil}
use Rattle.page_source.specs.Objects.{GrowsBy, GrowsByPart}
use Rattle.page_source.proofs.Texts.{grows_on, grows_part}
use Rattle.sql_dump.specs.declared.stop.WriteStop.{WriteStop}
use Rattle.sql_dump.specs.declared.stop.WriteStop.TheVariants.{Broken, Source, Sink}
use Rattle.sql_dump.specs.Stops.{Writes}
use Rattle.sql_dump.specs.Buffer.{IsSent, Keeps, Moves}
use Rattle.sql_dump.proofs.Written.{grown_part}

-- what was sent, what is held, and a line behind
behind : (held sent kept line : List ℕ) → held ≡ sent ++ kept → held ++ line ≡ sent ++ (kept ++ line)
behind held sent kept line split = ap (λ (t : List ℕ). t ++ line) split ∙ append_assoc sent kept line

-- the line wasn't kept, and ended the writing
pub keep_ends : (o p : Option (List ℕ)) (held kept now line : List ℕ) (e : WriteStop) → IsSent o p held kept
    → Keeps (Err e) kept now line → Moves {A = Unit {0}} (Err e) o p held now line
keep_ends o p held kept now line (Broken fault) is keeps = keeps
keep_ends o p held kept now line Source is keeps =
    rw (behind held is.sent kept line is.split) (grown_part o p is.sent (kept ++ line) is.grown)
keep_ends o p held kept now line Sink is keeps = absurd keeps

-- the sink failed at what was held
pub flush_ends : (o p q : Option (List ℕ)) (held kept same now line : List ℕ) → IsSent o p held kept → same ≡ kept
    → GrowsByPart p q same → Moves {A = Unit {0}} (Err Sink) o q held now line
flush_ends o p q held kept same now line is kept_is part =
    rw (behind held is.sent kept line is.split)
    (grows_part o p q is.sent kept line is.grown (subst (λ (t : List ℕ). GrowsByPart p q t) kept_is part))

-- what was held was put, and then a part of the line
flushed_cut : (o p q r : Option (List ℕ)) (held kept same line : List ℕ) → IsSent o p held kept → same ≡ kept
    → GrowsBy p q same → GrowsByPart q r line → GrowsByPart o r (held ++ line)
flushed_cut o p q r held kept same line is kept_is grown part =
    let all : GrowsBy o q (is.sent ++ kept) =
    grows_on o p q is.sent kept is.grown (subst (λ (t : List ℕ). GrowsBy p q t) kept_is grown) in
    rw is.split (subst (λ (t : List ℕ). GrowsByPart o r ((is.sent ++ kept) ++ t)) (append-nil line)
    (grows_part o q r (is.sent ++ kept) line [] all part))

-- the line or a part of it
pub flushed_line : (o p q r : Option (List ℕ)) (held kept same now line : List ℕ) (result : Result (Unit {0})
    WriteStop)
    → IsSent o p held kept → same ≡ kept → GrowsBy p q same → now ≡ [] → Writes result q r line
    → Moves result o r held now line
flushed_line o p q r held kept same now line (Ok u) is kept_is grown none writes =
    let all : GrowsBy o q (is.sent ++ kept) =
    grows_on o p q is.sent kept is.grown (subst (λ (t : List ℕ). GrowsBy p q t) kept_is grown) in
    record {
      sent = (is.sent ++ kept) ++ line;
      grown = grows_on o q r (is.sent ++ kept) line all writes;
      split = ap (λ (t : List ℕ). t ++ line) is.split ∙ sym (append-nil ((is.sent ++ kept) ++ line))
          ∙ ap (λ (t : List ℕ). ((is.sent ++ kept) ++ line) ++ t) (sym none);
    }
flushed_line o p q r held kept same now line (Err (Broken fault)) is kept_is grown none writes = writes
flushed_line o p q r held kept same now line (Err Source) is kept_is grown none writes =
    flushed_cut o p q r held kept same line is kept_is grown writes
flushed_line o p q r held kept same now line (Err Sink) is kept_is grown none writes =
    flushed_cut o p q r held kept same line is kept_is grown writes

-- a text before, of which a part is held
pub sent_more : (o p q : Option (List ℕ)) (text held now line : List ℕ) → IsSent o p text held
    → IsSent p q (held ++ line) now → IsSent o q (text ++ line) now
sent_more o p q text held now line before more =
    record {
      sent = before.sent ++ more.sent;
      grown = grows_on o p q before.sent more.sent before.grown more.grown;
      split = behind text before.sent held line before.split ∙ ap (λ (t : List ℕ). before.sent ++ t) more.split
          ∙ sym (append_assoc before.sent more.sent now);
    }

-- a line of it ended the writing
pub moves_end : (o p q : Option (List ℕ)) (text held now line rest : List ℕ) (e : WriteStop) → IsSent o p text held
    → Moves {A = Unit {0}} (Err e) p q held now line → Writes {A = Unit {0}} (Err e) o q (text ++ (line ++ rest))
moves_end o p q text held now line rest e before ends =
    rw (behind text before.sent held (line ++ rest) before.split ∙ ap (λ (t : List ℕ). before.sent ++ t)
    (sym (append_assoc held line rest))) (by_stop e ends)
  where
    by_stop : (e : WriteStop) → Moves {A = Unit {0}} (Err e) p q held now line
        → Writes {A = Unit {0}} (Err e) o q (before.sent ++ ((held ++ line) ++ rest))
    by_stop (Broken fault) ends = absurd ends
    by_stop Source ends = grows_part o p q before.sent (held ++ line) rest before.grown ends
    by_stop Sink ends = grows_part o p q before.sent (held ++ line) rest before.grown ends

-- the writing ended with the rest held
pub sent_part : (o p : Option (List ℕ)) (text held rest : List ℕ) → IsSent o p text held
    → GrowsByPart o p (text ++ rest)
sent_part o p text held rest is =
    rw (behind text is.sent held rest is.split) (grown_part o p is.sent (held ++ rest) is.grown)

-- what is held was put, or a part of it
pub all_sent : (o p q : Option (List ℕ)) (text held : List ℕ) → IsSent o p text held → GrowsBy p q held
    → GrowsBy o q text
all_sent o p q text held is grown = rw is.split (grows_on o p q is.sent held is.grown grown)

pub sent_cut : (o p q : Option (List ℕ)) (text held : List ℕ) → IsSent o p text held → GrowsByPart p q held
    → GrowsByPart o q text
sent_cut o p q text held is part =
    rw (is.split ∙ ap (λ (t : List ℕ). is.sent ++ t) (sym (append-nil held)))
    (grows_part o p q is.sent held [] is.grown part)
