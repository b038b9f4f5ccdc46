-- The text of a value that goes on in pages of its own, in the four pieces that are put.
use Rattle.std.proofs.Common.{◌≡◌, ℕ, List, [], ◌++◌, Option, Err, sym, ap, ◌∙◌, arith}
use Rattle.std.proofs.Common.{append_assoc}
use Rattle.std.proofs.lemmas.List.{append-nil}
use Rattle.page_source.specs.Objects.{GrowsBy, GrowsByPart}
use Rattle.page_source.proofs.Texts.{grows_on, grows_part}
use Rattle.column_values.specs.declared.kind.ColumnType.{ColumnType}
use Rattle.offpage_chain.specs.declared.reference.Reference.{Reference}
use Rattle.offpage_chain.specs.Reference.{reference_of}
use Rattle.row_text.specs.Writer.{long_open, long_part, long_close}
use Rattle.row_text.specs.Laws.{PartsJoin}
use Rattle.table_check.specs.Values.{front_of}
use Rattle.sql_dump.specs.declared.stop.WriteStop.{WriteStop}
use Rattle.sql_dump.specs.declared.stop.WriteStop.TheVariants.{Sink}
use Rattle.sql_dump.specs.Stops.{Writes}
use Rattle.sql_dump.specs.Long.{IsSplit, chain_bytes, stated_length, long_text}
use Rattle.sql_dump.proofs.Written.{part_more, ends_in_piece}

-- a text in four pieces
pub record IsInFour (text a b c d : List ℕ) : Type 0 where
  pub same : text ≡ (a ++ b) ++ (c ++ d)

pub long_in_four : {local front : List ℕ} {reference : Reference} {n : ℕ} (file : List ℕ) (kind : ColumnType)
    (before : List ℕ) → PartsJoin → IsSplit local front reference n
    → IsInFour (before ++ long_text file kind local) (before ++ long_open kind n) (long_part kind front)
    (long_part kind (chain_bytes file reference)) (long_close kind)
long_in_four {local = local} {n = n} file kind before join is =
    let stated : n ≡ stated_length local =
    omega (arith, is.stated_is, is.size, ap (λ (r : Reference). r.length) is.reference_is) in
    let opened = long_open kind (stated_length local) in
    let first = long_part kind (front_of local) in
    let last = long_part kind (chain_bytes file (reference_of local)) in
    rw (is.front_is, is.reference_is, stated)
    (record {
      same = ap (λ (t : List ℕ). before ++ (opened ++ (t ++ long_close kind)))
          (join kind (front_of local) (chain_bytes file (reference_of local)))
          ∙ ap (λ (t : List ℕ). before ++ (opened ++ t)) (append_assoc first last (long_close kind))
          ∙ sym (append_assoc before opened (first ++ (last ++ long_close kind)))
          ∙ sym (append_assoc (before ++ opened) first (last ++ long_close kind));
    })

pub first_cut : {text a b c d : List ℕ} (o p : Option (List ℕ)) → IsInFour text a b c d → GrowsByPart o p a
    → Writes {A = Unit {0}} (Err Sink) o p text
first_cut {a = a} {b = b} {c = c} {d = d} o p is part =
    rw (is.same, append_assoc a b (c ++ d)) (part_more o p a (b ++ (c ++ d)) part)

pub second_cut : {text a b c d : List ℕ} (o p q : Option (List ℕ)) → IsInFour text a b c d → GrowsBy o p a
    → GrowsByPart p q b → Writes {A = Unit {0}} (Err Sink) o q text
second_cut {a = a} {b = b} {c = c} {d = d} o p q is grown part =
    rw (is.same, append_assoc a b (c ++ d)) (grows_part o p q a b (c ++ d) grown part)

pub third_ends : {text a b c d : List ℕ} (o p q r : Option (List ℕ)) (e : WriteStop) → IsInFour text a b c d
    → GrowsBy o p a → GrowsBy p q b → Writes {A = Unit {0}} (Err e) q r c → Writes {A = Unit {0}} (Err e) o r text
third_ends {a = a} {b = b} {c = c} {d = d} o p q r e is first second ends =
    rw is.same (ends_in_piece o q r (a ++ b) c d e (grows_on o p q a b first second) ends)

pub last_cut : {text a b c d : List ℕ} (o p q r s : Option (List ℕ)) → IsInFour text a b c d → GrowsBy o p a
    → GrowsBy p q b → GrowsBy q r c → GrowsByPart r s d → Writes {A = Unit {0}} (Err Sink) o s text
last_cut {text = text} {a = a} {b = b} {c = c} {d = d} o p q r s is first second third part =
    let all = grows_on o q r (a ++ b) c (grows_on o p q a b first second) third in
    let whole : text ≡ ((a ++ b) ++ c) ++ (d ++ []) =
    is.same ∙ sym (append_assoc (a ++ b) c d) ∙ ap (λ (t : List ℕ). ((a ++ b) ++ c) ++ t) (sym (append-nil d)) in
    rw whole (grows_part o r s ((a ++ b) ++ c) d [] all part)

pub all_four : {text a b c d : List ℕ} (o p q r s : Option (List ℕ)) → IsInFour text a b c d → GrowsBy o p a
    → GrowsBy p q b → GrowsBy q r c → GrowsBy r s d → GrowsBy o s text
all_four {a = a} {b = b} {c = c} {d = d} o p q r s is first second third fourth =
    rw is.same (grows_on o q s (a ++ b) (c ++ d) (grows_on o p q a b first second) (grows_on q r s c d third fourth))
