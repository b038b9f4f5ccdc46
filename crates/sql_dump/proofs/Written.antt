-- A text that is put in pieces, by calls that may end in several ways.
use Rattle.std.proofs.Common.{◌≡◌, ℕ, List, ◌++◌, length, Option, Some, None, Err, refl, sym, ap, ◌∙◌, arith}
use Rattle.std.proofs.Common.{length-append}
use Rattle.std.proofs.Math.Seq.{take-append_seam}
use Rattle.std.proofs.lemmas.List.{take-append-le}
use Rattle.page_source.specs.declared.rule.Fault.{Fault}
use Rattle.page_source.specs.Objects.{GrowsBy, GrowsByPart}
use Rattle.page_source.proofs.Texts.{grows_part}
use Rattle.sql_dump.specs.declared.stop.WriteStop.{WriteStop}
use Rattle.sql_dump.specs.declared.stop.WriteStop.TheVariants.{Broken, Source, Sink}
use Rattle.sql_dump.specs.Stops.{Writes}

-- a text that was put and one behind it that wasn't
pub grown_part : (a b : Option (List ℕ)) (xs rest : List ℕ) → GrowsBy a b xs → GrowsByPart a b (xs ++ rest)
grown_part None b xs rest first = first
grown_part (Some old) b xs rest first = (
  length xs,
  omega (arith, length-append xs rest),
  first ∙ ap (λ (t : List ℕ). Some (old ++ t)) (sym
      (take-append_seam xs rest)),
)

-- the writing ended when a text was put: what follows is still to come
pub ends_here : (a b : Option (List ℕ)) (xs rest : List ℕ) (e : WriteStop) → GrowsBy a b xs
    → ((f : Fault) → e ≡ Broken f → ⊥) → Writes {A = Unit {0}} (Err e) a b (xs ++ rest)
ends_here a b xs rest (Broken f) grown never = never f refl
ends_here a b xs rest Source grown never = grown_part a b xs rest grown
ends_here a b xs rest Sink grown never = grown_part a b xs rest grown

-- the writing ended in a later piece
pub ends_in_piece : (a b c : Option (List ℕ)) (xs piece rest : List ℕ) (e : WriteStop) → GrowsBy a b xs
    → Writes {A = Unit {0}} (Err e) b c piece → Writes {A = Unit {0}} (Err e) a c (xs ++ (piece ++ rest))
ends_in_piece a b c xs piece rest (Broken f) grown ends = absurd ends
ends_in_piece a b c xs piece rest Source grown ends = grows_part a b c xs piece rest grown ends
ends_in_piece a b c xs piece rest Sink grown ends = grows_part a b c xs piece rest grown ends

-- a part of a text is one of a longer text
pub part_more : (a b : Option (List ℕ)) (xs rest : List ℕ) → GrowsByPart a b xs → GrowsByPart a b (xs ++ rest)
part_more None b xs rest part = part
part_more (Some old) b xs rest part = (
  part.0,
  omega (arith, part.1, length-append xs rest),
  part.2 ∙ ap (λ (t : List ℕ). Some (old ++ t)) (sym (take-append-le part.0 xs rest part.1)),
)
