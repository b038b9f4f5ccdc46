-- A text that grew piece by piece.
use Rattle.std.proofs.Common.{[], refl, ◌≡◌, ℕ, ◌+◌, suc, ◌<◌, ◌≤◌, get_or, flat_map, drop, Result, Ok, Err}
use Rattle.std.proofs.Common.{IsErr, ◌∷◌, List, ◌++◌, length, take, Option, Some, None, sym, ap, ◌∙◌, subst, arith}
use Rattle.std.proofs.Common.{append_assoc, length-append}
use Rattle.std.proofs.Math.Seq.{take-append-add, take-length, split_at}
use Rattle.std.proofs.lemmas.Bool.{false≢true}
use Rattle.std.proofs.lemmas.List.{take-append-le, append-nil}
use Rattle.std.proofs.lemmas.List.Concat.{flat_map-append}
use Rattle.page_source.specs.declared.objects.ByteSink.{Ghosts as SinkOf}
use Rattle.page_source.specs.Faults.{Rose}
use Rattle.page_source.specs.Objects.{GrowsBy, GrowsByPart}
use Rattle.page_source.specs.Calls.{Puts}

pub grows_on : (a b c : Option (List ℕ)) (xs ys : List ℕ) → GrowsBy a b xs → GrowsBy b c ys → GrowsBy a c (xs ++ ys)
grows_on None b c xs ys first second = let e : b ≡ None = first in let f : GrowsBy None c ys =
    subst (λ (o : Option (List ℕ)). GrowsBy o c ys) e second in f
grows_on (Some old) b c xs ys first second =
    let f : GrowsBy (Some (old ++ xs)) c ys = subst (λ (o : Option (List ℕ)). GrowsBy o c ys) first second in
    f ∙ ap Some (append_assoc old xs ys)

-- after some whole pieces, a part of the next one
pub grows_part : (a b c : Option (List ℕ)) (xs piece rest : List ℕ) → GrowsBy a b xs → GrowsByPart b c piece
    → GrowsByPart a c (xs ++ (piece ++ rest))
grows_part None b c xs piece rest first second = subst (λ (o : Option (List ℕ)). GrowsByPart o c piece) first second
grows_part (Some old) b c xs piece rest first second =
    let f : GrowsByPart (Some (old ++ xs)) c piece =
    subst (λ (o : Option (List ℕ)). GrowsByPart o c piece) first second in
    let k = f.0 in
    let within : length xs + k ≤ length (xs ++ (piece ++ rest)) =
    omega (arith, length-append xs (piece ++ rest), length-append piece rest, f.1) in
    let cut : take (length xs + k) (xs ++ (piece ++ rest)) ≡ xs ++ take k piece = take-append-add xs (piece ++ rest) k
    ∙ ap (λ (t : List ℕ). xs ++ t) (take-append-le k piece rest f.1) in (
      length xs + k,
      within,
      f.2 ∙ ap Some (append_assoc old xs (take k piece)
          ∙ ap (λ (t : List ℕ). old ++ t) (sym cut)),
    )

-- a whole text is a part of itself
pub grows_whole : (a b : Option (List ℕ)) (xs : List ℕ) → GrowsBy a b xs → GrowsByPart a b xs
grows_whole None b xs first = first
grows_whole (Some old) b xs first = (
  length xs,
  omega arith,
  first
      ∙ ap (λ (t : List ℕ). Some (old ++ t)) (sym (take-length xs)),
)

-- the pieces before one, that piece, and those behind it
pub pieces_at : {X : Type 0} (text : X → List ℕ) (pieces : List X) (i : ℕ) (d : X) → i < length pieces
    → flat_map text pieces ≡ flat_map text (take i pieces) ++
    (text (get_or pieces i d) ++ flat_map text (drop (suc i) pieces))
pieces_at text pieces i d within = ap (flat_map text) (split_at pieces i d within)
    ∙ flat_map-append text (take i pieces) (get_or pieces i d ∷ drop (suc i) pieces)

-- a put that failed
pub part_puts : {O A E : Type 0} (g : SinkOf O) (old new : O) (text : List ℕ) (result : Result A E) → IsErr result
    → GrowsByPart (g.written old) (g.written new) text → g.faults old ≤ g.faults new
    → Rose (g.faults old) (g.faults new)
    → Puts g old new text result
part_puts g old new text (Ok a) is part later rose = absurd (false≢true is)
part_puts g old new text (Err e) is part later rose =
    record { ok = tt; failed = part; cause = record { later = later; failed = rose } }

-- a sink took this text, and its count of faults never fell
pub record HasPut {O : Type 0} (g : SinkOf O) (old new : O) (text : List ℕ) : Type 0 where
  pub grown : GrowsBy (g.written old) (g.written new) text
  pub later : g.faults old ≤ g.faults new

grows_none : (a : Option (List ℕ)) → GrowsBy a a []
grows_none None = refl
grows_none (Some old) = ap Some (sym (append-nil old))

-- nothing yet
pub put_none : {O : Type 0} (g : SinkOf O) (a : O) → HasPut g a a []
put_none g a = record { grown = grows_none (g.written a); later = omega arith }

-- one piece more
pub put_more : {O A E : Type 0} (g : SinkOf O) (a b c : O) (xs ys : List ℕ) (result : Result A E) (x : A)
    → HasPut g a b xs → Puts g b c ys result → result ≡ Ok x → HasPut g a c (xs ++ ys)
put_more g a b c xs ys result x before now is =
    let done : Puts g b c ys (Ok x) = subst (λ r. Puts g b c ys r) is now in
    record {
      grown = grows_on (g.written a) (g.written b) (g.written c) xs ys before.grown done.ok;
      later = omega (arith, before.later, now.cause.later);
    }

-- the last piece
pub put_last : {O A E : Type 0} (g : SinkOf O) (a b c : O) (xs ys : List ℕ) (result : Result A E)
    → HasPut g a b xs → Puts g b c ys result → Puts g a c (xs ++ ys) result
put_last g a b c xs ys (Ok x) before now =
    record {
      ok = grows_on (g.written a) (g.written b) (g.written c) xs ys before.grown now.ok;
      failed = tt;
      cause = record { later = omega (arith, before.later, now.cause.later); failed = tt };
    }
put_last g a b c xs ys (Err e) before now =
    let part = grows_part (g.written a) (g.written b) (g.written c) xs ys [] before.grown now.failed in
    record {
      ok = tt;
      failed = subst (λ (t : List ℕ). GrowsByPart (g.written a) (g.written c) (xs ++ t)) (append-nil ys) part;
      cause =
          record {
            later = omega (arith, before.later, now.cause.later);
            failed = omega (arith, before.later, now.cause.failed);
          };
    }

-- a piece that failed, with others to follow
pub put_cut : {O A B E F : Type 0} (g : SinkOf O) (a b c : O) (xs ys rest : List ℕ) (piece : Result A E) (e : E)
    (result : Result B F)
    → HasPut g a b xs → Puts g b c ys piece → piece ≡ Err e → IsErr result → Puts g a c (xs ++ (ys ++ rest)) result
put_cut g a b c xs ys rest piece e result before now is err =
    let cut : Puts g b c ys (Err e) = subst (λ r. Puts g b c ys r) is now in
    part_puts g a c (xs ++ (ys ++ rest)) result err
    (grows_part (g.written a) (g.written b) (g.written c) xs ys rest before.grown cut.failed)
    (omega (arith, before.later, cut.cause.later)) (omega (arith, before.later, cut.cause.failed))

-- another answer of the same kind
pub puts_done : {O A B E F : Type 0} (g : SinkOf O) (a b : O) (text : List ℕ) (piece : Result A E) (x : A) (y : B)
    → Puts g a b text piece → piece ≡ Ok x → Puts {E = F} g a b text (Ok y)
puts_done g a b text piece x y now is =
    let done = subst (λ r. Puts g a b text r) is now in
    record { ok = done.ok; failed = tt; cause = record { later = done.cause.later; failed = tt } }

pub puts_failed : {O A B E F : Type 0} (g : SinkOf O) (a b : O) (text : List ℕ) (piece : Result A E) (e : E)
    (result : Result B F)
    → Puts g a b text piece → piece ≡ Err e → IsErr result → Puts g a b text result
puts_failed g a b text piece e result now is err =
    let cut = subst (λ r. Puts g a b text r) is now in
    part_puts g a b text result err cut.failed cut.cause.later cut.cause.failed

-- of a text that is put by a spelling of its bytes, all before this rest was put
pub record IsPutTo {O : Type 0} (g : SinkOf O) (old new : O) (spelled : List ℕ → List ℕ)
    (whole rest : List ℕ) : Type 0 where
  pub before : List ℕ
  pub same : whole ≡ before ++ rest
  pub put : HasPut g old new (spelled before)
