-- What is ahead of a text that is read on.
use Rattle.std.proofs.Common.{◌≡◌, ◌≢◌, ℕ, ◌+◌, ◌<◌, ◌≤◌, List, [], ◌++◌, length, take}
use Rattle.std.proofs.Common.{drop, get_or, Some, None, Option, Ok, sym, ap, ◌∙◌}
use Rattle.std.proofs.Common.{subst, arith, inl, inr}
use Rattle.std.proofs.lemmas.Bool.{cases_lt}
use Rattle.std.proofs.lemmas.List.{append_assoc, length-append, length-take-le}
use Rattle.std.proofs.Math.Seq.{take-append-add}
use Rattle.std.proofs.lemmas.List.{take_at, take-take}
use Rattle.std.proofs.lemmas.List.{take_all, take-append-le, take-append-drop, get_or_append_left}
use Rattle.std.proofs.lemmas.List.{drop_all}
use Rattle.page_source.specs.Objects.{TakesBytes}
use Rattle.row_store.specs.calls.Lines.{GivesBytes, IsAtEnd, ComeBehind, GrewBehind, IsFeedPlace, IsFewAhead}
use Rattle.row_store.proofs.Reading.{gives_more}

-- bytes that were read
pub given_by : (E : Type 0) (old new : Option (List ℕ)) (k : ℕ) (buffer : List ℕ)
    → TakesBytes {E = E} old new (Ok k) buffer
    → GivesBytes old new (take k buffer)
given_by E None new k buffer takes = takes
given_by E (Some text) new k buffer takes =
    let t = takes.2 in (
      takes.0,
      takes.1,
      sym (take-append-drop k text) ∙ ap (λ (xs : List ℕ). xs ++ drop k text) (sym t.bytes)
          ∙ ap (λ (xs : List ℕ). take k buffer ++ xs) (sym t.rest),
    )

pub ends_by : (E : Type 0) (old new : Option (List ℕ)) (k : ℕ) (buffer : List ℕ)
    → TakesBytes {E = E} old new (Ok k) buffer
    → k ≡ 0 → IsAtEnd new
ends_by E None new k buffer takes none = subst IsAtEnd (sym takes) tt
ends_by E (Some text) new k buffer takes none =
    let t = takes.2 in
    let past : takes.0 ≡ [] =
    t.rest ∙ ap (drop k) (t.ends none) ∙ drop_all k [] (omega arith) in
    subst IsAtEnd (sym takes.1) past

-- the room that was read into, up to what came
pub room_read : (items fill all buffer rest more : List ℕ) (end count size chunk : ℕ) → end ≡ length items
    → all ≡ take (end + chunk) items ++ fill → count ≤ length buffer → end + count ≤ size → end ≤ length all
    → take (end + count) (take size ((take end all ++ (buffer ++ rest)) ++ more)) ≡ items ++ take count buffer
room_read items fill all buffer rest more end count size chunk end_is filled few within room =
    let front : take end all ≡ items =
    ap (take end) (filled ∙ ap (λ (xs : List ℕ). xs ++ fill) (take_all (end + chunk) items (omega arith)))
    ∙ take_at items fill end (sym end_is) in
    let long = length-append (take end all) (buffer ++ rest) in
    let middle = length-append buffer rest in
    let first = length-take-le end all room in
    let same : end + count ≡ length (take end all) + count = omega arith in
    take-take (end + count) size ((take end all ++ (buffer ++ rest)) ++ more) within
    ∙ take-append-le (end + count) (take end all ++ (buffer ++ rest)) more (omega arith)
    ∙ ap (λ n. take n (take end all ++ (buffer ++ rest))) same
    ∙ take-append-add (take end all) (buffer ++ rest) count
    ∙ ap (λ (xs : List ℕ). take end all ++ xs) (take-append-le count buffer rest few)
    ∙ ap (λ (xs : List ℕ). xs ++ take count buffer) front

pub grew_more : (a b c : Option (List ℕ)) (xs ys zs : List ℕ) (count : ℕ) → GrewBehind a b xs ys
    → ComeBehind b c ys zs count → GrewBehind a c xs zs
grew_more a b c xs ys zs count grew come = record {
  piece = grew.piece ++ come.piece;
  behind =
      come.behind ∙ ap (λ (bytes : List ℕ). bytes ++ come.piece) grew.behind ∙ append_assoc xs grew.piece come.piece;
  given = gives_more a b c grew.piece come.piece grew.given come.given;
}

-- a buffer more was read behind bytes of one line
pub few_more : (a b : Option (List ℕ)) (xs ys : List ℕ) (count size place : ℕ) → size ≡ length xs → size ≤ 16777216
    → ComeBehind a b xs ys count → size ≤ place → IsFewAhead ys place
few_more a b xs ys count size place all short come least =
    let grown = ap length come.behind ∙ length-append xs come.piece in
    let count_is = come.count_is in
    let few = come.few in
    record { behind = omega arith; longest = omega arith }

-- the place of the first LF, searched from a place on
searched : (a b : Option (List ℕ)) (xs ys : List ℕ) (count size place : ℕ) → IsFeedPlace xs size → size ≡ length xs
    → ComeBehind a b xs ys count → place ≤ length ys → ((k : ℕ) → size ≤ k → k < place → get_or ys k 0 ≢ 10)
    → (place < length ys → get_or ys place 0 ≡ 10) → IsFeedPlace ys place
searched a b xs ys count size place before all come within lacks feed = record {
  within = within;
  lacks = λ k below. elim (cases_lt k size) [
    | inl old ↦
        let same : get_or ys k 0 ≡ get_or xs k 0 =
        ap (λ (bytes : List ℕ). get_or bytes k 0) come.behind ∙ get_or_append_left xs come.piece 0 k (omega arith) in
        λ is. before.lacks k old (sym same ∙ is)
    | inr new ↦ lacks k new below
  ];
  feed = feed;
}

pub place_on : (a b : Option (List ℕ)) (xs ys zs : List ℕ) (count size place : ℕ) → IsFeedPlace xs size
    → size ≡ length xs → ComeBehind a b xs ys count → zs ≡ ys → place ≤ length zs
    → ((k : ℕ) → size ≤ k → k < place → get_or zs k 0 ≢ 10) → (place < length zs → get_or zs place 0 ≡ 10)
    → IsFeedPlace ys place
place_on a b xs ys zs count size place before all come same within lacks feed =
    searched a b xs ys count size place before all come
    (subst (λ (bytes : List ℕ). place ≤ length bytes) same within)
    (λ k least below. subst (λ (bytes : List ℕ). get_or bytes k 0 ≢ 10) same (lacks k least below))
    (subst (λ (bytes : List ℕ). place < length bytes → get_or bytes place 0 ≡ 10) same feed)
