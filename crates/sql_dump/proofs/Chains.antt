-- The bytes of a chain, put part by part.
use Rattle.std.proofs.Common.{◌≡◌, ℕ, ◌+◌, ◌-◌, ◌≤◌, List, [], ◌∷◌, ◌++◌, length, drop, slice_range, Option, Some}
use Rattle.std.proofs.Common.{None, Err, refl, sym, ap, ◌∙◌, subst, arith, append_assoc, length-append, length-drop}
use Rattle.std.proofs.lemmas.List.{append-nil, length-take-le}
use Rattle.std.proofs.lemmas.List.Concat.{flat_map-append}
use Rattle.page_source.specs.declared.rule.Fault.{Fault}
use Rattle.page_source.specs.declared.checks.Halt.{Halt}
use Rattle.page_source.specs.declared.checks.Halt.TheVariants as halts
use Rattle.page_source.specs.Pages.{page_of}
use Rattle.page_source.specs.Objects.{GrowsBy, GrowsByPart}
use Rattle.page_source.proofs.Texts.{grows_on, grows_part}
use Rattle.column_values.specs.declared.kind.ColumnType.{ColumnType}
use Rattle.offpage_chain.specs.declared.reference.Reference.{Reference}
use Rattle.offpage_chain.specs.Chain.{part_length, part_bytes, chain_pages, bytes_on}
use Rattle.offpage_chain.specs.Reader.{ChainRest, GoesOnAlong, GivesNext}
use Rattle.row_text.specs.Writer.{long_part}
use Rattle.row_text.specs.Laws.{NoPart, PartsJoin}
use Rattle.sql_dump.specs.declared.stop.WriteStop.TheVariants.{Broken, Sink}
use Rattle.sql_dump.specs.Stops.{Writes, write_stop_of}
use Rattle.sql_dump.specs.Long.{CanFollowIn, chain_bytes}
use Rattle.sql_dump.proofs.Written.{ends_here}

-- the parts of the first pages of a chain were put, each for one fetch
pub record ChainSoFar (file : List ℕ) (reference : Reference) (kind : ColumnType) (rest : ChainRest)
    (old now : Option (List ℕ)) (most left : ℕ) : Type 0 where
  pub front : List ℕ
  pub back : List ℕ
  pub split : chain_pages file reference ≡ front ++ back
  pub goes_on : GoesOnAlong file rest back
  pub grown : GrowsBy old now (long_part kind (bytes_on file front))
  pub used : left + length front ≡ most

grows_none : (a : Option (List ℕ)) (none : List ℕ) → none ≡ [] → GrowsBy a a none
grows_none None none e = refl
grows_none (Some old) none e = ap Some (sym (append-nil old) ∙ ap (λ (t : List ℕ). old ++ t) (sym e))

pub chain_start : (file : List ℕ) (reference : Reference) (kind : ColumnType) (rest : ChainRest) (o : Option (List ℕ))
    (left : ℕ) → NoPart → rest ≡ record { page = reference.page; lacks = reference.length }
    → CanFollowIn file reference left → ChainSoFar file reference kind rest o o left left
unfolding bytes_on
chain_start file reference kind rest o left none is can =
    record {
      front = [];
      back = chain_pages file reference;
      split = refl;
      goes_on = subst (λ (r : ChainRest). GoesOnAlong file r (chain_pages file reference)) (sym is)
          can.follow.goes_on;
      grown = grows_none o (long_part kind []) (none kind);
      used = omega arith;
    }

-- the bytes on two lists of pages
text_on : (file : List ℕ) (kind : ColumnType) (a b : List ℕ) → PartsJoin
    → long_part kind (bytes_on file (a ++ b)) ≡ long_part kind (bytes_on file a) ++ long_part kind (bytes_on file b)
unfolding bytes_on
text_on file kind a b join =
    ap (long_part kind) (flat_map-append (λ n. part_bytes (page_of file n)) a b)
    ∙ join kind (bytes_on file a) (bytes_on file b)

one_page : (file : List ℕ) (p : ℕ) → bytes_on file (p ∷ []) ≡ part_bytes (page_of file p)
unfolding bytes_on
one_page file p = append-nil (part_bytes (page_of file p))

-- the text of the chain, by the pages before and behind
text_split : (file : List ℕ) (reference : Reference) (kind : ColumnType) (a b : List ℕ) → PartsJoin
    → chain_pages file reference ≡ a ++ b
    → long_part kind (chain_bytes file reference)
    ≡ long_part kind (bytes_on file a) ++ long_part kind (bytes_on file b)
unfolding chain_bytes
text_split file reference kind a b join split =
    ap (λ (pages : List ℕ). long_part kind (bytes_on file pages)) split ∙ text_on file kind a b join

-- the reader failed: no rule is broken, and what follows is still to come
pub chain_breaks : (file : List ℕ) (reference : Reference) (kind : ColumnType) (rest : ChainRest)
    (old now : Option (List ℕ)) (most left : ℕ) (halt : Halt)
    → PartsJoin → ChainSoFar file reference kind rest old now most left → length (chain_pages file reference) ≤ most
    → ((pages : List ℕ) (fault : Fault) → GoesOnAlong file rest pages → length pages ≤ left
    → halt ≡ halts.Broken fault → ⊥)
    → Writes {A = Unit {0}} (Err (write_stop_of halt)) old now (long_part kind (chain_bytes file reference))
chain_breaks file reference kind rest old now most left halt join so few never =
    let size = ap length so.split ∙ length-append so.front so.back in
    let fits : length so.back ≤ left = omega (arith, size, few, so.used) in
    rw (text_split file reference kind so.front so.back join so.split)
    (ends_here old now (long_part kind (bytes_on file so.front)) (long_part kind (bytes_on file so.back))
    (write_stop_of halt) so.grown (by_halt halt (λ fault. never so.back fault so.goes_on fits)))
  where
    by_halt : (halt : Halt) → ((fault : Fault) → halt ≡ halts.Broken fault → ⊥)
        → (fault : Fault) → write_stop_of halt ≡ Broken fault → ⊥
    by_halt (halts.Broken f) never fault e = never f refl
    by_halt halts.Source never fault e = cc

-- none is left: the whole was put
pub chain_ends : (file : List ℕ) (reference : Reference) (kind : ColumnType) (rest new : ChainRest)
    (old now : Option (List ℕ)) (most left : ℕ) (page : List ℕ)
    → (so : ChainSoFar file reference kind rest old now most left)
    → ((pages : List ℕ) → GoesOnAlong file rest pages → GivesNext file pages new None page)
    → GrowsBy old now (long_part kind (chain_bytes file reference))
    × (left + length (chain_pages file reference) ≡ most)
unfolding chain_bytes
chain_ends file reference kind rest new old now most left page so gives =
    by_rest so.back so.split (gives so.back so.goes_on)
  where
    by_rest : (back : List ℕ) → chain_pages file reference ≡ so.front ++ back → GivesNext file back new None page
        → GrowsBy old now (long_part kind (bytes_on file (chain_pages file reference)))
        × (left + length (chain_pages file reference) ≡ most)
    by_rest [] split none =
        let all : chain_pages file reference ≡ so.front = split ∙ append-nil so.front in
        rw all (so.grown, so.used)
    by_rest (p ∷ back) split none = absurd (cc (none.0))

-- how many bytes a part in hand has
pub part_size : (page : List ℕ) (n : ℕ) → length page ≡ 16384 → n ≤ 16330 → length (slice_range page 46 (46 + n)) ≡ n
part_size page n size within =
    let take : 46 + n - 46 ≡ n = omega arith in
    rw take (length-take-le n (drop 46 page) (omega (arith, length-drop 46 page)))

-- the next page of those that are left
pub record IsNext (file : List ℕ) (pages : List ℕ) (new : ChainRest) (n : ℕ) (page : List ℕ) : Type 0 where
  pub p : ℕ
  pub back : List ℕ
  pub split : pages ≡ p ∷ back
  pub size : n ≡ part_length (page_of file p)
  pub held : page ≡ page_of file p
  pub goes_on : GoesOnAlong file new back

pub next_of : (file pages : List ℕ) (new : ChainRest) (n : ℕ) (page : List ℕ) → GivesNext file pages new (Some n) page
    → IsNext file pages new n page
next_of file [] new n page gives = absurd (cc gives)
next_of file (p ∷ back) new n page gives = record {
  p = p;
  back = back;
  split = refl;
  size = cc (gives.0);
  held = gives.1;
  goes_on = gives.2;
}

-- the bytes of the part in hand
part_here : (file pages : List ℕ) (new : ChainRest) (n : ℕ) (page : List ℕ) (next : IsNext file pages new n page)
    → slice_range page 46 (46 + n) ≡ bytes_on file (next.p ∷ [])
part_here file pages new n page next =
    ap (λ (k : ℕ). slice_range page 46 (46 + k)) next.size
    ∙ ap (λ (bytes : List ℕ). slice_range bytes 46 (46 + part_length (page_of file next.p))) next.held
    ∙ sym (one_page file next.p)

pub chain_more : (file : List ℕ) (reference : Reference) (kind : ColumnType) (rest new : ChainRest)
    (old now next : Option (List ℕ)) (most left less n : ℕ) (page : List ℕ) → PartsJoin
    → ChainSoFar file reference kind rest old now most left
    → ((pages : List ℕ) → GoesOnAlong file rest pages → GivesNext file pages new (Some n) page)
    → GrowsBy now next (long_part kind (slice_range page 46 (46 + n))) → less + 1 ≡ left
    → ChainSoFar file reference kind new old next most less
chain_more file reference kind rest new old now next most left less n page join so gives grown one =
    let is = next_of file so.back new n page (gives so.back so.goes_on) in
    let text = text_on file kind so.front (is.p ∷ []) join in
    let piece : GrowsBy now next (long_part kind (bytes_on file (is.p ∷ []))) =
    subst (λ (bytes : List ℕ). GrowsBy now next (long_part kind bytes)) (part_here file so.back new n page is) grown
    in
    record {
      front = so.front ++ is.p ∷ [];
      back = is.back;
      split = so.split ∙ ap (λ (t : List ℕ). so.front ++ t) is.split ∙ sym (append_assoc so.front (is.p ∷ [])
          is.back);
      goes_on = is.goes_on;
      grown = rw text (grows_on old now next (long_part kind (bytes_on file so.front))
          (long_part kind (bytes_on file (is.p ∷ []))) so.grown piece);
      used = omega (arith, so.used, one, length-append so.front (is.p ∷ []));
    }

-- the sink failed in it
pub chain_cut : (file : List ℕ) (reference : Reference) (kind : ColumnType) (rest new : ChainRest)
    (old now next : Option (List ℕ)) (most left n : ℕ) (page : List ℕ) → PartsJoin
    → ChainSoFar file reference kind rest old now most left
    → ((pages : List ℕ) → GoesOnAlong file rest pages → GivesNext file pages new (Some n) page)
    → GrowsByPart now next (long_part kind (slice_range page 46 (46 + n)))
    → Writes {A = Unit {0}} (Err Sink) old next (long_part kind (chain_bytes file reference))
chain_cut file reference kind rest new old now next most left n page join so gives part =
    let is = next_of file so.back new n page (gives so.back so.goes_on) in
    let whole : long_part kind (bytes_on file so.back)
    ≡ long_part kind (bytes_on file (is.p ∷ [])) ++ long_part kind (bytes_on file is.back) =
    ap (λ (pages : List ℕ). long_part kind (bytes_on file pages)) is.split
    ∙ text_on file kind (is.p ∷ []) is.back join in
    let piece : GrowsByPart now next (long_part kind (bytes_on file (is.p ∷ []))) =
    subst (λ (bytes : List ℕ). GrowsByPart now next (long_part kind bytes)) (part_here file so.back new n page is)
    part in
    rw (text_split file reference kind so.front so.back join so.split, whole)
    (grows_part old now next (long_part kind (bytes_on file so.front)) (long_part kind (bytes_on file (is.p ∷ [])))
    (long_part kind (bytes_on file is.back)) so.grown piece)
