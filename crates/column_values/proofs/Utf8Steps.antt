-- What a reader of a text keeps stands for the bytes that were read.
use Rattle.std.proofs.Common.{◌≡◌, ℕ, suc, ◌+◌, ◌<◌, ◌≤◌, List, [], ◌∷◌, ◌++◌, length, take, drop, get_or, refl, sym}
use Rattle.std.proofs.Common.{ap, ◌∙◌}
use Rattle.std.proofs.Common.{subst, inl, inr, arith, append_assoc, length-append}
use Rattle.std.specs.List.{concat}
use Rattle.std.proofs.lemmas.List.{append-nil, take_more}
use Rattle.std.proofs.Math.Seq.{take-add}
use Rattle.std.specs.Prelude.{Option, Some, None}
use Rattle.std.proofs.lemmas.List.Folds.{concat-append}
use Rattle.std.proofs.lemmas.List.Elements.{All-nil, All-push, All-append}
use Rattle.column_values.specs.declared.utf8.Joined.{Joined}
use Rattle.column_values.specs.declared.utf8.Progress.{Progress}
use Rattle.column_values.specs.declared.utf8.Joined.TheVariants.{Whole, Front, Neither}
use Rattle.column_values.specs.Characters.{IsCharacter, HasCharacters}
use Rattle.column_values.specs.Utf8Reader.{State, Bad, Good, Reader, Any, Limited, IsPending, IsCut, StandsFor, WasFed}
use Rattle.column_values.specs.Utf8Reader.{CountsUpTo, CanFeed, IsAtEnd, TakesText}
use Rattle.column_values.specs.Utf8View.{pending_bytes, state_of, reader_of, IsFront, Joins, state_after, StepsTo}
use Rattle.column_values.specs.Utf8View.{RoomFor, UpTo, ReadsOn}
use Rattle.column_values.proofs.Utf8Texts.{before, same_cut, front_pending}

-- one character more
more_characters : (front c : List ℕ) (count : ℕ) → HasCharacters front count → IsCharacter c
    → HasCharacters (front ++ c) (count + 1)
more_characters front c count are is = record {
  characters = are.characters ++ c ∷ [];
  each = All-push IsCharacter are.characters c are.each is;
  counted = length-append are.characters (c ∷ []) ∙ ap (λ (n : ℕ). n + 1) are.counted;
  joined = ap (λ (t : List ℕ). t ++ c) are.joined ∙ sym (concat-append are.characters (c ∷ [])
      ∙ ap (λ (t : List ℕ). concat are.characters ++ t) (append-nil c));
}

nothing_pending : IsPending []
nothing_pending = front_pending [] tt

-- the pending bytes become a character
whole_cut : (text : List ℕ) (byte count : ℕ) (pending : List ℕ) → IsCut text count pending
    → IsCharacter (pending ++ byte ∷ []) → IsCut (text ++ byte ∷ []) (count + 1) []
whole_cut text byte count pending cut is = record {
  front = cut.front ++ (pending ++ byte ∷ []);
  characters = more_characters cut.front (pending ++ byte ∷ []) count cut.characters is;
  is_pending = nothing_pending;
  cut = ap (λ (t : List ℕ). t ++ byte ∷ []) cut.cut ∙ append_assoc cut.front pending (byte ∷ [])
      ∙ sym (append-nil (cut.front ++ (pending ++ byte ∷ [])));
}

-- or the front of one
front_cut : (text : List ℕ) (byte count : ℕ) (pending more : List ℕ) → IsCut text count pending
    → IsFront (pending ++ byte ∷ []) → more ≡ pending ++ byte ∷ []
    → IsCut (text ++ byte ∷ []) count more
front_cut text byte count pending more cut is same = rw same (record {
  front = cut.front;
  characters = cut.characters;
  is_pending = front_pending (pending ++ byte ∷ []) is;
  cut = ap (λ (t : List ℕ). t ++ byte ∷ []) cut.cut ∙ append_assoc cut.front pending (byte ∷ []);
})

-- or no text begins so
no_cut : (text : List ℕ) (byte count : ℕ) (pending : List ℕ) → IsCut text count pending
    → ¬ (IsCharacter (pending ++ byte ∷ [])) → ¬ (IsFront (pending ++ byte ∷ []))
    → (n : ℕ) (p : List ℕ) → ¬ (IsCut (text ++ byte ∷ []) n p)
no_cut text byte count pending cut no_character no_front n p other =
    let b = before text byte n p other in
    let same = same_cut text b.count count b.pending pending b.cut cut in
    elim b.goes_on [
      | inl is ↦ no_character (subst (λ (t : List ℕ). IsCharacter (t ++ byte ∷ [])) same.1 is)
      | inr is ↦ no_front (subst (λ (t : List ℕ). IsFront (t ++ byte ∷ [])) same.1 is)
    ]

by_joined : (text : List ℕ) (byte count : ℕ) (pending : List ℕ) (joined : Joined) → IsCut text count pending
    → Joins (pending ++ byte ∷ []) joined
    → StandsFor (state_after count joined) (text ++ byte ∷ [])
by_joined text byte count pending Whole cut is = whole_cut text byte count pending cut is
by_joined text byte count pending (Front more) cut is =
    front_cut text byte count pending (pending_bytes more) cut is.0 is.1
by_joined text byte count pending Neither cut is = no_cut text byte count pending cut is.0 is.1

-- what stood for a text stands for one byte more
pub step_stands : (old new : State) (byte : ℕ) (text : List ℕ) → StepsTo old byte new → StandsFor old text
    → StandsFor new (text ++ byte ∷ [])
step_stands Bad new byte text step stands =
    subst (λ (s : State). StandsFor s (text ++ byte ∷ [])) (sym step) (λ n p cut. let b = before text byte n p cut in
    stands b.count b.pending b.cut)
step_stands (Good count pending) new byte text step stands =
    subst (λ (s : State). StandsFor s (text ++ byte ∷ [])) (sym step.2)
    (by_joined text byte count pending step.0 stands step.1)

room_after : (count more : ℕ) (joined : Joined) → count + suc more ≤ 8589934591
    → RoomFor (state_after count joined) more
room_after count more Whole room = omega arith
room_after count more (Front pending) room = omega arith
room_after count more Neither room = tt

pub step_room : (old new : State) (byte more : ℕ) → StepsTo old byte new → RoomFor old (suc more) → RoomFor new more
step_room Bad new byte more step room = subst (λ (s : State). RoomFor s more) (sym step) tt
step_room (Good count pending) new byte more step room =
    subst (λ (s : State). RoomFor s more) (sym step.2) (room_after count more step.0 room)

up_to_after : (most count : ℕ) (joined : Joined) → count ≤ most → UpTo (most + 1) (state_after count joined)
up_to_after most count Whole low = omega arith
up_to_after most count (Front pending) low = omega arith
up_to_after most count Neither low = tt

pub step_up_to : (old new : State) (byte most : ℕ) → StepsTo old byte new → UpTo most old → UpTo (most + 1) new
step_up_to Bad new byte most step low = subst (λ (s : State). UpTo (most + 1) s) (sym step) tt
step_up_to (Good count pending) new byte most step low =
    subst (λ (s : State). UpTo (most + 1) s) (sym step.2) (up_to_after most count step.0 low)

-- characters, and more of them
characters_append : (text more : List ℕ) (m n : ℕ) → HasCharacters text m → HasCharacters more n
    → HasCharacters (text ++ more) (m + n)
characters_append text more m n first second = record {
  characters = first.characters ++ second.characters;
  each = All-append IsCharacter first.characters second.characters first.each second.each;
  counted = omega (arith, length-append first.characters second.characters, first.counted, second.counted);
  joined = ap (λ (t : List ℕ). t ++ more) first.joined ∙ ap (λ (t : List ℕ). concat first.characters ++ t) second.joined
      ∙ sym (concat-append first.characters second.characters);
}

-- a text is a cut with nothing pending
text_cut : (text : List ℕ) (count : ℕ) → HasCharacters text count → IsCut text count []
text_cut text count are = record {
  front = text;
  characters = are;
  is_pending = nothing_pending;
  cut =
      sym (append-nil text);
}

cut_text : (text : List ℕ) (count : ℕ) → IsCut text count [] → HasCharacters text count
cut_text text count cut = subst (λ (t : List ℕ). HasCharacters t count)
    (sym (cut.cut ∙ append-nil cut.front)) cut.characters

-- the reader is at an end exactly where it was fed a text that it takes
pub end_takes : (reader : Reader) (fed : List ℕ) → WasFed reader fed → IsAtEnd reader → TakesText reader fed
end_takes Any fed was end = tt
end_takes (Limited limit Bad) fed was end = absurd end
end_takes (Limited limit (Good count pending)) fed was end =
    (count, end.1, cut_text fed count (subst (λ (p : List ℕ). IsCut fed count p) end.0 was))

pub takes_end : (reader : Reader) (fed : List ℕ) → WasFed reader fed → TakesText reader fed → IsAtEnd reader
takes_end Any fed was takes = tt
takes_end (Limited limit Bad) fed was (count, few, are) = absurd (was count [] (text_cut fed count are))
takes_end (Limited limit (Good count pending)) fed was (n, few, are) =
    let same = same_cut fed count n pending [] was (text_cut fed n are) in
    (same.1, omega (arith, same.0, few))

-- nothing was read yet
pub nothing_read : StandsFor (Good 0 []) []
nothing_read = text_cut [] 0 (record { characters = []; each = All-nil IsCharacter; counted = refl; joined = refl })

-- no byte, one byte, and bytes in two parts
pub reads_none : (state : State) → ReadsOn state state []
reads_none state = record {
  stands = λ text s. subst (StandsFor state) (sym (append-nil text)) s;
  room = λ more r. let sum : length {A = ℕ} [] + more ≡ more = omega arith in subst (RoomFor state) sum r;
  few = λ most low. let sum : most ≡ most + length {A = ℕ} [] = omega arith in subst (λ (n : ℕ). UpTo n state) sum low;
}

pub reads_byte : (old new : State) (byte : ℕ) → StepsTo old byte new → ReadsOn old new (byte ∷ [])
reads_byte old new byte step = record {
  stands = λ text s. step_stands old new byte text step s;
  room = λ more r.
      let sum : length (byte ∷ []) + more ≡ suc more = omega arith in
      step_room old new byte more step (subst (RoomFor old) sum r);
  few = λ most low. step_up_to old new byte most step low;
}

pub reads_append : (a b c : State) (xs ys : List ℕ) → ReadsOn a b xs → ReadsOn b c ys → ReadsOn a c (xs ++ ys)
reads_append a b c xs ys first second =
    let size = length-append xs ys in
    record {
      stands = λ text s. subst (StandsFor c) (append_assoc text xs ys)
          (second.stands (text ++ xs) (first.stands text s));
      room = λ more r.
          let sum : length (xs ++ ys) + more ≡ length xs + (length ys + more) = omega (arith, size) in
          second.room more (first.room (length ys + more) (subst (RoomFor a) sum r));
      few = λ most low.
          let sum : most + length xs + length ys ≡ most + length (xs ++ ys) = omega (arith, size) in
          subst (λ (n : ℕ). UpTo n c) sum (second.few (most + length xs) (first.few most low));
    }

-- one byte more of a piece
pub reads_along : (first old new : State) (byte i : ℕ) (bytes : List ℕ) → StepsTo old byte new
    → byte ≡ get_or bytes i 0 → i < length bytes → ReadsOn first old (take i bytes)
    → ReadsOn first new (take (i + 1) bytes)
reads_along first old new byte i bytes step is below reads =
    let more : take i bytes ++ byte ∷ [] ≡ take (i + 1) bytes = rw is (sym (take_more bytes i 0 below)) in
    subst (ReadsOn first new) more
    (reads_append first old new (take i bytes) (byte ∷ []) reads (reads_byte old new byte step))

-- a part more of it
pub reads_part : (first old new : State) (i n : ℕ) (bytes part : List ℕ) → ReadsOn first old (take i bytes)
    → ReadsOn old new part → part ≡ take n (drop i bytes) → ReadsOn first new (take (i + n) bytes)
reads_part first old new i n bytes part reads more is =
    subst (ReadsOn first new) (ap (λ (t : List ℕ). take i bytes ++ t) is ∙ sym (take-add i n bytes))
    (reads_append first old new (take i bytes) part reads more)

-- whole characters
pub reads_characters : (count n : ℕ) (bytes : List ℕ) → HasCharacters bytes n → n ≤ length bytes
    → ReadsOn (Good count []) (Good (count + n) []) bytes
reads_characters count n bytes are few = record {
  stands = λ text cut. text_cut (text ++ bytes) (count + n) (characters_append text bytes count n
      (cut_text text count cut) are);
  room = λ more r. omega (arith, r, few);
  few = λ most low. omega (arith, low, few);
}

pub counts_up_to : (most limit : ℕ) (state : State) → CountsUpTo most (Limited limit state) → UpTo most state
counts_up_to most limit Bad low = tt
counts_up_to most limit (Good count pending) low = low

pub up_to_counts : (most limit : ℕ) (state : State) → UpTo most state → CountsUpTo most (Limited limit state)
up_to_counts most limit Bad low = tt
up_to_counts most limit (Good count pending) low = low

-- the characters of a piece are counted
pub counts_view : (most n : ℕ) (limit : Option ℕ) (old new : Progress)
    → ((m : ℕ) → UpTo m (state_of old) → UpTo (m + n) (state_of new))
    → CountsUpTo most (reader_of limit old) → CountsUpTo (most + n) (reader_of limit new)
counts_view most n None old new few low = tt
counts_view most n (Some limit) old new few low = up_to_counts (most + n) limit (state_of new)
    (few most (counts_up_to most limit (state_of old) low))

-- so many bytes more can be read where the number of characters is bounded
pub can_feed : (most more : ℕ) (reader : Reader) → CountsUpTo most reader → most + more ≤ 8589934591
    → CanFeed reader more
can_feed most more Any low room = tt
can_feed most more (Limited limit Bad) low room = tt
can_feed most more (Limited limit (Good count pending)) low room = omega arith
