-- Bytes of which each may follow the three before it, up to where a character ends, are characters.
use Rattle.std.proofs.Common.{◌≡◌, ℕ, zero, suc, ◌<◌, ◌≤◌, true, false, cond, List, [], ◌∷◌, ◌++◌, length, take}
use Rattle.std.proofs.Common.{slice_index, refl, sym, ap, ◌∙◌, inl, inr, arith}
use Rattle.std.specs.List.{count_by}
use Rattle.std.proofs.lemmas.List.Sums.{sum_by-cons}
use Rattle.std.proofs.lemmas.Bool.{cases_lt, cond-true, cond-false, cases_eq}
use Rattle.std.proofs.lemmas.Bool.Decides.{nat_tests}
use Rattle.std.proofs.lemmas.List.Elements.{All-nil, All-cons}
use Rattle.column_values.specs.Characters.{IsFurther, IsStartOfThree, IsStartOfFour, IsCharacter, HasCharacters}
use Rattle.column_values.specs.Utf8Blocks.{GoesOn, IsClosed, MayFollow, FollowsAt, AllFollow, is_start, EndsAt}

-- each byte of a list may follow the three before it
abbrev Follow : ℕ → ℕ → ℕ → List ℕ → Type 0
Follow x y z [] = Unit {0}
Follow x y z (b ∷ bs) = MayFollow x y z b × Follow y z b bs

-- and each character is whole at its end
abbrev IsWhole : ℕ → ℕ → ℕ → List ℕ → Type 0
IsWhole x y z [] = IsClosed x y z
IsWhole x y z (b ∷ bs) = IsWhole y z b bs

-- how many characters begin
abbrev pub starts : List ℕ → ℕ
starts bytes = count_by is_start bytes

first_starts : (b : ℕ) (bs : List ℕ) → is_start b ≡ true → starts (b ∷ bs) ≡ suc (starts bs)
first_starts b bs is =
    let sum = sum_by-cons (λ (x : ℕ). cond (is_start x) 1 0) b bs in
    let one = cond-true {A = ℕ} (is_start b) 1 0 is in
    omega (arith, sum, one)

further_starts : (b : ℕ) (bs : List ℕ) → IsFurther b → starts (b ∷ bs) ≡ starts bs
further_starts b bs is =
    let no : is_start b ≡ false = grind (arith, nat_tests) in
    let sum = sum_by-cons (λ (x : ℕ). cond (is_start x) 1 0) b bs in
    let none = cond-false {A = ℕ} (is_start b) 1 0 no in
    omega (arith, sum, none)

low_start : (b : ℕ) → b < 0x80 → is_start b ≡ true
low_start b low = grind (arith, nat_tests)

high_start : (b : ℕ) → 0xC2 ≤ b → is_start b ≡ true
high_start b high = grind (arith, nat_tests)

-- one character more at the front
one_more : (c bs : List ℕ) (n count : ℕ) → IsCharacter c → HasCharacters bs n → count ≡ suc n
    → HasCharacters (c ++ bs) count
one_more c bs n count is are e = record {
  characters = c ∷ are.characters;
  each = All-cons IsCharacter c are.characters is are.each;
  counted = ap suc are.counted ∙ sym e;
  joined = ap (λ (t : List ℕ). c ++ t) are.joined;
}

-- a byte where each character is whole begins one
not_further : (x y z b : ℕ) → IsClosed x y z → MayFollow x y z b → 0x80 ≤ b → (0xC2 ≤ b) × (b ≤ 0xF4)
not_further x y z b closed may high = elim may.known [
  | inl low ↦ elim (may.only (omega arith, omega arith)) [
    | inl h ↦ absurd (omega (arith, closed.two, h))
    | inr r ↦ elim r [
      | inl h ↦ absurd (omega (arith, closed.three, h))
      | inr h ↦ absurd (omega (arith, closed.four, h))
    ]
  ]
  | inr is ↦ is
]

-- characters that follow closed ones, in so many bytes at the most
abbrev Characters : ℕ → Type 0
Characters n =
    (x y z : ℕ) (bs : List ℕ) → length bs ≤ n → IsClosed x y z → Follow x y z bs → IsWhole x y z bs
    → HasCharacters bs (starts bs)

of_two : (n : ℕ) → Characters n → (x y z a : ℕ) (bs : List ℕ) → length bs ≤ n → 0xC2 ≤ a → a < 0xE0
    → IsClosed x y z → Follow y z a bs → IsWhole y z a bs → HasCharacters (a ∷ bs) (starts (a ∷ bs))
of_two n more x y z a [] size low high closed follow whole = absurd (omega (arith, whole.two, low))
of_two n more x y z a (b ∷ bs) size low high closed follow whole =
    let further : IsFurther b = follow.0.further (inl low) in
    one_more (a ∷ b ∷ []) bs (starts bs) (starts (a ∷ b ∷ bs)) ((low, omega arith), further)
    (more z a b bs (omega (arith, size)) (record {
      four = omega (arith, closed.two);
      three = high;
      two = omega (arith, further);
    }) follow.1 whole)
    (first_starts a (b ∷ bs) (high_start a low) ∙ ap suc (further_starts b bs further))

of_three : (n : ℕ) → Characters n → (x y z a : ℕ) (bs : List ℕ) → length bs ≤ n → 0xE0 ≤ a → a < 0xF0
    → IsClosed x y z → Follow y z a bs → IsWhole y z a bs → HasCharacters (a ∷ bs) (starts (a ∷ bs))
of_three n more x y z a [] size low high closed follow whole = absurd (omega (arith, whole.two, low))
of_three n more x y z a (b ∷ []) size low high closed follow whole = absurd (omega (arith, whole.three, low))
of_three n more x y z a (b ∷ c ∷ bs) size low high closed follow whole =
    let second : IsFurther b = follow.0.further (inl (omega (arith, low))) in
    let third : IsFurther c = follow.1.0.further (inr (inl low)) in
    let start : IsStartOfThree a b = elim (cases_eq a 0xE0) [
      | inl e ↦ inl (e, (follow.0.of_three e, second.1))
      | inr other ↦ inr ((omega (arith, low, other), omega (arith, high)), second)
    ] in
    one_more (a ∷ b ∷ c ∷ []) bs (starts bs) (starts (a ∷ b ∷ c ∷ bs)) (start, third)
    (more a b c bs (omega (arith, size)) (record {
      four = high;
      three = omega (arith, second);
      two = omega (arith, third);
    }) follow.1.1 whole)
    (first_starts a (b ∷ c ∷ bs) (high_start a (omega (arith, low)))
    ∙ ap suc (further_starts b (c ∷ bs) second ∙ further_starts c bs third))

of_four : (n : ℕ) → Characters n → (x y z a : ℕ) (bs : List ℕ) → length bs ≤ n → 0xF0 ≤ a → a ≤ 0xF4
    → IsClosed x y z → Follow y z a bs → IsWhole y z a bs → HasCharacters (a ∷ bs) (starts (a ∷ bs))
of_four n more x y z a [] size low high closed follow whole = absurd (omega (arith, whole.two, low))
of_four n more x y z a (b ∷ []) size low high closed follow whole = absurd (omega (arith, whole.three, low))
of_four n more x y z a (b ∷ c ∷ []) size low high closed follow whole = absurd (omega (arith, whole.four, low))
of_four n more x y z a (b ∷ c ∷ d ∷ bs) size low high closed follow whole =
    let second : IsFurther b = follow.0.further (inl (omega (arith, low))) in
    let third : IsFurther c = follow.1.0.further (inr (inl (omega (arith, low)))) in
    let fourth : IsFurther d = follow.1.1.0.further (inr (inr low)) in
    let start : IsStartOfFour a b = elim (cases_eq a 0xF0) [
      | inl e ↦ inl (e, (follow.0.of_four e, second.1))
      | inr other ↦ elim (cases_eq a 0xF4) [
        | inl e ↦ inr (inr (e, (second.0, follow.0.of_last e)))
        | inr less ↦ inr (inl ((omega (arith, low, other), omega (arith, high, less)), second))
      ]
    ] in
    one_more (a ∷ b ∷ c ∷ d ∷ []) bs (starts bs) (starts (a ∷ b ∷ c ∷ d ∷ bs)) (start, third, fourth)
    (more b c d bs (omega (arith, size)) (record {
      four = omega (arith, second);
      three = omega (arith, third);
      two = omega (arith, fourth);
    }) follow.1.1.1 whole)
    (first_starts a (b ∷ c ∷ d ∷ bs) (high_start a (omega (arith, low)))
    ∙ ap suc (further_starts b (c ∷ d ∷ bs) second ∙ further_starts c (d ∷ bs) third ∙ further_starts d bs fourth))

are_characters : (n : ℕ) → Characters n
are_characters n x y z [] size closed follow whole =
    record { characters = []; each = All-nil IsCharacter; counted = refl; joined = refl }
are_characters zero x y z (a ∷ bs) size closed follow whole = absurd (omega (arith, size))
are_characters (suc n) x y z (a ∷ bs) size closed follow whole = elim (cases_lt a 0x80) [
  | inl low ↦ one_more (a ∷ []) bs (starts bs) (starts (a ∷ bs)) (omega (arith, low))
      (are_characters n y z a bs (omega (arith, size)) (record {
        four = omega (arith, closed.three);
        three = omega (arith, closed.two);
        two = omega (arith, low);
      }) follow.1 whole) (first_starts a bs (low_start a low))
  | inr high ↦
      let is = not_further x y z a closed follow.0 high in
      elim (cases_lt a 0xE0) [
        | inl two ↦ of_two n (are_characters n) x y z a bs (omega (arith, size)) is.0 two closed follow.1 whole
        | inr up ↦ elim (cases_lt a 0xF0) [
          | inl three ↦ of_three n (are_characters n) x y z a bs (omega (arith, size)) up three closed follow.1 whole
          | inr high ↦ of_four n (are_characters n) x y z a bs (omega (arith, size)) high is.1 closed follow.1 whole
        ]
      ]
]

-- bytes one after another, place by place
follow_all : (x y z : ℕ) (bs : List ℕ) → ((i : ℕ) → i < length bs → FollowsAt (x ∷ y ∷ z ∷ bs) i) → Follow x y z bs
follow_all x y z [] may = tt
follow_all x y z (b ∷ bs) may =
    (may 0 (omega arith), follow_all y z b bs (λ i below. may (suc i) (omega (arith, below))))

-- a front of them
follow_front : (x y z n : ℕ) (bs : List ℕ) → Follow x y z bs → Follow x y z (take n bs)
follow_front x y z zero bs follow = tt
follow_front x y z (suc n) [] follow = tt
follow_front x y z (suc n) (b ∷ bs) follow = (follow.0, follow_front y z b n bs follow.1)

-- each character is whole where the three bytes before say so
whole_front : (x y z n : ℕ) (bs : List ℕ) → n ≤ length bs
    → IsClosed (slice_index (x ∷ y ∷ z ∷ bs) n) (slice_index (x ∷ y ∷ z ∷ bs) (suc n))
    (slice_index (x ∷ y ∷ z ∷ bs) (suc (suc n)))
    → IsWhole x y z (take n bs)
whole_front x y z zero bs within closed = closed
whole_front x y z (suc n) [] within closed = absurd (omega (arith, within))
whole_front x y z (suc n) (b ∷ bs) within closed = whole_front y z b n bs (omega (arith, within)) closed

-- before a byte that begins a character each one is whole
closed_before : (x y z b : ℕ) → MayFollow x y z b → 0xC0 ≤ b → IsClosed x y z
closed_before x y z b may high =
    let none : ¬ (GoesOn x y z) = λ on. omega (arith, may.further on, high) in
    record {
      four = elim (cases_lt x 0xF0) [ inl h ↦ h | inr h ↦ absurd (none (inr (inr h))) ];
      three = elim (cases_lt y 0xE0) [ inl h ↦ h | inr h ↦ absurd (none (inr (inl h))) ];
      two = elim (cases_lt z 0xC2) [ inl h ↦ h | inr h ↦ absurd (none (inl h)) ];
    }

pub front_characters : (bytes : List ℕ) (at : ℕ) → AllFollow bytes → EndsAt bytes at
    → HasCharacters (take at bytes) (starts (take at bytes))
front_characters bytes at all ends =
    let fresh : IsClosed 0 0 0 = record { four = omega arith; three = omega arith; two = omega arith } in
    let follow = follow_front 0 0 0 at bytes (follow_all 0 0 0 bytes all) in
    elim ends [
      | inl h ↦ are_characters (length (take at bytes)) 0 0 0 (take at bytes) (omega arith) fresh follow
          (whole_front 0 0 0 at bytes (omega (arith, h.0))
          (closed_before _ _ _ _ (all at h.0) h.1))
      | inr h ↦ are_characters (length (take at bytes)) 0 0 0 (take at bytes) (omega arith) fresh follow
          (whole_front 0 0 0 at bytes (omega (arith, h.0)) h.1)
    ]
