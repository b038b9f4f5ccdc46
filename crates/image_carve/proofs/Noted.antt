-- Lists of LSNs, and their numbers.
use Rattle.std.proofs.Common.{◌≡◌, ◌≢◌, ◌<◌, ◌≤◌, ◌+◌, ◌⊎◌, ℕ, zero, suc, max, List, [], ◌∷◌, ◌++◌, length, take}
use Rattle.std.proofs.Common.{get_or, Bool, true, false, cond, set}
use Rattle.std.proofs.Common.{slice_index_or, Contains, Option, Some, None, refl, sym, ap, ◌∙◌, subst}
use Rattle.std.proofs.Common.{inl, inr, arith}
use Rattle.std.proofs.lemmas.Bool.{cases_lt}
use Rattle.std.proofs.lemmas.List.{get_or-set_same, get_or-set_other, get_or_past, length-set, length_push}
use Rattle.std.proofs.lemmas.List.{nil_from_length, take_all, take_more, append-nil}
use Rattle.std.proofs.lemmas.List.Elements.{All-nil, All-push, All-weaker, Contains-append_left, Contains-push}
use Rattle.std.proofs.lemmas.List.Elements.{filter_map-append}
use Rattle.image_carve.specs.Carved.{known, AreNumbersOf}
use Rattle.image_carve.specs.declared.taken.Taken.{Taken}
use Rattle.image_carve.specs.Carving.{marked, IsTally, Grows, Notes}

-- the LSNs that have marks
length_marked : (marks : List Bool) (lsns : List ℕ) → length marks ≤ length lsns
    → length (marked marks lsns) ≡ length marks
length_marked [] lsns room = refl
length_marked (mark ∷ marks) [] room = absurd (omega (arith, room))
length_marked (mark ∷ marks) (lsn ∷ lsns) room = ap suc (length_marked marks lsns (omega (arith, room)))

pub length_view : (view : List (Option ℕ)) (marks : List Bool) (lsns : List ℕ) → marked marks lsns ≡ view
    → length marks ≤ length lsns → length view ≡ length marks
length_view view marks lsns same room = ap length (sym same) ∙ length_marked marks lsns room

marked_at : (marks : List Bool) (lsns : List ℕ) (n : ℕ) → length marks ≤ length lsns
    → slice_index_or (marked marks lsns) n None
    ≡ cond (slice_index_or marks n false) (Some (slice_index_or lsns n 0)) None
marked_at [] lsns zero room = refl
marked_at [] lsns (suc n) room = refl
marked_at (mark ∷ marks) [] n room = absurd (omega (arith, room))
marked_at (mark ∷ marks) (lsn ∷ lsns) zero room = refl
marked_at (mark ∷ marks) (lsn ∷ lsns) (suc n) room = marked_at marks lsns n (omega (arith, room))

marked_set : (marks : List Bool) (lsns : List ℕ) (n lsn : ℕ) → length marks ≤ length lsns
    → marked (set marks n true) (set lsns n lsn) ≡ set (marked marks lsns) n (Some lsn)
marked_set [] lsns n lsn room = refl
marked_set (mark ∷ marks) [] n lsn room = absurd (omega (arith, room))
marked_set (mark ∷ marks) (old ∷ lsns) zero lsn room = refl
marked_set (mark ∷ marks) (old ∷ lsns) (suc n) lsn room =
    ap (λ (noted : List (Option ℕ)). cond mark (Some old) None ∷ noted)
    (marked_set marks lsns n lsn (omega (arith, room)))

-- lists that are longer, with marks that are none
pub record AreLonger (marks more : List Bool) (lsns wide : List ℕ) (count : ℕ) : Type 0 where
  pub room : length marks ≤ length lsns
  pub few : length marks < count
  pub size : length more ≡ count
  pub same_size : length wide ≡ count
  pub marks_same : (k : ℕ) → k < count → k < length marks → slice_index_or more k false ≡ slice_index_or marks k false
  pub no_marks : (k : ℕ) → length marks ≤ k → k < count → slice_index_or more k false ≡ false
  pub same : (k : ℕ) → k < count → k < length lsns → slice_index_or wide k 0 ≡ slice_index_or lsns k 0

longer_at : (marks more : List Bool) (lsns wide : List ℕ) (count m : ℕ) → AreLonger marks more lsns wide count
    → cond (slice_index_or more m false) (Some (slice_index_or wide m 0)) None
    ≡ cond (slice_index_or marks m false) (Some (slice_index_or lsns m 0)) None
longer_at marks more lsns wide count m longer = elim (cases_lt m (length marks)) [
  | inl below ↦
      let within : m < count = omega (arith, below, longer.few) in
      ap (λ (mark : Bool). cond mark (Some (slice_index_or wide m 0)) None) (longer.marks_same m within below)
      ∙ ap (λ (lsn : ℕ). cond (slice_index_or marks m false) (Some lsn) None)
      (longer.same m within (omega (arith, below, longer.room)))
  | inr past ↦
      let before : slice_index_or marks m false ≡ false = get_or_past marks m false past in
      let after : slice_index_or more m false ≡ false = elim (cases_lt m count) [
        | inl within ↦ longer.no_marks m past within
        | inr beyond ↦ get_or_past more m false (omega (arith, beyond, longer.size))
      ] in
      ap (λ (mark : Bool). cond mark (Some (slice_index_or wide m 0)) None) after
      ∙ sym (ap (λ (mark : Bool). cond mark (Some (slice_index_or lsns m 0)) None) before)
]

pub grows_longer : (marks more : List Bool) (lsns wide : List ℕ) (n : ℕ) → AreLonger marks more lsns wide (n + 1)
    → Grows (marked marks lsns) (marked more wide) n
grows_longer marks more lsns wide n longer =
    let room : length more ≤ length wide = omega (arith, longer.size, longer.same_size) in
    record {
      same = λ m. marked_at more wide m room ∙ longer_at marks more lsns wide (n + 1) m longer
          ∙ sym (marked_at marks lsns m longer.room);
      size = omega (arith, length_marked more wide room, length_marked marks lsns longer.room, longer.few, longer.size);
    }

pub grows_not : (marks : List Bool) (lsns : List ℕ) (n : ℕ) → length marks ≤ length lsns → n + 1 ≤ length marks
    → Grows (marked marks lsns) (marked marks lsns) n
grows_not marks lsns n room enough = record {
  same = λ m. refl;
  size = omega (arith, length_marked marks lsns room, enough);
}

-- the LSN is put at its place
notes_by_set : (old grown : List (Option ℕ)) (n lsn : ℕ) → Grows old grown n
    → Notes old (set grown n (Some lsn)) n lsn
notes_by_set old grown n lsn grows = record {
  here = get_or-set_same grown n (Some lsn) None (omega (arith, grows.size));
  others = λ m other. get_or-set_other grown n m (Some lsn) None other ∙ grows.same m;
  size = length-set grown n (Some lsn) ∙ grows.size;
}

-- an LSN and its mark are put at their place
pub notes_marked : (old : List (Option ℕ)) (marks : List Bool) (lsns : List ℕ) (n lsn : ℕ)
    → length marks ≤ length lsns → Grows old (marked marks lsns) n
    → Notes old (marked (set marks n true) (set lsns n lsn)) n lsn
notes_marked old marks lsns n lsn room grows =
    subst (λ (new : List (Option ℕ)). Notes old new n lsn) (sym (marked_set marks lsns n lsn room))
    (notes_by_set old (marked marks lsns) n lsn grows)

-- where no LSN is known there is none at any place
pub none_known : (lsns : List (Option ℕ)) (n : ℕ) → known lsns ≡ [] → slice_index_or lsns n None ≡ None
none_known [] n none = refl
none_known (None ∷ lsns) zero none = refl
none_known (None ∷ lsns) (suc n) none = none_known lsns n none
none_known (Some lsn ∷ lsns) n none = cc

pub some_known : (lsns : List (Option ℕ)) (n lsn : ℕ) → slice_index_or lsns n None ≡ Some lsn → known lsns ≢ []
some_known lsns n lsn is = λ none.
    let not : Some lsn ≡ None = sym is ∙ none_known lsns n none in cc

-- the greatest so far and one number more
greatest_more : (numbers : List ℕ) (lsn greatest : ℕ) → ((numbers ≡ []) × (greatest ≡ 0)) ⊎ Contains numbers greatest
    → Contains (numbers ++ lsn ∷ []) (max greatest lsn)
greatest_more numbers lsn greatest among =
    elim (cases_lt greatest lsn) [
      | inl above ↦ here (omega arith)
      | inr below ↦ elim among [
        | inl none ↦ let zero : greatest ≡ 0 = none.1 in here (omega arith)
        | inr is ↦
            let same : greatest ≡ max greatest lsn = omega arith in
            subst (Contains (numbers ++ lsn ∷ [])) same (Contains-append_left numbers (lsn ∷ []) greatest is)
      ]
    ]
  where
    here : lsn ≡ max greatest lsn → Contains (numbers ++ lsn ∷ []) (max greatest lsn)
    here same = subst (Contains (numbers ++ lsn ∷ [])) same (Contains-push numbers lsn)

tally_more : (numbers : List ℕ) (lsn count greatest : ℕ) → IsTally numbers count greatest
    → IsTally (numbers ++ lsn ∷ []) (count + 1) (max greatest lsn)
tally_more numbers lsn count greatest tally = record {
  counts = omega (arith, tally.counts, length_push numbers lsn);
  most = All-push (λ (m : ℕ). m ≤ max greatest lsn) numbers lsn
      (All-weaker (λ (m : ℕ). m ≤ greatest) (λ (m : ℕ). m ≤ max greatest lsn) (λ m most. omega arith) numbers
      tally.most)
      (omega arith);
  among = inr (greatest_more numbers lsn greatest tally.among);
}

pub tally_some : (lsns : List (Option ℕ)) (i lsn count greatest : ℕ) → i < length lsns
    → get_or lsns i None ≡ Some lsn → IsTally (known (take i lsns)) count greatest
    → IsTally (known (take (i + 1) lsns)) (count + 1) (max greatest lsn)
tally_some lsns i lsn count greatest below is tally =
    let more : known (take (i + 1) lsns) ≡ known (take i lsns) ++ known (get_or lsns i None ∷ []) =
    ap known (take_more lsns i None below)
    ∙ filter_map-append (λ (o : Option ℕ). o) (take i lsns) (get_or lsns i None ∷ []) in
    let all : known (take (i + 1) lsns) ≡ known (take i lsns) ++ lsn ∷ [] =
    more ∙ ap (λ (o : Option ℕ). known (take i lsns) ++ known (o ∷ [])) is in
    subst (λ (numbers : List ℕ). IsTally numbers (count + 1) (max greatest lsn)) (sym all)
    (tally_more (known (take i lsns)) lsn count greatest tally)

pub tally_past : (lsns : List (Option ℕ)) (i count greatest : ℕ) → i < length lsns → get_or lsns i None ≡ None
    → IsTally (known (take i lsns)) count greatest → IsTally (known (take (i + 1) lsns)) count greatest
tally_past lsns i count greatest below is tally =
    let more : known (take (i + 1) lsns) ≡ known (take i lsns) ++ known (get_or lsns i None ∷ []) =
    ap known (take_more lsns i None below)
    ∙ filter_map-append (λ (o : Option ℕ). o) (take i lsns) (get_or lsns i None ∷ []) in
    let all : known (take (i + 1) lsns) ≡ known (take i lsns) =
    more ∙ ap (λ (o : Option ℕ). known (take i lsns) ++ known (o ∷ [])) is ∙ append-nil (known (take i lsns)) in
    subst (λ (numbers : List ℕ). IsTally numbers count greatest) (sym all) tally

pub numbers_of_tally : (lsns : List (Option ℕ)) (taken : Taken) → IsTally (known lsns) taken.pages taken.newest
    → taken.pages ≢ 0 → taken.size ≡ length lsns → AreNumbersOf lsns taken
numbers_of_tally lsns taken tally some size = record {
  pages = tally.counts;
  size = size;
  newest = record {
    among = elim tally.among [
      | inl none ↦ absurd (some (tally.counts ∙ ap length none.0))
      | inr is ↦ is
    ];
    most = tally.most;
  };
}

pub tally_all : (lsns : List (Option ℕ)) (n count greatest : ℕ) → length lsns ≤ n
    → IsTally (known (take n lsns)) count greatest → IsTally (known lsns) count greatest
tally_all lsns n count greatest all tally =
    subst (λ (some : List (Option ℕ)). IsTally (known some) count greatest) (take_all n lsns all) tally

-- what is noted under a number, in the words of both lists
any_default : {X : Type 0} (xs : List X) (n : ℕ) (a b : X) → n < length xs
    → slice_index_or xs n a ≡ slice_index_or xs n b
any_default [] n a b below = absurd (omega (arith, below))
any_default (x ∷ xs) zero a b below = refl
any_default (x ∷ xs) (suc n) a b below = any_default xs n a b (omega (arith, below))

noted_at : (view : List (Option ℕ)) (marks : List Bool) (lsns : List ℕ) (n : ℕ) (mark : Bool)
    → marked marks lsns ≡ view → length marks ≤ length lsns → slice_index_or marks n false ≡ mark
    → slice_index_or view n None ≡ cond mark (Some (slice_index_or lsns n 0)) None
noted_at view marks lsns n mark same room is =
    ap (λ (v : List (Option ℕ)). slice_index_or v n None) (sym same)
    ∙ marked_at marks lsns n room
    ∙ ap (λ (m : Bool). cond m (Some (slice_index_or lsns n 0)) None) is

pub noted_some : (view : List (Option ℕ)) (marks : List Bool) (lsns : List ℕ) (n lsn : ℕ) (mark : Bool)
    → marked marks lsns ≡ view → length marks ≤ length lsns → n < length marks → mark ≡ slice_index_or marks n mark
    → mark ≡ true → lsn ≡ slice_index_or lsns n lsn → Some lsn ≡ slice_index_or view n None
noted_some view marks lsns n lsn mark same room below is set number =
    let there = noted_at view marks lsns n true same room (any_default marks n false mark below ∙ sym is ∙ set) in
    let within : n < length lsns = omega (arith, below, room) in
    sym (there ∙ ap Some (any_default lsns n 0 lsn within ∙ sym number))

pub noted_unset : (view : List (Option ℕ)) (marks : List Bool) (lsns : List ℕ) (n : ℕ) (mark : Bool)
    → marked marks lsns ≡ view → length marks ≤ length lsns → n < length marks → mark ≡ slice_index_or marks n mark
    → mark ≡ false → None ≡ slice_index_or view n None
noted_unset view marks lsns n mark same room below is unset =
    sym (noted_at view marks lsns n false same room (any_default marks n false mark below ∙ sym is ∙ unset))

pub noted_past : (view : List (Option ℕ)) (marks : List Bool) (lsns : List ℕ) (n : ℕ) → marked marks lsns ≡ view
    → length marks ≤ length lsns → length marks ≤ n → None ≡ slice_index_or view n None
noted_past view marks lsns n same room past =
    sym (noted_at view marks lsns n false same room (get_or_past marks n false past))
