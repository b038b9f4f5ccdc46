-- The columns of a key, one after the other.
use Rattle.std.proofs.Common.{◌≡◌, ℕ, ◌+◌, ◌-◌, ◌<◌, ◌≤◌, Bool, true, false, List, [], ◌∷◌, ◌++◌, length, take, drop}
use Rattle.std.proofs.Common.{get_or, All, Option, Some, None, refl, sym, ap, ◌∙◌, subst, sum_by, arith}
use Rattle.std.specs.List.{cons_option}
use Rattle.std.proofs.lemmas.List.{get_or-drop, get_or_at, length-drop, take_more, drop_more, take-append-drop}
use Rattle.std.proofs.lemmas.List.{take_all, length-append}
use Rattle.std.proofs.lemmas.List.Elements.{All-nil, All-push, filter_map-append}
use Rattle.std.proofs.lemmas.List.Sums.{sum_by-append}
use Rattle.std.proofs.lemmas.Slice.Zip.{all_zipped_more}
use Rattle.column_values.specs.Types.{greatest_length}
use Rattle.schema_text.specs.declared.table.Format.{Format}
use Rattle.schema_text.specs.declared.table.Column.{Column}
use Rattle.schema_text.specs.TableDef.{TableDef}
use Rattle.schema_text.specs.Grammar.{FitsKey}
use Rattle.schema_text.specs.Refusals.{Line, column_named, columns_named, HasKey}
use Rattle.schema_text.specs.Cuts.{MayJoin, MakesKey, IsKeyStep, IsPlaceOf, ArePlacesOf}

-- the words from a place on, up to another
abbrev pub keys_between : Line → ℕ → ℕ → Line
keys_between line from i = take (i - from) (drop from line)

place_of : (line : Line) (from i : ℕ) → from ≤ i → get_or (drop from line) (i - from) [] ≡ get_or line i []
place_of line from i low = get_or-drop from line (i - from) []
    ∙ ap (λ k. get_or line k []) (let e : from + (i - from) ≡ i = omega arith in e)

pub keys_begun : (line : Line) (from : ℕ) → keys_between line from from ≡ []
keys_begun line from = ap (λ n. take n (drop from line)) (let e : from - from ≡ 0 = omega arith in e)

pub keys_more : (line : Line) (from i : ℕ) → from ≤ i → i < length line
    → keys_between line from (i + 1) ≡ keys_between line from i ++ get_or line i [] ∷ []
keys_more line from i low high =
    let next : i + 1 - from ≡ i - from + 1 = omega arith in
    let within : i - from < length (drop from line) = omega (arith, length-drop from line) in
    ap (λ n. take n (drop from line)) next ∙ take_more (drop from line) (i - from) [] within
    ∙ ap (λ w. keys_between line from i ++ w ∷ []) (place_of line from i low)

pub keys_ended : (line : Line) (from i : ℕ) → length line ≤ i → keys_between line from i ≡ drop from line
keys_ended line from i past = take_all (i - from) (drop from line) (omega (arith, length-drop from line))

-- all keys, apart at one of them
keys_apart : (line : Line) (from i : ℕ) → from ≤ i → i < length line
    → drop from line ≡ keys_between line from i ++ get_or line i [] ∷ drop (i - from + 1) (drop from line)
keys_apart line from i low high =
    let within : i - from < length (drop from line) = omega (arith, length-drop from line) in
    sym (take-append-drop (i - from) (drop from line))
    ∙ ap (λ rest. keys_between line from i ++ rest) (drop_more (drop from line) (i - from) [] within)
    ∙ ap (λ w. keys_between line from i ++ w ∷ drop (i - from + 1) (drop from line)) (place_of line from i low)

abbrev pub so_far : List Column → Line → ℕ → ℕ → List Column
so_far columns line from i = columns_named columns (keys_between line from i)

named_more : (columns : List Column) (line : Line) (from i : ℕ) (o : Option Column) → from ≤ i → i < length line
    → o ≡ column_named columns (get_or line i [])
    → so_far columns line from (i + 1) ≡ so_far columns line from i ++ cons_option o []
named_more columns line from i o low high e =
    ap (columns_named columns) (keys_more line from i low high)
    ∙ filter_map-append (column_named columns) (keys_between line from i) (get_or line i [] ∷ [])
    ∙ ap (λ (p : Option Column). so_far columns line from i ++ cons_option p []) (sym e)

named_apart : (columns : List Column) (line : Line) (from i : ℕ) (c : Column) → from ≤ i → i < length line
    → Some c ≡ column_named columns (get_or line i [])
    → columns_named columns (drop from line) ≡ so_far columns line from i
    ++ c ∷ columns_named columns (drop (i - from + 1) (drop from line))
named_apart columns line from i c low high e =
    let rest = drop (i - from + 1) (drop from line) in
    ap (columns_named columns) (keys_apart line from i low high)
    ∙ filter_map-append (column_named columns) (keys_between line from i) (get_or line i [] ∷ rest)
    ∙ ap (λ (p : Option Column). so_far columns line from i ++ cons_option p (columns_named columns rest)) (sym e)

abbrev long_of : Column → ℕ
long_of c = greatest_length c.kind

-- the columns so far make a key of this length
pub record KeySoFar (format : Format) (clustered : Bool) (columns : List Column) (total : ℕ) : Type 0 where
  pub each : All (MayJoin format clustered) columns
  pub sum : total ≡ sum_by (λ (c : Column). greatest_length c.kind) columns
  pub few : total ≤ 3072

pub key_begun : (format : Format) (clustered : Bool) (columns : List Column) (line : Line) (from : ℕ)
    → KeySoFar format clustered (so_far columns line from from) 0
key_begun format clustered columns line from =
    rw (keys_begun line from) (record { each = All-nil (MayJoin format clustered); sum = refl; few = omega arith })

pub key_more : (format : Format) (clustered : Bool) (columns : List Column) (line : Line) (from i total longer : ℕ)
    (c : Column) → from ≤ i → i < length line → column_named columns (get_or line i []) ≡ Some c
    → KeySoFar format clustered (so_far columns line from i) total → IsKeyStep format clustered total c (Some longer)
    → KeySoFar format clustered (so_far columns line from (i + 1)) longer
key_more format clustered columns line from i total longer c low high e h step =
    let cs = so_far columns line from i in
    rw (named_more columns line from i (Some c) low high (sym e)) (record {
      each = All-push (MayJoin format clustered) cs c h.each step.0;
      sum = step.1 ∙ omega (arith, h.sum, sum_by-append long_of cs (c ∷ []));
      few = step.2;
    })

not_apart : (format : Format) (clustered : Bool) (before rest : List Column) (c : Column) (total : ℕ)
    → total ≡ sum_by (λ (c : Column). greatest_length c.kind) before
    → (MayJoin format clustered c × (total + greatest_length c.kind ≤ 3072) → ⊥)
    → MakesKey format clustered (before ++ c ∷ rest) → ⊥
not_apart format clustered before rest c total sum bad makes =
    let here : get_or (before ++ c ∷ rest) (length before) c ≡ c = get_or_at before c rest c (length before) refl in
    let joins = subst (MayJoin format clustered) here
    (makes.each (length before) c (omega (arith, length-append before (c ∷ rest)))) in
    bad (
      joins,
      omega (
        arith,
        sum,
        makes.total,
        sum_by-append long_of before (c ∷ rest),
        sum_by-append long_of
            (c ∷ []) rest,
      ),
    )

pub key_not : (format : Format) (clustered : Bool) (columns : List Column) (line : Line) (from i total : ℕ)
    (c : Column) → from ≤ i → i < length line → column_named columns (get_or line i []) ≡ Some c
    → KeySoFar format clustered (so_far columns line from i) total → IsKeyStep format clustered total c None
    → MakesKey format clustered (columns_named columns (drop from line)) → ⊥
key_not format clustered columns line from i total c low high e h step makes =
    not_apart format clustered (so_far columns line from i) _ c total h.sum step
    (subst (MakesKey format clustered) (named_apart columns line from i c low high (sym e)) makes)

pub key_made : (format : Format) (clustered : Bool) (columns : List Column) (line : Line) (from i total : ℕ)
    → length line ≤ i → KeySoFar format clustered (so_far columns line from i) total
    → MakesKey format clustered (columns_named columns (drop from line))
key_made format clustered columns line from i total past h =
    let all = keys_ended line from i past in
    subst (λ (keys : Line). MakesKey format clustered (columns_named columns keys)) all (record {
      each = h.each;
      total = omega (arith, h.sum, h.few);
    })

-- the word at a place is among those from an earlier one on
pub key_known : (P : List ℕ → Type 0) (line : Line) (from i : ℕ) (w : List ℕ) → from ≤ i → i < length line
    → w ≡ get_or line i [] → All P (drop from line) → P w
key_known P line from i w low high e all =
    subst P (sym e) (subst P (place_of line from i low) (all (i - from) [] (omega (arith, length-drop from line))))

pub places_more : (columns : List Column) (line : Line) (from i : ℕ) (places : List ℕ) (w : List ℕ) (place : ℕ)
    → from ≤ i → i < length line → w ≡ get_or line i [] → ArePlacesOf columns (keys_between line from i) places
    → IsPlaceOf columns w place → ArePlacesOf columns (keys_between line from (i + 1)) (places ++ place ∷ [])
places_more columns line from i places w place low high e h p =
    rw (keys_more line from i low high) (all_zipped_more (IsPlaceOf columns) (keys_between line from i) places
    (get_or line i []) place h (subst (λ v. IsPlaceOf columns v place) e p))

-- the key of the next index
split_joins : (format : Format) (b : Bool) (cs : List Column) → MakesKey format b cs
    → FitsKey format cs × (b ≡ true → All (λ (c : Column). c.nullable ≡ false) cs)
split_joins format b cs h = (
  record {
    short_kinds = λ k d below. (h.each k d below).short_kind;
    total = h.total;
    each = λ compact k d below. (h.each k d below).each compact;
  },
  λ first k d below. (h.each k d below).not_null first,
)

join_parts : (format : Format) (b : Bool) (cs : List Column) → FitsKey format cs
    → (b ≡ true → All (λ (c : Column). c.nullable ≡ false) cs) → MakesKey format b cs
join_parts format b cs fits free = record {
  each = λ k d below. record {
    short_kind = fits.short_kinds k d below;
    each = λ compact. fits.each compact k d below;
    not_null = λ first. free first k d below;
  };
  total = fits.total;
}

pub key_of_part : (t : TableDef) (keys : Line) (format : Format) (b : Bool) (columns : List Column)
    → format ≡ t.format → columns ≡ t.columns → (b ≡ true → length t.indexes ≡ 0) → (length t.indexes ≡ 0 → b ≡ true)
    → (MakesKey format b (columns_named columns keys) → HasKey t keys) × (HasKey t keys
    → MakesKey format b (columns_named columns keys))
key_of_part t keys format b columns f e to from = rw (f, e) (
  λ makes. let parts = split_joins t.format b (columns_named t.columns keys) makes in
      (parts.0, λ none. parts.1 (from none)),
  λ has. join_parts t.format b (columns_named t.columns keys) has.0 (λ first. has.1 (to first)),
)
