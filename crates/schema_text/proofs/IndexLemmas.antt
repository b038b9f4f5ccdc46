-- The index that a line states, once its checks hold.
use Rattle.std.proofs.Common.{◌≡◌, ◌≢◌, ℕ, zero, suc, ◌<◌, ◌≤◌, Bool, true, false, List, [], ◌∷◌, ◌++◌, length, map}
use Rattle.std.proofs.Common.{drop, get_or, All, Option, Some, None, refl, sym, ap, ◌∙◌, subst, arith}
use Rattle.std.proofs.Common.{cond, ltb}
use Rattle.std.proofs.lemmas.List.{get_or_default}
use Rattle.std.proofs.Common.{◌^◌, IsTrue, not}
use Rattle.std.specs.Bool.{OnFalse}
use Rattle.std.proofs.lemmas.Bool.{false≢true}
use Rattle.std.proofs.lemmas.Fmt.{decimal_injective}
use Rattle.std.specs.Prelude.{Any, AllPairs, slice_get, bytes_eq, codes, decimal}
use Rattle.std.specs.List.{filter_map, cons_option, position_or_len}
use Rattle.std.proofs.lemmas.List.Folds.{find_at}
use Rattle.std.proofs.lemmas.List.Quantifiers.{position-Some}
use Rattle.std.proofs.lemmas.List.Elements.{All-nil, All-cons}
use Rattle.std.proofs.lemmas.Option.{slice_get-get_or}
use Rattle.std.proofs.lemmas.Slice.Eq.{bytes_eq-Decides}
use Rattle.schema_text.specs.declared.table.Column.{Column}
use Rattle.schema_text.specs.declared.table.IndexDef.{IndexDef}
use Rattle.schema_text.specs.TableDef.{TableDef, with_column, with_index}
use Rattle.schema_text.proofs.PartLemmas.{part_with_column, part_with_index, words_with_column, words_with_first}
use Rattle.schema_text.proofs.PartLemmas.{words_with_more}
use Rattle.schema_text.specs.Grammar.{IsName, column_words, clustered_words, index_words, schema_words}
use Rattle.schema_text.specs.Refusals.{AreLinesOf, Line, word, IndexLine, KeyChecks, IsNewRoot, column_named}
use Rattle.schema_text.specs.Refusals.{columns_named}
use Rattle.schema_text.specs.Parts.{IsPart, IsNextColumn, IsNextIndex}
use Rattle.schema_text.specs.Cuts.{IsPlaceOf, ArePlacesOf, IsIndexRead}

-- the column at a place that was found for a name
pub record IsFoundAt (columns : List Column) (name : List ℕ) (place : ℕ) : Type 0 where
  pub column : Column
  pub at : slice_get columns place ≡ Some column
  pub within : place < length columns
  pub named : column.name ≡ name

a_member : (columns : List Column) (place : ℕ) → place < length columns → Column
a_member [] place h = absurd (omega arith)
a_member (c ∷ columns) place h = c

pub found_at : (columns : List Column) (name : List ℕ) (place : ℕ) → IsPlaceOf columns name place
    → IsFoundAt columns name place
found_at columns name place h =
    let test : Column → Bool = λ c. bytes_eq c.name name in
    let within : place < length columns = found_below columns name place h in
    let d = a_member columns place within in
    let found = position-Some test columns place d h in
    record {
      column = get_or columns place d;
      at = slice_get-get_or columns place d within;
      within = within;
      named = (bytes_eq-Decides (get_or columns place d).name name).0 found.1;
    }
  where
    found_below : (columns : List Column) (name : List ℕ) (place : ℕ) → IsPlaceOf columns name place
        → place < length columns
    found_below [] name place h = absurd (cc)
    found_below (c ∷ columns) name place h = (position-Some (λ (c : Column). bytes_eq c.name name)
        (c ∷ columns) place c h).0

-- the first column of a name
first_named : (columns : List Column) (name : List ℕ) (place : ℕ) → IsPlaceOf columns name place
    → slice_get columns place ≡ column_named columns name
first_named columns name place h =
    let test : Column → Bool = λ c. bytes_eq c.name name in
    let same : position_or_len test columns
    ≡ place = position_is (position_or_len test columns) (length columns) place h in
    sym (find_at test columns ∙ ap (slice_get columns) same)
  where
    position_is : (p n place : ℕ) → (cond (ltb p n) (Some p) None) ≡ Some place → p ≡ place
    position_is p n place e = elim_cond (ltb p n) p place e
      where
        elim_cond : (b : Bool) (p place : ℕ) → cond b (Some p) None ≡ Some place → p ≡ place
        elim_cond true p place e = cc
        elim_cond false p place e = absurd (cc)

pub columns_of_places : (columns : List Column) (names : Line) (places : List ℕ) → ArePlacesOf columns names places
    → filter_map (slice_get columns) places ≡ columns_named columns names
columns_of_places columns [] [] h = refl
columns_of_places columns [] (p ∷ places) h = absurd h
columns_of_places columns (n ∷ names) [] h = absurd h
columns_of_places columns (n ∷ names) (p ∷ places) h =
    ap (λ (o : Option Column). cons_option o (filter_map (slice_get columns) places)) (first_named columns n p h.0)
    ∙ ap (cons_option (column_named columns n)) (columns_of_places columns names places h.1)

-- their names are those that were looked for
pub names_of_places : (columns : List Column) (names : Line) (places : List ℕ) → ArePlacesOf columns names places
    → map (λ (c : Column). c.name) (filter_map (slice_get columns) places) ≡ names
names_of_places columns [] [] h = refl
names_of_places columns [] (p ∷ places) h = absurd h
names_of_places columns (n ∷ names) [] h = absurd h
names_of_places columns (n ∷ names) (p ∷ places) h =
    let found = found_at columns n p h.0 in
    ap (λ (o : Option Column). map (λ (c : Column). c.name)
    (cons_option o (filter_map (slice_get columns) places))) found.at
    ∙ ap (λ first. first ∷ map (λ (c : Column). c.name) (filter_map (slice_get columns) places)) found.named
    ∙ ap (λ rest. n ∷ rest) (names_of_places columns names places h.1)

pub length_places : (columns : List Column) (names : Line) (places : List ℕ) → ArePlacesOf columns names places
    → length places ≡ length names
length_places columns [] [] h = refl
length_places columns [] (p ∷ places) h = absurd h
length_places columns (n ∷ names) [] h = absurd h
length_places columns (n ∷ names) (p ∷ places) h = ap (λ (k : ℕ). suc k) (length_places columns names places h.1)

known_places : (columns : List Column) (names : Line) (places : List ℕ) → ArePlacesOf columns names places
    → All (λ i. i < length columns) places
known_places columns [] [] h = All-nil (λ i. i < length columns)
known_places columns [] (p ∷ places) h = absurd h
known_places columns (n ∷ names) [] h = absurd h
known_places columns (n ∷ names) (p ∷ places) h =
    All-cons (λ i. i < length columns) p places (found_at columns n p h.0).within
    (known_places columns names places h.1)

pub place_at : (columns : List Column) (names : Line) (places : List ℕ) (k : ℕ) → ArePlacesOf columns names places
    → k < length places → IsPlaceOf columns (get_or names k []) (get_or places k 0)
place_at columns [] [] k h below = absurd (omega arith)
place_at columns [] (p ∷ places) k h below = absurd h
place_at columns (n ∷ names) [] k h below = absurd h
place_at columns (n ∷ names) (p ∷ places) zero h below = h.0
place_at columns (n ∷ names) (p ∷ places) (suc k) h below = place_at columns names places k h.1 (omega arith)

one_name : (columns : List Column) (a b : List ℕ) (p q : ℕ) → IsPlaceOf columns a p → IsPlaceOf columns b q → p ≡ q
    → a ≡ b
one_name columns a b p q hp hq e =
    let x = found_at columns a p hp in
    let y = found_at columns b q hq in
    let same : Some x.column ≡ Some y.column = sym x.at ∙ ap (slice_get columns) e ∙ y.at in
    let is : x.column ≡ y.column = cc in
    sym x.named ∙ ap (λ (c : Column). c.name) is ∙ y.named

distinct_places : (columns : List Column) (names : Line) (places : List ℕ) → ArePlacesOf columns names places
    → AllPairs (λ (a b : List ℕ). a ≢ b) names → AllPairs (λ (i j : ℕ). i ≢ j) places
distinct_places columns names places h differ = λ i j d before within same.
    let size = length_places columns names places h in
    let a = place_at columns names places i h (omega arith) in
    let b = place_at columns names places j h within in
    let e : get_or places i 0 ≡ get_or places j 0 = get_or_default places i 0 d (omega arith) ∙ same
    ∙ get_or_default places j d 0 within in
    differ i j [] before (omega arith) (one_name columns _ _ _ _ a b e)

-- whether an index has the root
pub root_split : (t : TableDef) (indexes : List IndexDef) (root : ℕ) (b : Bool) → indexes ≡ t.indexes → IsPart t
    → root < 2 ^ 32
    → (IsTrue b → Any (λ (x : IndexDef). x.root ≡ root) indexes) × (Any (λ (x : IndexDef). x.root ≡ root) indexes
    → IsTrue b) → OnFalse b (All (λ (x : IndexDef). x.root ≢ root) indexes)
    → (IsTrue (not b) → IsNewRoot t (decimal root)) × (IsNewRoot t (decimal root) → IsTrue (not b))
root_split t indexes root b same part fits there none = split b there.0 none
  where
    split : (b : Bool) → (IsTrue b → Any (λ (x : IndexDef). x.root ≡ root) indexes)
        → OnFalse b (All (λ (x : IndexDef). x.root ≢ root) indexes)
        → (IsTrue (not b) → IsNewRoot t (decimal root)) × (IsNewRoot t (decimal root) → IsTrue (not b))
    split true found free =
        let there = subst (Any (λ (x : IndexDef). x.root ≡ root)) same (found refl) in (
          λ h. absurd (false≢true h),
          λ new. absurd
              (new there.0 there.1 there.2 (ap (λ (x : IndexDef). decimal x.root) there.3 ∙ ap decimal there.4)),
        )
    split false found free =
        let none = subst (All (λ (x : IndexDef). x.root ≡ root → ⊥)) same free in (
          λ _. λ k d below e.
              let bounds = part.indexes.roots k d below in
              none k d below (decimal_injective _ root (omega (arith, bounds.1)) (omega arith) e),
          λ _. refl,
        )

-- the index of a line whose checks hold may be the next one
pub next_index : (t : TableDef) (line : IndexLine) (x : IndexDef) → IsIndexRead t line x → 1 ≤ length t.columns
    → (length t.indexes ≡ 0 → line.name ≡ []) → (1 ≤ length t.indexes → IsName line.name × (1 ≤ length line.keys))
    → IsNextIndex t x
unfolding KeyChecks
next_index t line x h some unnamed named =
    let counts = h.checked.1.0 in
    let names = h.checked.1.1.0 in
    let key = h.checked.1.1.1.1.0 in
    let new = h.checked.1.1.1.1.1 in
    let size = length_places t.columns line.keys x.columns h.places in
    let columns = columns_of_places t.columns line.keys x.columns h.places in
    record {
      behind = some;
      few = counts.0;
      unnamed = λ none. h.name ∙ unnamed none;
      named = λ more. (subst IsName (sym h.name) (named more).0, omega (arith, (named more).1));
      new = λ k d below same. names.0 k d below (same ∙ h.name);
      key = record {
        most = omega (arith, counts.1);
        known = known_places t.columns line.keys x.columns h.places;
        distinct = distinct_places t.columns line.keys x.columns h.places names.1;
        fits = rw columns key.0;
      };
      not_null = λ none. rw columns (key.1 none);
      root = h.is_root;
      new_root = λ k d below same. new k d below (ap decimal same ∙ sym h.root);
      line = h.number;
    }

-- the words of such a line
pub clustered_line_is : (t : TableDef) (line : Line) (x : IndexDef) → 3 ≤ length line
    → word line 0 ≡ codes "clustered" → word line 1 ≡ codes "root" → word line 2 ≡ decimal x.root
    → ArePlacesOf t.columns (drop 3 line) x.columns → line ≡ clustered_words t x
clustered_line_is t (a ∷ b ∷ c ∷ keys) x long first second third places =
    let names = names_of_places t.columns keys x.columns places in
    ap (λ w. w ∷ b ∷ c ∷ keys) first ∙ ap (λ w. codes "clustered" ∷ w ∷ c ∷ keys) second
    ∙ ap (λ w. codes "clustered" ∷ codes "root" ∷ w ∷ keys) third
    ∙ ap (λ ws. codes "clustered" ∷ codes "root" ∷ decimal x.root ∷ ws) (sym names)
clustered_line_is t (a ∷ b ∷ []) x long first second third places = absurd (omega arith)
clustered_line_is t (a ∷ []) x long first second third places = absurd (omega arith)
clustered_line_is t [] x long first second third places = absurd (omega arith)

pub index_line_is : (t : TableDef) (line : Line) (x : IndexDef) → 5 ≤ length line → word line 0 ≡ codes "index"
    → word line 1 ≡ x.name → word line 2 ≡ codes "root" → word line 3 ≡ decimal x.root
    → ArePlacesOf t.columns (drop 4 line) x.columns → line ≡ index_words t x
index_line_is t (a ∷ n ∷ b ∷ c ∷ keys) x long first name second third places =
    let names = names_of_places t.columns keys x.columns places in
    ap (λ w. w ∷ n ∷ b ∷ c ∷ keys) first ∙ ap (λ w. codes "index" ∷ w ∷ b ∷ c ∷ keys) name
    ∙ ap (λ w. codes "index" ∷ x.name ∷ w ∷ c ∷ keys) second
    ∙ ap (λ w. codes "index" ∷ x.name ∷ codes "root" ∷ w ∷ keys) third
    ∙ ap (λ ws. codes "index" ∷ x.name ∷ codes "root" ∷ decimal x.root ∷ ws) (sym names)
index_line_is t _ x long first name second third places = absurd (omega arith)

-- a table with one more line
pub column_added : (t u : TableDef) (line : Line) (c : Column) → IsPart t → IsNextColumn t c → line ≡ column_words c
    → u ≡ with_column t c → AreLinesOf u (schema_words t ++ line ∷ [])
column_added t u line c part next spelled is =
    subst (λ v. AreLinesOf v (schema_words t ++ line ∷ [])) (sym is)
    (record {
      part = part_with_column t c part next;
      spelled = ap (λ w. schema_words t ++ w ∷ []) spelled
          ∙ sym (words_with_column t c next.before);
    })

pub clustered_added : (t u : TableDef) (line : Line) (x : IndexDef) → IsPart t → IsNextIndex t x
    → length t.indexes ≡ 0 → line ≡ clustered_words t x → u ≡ with_index t x
    → AreLinesOf u (schema_words t ++ line ∷ [])
clustered_added t u line x part next none spelled is =
    subst (λ v. AreLinesOf v (schema_words t ++ line ∷ [])) (sym is)
    (record {
      part = part_with_index t x part next;
      spelled = ap (λ w. schema_words t ++ w ∷ []) spelled
          ∙ sym (words_with_first t x none);
    })

pub index_added : (t u : TableDef) (line : Line) (x : IndexDef) → IsPart t → IsNextIndex t x → 1 ≤ length t.indexes
    → line ≡ index_words t x → u ≡ with_index t x → AreLinesOf u (schema_words t ++ line ∷ [])
index_added t u line x part next some spelled is =
    subst (λ v. AreLinesOf v (schema_words t ++ line ∷ [])) (sym is)
    (record {
      part = part_with_index t x part next;
      spelled = ap (λ w. schema_words t ++ w ∷ []) spelled
          ∙ sym (words_with_more t x some);
    })
