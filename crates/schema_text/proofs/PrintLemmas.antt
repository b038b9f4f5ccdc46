-- A text that is written word by word.
use Rattle.std.proofs.Common.{◌≡◌, ℕ, ◌+◌, ◌<◌, List, [], ◌∷◌, ◌++◌, length, map, take, drop, get_or, Option, Some}
use Rattle.std.proofs.Common.{refl, sym, ap, ◌∙◌, subst, arith}
use Rattle.std.specs.Prelude.{flat_map, slice_get}
use Rattle.std.specs.List.{cons_option}
use Rattle.std.proofs.lemmas.List.{append_assoc, append-nil, map-append, take_more}
use Rattle.std.proofs.lemmas.List.Concat.{flat_map-append}
use Rattle.std.proofs.lemmas.List.Elements.{filter_map-append}
use Rattle.std.proofs.lemmas.Option.{slice_get-get_or}
use Rattle.schema_text.specs.declared.table.Column.{Column}
use Rattle.schema_text.specs.declared.table.IndexDef.{IndexDef}
use Rattle.schema_text.specs.TableDef.{TableDef}
use Rattle.schema_text.specs.Grammar.{space, line_feed, joined, line_of, table_words, column_words, clustered_words}
use Rattle.schema_text.specs.Grammar.{index_words, schema_words, schema_text}
use Rattle.schema_text.specs.IndexFields.{columns_at}
use Rattle.schema_text.specs.Printing.{spaced, names_at, clustered_by, index_by}

pub names_more : (columns : List Column) (positions : List ℕ) (i place : ℕ) (c : Column) (name old now next : List ℕ)
    → i < length positions → place ≡ get_or positions i 0 → place < length columns → c ≡ get_or columns place c
    → name ≡ c.name
    → now ≡ old ++ spaced (names_at columns (take i positions)) → next ≡ now ++ space ∷ name
    → next ≡ old ++ spaced (names_at columns (take (i + 1) positions))
names_more columns positions i place c name old now next within at known is named before more =
    let there : slice_get columns place ≡ Some c = slice_get-get_or columns place c known ∙ ap Some (sym is) in
    let front = columns_at columns (take i positions) in
    let grown : columns_at columns (take (i + 1) positions) ≡ front ++ c ∷ [] =
    ap (columns_at columns) (take_more positions i 0 within ∙ ap (λ (p : ℕ). take i positions ++ p ∷ []) (sym at))
    ∙ filter_map-append (slice_get columns) (take i positions) (place ∷ [])
    ∙ ap (λ (o : Option Column). front ++ cons_option o []) there in
    let names : names_at columns (take (i + 1) positions) ≡ names_at columns (take i positions) ++ c.name ∷ [] =
    ap (map (λ (c : Column). c.name)) grown ∙ map-append (λ (c : Column). c.name) front (c ∷ []) in
    more ∙ ap (λ t. t ++ space ∷ name) before
    ∙ append_assoc old (spaced (names_at columns (take i positions))) (space ∷ name)
    ∙ ap (λ n. old ++ (spaced (names_at columns (take i positions)) ++ space ∷ n)) named
    ∙ ap (λ t. old ++ (spaced (names_at columns (take i positions)) ++ t)) (sym (append-nil (space ∷ c.name)))
    ∙ ap (λ t. old
    ++ t) (sym (flat_map-append (λ word. space ∷ word) (names_at columns (take i positions)) (c.name ∷ [])))
    ∙ ap (λ ns. old ++ spaced ns) (sym names)

lines_map : {X : Type 0} (f : X → List (List ℕ)) (xs : List X)
    → flat_map line_of (map f xs) ≡ flat_map (λ x. line_of (f x)) xs
lines_map f [] = refl
lines_map f (x ∷ xs) = ap (λ rest. line_of (f x) ++ rest) (lines_map f xs)

-- the text of a table, part by part
parts_text : (t : TableDef) (x : IndexDef) (ys : List IndexDef)
    → flat_map line_of (table_words t ∷ map column_words t.columns ++ clustered_words t x ∷ []
    ++ map (index_words t) ys)
    ≡ ((line_of (table_words t) ++ flat_map (λ (c : Column). line_of (column_words c)) t.columns)
    ++ line_of (clustered_by t.columns x)) ++ flat_map (λ (x : IndexDef). line_of (index_by t.columns x)) ys
parts_text t x ys =
    let heads = table_words t ∷ map column_words t.columns in
    flat_map-append line_of (heads ++ clustered_words t x ∷ []) (map (index_words t) ys)
    ∙ ap (λ front. front ++ flat_map line_of (map (index_words t) ys))
    (flat_map-append line_of heads (clustered_words t x ∷ [])
    ∙ ap (λ last. flat_map line_of heads ++ last) (append-nil (line_of (clustered_words t x))))
    ∙ ap (λ lines. ((line_of (table_words t) ++ lines) ++ line_of (clustered_words t x))
    ++ flat_map line_of (map (index_words t) ys)) (lines_map column_words t.columns)
    ∙ ap (λ lines. ((line_of (table_words t) ++ flat_map (λ (c : Column). line_of (column_words c)) t.columns)
    ++ line_of (clustered_by t.columns x)) ++ lines) (lines_map (index_words t) ys)

-- what is written of the parts
pub all_printed : (t : TableDef) (first : IndexDef) (columns : List Column) (indexes : List IndexDef)
    (none a b c d : List ℕ) → columns ≡ t.columns → indexes ≡ t.indexes → 0 < length indexes
    → first ≡ get_or indexes 0 first
    → none ≡ [] → a ≡ none ++ line_of (table_words t)
    → b ≡ a ++ flat_map (λ (c : Column). line_of (column_words c)) columns
    → c ≡ b ++ line_of (clustered_by columns first)
    → d ≡ c ++ flat_map (λ (x : IndexDef). line_of (index_by columns x)) (drop 1 indexes) → d ≡ schema_text t
unfolding schema_text schema_words
all_printed t first columns indexes none a b c d k x some at n pa pb pc pd =
    let first_is = at ∙ ap (λ (ix : List IndexDef). get_or ix 0 first) x in
    let qb : b ≡ a ++ flat_map (λ (c : Column). line_of (column_words c)) t.columns = subst (λ (cs : List Column). b
    ≡ a ++ flat_map (λ (c : Column). line_of (column_words c)) cs) k pb in
    let qc : c ≡ b ++ line_of (clustered_by t.columns first) = subst (λ (cs : List Column). c ≡ b
    ++ line_of (clustered_by cs first)) k pc in
    let qd : d ≡ c ++ flat_map (λ (x : IndexDef). line_of (index_by t.columns x)) (drop 1 t.indexes) =
    subst (λ (ix : List IndexDef). d ≡ c ++ flat_map (λ (x : IndexDef). line_of (index_by t.columns x)) (drop 1 ix)) x
    (subst (λ (cs : List Column). d ≡ c
    ++ flat_map (λ (x : IndexDef). line_of (index_by cs x)) (drop 1 indexes)) k pd) in
    let qa : a ≡ line_of (table_words t) = pa ∙ ap (λ l. l ++ line_of (table_words t)) n in
    qd ∙ ap (λ l. l ++ flat_map (λ (x : IndexDef). line_of (index_by t.columns x)) (drop 1 t.indexes))
    (qc ∙ ap (λ l. l ++ line_of (clustered_by t.columns first)) (qb
    ∙ ap (λ l. l ++ flat_map (λ (c : Column). line_of (column_words c)) t.columns) qa))
    ∙ by_indexes t.indexes (subst (λ (ix : List IndexDef). 0 < length ix) x some) first_is
  where
    by_indexes : (ix : List IndexDef) → 0 < length ix → first ≡ get_or ix 0 first
        → ((line_of (table_words t) ++ flat_map (λ (c : Column). line_of (column_words c)) t.columns)
        ++ line_of (clustered_by t.columns first))
        ++ flat_map (λ (x : IndexDef). line_of (index_by t.columns x)) (drop 1 ix)
        ≡ flat_map line_of (table_words t ∷ map column_words t.columns ++ map (clustered_words t) (take 1 ix)
        ++ map (index_words t) (drop 1 ix))
    by_indexes [] some at = absurd (omega arith)
    by_indexes (y ∷ ys) some at = sym (parts_text t first ys)
        ∙ ap (λ z. flat_map line_of (table_words t ∷ map column_words t.columns ++ clustered_words t z ∷ []
        ++ map (index_words t) ys)) at

-- the words of a line behind its first one, each behind a space
joined_spaced : (w : List ℕ) (ws : List (List ℕ)) → joined (w ∷ ws) ≡ w ++ spaced ws
joined_spaced w [] = sym (append-nil w)
joined_spaced w (v ∷ ws) = ap (λ rest. w ++ space ∷ rest) (joined_spaced v ws)

regroup4 : (old a b c d l : List ℕ) → ((((old ++ a) ++ b) ++ c) ++ d) ++ l ≡ old ++ ((a ++ (b ++ (c ++ d))) ++ l)
regroup4 old a b c d l = simp append_assoc

regroup5 : (old a b c d e l : List ℕ)
    → (((((old ++ a) ++ b) ++ c) ++ d) ++ e) ++ l ≡ old ++ ((a ++ (b ++ (c ++ (d ++ e)))) ++ l)
regroup5 old a b c d e l = simp append_assoc

pub four_written : (old first x y : List ℕ) (rest : List (List ℕ)) (a b c d e : List ℕ) → a ≡ old ++ first
    → b ≡ a ++ space ∷ x → c ≡ b ++ space ∷ y → d ≡ c ++ spaced rest → e ≡ d ++ line_feed ∷ []
    → e ≡ old ++ line_of (first ∷ x ∷ y ∷ rest)
four_written old first x y rest a b c d e pa pb pc pd pe =
    pe ∙ rw (pd, pc, pb, pa) (regroup4 old first (space ∷ x) (space ∷ y) (spaced rest) (line_feed ∷ []))
    ∙ ap (λ l. old ++ (l ++ line_feed ∷ [])) (sym (joined_spaced first (x ∷ y ∷ rest)))

pub five_written : (old first x y z : List ℕ) (rest : List (List ℕ)) (a b c d e f : List ℕ) → a ≡ old ++ first
    → b ≡ a ++ space ∷ x → c ≡ b ++ space ∷ y → d ≡ c ++ space ∷ z → e ≡ d ++ spaced rest → f ≡ e ++ line_feed ∷ []
    → f ≡ old ++ line_of (first ∷ x ∷ y ∷ z ∷ rest)
five_written old first x y z rest a b c d e f pa pb pc pd pe pf =
    pf ∙ rw (pe, pd, pc, pb, pa) (regroup5 old first (space ∷ x) (space ∷ y) (space ∷ z) (spaced rest) (line_feed ∷
    [])) ∙ ap (λ l. old ++ (l ++ line_feed ∷ [])) (sym (joined_spaced first (x ∷ y ∷ z ∷ rest)))
