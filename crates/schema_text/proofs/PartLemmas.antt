-- A table that gets one more column or index, and the lines that spell it.
use Rattle.std.proofs.Common.{◌≡◌, ◌≢◌, ℕ, zero, suc, ◌+◌, ◌≤◌, false, List, [], ◌∷◌, ◌++◌, length, map, take, drop}
use Rattle.std.proofs.Common.{All, refl, sym, ap, ◌∙◌, subst, arith}
use Rattle.std.specs.Prelude.{slice_get, AllPairs, IfSome}
use Rattle.std.proofs.lemmas.List.{append_assoc, append-nil, length-append, length-map}
use Rattle.std.proofs.lemmas.List.Elements.{All-nil, All-push}
use Rattle.std.proofs.lemmas.List.Quantifiers.{all_pairs_push}
use Rattle.column_values.specs.Types.{IsColumnType}
use Rattle.schema_text.specs.declared.table.Format.{Format}
use Rattle.schema_text.specs.declared.table.Column.{Column}
use Rattle.schema_text.specs.declared.table.IndexDef.{IndexDef}
use Rattle.schema_text.specs.TableDef.{TableDef, index_columns, with_column, with_index}
use Rattle.schema_text.specs.Grammar.{table_words, column_words, clustered_words, index_words, schema_words}
use Rattle.schema_text.specs.Grammar.{schema_text, IsName, IsRoot, IsKeyOf, IsTable}
use Rattle.schema_text.specs.Refusals.{Line}
use Rattle.schema_text.specs.Parts.{HasIndexes, IsPart, IsNextColumn, IsNextIndex}

pub no_member : {X : Type 0} (xs : List X) → length xs ≡ 0 → xs ≡ []
no_member [] h = refl
no_member (x ∷ xs) h = absurd (omega arith)

none_of : {X : Type 0} (P : X → Type 0) (xs : List X) → length xs ≡ 0 → All P xs
none_of P xs h = λ k d below. absurd (omega arith)

no_pairs : {X : Type 0} (R : X → X → Type 0) (xs : List X) → length xs ≡ 0 → AllPairs R xs
no_pairs R xs h = λ i j d before within. absurd (omega arith)

no_lines : (xs : List IndexDef) (Q : ℕ → IndexDef → Type 0) → length xs ≡ 0 → (j : ℕ) → IfSome (slice_get xs j) (Q j)
no_lines [] Q h j = tt
no_lines (x ∷ xs) Q h j = absurd (omega arith)

-- the indexes of a table that has none
no_indexes : (t : TableDef) → length t.indexes ≡ 0 → HasIndexes t
no_indexes t h = record {
  behind = λ some. absurd (omega arith);
  few = omega arith;
  unnamed = subst (λ (xs : List IndexDef). All (λ (x : IndexDef). x.name ≡ []) (take 1 xs))
      (sym (no_member t.indexes h)) (All-nil (λ (x : IndexDef). x.name ≡ []));
  named = subst (λ (xs : List IndexDef). All (λ (x : IndexDef). IsName x.name × (1 ≤ length x.columns)) (drop 1 xs))
      (sym (no_member t.indexes h)) (All-nil (λ (x : IndexDef). IsName x.name × (1 ≤ length x.columns)));
  differ = no_pairs (λ (x y : IndexDef). x.name ≢ y.name) t.indexes h;
  keys = none_of (IsKeyOf t) t.indexes h;
  not_null = subst (λ (xs : List IndexDef). All (λ (x : IndexDef). All (λ (c : Column). c.nullable
      ≡ false) (index_columns t x)) (take 1 xs)) (sym (no_member t.indexes h))
      (All-nil (λ (x : IndexDef). All (λ (c : Column). c.nullable ≡ false) (index_columns t x)));
  roots = none_of (λ (x : IndexDef). IsRoot x.root) t.indexes h;
  roots_differ = no_pairs (λ (x y : IndexDef). x.root ≢ y.root) t.indexes h;
  lines = no_lines t.indexes (λ j x. x.line ≡ length t.columns + 2 + j) h;
}

pub part_begun : (name : List ℕ) (format : Format) → IsName name
    → IsPart (record { table = name; format = format; columns = []; indexes = [] })
part_begun name format h = record {
  columns = record {
    name = h;
    few = omega arith;
    names = All-nil (λ (c : Column). IsName c.name);
    kinds = All-nil (λ (c : Column). IsColumnType c.kind);
    differ = no_pairs (λ (c d : Column). c.name ≢ d.name) [] refl;
  };
  indexes = no_indexes _ refl;
}

pub part_with_column : (t : TableDef) (c : Column) → IsPart t → IsNextColumn t c → IsPart (with_column t c)
part_with_column t c part next = record {
  columns = record {
    name = part.columns.name;
    few = omega (arith, length-append t.columns (c ∷ []), next.few);
    names = All-push (λ (c : Column). IsName c.name) t.columns c part.columns.names next.name;
    kinds = All-push (λ (c : Column). IsColumnType c.kind) t.columns c part.columns.kinds next.kind;
    differ = all_pairs_push (λ (c d : Column). c.name ≢ d.name) t.columns c part.columns.differ next.new;
  };
  indexes = no_indexes (with_column t c) next.before;
}

first_push : {X : Type 0} (P : X → Type 0) (xs : List X) (x : X) → All P (take 1 xs) → (length xs ≡ 0 → P x)
    → All P (take 1 (xs ++ x ∷ []))
first_push P [] x all new = All-push P [] x (All-nil P) (new refl)
first_push P (y ∷ ys) x all new = all

others_push : {X : Type 0} (P : X → Type 0) (xs : List X) (x : X) → All P (drop 1 xs) → (1 ≤ length xs → P x)
    → All P (drop 1 (xs ++ x ∷ []))
others_push P [] x all new = All-nil P
others_push P (y ∷ ys) x all new = All-push P ys x all (new (omega arith))

lines_push : (xs : List IndexDef) (x : IndexDef) (Q : ℕ → IndexDef → Type 0)
    → ((j : ℕ) → IfSome (slice_get xs j) (Q j)) → Q (length xs) x → (j : ℕ) → IfSome (slice_get (xs ++ x ∷ []) j) (Q j)
lines_push [] x Q h new zero = new
lines_push [] x Q h new (suc j) = tt
lines_push (y ∷ ys) x Q h new zero = h 0
lines_push (y ∷ ys) x Q h new (suc j) = lines_push ys x (λ i. Q (suc i)) (λ i. h (suc i)) new j

same_key : (t : TableDef) (x y : IndexDef) → IsKeyOf t y → IsKeyOf (with_index t x) y
same_key t x y key = record { most = key.most; known = key.known; distinct = key.distinct; fits = key.fits }

pub part_with_index : (t : TableDef) (x : IndexDef) → IsPart t → IsNextIndex t x → IsPart (with_index t x)
part_with_index t x part next = record {
  columns = record {
    name = part.columns.name;
    few = part.columns.few;
    names = part.columns.names;
    kinds = part.columns.kinds;
    differ = part.columns.differ;
  };
  indexes = record {
    behind = λ _. next.behind;
    few = omega (arith, length-append t.indexes (x ∷ []), next.few);
    unnamed = first_push (λ (x : IndexDef). x.name ≡ []) t.indexes x part.indexes.unnamed next.unnamed;
    named = others_push
        (λ (x : IndexDef). IsName x.name × (1 ≤ length x.columns)) t.indexes x part.indexes.named next.named;
    differ = all_pairs_push (λ (x y : IndexDef). x.name ≢ y.name) t.indexes x part.indexes.differ next.new;
    keys = λ k d below. same_key t x _ (All-push (IsKeyOf t) t.indexes x part.indexes.keys next.key k d below);
    not_null = first_push (λ (x : IndexDef). All (λ (c : Column). c.nullable
        ≡ false) (index_columns t x)) t.indexes x part.indexes.not_null next.not_null;
    roots = All-push (λ (x : IndexDef). IsRoot x.root) t.indexes x part.indexes.roots next.root;
    roots_differ = all_pairs_push
        (λ (x y : IndexDef). x.root ≢ y.root) t.indexes x part.indexes.roots_differ next.new_root;
    lines = lines_push t.indexes x (λ j x. x.line ≡ length t.columns + 2 + j) part.indexes.lines next.line;
  };
}

-- with an index, and short enough, it is a table
pub part_is_table : (t : TableDef) → IsPart t → 1 ≤ length t.indexes → length (schema_text t) ≤ 65536 → IsTable t
part_is_table t part some short = record {
  name = part.columns.name;
  some_column = part.indexes.behind some;
  columns = part.columns.few;
  column_names = part.columns.names;
  kinds = part.columns.kinds;
  columns_differ = part.columns.differ;
  clustered = some;
  indexes = part.indexes.few;
  unnamed = part.indexes.unnamed;
  named = part.indexes.named;
  indexes_differ = part.indexes.differ;
  keys = part.indexes.keys;
  not_null = part.indexes.not_null;
  roots = part.indexes.roots;
  roots_differ = part.indexes.roots_differ;
  lines = part.indexes.lines;
  short = short;
}

-- the words of the lines
map_push : {X Y : Type 0} (f : X → Y) (xs : List X) (x : X) → map f (xs ++ x ∷ []) ≡ map f xs ++ f x ∷ []
map_push f [] x = refl
map_push f (y ∷ ys) x = ap (λ rest. f y ∷ rest) (map_push f ys x)

abbrev heads : TableDef → List Line
heads t = table_words t ∷ map column_words t.columns

no_words : (hs : List Line) (f g : IndexDef → Line) (xs : List IndexDef) → length xs ≡ 0
    → hs ++ map f (take 1 xs) ++ map g (drop 1 xs) ≡ hs
no_words hs f g [] h = append-nil (hs ++ []) ∙ append-nil hs
no_words hs f g (x ∷ xs) h = absurd (omega arith)

first_words : (hs : List Line) (f g : IndexDef → Line) (xs : List IndexDef) (x : IndexDef) → length xs ≡ 0
    → hs ++ map f (take 1 (xs ++ x ∷ [])) ++ map g (drop 1 (xs ++ x ∷ [])) ≡ hs ++ f x ∷ []
first_words hs f g [] x h = append-nil (hs ++ f x ∷ [])
first_words hs f g (y ∷ ys) x h = absurd (omega arith)

more_words : (hs : List Line) (f g : IndexDef → Line) (xs : List IndexDef) (x : IndexDef) → 1 ≤ length xs
    → hs ++ map f (take 1 (xs ++ x ∷ [])) ++ map g (drop 1 (xs ++ x ∷ []))
    ≡ (hs ++ map f (take 1 xs) ++ map g (drop 1 xs)) ++ g x ∷ []
more_words hs f g [] x h = absurd (omega arith)
more_words hs f g (y ∷ ys) x h = ap (λ rest. (hs ++ f y ∷ []) ++ rest) (map_push g ys x)
    ∙ sym (append_assoc (hs ++ f y ∷ []) (map g ys) (g x ∷ []))

pub words_begun : (name : List ℕ) (format : Format)
    → schema_words (record { table = name; format = format; columns = []; indexes = [] })
    ≡ table_words (record { table = name; format = format; columns = []; indexes = [] }) ∷ []
unfolding schema_words
words_begun name format = refl

pub words_with_column : (t : TableDef) (c : Column) → length t.indexes ≡ 0
    → schema_words (with_column t c) ≡ schema_words t ++ column_words c ∷ []
unfolding schema_words
words_with_column t c none =
    no_words (heads (with_column t c)) (clustered_words (with_column t c))
    (index_words (with_column t c)) t.indexes none
    ∙ ap (λ rest. table_words t ∷ rest) (map_push column_words t.columns c)
    ∙ ap (λ hs. hs ++ column_words c ∷ []) (sym (no_words (heads t) (clustered_words t) (index_words t) t.indexes none))

pub words_with_first : (t : TableDef) (x : IndexDef) → length t.indexes ≡ 0
    → schema_words (with_index t x) ≡ schema_words t ++ clustered_words t x ∷ []
unfolding schema_words
words_with_first t x none =
    first_words (heads t) (clustered_words t) (index_words t) t.indexes x none
    ∙ ap (λ hs. hs
    ++ clustered_words t x ∷ []) (sym (no_words (heads t) (clustered_words t) (index_words t) t.indexes none))

pub words_with_more : (t : TableDef) (x : IndexDef) → 1 ≤ length t.indexes
    → schema_words (with_index t x) ≡ schema_words t ++ index_words t x ∷ []
unfolding schema_words
words_with_more t x some = more_words (heads t) (clustered_words t) (index_words t) t.indexes x some

length_words : (hs : List Line) (f g : IndexDef → Line) (xs : List IndexDef)
    → length (hs ++ map f (take 1 xs) ++ map g (drop 1 xs)) ≡ length hs + length xs
length_words hs f g [] = ap length (no_words hs f g [] refl) ∙ omega arith
length_words hs f g (x ∷ xs) = length-append (hs ++ f x ∷ []) (map g xs)
    ∙ omega (arith, length-append hs (f x ∷ []), length-map xs g)

-- a line for the table, for each column and for each index
pub length-schema_words : (t : TableDef) → length (schema_words t) ≡ length t.columns + length t.indexes + 1
unfolding schema_words
length-schema_words t = length_words (heads t) (clustered_words t) (index_words t) t.indexes
    ∙ omega (arith, length-map t.columns column_words)

pub words_no_index : (t : TableDef) → length t.indexes ≡ 0 → schema_words t ≡ table_words t ∷ map column_words t.columns
unfolding schema_words
words_no_index t none = no_words (heads t) (clustered_words t) (index_words t) t.indexes none
