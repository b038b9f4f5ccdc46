-- A text, cut into its lines one after the other.
use Rattle.std.proofs.Common.{◌≡◌, ℕ, suc, ◌-◌, ◌≤◌, Bool, false, eqb, List, [], ◌∷◌, ◌++◌, length, map, take, get_or}
use Rattle.std.proofs.Common.{All, refl, ap, ◌∙◌, arith}
use Rattle.std.specs.Prelude.{flat_map}
use Rattle.std.specs.List.{slice_split, list_any}
use Rattle.std.proofs.lemmas.List.{append-nil}
use Rattle.std.proofs.lemmas.List.Concat.{flat_map-append}
use Rattle.std.proofs.lemmas.List.Elements.{All-weaker}
use Rattle.std.proofs.lemmas.List.Splits.{slice_split_at, slice_split_none, length-slice_split}
use Rattle.std.proofs.lemmas.List.Splits.{join_with_byte-slice_split}
use Rattle.std.proofs.lemmas.Bool.Decides.{nat_tests}
use Rattle.schema_text.specs.declared.table.Column.{Column}
use Rattle.schema_text.specs.TableDef.{TableDef}
use Rattle.schema_text.specs.Grammar.{space, line_feed, joined, line_of, column_words, schema_words, schema_text}
use Rattle.schema_text.specs.Refusals.{words_of, lines_of, rest_of, is_clustered_line}
use Rattle.schema_text.specs.Cuts.{Lacks}
use Rattle.schema_text.proofs.PartLemmas.{words_no_index}

abbrev pub is_feed : ℕ → Bool
is_feed b = eqb b line_feed

none_feed : (bytes : List ℕ) → Lacks line_feed bytes → All (λ b. is_feed b ≡ false) bytes
none_feed bytes h = All-weaker (λ b. b ≡ line_feed → ⊥) (λ b. is_feed b ≡ false) not_feed bytes h
  where
    not_feed : (b : ℕ) → (b ≡ line_feed → ⊥) → is_feed b ≡ false
    not_feed b ne = grind (arith, nat_tests)

pub some_pieces : (bytes : List ℕ) → 1 ≤ length (slice_split is_feed bytes)
some_pieces bytes = omega (arith, length-slice_split is_feed bytes)

front_cut : (x : List ℕ) (ps : List (List ℕ)) → 1 ≤ length ps
    → take (length (x ∷ ps) - 1) (x ∷ ps) ≡ x ∷ take (length ps - 1) ps
front_cut x (y ∷ ys) h =
    let e : suc (suc (length ys)) - 1 ≡ suc (suc (length ys) - 1) = omega arith in rw e refl
front_cut x [] h = absurd (omega arith)

last_cut : (x : List ℕ) (ps : List (List ℕ)) → 1 ≤ length ps
    → get_or (x ∷ ps) (length (x ∷ ps) - 1) [] ≡ get_or ps (length ps - 1) []
last_cut x (y ∷ ys) h =
    let e : suc (suc (length ys)) - 1 ≡ suc (suc (length ys) - 1) = omega arith in rw e refl
last_cut x [] h = absurd (omega arith)

pub lines_cut : (text line after : List ℕ) → Lacks line_feed line → text ≡ line ++ line_feed ∷ after
    → lines_of text ≡ words_of line ∷ lines_of after
unfolding lines_of
lines_cut text line after lacks e =
    let split = ap (slice_split is_feed) e ∙ slice_split_at is_feed line line_feed after (none_feed line lacks) refl in
    ap (λ ps. map words_of (take (length ps - 1) ps)) split
    ∙ ap (map words_of) (front_cut line (slice_split is_feed after) (some_pieces after))

pub rest_cut : (text line after : List ℕ) → Lacks line_feed line → text ≡ line ++ line_feed ∷ after
    → rest_of text ≡ rest_of after
unfolding rest_of
rest_cut text line after lacks e =
    let split = ap (slice_split is_feed) e ∙ slice_split_at is_feed line line_feed after (none_feed line lacks) refl in
    ap (λ ps. get_or ps (length ps - 1) []) split ∙ last_cut line (slice_split is_feed after) (some_pieces after)

pub lines_none : (rest : List ℕ) → Lacks line_feed rest → lines_of rest ≡ []
unfolding lines_of
lines_none rest lacks = ap (λ ps. map words_of (take (length ps - 1) ps))
    (slice_split_none is_feed rest (none_feed rest lacks))

pub rest_none : (rest : List ℕ) → Lacks line_feed rest → rest_of rest ≡ rest
unfolding rest_of
rest_none rest lacks = ap (λ ps. get_or ps (length ps - 1) []) (slice_split_none is_feed rest (none_feed rest lacks))

-- the words of a line make the line
pub joined_words : (line : List ℕ) → joined (words_of line) ≡ line
joined_words line = join_with_byte-slice_split space line

-- a table's text with one more line
pub text_more : (t u : TableDef) (line : List ℕ) → schema_words u ≡ schema_words t ++ words_of line ∷ []
    → schema_text u ≡ schema_text t ++ (line ++ line_feed ∷ [])
unfolding schema_text
text_more t u line e =
    ap (flat_map line_of) e ∙ flat_map-append line_of (schema_words t) (words_of line ∷ [])
    ∙ ap (λ rest. flat_map line_of (schema_words t) ++ rest) (append-nil (line_of (words_of line))
    ∙ ap (λ l. l ++ line_feed ∷ []) (joined_words line))

pub text_begun : (u : TableDef) (line : List ℕ) → schema_words u ≡ words_of line ∷ []
    → schema_text u ≡ line ++ line_feed ∷ []
unfolding schema_text
text_begun u line e =
    ap (flat_map line_of) e ∙ append-nil (line_of (words_of line)) ∙ ap (λ l. l ++ line_feed ∷ []) (joined_words line)

-- where no index is, there is no clustered line
none_clustered : (columns : List Column) → list_any is_clustered_line (map column_words columns) ≡ false
none_clustered [] = refl
none_clustered (c ∷ columns) = none_clustered columns

pub not_clustered : (t : TableDef) → length t.indexes ≡ 0 → list_any is_clustered_line (schema_words t) ≡ false
not_clustered t none = ap (list_any is_clustered_line) (words_no_index t none) ∙ none_clustered t.columns
