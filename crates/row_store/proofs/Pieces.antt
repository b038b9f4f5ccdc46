-- The lines of a text that begins with some lines.
use Rattle.std.proofs.Common.{◌≡◌, ◌≢◌, ℕ, suc, ◌+◌, ◌-◌, ◌<◌, ◌≤◌, Bool, true, false, cond, eqb, List, [], ◌∷◌, ◌++◌}
use Rattle.std.proofs.Common.{length, take, get_or, All, refl, sym, ap, ◌∙◌, arith}
use Rattle.std.specs.List.{slice_split}
use Rattle.std.proofs.lemmas.Bool.{eq-eqb, ne_eqb}
use Rattle.std.proofs.lemmas.List.{append_assoc, append-nil, length-append, take_at, get_or_at}
use Rattle.std.proofs.lemmas.List.Elements.{All-head, All-tail, All-weaker}
use Rattle.std.proofs.lemmas.List.Splits.{slice_split_at, slice_split_none, length-slice_split}
use Rattle.schema_text.specs.Grammar.{line_feed}
use Rattle.schema_text.specs.Cuts.{Lacks}
use Rattle.row_store.specs.BadLine.{pieces_of, row_lines, line_at, line_length, line_end, feed_length, HasFeed}
use Rattle.row_store.specs.calls.Lines.{with_feed, joined_lines, bytes_in, end_size, StandsFirst}

abbrev pub Lack : List ℕ → Type 0
Lack = Lacks line_feed

abbrev is_feed : ℕ → Bool
is_feed b = eqb b line_feed

none_feed : (bytes : List ℕ) → Lack bytes → All (λ b. is_feed b ≡ false) bytes
none_feed bytes h = All-weaker (λ b. b ≢ line_feed) (λ b. is_feed b ≡ false) (λ b ne. ne_eqb b line_feed ne) bytes h

some_pieces : (text : List ℕ) → 1 ≤ length (pieces_of text)
some_pieces text = let size = length-slice_split is_feed text in omega arith

-- the pieces of a text behind some lines
joined_more : (x : List ℕ) (xs : List (List ℕ)) (rest : List ℕ)
    → joined_lines (x ∷ xs) ++ rest ≡ x ++ line_feed ∷ (joined_lines xs ++ rest)
joined_more x xs rest =
    append_assoc (with_feed x) (joined_lines xs) rest ∙ append_assoc x (line_feed ∷ []) (joined_lines xs ++ rest)

pieces_behind : (lines : List (List ℕ)) (rest : List ℕ) → All Lack lines
    → pieces_of (joined_lines lines ++ rest) ≡ lines ++ pieces_of rest
pieces_behind [] rest lack = refl
pieces_behind (x ∷ xs) rest lack =
    ap (slice_split is_feed) (joined_more x xs rest)
    ∙ slice_split_at is_feed x line_feed (joined_lines xs ++ rest) (none_feed x (All-head Lack x xs lack)) refl
    ∙ ap (λ ps. x ∷ ps) (pieces_behind xs rest (All-tail Lack x xs lack))

-- the pieces of a text by its first line
pieces_first : (text line : List ℕ) (feed : Bool) (rest : List ℕ) → StandsFirst text line feed rest
    → pieces_of text ≡ line ∷ cond feed (pieces_of rest) []
pieces_first text line true rest stands =
    ap (slice_split is_feed) stands.is
    ∙ slice_split_at is_feed line line_feed rest (none_feed line stands.lacks) refl
pieces_first text line false rest stands =
    ap (slice_split is_feed) (stands.is ∙ ap (λ more. line ++ more) (stands.last refl) ∙ append-nil line)
    ∙ slice_split_none is_feed line (none_feed line stands.lacks)

-- the lines of some pieces
abbrev lines_from : List (List ℕ) → List (List ℕ)
lines_from ps = cond (eqb (length (get_or ps (length ps - 1) [])) 0) (take (length ps - 1) ps) ps

lines_are : (text : List ℕ) → row_lines text ≡ lines_from (pieces_of text)
unfolding row_lines
lines_are text = refl

onto_both : (b : Bool) (x : List ℕ) (few all : List (List ℕ)) → cond b (x ∷ few) (x ∷ all) ≡ x ∷ cond b few all
onto_both true x few all = refl
onto_both false x few all = refl

lines_more : (x : List ℕ) (ps : List (List ℕ)) → 1 ≤ length ps → lines_from (x ∷ ps) ≡ x ∷ lines_from ps
lines_more x [] some = absurd (omega arith)
lines_more x (y ∷ ys) some =
    let both : suc (suc (length ys)) - 1 ≡ suc (length ys) = omega arith in
    let one : length ys ≡ suc (length ys) - 1 = omega arith in
    ap (λ k. cond (eqb (length (get_or (x ∷ y ∷ ys) k [])) 0) (take k (x ∷ y ∷ ys)) (x ∷ y ∷ ys)) both
    ∙ onto_both (eqb (length (get_or (y ∷ ys) (length ys) [])) 0) x (take (length ys) (y ∷ ys)) (y ∷ ys)
    ∙ ap (λ k. x ∷ cond (eqb (length (get_or (y ∷ ys) k [])) 0) (take k (y ∷ ys)) (y ∷ ys)) one

lines_behind : (xs ps : List (List ℕ)) → 1 ≤ length ps → lines_from (xs ++ ps) ≡ xs ++ lines_from ps
lines_behind [] ps some = refl
lines_behind (x ∷ xs) ps some =
    let size = length-append xs ps in
    lines_more x (xs ++ ps) (omega arith) ∙ ap (λ rest. x ∷ rest) (lines_behind xs ps some)

-- the lines of a text behind some lines, and by its first line
pub row_lines_behind : (lines : List (List ℕ)) (rest : List ℕ) → All Lack lines
    → row_lines (joined_lines lines ++ rest) ≡ lines ++ row_lines rest
row_lines_behind lines rest lack =
    lines_are (joined_lines lines ++ rest) ∙ ap lines_from (pieces_behind lines rest lack)
    ∙ lines_behind lines (pieces_of rest) (some_pieces rest)
    ∙ ap (λ more. lines ++ more) (sym (lines_are rest))

pub row_lines_none : row_lines [] ≡ []
unfolding row_lines
row_lines_none = refl

row_lines_first : (text line : List ℕ) (feed : Bool) (rest : List ℕ) → StandsFirst text line feed rest
    → (feed ≡ false → length line ≢ 0) → row_lines text ≡ line ∷ cond feed (row_lines rest) []
row_lines_first text line true rest stands some =
    lines_are text ∙ ap lines_from (pieces_first text line true rest stands)
    ∙ lines_more line (pieces_of rest) (some_pieces rest) ∙ ap (λ more. line ∷ more) (sym (lines_are rest))
row_lines_first text line false rest stands some =
    lines_are text ∙ ap lines_from (pieces_first text line false rest stands)
    ∙ ap (λ b. cond b [] (line ∷ [])) (ne_eqb (length line) 0 (some refl))

-- line k of a text, behind so many bytes
pub record IsLineAt (text : List ℕ) (k before : ℕ) (line : List ℕ) (feed : Bool) : Type 0 where
  pub there : k < length (row_lines text)
  pub at : line_at text k ≡ line
  pub size : line_length text k ≡ length line + end_size feed
  pub end : line_end text k ≡ before + (length line + end_size feed)
  pub fed : feed ≡ true → HasFeed text k
  pub unfed : feed ≡ false → ¬ (HasFeed text k)

-- whether there are more pieces
feed_is : (k : ℕ) (feed : Bool) (count : ℕ) (more : List (List ℕ)) → 1 ≤ length more
    → count ≡ k + suc (length (cond feed more [])) → cond (eqb (k + 1) count) 0 1 ≡ end_size feed
feed_is k true count more some is = ap (λ b. cond b 0 1) (ne_eqb (k + 1) count (λ same. omega arith))
feed_is k false count more some is = ap (λ b. cond b 0 1) (eq-eqb (k + 1) count (omega arith))

has_more : (k : ℕ) (feed : Bool) (count : ℕ) (more : List (List ℕ)) → 1 ≤ length more
    → count ≡ k + suc (length (cond feed more [])) → feed ≡ true → k + 1 < count
has_more k true count more some is fed = omega arith
has_more k false count more some is fed = cc

has_no_more : (k : ℕ) (feed : Bool) (count : ℕ) (more : List (List ℕ))
    → count ≡ k + suc (length (cond feed more [])) → feed ≡ false → ¬ (k + 1 < count)
has_no_more k true count more is unfed = cc
has_no_more k false count more is unfed = λ less. omega arith

pub line_there : (text : List ℕ) (lines : List (List ℕ)) (rest line : List ℕ) (feed : Bool) (after : List ℕ)
    → text ≡ joined_lines lines ++ rest → All Lack lines → StandsFirst rest line feed after
    → (feed ≡ false → length line ≢ 0) → IsLineAt text (length lines) (bytes_in lines) line feed
line_there text lines rest line feed after is lack stands some =
    let n = length lines in
    let last = cond feed (row_lines after) [] in
    let all : row_lines text ≡ lines ++ line ∷ last =
    ap row_lines is ∙ row_lines_behind lines rest lack
    ∙ ap (λ more. lines ++ more) (row_lines_first rest line feed after stands some) in
    let cut : pieces_of text ≡ lines ++ line ∷ cond feed (pieces_of after) [] =
    ap (slice_split is_feed) is ∙ pieces_behind lines rest lack
    ∙ ap (λ more. lines ++ more) (pieces_first rest line feed after stands) in
    let count : length (pieces_of text) ≡ n + suc (length (cond feed (pieces_of after) [])) =
    ap length cut ∙ length-append lines (line ∷ cond feed (pieces_of after) []) in
    let total : length (row_lines text) ≡ n + suc (length last) = ap length all ∙ length-append lines (line ∷ last) in
    let here : line_at text n ≡ line =
    ap (λ (ls : List (List ℕ)). get_or ls n []) all ∙ get_or_at lines line last [] n refl in
    let front : take n (row_lines text) ≡ lines = ap (take n) all ∙ take_at lines (line ∷ last) n refl in
    let closed : feed_length text n ≡ end_size feed =
    feed_is n feed (length (pieces_of text)) (pieces_of after) (some_pieces after) count in
    let long : line_length text n ≡ length line + end_size feed =
    ap (λ (l : List ℕ). length l + feed_length text n) here ∙ ap (λ k. length line + k) closed in
    record {
      there = omega arith;
      at = here;
      size = long;
      end = ap (λ (ls : List (List ℕ)). bytes_in ls + line_length text n) front ∙ ap (λ k. bytes_in lines + k) long;
      fed = has_more n feed (length (pieces_of text)) (pieces_of after) (some_pieces after) count;
      unfed = has_no_more n feed (length (pieces_of text)) (pieces_of after) count;
    }
