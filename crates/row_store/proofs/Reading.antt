-- A text that is read line by line.
use Rattle.std.proofs.Common.{◌≡◌, ◌≢◌, ℕ, ◌+◌, ◌*◌, ◌<◌, ◌≤◌, Bool, true, false, List, [], ◌∷◌, ◌++◌, length, take}
use Rattle.std.proofs.Common.{◌-◌, drop}
use Rattle.std.proofs.Common.{IfSome, Some, None, Option, Ok, Err, refl, sym, ap, ◌∙◌, subst, arith, inl, inr}
use Rattle.std.proofs.lemmas.List.{append_assoc, append-nil, length-append, length-take-le, length_push, drop_at}
use Rattle.std.proofs.lemmas.List.Elements.{All-nil, All-cons, All-append}
use Rattle.std.proofs.lemmas.List.Sums.{sum_by_push, sum_by-cons}
use Rattle.std.proofs.lemmas.Bool.Decides.{eqb_tells}
use Rattle.page_source.specs.declared.objects.ByteSource.{Ghosts as TextOf}
use Rattle.page_source.proofs.Told.{map_told2}
use Rattle.schema_text.specs.TableDef.{TableDef}
use Rattle.schema_text.specs.Grammar.{IsTable, line_feed}
use Rattle.row_text.specs.Laws.{HasOneRow}
use Rattle.row_layout.specs.StoredRow.{Stored}
use Rattle.row_store.specs.declared.stop.RowsWhy.{RowsWhy}
use Rattle.row_store.specs.declared.stop.RowsWhy.TheVariants.{Long, Input, Line, Order, Big}
use Rattle.row_store.specs.declared.stop.RowStop.{RowStop}
use Rattle.row_store.specs.declared.stop.RowStop.TheVariants as rowstops
use Rattle.row_store.specs.declared.line_reader.NextLine.{NextLine}
use Rattle.row_store.specs.StoredRows.{Rows, stored_rows}
use Rattle.row_store.specs.BadLine.{RowsChecks, AreRowsOf}
use Rattle.row_store.specs.calls.Lines.{with_feed, joined_lines, bytes_in, end_of, end_size, StandsFirst, GivesBytes}
use Rattle.row_store.specs.calls.Lines.{IsAtEnd, GrewBehind, IsFewAhead, IsNextLine, ChecksLine}
use Rattle.row_store.specs.calls.NextRow.{HoldsRows, RefusesNext, AddsRow}
use Rattle.row_store.specs.ReadRows.{AreReadRows, ReadsNear, ReadsRows}
use Rattle.row_store.specs.calls.Stops.{stop_behind}
use Rattle.row_store.proofs.NextRows.{length-stored}
use Rattle.row_store.proofs.Pieces.{line_there}
use Rattle.row_store.proofs.GoodLines.{GoodLines, good_none, good_more, joined_push}
use Rattle.row_store.proofs.Refused.{long_refused, far_refused, open_refused, row_refused, text_refused}
use Rattle.row_store.proofs.Refused.{text_is_good, rows_are_good, few_rows}

-- what was taken of a text
pub gives_none : (o : Option (List ℕ)) → GivesBytes o o []
gives_none None = refl
gives_none (Some text) = (text, refl, refl)

pub gives_more : (a b c : Option (List ℕ)) (xs ys : List ℕ) → GivesBytes a b xs → GivesBytes b c ys
    → GivesBytes a c (xs ++ ys)
gives_more None b c xs ys first second =
    let f : GivesBytes None c ys = subst (λ (o : Option (List ℕ)). GivesBytes o c ys) first second in f
gives_more (Some text) b c xs ys first second =
    let f : GivesBytes (Some first.0) c ys = subst (λ (o : Option (List ℕ)). GivesBytes o c ys) first.1 second in
    (f.0, f.1, first.2 ∙ ap (λ rest. xs ++ rest) f.2 ∙ sym (append_assoc xs ys f.0))

gives_same : (a b : Option (List ℕ)) (xs ys : List ℕ) → xs ≡ ys → GivesBytes a b xs → GivesBytes a b ys
gives_same a b xs ys same given = subst (GivesBytes a b) same given

-- how many bytes lines have
joined_size : (lines : List (List ℕ)) → length (joined_lines lines) ≡ bytes_in lines
joined_size [] = refl
joined_size (line ∷ lines) =
    let all = length-append (with_feed line) (joined_lines lines) in
    let one = length_push line line_feed in
    let sum = sum_by-cons (λ (l : List ℕ). length l + 1) line lines in
    let rest = joined_size lines in
    omega arith

-- the front of some bytes up to the first LF
record IsCut (bytes : List ℕ) : Type 0 where
  line : List ℕ
  feed : Bool
  after : List ℕ
  stands : StandsFirst bytes line feed after

cut_first : (bytes : List ℕ) → IsCut bytes
cut_first [] = record {
  line = [];
  feed = false;
  after = [];
  stands = record { is = refl; lacks = All-nil (λ b. b ≢ line_feed); last = λ unfed. refl };
}
cut_first (b ∷ bytes) = elim (eqb_tells b line_feed) [
  | inl same ↦ record {
    line = [];
    feed = true;
    after = bytes;
    stands = record {
      is = ap (λ c. c ∷ bytes) same.1;
      lacks = All-nil (λ b. b ≢ line_feed);
      last = λ never. cc;
    };
  }
  | inr other ↦
      let rest = cut_first bytes in
      record {
        line = b ∷ rest.line;
        feed = rest.feed;
        after = rest.after;
        stands = record {
          is = ap (λ xs. b ∷ xs) rest.stands.is;
          lacks = All-cons (λ c. c ≢ line_feed) b rest.line other.1 rest.stands.lacks;
          last = rest.stands.last;
        };
      }
]

-- a line that stands first stands so with more bytes behind
stands_on : (ahead left line : List ℕ) (feed : Bool) (after : List ℕ) → StandsFirst ahead line feed after
    → (feed ≡ false → left ≡ []) → StandsFirst (ahead ++ left) line feed (after ++ left)
stands_on ahead left line feed after stands none = record {
  is =
      ap (λ xs. xs ++ left) stands.is ∙ append_assoc line (end_of feed ++ after) left
      ∙ ap (λ xs. line ++ xs) (append_assoc (end_of feed) after left);
  lacks = stands.lacks;
  last = λ unfed. ap (λ xs. xs ++ left) (stands.last unfed) ∙ none unfed;
}

-- a line that isn't whole goes on
stands_open : (ahead left line : List ℕ) (after : List ℕ) → StandsFirst ahead line false after
    → (cut : IsCut left) → StandsFirst (ahead ++ left) (line ++ cut.line) cut.feed cut.after
stands_open ahead left line after stands cut = record {
  is =
      ap (λ xs. xs ++ left) (stands.is ∙ ap (λ xs. line ++ xs) (stands.last refl) ∙ append-nil line)
      ∙ ap (λ xs. line ++ xs) cut.stands.is ∙ sym (append_assoc line cut.line (end_of cut.feed ++ cut.after));
  lacks = All-append (λ b. b ≢ line_feed) line cut.line stands.lacks cut.stands.lacks;
  last = cut.stands.last;
}

-- the rows of the lines that were read, and what is ahead
pub record IsReading {R : Type 0} (g : TextOf R) (table : TableDef) (old now : R) (ahead : List ℕ) (taken : ℕ)
    (stored : List (List Stored)) : Type 0 where
  pub lines : List (List ℕ)
  pub rows : Rows
  pub good : GoodLines table lines rows
  pub taken_is : taken ≡ bytes_in lines
  pub same : stored ≡ stored_rows table rows
  pub given : GivesBytes (g.left old) (g.left now) (joined_lines lines ++ ahead)

stored_none : (table : TableDef) → [] ≡ stored_rows table []
unfolding stored_rows
stored_none table = refl

pub reading_none : {R : Type 0} (g : TextOf R) (table : TableDef) (old : R) (ahead : List ℕ)
    (stored : List (List Stored))
    → ahead ≡ [] → stored ≡ [] → IsReading g table old old ahead 0 stored
reading_none g table old ahead stored none no_row = record {
  lines = [];
  rows = [];
  good = good_none table;
  taken_is = refl;
  same = no_row ∙ stored_none table;
  given = gives_same (g.left old) (g.left old) [] ahead (sym none) (gives_none (g.left old));
}

-- more came behind what is ahead
pub reading_grown : {R : Type 0} (g : TextOf R) (table : TableDef) (old mid now : R) (ahead grown : List ℕ) (taken : ℕ)
    (stored : List (List Stored)) → IsReading g table old mid ahead taken stored
    → GrewBehind (g.left mid) (g.left now) ahead grown → IsReading g table old now grown taken stored
reading_grown g table old mid now ahead grown taken stored reading grew = record {
  lines = reading.lines;
  rows = reading.rows;
  good = reading.good;
  taken_is = reading.taken_is;
  same = reading.same;
  given =
      gives_same (g.left old) (g.left now) ((joined_lines reading.lines ++ ahead) ++ grew.piece)
      (joined_lines reading.lines ++ grown)
      (append_assoc (joined_lines reading.lines) ahead grew.piece
      ∙ ap (λ xs. joined_lines reading.lines ++ xs) (sym grew.behind))
      (gives_more (g.left old) (g.left mid) (g.left now) (joined_lines reading.lines ++ ahead) grew.piece
      reading.given grew.given);
}

-- the rows so far, as they are stored
pub reading_holds : {R : Type 0} (g : TextOf R) (table : TableDef) (old now : R) (ahead : List ℕ) (taken : ℕ)
    (stored : List (List Stored)) (reading : IsReading g table old now ahead taken stored)
    → HoldsRows table reading.rows stored
reading_holds g table old now ahead taken stored reading =
    record { same = reading.same; fitted = reading.good.fitted }

-- they are few
pub reading_few : {R : Type 0} (g : TextOf R) (table : TableDef) (old now : R) (ahead : List ℕ) (taken : ℕ)
    (stored : List (List Stored)) → IsReading g table old now ahead taken stored → 2 * length stored ≤ 4294967296
reading_few g table old now ahead taken stored reading =
    let few = few_rows table reading.lines reading.rows reading.good in
    let size = ap length reading.same ∙ length-stored table reading.rows in
    omega arith

-- where the text is told
by_text : (o now : Option (List ℕ)) (bytes : List ℕ) (P : List ℕ → Type 0) → GivesBytes o now bytes
    → ((text left : List ℕ) → now ≡ Some left → text ≡ bytes ++ left → P text) → IfSome o P
by_text None now bytes P given f = tt
by_text (Some text) now bytes P given f = f text given.0 given.1 given.2

-- at its end
at_end : (now : Option (List ℕ)) (left : List ℕ) → now ≡ Some left → IsAtEnd now → left ≡ []
at_end now left is ends = subst IsAtEnd is ends

pub reading_ends : {R : Type 0} (g : TextOf R) (one : HasOneRow) (table : TableDef) (is : IsTable table) (old now : R)
    (ahead : List ℕ) (taken : ℕ) (stored : List (List Stored)) → IsReading g table old now ahead taken stored
    → ahead ≡ [] → IsAtEnd (g.left now) → AreReadRows g table old now stored
reading_ends g one table is old now ahead taken stored reading none ends = record {
  rows = reading.rows;
  good = rows_are_good table reading.lines reading.rows reading.good;
  same = reading.same;
  of_text =
      by_text (g.left old) (g.left now) (joined_lines reading.lines ++ ahead)
      (λ text. AreRowsOf table text reading.rows × (g.left now ≡ Some [])) reading.given
      (λ text left now_is text_is.
      let last : left ≡ [] = at_end (g.left now) left now_is ends in
      let whole : text ≡ joined_lines reading.lines =
      text_is ∙ ap (λ xs. joined_lines reading.lines ++ ahead ++ xs) last
      ∙ append-nil (joined_lines reading.lines ++ ahead)
      ∙ ap (λ xs. joined_lines reading.lines ++ xs) none ∙ append-nil (joined_lines reading.lines) in
      (text_is_good one table is reading.lines reading.rows reading.good text whole, now_is ∙ ap Some last));
}

-- the next line
module _ {R : Type 0} (g : TextOf R) (one : HasOneRow) (table : TableDef) (is : IsTable table) (old now : R)
    (ahead : List ℕ) (taken : ℕ) (stored : List (List Stored)) (reading : IsReading g table old now ahead taken stored)
    (line : NextLine) (next : IsNextLine ahead (g.left now) line) where
  abbrev lines : List (List ℕ)
  lines = reading.lines

  abbrev bytes : List ℕ
  bytes = take line.size ahead

  abbrev after : List ℕ
  after = drop (line.size + end_size line.feed) ahead

  line_size : length (take line.size ahead) ≡ line.size
  line_size = let within = next.within in length-take-le line.size ahead (omega arith)

  -- it was taken with its row
  pub reading_more : (end : ℕ) (grown : List (List Stored)) → ChecksLine line taken (Ok end)
      → ((rows : Rows) → HoldsRows table rows stored → AddsRow table rows bytes grown (Ok tt))
      → IsReading g table old now after end grown
  reading_more end grown checked adds =
      let fed = checked.0 in
      let stands : StandsFirst ahead bytes true after =
      subst (λ f. StandsFirst ahead bytes f after) fed next.stands in
      let added = adds reading.rows (reading_holds g table old now ahead taken stored reading) in
      let size = line_size in
      let total = sum_by_push (λ (l : List ℕ). length l + 1) lines bytes in
      let before = reading.taken_is in
      let short = checked.1 in
      let ends = checked.2 in
      let within = checked.3 in
      record {
        lines = lines ++ bytes ∷ [];
        rows = reading.rows ++ added.0 ∷ [];
        good = good_more table lines reading.rows bytes added.0 reading.good stands.lacks (omega arith) (omega arith)
            added.1;
        taken_is = omega arith;
        same = added.2;
        given =
            gives_same (g.left old) (g.left now) (joined_lines lines ++ ahead)
            (joined_lines (lines ++ bytes ∷ []) ++ after)
            (ap (λ xs. joined_lines lines ++ xs) (stands.is ∙ sym (append_assoc bytes (line_feed ∷ []) after))
            ∙ sym (append_assoc (joined_lines lines) (with_feed bytes) after)
            ∙ ap (λ xs. xs ++ after) (sym (joined_push lines bytes)))
            reading.given;
      }

  -- it stands first in what is left of a text, where it isn't too long
  whole_stands : (left : List ℕ) → g.left now ≡ Some left → line.size + end_size line.feed ≤ 16777216
      → StandsFirst (ahead ++ left) bytes line.feed (after ++ left)
  whole_stands left now_is short =
      stands_on ahead left bytes line.feed after next.stands
      (λ unfed. elim (next.whole unfed) [
        | inl over ↦ absurd (omega arith)
        | inr ends ↦ at_end (g.left now) left now_is ends
      ])

  some_bytes : line.feed ≡ false → length (take line.size ahead) ≢ 0
  some_bytes unfed none = let size = line_size in next.some unfed (omega arith)

  -- the line is refused where the text is told
  abbrev Refuses : RowsWhy → List ℕ → Type 0
  Refuses why text = RowsChecks table text (Some (record { line = length stored + 1; why = why }))

  by_number : (why : RowsWhy) (text : List ℕ)
      → RowsChecks table text (Some (record { line = length lines + 1; why = why })) → Refuses why text
  by_number why text refused =
      let count : length lines ≡ length stored =
      reading.good.count ∙ sym (ap length reading.same ∙ length-stored table reading.rows) in
      subst (λ n. RowsChecks table text (Some (record { line = n + 1; why = why }))) count refused

  in_text : (why : RowsWhy)
      → ((text left : List ℕ) → g.left now ≡ Some left → text ≡ joined_lines lines ++ (ahead ++ left)
      → RowsChecks table text (Some (record { line = length lines + 1; why = why })))
      → IfSome (g.left old) (Refuses why)
  in_text why refused =
      by_text (g.left old) (g.left now) (joined_lines lines ++ ahead) (Refuses why) reading.given
      (λ text left now_is text_is.
      by_number why text
      (refused text left now_is (text_is ∙ append_assoc (joined_lines lines) ahead left)))

  too_long : (feed : Bool) → line.feed ≡ feed → 16777216 < line.size + end_size line.feed
      → IfSome (g.left old) (Refuses Long)
  too_long true fed long = in_text Long (λ text left now_is text_is.
      let size = line_size in
      let stands : StandsFirst (ahead ++ left) bytes true (after ++ left) =
      stands_on ahead left bytes true after (subst (λ f. StandsFirst ahead bytes f after) fed next.stands)
      (λ never. cc) in
      let more : 16777216 < line.size + end_size true =
      subst (λ f. 16777216 < line.size + end_size f) fed long in
      text_refused one table is lines reading.rows reading.good text _ bytes true _ text_is stands (λ never. cc) Long
      (long_refused one table is lines reading.rows reading.good text _ bytes true _ text_is stands (λ never. cc)
      (omega arith)))
  too_long false unfed long = in_text Long (λ text left now_is text_is.
      let size = line_size in
      let cut = cut_first left in
      let both = length-append bytes cut.line in
      let stands = stands_open ahead left bytes after (subst (λ f. StandsFirst ahead bytes f after) unfed next.stands)
      cut in
      let more : 16777216 < line.size + end_size false =
      subst (λ f. 16777216 < line.size + end_size f) unfed long in
      let some : cut.feed ≡ false → length (bytes ++ cut.line) ≢ 0 = λ unfed none. omega arith in
      text_refused one table is lines reading.rows reading.good text _ (bytes ++ cut.line) cut.feed _ text_is stands
      some Long
      (long_refused one table is lines reading.rows reading.good text _ (bytes ++ cut.line) cut.feed _ text_is stands
      some (omega arith)))

  -- by its bytes alone
  pub bytes_refused : (why : RowsWhy) → ChecksLine line taken (Err why) → IfSome (g.left old) (Refuses why)
  bytes_refused Long long = too_long line.feed refl long
  bytes_refused Input checked = in_text Input (λ text left now_is text_is.
      let size = line_size in
      let before = reading.taken_is in
      let short = checked.0 in
      let far = checked.1 in
      let stands = whole_stands left now_is short in
      text_refused one table is lines reading.rows reading.good text _ bytes line.feed _ text_is stands some_bytes
      Input
      (far_refused one table is lines reading.rows reading.good text _ bytes line.feed _ text_is stands some_bytes
      (omega arith) (omega arith)))
  bytes_refused Line checked = in_text Line (λ text left now_is text_is.
      let size = line_size in
      let before = reading.taken_is in
      let short = checked.0 in
      let within = checked.1 in
      let stands = whole_stands left now_is short in
      text_refused one table is lines reading.rows reading.good text _ bytes line.feed _ text_is stands some_bytes
      Line
      (open_refused one table is lines reading.rows reading.good text _ bytes line.feed _ text_is stands some_bytes
      (omega arith) (omega arith) checked.2))
  bytes_refused Order checked = absurd checked
  bytes_refused Big checked = absurd checked

  -- by its row
  pub next_refused : (end : ℕ) (why : RowsWhy) → ChecksLine line taken (Ok end)
      → ((rows : Rows) → HoldsRows table rows stored → RefusesNext table rows bytes why)
      → IfSome (g.left old) (Refuses why)
  next_refused end why checked refuses = in_text why (λ text left now_is text_is.
      let size = line_size in
      let before = reading.taken_is in
      let fed = checked.0 in
      let one_end : end_size line.feed ≡ 1 = ap end_size fed in
      let short = checked.1 in
      let ends = checked.2 in
      let within = checked.3 in
      let stands = whole_stands left now_is (omega arith) in
      text_refused one table is lines reading.rows reading.good text _ bytes line.feed _ text_is stands some_bytes why
      (row_refused one table is lines reading.rows reading.good text _ bytes line.feed _ text_is stands some_bytes why
      (omega arith) (omega arith) fed
      (refuses reading.rows (reading_holds g table old now ahead taken stored reading))))

  -- no more than a buffer was read behind it
  near_line : IsFewAhead ahead line.size → (text left cut : List ℕ) (feed : Bool) (rest : List ℕ)
      → g.left now ≡ Some left → text ≡ joined_lines lines ++ (ahead ++ left)
      → StandsFirst (ahead ++ left) cut feed rest → (feed ≡ false → length cut ≢ 0) → line.size ≤ length cut
      → ReadsNear text (g.left now) (length lines)
  near_line few text left cut feed rest now_is text_is stands some long =
      let read = joined_lines lines ++ ahead in
      let here =
      line_there text lines (ahead ++ left) cut feed rest text_is reading.good.lack stands some in
      let size = here.size in
      let end = here.end in
      let count : length read ≡ bytes_in lines + length ahead =
      length-append (joined_lines lines) ahead ∙ ap (λ n. n + length ahead) (joined_size lines) in
      let behind = few.behind in
      let longest = few.longest in
      let whole : text ≡ read ++ left = text_is ∙ sym (append_assoc (joined_lines lines) ahead left) in
      record {
        count = length read;
        rest = now_is ∙ ap Some (sym (ap (drop (length read)) whole ∙ drop_at read left (length read) refl));
        most = omega arith;
        longest = omega arith;
      }

  near_text : IsFewAhead ahead line.size → (feed : Bool) → line.feed ≡ feed → (text left : List ℕ)
      → g.left now ≡ Some left → text ≡ joined_lines lines ++ (ahead ++ left)
      → ReadsNear text (g.left now) (length lines)
  near_text few true fed text left now_is text_is =
      let size = line_size in
      near_line few text left bytes true (after ++ left) now_is text_is
      (stands_on ahead left bytes true after (subst (λ f. StandsFirst ahead bytes f after) fed next.stands)
      (λ never. cc))
      (λ never. cc) (omega arith)
  near_text few false unfed text left now_is text_is =
      let size = line_size in
      let cut = cut_first left in
      let both = length-append bytes cut.line in
      near_line few text left (bytes ++ cut.line) cut.feed cut.after now_is text_is
      (stands_open ahead left bytes after (subst (λ f. StandsFirst ahead bytes f after) unfed next.stands) cut)
      (λ unended none. next.some unfed (omega arith)) (omega arith)

  near : IsFewAhead ahead line.size
      → IfSome (g.left old) (λ text. ReadsNear text (g.left now) (length stored + 1 - 1))
  near few =
      by_text (g.left old) (g.left now) (joined_lines lines ++ ahead)
      (λ text. ReadsNear text (g.left now) (length stored + 1 - 1)) reading.given
      (λ text left now_is text_is.
      let count = reading.good.count ∙ sym (ap length reading.same ∙ length-stored table reading.rows) in
      let number : length lines ≡ length stored + 1 - 1 = omega arith in
      subst (ReadsNear text (g.left now)) number
      (near_text few line.feed refl text left now_is (text_is ∙ append_assoc (joined_lines lines) ahead left)))

  -- the line is refused, and no more was read
  abbrev RefusesNear : RowsWhy → List ℕ → Type 0
  RefusesNear why text = Refuses why text × ReadsNear text (g.left now) (length stored + 1 - 1)

  refused_near : (why : RowsWhy) → IsFewAhead ahead line.size → IfSome (g.left old) (Refuses why)
      → IfSome (g.left old) (RefusesNear why)
  refused_near why few refused = map_told2 (g.left old) (λ text refuses stays. (refuses, stays)) refused (near few)

  -- what the reading stops at
  pub stops_by_bytes : (why : RowsWhy) → IsFewAhead ahead line.size → ChecksLine line taken (Err why)
      → g.faults old ≤ g.faults now
      → ReadsRows g table old now (Err (stop_behind (length stored) (rowstops.Refused why)))
  stops_by_bytes why few checked later =
      record { finds = refused_near why few (bytes_refused why checked); later = later; rose = λ never. cc }

  pub stops_by_row : (end : ℕ) (grown : List (List Stored)) (stop : RowStop) → IsFewAhead ahead line.size
      → ChecksLine line taken (Ok end)
      → ((rows : Rows) → HoldsRows table rows stored → AddsRow table rows bytes grown (Err stop))
      → g.faults old ≤ g.faults now → ReadsRows g table old now (Err (stop_behind (length stored) stop))
  stops_by_row end grown (rowstops.Refused why) few checked adds later =
      record { finds = refused_near why few (next_refused end why checked adds); later = later; rose = λ never. cc }
  stops_by_row end grown rowstops.Memory few checked adds later =
      record { finds = tt; later = later; rose = λ never. cc }
