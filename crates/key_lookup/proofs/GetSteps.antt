-- The line of the row that was found.
use Rattle.std.proofs.Common.{◌≡◌, ℕ, ◌≤◌, false, List, length, get_or, Option, Some, None, Result, Ok, Err}
use Rattle.std.proofs.Common.{refl, sym, ap, ◌∙◌, subst, arith}
use Rattle.std.proofs.lemmas.List.{append-nil}
use Rattle.std.proofs.lemmas.Option.{same_Some}
use Rattle.page_source.specs.declared.objects.PageSource.{Ghosts as FileOf}
use Rattle.page_source.specs.declared.checks.Stop.{Stop}
use Rattle.page_source.specs.declared.checks.Stop.TheVariants as stops
use Rattle.page_source.specs.Checks.{Stops}
use Rattle.page_source.specs.declared.objects.ByteSink.{Ghosts as SinkOf}
use Rattle.page_source.specs.Calls.{StopsOver}
use Rattle.page_source.specs.Objects.{GrowsBy, GrowsByPart}
use Rattle.page_source.specs.Pages.{page_count}
use Rattle.page_source.proofs.Told.{map_told}
use Rattle.column_values.specs.declared.value.Value.{Value}
use Rattle.column_values.specs.declared.value.Value.TheVariants.{Null}
use Rattle.column_values.specs.Order.{Key}
use Rattle.compact_record.specs.Reading.{place_of}
use Rattle.space_header.specs.Header.{size_of}
use Rattle.extent_map.specs.Head.{HeaderChecks}
use Rattle.row_text.specs.Line.{line_of}
use Rattle.schema_text.specs.TableDef.{TableDef, column_at}
use Rattle.schema_text.specs.Grammar.{IsTable}
use Rattle.schema_text.specs.IndexFields.{field_of_column, leaf_fields}
use Rattle.tree_walk.specs.Index.{Index, Row}
use Rattle.table_check.specs.Trees.{index_in, clustered_tree}
use Rattle.table_check.specs.Values.{pages_of_record}
use Rattle.table_check.specs.First.{TakesSteps}
use Rattle.sql_dump.specs.declared.stop.WriteStop.{WriteStop}
use Rattle.sql_dump.specs.declared.stop.WriteStop.TheVariants as writes
use Rattle.sql_dump.specs.Stops.{Writes, WritesOver}
use Rattle.sql_dump.specs.Cells.{ReadsRow, CanReadRow, row_on}
use Rattle.key_lookup.specs.declared.checked_row.Found.{Found}
use Rattle.key_lookup.specs.Record.{HasFoundValue, found_pages, IsFoundRow}
use Rattle.key_lookup.specs.GetFirst.{FoundRecordChecks, FoundRowChecks, GetFirst}
use Rattle.key_lookup.specs.declared.stop.GetStop.{GetStop}
use Rattle.key_lookup.specs.declared.stop.GetStop.TheVariants as gets
use Rattle.key_lookup.specs.Get.{IsLineFound, GetsByKey, GetsOver, get_steps}
use Rattle.key_lookup.specs.LookUp.{IsFoundRowAt}
use Rattle.key_lookup.specs.Leaf.{row_at_origin}
use Rattle.key_lookup.specs.Stops.{get_stop_of, get_stop_of_write}
use Rattle.key_lookup.proofs.Readable.{AreFound, found_reads, some_found, can_read}

-- nothing is a prefix of each text
pub grew_by_none : (old : Option (List ℕ)) (line : List ℕ) → GrowsByPart old old line
grew_by_none None line = refl
grew_by_none (Some old) line = (0, omega arith, ap Some (sym (append-nil old)))

-- where the checks break off, nothing was written
pub stopped : {O : Type 0} (o : SinkOf O) (file : List ℕ) (table : TableDef) (key : Key) (stop : Stop) (sink : O)
    → Stops stop (GetFirst file table key) → GetsByKey o file table key (Err (get_stop_of stop)) sink sink
stopped o file table key (stops.Broken fault) sink x = (x, refl)
stopped o file table key stops.Source sink x = ((λ line found. grew_by_none (o.written sink) line), (λ none. refl))
stopped o file table key stops.Memory sink x = tt

-- the stated size lies within the file
pub sized : (file : List ℕ) (table : TableDef) (key : Key) → GetFirst file table key None
    → size_of file ≤ page_count file
unfolding GetFirst HeaderChecks
sized file table key good = good.0.1.1.1.1.1.0.within

module _ (file : List ℕ) (table : TableDef) (key : Key) (is : IsTable table) (good : GetFirst file table key None)
    (page : List ℕ) (found : Found) (at : IsFoundRowAt (clustered_tree file table) key page found) where
  abbrev index : Index
  index = clustered_tree file table

  abbrev row : Row
  row = row_at_origin found.number found.origin

  row_checks : FoundRowChecks index (Some row) None
  unfolding GetFirst
  row_checks = subst (λ (o : Option Row). FoundRowChecks index o None) at.row good.1.1

  checks : FoundRecordChecks file found.number page found.origin (leaf_fields table 0) (λ n. false) None
  unfolding index_in
  checks = subst (λ (q : List ℕ). FoundRecordChecks file found.number q found.origin (leaf_fields table 0) (λ n. false)
      None) (sym at.held) row_checks

  few : length (pages_of_record file page found.origin (leaf_fields table 0)) ≡ found.pages
  unfolding index_in
  few = ap (λ (q : List ℕ). length (pages_of_record file q found.origin (leaf_fields table 0))) at.held
      ∙ ap (λ (o : Option Row). length (found_pages index o)) (sym at.row) ∙ sym at.pages

  -- the row can be read
  pub readable : CanReadRow file (row_on table page found.origin) found.pages
  readable = can_read file (sized file table key good) table is found.number page found.origin (λ n. false) checks
      found.pages (omega (arith, few))

  -- the line of the row is the one that is found
  found_row_is : (row_values : List Value) → AreFound file table page found.origin row_values
      → IsFoundRow file table row row_values
  unfolding index_in
  found_row_is row_values are = record {
    count = are.count;
    each = λ c within. subst (λ (q : List ℕ). HasFoundValue file (column_at table c).kind q
        (place_of q found.origin (leaf_fields table 0) (field_of_column table c)) (get_or row_values c Null)) at.held
        (are.each c within);
  }

  line_found : (row_values : List Value) → AreFound file table page found.origin row_values
      → IsLineFound file table key (line_of table row_values)
  line_found row_values are = record {
    good = good;
    row = row;
    found = at.row;
    row_values = row_values;
    are = found_row_is row_values are;
    is = refl;
  }

  -- each line that is found has such values
  values_are : (line : List ℕ) → (found_line : IsLineFound file table key line)
      → AreFound file table page found.origin found_line.row_values
  unfolding index_in
  values_are line l =
      let same : l.row ≡ row = same_Some l.row row (sym l.found ∙ at.row) in
      let are = subst (λ (r : Row). IsFoundRow file table r l.row_values) same l.are in
      record {
        count = are.count;
        each = λ c within. subst (λ (q : List ℕ). HasFoundValue file (column_at table c).kind q
            (place_of q found.origin (leaf_fields table 0) (field_of_column table c)) (get_or l.row_values c Null))
            (sym at.held) (are.each c within);
      }

  reads : (row_values : List Value) → AreFound file table page found.origin row_values
      → ReadsRow file (row_on table page found.origin) row_values
  reads = found_reads file (sized file table key good) table is found.number page found.origin (λ n. false) checks

  some : (row_values : List Value) × AreFound file table page found.origin row_values
  some = some_found file (sized file table key good) table is found.number page found.origin (λ n. false) checks

  module _ {O : Type 0} (o : SinkOf O) (sink now : O) where
    -- the line was written
    pub written : ((row_values : List Value) → ReadsRow file (row_on table page found.origin) row_values
        → GrowsBy (o.written sink) (o.written now) (line_of table row_values)) → (done : Unit {0})
        → GetsByKey o file table key (Ok done) sink now
    written puts done = (line_of table some.0, line_found some.0 some.1, puts some.0 (reads some.0 some.1))

    -- a part of the line was written
    pub cut_off : (end : WriteStop)
        → ((row_values : List Value) → ReadsRow file (row_on table page found.origin) row_values
        → Writes {A = Unit {0}} (Err end) (o.written sink) (o.written now) (line_of table row_values))
        → GetsByKey o file table key (Err (get_stop_of_write end)) sink now
    cut_off (writes.Broken fault) puts = absurd (puts some.0 (reads some.0 some.1))
    cut_off writes.Source puts = (
      (λ line l. subst (GrowsByPart (o.written sink) (o.written now)) (sym l.is)
          (puts l.row_values (reads l.row_values (values_are line l)))),
      (λ none. absurd (none (line_of table some.0) (line_found some.0 some.1))),
    )
    cut_off writes.Sink puts = (line_of table some.0, line_found some.0 some.1, puts some.0 (reads some.0 some.1))

-- fewer steps than a bound
pub takes_fewer : {S : Type 0} {g : FileOf S} {source : S} {steps more spent : ℕ} → spent ≤ more
    → TakesSteps g source get_steps steps more → TakesSteps g source get_steps steps spent
takes_fewer {g = g} {source = source} less takes = record {
  told = map_told (g.content source) (λ file few. omega (arith, less, few)) takes.told;
  always = let a = takes.always in omega (arith, less, a);
}

-- what is left of both objects
not_source : (stop : Stop) → ◌≡◌ {A = Result (Unit {0}) GetStop} (Err (get_stop_of stop)) (Err gets.Source)
    → ◌≡◌ {A = Result (Option Found) Stop} (Err stop) (Err stops.Source)
not_source (stops.Broken fault) e = absurd (cc)
not_source stops.Source e = refl
not_source stops.Memory e = absurd (cc)

not_sink : (stop : Stop) → ◌≡◌ {A = Result (Unit {0}) GetStop} (Err (get_stop_of stop)) (Err gets.Sink) → ⊥
not_sink (stops.Broken fault) e = cc
not_sink stops.Source e = cc
not_sink stops.Memory e = cc

pub not_refused : (stop : Stop) → ◌≡◌ {A = Result (Unit {0}) GetStop} (Err (get_stop_of stop)) (Err gets.Refused) → ⊥
not_refused (stops.Broken fault) e = cc
not_refused stops.Source e = cc
not_refused stops.Memory e = cc

pub write_refused : (end : WriteStop)
    → ◌≡◌ {A = Result (Unit {0}) GetStop} (Err (get_stop_of_write end)) (Err gets.Refused) → ⊥
write_refused (writes.Broken fault) e = cc
write_refused writes.Source e = cc
write_refused writes.Sink e = cc

write_source : (end : WriteStop) → ◌≡◌ {A = Result (Unit {0}) GetStop} (Err (get_stop_of_write end)) (Err gets.Source)
    → ◌≡◌ {A = Result (Unit {0}) WriteStop} (Err end) (Err writes.Source)
write_source (writes.Broken fault) e = absurd (cc)
write_source writes.Source e = refl
write_source writes.Sink e = absurd (cc)

write_sink : (end : WriteStop) → ◌≡◌ {A = Result (Unit {0}) GetStop} (Err (get_stop_of_write end)) (Err gets.Sink)
    → ◌≡◌ {A = Result (Unit {0}) WriteStop} (Err end) (Err writes.Sink)
write_sink (writes.Broken fault) e = absurd (cc)
write_sink writes.Source e = absurd (cc)
write_sink writes.Sink e = refl

write_absent : (end : WriteStop) → ◌≡◌ {A = Result (Unit {0}) GetStop} (Err (get_stop_of_write end)) (Err gets.Absent)
    → ⊥
write_absent (writes.Broken fault) e = cc
write_absent writes.Source e = cc
write_absent writes.Sink e = cc

write_memory : (end : WriteStop) → ◌≡◌ {A = Result (Unit {0}) GetStop} (Err (get_stop_of_write end)) (Err gets.Memory)
    → ⊥
write_memory (writes.Broken fault) e = cc
write_memory writes.Source e = cc
write_memory writes.Sink e = cc

module _ {S O : Type 0} (g : FileOf S) (o : SinkOf O) (old mid new : S) (sink now : O) {steps steps_now : ℕ} where
  pub over_stop : (stop : Stop) → StopsOver {A = Option Found} g old new steps steps_now (Err stop)
      → GetsOver g o old new sink sink steps steps_now (Err (get_stop_of stop))
  over_stop stop over = record {
    same = over.same;
    source_later = over.cause.later;
    sink_later = omega arith;
    source_rose = λ e. over.cause.source (not_source stop e);
    sink_rose = λ e. absurd (not_sink stop e);
    absent = λ e. refl;
    unwritten = λ e. refl;
    asked = over.asked;
  }

  pub over_absent : (found : Option Found) → StopsOver {A = Option Found} g old new steps steps_now (Ok found)
      → GetsOver g o old new sink sink steps steps_now (Err gets.Absent)
  over_absent found over = record {
    same = over.same;
    source_later = over.cause.later;
    sink_later = omega arith;
    source_rose = λ e. absurd (cc);
    sink_rose = λ e. absurd (cc);
    absent = λ e. refl;
    unwritten = λ e. refl;
    asked = over.asked;
  }

  pub over_cut : {spent : ℕ} (found : Option Found) (end : WriteStop)
      → StopsOver {A = Option Found} g old mid steps spent (Ok found)
      → WritesOver {A = Unit {0}} g o mid new sink now spent steps_now (Err end)
      → GetsOver g o old new sink now steps steps_now (Err (get_stop_of_write end))
  over_cut found end first over = record {
    same = over.same ∙ first.same;
    source_later = omega (arith, first.cause.later, over.source_later);
    sink_later = over.sink_later;
    source_rose = λ e. let r = over.source_rose (write_source end e) in omega (arith, r, first.cause.later);
    sink_rose = λ e. over.sink_rose (write_sink end e);
    absent = λ e. absurd (write_absent end e);
    unwritten = λ e. absurd (write_memory end e);
    asked = omega (arith, first.asked, over.asked);
  }

  pub over_done : {spent : ℕ} (found : Option Found) (done : Unit {0})
      → StopsOver {A = Option Found} g old mid steps spent (Ok found)
      → WritesOver {A = Unit {0}} g o mid new sink now spent steps_now (Ok done)
      → GetsOver g o old new sink now steps steps_now (Ok done)
  over_done found done first over = record {
    same = over.same ∙ first.same;
    source_later = omega (arith, first.cause.later, over.source_later);
    sink_later = over.sink_later;
    source_rose = λ e. absurd (cc);
    sink_rose = λ e. absurd (cc);
    absent = λ e. absurd (cc);
    unwritten = λ e. absurd (cc);
    asked = omega (arith, first.asked, over.asked);
  }
