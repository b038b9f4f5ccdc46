-- What a dump is of a file whose checks hold, and how it ends.
use Rattle.std.proofs.Common.{ℕ, List, length, map, filter, Option, Some, None, Ok, Err, refl, sym, ap, arith}
use Rattle.std.specs.List.{range_with_len}
use Rattle.std.proofs.lemmas.List.{append-nil}
use Rattle.std.proofs.lemmas.List.FromFn.{get_or-map-range_with_len}
use Rattle.page_source.specs.declared.objects.ByteSink.{Ghosts as SinkOf}
use Rattle.page_source.specs.declared.checks.Stop.{Stop}
use Rattle.page_source.specs.declared.checks.Stop.TheVariants as stops
use Rattle.page_source.specs.Checks.{Stops}
use Rattle.page_source.specs.Pages.{page_of}
use Rattle.page_source.specs.Objects.{GrowsBy, GrowsByPart}
use Rattle.fil_frame.specs.Frame.{kind_of, space_of}
use Rattle.space_header.specs.Header.{size_of, limit_of}
use Rattle.extent_map.specs.Extents.{is_used}
use Rattle.extent_map.proofs.Used.{used_below}
use Rattle.inode_segments.specs.Inodes.{segments}
use Rattle.space_audit.specs.Owners.{owner_of}
use Rattle.space_audit.specs.Audit.{AuditChecks}
use Rattle.space_audit.specs.Space.{SpaceView, IsAuditOf}
use Rattle.space_audit.specs.Marks.{is_in}
use Rattle.schema_text.specs.Formats.{flags_of}
use Rattle.schema_text.specs.TableDef.{TableDef}
use Rattle.schema_text.specs.Grammar.{IsTable}
use Rattle.row_text.specs.Line.{text_of}
use Rattle.column_values.specs.declared.value.Value.{Value}
use Rattle.tree_walk.specs.Index.{Index}
use Rattle.tree_walk.specs.Leaf.{IsWalked}
use Rattle.tree_walk.specs.Walk.{IsEndsOf}
use Rattle.table_check.specs.Laws.{ChecksAreValidity}
use Rattle.table_check.specs.declared.table.Checked.{Checked}
use Rattle.table_check.specs.declared.table.Table.{Table}
use Rattle.table_check.specs.Trees.{index_in, clustered_tree, pages_of_trees, segments_of_trees, all_tree_pages}
use Rattle.table_check.specs.Live.{LiveView, HasGivenLive}
use Rattle.table_check.specs.First.{First, IsChecked, IsCheckedTable}
use Rattle.sql_dump.specs.declared.stop.WriteStop.{WriteStop}
use Rattle.sql_dump.specs.declared.stop.WriteStop.TheVariants as ends
use Rattle.sql_dump.specs.Stops.{Writes, dump_stop_of, dump_stop_of_checks}
use Rattle.sql_dump.specs.Laws.{CheckedCanBeRead}
use Rattle.sql_dump.specs.Lines.{ReadsRows, CanWrite}
use Rattle.sql_dump.specs.Dump.{IsDumpOf, Dumps}
use Rattle.sql_dump.proofs.Soundness.{ChainLaws, TableValues, table_values}

-- what an audit that found nothing knows of a file
space_of_file : List ℕ → SpaceView
space_of_file file = record {
  size = size_of file;
  id = space_of (page_of file 0);
  owners = map (owner_of file) (range_with_len 0 (size_of file));
  kinds = map (λ n. kind_of (page_of file n)) (range_with_len 0 (limit_of file));
  used = length (filter (is_used file) (range_with_len 0 (size_of file)));
  segments = segments file;
}

audited : (file : List ℕ) (flags : ℕ) → AuditChecks file flags None → IsAuditOf file (space_of_file file)
unfolding space_of_file
audited file flags sound = record {
  flags = flags;
  sound = sound;
  has_size = refl;
  has_id = refl;
  has_owners = refl;
  has_kinds = λ n used. get_or-map-range_with_len (λ n. kind_of (page_of file n)) 0 (limit_of file) n n 0
      (used_below file n used) (omega arith);
  has_used = refl;
  has_segments = refl;
}

-- a table in which no rule is broken: its clustered tree, and the values of its rows
pub record SoundTable (file : List ℕ) (table : TableDef) : Type 0 where
  pub walked : IsWalked (clustered_tree file table)
  pub found : TableValues file table

pub sound_table : (file : List ℕ) (table : TableDef) → IsTable table → CheckedCanBeRead → First file table None
    → SoundTable file table
unfolding First index_in
sound_table file table is laws first =
    let space = (laws.audit file (flags_of table.format)).0 first.0 in
    let walked : IsWalked (clustered_tree file table) = record {
      space = space_of_file file;
      audit = audited file (flags_of table.format) first.0;
      taken = is_in (pages_of_trees file table 0);
      named = is_in (segments_of_trees file table 0);
      holds = first.1.0.0 0 (omega (arith, is.clustered));
    } in
    let chains : ChainLaws file = record {
      one = laws.one;
      whole = laws.whole;
      goes_on = laws.goes_on;
      least = space.extents.head.size.most;
      most = space.extents.head.size.within;
    } in
    record {
      walked = walked;
      found = table_values file table (is_in (all_tree_pages file table)) is chains laws.readable walked first.1.1.0;
    }

-- the dump of a sound table
dump_of : (file : List ℕ) (table : TableDef) (found : TableValues file table)
    → IsDumpOf file table (text_of table found.all)
dump_of file table found = record { rows = found.all; are = found.are; is = refl }

no_part : (o : Option (List ℕ)) (text : List ℕ) → GrowsByPart o o text
no_part None text = refl
no_part (Some old) text = (0, omega arith, ap Some (sym (append-nil old)))

module _ {O : Type 0} (o : SinkOf O) (file : List ℕ) (table : TableDef) where
  -- the checks ended it
  pub checks_end : (stop : Stop) (sink : O) → IsTable table → CheckedCanBeRead → Stops stop (First file table)
      → Dumps o file table (Err (dump_stop_of_checks stop)) sink sink
  checks_end (stops.Broken fault) sink is laws first = (first, refl)
  checks_end stops.Source sink is laws first = (
    λ sound.
        let found = (sound_table file table is laws sound).found in
        (text_of table found.all, dump_of file table found, no_part (o.written sink) (text_of table found.all)),
    λ _. refl,
  )
  checks_end stops.Memory sink is laws first = tt

  -- the writing ended it
  pub writing_ends : (e : WriteStop) (a b : O) → IsTable table → CheckedCanBeRead → First file table None
      → ((all : List (List Value)) → ReadsRows file table all
      → Writes {A = Unit {0}} (Err e) (o.written a) (o.written b) (text_of table all))
      → Dumps o file table (Err (dump_stop_of e)) a b
  writing_ends (ends.Broken fault) a b is laws sound writes =
      let found = (sound_table file table is laws sound).found in
      absurd (writes found.all found.reads)
  writing_ends ends.Source a b is laws sound writes =
      let found = (sound_table file table is laws sound).found in (
        λ _. (text_of table found.all, dump_of file table found, writes found.all found.reads),
        λ broken. absurd (broken sound),
      )
  writing_ends ends.Sink a b is laws sound writes =
      let found = (sound_table file table is laws sound).found in
      (sound, (text_of table found.all, dump_of file table found, writes found.all found.reads))

  -- all was written
  pub all_written : (checked : Checked) (a b : O) → IsTable table → CheckedCanBeRead → ChecksAreValidity
      → First file table None → IsChecked file table checked
      → ((all : List (List Value)) → ReadsRows file table all
      → GrowsBy (o.written a) (o.written b) (text_of table all))
      → Dumps o file table (Ok checked) a b
  all_written checked a b is laws validity sound numbers writes =
      let found = (sound_table file table is laws sound).found in
      record {
        sound = sound;
        valid = (validity file table).0 sound;
        numbers = numbers;
        written = (text_of table found.all, dump_of file table found, writes found.all found.reads);
      }

-- the rows can be written
pub can_write : (file : List ℕ) (table : TableDef) (checked : Table) (rows : LiveView) → IsTable table
    → CheckedCanBeRead
    → First file table None → IsCheckedTable file table checked
    → ((index : Index) → IsEndsOf index checked.clustered → HasGivenLive index rows 0)
    → CanWrite file table rows checked.chain_pages
can_write file table checked rows is laws sound numbers given =
    let it = sound_table file table is laws sound in
    record {
      walked = it.walked;
      given = given (clustered_tree file table) numbers.ends;
      few = omega (arith, numbers.has_chain_pages);
      all = it.found.all;
      reads = it.found.reads;
    }
