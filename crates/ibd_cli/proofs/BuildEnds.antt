-- How a build ends, by how far it came.
use Rattle.std.proofs.Common.{◌≡◌, ℕ, List, Option, Some, None, Result, Ok, Err, IfSome, length}
use Rattle.std.proofs.Common.{refl, sym, ap, ◌∙◌, subst, inl, inr}
use Rattle.page_source.specs.Faults.{Rose}
use Rattle.page_source.specs.Objects.{Store, IsFresh, GrowsBy, GrowsByPart}
use Rattle.page_source.proofs.Told.{map_told, map_told2}
use Rattle.schema_text.specs.TableDef.{TableDef}
use Rattle.schema_text.specs.Grammar.{IsTextOf}
use Rattle.schema_text.specs.declared.errors.SchemaWhy.{SchemaWhy}
use Rattle.space_builder.specs.declared.built.Built.{Built}
use Rattle.space_builder.specs.declared.built.BuildStop.{BuildStop}
use Rattle.space_builder.specs.declared.built.BuildStop.TheVariants as stops
use Rattle.row_store.specs.StoredRows.{Rows}
use Rattle.space_builder.specs.layout.Layout.{layout_size}
use Rattle.space_builder.specs.build.RootOrder.{RootOrderChecks}
use Rattle.space_builder.specs.build.Build.{Builds, BuildsWithCause, ReadsText, LacksHead, IsUncalledOrSized}
use Rattle.space_builder.specs.build.Outcome.{ComesTo, RootsHaveOneAnswer, BuildHasOneOutcome, LeavesStore}
use Rattle.space_builder.proofs.Builds.{fresh_lacks}
use Rattle.command_line.specs.declared.schema_file.SchemaStop.{SchemaStop}
use Rattle.command_line.specs.declared.schema_file.SchemaStop.TheVariants.{Refused, Source, Memory}
use Rattle.ibd_cli.specs.declared.status.Status.{Status}
use Rattle.ibd_cli.specs.declared.status.Status.TheVariants as statuses
use Rattle.ibd_cli.specs.Run.{EndsAs}
use Rattle.ibd_cli.specs.Build.{Objects, Meanings, Texts, TellsTexts, built_line, IsRefusedForBuild, GivesBuilt}
use Rattle.ibd_cli.specs.Build.{WritesNothing, ReadsTexts, BuildsWhole, LeavesUncalledOrSized, EndsBuild, HasBuilt}
use Rattle.ibd_cli.specs.Build.{OfStore}
use Rattle.ibd_cli.specs.Build.{DumpsAsRead, ServesBuild}
use Rattle.ibd_cli.specs.Laws.{BuiltFilesDumpAsRead}
use Rattle.command_line.specs.SchemaFile.{ReadsSchema}
use Rattle.ibd_cli.specs.Answers.{status_of_schema, status_of_build}
use Rattle.command_line.proofs.OneAnswer.{HasOneAnswer}
use Rattle.command_line.proofs.OneAnswer.{no_table}
use Rattle.ibd_cli.proofs.Outcomes.{one_refusal}
use Rattle.command_line.proofs.SchemaEnds.{at_told, Stopped, HasTable}
use Rattle.ibd_cli.proofs.Serving.{is_source, never_sink}
use Rattle.ibd_cli.proofs.BuildOutcomes.{status_of_outcome, never_refused, refused_as_root, defines_one}
use Rattle.ibd_cli.proofs.BuiltDumps.{holds_file}

-- a text is that of one table or refused in one way, the roots of a table have one answer, and so have a table and a
-- text, of which what is built is dumped as it was read
pub record BuildsOnce : Type 0 where
  pub texts : (text : List ℕ) → HasOneAnswer text
  pub roots : RootsHaveOneAnswer
  pub outcome : BuildHasOneOutcome
  pub dumps : BuiltFilesDumpAsRead

never_built : (stop : SchemaStop) → HasBuilt (status_of_schema stop) → ⊥
never_built (Refused line why) built = built
never_built Source built = built
never_built Memory built = built

never_store : (stop : SchemaStop) → status_of_schema stop ≡ statuses.StoreFault → ⊥
never_store (Refused line why) is = cc
never_store Source is = cc
never_store Memory is = cc

refused_with : (text : List ℕ) (one : HasOneAnswer text) (left : Option (List ℕ)) (stop : SchemaStop)
    → ReadsSchema text left (Err stop) → (line : ℕ) (why : SchemaWhy) → IsRefusedForBuild text line why
    → EndsAs (statuses.SchemaRefused line why) (status_of_schema stop)
refused_with text one left (Refused l w) reads line why refused =
    elim refused [
      | inl as_text ↦ one_refusal text one l line w why reads as_text
      | inr root ↦ absurd (no_table text one l w root.1.0 reads root.1.1)
    ]
refused_with text one left Source reads line why refused = tt
refused_with text one left Memory reads line why refused = tt

gives_with : (texts : Texts) (one : HasOneAnswer texts.schema) (left : Option (List ℕ)) (stop : SchemaStop)
    → ReadsSchema texts.schema left (Err stop) → (given : Status) (output : List ℕ) → GivesBuilt texts given output
    → EndsAs given (status_of_schema stop)
gives_with texts one left (Refused l w) reads statuses.Done output gives =
    absurd (no_table texts.schema one l w gives.0 reads gives.1)
gives_with texts one left (Refused l w) reads (statuses.SchemaRefused line why) output gives =
    refused_with texts.schema one left (Refused l w) reads line why gives.0
gives_with texts one left (Refused l w) reads (statuses.RowsRefused line why) output gives =
    absurd (no_table texts.schema one l w gives.0.0 reads gives.0.1)
gives_with texts one left (Refused l w) reads statuses.Full output gives =
    absurd (no_table texts.schema one l w gives.0.0 reads gives.0.1)
gives_with texts one left (Refused l w) reads _ output gives = absurd gives
gives_with texts one left Source reads given output gives = tt
gives_with texts one left Memory reads given output gives = tt

module _ (once : BuildsOnce) {Q R O T : Type 0} (g : Meanings Q R O T) (old now : Objects Q R O T) where
  -- the schema text ended it
  pub record Unread (stop : SchemaStop) : Type 0 where
    pub schema : Stopped g.schema old.schema now.schema stop
    pub rows : now.rows ≡ old.rows
    pub nothing : WritesNothing old now
    pub fresh : IsFresh (g.target.told old.target)

  unread_ends : (stop : SchemaStop) → Unread stop → EndsBuild g old now (status_of_schema stop)
  unread_ends (Refused line why) unread =
      (map_told (g.schema.left old.schema) (λ text reads. inl reads) unread.schema.reads, unread.rows, unread.nothing)
  unread_ends Source unread = unread.nothing
  unread_ends Memory unread = (
    subst (λ (target : T). LacksHead (g.target.told target)) (sym unread.nothing.target)
        (fresh_lacks (g.target.told old.target) unread.fresh),
    inl unread.nothing.target,
    unread.nothing.out,
  )

  pub build_unread : (stop : SchemaStop) → Unread stop → ServesBuild g old now (status_of_schema stop)
  build_unread stop unread =
      let left = g.schema.left now.schema in
      record {
        read = unread.schema.read;
        untouched = λ text told none. (unread.rows, unread.nothing);
        alone = λ text line why told refused.
            refused_with text (once.texts text) left stop (at_told _ _ text told unread.schema.reads) line why refused;
        ends = unread_ends stop unread;
        complete = λ texts given output tells gives.
            gives_with texts (once.texts texts.schema) left stop
            (at_told _ _ texts.schema tells.schema unread.schema.reads) given output gives;
        source = λ is. inl (unread.schema.cause (is_source stop is));
        sink = λ is. absurd (never_sink stop is);
        store = λ is. absurd (never_store stop is);
        dumps = λ built. absurd (never_built stop built);
      }

  -- the schema text is that of a table, of which was built
  pub record Reached (table : TableDef) (result : Result Built BuildStop) : Type 0 where
    pub has : HasTable g.schema old.schema now.schema table
    pub builds : Builds table (g.rows.left old.rows) result (g.target.told old.target) (g.target.told now.target)
    pub reads : ReadsText g.rows.left old.rows now.rows result
    pub cause : BuildsWithCause (g.rows.faults old.rows) (g.rows.faults now.rows) (g.target.faults old.target)
        (g.target.faults now.target) result
    pub untouched : LeavesStore result → now.target ≡ old.target
    pub memory : result ≡ Err stops.Memory
        → IsUncalledOrSized g.target.told table (g.rows.left old.rows) old.target now.target

  module _ (table : TableDef) where
    -- its schema text, where it is told
    table_of : (result : Result Built BuildStop) → Reached table result → (text : List ℕ)
        → g.schema.left old.schema ≡ Some text → IsTextOf table text
    table_of result reached text told = (at_told _ (g.schema.left old.schema) text told reached.has.reads).0

    of_schema : (result : Result Built BuildStop) → Reached table result
        → IfSome (g.schema.left old.schema) (IsTextOf table)
    of_schema result reached = map_told (g.schema.left old.schema) (λ text reads. reads.0) reached.has.reads

    -- the answer where the roots are in order
    good_roots : (result : Result Built BuildStop) → Reached table result → RootOrderChecks table None
        → (status : Status) (text : List ℕ) (line : ℕ) (why : SchemaWhy) → g.schema.left old.schema ≡ Some text
        → IsRefusedForBuild text line why → EndsAs (statuses.SchemaRefused line why) status
    good_roots result reached good status text line why told refused =
        absurd (never_refused text (once.texts text) table (table_of result reached text told) once.roots good line why
        refused)

    -- and what the texts define, where something comes of them
    comes_as : (result : Result Built BuildStop) → Reached table result → (texts : Texts) → TellsTexts g old texts
        → (outcome : Result Rows BuildStop) → ComesTo table texts.rows outcome → (given : Status) (output : List ℕ)
        → GivesBuilt texts given output → status_of_outcome outcome ≡ given
    comes_as result reached texts tells outcome comes given output gives =
        defines_one texts.schema (once.texts texts.schema) table (table_of result reached texts.schema tells.schema)
        once.outcome texts.rows output given outcome comes gives

    stop_ends : (stop : BuildStop) → Reached table (Err stop) → now.out ≡ old.out
        → EndsBuild g old now (status_of_build stop)
    stop_ends (stops.RootPlace line) reached out = (
      map_told (g.schema.left old.schema) (λ text is. inr (refl, (table, is, reached.builds.0)))
          (of_schema (Err (stops.RootPlace line)) reached),
      reached.reads,
      record { out = out; target = reached.untouched tt },
    )
    stop_ends (stops.RowsRefused line why) reached out = (
      (
        table,
        of_schema (Err (stops.RowsRefused line why)) reached,
        (
          reached.builds.0,
          map_told2 (g.rows.left old.rows) (λ text bad near. (bad, near)) reached.builds.1 reached.reads,
        ),
      ),
      record { out = out; target = reached.untouched tt },
    )
    stop_ends stops.Full reached out = (
      (table, of_schema (Err stops.Full) reached, reached.builds.0),
      record { out = out; target = reached.untouched tt },
    )
    stop_ends stops.Source reached out = record { out = out; target = reached.untouched tt }
    stop_ends stops.Store reached out = ((table, of_schema (Err stops.Store) reached, reached.builds), out)
    stop_ends stops.Memory reached out =
        let left : LeavesUncalledOrSized g old now =
        elim (reached.memory refl) [
          | inl same ↦ inl same
          | inr sized ↦ inr (table, of_schema (Err stops.Memory) reached, sized)
        ] in (reached.builds, left, out)

    stop_alone : (stop : BuildStop) → Reached table (Err stop) → (text : List ℕ) (line : ℕ) (why : SchemaWhy)
        → g.schema.left old.schema ≡ Some text → IsRefusedForBuild text line why
        → EndsAs (statuses.SchemaRefused line why) (status_of_build stop)
    stop_alone (stops.RootPlace first) reached text line why told refused =
        refused_as_root text (once.texts text) table (table_of (Err (stops.RootPlace first)) reached text told)
        once.roots first reached.builds.0 line why refused
    stop_alone (stops.RowsRefused first reason) reached text line why told refused =
        good_roots (Err (stops.RowsRefused first reason)) reached reached.builds.0
        (status_of_build (stops.RowsRefused first reason)) text line why told refused
    stop_alone stops.Full reached text line why told refused =
        good_roots (Err stops.Full) reached reached.builds.0.0 (status_of_build stops.Full) text line why told refused
    stop_alone stops.Source reached text line why told refused = tt
    stop_alone stops.Store reached text line why told refused = tt
    stop_alone stops.Memory reached text line why told refused = tt

    stop_complete : (stop : BuildStop) → Reached table (Err stop) → (texts : Texts) → TellsTexts g old texts
        → (given : Status) (output : List ℕ) → GivesBuilt texts given output → EndsAs given (status_of_build stop)
    stop_complete (stops.RootPlace line) reached texts tells given output gives =
        comes_as (Err (stops.RootPlace line)) reached texts tells (Err (stops.RootPlace line)) reached.builds.0 given
        output gives
    stop_complete (stops.RowsRefused line why) reached texts tells given output gives =
        comes_as (Err (stops.RowsRefused line why)) reached texts tells (Err (stops.RowsRefused line why))
        (reached.builds.0, at_told _ (g.rows.left old.rows) texts.rows tells.rows reached.builds.1) given output gives
    stop_complete stops.Full reached texts tells given output gives =
        let full = reached.builds.0 in
        let of_text = at_told _ (g.rows.left old.rows) texts.rows tells.rows full.1.1.of_text in
        comes_as (Err stops.Full) reached texts tells (Err stops.Full) (full.0, (full.1.0, of_text, full.1.2)) given
        output gives
    stop_complete stops.Source reached texts tells given output gives = tt
    stop_complete stops.Store reached texts tells given output gives = tt
    stop_complete stops.Memory reached texts tells given output gives = tt

    stop_source : (stop : BuildStop) → status_of_build stop ≡ statuses.SourceFault → stop ≡ stops.Source
    stop_source (stops.RootPlace line) is = absurd (cc)
    stop_source (stops.RowsRefused line why) is = absurd (cc)
    stop_source stops.Full is = absurd (cc)
    stop_source stops.Source is = refl
    stop_source stops.Store is = absurd (cc)
    stop_source stops.Memory is = absurd (cc)

    stop_store : (stop : BuildStop) → status_of_build stop ≡ statuses.StoreFault → stop ≡ stops.Store
    stop_store (stops.RootPlace line) is = absurd (cc)
    stop_store (stops.RowsRefused line why) is = absurd (cc)
    stop_store stops.Full is = absurd (cc)
    stop_store stops.Source is = absurd (cc)
    stop_store stops.Store is = refl
    stop_store stops.Memory is = absurd (cc)

    stop_sink : (stop : BuildStop) → status_of_build stop ≡ statuses.SinkFault → ⊥
    stop_sink (stops.RootPlace line) is = cc
    stop_sink (stops.RowsRefused line why) is = cc
    stop_sink stops.Full is = cc
    stop_sink stops.Source is = cc
    stop_sink stops.Store is = cc
    stop_sink stops.Memory is = cc

    stop_built : (stop : BuildStop) → HasBuilt (status_of_build stop) → ⊥
    stop_built (stops.RootPlace line) built = built
    stop_built (stops.RowsRefused line why) built = built
    stop_built stops.Full built = built
    stop_built stops.Source built = built
    stop_built stops.Store built = built
    stop_built stops.Memory built = built

    -- the rows, or the target, ended it
    pub build_stopped : (stop : BuildStop) → Reached table (Err stop) → now.out ≡ old.out
        → ServesBuild g old now (status_of_build stop)
    build_stopped stop reached out =
        record {
          read = reached.has.read;
          untouched = λ text told none. absurd (none table (table_of (Err stop) reached text told));
          alone = λ text line why told refused. stop_alone stop reached text line why told refused;
          ends = stop_ends stop reached out;
          complete = λ texts given output tells gives. stop_complete stop reached texts tells given output gives;
          source = λ is. inr (reached.cause.source_rose (ap Err (stop_source stop is)));
          sink = λ is. absurd (stop_sink stop is);
          store = λ is. reached.cause.store_rose (ap Err (stop_store stop is));
          dumps = λ built. absurd (stop_built stop built);
        }

    -- all was built, and the line was put so
    whole : (built : Built) → Reached table (Ok built)
        → (Writes : Option (List ℕ) → Option (List ℕ) → List ℕ → Type 0)
        → Writes (g.out.written old.out) (g.out.written now.out) (built_line built.pages built.rows)
        → BuildsWhole g old now Writes
    whole built reached Writes writes =
        let b = reached.builds in
        let rows = b.1.0 in
        let line : built_line built.pages built.rows ≡ built_line (layout_size table rows) (length rows) =
        ap (λ (n : ℕ). built_line n built.rows) b.1.2.2 ∙ ap (built_line (layout_size table rows)) b.1.2.3 in (
          table,
          of_schema (Ok built) reached,
          (
            b.0,
            (
              rows,
              b.1.1,
              (
                b.1.2.0,
                b.1.2.1,
                subst (Writes (g.out.written old.out) (g.out.written now.out)) line writes,
              ),
            ),
          ),
        )

    -- and the target is dumped as the text of rows
    target_dumps : (built : Built) → Reached table (Ok built) → (texts : Texts) → TellsTexts g old texts
        → OfStore (g.target.told now.target) (DumpsAsRead texts)
    target_dumps built reached texts tells =
        let b = reached.builds in
        let of_text = at_told _ (g.rows.left old.rows) texts.rows tells.rows b.1.1.of_text in
        holds_file table b.1.0 (g.target.told old.target) (g.target.told now.target) b.1.2.1 (DumpsAsRead texts)
        (once.dumps texts table b.1.0 (table_of (Ok built) reached texts.schema tells.schema) (b.0, of_text, b.1.2.0))

    read_to_ends : (built : Built) → Reached table (Ok built) → ReadsTexts g old now
    read_to_ends built reached =
        record {
          schema = map_told (g.schema.left old.schema) (λ text reads. reads.1) reached.has.reads;
          rows = reached.reads;
        }

    done_complete : (built : Built) → Reached table (Ok built) → (texts : Texts) → TellsTexts g old texts
        → (given : Status) (output : List ℕ) → GivesBuilt texts given output → EndsAs given statuses.Done
    done_complete built reached texts tells given output gives =
        let b = reached.builds in
        let of_text = at_told _ (g.rows.left old.rows) texts.rows tells.rows b.1.1.of_text in
        comes_as (Ok built) reached texts tells (Ok b.1.0) (b.0, of_text, b.1.2.0) given output gives

    pub build_done : (built : Built) → Reached table (Ok built)
        → GrowsBy (g.out.written old.out) (g.out.written now.out) (built_line built.pages built.rows)
        → ServesBuild g old now statuses.Done
    build_done built reached grows =
        record {
          read = reached.has.read;
          untouched = λ text told none. absurd (none table (table_of (Ok built) reached text told));
          alone = λ text line why told refused.
              good_roots (Ok built) reached reached.builds.0 statuses.Done text line why told refused;
          ends = (whole built reached GrowsBy grows, read_to_ends built reached);
          complete = λ texts given output tells gives. done_complete built reached texts tells given output gives;
          source = λ is. absurd (cc);
          sink = λ is. absurd (cc);
          store = λ is. absurd (cc);
          dumps = λ whole texts tells. target_dumps built reached texts tells;
        }

    pub build_unput : (built : Built) → Reached table (Ok built)
        → GrowsByPart (g.out.written old.out) (g.out.written now.out) (built_line built.pages built.rows)
        → Rose (g.out.faults old.out) (g.out.faults now.out) → ServesBuild g old now statuses.SinkFault
    build_unput built reached grows rose =
        record {
          read = reached.has.read;
          untouched = λ text told none. absurd (none table (table_of (Ok built) reached text told));
          alone = λ text line why told refused. tt;
          ends = whole built reached GrowsByPart grows;
          complete = λ texts given output tells gives. tt;
          source = λ is. absurd (cc);
          sink = λ is. rose;
          store = λ is. absurd (cc);
          dumps = λ whole texts tells. target_dumps built reached texts tells;
        }

-- no other command's status ends it
pub build_never_usage : {Q R O T : Type 0} (g : Meanings Q R O T) (old now : Objects Q R O T) (status : Status)
    → ServesBuild g old now status → status ≡ statuses.Usage → ⊥
build_never_usage g old now status serves same = subst (EndsBuild g old now) same serves.ends
