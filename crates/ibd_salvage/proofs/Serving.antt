-- What a salvage answers where the schema text stops it, and where it is that of a table.
use Rattle.std.proofs.Common.{◌≡◌, ◌≢◌, ℕ, List, [], Option, Some, Ok, Err, inl, inr, refl, ap, subst, arith}
use Rattle.page_source.specs.declared.objects.ByteSource.{Ghosts as SourceOf}
use Rattle.page_source.specs.declared.rule.Fault.{Fault}
use Rattle.page_source.specs.Calls.{OfFile}
use Rattle.page_source.proofs.Told.{if_told, map_told}
use Rattle.schema_text.specs.TableDef.{TableDef}
use Rattle.schema_text.specs.Refusals.{BadLine}
use Rattle.schema_text.specs.Grammar.{IsTextOf}
use Rattle.schema_text.specs.declared.errors.SchemaWhy.{SchemaWhy}
use Rattle.salvage_model.specs.declared.stop.SalvageStop.TheVariants as stops
use Rattle.salvage_model.specs.Causes.{Counts, counts_of}
use Rattle.salvage_model.specs.Salvage.{Written}
use Rattle.command_line.specs.declared.schema_file.SchemaStop.{SchemaStop}
use Rattle.command_line.specs.declared.schema_file.SchemaStop.TheVariants.{Refused, Source, Memory}
use Rattle.command_line.specs.SchemaFile.{IsRefusedText, ReadsSchema}
use Rattle.command_line.proofs.SchemaEnds.{at_told, Stopped, HasTable}
use Rattle.command_line.proofs.OneAnswer.{HasOneAnswer, no_table, some_table, some_bad}
use Rattle.ibd_salvage.specs.declared.forms.Form.{Form}
use Rattle.ibd_salvage.specs.declared.objects.Objects.{Objects}
use Rattle.ibd_salvage.specs.declared.status.SalvageStatus.{SalvageStatus}
use Rattle.ibd_salvage.specs.declared.status.SalvageStatus.TheVariants as statuses
use Rattle.ibd_salvage.specs.Ends.{status_of_schema}
use Rattle.ibd_salvage.specs.Run.{Meanings, IsSalvage, SavesOver, IsOfFile, EndsAs, Serves}

refused_as : (text : List ℕ) (left : Option (List ℕ)) (stop : SchemaStop) (line : ℕ) (why : SchemaWhy)
    → status_of_schema stop ≡ statuses.SchemaRefused line why → ReadsSchema text left (Err stop)
    → IsRefusedText text line why
refused_as text left (Refused l w) line why is reads =
    let e : l ≡ line = cc in let f : w ≡ why = cc in
    subst (λ (n : ℕ). IsRefusedText text n why) e (subst (IsRefusedText text l) f reads)
refused_as text left Source line why is reads = absurd (cc)
refused_as text left Memory line why is reads = absurd (cc)

stopped_alone : (text : List ℕ) (one : HasOneAnswer text) (left : Option (List ℕ)) (stop : SchemaStop)
    → ReadsSchema text left (Err stop) → (line : ℕ) (why : SchemaWhy) → IsRefusedText text line why
    → EndsAs (statuses.SchemaRefused line why) (status_of_schema stop)
stopped_alone text one left (Refused l w) reads line why refused =
    let e = some_bad (record { line = l; why = w }) (record { line = line; why = why })
    (one (Err (record { line = l; why = w })) (Err (record { line = line; why = why })) reads refused) in
    ap (λ (bad : BadLine). statuses.SchemaRefused bad.line bad.why) e
stopped_alone text one left Source reads line why refused = tt
stopped_alone text one left Memory reads line why refused = tt

never_usage : (stop : SchemaStop) → status_of_schema stop ≡ statuses.Usage → ⊥
never_usage (Refused l w) is = cc
never_usage Source is = cc
never_usage Memory is = cc

never_sink : (stop : SchemaStop) → status_of_schema stop ≡ statuses.SinkFault → ⊥
never_sink (Refused l w) is = cc
never_sink Source is = cc
never_sink Memory is = cc

never_changed : (stop : SchemaStop) (fault : Fault) → status_of_schema stop ≡ statuses.Changed fault → ⊥
never_changed (Refused l w) fault is = cc
never_changed Source fault is = cc
never_changed Memory fault is = cc

is_source : (stop : SchemaStop) → status_of_schema stop ≡ statuses.SourceFault → stop ≡ Source
is_source (Refused l w) is = absurd (cc)
is_source Source is = refl
is_source Memory is = absurd (cc)

-- where the text is that of a table, only an input or memory stops the program before the file
stopped_saves : (text content : List ℕ) (one : HasOneAnswer text) (table : TableDef) (form : Form)
    (left : Option (List ℕ)) (counts : Counts) (heard : ℕ) (old : Written) (stop : SchemaStop)
    → ReadsSchema text left (Err stop) → IsTextOf table text
    → IsSalvage content table form counts counts heard heard old old (status_of_schema stop)
stopped_saves text content one table form left counts heard old (Refused l w) reads is =
    absurd (no_table text one l w table reads is)
stopped_saves text content one table form left counts heard old Source reads is =
    record { result = Err stops.Source; ends = refl; salvages = inl (record { asked = omega arith; same = refl }) }
stopped_saves text content one table form left counts heard old Memory reads is =
    record { result = Err stops.Memory; ends = refl; salvages = refl }

pub serves_stopped : {F Q O E : Type 0} (all : (text : List ℕ) → HasOneAnswer text) (g : Meanings F Q O E) (form : Form)
    (file : F) (schema schema_now : Q) (out : O) (err : E) (steps : ℕ) (stop : SchemaStop)
    → Stopped g.schema schema schema_now stop
    → Serves g form (record { file = file; schema = schema; out = out; err = err })
    (record { file = file; schema = schema_now; out = out; err = err }) steps steps (status_of_schema stop)
serves_stopped all g form file schema schema_now out err steps stop stopped =
    let left = g.schema.left schema_now in
    record {
      asked = never_usage stop;
      read = stopped.read;
      refused = λ line why is. (
        map_told (g.schema.left schema) (λ text reads. refused_as text left stop line why is reads) stopped.reads,
        record { file = refl; out = refl; err = refl; uncounted = refl },
      );
      untouched = λ text told none. record { file = refl; out = refl; err = refl; uncounted = refl };
      alone = λ text line why told refused.
          stopped_alone text (all text) left stop (at_told _ (g.schema.left schema) text told stopped.reads) line why
          refused;
      saves = λ text content table told tells is.
          stopped_saves text content (all text) table form left (counts_of g.file file) (g.err.faults err)
          (record { sink = g.out.written out; losses = g.err.written err }) stop
          (at_told _ (g.schema.left schema) text told stopped.reads) is;
      unwritten = λ before. (refl, refl);
      source = λ is. inr (stopped.cause (is_source stop is));
      sink = λ is. absurd (never_sink stop is);
      heard = omega arith;
      changed = λ fault is. absurd (never_changed stop fault is);
      content = refl;
      cost = record { told = if_told (g.file.content file) (λ content. omega arith); always = omega arith };
      fetches = record { told = if_told (g.file.content file) (λ content. omega arith); always = omega arith };
    }

not_usage : (status : SalvageStatus) → IsOfFile status → status ≢ statuses.Usage
not_usage status of is = subst IsOfFile is of

-- the file was gone through
pub serves_file : {F Q O E : Type 0} (all : (text : List ℕ) → HasOneAnswer text) (g : Meanings F Q O E) (form : Form)
    (file file_now : F) (schema schema_now : Q) (out out_now : O) (err err_now : E) (steps steps_now : ℕ)
    (table : TableDef) (status : SalvageStatus) → HasTable g.schema schema schema_now table
    → OfFile g.file file (λ content. IsSalvage content table form (counts_of g.file file) (counts_of g.file file_now)
    (g.err.faults err) (g.err.faults err_now) (record { sink = g.out.written out; losses = g.err.written err })
    (record { sink = g.out.written out_now; losses = g.err.written err_now }) status)
    → SavesOver g.file g.out g.err file file_now out out_now err err_now steps steps_now status
    → Serves g form (record { file = file; schema = schema; out = out; err = err })
    (record { file = file_now; schema = schema_now; out = out_now; err = err_now }) steps steps_now status
serves_file all g form file file_now schema schema_now out out_now err err_now steps steps_now table status has told
    over =
    record {
      asked = not_usage status over.of_file;
      read = has.read;
      refused = λ line why is. absurd (subst IsOfFile is over.of_file);
      untouched = λ text left none. absurd (none table (at_told _ (g.schema.left schema) text left has.reads).0);
      alone = λ text line why left refused.
          absurd (no_table text (all text) line why table refused
          (at_told _ (g.schema.left schema) text left has.reads).0);
      saves = λ text content other left tells is.
          let mine = (at_told _ (g.schema.left schema) text left has.reads).0 in
          let same : table ≡ other = some_table table other (all text (Ok table) (Ok other) mine is) in
          subst (λ (t : TableDef). IsSalvage content t form (counts_of g.file file) (counts_of g.file file_now)
          (g.err.faults err) (g.err.faults err_now) (record { sink = g.out.written out; losses = g.err.written err })
          (record { sink = g.out.written out_now; losses = g.err.written err_now }) status) same
          (at_told _ (g.file.content file) content tells told);
      unwritten = over.unwritten;
      source = λ is. inl (over.source is);
      sink = over.sink;
      heard = over.heard;
      changed = over.changed;
      content = over.content;
      cost = over.cost;
      fetches = over.fetches;
    }
