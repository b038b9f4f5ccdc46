-- What a look-up by the text of a key comes to, from that by the key.
use Rattle.std.proofs.Common.{◌≡◌, ℕ, List, Option, Result, Ok, Err, inl, inr, refl, sym, ap, ◌∙◌, arith}
use Rattle.page_source.specs.declared.objects.PageSource.{Ghosts as FileOf}
use Rattle.page_source.specs.declared.objects.ByteSink.{Ghosts as SinkOf}
use Rattle.page_source.proofs.Told.{if_told}
use Rattle.column_values.specs.Order.{Key}
use Rattle.schema_text.specs.TableDef.{TableDef}
use Rattle.row_text.specs.declared.row.RowError.{RowError}
use Rattle.row_text.specs.declared.row.RowError.TheVariants as errors
use Rattle.row_text.specs.KeyText.{key_of_values}
use Rattle.row_text.specs.Laws.{HasOneKey}
use Rattle.table_check.specs.First.{TakesSteps}
use Rattle.key_lookup.specs.declared.stop.GetStop.{GetStop}
use Rattle.key_lookup.specs.declared.stop.GetStop.TheVariants as gets
use Rattle.key_lookup.specs.Get.{GetsByKey, Gets, GetsOver, TouchesNothing, get_steps}
use Rattle.key_lookup.specs.KeyOfText.{SpellsKey, IsNoKey, FindsSearchKey}
use Rattle.key_lookup.specs.Laws.{SpellsOneKey}
use Rattle.key_lookup.specs.Stops.{get_stop_of_row}

module _ {O : Type 0} (o : SinkOf O) (file : List ℕ) (table : TableDef) (text : List ℕ) where
  -- the answer for a key is that for its text
  pub gets_of : (key : Key) (result : Result (Unit {0}) GetStop) (sink now : O) → SpellsKey table text key
      → GetsByKey o file table key result sink now → Gets o file table text result sink now
  gets_of key (Ok done) sink now spells x = (key, spells, x)
  gets_of key (Err gets.Refused) sink now spells x = absurd x
  gets_of key (Err gets.Absent) sink now spells x = (key, spells, x)
  gets_of key (Err (gets.Broken fault)) sink now spells x = (key, spells, x)
  gets_of key (Err gets.Source) sink now spells x = (key, spells, x)
  gets_of key (Err gets.Sink) sink now spells x = (key, spells, x)
  gets_of key (Err gets.Memory) sink now spells x = tt

  -- where there is no key
  pub gets_none : (error : RowError) (sink : O) → FindsSearchKey table text (Err error)
      → Gets o file table text (Err (get_stop_of_row error)) sink sink
  gets_none errors.Refused sink none = none
  gets_none errors.Memory sink none = tt

-- a text spells one key
pub one_spelled : HasOneKey → SpellsOneKey
one_spelled one table text a b is x y =
    x.key_is ∙ ap (key_of_values table) (one table x.key_values y.key_values text is x.text_is y.text_is) ∙ sym y.key_is

pub touches_nothing : {S O : Type 0} (old : S) (sink : O) (steps : ℕ) (error : RowError)
    → TouchesNothing old old sink sink steps steps (Err (get_stop_of_row error))
touches_nothing old sink steps errors.Refused =
    record { ends = inl refl; file = refl; out = refl; steps_same = refl }
touches_nothing old sink steps errors.Memory =
    record { ends = inr refl; file = refl; out = refl; steps_same = refl }

pub over_no_key : {S O : Type 0} (g : FileOf S) (o : SinkOf O) (old : S) (sink : O) (steps : ℕ) (error : RowError)
    → GetsOver g o old old sink sink steps steps (Err (get_stop_of_row error))
over_no_key g o old sink steps errors.Refused = record {
  same = refl;
  source_later = omega arith;
  sink_later = omega arith;
  source_rose = λ e. absurd (cc);
  sink_rose = λ e. absurd (cc);
  absent = λ e. refl;
  unwritten = λ e. refl;
  asked = omega arith;
}
over_no_key g o old sink steps errors.Memory = record {
  same = refl;
  source_later = omega arith;
  sink_later = omega arith;
  source_rose = λ e. absurd (cc);
  sink_rose = λ e. absurd (cc);
  absent = λ e. refl;
  unwritten = λ e. refl;
  asked = omega arith;
}

-- only such a text is refused
pub no_key : (table : TableDef) (text : List ℕ) (error : RowError) → FindsSearchKey table text (Err error)
    → ◌≡◌ {A = Result (Unit {0}) GetStop} (Err (get_stop_of_row error)) (Err gets.Refused) → IsNoKey table text
no_key table text errors.Refused none e = none
no_key table text errors.Memory none e = absurd (cc)

pub no_steps : {S : Type 0} (g : FileOf S) (source : S) (steps : ℕ) → TakesSteps g source get_steps steps steps
no_steps g source steps = record {
  told = if_told (g.content source) (λ file. omega arith);
  always = omega arith;
}
