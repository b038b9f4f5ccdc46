-- Parts of a salvage one after another.
use Rattle.std.proofs.Common.{◌≡◌, ℕ, ◌≤◌, Bool, Result, Ok, Err, refl, sym, ◌∙◌, arith, inl, inr}
use Rattle.std.proofs.lemmas.Bool.{false≢true, cases_Bool}
use Rattle.page_source.specs.declared.objects.PageSource.{Ghosts as FileOf}
use Rattle.page_source.specs.declared.objects.ByteSink.{Ghosts as SinkOf}
use Rattle.page_source.specs.Calls.{AsksNoMore}
use Rattle.page_source.proofs.Told.{map_told, map_told2}
use Rattle.salvage_model.specs.declared.stop.SalvageStop.{SalvageStop}
use Rattle.salvage_model.specs.declared.stop.SalvageStop.TheVariants.{Root, Source, Sink, Losses, Memory, Changed}
use Rattle.table_salvage.specs.declared.search.Search.{Search}
use Rattle.table_salvage.specs.declared.room.Room.{Room}
use Rattle.table_salvage.specs.Ready.{IsInHand}
use Rattle.table_salvage.specs.Work.{Stage, Goes, GoesOn}
use Rattle.table_salvage.specs.Over.{PartOver}

-- what a part answers where it goes on
abbrev pub done : Result (Unit {0}) SalvageStop
done = Ok tt

off : (stop : SalvageStop) (Next Other Off InRow : Type 0) → GoesOn {A = Unit {0}} (Err stop) Next Off InRow
    → GoesOn {A = Unit {0}} (Err stop) Other Off InRow
off Root Next Other Off InRow goes = absurd goes
off Source Next Other Off InRow goes = goes
off Sink Next Other Off InRow goes = goes
off Losses Next Other Off InRow goes = absurd goes
off Memory Next Other Off InRow goes = absurd goes
off (Changed fault) Next Other Off InRow goes = absurd goes

module _ {S O E : Type 0} (g : FileOf S) (o : SinkOf O) (e : SinkOf E) where
  -- before the first part
  pub over_none : (objects : S × O × E) (unheard : Bool) (steps : ℕ)
      → PartOver g o e objects objects unheard unheard steps steps done
  over_none objects unheard steps = record {
    same = refl;
    source_later = omega arith;
    sink_later = omega arith;
    losses_later = omega arith;
    source_rose = λ is. cc;
    sink_rose = λ is. cc;
    losses_rose = λ heard failed. absurd (false≢true (sym heard ∙ failed));
    losses = λ is. cc;
    root = λ is. cc;
    memory = λ is. cc;
    changed = λ fault is. cc;
    asked = omega arith;
  }

  -- where the source alone was asked
  pub over_source : {old new : S} {steps steps_now : ℕ} (sink : O) (losses : E) (unheard : Bool)
      → g.content new ≡ g.content old
      → g.faults old ≤ g.faults new → AsksNoMore g old new steps steps_now
      → PartOver g o e (old, sink, losses) (new, sink, losses) unheard unheard steps steps_now done
  over_source sink losses unheard same later asked = record {
    same = same;
    source_later = later;
    sink_later = omega arith;
    losses_later = omega arith;
    source_rose = λ is. cc;
    sink_rose = λ is. cc;
    losses_rose = λ heard failed. absurd (false≢true (sym heard ∙ failed));
    losses = λ is. cc;
    root = λ is. cc;
    memory = λ is. cc;
    changed = λ fault is. cc;
    asked = asked;
  }

  -- one part more
  pub over_then : {A : Type 0} {old middle new : S × O × E} {heard between unheard : Bool} {first steps last : ℕ}
      {result : Result A SalvageStop} → PartOver g o e old middle heard between first steps done
      → PartOver g o e middle new between unheard steps last result
      → PartOver g o e old new heard unheard first last result
  over_then {between = between} one two = record {
    same = two.same ∙ one.same;
    source_later = omega (arith, one.source_later, two.source_later);
    sink_later = omega (arith, one.sink_later, two.sink_later);
    losses_later = omega (arith, one.losses_later, two.losses_later);
    source_rose = λ is. let rose = two.source_rose is in omega (arith, rose, one.source_later);
    sink_rose = λ is. let rose = two.sink_rose is in omega (arith, rose, one.sink_later);
    losses_rose = λ heard failed. elim (cases_Bool between) [
      | inl already ↦ let rose = one.losses_rose heard already in omega (arith, rose, two.losses_later)
      | inr not_yet ↦ let rose = two.losses_rose not_yet failed in omega (arith, rose, one.losses_later)
    ];
    losses = two.losses;
    root = two.root;
    memory = two.memory;
    changed = two.changed;
    asked = omega (arith, one.asked, two.asked);
  }

  pub goes_then : {A : Type 0} {old middle new : S × O × E} {room between room_now : Room} {search : Search}
      {result : Result A SalvageStop} (From Middle To : Stage) → g.content middle.0 ≡ g.content old.0
      → Goes g o e old middle room between search done From Middle
      → Goes g o e middle new between room_now search result Middle To
      → Goes g o e old new room room_now search result From To
  goes_then {old = old} From Middle To same one two = record {
    told = map_told2 (g.content old.0) (λ file one two. λ start met. two start (one start met)) one.told
        (rw same at two.told);
  }

  -- the page in hand stays
  pub in_hand_on : {source later : S} {search : Search} {room room_now : Room} {n : ℕ}
      → g.content later ≡ g.content source → room_now.page ≡ room.page → IsInHand g source search room n
      → IsInHand g later search room_now n
  in_hand_on {source = source} {room_now = room_now} {n = n} same page hand = record {
    below = hand.below;
    held = rw (same, page) hand.held;
  }

  -- a part that was broken off led nowhere
  pub goes_off : {old new : S × O × E} {room room_now : Room} {search : Search} (stop : SalvageStop)
      (From To Other : Stage) → Goes {A = Unit {0}} g o e old new room room_now search (Err stop) From To
      → Goes {A = Unit {0}} g o e old new room room_now search (Err stop) From Other
  goes_off {old = old} stop From To Other goes = record {
    told = map_told (g.content old.0) (λ file goes. λ start met. off stop _ _ _ _ (goes start met)) goes.told;
  }
