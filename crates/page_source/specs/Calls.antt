-- What a call leaves of the outside objects that it was lent, whatever it answers: a word for each kind of call, over
-- the ghost members of the object's trait.
use Rattle.std.specs.Prelude.{◌≡◌, ℕ, ◌+◌, ◌≤◌, List, IfSome, Result, OnOk, OnErr}
use Rattle.page_source.specs.declared.objects.PageSource.{Ghosts as FileOf}
use Rattle.page_source.specs.declared.objects.ByteSink.{Ghosts as SinkOf}
use Rattle.page_source.specs.declared.checks.Stop.{Stop}
use Rattle.page_source.specs.declared.checks.Halt.{Halt}
use Rattle.page_source.specs.Faults.{HasCause}
use Rattle.page_source.specs.Objects.{GrowsBy, GrowsByPart}
use Rattle.page_source.specs.Checks.{StopsWithCause, HaltsWithCause}

-- what is said of the file's bytes, where it tells them
abbrev pub OfFile : {S : Type 0} → FileOf S → S → (List ℕ → Type 0) → Type 0
OfFile g source Fact = IfSome (g.content source) Fact

-- what the file was asked for grew by no more pages than the steps that were counted
abbrev pub AsksNoMore : {S : Type 0} → FileOf S → S → S → ℕ → ℕ → Type 0
AsksNoMore g old new steps steps_now = g.fetches new + steps ≤ g.fetches old + steps_now

-- the file is as before, its count of faults never fell, it is blamed only where the count rose, and each page that it
-- was asked for was counted
pub record StopsOver {S A : Type 0} (g : FileOf S) (old new : S) (steps steps_now : ℕ) (result : Result A Stop)
    : Type 0 where
  pub same : g.content new ≡ g.content old
  pub cause : StopsWithCause (g.faults old) (g.faults new) result
  pub asked : AsksNoMore g old new steps steps_now

-- a call that takes no memory leaves the file as before, its count of faults never fell, it is blamed only if the
-- count rose, and each page that it was asked for was counted
pub record HaltsOver {S A : Type 0} (g : FileOf S) (old new : S) (steps steps_now : ℕ) (result : Result A Halt)
    : Type 0 where
  pub same : g.content new ≡ g.content old
  pub cause : HaltsWithCause (g.faults old) (g.faults new) result
  pub asked : AsksNoMore g old new steps steps_now

-- a text was put: all of it, or a prefix of it where the sink's count of faults rose
pub record Puts {O A E : Type 0} (g : SinkOf O) (old new : O) (text : List ℕ) (result : Result A E) : Type 0 where
  pub ok : OnOk result (GrowsBy (g.written old) (g.written new) text)
  pub failed : OnErr result (GrowsByPart (g.written old) (g.written new) text)
  pub cause : HasCause (g.faults old) (g.faults new) result
