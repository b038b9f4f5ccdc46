-- the pages that a file was asked for, where the steps have a bound
use Rattle.std.proofs.Common.{ℕ, arith}
use Rattle.page_source.specs.declared.objects.PageSource.{Ghosts as FileOf}
use Rattle.page_source.specs.Calls.{AsksNoMore}
use Rattle.page_source.proofs.Told.{map_told}
use Rattle.table_check.specs.First.{TakesSteps, AsksAtMost}

pub asks_at_most : {S : Type 0} {g : FileOf S} {old : S} {most : ℕ → ℕ} {steps spent : ℕ} (new : S)
    → TakesSteps g old most steps spent → AsksNoMore g old new steps spent → AsksAtMost g old new most
asks_at_most {g = g} {old = old} new takes asked = record {
  told = map_told (g.content old) (λ file few. omega (arith, asked, few)) takes.told;
  always = omega (arith, asked, takes.always);
}
