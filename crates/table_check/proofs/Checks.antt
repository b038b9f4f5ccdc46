-- Ordered checks of a file have an answer where their parts have one.
use Rattle.std.proofs.Common.{ℕ, Option}
use Rattle.page_source.specs.declared.rule.Rule.{Rule}
use Rattle.page_source.specs.Verdict.{Check, Then, Where}
use Rattle.page_source.specs.Answers.{Holds}
use Rattle.page_source.proofs.Decided.{IsDecided}
use Rattle.page_source.proofs.Answered.{HasAnswer, Check-answered, Then-answered, Where-answered}

-- one check, one before others, and checks before others
pub holds : (rule : Rule) (page : ℕ) (condition : Type 0) → IsDecided condition → HasAnswer (Holds rule page condition)
holds rule page condition decided = Check-answered _ condition decided

pub before : {F : Type 0} (fault : F) (condition : Type 0) (rest : Option F → Type 0) → IsDecided condition
    → HasAnswer rest
    → HasAnswer (Then (Check fault condition) rest)
before fault condition rest decided more = Then-answered _ rest (Check-answered fault condition decided) (λ _. more)

pub both : {F : Type 0} (first second : Option F → Type 0) → HasAnswer first → HasAnswer second
    → HasAnswer (Then first second)
both first second a b = Then-answered first second a (λ _. b)

-- checks that apply or don't
pub only : {F : Type 0} (applies : Type 0) (checks : Option F → Type 0) → IsDecided applies → HasAnswer checks
    → HasAnswer (Where applies checks)
only applies checks decided answer = Where-answered applies checks decided (λ _. answer)
