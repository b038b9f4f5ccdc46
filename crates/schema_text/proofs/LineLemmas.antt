-- The words of the lines, cut apart.
use Rattle.std.proofs.Common.{◌≡◌, ℕ, ◌+◌, ◌<◌, ◌%◌, ◌^◌, false, eqb, List, [], ◌++◌, get_or}
use Rattle.std.proofs.Common.{arith}
use Rattle.std.proofs.lemmas.List.Elements.{All-nil, All-cons, All-push, All-append}
use Rattle.std.proofs.lemmas.List.Folds.{list_any_at}
use Rattle.std.proofs.lemmas.Bool.{eq-eqb}
use Rattle.std.specs.List.{list_any}
use Rattle.std.proofs.lemmas.Fmt.{decimal_by_steps}
use Rattle.std.specs.Fmt.{decimal}
use Rattle.schema_text.specs.Grammar.{IsName}
use Rattle.schema_text.specs.Grammar.{IsNameByte}
use Rattle.schema_text.specs.Cuts.{Lacks}

-- a test of the bytes, which computes
pub lacks : (byte : ℕ) (bytes : List ℕ) → list_any (λ b. eqb b byte) bytes ≡ false → Lacks byte bytes
lacks byte bytes none = λ k d below e.
    let some = list_any_at (λ b. eqb b byte) bytes k d below (eq-eqb (get_or bytes k d) byte e) in cc

pub lacks_both : (byte : ℕ) (xs ys : List ℕ) → Lacks byte xs → Lacks byte ys → Lacks byte (xs ++ ys)
lacks_both byte xs ys = All-append (λ b. b ≡ byte → ⊥) xs ys

-- neither space nor line feed stands in a name or in a number
pub name_lacks : (byte : ℕ) (name : List ℕ) → byte < 36 → IsName name → Lacks byte name
name_lacks byte name low h = λ k d below e. let b : IsNameByte (get_or name k d) = h.bytes k d below in grind arith

pub decimal_lacks : (byte n : ℕ) → byte < 36 → n < 2 ^ 64 → Lacks byte (decimal n)
decimal_lacks byte n low fits =
    decimal_by_steps (λ m ds. Lacks byte ds)
    (λ m small. All-cons (λ b. b ≡ byte → ⊥) (48 + m) [] (λ e. omega arith) (All-nil (λ b. b ≡ byte → ⊥)))
    (λ m ds large rest. All-push (λ b. b ≡ byte → ⊥) ds (48 + m % 10) rest (λ e. omega arith))
    n fits
