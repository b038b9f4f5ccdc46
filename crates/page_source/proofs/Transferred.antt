-- What a reader, a writer or a place of std does over one call after another.
use Rattle.std.proofs.Common.{◌≡◌, ℕ, ◌*◌, ◌/◌, ◌-◌, ◌^◌, min, List, Option, Some, None, Result, Ok, Err, IfOk, OnOk}
use Rattle.std.proofs.Common.{IfSome, ap, subst, ◌∙◌, length, arith, pos}
use Rattle.std.specs.declared.io.traits.SeekFrom.TheVariants.{Start, End}
use Rattle.std.specs.Io.KnownBytes.{Appends, Consumes, Keeps}
use Rattle.std.specs.Io.Seek.{SeekMoves}
use Rattle.page_source.specs.Objects.{TellsPages}
use Rattle.page_source.specs.Pages.{page_size, page_count}
use Rattle.page_source.specs.Transfers.{ReadsPage, WritesPage}

-- what stayed is as before
pub stays : (a b c : Option (List ℕ)) → Keeps a b → Keeps b c → Keeps a c
stays None b c p q = tt
stays (Some x) None c p q = absurd p
stays (Some x) (Some y) None p q = absurd q
stays (Some x) (Some y) (Some z) p q = q ∙ p

-- at its end a file stands at its length
pub ends_there : {E : Type 0} (place new : Option ℕ) (bytes : Option (List ℕ)) (r : Result ℕ E)
    → SeekMoves place new bytes (End (pos 0)) r → IfSome place (λ _. IfSome bytes (λ xs. IfOk r (λ n. n ≡ length xs)))
ends_there None new bytes r h = tt
ends_there (Some p) new None r h = tt
ends_there (Some p) new (Some xs) (Ok n) h = omega (arith, h.0)
ends_there (Some p) new (Some xs) (Err e) h = tt

-- it goes to the place that is named
pub goes_there : {E : Type 0} (place new : Option ℕ) (bytes : Option (List ℕ)) (k at : ℕ) (r : Result ℕ E)
    → SeekMoves place new bytes (Start k) r → k ≡ at → OnOk r (IfSome place (λ _. new ≡ Some at))
goes_there None new bytes k at (Ok n) h e = tt
goes_there (Some p) new bytes k at (Ok n) h e = h.1 ∙ ap Some (h.0 ∙ e)
goes_there place new bytes k at (Err x) h e = tt

-- a file of that length has so many whole pages
pub pages_told : (place : Option ℕ) (bytes : Option (List ℕ)) (m n : ℕ)
    → IfSome place (λ _. IfSome bytes (λ xs. m ≡ length xs)) → n ≡ min (m / page_size) (2 ^ 32 - 1)
    → IfSome place (λ _. IfSome bytes (λ xs. TellsPages xs n))
unfolding page_count
pages_told None bytes m n h e = tt
pages_told (Some p) None m n h e = tt
pages_told (Some p) (Some xs) m n h e = e ∙ ap (λ k. min (k / page_size) (2 ^ 32 - 1)) h

-- the bytes of a page were taken at its place
pub page_taken : {F E : Type 0} (place : F → Option ℕ) (left : F → Option (List ℕ)) (old there new : F) (n : ℕ)
    (page : List ℕ) (r : Result (Unit {0}) E) → IfSome (place old) (λ _. place there ≡ Some (page_size * n))
    → OnOk r (Consumes (left there) (left new) page) → OnOk r (ReadsPage place left old new n page)
page_taken place left old there new n page (Ok u) moved taken = record { there = there; moved = moved; taken = taken }
page_taken place left old there new n page (Err e) moved taken = tt

-- they were added there
pub page_added : {F E : Type 0} (place : F → Option ℕ) (held : F → Option (List ℕ)) (old there new : F) (n : ℕ)
    (page piece : List ℕ) (r : Result (Unit {0}) E) → IfSome (place old) (λ _. place there ≡ Some (page_size * n))
    → piece ≡ page → OnOk r (Appends (held there) (held new) piece) → OnOk r (WritesPage place held old new n page)
page_added place held old there new n page piece (Ok u) moved same added = record {
  there = there;
  moved = moved;
  added = subst (Appends (held there) (held new)) same added;
}
page_added place held old there new n page piece (Err e) moved same added = tt
