-- A page that goes through a reader or a writer of std, as far as these tell where they stand and what they have.
use Rattle.std.specs.Prelude.{◌≡◌, ℕ, ◌*◌, List, Option, Some, IfSome}
use Rattle.std.specs.Io.KnownBytes.{Appends, Consumes}
use Rattle.page_source.specs.Pages.{page_size}

-- page n was read: the place became that of the page, and from there its bytes were taken
pub record ReadsPage {F : Type 0} (place : F → Option ℕ) (left : F → Option (List ℕ)) (old new : F) (n : ℕ)
    (page : List ℕ) : Type 0 where
  pub there : F
  pub moved : IfSome (place old) (λ _. place there ≡ Some (page_size * n))
  pub taken : Consumes (left there) (left new) page

-- page n was written: the place became that of the page, and from there its bytes were added
pub record WritesPage {F : Type 0} (place : F → Option ℕ) (held : F → Option (List ℕ)) (old new : F) (n : ℕ)
    (page : List ℕ) : Type 0 where
  pub there : F
  pub moved : IfSome (place old) (λ _. place there ≡ Some (page_size * n))
  pub added : Appends (held there) (held new) page
