-- The forms that words may have, told apart by their first letters.
use Rattle.std.proofs.Common.{◌≡◌, ℕ, List, [], ◌∷◌, length, slice_get, Some, refl, sym, ap, ◌∙◌, subst, arith}
use Rattle.std.proofs.lemmas.Fmt.{decimal_injective}
use Rattle.command_line.proofs.WordLists.{first_letters}
use Rattle.ibd_cli.specs.declared.forms.Form.{Form}
use Rattle.ibd_cli.specs.declared.forms.Form.TheVariants.{Table, Build, Sample}
use Rattle.ibd_cli.specs.declared.forms.Task.{Task}
use Rattle.ibd_cli.specs.declared.forms.Task.TheVariants.{Check, Dump, Cross, Get}
use Rattle.ibd_cli.specs.Forms.{IsForm, AsksNoTable, AsksNoBuild, AsksNoSample}

-- or with the same second letter
second_letters : (words : List (List ℕ)) (x y a b : ℕ) (xs ys : List ℕ) (rest more : List (List ℕ))
    → words ≡ (x ∷ a ∷ xs) ∷ rest → words ≡ (y ∷ b ∷ ys) ∷ more → a ≡ b
second_letters words x y a b xs ys rest more is same =
    let e : (x ∷ a ∷ xs) ∷ rest ≡ (y ∷ b ∷ ys) ∷ more = sym is ∙ same in cc

-- no other words are those of a command on a table
only_task : (words : List (List ℕ)) (other task : Task) → IsForm words (Table other) → IsForm words (Table task)
    → other ≡ task
only_task words Check Check is same = refl
only_task words Check Dump is same = absurd (omega (arith, first_letters words _ _ _ _ _ _ is.2 same.2))
only_task words Dump Check is same = absurd (omega (arith, first_letters words _ _ _ _ _ _ is.2 same.2))
only_task words Dump Dump is same = refl
only_task words Check Cross is same = absurd (omega (arith, second_letters words _ _ _ _ _ _ _ _ is.2 same.2))
only_task words Cross Check is same = absurd (omega (arith, second_letters words _ _ _ _ _ _ _ _ is.2 same.2))
only_task words Dump Cross is same = absurd (omega (arith, first_letters words _ _ _ _ _ _ is.2 same.2))
only_task words Cross Dump is same = absurd (omega (arith, first_letters words _ _ _ _ _ _ is.2 same.2))
only_task words Cross Get is same = absurd (omega (arith, first_letters words _ _ _ _ _ _ is.2 same.3))
only_task words Get Cross is same = absurd (omega (arith, first_letters words _ _ _ _ _ _ is.3 same.2))
only_task words Cross Cross is same = refl
only_task words Check Get is same = absurd (omega (arith, first_letters words _ _ _ _ _ _ is.2 same.3))
only_task words Dump Get is same = absurd (omega (arith, first_letters words _ _ _ _ _ _ is.2 same.3))
only_task words Get Check is same = absurd (omega (arith, first_letters words _ _ _ _ _ _ is.3 same.2))
only_task words Get Dump is same = absurd (omega (arith, first_letters words _ _ _ _ _ _ is.3 same.2))
only_task words Get Get is same = refl

only_table : (words : List (List ℕ)) (form : Form) (task : Task) → IsForm words form → IsForm words (Table task)
    → form ≡ Table task
only_table words (Table other) task is same = ap Table (only_task words other task is same)
only_table words Build Check is same = absurd (omega (arith, first_letters words _ _ _ _ _ _ is.3 same.2))
only_table words Build Dump is same = absurd (omega (arith, first_letters words _ _ _ _ _ _ is.3 same.2))
only_table words Build Cross is same = absurd (omega (arith, first_letters words _ _ _ _ _ _ is.3 same.2))
only_table words Build Get is same = absurd (omega (arith, first_letters words _ _ _ _ _ _ is.3 same.3))
only_table words (Sample n) Get is same = absurd (omega (arith, first_letters words _ _ _ _ _ _ is.1 same.3))
only_table words (Sample n) Check is same = absurd (omega (arith, first_letters words _ _ _ _ _ _ is.1 same.2))
only_table words (Sample n) Dump is same = absurd (omega (arith, first_letters words _ _ _ _ _ _ is.1 same.2))
only_table words (Sample n) Cross is same = absurd (omega (arith, first_letters words _ _ _ _ _ _ is.1 same.2))

tables_same : (a b : Task) → Table a ≡ Table b → a ≡ b
tables_same a b e = cc

pub same_task : (words : List (List ℕ)) (form : Form) (other task : Task) → form ≡ Table other → IsForm words form
    → IsForm words (Table task) → other ≡ task
same_task words form other task is has asks =
    tables_same other task (sym is ∙ only_table words form task has asks)

pub never_build : (words : List (List ℕ)) (form : Form) (task : Task) → form ≡ Build → IsForm words form
    → IsForm words (Table task) → ⊥
never_build words form task is has asks =
    let e : Build ≡ Table task = sym is ∙ only_table words form task has asks in cc

pub never_sample : (words : List (List ℕ)) (form : Form) (n : ℕ) (task : Task) → form ≡ Sample n → IsForm words form
    → IsForm words (Table task) → ⊥
never_sample words form n task is has asks =
    let e : Sample n ≡ Table task = sym is ∙ only_table words form task has asks in cc

-- such words ask for a table
pub asks_table : (words : List (List ℕ)) (form : Form) (task : Task) → AsksNoTable words → form ≡ Table task
    → IsForm words form → ⊥
asks_table words form task none same is = none task (subst (IsForm words) same is)

pub asks_build : (words : List (List ℕ)) (form : Form) → AsksNoBuild words → form ≡ Build → IsForm words form → ⊥
asks_build words form none same is = none (subst (IsForm words) same is)

pub asks_sample : (words : List (List ℕ)) (form : Form) (n : ℕ) → AsksNoSample words → form ≡ Sample n
    → IsForm words form → ⊥
asks_sample words form n none same is = none n (subst (IsForm words) same is)

second_word : (words : List (List ℕ)) (a b x y : List ℕ) → words ≡ a ∷ x ∷ [] → words ≡ b ∷ y ∷ [] → x ≡ y
second_word words a b x y is same = let e : a ∷ x ∷ [] ≡ b ∷ y ∷ [] = sym is ∙ same in cc

-- such words ask for one sample
pub same_count : (words : List (List ℕ)) (form : Form) (m n : ℕ) → form ≡ Sample m → IsForm words form
    → IsForm words (Sample n) → m ≡ n
same_count words form m n same is sample =
    let has = subst (IsForm words) same is in
    decimal_injective m n (omega (arith, has.0)) (omega (arith, sample.0)) (second_word words _ _ _ _ has.1 sample.1)

pub build_and_sample : (words : List (List ℕ)) (form : Form) (n : ℕ) → form ≡ Build → IsForm words form
    → IsForm words (Sample n) → ⊥
build_and_sample words form n same is sample =
    let build = subst (IsForm words) same is in omega (arith, first_letters words _ _ _ _ _ _ build.3 sample.1)
