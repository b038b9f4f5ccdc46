-- Pages that were marked and counted so far, and those of one more call.
use Rattle.std.proofs.Common.{◌≡◌, IfSome, ℕ, ◌+◌, ◌≤◌, Bool, true, false, cond, List, [], ◌++◌, length}
use Rattle.std.proofs.Common.{Option, None, Result, Ok, Err, refl, sym, ap, ◌∙◌, subst, arith, length-append}
use Rattle.std.specs.Prelude.{not}
use Rattle.std.proofs.lemmas.List.Sums.{count_by-le-length}
use Rattle.page_source.specs.declared.objects.PageSource.{Ghosts as FileOf}
use Rattle.page_source.specs.declared.rule.Fault.{Fault}
use Rattle.page_source.specs.declared.checks.Halt.{Halt}
use Rattle.page_source.specs.declared.checks.Halt.TheVariants.{Broken, Source}
use Rattle.page_source.specs.Lists.{unmarked}
use Rattle.page_source.specs.Faults.{Rose}
use Rattle.page_source.specs.Checks.{HaltsAt, HaltsWithCause}
use Rattle.page_source.specs.Calls.{OfFile, HaltsOver, AsksNoMore}
use Rattle.page_source.proofs.Told.{if_told, map_told2, map_told3}
use Rattle.space_audit.specs.Marks.{is_in, is_set, Marked}
use Rattle.space_audit.proofs.Marking.{marked_none}
use Rattle.table_check.specs.Marking.{ChecksPages}
use Rattle.tree_walk.proofs.Levels.{is_in-append}

pub unmarked_most : (marks : List Bool) → unmarked marks ≤ length marks
unmarked_most marks = count_by-le-length not marks

-- a count rose since then, and so since before
pub rose_before : (first old new : ℕ) → first ≤ old → Rose old new → Rose first new
rose_before first old new later rose = omega (arith, later, rose)

-- so many pages were counted, and these ones marked, in as many steps
pub record HasMarked {S : Type 0} (g : FileOf S) (old new : S) (before after : List Bool) (steps spent count : ℕ)
    (pages : List ℕ → List ℕ) : Type 0 where
  pub same : g.content new ≡ g.content old
  pub later : g.faults old ≤ g.faults new
  pub members : length after ≡ length before
  pub fewer : count + unmarked after ≤ unmarked before
  pub exactly : spent ≡ steps + count
  pub counted : OfFile g old (λ file. count ≡ length (pages file))
  pub grew : OfFile g old (λ file. Marked (is_set before) after (pages file))

-- none yet
pub none_marked : {S : Type 0} (g : FileOf S) (old : S) (marks : List Bool) (steps : ℕ) (pages : List ℕ → List ℕ)
    → ((file : List ℕ) → pages file ≡ []) → HasMarked g old old marks marks steps steps 0 pages
none_marked g old marks steps pages none = record {
  same = refl;
  later = omega arith;
  members = refl;
  fewer = omega arith;
  exactly = omega arith;
  counted = if_told (g.content old) (λ file. sym (ap length (none file)));
  grew = if_told (g.content old) (λ file. subst (λ (list : List ℕ). Marked (is_set marks) marks list) (sym (none file))
      (marked_none marks));
}

cond_twice : (a b c : Bool) → cond (cond a true b) true c ≡ cond a true (cond b true c)
cond_twice true b c = refl
cond_twice false b c = refl

pub marked_more : (taken : ℕ → Bool) (old new : List Bool) (list more : List ℕ) → Marked taken old list
    → Marked (is_set old) new more → Marked taken new (list ++ more)
marked_more taken old new list more a b n =
    b n ∙ ap (λ (s : Bool). cond s true (is_in more n)) (a n) ∙ cond_twice (taken n) (is_in list n) (is_in more n)
    ∙ ap (λ (s : Bool). cond (taken n) true s) (sym (is_in-append list more n))

-- the source of a halt, behind calls that went on
pub cause_both : {A B : Type 0} {first old new : ℕ} {result : Result A Halt} (answer : Result B Halt) → first ≤ old
    → (answer ≡ Err Source → result ≡ Err Source) → HaltsWithCause old new result → HaltsWithCause first new answer
cause_both {first = first} {old = old} {new = new} answer later back cause = record {
  later = omega (arith, later, cause.later);
  source = λ is. rose_before first old new later (cause.source (back is));
}

-- the same of all that is known of the file
pub over_both : {S A B : Type 0} {g : FileOf S} {first old new : S} {steps mid spent : ℕ} {result : Result A Halt}
    (answer : Result B Halt)
    → g.content old ≡ g.content first → g.faults first ≤ g.faults old → AsksNoMore g first old steps mid
    → (answer ≡ Err Source → result ≡ Err Source)
    → HaltsOver g old new mid spent result → HaltsOver g first new steps spent answer
over_both answer same later asked back over = record {
  same = over.same ∙ same;
  cause = cause_both answer later back over.cause;
  asked = omega (arith, asked, over.asked);
}

module _ {S : Type 0} (g : FileOf S) (first old new : S) (start before after : List Bool) (steps mid spent count : ℕ)
    (pages more : List ℕ → List ℕ) (Checks : List ℕ → Option Fault → Type 0)
    (has : HasMarked g first old start before steps mid count pages) where
  -- one more call held
  pub more_marked : (n : ℕ) (all : List ℕ → List ℕ) → OfFile g first (λ file. all file ≡ pages file ++ more file)
      → ChecksPages g old new before after mid spent (Ok n) Checks more
      → HasMarked g first new start after steps spent (count + n) all
  more_marked n all splits call =
      let fewer = call.fewer in
      let exactly = call.exactly in
      let counted = subst (λ (o : Option (List ℕ)). IfSome o (λ file. n ≡ length (more file))) has.same call.count in
      let grew = subst (λ (o : Option (List ℕ)). IfSome o (λ file. Marked (is_set before) after
      (more file))) has.same call.grew in
      record {
        same = call.same ∙ has.same;
        later = omega (arith, has.later, call.cause.later);
        members = call.members ∙ has.members;
        fewer = omega (arith, has.fewer, fewer);
        exactly = omega (arith, has.exactly, exactly);
        counted =
            map_told3 (g.content first)
            (λ file e a b. omega (arith, a, b, ap length e, length-append (pages file) (more file)))
            splits has.counted counted;
        grew =
            map_told3 (g.content first)
            (λ file e a b. subst (λ (list : List ℕ). Marked (is_set start) after list) (sym e)
            (marked_more (is_set start) before after (pages file) (more file) a b))
            splits has.grew grew;
      }

  -- or it broke off
  pub breaks_off : (halt : Halt) (All : List ℕ → Option Fault → Type 0) (all : List ℕ → List ℕ)
      → OfFile g first (λ file. HaltsAt halt (All file)) → ChecksPages g old new before after mid spent
      (Err halt) Checks more
      → ChecksPages g first new start after steps spent (Err halt) All all
  breaks_off halt All all exact call = record {
    exact = exact;
    count = tt;
    grew = tt;
    members = call.members ∙ has.members;
    fewer = tt;
    cost = omega (arith, has.exactly, has.fewer, call.cost);
    exactly = tt;
    same = call.same ∙ has.same;
    cause = cause_both (Err halt) has.later (λ is. is) call.cause;
  }

-- all of them held
pub all_marked : {S : Type 0} (g : FileOf S) (old new : S) (before after : List Bool) (steps spent count : ℕ)
    (pages all : List ℕ → List ℕ) (All : List ℕ → Option Fault → Type 0) → OfFile g old (λ file. all file ≡ pages file)
    → OfFile g old (λ file. All file None) → HasMarked g old new before after steps spent count pages
    → ChecksPages g old new before after steps spent (Ok count) All all
all_marked g old new before after steps spent count pages all All same holds has = record {
  exact = holds;
  count = map_told2 (g.content old) (λ file e a. a ∙ sym (ap length e)) same has.counted;
  grew = map_told2 (g.content old) (λ file e a. subst (λ (list : List ℕ). Marked (is_set before) after list) (sym e) a)
      same has.grew;
  members = has.members;
  fewer = has.fewer;
  cost = omega (arith, has.exactly, has.fewer);
  exactly = has.exactly;
  same = has.same;
  cause = record { later = has.later; source = λ is. absurd (cc) };
}

-- a call between that marks nothing
pub moved : {S A : Type 0} (g : FileOf S) (first old new : S) (start marks : List Bool) (steps mid spent count : ℕ)
    {before after : ℕ} (pages : List ℕ → List ℕ) (result : Result A Halt) → spent ≡ mid
    → HaltsOver g old new before after result
    → HasMarked g first old start marks steps mid count pages
    → HasMarked g first new start marks steps spent count pages
moved g first old new start marks steps mid spent count pages result as_many over has = record {
  same = over.same ∙ has.same;
  later = omega (arith, has.later, over.cause.later);
  members = has.members;
  fewer = has.fewer;
  exactly = as_many ∙ has.exactly;
  counted = has.counted;
  grew = has.grew;
}

-- the same halt, as an answer of another call
pub halt_as : {A B : Type 0} (halt : Halt) → ◌≡◌ {A = Result A Halt} (Err halt) (Err Source)
    → ◌≡◌ {A = Result B Halt} (Err halt) (Err Source)
halt_as (Broken fault) is = absurd (cc)
halt_as Source is = refl

-- or breaks off
pub between_breaks : {S A : Type 0} {g : FileOf S} {first old new : S} {start marks : List Bool}
    {steps mid count before after : ℕ} {pages : List ℕ → List ℕ} (spent : ℕ) (halt : Halt)
    (All : List ℕ → Option Fault → Type 0) (all : List ℕ → List ℕ)
    → HasMarked g first old start marks steps mid count pages
    → HaltsOver {A = A} g old new before after (Err halt) → spent ≤ mid
    → OfFile g first (λ file. HaltsAt halt (All file))
    → ChecksPages g first new start marks steps spent (Err halt) All all
between_breaks {A = A} spent halt All all has over less exact = record {
  exact = exact;
  count = tt;
  grew = tt;
  members = has.members;
  fewer = tt;
  cost = omega (arith, less, has.exactly, has.fewer);
  exactly = tt;
  same = over.same ∙ has.same;
  cause = cause_both {A = A} (Err halt) has.later (halt_as halt) over.cause;
}

-- the same call, counted from other steps
pub recounted : {S : Type 0} {g : FileOf S} {old new : S} {before after : List Bool} {steps spent n : ℕ}
    {Checks : List ℕ → Option Fault → Type 0} {pages : List ℕ → List ℕ} (first last : ℕ)
    → ChecksPages g old new before after steps spent (Ok n) Checks pages → last + steps ≡ first + spent
    → ChecksPages g old new before after first last (Ok n) Checks pages
recounted first last call as_many =
    let exactly = call.exactly in
    record {
      exact = call.exact;
      count = call.count;
      grew = call.grew;
      members = call.members;
      fewer = call.fewer;
      cost = omega (arith, as_many, call.cost);
      exactly = omega (arith, as_many, exactly);
      same = call.same;
      cause = call.cause;
    }

-- one that breaks off, of which it takes no more
pub recounted_break : {S : Type 0} {g : FileOf S} {old new : S} {before after : List Bool} {steps spent : ℕ}
    {halt : Halt} {Checks : List ℕ → Option Fault → Type 0} {pages : List ℕ → List ℕ} (first last : ℕ)
    → ChecksPages g old new before after steps spent (Err halt) Checks pages → last + steps ≤ first + spent
    → ChecksPages g old new before after first last (Err halt) Checks pages
recounted_break first last call no_more = record {
  exact = call.exact;
  count = call.count;
  grew = call.grew;
  members = call.members;
  fewer = call.fewer;
  cost = omega (arith, no_more, call.cost);
  exactly = tt;
  same = call.same;
  cause = call.cause;
}
