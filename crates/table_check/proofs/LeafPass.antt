-- A cursor takes the leaves of a tree one after another.
use Rattle.std.proofs.Common.{◌≡◌, ℕ, zero, suc, ◌-◌, Bool, true, false, List, [], ◌∷◌, ◌++◌, length}
use Rattle.std.proofs.Common.{Result, Ok, Err, inl, inr, refl, sym, ap, ◌∙◌, subst, arith, length-append}
use Rattle.std.proofs.lemmas.Bool.{cases_lt}
use Rattle.page_source.specs.declared.checks.Halt.{Halt}
use Rattle.page_source.specs.declared.checks.Halt.TheVariants.{Broken, Source}
use Rattle.page_source.specs.Checks.{Stops, stop_of}
use Rattle.fil_frame.specs.Frame.{next_page}
use Rattle.column_values.specs.Types.{Fields}
use Rattle.schema_text.specs.TableDef.{TableDef}
use Rattle.tree_walk.specs.declared.leaves.leaf.Leaf.{Leaf}
use Rattle.tree_walk.specs.Index.{Index, index_of, leaf_pages}
use Rattle.tree_walk.specs.Leaf.{IsWalked, IsOnLeaf, HasTaken, CanTake, FindsLeaf}
use Rattle.tree_walk.specs.Hops.{HeldPage, held_by, CameInTurn, HasComeBy, Hops, GoesByNextFields, IsDue}
use Rattle.tree_walk.proofs.LeafFacts.{start_fetches}
use Rattle.tree_walk.proofs.HopFacts.{last_more}
use Rattle.table_check.specs.First.{ValueChecksOf}
use Rattle.table_check.specs.Pass.{PassesLeaves}
use Rattle.table_check.specs.Trees.{index_in, clustered_tree}

-- what a call that takes the next leaf says of its hop
abbrev pub HopsOn : ℕ → Leaf → Leaf → Result Bool Halt → Type 0
HopsOn last old new result = (n : ℕ) → IsDue old last n → Hops n old new result

-- there is a page that is due
due_number : (leaf : Leaf) (last : ℕ) → (n : ℕ) × IsDue leaf last n
due_number leaf last = elim (cases_lt last 99) [
  | inl early ↦ (leaf.number, inl (early, refl))
  | inr later ↦ (next_page leaf.page, inr (later, refl))
]

-- and there is one
due_one : (leaf : Leaf) (last m n : ℕ) → IsDue leaf last m → IsDue leaf last n → m ≡ n
due_one leaf last m n (inl a) (inl b) = a.1 ∙ sym b.1
due_one leaf last m n (inl a) (inr b) = absurd (omega (arith, a.0, b.0))
due_one leaf last m n (inr a) (inl b) = absurd (omega (arith, a.0, b.0))
due_one leaf last m n (inr a) (inr b) = a.1 ∙ sym b.1

-- a search that finds none leaves the leaf as it is
pub stays : (old new : Leaf) (last : ℕ) → HopsOn last old new (Ok false) → new ≡ old
stays old new last hops = let m = due_number old last in hops m.0 m.1

-- so many leaves came
abbrev pub HasTakenSome : Index → Leaf → ℕ → Type 0
HasTakenSome index leaf last = (i : ℕ) × HasTaken index leaf last i

pub taken_more : (index : Index) (leaf : Leaf) (last i : ℕ) → FindsLeaf index i (Ok true) leaf → last ≡ 99
    → HasTaken index leaf last (suc i)
taken_more index leaf last i found is = (omega (arith, is), found)

-- none is left: the last one is in hand
pub taken_all : (index : Index) (old new : Leaf) (last i : ℕ) → IsWalked index → HasTaken index old last i
    → FindsLeaf index i (Ok false) new → new ≡ old → IsOnLeaf index new (length (leaf_pages index) - 1)
taken_all index old new last zero walked has all same =
    let some = start_fetches index walked old has.1 in
    absurd (omega (arith, some, has.1.fetches, all))
taken_all index old new last (suc i) walked has all same =
    let e : i ≡ length (leaf_pages index) - 1 = omega (arith, has.1.within, all) in
    subst (λ (leaf : Leaf). IsOnLeaf index leaf (length (leaf_pages index) - 1)) (sym same)
    (subst (IsOnLeaf index old) e has.1)

-- a search over a file that is told breaks off nowhere
pub halts_nowhere : (A : Type 0) (index : Index) (i : ℕ) (halt : Halt) (leaf : Leaf)
    → FindsLeaf index i (Err halt) leaf → PassesLeaves {A = A} index (Err halt) leaf
halts_nowhere A index i (Broken fault) leaf found = found
halts_nowhere A index i Source leaf found = tt

-- the number of the page after these, the first of which has this one
abbrev pub due_after : ℕ → List HeldPage → ℕ
due_after n [] = n
due_after n (held ∷ rest) = due_after (next_page held.page) rest

in_turn_more : (n : ℕ) (held : HeldPage) (came : List HeldPage) → CameInTurn n came → held.number ≡ due_after n came
    → CameInTurn n (came ++ held ∷ [])
in_turn_more n held [] turn is = (is, tt)
in_turn_more n held (x ∷ xs) turn is = (turn.0, in_turn_more (next_page x.page) held xs turn.1 is)

due_more : (n : ℕ) (held : HeldPage) (came : List HeldPage) → due_after n (came ++ held ∷ []) ≡ next_page held.page
due_more n held [] = refl
due_more n held (x ∷ xs) = due_more (next_page x.page) held xs

-- leaves came in turn, and the next one is that after them
pub record HaveCome (n : ℕ) (old now : Leaf) (last : ℕ) : Type 0 where
  pub come : HasComeBy n old now 0
  pub due : (m : ℕ) → IsDue now last m → m ≡ due_after n come.came

pub none_came : (n : ℕ) (leaf : Leaf) (last : ℕ) → IsDue leaf last n → HaveCome n leaf leaf last
none_came n leaf last is = record {
  come = record { came = []; in_turn = tt; number = refl; page = λ z. refl; fetches = omega arith };
  due = λ m at. due_one leaf last m n at is;
}

pub one_came : (n : ℕ) (old mid new : Leaf) (last now : ℕ) → HaveCome n old mid last
    → HopsOn last mid new (Ok true) → now ≡ 99 → HaveCome n old new now
one_came n old mid new last now have hops is =
    let m = due_number mid last in
    let hop = hops m.0 m.1 in
    let came = have.come.came in
    let held = held_by new in
    let end = last_more (held_by old) held came in
    record {
      come = record {
        came = came ++ held ∷ [];
        in_turn = in_turn_more n held came have.come.in_turn (hop.0 ∙ have.due m.0 m.1);
        number = ap (λ (h : HeldPage). h.number) (sym end);
        page = λ z. ap (λ (h : HeldPage). h.page) (sym end);
        fetches = omega (arith, hop.1, have.come.fetches, length-append came (held ∷ []));
      };
      due = λ k at.
          let next : k ≡ next_page new.page =
          due_one new now k (next_page new.page) at (inr (omega (arith, is), refl)) in
          next ∙ sym (due_more n held came);
    }

-- the search ends there
pub none_follows : (n : ℕ) (old mid new : Leaf) (last : ℕ) → HaveCome n old mid last → HopsOn last mid new (Ok false)
    → HasComeBy n old new 0
none_follows n old mid new last have hops =
    subst (λ (leaf : Leaf). HasComeBy n old leaf 0) (sym (stays mid new last hops)) have.come

-- or it halts
pub come_halts : (A : Type 0) (n : ℕ) (old mid new : Leaf) (last : ℕ) (halt : Halt) → HaveCome n old mid last
    → HopsOn last mid new (Err halt) → GoesByNextFields {A = A} n old new (Err halt)
come_halts A n old mid new last (Broken fault) have hops =
    let m = due_number mid last in
    subst (λ (leaf : Leaf). HasComeBy n old leaf 0) (sym (hops m.0 m.1)) have.come
come_halts A n old mid new last Source have hops =
    let m = due_number mid last in
    let hop = hops m.0 m.1 in
    record {
      came = have.come.came;
      in_turn = have.come.in_turn;
      number = hop.0 ∙ have.come.number;
      page = λ z. absurd (omega arith);
      fetches = omega (arith, hop.1, have.come.fetches);
    }

-- so it is with the leaves of a table
module _ (file : List ℕ) (table : TableDef) where
  pub can_take : (leaf : Leaf) (last : ℕ) → IsWalked (clustered_tree file table)
      → HasTaken (clustered_tree file table) leaf last 0 → CanTake file leaf last
  unfolding index_in
  can_take leaf last walked has = record {
    root = (clustered_tree file table).root;
    fields = (clustered_tree file table).leaf;
    node = (clustered_tree file table).node;
    taken = 0;
    walked = walked;
    has = has;
  }

  -- a pass over them that halts names no rule
  pub pass_stops : (A : Type 0) (halt : Halt) (old new : Leaf) (last : ℕ)
      → ((root : ℕ) (fields node : Fields) (i : ℕ) → IsWalked (index_of file root fields node)
      → HasTaken (index_of file root fields node) old last i
      → PassesLeaves {A = A} (index_of file root fields node) (Err halt) new)
      → IsWalked (clustered_tree file table) → HasTaken (clustered_tree file table) old last 0
      → Stops (stop_of halt) (ValueChecksOf file table)
  unfolding index_in
  pass_stops A (Broken fault) old new last exact walked has =
      absurd (exact (clustered_tree file table).root (clustered_tree file table).leaf (clustered_tree file table).node 0
      walked has)
  pass_stops A Source old new last exact walked has = tt
