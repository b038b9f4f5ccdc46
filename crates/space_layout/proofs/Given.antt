-- What is known of an extent from its descriptor, of which the first pages are used.
use Rattle.std.proofs.Common.{◌≡◌, ℕ, zero, suc, ◌+◌, ◌-◌, ◌*◌, ◌/◌, ◌%◌, ◌^◌, ◌<◌, ◌≤◌, ◌==◌, nat_lt}
use Rattle.std.proofs.Common.{List, length, inl, inr, refl, sym, ap, ◌∙◌, arith}
use Rattle.std.specs.List.{range_with_len}
use Rattle.std.proofs.Math.Nat.{pow-succ', div-div-eq-div-mul}
use Rattle.std.proofs.lemmas.Nat.{pow_pos}
use Rattle.std.proofs.lemmas.Bool.{cases_lt, lt-ltb, le-ltb}
use Rattle.std.proofs.lemmas.List.FromFn.{length-range_with_len}
use Rattle.extent_map.specs.declared.extent.Extent.{Extent}
use Rattle.extent_map.specs.Extents.{extent_of, extent_count, extent_state, extent_node, extent_pages, is_used, used_in}
use Rattle.extent_map.specs.Extents.{used_count}
use Rattle.extent_map.specs.Laws.{BitsAreUsedPages}
use Rattle.space_layout.specs.declared.runs.Run.{Run}
use Rattle.space_layout.specs.Runs.{node_of}
use Rattle.space_layout.specs.Fields.{described}
use Rattle.space_layout.proofs.RunLists.{filter_run}

-- the bits of a number by those of its half
further : (n j : ℕ) → n / 2 ^ suc j % 2 ≡ n / 2 / 2 ^ j % 2
further n j =
    ap (λ (w : ℕ). n / w % 2) (pow-succ' 2 j) ∙ ap (λ (m : ℕ). m % 2) (sym (div-div-eq-div-mul n 2 (2 ^ j)))

-- a number whose lowest bits are set
half_of : (c : ℕ) → (2 ^ suc c - 1) / 2 ≡ 2 ^ c - 1
half_of c = omega (arith, pow-succ' 2 c, pow_pos c)

set_bit : (c j : ℕ) → j < c → (2 ^ c - 1) / 2 ^ j % 2 ≡ 1
set_bit zero j below = absurd (omega arith)
set_bit (suc c) zero below = omega (arith, pow-succ' 2 c, pow_pos c)
set_bit (suc c) (suc j) below =
    further (2 ^ suc c - 1) j ∙ ap (λ (n : ℕ). n / 2 ^ j % 2) (half_of c) ∙ set_bit c j (omega arith)

clear_bit : (c j : ℕ) → c ≤ j → (2 ^ c - 1) / 2 ^ j % 2 ≡ 0
clear_bit zero zero past = refl
clear_bit zero (suc j) past = further 0 j ∙ clear_bit zero j (omega arith)
clear_bit (suc c) zero past = absurd (omega arith)
clear_bit (suc c) (suc j) past =
    further (2 ^ suc c - 1) j ∙ ap (λ (n : ℕ). n / 2 ^ j % 2) (half_of c) ∙ clear_bit c j (omega arith)

first_bit : (c j : ℕ) → ((2 ^ c - 1) / 2 ^ j % 2 == 1) ≡ nat_lt j c
first_bit c j = elim (cases_lt j c) [
  | inl below ↦ rw (lt-ltb j c below) (ap (λ (n : ℕ). n == 1) (set_bit c j below))
  | inr past ↦ rw (le-ltb j c past) (ap (λ (n : ℕ). n == 1) (clear_bit c j past))
]

-- this is the descriptor of extent e, which is a member of this run
pub record Given (file : List ℕ) (e id state : ℕ) (run : Run) (count : ℕ) : Type 0 where
  pub bits : BitsAreUsedPages
  pub below : e < extent_count file
  pub same : extent_of file e ≡ described id state run count e
  pub first : run.first ≤ e
  pub last : e < run.first + run.count
  pub some : 0 < count
  pub few : count ≤ 64

pub given_state : (file : List ℕ) (e id state : ℕ) (run : Run) (count : ℕ) → Given file e id state run count
    → extent_state file e ≡ state
unfolding described
given_state file e id state run count g = ap (λ (x : Extent). x.state) g.same

pub given_id : (file : List ℕ) (e id state : ℕ) (run : Run) (count : ℕ) → Given file e id state run count
    → (extent_of file e).id ≡ id
unfolding described
given_id file e id state run count g = ap (λ (x : Extent). x.id) g.same

pub given_node : (file : List ℕ) (e id state : ℕ) (run : Run) (count : ℕ) → Given file e id state run count
    → extent_node file e ≡ node_of run e
unfolding described
given_node file e id state run count g = ap (λ (x : Extent). x.node) g.same

-- so many of its first pages are used
pub given_use : (file : List ℕ) (e id state : ℕ) (run : Run) (count : ℕ) → Given file e id state run count → (j : ℕ)
    → j < 64 → is_used file (64 * e + j) ≡ nat_lt j count
unfolding described
given_use file e id state run count g j small =
    g.bits file e j g.below small ∙ ap (λ (x : Extent). x.used / 2 ^ j % 2 == 1) g.same ∙ first_bit count j

pub given_used : (file : List ℕ) (e id state : ℕ) (run : Run) (count : ℕ) → Given file e id state run count → (n : ℕ)
    → n / 64 ≡ e → is_used file n ≡ nat_lt (n % 64) count
given_used file e id state run count g n there =
    let split : n ≡ 64 * e + n % 64 = omega (arith, there) in
    ap (is_used file) split ∙ given_use file e id state run count g (n % 64) (omega arith)

pub given_pages : (file : List ℕ) (e id state : ℕ) (run : Run) (count : ℕ) → Given file e id state run count
    → used_in file e ≡ range_with_len (64 * e) count
unfolding used_in extent_pages
given_pages file e id state run count g =
    let few = g.few in
    let pages : Run = record { first = 64 * e; count = count } in
    filter_run (is_used file) (64 * e) 64 pages (record {
      low = omega arith;
      high = omega arith;
      before = λ n l m. absurd (omega arith);
      within = λ n l m. given_used file e id state run count g n (omega arith) ∙ lt-ltb (n % 64) count (omega arith);
      behind = λ n l m. given_used file e id state run count g n (omega arith) ∙ le-ltb (n % 64) count (omega arith);
    })

pub given_count : (file : List ℕ) (e id state : ℕ) (run : Run) (count : ℕ) → Given file e id state run count
    → used_count file e ≡ count
given_count file e id state run count g =
    ap (λ (xs : List ℕ). length xs) (given_pages file e id state run count g) ∙ length-range_with_len (64 * e) count
