-- What the operations on vectors of 16 bytes hold at each lane.
use Rattle.std.proofs.Common.{◌≡◌, ◌≢◌, ◌↔◌, ℕ, ◌%◌, ◌^◌, ◌≤◌, ◌<◌, List, [], ◌∷◌, Bool, true, false, cond, eqb, leb}
use Rattle.std.proofs.Common.{length, take, get_or, map, replicate, subst, refl, sym, ap, ◌∙◌, arith, w8}
use Rattle.std.specs.Int.{bit_at}
use Rattle.std.specs.Simd.Lanes.{zip2, sel_l, mask_l, top}
use Rattle.std.proofs.lemmas.Simd.{length-zip2, get_or-zip2, get_or-replicate, length-sel_l, get_or-sel_l}
use Rattle.std.proofs.lemmas.Simd.{bit_mask_l, tops_compared, mask_l-mod}
use Rattle.std.proofs.lemmas.Bool.{leb-true, leb-false}
use Rattle.std.proofs.lemmas.List.{length-map, get_or-take, get_or_default, length-take-le}
use Rattle.std.proofs.Math.ListN.{get_or-map}
use Rattle.row_text.specs.calls.Lanes.{HasLanes}
use Rattle.row_text.specs.Values.{escape_letter, IsPlain}

-- 255 where the lanes of one vector are a byte, and else the lanes of another
pub marked_lanes : (a z : List ℕ) (x : ℕ) → length a ≡ 16 → length z ≡ 16
    → HasLanes (sel_l (zip2 eqb a (replicate 16 x)) (replicate 16 255) z)
    (λ k. cond (eqb (get_or a k 0) x) 255 (get_or z k 0))
marked_lanes a z x p q =
    let long : length (zip2 eqb a (replicate 16 x)) ≡ 16 = length-zip2 eqb a (replicate 16 x) p ∙ p in
    record {
      long = length-sel_l _ (replicate 16 255) z long (long ∙ sym q) ∙ long;
      each = λ k l.
          get_or-sel_l _ (replicate 16 255) z k 0 (omega arith) l (omega arith)
          ∙ (λ i. cond ((get_or-zip2 eqb a (replicate 16 x) k 0 0 false (omega arith) l
          ∙ ap (eqb (get_or a k 0)) (get_or-replicate 16 k x 0 l)) i) (get_or-replicate 16 k 255 0 l i) (get_or z k 0));
    }

-- the test of a lane's top bit
abbrev pub is_set : ℕ → Bool
is_set x = leb 128 x

set_tells : (x : ℕ) (b : Bool) → leb 128 x ≡ b → (cond {A = ℕ} b 1 0 ≡ 1) ↔ (128 ≤ x)
set_tells x true e = (λ h. leb-true 128 x e, λ h. refl)
set_tells x false e = (λ h. absurd (omega arith), λ h. omega (arith, leb-false 128 x e))

-- a bit of the mask of the lanes' top bits
pub bit_of_mask : (v : List ℕ) (k : ℕ) → (bit_at (mask_l (map is_set v)) k ≡ 1) ↔ (128 ≤ get_or v k 0)
bit_of_mask v k =
    let e : bit_at (mask_l (map is_set v)) k ≡ cond (is_set (get_or v k 0)) 1 0 =
    bit_mask_l (map is_set v) k ∙ ap (λ b. cond b 1 0) (get_or-map is_set v k 0) in
    let t = set_tells (get_or v k 0) _ refl in
    (λ h. t.0 (sym e ∙ h), λ h. e ∙ t.1 h)

splat_zip2 : {Z : Type 0} (f : ℕ → ℕ → Z) (x : ℕ) (ys : List ℕ) → zip2 f (replicate (length ys) x) ys ≡ map (f x) ys
splat_zip2 f x [] = refl
splat_zip2 f x (y ∷ ys) = ap (λ rest. f x y ∷ rest) (splat_zip2 f x ys)

-- the mask of a comparison with 128
pub top_bitmask : (v : List ℕ) (n : ℕ) → length v ≡ n → n ≤ 64
    → mask_l (map (top 7) (zip2 (λ a b. cond (leb a b) 255 0) (replicate n 128) v)) % 2 ^ 64 ≡ mask_l (map is_set v)
top_bitmask v n long small =
    ap (λ ms. mask_l ms % 2 ^ 64) (tops_compared w8 leb (replicate n 128) v
    ∙ ap (λ m. zip2 leb (replicate m 128) v) (sym long) ∙ splat_zip2 leb 128 v)
    ∙ mask_l-mod (map is_set v) 64 (omega (arith, length-map v is_set))

-- the bytes of a run before the first mark stand for themselves
pub plain_run : (run lanes marks : List ℕ) (bits n : ℕ) → length run ≡ 16 → HasLanes lanes (λ k. get_or run k 0)
    → ((k : ℕ) → k < 16 → get_or marks k 0 < 128 → escape_letter (get_or lanes k 0) ≡ 0)
    → ((k : ℕ) → (bit_at bits k ≡ 1) ↔ (128 ≤ get_or marks k 0)) → ((k : ℕ) → k < n → bit_at bits k ≢ 1) → n ≤ 16
    → IsPlain (take n run)
plain_run run lanes marks bits n size loaded marked tops below most k d lt =
    let here : k < n = omega (arith, lt, size, most, length-take-le n run (omega (arith, size, most))) in
    let low : get_or marks k 0 < 128 =
    omega (arith, λ (high : 128 ≤ get_or marks k 0). below k here ((tops k).1 high)) in
    let plain : escape_letter (get_or run k 0) ≡ 0 =
    subst (λ b. escape_letter b ≡ 0) (loaded.each k (omega (arith, here, most)))
    (marked k (omega (arith, here, most)) low) in
    subst (λ b. escape_letter b ≡ 0)
    (sym (get_or-take n run k d here ∙ get_or_default run k d 0 (omega (arith, here, most, size)))) plain
