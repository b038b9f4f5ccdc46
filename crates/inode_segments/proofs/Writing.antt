-- An inode that was written is read again.
use Rattle.std.proofs.Common.{◌≡◌, ℕ, ◌+◌, ◌*◌, ◌<◌, ◌≤◌, List, [], ◌∷◌, ◌++◌, length, inl, inr, get_or, take, drop}
use Rattle.std.proofs.Common.{flat_map, append-nil, add-zero, length-append, refl, sym, ◌∙◌, ap, arith}
use Rattle.std.proofs.lemmas.List.{take_more, length-take-le, take-append-drop}
use Rattle.std.proofs.lemmas.List.FromFn.{fill_by_all}
use Rattle.std.proofs.lemmas.Bool.{cases_lt}
use Rattle.std.proofs.lemmas.List.Concat.{flat_map-append}
use Rattle.page_source.specs.Pages.{num, be_bytes, with_bytes}
use Rattle.page_source.proofs.Written.{get_or-with_bytes_before, num_from_bytes, with_bytes-next, length-with_bytes}
use Rattle.space_header.specs.declared.address.Base.{Base}
use Rattle.space_header.specs.Header.{address_at, base_at}
use Rattle.space_header.specs.Writing.{base_bytes, address_bytes}
use Rattle.inode_segments.specs.declared.inode.Inode.{Inode}
use Rattle.inode_segments.specs.Inodes.{inode_at, slots_at}
use Rattle.inode_segments.specs.Writing.{slots_bytes, inode_bytes}

-- the bytes of slots
pub slots_none : (xs : List ℕ) → slots_bytes (take 0 xs) ≡ []
unfolding slots_bytes
slots_none xs = refl

pub slots_size : (xs : List ℕ) → length (slots_bytes xs) ≡ 4 * length xs
unfolding slots_bytes
slots_size [] = refl
slots_size (x ∷ xs) =
    omega (arith, length-append (be_bytes 4 x) (flat_map (be_bytes 4) xs), slots_size xs)

pub slots_more : (xs : List ℕ) (i : ℕ) → i < length xs
    → slots_bytes (take (i + 1) xs) ≡ slots_bytes (take i xs) ++ be_bytes 4 (get_or xs i 0)
unfolding slots_bytes
slots_more xs i inside =
    ap (flat_map (be_bytes 4)) (take_more xs i 0 inside)
    ∙ flat_map-append (be_bytes 4) (take i xs) (get_or xs i 0 ∷ [])

-- the bytes below a number are the same
abbrev pub AreSameBelow : ℕ → List ℕ → List ℕ → Type 0
AreSameBelow n xs ys = (k : ℕ) → k < n → get_or xs k 0 ≡ get_or ys k 0

pub put_after : (old new : List ℕ) (at : ℕ) (bytes : List ℕ) → new ≡ with_bytes old at bytes → at ≤ length old
    → AreSameBelow at new old
put_after old new at bytes is inside = λ k below. rw is (get_or-with_bytes_before old at bytes k 0 inside below)

-- a write leaves the length and what is below it
pub record Put (at : ℕ) (old new : List ℕ) : Type 0 where
  pub size : length new ≡ 16384
  pub same : AreSameBelow at new old

pub put : (old new : List ℕ) (at width : ℕ) (bytes : List ℕ) → new ≡ with_bytes old at bytes → length old ≡ 16384
    → length bytes ≡ width → at + width ≤ 16384 → Put at old new
put old new at width bytes is size wide inside =
    record {
      size = ap length is ∙ length-with_bytes old at bytes (omega (arith, size, wide)) ∙ size;
      same = put_after old new at bytes is (omega (arith, size));
    }

pub base_size : (base : Base) → length (base_bytes base) ≡ 16
unfolding base_bytes address_bytes
base_size base = refl

-- one more change, not above the others
one_before : (n m : ℕ) (xs ys zs : List ℕ) → n ≤ m → AreSameBelow m xs ys → AreSameBelow n ys zs → AreSameBelow n xs zs
one_before n m xs ys zs less first second = λ k below. first k (omega arith) ∙ second k below

pub num_below : (n : ℕ) (xs ys : List ℕ) (at width : ℕ) → AreSameBelow n xs ys → at + width ≤ n
    → num xs at width ≡ num ys at width
num_below n xs ys at width same inside = num_from_bytes xs ys at at width (λ k below. same (at + k) (omega arith))

base_below : (n : ℕ) (xs ys : List ℕ) (at : ℕ) → AreSameBelow n xs ys → at + 16 ≤ n → base_at xs at ≡ base_at ys at
unfolding base_at address_at
base_below n xs ys at same inside =
    rw (
      num_below n xs ys at 4 same (omega arith),
      num_below n xs ys (at + 4) 4 same (omega arith),
      num_below n xs ys (at + 4 + 4) 2 same (omega arith),
      num_below n xs ys (at + 10) 4 same (omega arith),
      num_below n xs ys (at + 10 + 4) 2 same (omega arith),
    ) refl

-- a number before a write
pub num_before : (page : List ℕ) (at : ℕ) (bytes : List ℕ) (i width : ℕ) → at ≤ length page → i + width ≤ at
    → num (with_bytes page at bytes) i width ≡ num page i width
num_before page at bytes i width inside before =
    num_below at (with_bytes page at bytes) page i width
    (put_after page (with_bytes page at bytes) at bytes refl inside) before

-- nothing was written yet
pub nothing_written : (page : List ℕ) (at : ℕ) → with_bytes page at [] ≡ page
unfolding with_bytes
nothing_written page at =
    ap (λ (xs : List ℕ). xs ++ drop (at + 0) page) (append-nil (take at page))
    ∙ ap (λ (k : ℕ). take at page ++ drop k page) (add-zero at) ∙ take-append-drop at page

-- one more slot was written
pub slot_written : (page now : List ℕ) (at i : ℕ) (slots : List ℕ) → at + 128 ≤ length page → i < 32
    → length slots ≡ 32 → now ≡ with_bytes page at (slots_bytes (take i slots))
    → with_bytes now (at + 4 * i) (be_bytes 4 (get_or slots i 0)) ≡ with_bytes page at
    (slots_bytes (take (i + 1) slots))
slot_written page now at i slots inside small all is =
    let slot = be_bytes 4 (get_or slots i 0) in
    let size : length (slots_bytes (take i slots)) ≡ 4 * i =
    slots_size (take i slots) ∙ ap (λ (k : ℕ). 4 * k) (length-take-le i slots (omega arith)) in
    ap (λ (p : List ℕ). with_bytes p (at + 4 * i) slot) is
    ∙ with_bytes-next page at (at + 4 * i) (slots_bytes (take i slots)) slot (omega (arith, size)) (omega (arith, size))
    ∙ ap (with_bytes page at) (sym (slots_more slots i (omega arith)))

pub slots_written_size : (page now : List ℕ) (at i : ℕ) (slots : List ℕ) → at + 128 ≤ length page → i ≤ 32
    → length slots ≡ 32 → now ≡ with_bytes page at (slots_bytes (take i slots)) → length now ≡ length page
slots_written_size page now at i slots inside small all is =
    let size : length (slots_bytes (take i slots)) ≡ 4 * i =
    slots_size (take i slots) ∙ ap (λ (k : ℕ). 4 * k) (length-take-le i slots (omega arith)) in
    ap length is ∙ length-with_bytes page at (slots_bytes (take i slots)) (omega (arith, size))

-- and is read again
pub slot_read : (page now : List ℕ) (at i : ℕ) (slots : List ℕ) → at + 4 * i ≤ length page
    → now ≡ with_bytes page (at + 4 * i) (be_bytes 4 (get_or slots i 0)) → num now (at + 4 * i) 4 ≡ get_or slots i 0
    → ((k : ℕ) → k < i → num page (at + 4 * k) 4 ≡ get_or slots k 0)
    → (k : ℕ) → k < i + 1 → num now (at + 4 * k) 4 ≡ get_or slots k 0
slot_read page now at i slots inside is this so_far k below = elim (cases_lt k i) [
  | inl before ↦ ap (λ (p : List ℕ). num p (at + 4 * k) 4) is
      ∙ num_before page (at + 4 * i) (be_bytes 4 (get_or slots i 0)) (at + 4 * k) 4 inside (omega arith)
      ∙ so_far k before
  | inr past ↦ let here : k ≡ i = omega arith in ap (λ (j : ℕ). num now (at + 4 * j) 4) here ∙ this
      ∙ ap (λ (j : ℕ). get_or slots j 0) (sym here)
]

pub slots_read : (page : List ℕ) (at : ℕ) (slots : List ℕ) → length slots ≡ 32
    → ((k : ℕ) → k < 32 → num page (at + 4 * k) 4 ≡ get_or slots k 0) → slots_at page at ≡ slots
unfolding slots_at
slots_read page at slots all read =
    sym (fill_by_all (λ i. num page (at + 4 * i) 4) slots 32 0 all (λ k small. sym (read k small)))

-- an inode whose fields behind the first were written one behind the other
abbrev pub with_fields : List ℕ → ℕ → Inode → List ℕ
with_fields page at x =
    let used = with_bytes page (at + 8) (be_bytes 4 x.not_full_used) in
    let free = with_bytes used (at + 12) (base_bytes x.free) in
    let not_full = with_bytes free (at + 28) (base_bytes x.not_full) in
    let full = with_bytes not_full (at + 44) (base_bytes x.full) in
    let magic = with_bytes full (at + 60) (be_bytes 4 x.magic) in
    with_bytes magic (at + 64) (slots_bytes x.slots)

-- one more field
more : (page : List ℕ) (at : ℕ) (xs now : List ℕ) (next : ℕ) (ys : List ℕ) → now ≡ with_bytes page at xs
    → next ≡ at + length xs → next ≤ length page → with_bytes now next ys ≡ with_bytes page at (xs ++ ys)
more page at xs now next ys is there inside =
    ap (λ (p : List ℕ). with_bytes p next ys) is ∙ with_bytes-next page at next xs ys there (omega arith)

pub inode_written : (page : List ℕ) (at : ℕ) (x : Inode) → at + 192 ≤ length page
    → with_fields (with_bytes page at (be_bytes 8 x.id)) at x ≡ with_bytes page at (inode_bytes x)
unfolding inode_bytes base_bytes address_bytes
inode_written page at x inside =
    let add = λ (xs now : List ℕ) (next : ℕ) (ys : List ℕ). more page at xs now next ys in
    add _ _ (at + 64) (slots_bytes x.slots)
    (add _ _ (at + 60) (be_bytes 4 x.magic)
    (add _ _ (at + 44) (base_bytes x.full)
    (add _ _ (at + 28) (base_bytes x.not_full)
    (add _ _ (at + 12) (base_bytes x.free)
    (add (be_bytes 8 x.id) _ (at + 8) (be_bytes 4 x.not_full_used) refl refl (omega arith))
    refl (omega arith)) refl (omega arith)) refl (omega arith)) refl (omega arith)) refl (omega arith)

same_inode : (a b : Inode) → a.id ≡ b.id → a.not_full_used ≡ b.not_full_used → a.free ≡ b.free
    → a.not_full ≡ b.not_full → a.full ≡ b.full → a.magic ≡ b.magic → a.slots ≡ b.slots → a ≡ b
same_inode a b id used free not_full full magic slots =
    let made : ℕ → ℕ → Base → Base → Base → ℕ → List ℕ → Inode = λ i u f n l m s. record {
      id = i;
      not_full_used = u;
      free = f;
      not_full = n;
      full = l;
      magic = m;
      slots = s;
    } in
    ap (λ i. made i a.not_full_used a.free a.not_full a.full a.magic a.slots) id
    ∙ ap (λ u. made b.id u a.free a.not_full a.full a.magic a.slots) used
    ∙ ap (λ f. made b.id b.not_full_used f a.not_full a.full a.magic a.slots) free
    ∙ ap (λ n. made b.id b.not_full_used b.free n a.full a.magic a.slots) not_full
    ∙ ap (λ l. made b.id b.not_full_used b.free b.not_full l a.magic a.slots) full
    ∙ ap (λ m. made b.id b.not_full_used b.free b.not_full b.full m a.slots) magic
    ∙ ap (made b.id b.not_full_used b.free b.not_full b.full b.magic) slots

-- the fields of an inode that were written one behind the other, each as it was then
pub inode_read : (page used free not_full full magic now : List ℕ) (at : ℕ) (x : Inode)
    → AreSameBelow (at + 8) used page → AreSameBelow (at + 12) free used → AreSameBelow (at + 28) not_full free
    → AreSameBelow (at + 44) full not_full → AreSameBelow (at + 60) magic full → AreSameBelow (at + 64) now magic
    → num page at 8 ≡ x.id → num used (at + 8) 4 ≡ x.not_full_used → base_at free (at + 12) ≡ x.free
    → base_at not_full (at + 28) ≡ x.not_full → base_at full (at + 44) ≡ x.full → num magic (at + 60) 4 ≡ x.magic
    → slots_at now (at + 64) ≡ x.slots → inode_at now at ≡ x
unfolding inode_at
inode_read page used free not_full full magic now at x s1 s2 s3 s4 s5 to5 id is_used is_free is_not_full is_full
    is_magic is_slots =
    let to4 = one_before (at + 60) (at + 64) now magic full (omega arith) to5 s5 in
    let to3 = one_before (at + 44) (at + 60) now full not_full (omega arith) to4 s4 in
    let to2 = one_before (at + 28) (at + 44) now not_full free (omega arith) to3 s3 in
    let to1 = one_before (at + 12) (at + 28) now free used (omega arith) to2 s2 in
    let to0 = one_before (at + 8) (at + 12) now used page (omega arith) to1 s1 in
    same_inode (inode_at now at) x (num_below (at + 8) now page at 8 to0 (omega arith) ∙ id)
    (num_below (at + 12) now used (at + 8) 4 to1 (omega arith) ∙ is_used)
    (base_below (at + 28) now free (at + 12) to2 (omega arith) ∙ is_free)
    (base_below (at + 44) now not_full (at + 28) to3 (omega arith) ∙ is_not_full)
    (base_below (at + 60) now full (at + 44) to4 (omega arith) ∙ is_full)
    (num_below (at + 64) now magic (at + 60) 4 to5 (omega arith) ∙ is_magic) is_slots
