-- Entries whose parts have the same sizes are divided in the same way.
use Rattle.std.proofs.Common.{◌≡◌, ℕ, zero, suc, ◌+◌, List, [], ◌∷◌, ◌++◌, length, get_or, take, map, cond}
use Rattle.std.proofs.Common.{Bool, true, false, nat_le, refl, sym, ap, ◌∙◌, arith, length-append}
use Rattle.std.specs.List.{AllZip, flat_map, range_with_len}
use Rattle.std.specs.Prelude.{zip}
use Rattle.std.proofs.lemmas.List.Sums.{sum_by-cons}
use Rattle.std.proofs.lemmas.List.FromFn.{length-map-range_with_len}
use Rattle.column_values.specs.declared.field.Field.{Field}
use Rattle.column_values.specs.Types.{Fields, is_variable}
use Rattle.compact_record.specs.Reading.{null_bytes}
use Rattle.compact_record.specs.declared.parts.Part.{Part}
use Rattle.compact_record.specs.declared.parts.Part.TheVariants.{Null, Bytes}
use Rattle.byteorder.specs.Numbers.{length-bytes_high_first}
use Rattle.page_source.specs.Pages.{be_bytes}
use Rattle.compact_record.specs.Writing.{local_bytes, length_bytes, length_of_part, null_byte, bytes_below, origin_in}
use Rattle.compact_record.specs.Writing.{size_of_record, value_bytes}
use Rattle.tree_layout.specs.Entries.{Entry, IsAlike, AreAlike}
use Rattle.tree_layout.specs.Division.{Level, total_of, has_room_for, divided_from, divided, pointer_with}
use Rattle.tree_layout.specs.Division.{pointers_to, levels_from, tree_levels, level_counts}
use Rattle.tree_layout.specs.DivisionLaws.{CountsAreOfSizes, CountsNeedNoNumbers, AlikeRecordsHaveOneSize}
use Rattle.tree_layout.proofs.Zips.{zip-append, zip_from, zip_length, zip_at}
use Rattle.tree_layout.proofs.Rise.{length-pointers, get_or-pointers}

-- one record

local_same : (a b : Part) → IsAlike a b → length (local_bytes a) ≡ length (local_bytes b)
local_same Null Null alike = refl
local_same Null (Bytes ys f) alike = absurd alike
local_same (Bytes xs e) Null alike = absurd alike
local_same (Bytes xs e) (Bytes ys f) alike = alike.0

bytes_same : (field : Field) (xs ys : List ℕ) (e f : Bool) → length xs ≡ length ys → e ≡ f
    → length_bytes field xs e ≡ length_bytes field ys f
bytes_same field xs ys true true same both = rw same refl
bytes_same field xs ys true false same both = cc
bytes_same field xs ys false true same both = cc
bytes_same field xs ys false false same both = rw same refl

length_same : (field : Field) (a b : Part) → IsAlike a b → length_of_part (field, a) ≡ length_of_part (field, b)
length_same field Null Null alike = refl
length_same field Null (Bytes ys f) alike = absurd alike
length_same field (Bytes xs e) Null alike = absurd alike
length_same field (Bytes xs e) (Bytes ys f) alike =
    ap (λ bytes. cond (is_variable field.kind) bytes []) (bytes_same field xs ys e f alike.0 alike.1)

lengths_same : (fields : List Field) (a b : Entry) → AreAlike a b
    → flat_map length_of_part (zip fields a)
    ≡ flat_map length_of_part (zip fields b)
lengths_same [] a b alike = refl
lengths_same (field ∷ fields) [] [] alike = refl
lengths_same (field ∷ fields) [] (y ∷ ys) alike = absurd alike
lengths_same (field ∷ fields) (x ∷ xs) [] alike = absurd alike
lengths_same (field ∷ fields) (x ∷ xs) (y ∷ ys) alike =
    rw (length_same field x y alike.0, lengths_same fields xs ys alike.1) refl

locals_same : (a b : Entry) → AreAlike a b → length (flat_map local_bytes a) ≡ length (flat_map local_bytes b)
locals_same [] [] alike = refl
locals_same [] (y ∷ ys) alike = absurd alike
locals_same (x ∷ xs) [] alike = absurd alike
locals_same (x ∷ xs) (y ∷ ys) alike =
    let here = local_same x y alike.0 in
    let rest = locals_same xs ys alike.1 in
    length-append (local_bytes x) (flat_map local_bytes xs) ∙ rw (here, rest) refl
    ∙ sym (length-append (local_bytes y) (flat_map local_bytes ys))

pub below_is : (fields : Fields) (a : Entry) → length (bytes_below fields a) ≡ null_bytes fields
    + length (flat_map length_of_part (zip fields.fields a))
unfolding bytes_below
below_is fields a =
    length-append (map (null_byte fields a) (range_with_len 0 (null_bytes fields)))
    (flat_map length_of_part (zip fields.fields a))
    ∙ ap (λ n. n + length (flat_map length_of_part (zip fields.fields a)))
    (length-map-range_with_len (null_byte fields a) 0 (null_bytes fields))

-- records of parts of the same sizes have the same size
pub size_same : AlikeRecordsHaveOneSize
unfolding size_of_record origin_in value_bytes
size_same fields a b alike =
    let lengths = ap length (lengths_same fields.fields a b alike) in
    let locals = locals_same a b alike in
    let first = below_is fields a in
    let second = below_is fields b in
    omega arith

-- a page

total_same : (fields : Fields) (xs ys : List Entry) → AllZip AreAlike xs ys → total_of fields xs ≡ total_of fields ys
total_same fields [] [] alike = refl
total_same fields [] (y ∷ ys) alike = absurd alike
total_same fields (x ∷ xs) [] alike = absurd alike
total_same fields (x ∷ xs) (y ∷ ys) alike =
    sum_by-cons (size_of_record fields) x xs
    ∙ rw (size_same fields x y alike.0, total_same fields xs ys alike.1) refl
    ∙ sym (sum_by-cons (size_of_record fields) y ys)

room_same : (fields : Fields) (page other : List Entry) (x y : Entry) → AllZip AreAlike page other → AreAlike x y
    → has_room_for fields page x ≡ has_room_for fields other y
room_same fields page other x y alike both =
    rw (zip_length AreAlike page other alike, total_same fields page other alike, size_same fields x y both) refl

divided_same : (fields : Fields) (page other xs ys : List Entry) → AllZip AreAlike page other → AllZip AreAlike xs ys
    → AllZip (AllZip AreAlike) (divided_from fields page xs) (divided_from fields other ys)
divided_same fields page other [] [] begun alike = (begun, tt)
divided_same fields page other [] (y ∷ ys) begun alike = absurd alike
divided_same fields page other (x ∷ xs) [] begun alike = absurd alike
divided_same fields page other (x ∷ xs) (y ∷ ys) begun alike =
    let more = divided_same fields (page ++ x ∷ []) (other ++ y ∷ []) xs ys
    (zip-append AreAlike page (x ∷ []) other (y ∷ []) begun (alike.0, tt)) alike.1 in
    let next = divided_same fields (x ∷ []) (y ∷ []) xs ys (alike.0, tt) alike.1 in
    rw (room_same fields page other x y begun alike.0)
    (elim (has_room_for fields other y) as (λ room. AllZip (AllZip AreAlike)
    (cond room (divided_from fields (page ++ x ∷ []) xs) (page ∷ divided_from fields (x ∷ []) xs))
    (cond room (divided_from fields (other ++ y ∷ []) ys) (other ∷ divided_from fields (y ∷ []) ys)))
    [ true ↦ more | false ↦ (begun, next) ])

divisions_same : (fields : Fields) (xs ys : List Entry) → AllZip AreAlike xs ys
    → AllZip (AllZip AreAlike) (divided fields xs) (divided fields ys)
unfolding divided
divisions_same fields xs ys alike = divided_same fields [] [] xs ys tt alike

-- the levels

take_same : (n : ℕ) (a b : Entry) → AreAlike a b → AreAlike (take n a) (take n b)
take_same zero a b alike = tt
take_same (suc n) [] [] alike = tt
take_same (suc n) [] (y ∷ ys) alike = absurd alike
take_same (suc n) (x ∷ xs) [] alike = absurd alike
take_same (suc n) (x ∷ xs) (y ∷ ys) alike = (alike.0, take_same n xs ys alike.1)

pub pointer_same : (keys : ℕ) (a b : Entry) (n m : ℕ) → AreAlike a b
    → AreAlike (pointer_with keys a n) (pointer_with keys b m)
pointer_same keys a b n m alike =
    zip-append IsAlike (take keys a) (Bytes (be_bytes 4 n) false ∷ []) (take keys b) (Bytes (be_bytes 4 m) false ∷ [])
    (take_same keys a b alike)
    ((length-bytes_high_first 4 n ∙ sym (length-bytes_high_first 4 m), refl), tt)

first_same : (page other : List Entry) → AllZip AreAlike page other → AreAlike (get_or page 0 []) (get_or other 0 [])
first_same [] [] alike = tt
first_same [] (y ∷ ys) alike = absurd alike
first_same (x ∷ xs) [] alike = absurd alike
first_same (x ∷ xs) (y ∷ ys) alike = alike.0

pointers_same : (keys : ℕ) (pages others : Level) (number another : ℕ → ℕ)
    → AllZip (AllZip AreAlike) pages others
    → AllZip AreAlike (pointers_to keys pages number) (pointers_to keys others another)
pointers_same keys pages others number another alike =
    let count = zip_length (AllZip AreAlike) pages others alike in
    let first = length-pointers keys pages number in
    let second = length-pointers keys others another in
    zip_from AreAlike (pointers_to keys pages number) (pointers_to keys others another) [] [] (omega arith)
    (λ k below.
    let one = get_or-pointers keys pages number k [] (omega arith) in
    let two = get_or-pointers keys others another k [] (omega arith) in
    let page = zip_at (AllZip AreAlike) pages others k [] [] alike (omega arith) in
    rw (one, two) (pointer_same keys (get_or (get_or pages k []) 0 []) (get_or (get_or others k []) 0 []) (number k)
    (another k) (first_same (get_or pages k []) (get_or others k []) page)))

levels_same : (node : Fields) (numbers others : ℕ → ℕ → ℕ) (most level : ℕ) (pages like : Level)
    → AllZip (AllZip AreAlike) pages like
    → level_counts (levels_from node numbers most level pages) ≡ level_counts (levels_from node others most level like)
levels_same node numbers others zero level pages like alike =
    ap (λ n. n ∷ []) (zip_length (AllZip AreAlike) pages like alike)
levels_same node numbers others (suc most) level pages like alike =
    let up = divided node (pointers_to node.keys pages (numbers level)) in
    let across = divided node (pointers_to node.keys like (others level)) in
    let count = zip_length (AllZip AreAlike) pages like alike in
    let rest = levels_same node numbers others most (level + 1) up across
    (divisions_same node (pointers_to node.keys pages (numbers level)) (pointers_to node.keys like (others level))
    (pointers_same node.keys pages like (numbers level) (others level) alike)) in
    rw count
    (elim (nat_le (length like) 1) as (λ one.
    level_counts (cond one (pages ∷ []) (pages ∷ levels_from node numbers most (level + 1) up))
    ≡ level_counts (cond one (like ∷ []) (like ∷ levels_from node others most (level + 1) across)))
    [ true ↦ ap (λ n. n ∷ []) count | false ↦ rw (count, rest) refl ])

pub counts_law : CountsAreOfSizes
unfolding tree_levels
counts_law leaf node numbers others entries like alike =
    let pages = divisions_same leaf entries like alike in
    let count = zip_length (AllZip AreAlike) (divided leaf entries) (divided leaf like) pages in
    rw count (levels_same node numbers others (length (divided leaf like)) 0 (divided leaf entries)
    (divided leaf like) pages)

-- an entry is like itself
alike_part : (a : Part) → IsAlike a a
alike_part Null = tt
alike_part (Bytes bytes external) = (refl, refl)

pub alike_entry : (a : Entry) → AreAlike a a
alike_entry [] = tt
alike_entry (x ∷ xs) = (alike_part x, alike_entry xs)

pub alike_all : (entries : List Entry) → AllZip AreAlike entries entries
alike_all [] = tt
alike_all (x ∷ xs) = (alike_entry x, alike_all xs)

pub need_no_numbers : CountsNeedNoNumbers
need_no_numbers leaf node numbers others entries =
    counts_law leaf node numbers others entries entries (alike_all entries)
