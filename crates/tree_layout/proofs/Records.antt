-- What is read of a record whose parts are known.
use Rattle.std.proofs.Common.{◌≡◌, ℕ, ◌-◌, ◌<◌, ◌≤◌, ◌^◌, List, [], ◌++◌, length, take, drop, map, cond, Bool}
use Rattle.std.proofs.Common.{true, false, Option, Some, None, slice_range, sym, ap, ◌∙◌, arith}
use Rattle.std.specs.List.{range_with_len}
use Rattle.std.proofs.lemmas.List.{ext_get_or, get_or-map, get_or-take, length-map, length-take-le, take-append-drop}
use Rattle.std.proofs.lemmas.List.{get_or_at}
use Rattle.std.proofs.lemmas.List.FromFn.{length-map-range_with_len, get_or-map-range_with_len}
use Rattle.byteorder.specs.Endian.{big_from}
use Rattle.byteorder.specs.Numbers.{big_number-reads_back}
use Rattle.page_source.specs.Pages.{num, be_bytes}
use Rattle.page_source.proofs.Numbers.{num-is_big}
use Rattle.column_values.specs.Types.{Fields}
use Rattle.compact_record.specs.Reading.{key_of, place_of, field_count, cell_at}
use Rattle.compact_record.specs.Keys.{child_at}
use Rattle.compact_record.specs.declared.parts.Part.TheVariants.{Null, Bytes}
use Rattle.compact_record.specs.Writing.{part_cell}
use Rattle.tree_layout.specs.Entries.{Entry, part_at, key_of_entry, HoldsEntry}
use Rattle.tree_layout.specs.Division.{pointer_with}

-- the key is that of the parts
pub key_is : (page : List ℕ) (fields : Fields) (origin : ℕ) (entry : Entry) → HoldsEntry page fields origin entry
    → fields.keys ≤ field_count fields → fields.keys ≤ length entry
    → key_of page origin fields ≡ key_of_entry fields.keys entry
unfolding key_of
key_is page fields origin entry holds few enough =
    let cell : ℕ → Option (List ℕ) = λ i. cell_at page (place_of page origin fields i) in
    let count : length (map cell (range_with_len 0 fields.keys)) ≡ fields.keys =
    length-map-range_with_len cell 0 fields.keys in
    let size : length (take fields.keys entry) ≡ fields.keys = length-take-le fields.keys entry enough in
    let parts : length (map part_cell (take fields.keys entry)) ≡ length (take fields.keys entry) =
    length-map (take fields.keys entry) part_cell in
    ext_get_or None (map cell (range_with_len 0 fields.keys)) (map part_cell (take fields.keys entry)) (omega arith)
    (λ i within.
    get_or-map-range_with_len cell 0 fields.keys i i None (omega arith) (omega arith)
    ∙ holds.cells i (omega arith)
    ∙ ap part_cell (sym (get_or-take fields.keys entry i Null (omega arith)))
    ∙ sym (get_or-map part_cell (take fields.keys entry) i Null None (omega arith)))

-- the number that some bytes spell
num_of_range : (page : List ℕ) (from until n : ℕ) → slice_range page from until ≡ be_bytes 4 n → n < 256 ^ 4
    → num page from 4 ≡ n
num_of_range page from until n same small =
    let rest = drop (until - from) (drop from page) in
    let whole : drop from page ≡ be_bytes 4 n ++ rest =
    sym (take-append-drop (until - from) (drop from page)) ∙ ap (λ xs. xs ++ rest) same in
    num-is_big page from 4 ∙ ap (big_from 0 4) whole ∙ big_number-reads_back 4 n rest small

held_bytes : (null : Bool) (bytes known : List ℕ) → cond null None (Some bytes) ≡ Some known → bytes ≡ known
held_bytes true bytes known same = cc
held_bytes false bytes known same = cc

-- the child of a pointer is the number that it was made of
pub child_is : (page : List ℕ) (node : Fields) (origin : ℕ) (entry : Entry) (n : ℕ)
    → HoldsEntry page node origin (pointer_with node.keys entry n) → node.keys < field_count node
    → node.keys ≤ length entry → n < 256 ^ 4 → child_at page node origin ≡ n
unfolding child_at
child_is page node origin entry n holds few enough small =
    let place = place_of page origin node node.keys in
    let size : length (take node.keys entry) ≡ node.keys = length-take-le node.keys entry enough in
    let part : part_at (pointer_with node.keys entry n) node.keys ≡ Bytes (be_bytes 4 n) false =
    get_or_at (take node.keys entry) (Bytes (be_bytes 4 n) false) [] Null node.keys size in
    num_of_range page place.from place.until n
    (held_bytes place.null (slice_range page place.from place.until) (be_bytes 4 n)
    (holds.cells node.keys few ∙ ap part_cell part)) small
