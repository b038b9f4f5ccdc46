-- How many bytes a node pointer takes.
use Rattle.std.proofs.Common.{◌≡◌, ℕ, zero, suc, ◌+◌, ◌/◌, ◌≤◌, List, [], ◌∷◌, ◌++◌, length, take, drop, false}
use Rattle.std.proofs.Common.{refl, sym, ap, ◌∙◌, arith, length-append}
use Rattle.std.specs.List.{flat_map}
use Rattle.std.specs.Prelude.{zip}
use Rattle.std.proofs.lemmas.List.{take-append-drop, length-take-le}
use Rattle.std.proofs.lemmas.List.Concat.{flat_map-append}
use Rattle.byteorder.specs.Numbers.{length-bytes_high_first}
use Rattle.page_source.specs.Pages.{be_bytes}
use Rattle.column_values.specs.declared.field.Field.{Field}
use Rattle.column_values.specs.Types.{Fields, child_field}
use Rattle.compact_record.specs.Reading.{null_bytes}
use Rattle.compact_record.specs.declared.parts.Part.{Part}
use Rattle.compact_record.specs.declared.parts.Part.TheVariants.{Null, Bytes}
use Rattle.compact_record.specs.Writing.{local_bytes, length_of_part, origin_in, size_of_record, value_bytes, FitsField}
use Rattle.tree_layout.specs.Entries.{Entry}
use Rattle.tree_layout.specs.Division.{pointer_with}
use Rattle.std.proofs.Common.{◌*◌, ◌%◌, ◌&&◌, nat_lt, cond, true, Bool}
use Rattle.column_values.specs.Types.{is_variable, is_big}
use Rattle.compact_record.specs.Writing.{length_bytes}
use Rattle.tree_layout.specs.DivisionLaws.{PointersAreSmall, RecordsAreSmall}
use Rattle.tree_layout.proofs.Alike.{below_is}
use Rattle.tree_layout.proofs.Zips.{zip_length}

-- the lengths that a record keeps
abbrev lengths_of : List Field → Entry → List ℕ
lengths_of fields parts = flat_map length_of_part (zip fields parts)

-- those of the first fields are a front of those of all
lengths_front : (k : ℕ) (fields : List Field) (parts : Entry)
    → length (lengths_of (take k fields) (take k parts)) ≤ length (lengths_of fields parts)
lengths_front zero fields parts = omega arith
lengths_front (suc k) [] parts = omega arith
lengths_front (suc k) (field ∷ fields) [] = omega arith
lengths_front (suc k) (field ∷ fields) (part ∷ parts) =
    let rest = lengths_front k fields parts in
    let few = length-append (length_of_part (field, part)) (lengths_of (take k fields) (take k parts)) in
    let all = length-append (length_of_part (field, part)) (lengths_of fields parts) in
    omega arith

-- the child page keeps no length
lengths_child : (fields : List Field) (parts : Entry) (n : ℕ) → length fields ≡ length parts
    → lengths_of (fields ++ child_field ∷ []) (parts ++ Bytes (be_bytes 4 n) false ∷ []) ≡ lengths_of fields parts
lengths_child [] [] n same = refl
lengths_child [] (part ∷ parts) n same = absurd (omega arith)
lengths_child (field ∷ fields) [] n same = absurd (omega arith)
lengths_child (field ∷ fields) (part ∷ parts) n same =
    ap (λ xs. length_of_part (field, part) ++ xs) (lengths_child fields parts n (omega arith))

-- the bytes of the values
locals_child : (parts : Entry) (n : ℕ)
    → length (flat_map local_bytes (parts ++ Bytes (be_bytes 4 n) false ∷ [])) ≡ length (flat_map local_bytes parts) + 4
locals_child parts n =
    let both = flat_map-append local_bytes parts (Bytes (be_bytes 4 n) false ∷ []) in
    let four = length-bytes_high_first 4 n in
    let sizes = length-append (flat_map local_bytes parts) (be_bytes 4 n ++ []) in
    let last = length-append (be_bytes 4 n) [] in
    ap length both ∙ omega arith

locals_cut : (k : ℕ) (parts : Entry) → length (flat_map local_bytes (take k parts))
    + length (flat_map local_bytes (drop k parts)) ≡ length (flat_map local_bytes parts)
locals_cut k parts =
    sym (length-append (flat_map local_bytes (take k parts)) (flat_map local_bytes (drop k parts)))
    ∙ ap length (sym (flat_map-append local_bytes (take k parts) (drop k parts)))
    ∙ ap (λ parts. length (flat_map local_bytes parts)) (take-append-drop k parts)

-- a record is its null bits, its lengths, five bytes and its values
pub size_is : (fields : Fields) (parts : Entry) → size_of_record fields parts ≡ null_bytes fields
    + length (lengths_of fields.fields parts) + 5 + length (flat_map local_bytes parts)
unfolding size_of_record origin_in value_bytes
size_is fields parts = let below = below_is fields parts in omega arith

pub small_law : PointersAreSmall
small_law leaf node entry n one fit =
    let k = leaf.keys in
    let pointer = pointer_with node.keys entry n in
    let whole : length leaf.fields ≡ length entry = zip_length FitsField leaf.fields entry fit in
    let few = one.few in
    let fields_cut : length (take k leaf.fields) ≡ k = length-take-le k leaf.fields one.few in
    let parts_cut : length (take k entry) ≡ k = length-take-le k entry (omega arith) in
    let nulls : null_bytes node ≡ null_bytes leaf = ap (λ n. (n + 7) / 8) one.nullable in
    let same : pointer ≡ take k entry ++ Bytes (be_bytes 4 n) false ∷ [] =
    ap (λ keys. pointer_with keys entry n) one.keys in
    let lengths : lengths_of node.fields pointer ≡ lengths_of (take k leaf.fields) (take k entry) =
    rw (one.pointers, same) (lengths_child (take k leaf.fields) (take k entry) n (omega arith)) in
    let locals : length (flat_map local_bytes pointer) ≡ length (flat_map local_bytes (take k entry)) + 4 =
    rw same (locals_child (take k entry) n) in
    let front = lengths_front k leaf.fields entry in
    let cut = locals_cut k entry in
    let node_size = size_is node pointer in
    let leaf_size = size_is leaf entry in
    let counts = ap length lengths in
    omega arith

bytes_few : (field : Field) (bytes : List ℕ) (external : Bool) → length (length_bytes field bytes external) ≤ 2
bytes_few field bytes true = omega arith
bytes_few field bytes false =
    elim (is_big field.kind && nat_lt 127 (length bytes)) as (λ long. length (cond long
    ((128 + length bytes / 256) ∷ (length bytes % 256) ∷ []) (length bytes ∷ [])) ≤ 2)
    [ true ↦ omega arith | false ↦ omega arith ]

length_few : (field : Field) (part : Part) → length (length_of_part (field, part)) ≤ 2
length_few field Null = omega arith
length_few field (Bytes bytes external) =
    elim (is_variable field.kind) as (λ keeps. length (cond keeps (length_bytes field bytes external) []) ≤ 2)
    [ true ↦ bytes_few field bytes external | false ↦ omega arith ]

lengths_few : (fields : List Field) (parts : Entry) → length (lengths_of fields parts) ≤ 2 * length parts
lengths_few [] parts = omega arith
lengths_few (field ∷ fields) [] = omega arith
lengths_few (field ∷ fields) (part ∷ parts) =
    let here = length_few field part in
    let rest = lengths_few fields parts in
    let both = length-append (length_of_part (field, part)) (lengths_of fields parts) in
    omega arith

pub records_law : RecordsAreSmall
records_law fields parts =
    let size = size_is fields parts in
    let lengths = lengths_few fields.fields parts in
    omega arith
