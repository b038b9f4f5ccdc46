-- The records that were pushed for some entries.
use Rattle.std.proofs.Common.{◌≡◌, ℕ, suc, ◌+◌, ◌<◌, Bool, true, List, [], ◌∷◌, ◌++◌, length, map, All}
use Rattle.std.proofs.Common.{refl, sym, ap, ◌∙◌, subst, arith}
use Rattle.std.specs.List.{enumerate_from}
use Rattle.std.proofs.lemmas.List.{length-map, get_or-map, length_push}
use Rattle.std.proofs.lemmas.List.FromFn.{length-enumerate_from, get_or-enumerate_from}
use Rattle.std.proofs.lemmas.List.Sums.{sum_by-cons, sum_by_push}
use Rattle.column_values.specs.Types.{Fields, AreFields}
use Rattle.compact_record.specs.Writing.{FitFields, size_of_record}
use Rattle.compact_record.proofs.Placed.{length-record_bytes}
use Rattle.index_page.specs.Page.{is_lowest_first}
use Rattle.page_packer.specs.Packing.{Pushed, Packing, is_leaf, status_on, pushed_record, pushed_at, total_size}
use Rattle.page_packer.specs.Packing.{sizes_fit}
use Rattle.page_packer.specs.Packing.{with_record}
use Rattle.page_packer.specs.Entries.{Entry, entry_at, entries_size, entries_fit, pushed_entry, packing_with}
use Rattle.page_packer.specs.Entries.{EntriesRise, SuitPage, MakePage}
use Rattle.page_packer.specs.Laws.{PushesEntries}
use Rattle.page_packer.proofs.Sizes.{none_pushed}

-- the pushed records are these entries, in order, with these marks
pub record ArePushed (fields : Fields) (level : ℕ) (marks : ℕ → Bool) (entries : List Entry) (records : List Pushed)
    : Type 0 where
  pub count : length records ≡ length entries
  pub fit : All (FitFields fields) entries
  pub each : (k : ℕ) → k < length entries
      → pushed_at records k ≡ pushed_record level k fields (entry_at entries k) (marks k)

-- these entries were packed for a page that stands so in its tree
pub record ArePacked (fields : Fields) (root leftmost : Bool) (marks : ℕ → Bool) (entries : List Entry)
    (packing : Packing) : Type 0 where
  pub are_fields : AreFields fields
  pub pushed : ArePushed fields packing.level marks entries packing.records
  pub rise : EntriesRise fields (is_lowest_first (is_leaf packing.level) leftmost) entries
  pub fit : sizes_fit (length packing.records) (total_size packing.records) ≡ true
  pub some_entry : length entries ≡ 0 → (is_leaf packing.level ≡ true) × (root ≡ true)

-- the records of some entries, numbered from n on
abbrev numbered : Fields → ℕ → (ℕ → Bool) → ℕ → List Entry → List Pushed
numbered fields level marks n entries = map (pushed_entry fields level marks) (enumerate_from n entries)

numbered_count : (fields : Fields) (level : ℕ) (marks : ℕ → Bool) (entries : List Entry)
    → length (numbered fields level marks 0 entries) ≡ length entries
numbered_count fields level marks entries =
    length-map (enumerate_from 0 entries) (pushed_entry fields level marks) ∙ length-enumerate_from 0 entries

numbered_at : (fields : Fields) (level : ℕ) (marks : ℕ → Bool) (entries : List Entry) (k : ℕ) → k < length entries
    → pushed_at (numbered fields level marks 0 entries) k
    ≡ pushed_record level k fields (entry_at entries k) (marks k)
numbered_at fields level marks entries k below =
    let none : ℕ × Entry = (0, []) in
    let place : 0 + k ≡ k = omega arith in
    get_or-map (pushed_entry fields level marks) (enumerate_from 0 entries) k none none_pushed
    (omega (arith, length-enumerate_from 0 entries))
    ∙ ap (λ (p : ℕ × Entry). pushed_entry fields level marks p) (get_or-enumerate_from 0 entries k none below)
    ∙ ap (λ (n : ℕ). pushed_entry fields level marks (n, entry_at entries k)) place

-- a record has as many bytes as its size says
entry_size : (fields : Fields) (level : ℕ) (marks : ℕ → Bool) (n : ℕ) (entry : Entry)
    → length (pushed_entry fields level marks (n, entry)).bytes ≡ size_of_record fields entry
unfolding pushed_record
entry_size fields level marks n entry =
    length-record_bytes fields entry (2 + n) (status_on level) (marks n)

numbered_size : (fields : Fields) (level : ℕ) (marks : ℕ → Bool) (n : ℕ) (entries : List Entry)
    → total_size (numbered fields level marks n entries) ≡ entries_size fields entries
numbered_size fields level marks n [] = refl
numbered_size fields level marks n (entry ∷ entries) =
    let rest = numbered_size fields level marks (n + 1) entries in
    let one = entry_size fields level marks n entry in
    let a = sum_by-cons (λ (r : Pushed). length r.bytes) (pushed_entry fields level marks (n, entry))
    (numbered fields level marks (n + 1) entries) in
    let b = sum_by-cons (size_of_record fields) entry entries in
    omega (arith, a, b, one, rest)

-- a packing of entries has their records
with_entries : (fields : Fields) (level : ℕ) (marks : ℕ → Bool) (entries : List Entry) → All (FitFields fields) entries
    → ArePushed fields level marks entries (packing_with fields level marks entries).records
unfolding packing_with
with_entries fields level marks entries fit = record {
  count = numbered_count fields level marks entries;
  fit = fit;
  each = λ k below. numbered_at fields level marks entries k below;
}

-- entries that suit a page are packed for it
pub suited_entries : (fields : Fields) (root leftmost : Bool) (marks : ℕ → Bool) (entries : List Entry)
    (packing : Packing) → packing ≡ packing_with fields packing.level marks entries
    → sizes_fit (length packing.records) (total_size packing.records) ≡ true
    → SuitPage fields packing.level root leftmost entries → ArePacked fields root leftmost marks entries packing
suited_entries fields root leftmost marks entries packing is fits suit = record {
  are_fields = suit.are_fields;
  pushed = subst (λ (p : Packing). ArePushed fields packing.level marks entries p.records) (sym is)
      (with_entries fields packing.level marks entries suit.fit);
  rise = suit.rise;
  fit = fits;
  some_entry = suit.some_entry;
}

-- the records of entries have room if these have
fits_packed : (fields : Fields) (level : ℕ) (marks : ℕ → Bool) (entries : List Entry)
    → sizes_fit (length (packing_with fields level marks entries).records)
    (total_size (packing_with fields level marks entries).records)
    ≡ entries_fit fields entries
unfolding packing_with
fits_packed fields level marks entries =
    let count = numbered_count fields level marks entries in
    let size = numbered_size fields level marks 0 entries in
    ap (λ (n : ℕ). sizes_fit n (total_size (numbered fields level marks 0 entries))) count
    ∙ ap (λ (n : ℕ). sizes_fit (length entries) n) size

-- entries that make a page are packed
pub packed_entries : (fields : Fields) (level : ℕ) (root leftmost : Bool) (marks : ℕ → Bool) (entries : List Entry)
    → MakePage fields level root leftmost entries
    → ArePacked fields root leftmost marks entries (packing_with fields level marks entries)
unfolding packing_with
packed_entries fields level root leftmost marks entries make =
    suited_entries fields root leftmost marks entries (packing_with fields level marks entries) refl
    (fits_packed fields level marks entries ∙ make.room) make.suit

-- one more entry behind the others
numbered_more : (fields : Fields) (level : ℕ) (marks : ℕ → Bool) (n : ℕ) (entries : List Entry) (entry : Entry)
    → numbered fields level marks n (entries ++ entry ∷ [])
    ≡ numbered fields level marks n entries ++ pushed_entry fields level marks (n + length entries, entry) ∷ []
numbered_more fields level marks n [] entry =
    let e : n ≡ n + 0 = omega arith in ap (λ (k : ℕ). pushed_entry fields level marks (k, entry) ∷ []) e
numbered_more fields level marks n (first ∷ entries) entry =
    let e : n + 1 + length entries ≡ n + suc (length entries) = omega arith in
    ap (λ (rs : List Pushed). pushed_entry fields level marks (n, first) ∷ rs)
    (numbered_more fields level marks (n + 1) entries entry
    ∙ ap (λ (k : ℕ). numbered fields level marks (n + 1) entries ++ pushed_entry fields level marks (k, entry) ∷ []) e)

pub pushes_entries : PushesEntries
unfolding packing_with with_record
pushes_entries fields level marks entries entry =
    let count = numbered_count fields level marks entries in
    let size = numbered_size fields level marks 0 entries in
    let place : 0 + length entries ≡ length entries = omega arith in
    let more : length (entries ++ entry ∷ []) ≡ length entries + 1 = length_push entries entry in
    let sum = sum_by_push (size_of_record fields) entries entry in
    record {
      none = refl;
      more = ap (λ (n : ℕ). record {
        level = level;
        records = numbered fields level marks 0 entries
            ++ pushed_record level n fields entry (marks (length entries)) ∷ [];
      }) count
          ∙ ap (λ (rs : List Pushed). record { level = level; records = rs })
          (sym (numbered_more fields level marks 0 entries entry
          ∙ ap (λ (n : ℕ). numbered fields level marks 0 entries ++ pushed_entry fields level marks
          (n, entry) ∷ []) place));
      fits = ap (λ (n : ℕ). sizes_fit n
          (total_size (numbered fields level marks 0 entries) + size_of_record fields entry))
          (ap (λ (n : ℕ). n + 1) count ∙ sym more)
          ∙ ap (λ (n : ℕ). sizes_fit (length (entries ++ entry ∷ [])) n)
          (ap (λ (n : ℕ). n + size_of_record fields entry) size ∙ sym sum);
    }
