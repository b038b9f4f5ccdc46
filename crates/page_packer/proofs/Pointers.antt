-- Node pointers that are made of the first entry of a page and its number.
use Rattle.std.proofs.Common.{◌≡◌, ℕ, zero, suc, ◌+◌, ◌^◌, ◌<◌, ◌≤◌, false, List, [], ◌∷◌, ◌++◌, length, map, take}
use Rattle.std.proofs.Common.{refl, sym, ap, ◌∙◌, subst, arith}
use Rattle.std.specs.List.{AllZip}
use Rattle.std.proofs.lemmas.Bool.{false≢true}
use Rattle.std.proofs.lemmas.List.{take_at, length-take-le, get_or_at, length_push}
use Rattle.std.proofs.lemmas.Slice.Zip.{all_zipped_more}
use Rattle.page_source.specs.Pages.{num, be_bytes}
use Rattle.column_values.specs.declared.field.Field.{Field}
use Rattle.column_values.specs.Types.{Fields, AreOfOneIndex, child_field}
use Rattle.compact_record.specs.declared.parts.Part.{Part}
use Rattle.compact_record.specs.declared.parts.Part.TheVariants.{Null, Bytes}
use Rattle.compact_record.specs.Writing.{FitsField, FitFields, part_at, part_cell, local_bytes, key_of_parts}
use Rattle.compact_record.specs.Writing.{child_of_parts}
use Rattle.compact_record.proofs.FieldFits.{fit_same}
use Rattle.page_packer.specs.Entries.{Entry, pointer_to}
use Rattle.page_packer.specs.Laws.{IsPointer, PointersPoint}
use Rattle.page_packer.proofs.NumberFacts.{num_whole}

-- the upper fields are those of pointers to pages with the lower ones
record PointTo (lower upper : Fields) : Type 0 where
  few : lower.keys ≤ length lower.fields
  keys : upper.keys ≡ lower.keys
  pointers : upper.fields ≡ take lower.keys lower.fields ++ child_field ∷ []

fit_front : (fs : List Field) (ps : List Part) (k : ℕ) → AllZip FitsField fs ps
    → AllZip FitsField (take k fs) (take k ps)
fit_front fs ps zero fit = tt
fit_front [] [] (suc k) fit = tt
fit_front [] (p ∷ ps) (suc k) fit = absurd fit
fit_front (f ∷ fs) [] (suc k) fit = absurd fit
fit_front (f ∷ fs) (p ∷ ps) (suc k) fit = (fit.0, fit_front fs ps k fit.1)

pub child_part : (n : ℕ) → FitsField child_field (Bytes (be_bytes 4 n) false)
child_part n = (λ fixed. refl, λ varies. absurd (false≢true varies))

is_pointer : (lower upper : Fields) (first : Entry) (n : ℕ) → PointTo lower upper → n < 2 ^ 32 → FitFields lower first
    → IsPointer lower upper first n
unfolding pointer_to key_of_parts child_of_parts
is_pointer lower upper first n point fits fit =
    let k : ℕ = lower.keys in
    let few = point.few in
    let c : Part = Bytes (be_bytes 4 n) false in
    let size : length (take k first) ≡ k = length-take-le k first (omega (arith, fit_same lower first fit)) in
    record {
      fit = subst (λ (fs : List Field). AllZip FitsField fs (take k first ++ c ∷ [])) (sym point.pointers)
          (all_zipped_more FitsField (take k lower.fields) (take k first) child_field c
          (fit_front lower.fields first k fit) (child_part n));
      key = ap (λ (m : ℕ). map part_cell (take m (take k first ++ c ∷ []))) point.keys
          ∙ ap (λ (ps : List Part). map part_cell ps) (take_at (take k first) (c ∷ []) k size);
      child = ap (λ (m : ℕ). num (local_bytes (part_at (take k first ++ c ∷ []) m)) 0 4) point.keys
          ∙ ap (λ (p : Part). num (local_bytes p) 0 4) (get_or_at (take k first) c [] Null k size)
          ∙ num_whole 4 n fits;
    }

leaf_points : (leaf node : Fields) → AreOfOneIndex leaf node → PointTo leaf node
leaf_points leaf node one = record { few = one.few; keys = one.keys; pointers = one.pointers }

node_points : (leaf node : Fields) → AreOfOneIndex leaf node → PointTo node node
node_points leaf node one =
    let k : ℕ = leaf.keys in
    let few = one.few in
    let front : List Field = take k leaf.fields in
    let size : length front ≡ k = length-take-le k leaf.fields few in
    let same : take node.keys node.fields ≡ front =
    ap (λ (m : ℕ). take m node.fields) one.keys ∙ ap (λ (fs : List Field). take k fs) one.pointers
    ∙ take_at front (child_field ∷ []) k size in
    let long : length node.fields ≡ length front + 1 =
    ap (λ (fs : List Field). length fs) one.pointers ∙ length_push front child_field in
    let keys = one.keys in
    record {
      few = omega arith;
      keys = refl;
      pointers = one.pointers ∙ ap (λ (fs : List Field). fs ++ child_field ∷ []) (sym same);
    }

pub pointers_point : PointersPoint
pointers_point leaf node first n one fits = (
  is_pointer leaf node first n (leaf_points leaf node one) fits,
  is_pointer node node first n (node_points leaf node one) fits,
)
