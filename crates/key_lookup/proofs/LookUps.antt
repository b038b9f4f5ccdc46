-- The checks of the way and those of the row that was found, together.
use Rattle.std.proofs.Common.{◌≡◌, ℕ, Bool, false, List, length, Option, Some, None, inr, sym, ap, ◌∙◌, subst}
use Rattle.std.proofs.Math.Path.{fun_ext}
use Rattle.page_source.specs.declared.rule.Fault.{Fault}
use Rattle.page_source.specs.declared.checks.Halt.{Halt}
use Rattle.page_source.specs.declared.checks.Halt.TheVariants.{Broken, Source}
use Rattle.page_source.specs.Checks.{HaltsAt}
use Rattle.column_values.specs.Order.{Key}
use Rattle.space_audit.specs.Marks.{is_set}
use Rattle.tree_walk.specs.Index.{Index, Row, page_in}
use Rattle.table_check.specs.Values.{pages_of_record}
use Rattle.key_lookup.specs.Path.{leaf_for}
use Rattle.key_lookup.specs.Record.{row_on, found_row, found_pages}
use Rattle.key_lookup.specs.GetFirst.{AllWayChecks, FoundRecordChecks, FoundRowChecks, LookUpChecks}
use Rattle.key_lookup.specs.Leaf.{row_at_origin}

module _ (index : Index) (key : Key) (n origin at : ℕ) (page : List ℕ) (marks : List Bool)
    (all : AllWayChecks index key None) (leaf : n ≡ leaf_for index key) (held : page ≡ page_in index n)
    (row : row_on index key n ≡ Some (row_at_origin n origin)) (stands : at ≡ origin)
    (fresh : (m : ℕ) → is_set marks m ≡ false) where
  found_is : found_row index key ≡ Some (row_at_origin n origin)
  found_is = sym (ap (row_on index key) leaf) ∙ row

  row_checks : (v : Option Fault) → FoundRecordChecks index.file n page at index.leaf (is_set marks) v
      → FoundRowChecks index (found_row index key) v
  row_checks v x =
      let one = subst (λ (taken : ℕ → Bool). FoundRecordChecks index.file n page at index.leaf taken v)
      (fun_ext fresh) x
      in
      let two = subst (λ (o : ℕ). FoundRecordChecks index.file n page o index.leaf (λ m. false) v) stands one in
      let three = subst (λ (q : List ℕ). FoundRecordChecks index.file n q origin index.leaf (λ m. false) v) held two in
      subst (λ (found : Option Row). FoundRowChecks index found v) (sym found_is) three

  -- the pages of the record at hand are those of the row that is found
  pub look_pages : length (pages_of_record index.file page at index.leaf)
      ≡ length (found_pages index (found_row index key))
  look_pages =
      ap (λ (q : List ℕ). length (pages_of_record index.file q at index.leaf)) held
      ∙ ap (λ (o : ℕ). length (pages_of_record index.file (page_in index n) o index.leaf)) stands
      ∙ ap (λ (found : Option Row). length (found_pages index found)) (sym found_is)

  pub look_halts : (halt : Halt) → HaltsAt halt (FoundRecordChecks index.file n page at index.leaf (is_set marks))
      → HaltsAt halt (LookUpChecks index key)
  look_halts (Broken fault) x = inr (all, row_checks (Some fault) x)
  look_halts Source x = tt

  pub look_holds : FoundRecordChecks index.file n page at index.leaf (is_set marks) None → LookUpChecks index key None
  look_holds x = (all, row_checks None x)
