-- A salvage of what was carved of a sound file has the outcomes of the file, but for the free pages that come last.
use Rattle.std.proofs.Common.{◌≡◌, ℕ, ◌<◌, ◌≤◌, Bool, true, false, List, length, take, map, get_or}
use Rattle.std.proofs.Common.{inl, inr, refl, sym, ◌∙◌, subst, arith}
use Rattle.std.specs.List.{range_with_len}
use Rattle.std.proofs.lemmas.Bool.{cases_lt}
use Rattle.std.proofs.lemmas.List.{get_or-take, get_or_past, length-take}
use Rattle.std.proofs.lemmas.List.FromFn.{get_or-map-range_with_len, length-map-range_with_len}
use Rattle.page_source.specs.Pages.{page_count}
use Rattle.column_values.specs.declared.value.Value.{Value}
use Rattle.extent_map.specs.Extents.{is_used}
use Rattle.space_audit.specs.Marks.{is_in}
use Rattle.schema_text.specs.Formats.{flags_of}
use Rattle.schema_text.specs.TableDef.{TableDef}
use Rattle.schema_text.specs.Grammar.{IsTable}
use Rattle.table_check.specs.Valid.{IsValid}
use Rattle.sql_dump.specs.Lines.{ReadsRows}
use Rattle.leaf_salvage.specs.Unused.{IsUnused}
use Rattle.salvage_model.specs.Outcome.{Job, Outcome, Unused, Unread, Other, Lost, Leaf}
use Rattle.salvage_model.specs.Outcome.{looked_of_pages, ComesOf, IsFull}
use Rattle.salvage_model.specs.Saved.{IsSaved}
use Rattle.salvage_model.specs.Laws.{HasOwnId, whole_job}
use Rattle.salvage_laws.proofs.Used.{all_fetched, used_size, unused_known}
use Rattle.salvage_laws.proofs.Nothing.{HasLaws, pages_whole}
use Rattle.carve_laws.specs.Laws.{carved_job}
use Rattle.carve_laws.proofs.Moves.{IsSame}
use Rattle.carve_laws.proofs.Known.{unused_there}
use Rattle.carve_laws.proofs.Pages.{comes_there, full_there}
use Rattle.carve_laws.proofs.Alike.{AreAlike, looked_alike}

-- what comes of a page that is free
free_outcome : (job : Job) (n : ℕ) (taken : ℕ → Bool) (outcome : Outcome) → ComesOf job n taken outcome
    → ((¬ (IsUnused job.file job.missed n)) → ⊥) → outcome ≡ Unused
free_outcome job n taken Unused comes free = refl
free_outcome job n taken Unread comes free = absurd (free comes.0)
free_outcome job n taken Other comes free = absurd (free comes.0.used)
free_outcome job n taken (Lost rule) comes free = absurd (free comes.0.used)
free_outcome job n taken (Leaf rows) comes free = absurd (free comes.0.0.used)

module _ (laws : HasLaws) (file : List ℕ) (table : TableDef) (is : IsTable table) (valid : IsValid file table)
    (own : HasOwnId file table) (all : List (List Value)) (reads : ReadsRows file table all) (carved : List ℕ)
    (same : (n : ℕ) → ¬ (IsUnused file all_fetched n) → IsSame file carved n) (few : page_count carved ≤ 4194304)
    (outcomes : List Outcome) (saved : IsSaved (whole_job file table) outcomes) where
  abbrev job : Job
  job = whole_job file table

  abbrev there : Job
  there = carved_job file table carved

  abbrev at : ℕ → Outcome
  at n = get_or outcomes n Unused

  -- the outcomes of what was carved
  abbrev pub carved_outcomes : List Outcome
  carved_outcomes = map at (range_with_len 0 (page_count carved))

  size_there : length carved_outcomes ≡ page_count carved
  size_there = length-map-range_with_len at 0 (page_count carved)

  at_there : (n : ℕ) (d : Outcome) → n < page_count carved → get_or carved_outcomes n d ≡ at n
  at_there n d below = get_or-map-range_with_len at 0 (page_count carved) n n d below (omega arith)

  -- a page beyond the end of the file is free
  beyond : (n : ℕ) → length outcomes ≤ n → n < page_count carved → IsUnused file all_fetched n
  beyond n past below = by_test (is_used file n) refl
    where
      by_test : (b : Bool) → is_used file n ≡ b → IsUnused file all_fetched n
      by_test true e =
          let size = used_size laws.used file (flags_of table.format) valid.space.extents n e in
          let end = saved.all in
          absurd (omega (arith, size, end, past, below, few, valid.space.extents.head.size.within))
      by_test false e = unused_known laws.used file (flags_of table.format) valid.space.extents n e

  comes_at : (n : ℕ) → n < page_count carved → ComesOf there n (is_in (looked_of_pages (take n outcomes))) (at n)
  comes_at n below = elim (cases_lt n (length outcomes)) [
    | inl within ↦
        comes_there laws file table is valid own all reads carved same n (is_in (looked_of_pages (take n outcomes)))
        (at n) (pages_whole laws file table is valid own all reads outcomes saved.first n within Unused)
        (saved.first.each n Unused within)
    | inr past ↦
        subst (λ (o : Outcome). ComesOf there n (is_in (looked_of_pages (take n outcomes))) o)
        (sym (get_or_past outcomes n Unused (omega (arith, past))))
        (unused_there laws.used file (flags_of table.format) valid.space carved same n
        (beyond n (omega (arith, past)) below))
  ]

  full_at : (n : ℕ) → n < page_count carved → IsFull there n (at n)
  full_at n below = elim (cases_lt n (length outcomes)) [
    | inl within ↦
        full_there laws file table is valid own all reads carved same n (is_in (looked_of_pages (take n outcomes)))
        (at n) (saved.first.each n Unused within) (saved.full n within)
    | inr past ↦
        subst (λ (o : Outcome). IsFull there n o) (sym (get_or_past outcomes n Unused (omega (arith, past)))) tt
  ]

  -- the pages before one are alike
  before_alike : (n : ℕ) → n < page_count carved → AreAlike (take n outcomes) (take n carved_outcomes)
  before_alike n below m = elim (cases_lt m n) [
    | inl less ↦
        get_or-take n outcomes m Unused less ∙ sym (at_there m Unused (omega (arith, less, below)))
        ∙ sym (get_or-take n carved_outcomes m Unused less)
    | inr more ↦
        let here = length-take n outcomes in
        let other = length-take n carved_outcomes in
        get_or_past (take n outcomes) m Unused (omega (arith, more, here))
        ∙ sym (get_or_past (take n carved_outcomes) m Unused (omega (arith, more, other)))
  ]

  comes_in : (n : ℕ) (d : Outcome) → n < length carved_outcomes
      → ComesOf there n (is_in (looked_of_pages (take n carved_outcomes))) (get_or carved_outcomes n d)
  comes_in n d below =
      let within : n < page_count carved = omega (arith, below, size_there) in
      subst (λ (o : Outcome). ComesOf there n (is_in (looked_of_pages (take n carved_outcomes))) o)
      (sym (at_there n d within))
      (subst (λ (looked : List ℕ). ComesOf there n (is_in looked) (at n))
      (looked_alike (take n outcomes) (take n carved_outcomes) (before_alike n within)) (comes_at n within))

  full_in : (n : ℕ) → n < length carved_outcomes → IsFull there n (get_or carved_outcomes n Unused)
  full_in n below =
      let within : n < page_count carved = omega (arith, below, size_there) in
      subst (λ (o : Outcome). IsFull there n o) (sym (at_there n Unused within)) (full_at n within)

  pub saved_there : IsSaved there carved_outcomes
  saved_there = record {
    first = record {
      few = omega (arith, size_there, few);
      each = comes_in;
      full = λ n below. full_in n (omega (arith, below));
    };
    all = omega (arith, size_there, few);
    full = full_in;
  }

  -- they are those of the file
  pub all_alike : AreAlike outcomes carved_outcomes
  all_alike n = elim (cases_lt n (page_count carved)) [
    | inl below ↦ sym (at_there n Unused below)
    | inr past ↦
        let size = size_there in
        free_at n past ∙ sym (get_or_past carved_outcomes n Unused (omega (arith, past, size)))
  ]
    where
      unheld : (n : ℕ) → page_count carved ≤ n → ¬ (IsUnused file all_fetched n) → ⊥
      unheld n past known = let here = (same n known).below in omega (arith, here, past)

      free_at : (n : ℕ) → page_count carved ≤ n → at n ≡ Unused
      free_at n past = elim (cases_lt n (length outcomes)) [
        | inl within ↦
            free_outcome job n (is_in (looked_of_pages (take n outcomes))) (at n) (saved.first.each n Unused within)
            (unheld n past)
        | inr over ↦ get_or_past outcomes n Unused (omega (arith, over))
      ]
