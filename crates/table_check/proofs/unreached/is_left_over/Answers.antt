use Rattle.std.proofs.Common.{ℕ, ◌<◌, List, Contains, inl, inr, sym, ◌∙◌, subst}
use Rattle.std.proofs.Common.{arith}
use Rattle.std.proofs.lemmas.Bool.{true≢false}
use Rattle.space_header.specs.Header.{size_of}
use Rattle.table_check.proofs.UnreachedSteps.{contains_found}
use Rattle.table_check.proofs.unreached.is_left_over.Goals as goal

pub returns-else-has_page : goal.returns-else-has_page
returns-else-has_page c = λ file table audit leaves used.
    let below : c.args.n < size_of file = omega (arith, c.requires, audit.has_size) in (
      λ is. record {
        kind = inr ((c.has_page-else-has_page.ensures.told file audit).0 is).has_kind;
        segment = c.args.segment;
        owner = used;
        leaves = subst (λ (list : List ℕ). Contains list c.args.segment) leaves
            (contains_found c.args.leaves.now c.args.segment c.if-contains.ensures.cases);
      },
      λ left. elim left.kind [
        | inl kind ↦
            absurd (true≢false (sym ((c.has_page.ensures.told file audit).1
            (record { below = below; used = used; has_kind = kind })) ∙ c.if-has_page.false))
        | inr kind ↦
            (c.has_page-else-has_page.ensures.told file audit).1
            (record { below = below; used = used; has_kind = kind })
      ],
    )
