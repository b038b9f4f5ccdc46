use Rattle.std.proofs.Common.{◌≡◌, ◌∙◌, [], ◌∷◌, sym, ap, subst, refl, codes, arith}
use Rattle.std.proofs.lemmas.Bool.{false≢true}
use Rattle.schema_text.specs.Grammar.{IsName, format_word}
use Rattle.schema_text.specs.Refusals.{IsFormatWord, IsTableForm, word}
use Rattle.schema_text.proofs.ReadLemmas.{first_form, first_name, first_good, three_words_are}
use Rattle.schema_text.proofs.ColumnCheckLemmas.{is_format}
use Rattle.schema_text.proofs.read.check_table.Goals as goal

pub returns-then-len-ne3 : goal.returns-then-len-ne3
returns-then-len-ne3 c = first_form _ (λ f. omega (arith, f.0))

pub returns-then-not-is : goal.returns-then-not-is
returns-then-not-is c = first_form _ (λ f. absurd (false≢true (c.if-not-is.ensures.same.1 (c.at.ensures ∙ f.1))))

pub returns-in_default : goal.returns-in_default
returns-in_default c = first_form _
    (λ f. absurd (false≢true (c.in_default.ensures.only (subst IsFormatWord (sym c.at-2.ensures) f.2))))

pub returns-then-not-is_name : goal.returns-then-not-is_name
returns-then-not-is_name c =
    let form : IsTableForm c.args.line.now = (
      omega arith,
      sym c.at.ensures
          ∙ c.if-not-is.ensures.same.0 refl,
      is_format _ _ (sym c.at-2.ensures ∙ c.in-Some.ensures.found),
    ) in
    first_name _ form (λ n. absurd (false≢true (c.if-not-is_name.ensures.1 (subst IsName (sym c.at-name.ensures) n))))

pub returns : goal.returns
returns c =
    let line = c.args.line.now in
    let first : word line 0 ≡ codes "table" = sym c.at.ensures ∙ c.if-not-is.ensures.same.0 refl in
    let last : word line 2 ≡ format_word c.in-Some.format = sym c.at-2.ensures ∙ c.in-Some.ensures.found in
    let form : IsTableForm line = (omega arith, first, is_format _ _ last) in
    let name = c.if-not-is_name.ensures.0 refl in (
      name,
      first_good _ form (subst IsName c.at-name.ensures name),
      three_words_are line (omega arith) ∙ ap (λ w. w ∷ word line 1 ∷ word line 2 ∷ []) first
          ∙ ap (λ w. codes "table" ∷ w ∷ word line 2 ∷ []) (sym c.at-name.ensures)
          ∙ ap (λ w. codes "table" ∷ c.at-name.result.now ∷ w ∷ []) last,
    )
