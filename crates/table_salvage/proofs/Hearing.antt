-- What the report got, piece by piece.
use Rattle.std.proofs.Common.{ℕ, Bool, true, false, List, [], ◌++◌, Option, refl, sym, subst}
use Rattle.std.proofs.lemmas.List.{append-nil}
use Rattle.page_source.specs.Objects.{GrowsByPart}
use Rattle.page_source.proofs.Texts.{grows_on, grows_part}
use Rattle.sql_dump.proofs.SomeValues.{grows_none}
use Rattle.sql_dump.proofs.Written.{grown_part, part_more}
use Rattle.table_salvage.specs.Heard.{HasGot, GetsNext}

-- one piece more
pub got_on : (before failed : Bool) (a b c : Option (List ℕ)) (xs ys : List ℕ) → HasGot before a b xs
    → GetsNext before failed b c ys → HasGot failed a c (xs ++ ys)
got_on true failed a b c xs ys got next =
    rw next.0 (subst (λ (o : Option (List ℕ)). GrowsByPart a o (xs ++ ys)) (sym next.1) (part_more a b xs ys got))
got_on false true a b c xs ys got next =
    subst (λ (t : List ℕ). GrowsByPart a c (xs ++ t)) (append-nil ys) (grows_part a b c xs ys [] got next)
got_on false false a b c xs ys got next = grows_on a b c xs ys got next

-- none
pub gets_none : (failed : Bool) (a : Option (List ℕ)) → GetsNext failed failed a a []
gets_none true a = (refl, refl)
gets_none false a = grows_none a

-- what was got is a prefix in any case
pub got_part : (failed : Bool) (a b : Option (List ℕ)) (xs rest : List ℕ) → HasGot failed a b xs
    → GrowsByPart a b (xs ++ rest)
got_part true a b xs rest got = part_more a b xs rest got
got_part false a b xs rest got = grown_part a b xs rest got
