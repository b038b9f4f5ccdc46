-- A text that is fed piece by piece.
use Rattle.std.proofs.Common.{ℕ, ◌+◌, ◌-◌, ◌≤◌, arith, List, [], ◌++◌, sym, subst, append_assoc}
use Rattle.std.proofs.lemmas.List.{append-nil}
use Rattle.column_values.specs.Utf8Reader.{Reader, WasFed, IsFed, CountsUpTo}

pub fed_none : (text : Reader) → IsFed text text []
fed_none text = record {
  fed = λ bytes was. subst (λ (b : List ℕ). WasFed text b) (sym (append-nil bytes)) was;
  same = λ bytes. ((λ t. t), (λ t. t));
}

pub fed_more : (old text next : Reader) (bytes more : List ℕ) → IsFed old text bytes → IsFed text next more
    → IsFed old next (bytes ++ more)
fed_more old text next bytes more a b = record {
  fed = λ front was. subst (λ (t : List ℕ). WasFed next t) (append_assoc front bytes more)
      (b.fed (front ++ bytes) (a.fed front was));
  same = λ t. ((λ x. (a.same t).0 ((b.same t).0 x)), (λ x. (b.same t).1 ((a.same t).1 x)));
}

pub counts_more : (text : Reader) (whole left size : ℕ) → left ≤ whole → size ≤ left
    → CountsUpTo (16384 + (whole - left) + size) text
    → CountsUpTo (16384 + (whole - (left - size))) text
counts_more text whole left size a b h =
    subst (λ (most : ℕ). CountsUpTo most text) (omega (arith, a, b)) h
