-- The order of two lists of bytes, eight bytes at a time.
use Rattle.std.proofs.Common.{◌≡◌, ℕ, ◌+◌, ◌-◌, ◌∙◌, ◌<◌, ◌≤◌, List, length, take, drop, refl, sym, ap, arith}
use Rattle.std.proofs.Math.Seq.{take-add}
use Rattle.std.proofs.lemmas.List.{take-append-drop, take-append-le, length-take-le, length-drop}
use Rattle.std.proofs.lemmas.List.Elements.{All-take, All-drop}
use Rattle.std.specs.declared.cmp.Ordering.{Ordering}
use Rattle.std.specs.declared.cmp.Ordering.TheVariants.{Less, Equal, Greater}
use Rattle.std.specs.Ordering.{nat_cmp, ordering_then}
use Rattle.page_source.specs.Pages.{num, AreBytes}
use Rattle.page_source.proofs.Numbers.{num-is_big}
use Rattle.column_values.specs.Order.{bytes_cmp, text_cmp, filled}
use Rattle.column_values.proofs.Bytes.{num-take}
use Rattle.column_values.proofs.TextOrder.{TextLeft, length-filled}
use Rattle.column_values.proofs.ValueOrder.{cmp-append, whole_number}

-- the fronts of two lists decide, or what is left of them does
cut_order : (i : ℕ) (a b : List ℕ) → i ≤ length a → i ≤ length b
    → bytes_cmp a b ≡ ordering_then (bytes_cmp (take i a) (take i b)) (bytes_cmp (drop i a) (drop i b))
cut_order i a b first second =
    (λ k. bytes_cmp (sym (take-append-drop i a) k) (sym (take-append-drop i b) k))
    ∙ cmp-append (take i a) (drop i a) (take i b) (drop i b)
    (length-take-le i a first ∙ sym (length-take-le i b second))

word_is : (i w : ℕ) (a : List ℕ) → num (take w (drop i a)) 0 w ≡ num a i w
word_is i w a = num-take w (drop i a) ∙ num-is_big (drop i a) 0 w ∙ sym (num-is_big a i w)

word_size : (i w : ℕ) (a : List ℕ) → i + w ≤ length a → length (take w (drop i a)) ≡ w
word_size i w a inside = length-take-le w (drop i a) (omega (arith, length-drop i a))

words_order : (i w : ℕ) (a b : List ℕ) → i + w ≤ length a → i + w ≤ length b → AreBytes a → AreBytes b
    → bytes_cmp (take w (drop i a)) (take w (drop i b)) ≡ nat_cmp (num a i w) (num b i w)
words_order i w a b first second are_a are_b =
    whole_number w (take w (drop i a)) (take w (drop i b)) (word_size i w a first) (word_size i w b second)
    (All-take (λ (x : ℕ). x < 256) w (drop i a) (All-drop (λ (x : ℕ). x < 256) i a are_a))
    (All-take (λ (x : ℕ). x < 256) w (drop i b) (All-drop (λ (x : ℕ). x < 256) i b are_b))
    ∙ (λ k. nat_cmp (word_is i w a k) (word_is i w b k))

-- one number more of fronts that are alike
pub word_decides : (i w : ℕ) (a b : List ℕ) (x y : ℕ) (o answer : Ordering) → i + w ≤ length a → i + w ≤ length b
    → AreBytes a → AreBytes b → x ≡ num a i w → y ≡ num b i w → o ≡ nat_cmp x y → o ≡ answer
    → bytes_cmp (take i a) (take i b) ≡ Equal → bytes_cmp (take (i + w) a) (take (i + w) b) ≡ answer
word_decides i w a b x y o answer first second are_a are_b x_is y_is is says alike =
    let fronts : length (take i a) ≡ length (take i b) = length-take-le i a (omega arith)
    ∙ sym (length-take-le i b (omega arith)) in
    (λ k. bytes_cmp (take-add i w a k) (take-add i w b k))
    ∙ cmp-append (take i a) (take w (drop i a)) (take i b) (take w (drop i b)) fronts
    ∙ ap (λ (q : Ordering). ordering_then q (bytes_cmp (take w (drop i a)) (take w (drop i b)))) alike
    ∙ words_order i w a b first second are_a are_b ∙ (λ k. nat_cmp (sym x_is k) (sym y_is k)) ∙ sym is ∙ says

then_front : (first second : Ordering) → ordering_then first second ≡ Equal → first ≡ Equal
then_front Less second alike = alike
then_front Equal second alike = refl
then_front Greater second alike = alike

-- what begins fronts that are alike is so too
alike_fronts : (i more : ℕ) (a b : List ℕ) → i + more ≤ length a → i + more ≤ length b
    → bytes_cmp (take (i + more) a) (take (i + more) b) ≡ Equal → bytes_cmp (take i a) (take i b) ≡ Equal
alike_fronts i more a b first second alike =
    let fronts : length (take i a) ≡ length (take i b) = length-take-le i a (omega arith)
    ∙ sym (length-take-le i b (omega arith)) in
    then_front (bytes_cmp (take i a) (take i b)) (bytes_cmp (take more (drop i a)) (take more (drop i b)))
    (sym (cmp-append (take i a) (take more (drop i a)) (take i b) (take more (drop i b)) fronts)
    ∙ (λ k. bytes_cmp (sym (take-add i more a) k) (sym (take-add i more b) k)) ∙ alike)

-- one number more, which may begin among the bytes of fronts that are alike
pub overlap_decides : (seen end w : ℕ) (a b : List ℕ) (x y : ℕ) (o : Ordering) → w ≤ end → end ≤ seen + w
    → seen ≤ end → end ≤ length a → end ≤ length b → AreBytes a → AreBytes b → x ≡ num a (end - w) w
    → y ≡ num b (end - w) w → o ≡ nat_cmp x y → bytes_cmp (take seen a) (take seen b) ≡ Equal
    → o ≡ bytes_cmp (take end a) (take end b)
overlap_decides seen end w a b x y o wide reached within first second are_a are_b x_is y_is is alike =
    let at : ℕ = end - w in
    let whole : at + w ≡ end = omega arith in
    let more : at + (seen - at) ≡ seen = omega arith in
    sym ((λ k. bytes_cmp (take (sym whole k) a) (take (sym whole k) b))
    ∙ word_decides at w a b x y o o (omega arith) (omega arith) are_a are_b x_is y_is is refl
    (alike_fronts at (seen - at) a b (omega arith) (omega arith)
    ((λ k. bytes_cmp (take (more k) a) (take (more k) b)) ∙ alike)))

-- how two lists order whose fronts do so
pub front_decides : (i : ℕ) (a b : List ℕ) (o answer : Ordering) → i ≤ length a → i ≤ length b
    → o ≡ bytes_cmp (take i a) (take i b) → o ≡ answer
    → ordering_then answer (bytes_cmp (drop i a) (drop i b)) ≡ bytes_cmp a b
front_decides i a b o answer first second is says =
    ap (λ (q : Ordering). ordering_then q (bytes_cmp (drop i a) (drop i b))) (sym says ∙ is)
    ∙ sym (cut_order i a b first second)

-- how two texts order whose fronts do so
pub text_front_decides : (i : ℕ) (a b : List ℕ) (o answer : Ordering) → i ≤ length a → i ≤ length b
    → o ≡ bytes_cmp (take i a) (take i b) → o ≡ answer → ordering_then answer (TextLeft a b i) ≡ text_cmp a b
text_front_decides i a b o answer first second is says =
    let x = take-append-le i a _ first in
    let y = take-append-le i b _ second in
    front_decides i (filled a (length b)) (filled b (length a)) o answer
    (omega (arith, length-filled a (length b))) (omega (arith, length-filled b (length a)))
    (is ∙ (λ k. bytes_cmp (sym x k) (sym y k))) says
