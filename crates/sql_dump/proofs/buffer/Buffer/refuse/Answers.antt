use Rattle.std.proofs.Common.{◌≡◌, ◌+◌, ◌-◌, ◌≤◌, ◌++◌, ℕ, List, length, take, drop, ap, sym, ◌∙◌, subst, arith}
use Rattle.std.proofs.Common.{length-take-le}
use Rattle.std.proofs.Math.Seq.{take_at}
use Rattle.sql_dump.specs.Buffer.{Held}
use Rattle.sql_dump.proofs.buffer.Buffer.refuse.Goals as goal

-- a room that was filled with the front of a piece
filled : (items new held piece : List ℕ) (len used : ℕ) → length new ≡ len → used ≤ 65536 → length items ≡ 65536
    → 65536 ≤ length held + length piece → held ≡ take used items
    → take (used + length (take (65536 - used) piece)) new ≡ take used items ++ take (65536 - used) piece
    → take 65536 (take len (new ++ drop (length new) items)) ≡ held ++ take (65536 - length held) piece
filled items new held piece len used whole within room more same text =
    let size : length held ≡ used =
    ap (λ (t : List ℕ). length t) same ∙ length-take-le used items (omega (arith, within, room)) in
    let front : length (take (65536 - used) piece) ≡ 65536 - used =
    length-take-le (65536 - used) piece (omega (arith, size, more)) in
    let all : used + length (take (65536 - used) piece) ≡ 65536 = omega (arith, front, within) in
    ap (λ (t : List ℕ). take 65536 t) (take_at new (drop (length new) items) len whole)
    ∙ subst (λ (n : ℕ). take n new ≡ take used items ++ take (65536 - used) piece) all text
    ∙ ap (λ (t : List ℕ). t ++ take (65536 - used) piece) (sym same)
    ∙ ap (λ (n : ℕ). held ++ take (65536 - n) piece) (sym size)

pub returns-clause-bytes : goal.returns-clause-bytes
returns-clause-bytes c =
    let items = c.self.inside.room.items in
    let used = c.self.inside.used in
    let piece = c.args.piece.now in
    filled items c.paste.new.room c.args.self.now.bytes piece c.self.inside.room.len used
    (c.paste.auto.room ∙ c.deref_mut.ensures.len) c.self.invariant.1 c.self.invariant.0 c.requires
    (sym (ap (λ (h : Held). h.bytes) c.self.view_is))
    (c.paste.ensures.text
    ∙ ap (λ (t : List ℕ). take used t ++ take (65536 - used) piece) c.deref_mut.ensures.value)
