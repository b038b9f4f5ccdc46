use Rattle.std.proofs.Common.{◌≡◌, ◌<◌, ℕ, zero, suc, [], ◌∷◌, get_or, arith}
use Rattle.table_tests.proofs.offpage_chain_tests.writes.written.Goals as goal

three_below : (size : ℕ) → size ≡ 64 → (k d : ℕ) → k < 3 → get_or (4 ∷ 5 ∷ 6 ∷ []) k d < size
three_below size is zero d inside = omega (arith, is)
three_below size is (suc zero) d inside = omega (arith, is)
three_below size is (suc (suc zero)) d inside = omega (arith, is)
three_below size is (suc (suc (suc k))) d inside = absurd (omega (arith, inside))

pub write_chain-answer-requires-clause-below : goal.write_chain-answer-requires-clause-below
write_chain-answer-requires-clause-below c = three_below c.in_ok-store.store.size c.in_ok-store.ensures
