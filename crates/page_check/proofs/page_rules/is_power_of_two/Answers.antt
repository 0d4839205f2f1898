-- `page_check::page_rules::is_power_of_two` meets its contract.
use Rattle.std.proofs.Common.{◌≡◌, refl, sym, ◌∙◌, ℕ, zero, suc, ◌+◌, ◌*◌, ◌%◌, ◌^◌, ◌<◌, ◌||◌, Bool, true, false, arith, ◌≢◌, ◌⊎◌, inl, inr}
use Rattle.std.proofs.lemmas.Bool.{eq-eqb, ne_eqb, cases_eq}
use native.Mathlib.Nat.{one-mul}
use native.Mathlib.Numerals.{add-one}
use lib.Pow.{shl_exact}
use lib.Dec.{eqb}
use Rattle.page_check.specs.Check.{power_below}
use Rattle.page_check.proofs.page_rules.is_power_of_two.Goals as goal

either : (b : Bool) → (b || true) ≡ true
either true = refl
either false = refl

-- the shift is the power
shifted : (k : ℕ) → k < 32 → 1 * 2 ^ k % 2 ^ 64 ≡ 2 ^ k
shifted k h = shl_exact 1 k 64 (omega arith) (omega arith) ∙ one-mul (2 ^ k)

hit : (m k n : ℕ) → k < m → n ≡ 2 ^ k → true ≡ power_below m n
unfolding power_below
hit zero k n h e = absurd (omega arith)
hit (suc m) k n h e = by-place (cases_eq k m) (λ other. hit m k n (let o : k ≢ m = other in omega arith) e) where
  by-place : ((k ≡ m) ⊎ (k ≡ m → ⊥)) → ((k ≡ m → ⊥) → true ≡ power_below m n) → true ≡ (eqb n (2 ^ m) || power_below m n)
  by-place (inl same) below = rw (eq-eqb n (2 ^ m) (rw same at e))
  by-place (inr other) below = rw (← below other) (sym (either (eqb n (2 ^ m))))

miss : (k n : ℕ) → (n ≡ 2 ^ k → ⊥) → power_below k n ≡ false → power_below (k + 1) n ≡ false
unfolding power_below
miss k n h e = rw (add-one k, ne_eqb n (2 ^ k) h) e

pub loop-k-init : goal.loop-k-init
unfolding power_below
loop-k-init c = refl

pub returns-then-n-k : goal.returns-then-n-k
returns-then-n-k c = hit 32 c.loop-k.k c.args.n c.loop-k-test.true (c.if-n-k.true ∙ shifted c.loop-k.k c.loop-k-test.true)

pub loop-k-preserved : goal.loop-k-preserved
loop-k-preserved c =
    miss c.loop-k.k c.args.n (λ e. c.if-n-k.false (e ∙ sym (shifted c.loop-k.k c.loop-k-test.true))) c.loop-k.invariant
