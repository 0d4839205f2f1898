-- `trace::run_records` meets its contract.
use mathlib.Core.Path.{◌≡◌}
use mathlib.Core.List.{List}
use Prim.Native.Nat.{ℕ, ◌/◌, ◌-◌, ◌≤◌}
use lib.ListN.{length, drop}
use Rattle.target.specs.declared.Target.{Target}
use Rattle.trace.specs.Run.{Running, ran_all, events_of, stands_usable}
use Rattle.trace.proofs.run_records.Given as goal

-- the values that the loop carries, as a run
abbrev pub reached : Target → ℕ → List ℕ → List ℕ → List ℕ → List ℕ → Running
reached t i array registers counts room = record { target = t; done = i; buffers = record { array = array; registers = registers; counts = counts }; room = room }

-- no buffer changes its length
pub record Lengths (a₀ r₀ c₀ a r c : List ℕ) : Type 0 where
  pub array : length a ≡ length a₀
  pub registers : length r ≡ length r₀
  pub counts : length c ≡ length c₀

abbrev pub invariant-loop-i : goal.invariant-loop-i
invariant-loop-i l =
    (l.i ≤ l.n) × (l.n ≡ length l.records / 2) × (length l.room ≡ length l.initial.room) × Lengths l.initial.array l.initial.registers l.initial.counts l.array l.registers l.counts
    × (l.ok ≡ stands_usable l.params l.flags (reached l.at l.i l.array l.registers l.counts l.room))
    × (ran_all l.params l.flags (drop l.i (events_of l.records)) (reached l.at l.i l.array l.registers l.counts l.room) ≡ ran_all l.params l.flags (events_of l.records) (reached l.initial.at 0 l.initial.array l.initial.registers l.initial.counts l.initial.room))

abbrev pub decreases-loop-i : goal.decreases-loop-i
decreases-loop-i l =
    l.n - l.i
