-- Demand 2's "at no other time": each refusal is given exactly when its rule holds and none before it in document 01's order does.
use Rattle.std.specs.Prelude.{◌≡◌, Bool, true, false, ◌&&◌, not, List, [], ◌∷◌, ℕ, length, eqb}
use Rattle.target.specs.Pick.{pick}
use Rattle.target.specs.Numbers.{number_of}
use Rattle.target.specs.declared.Event.{Event}
use Rattle.target.specs.declared.Target.{Target}
use Rattle.target.specs.declared.Refusal.{Refusal}
use Rattle.target.specs.declared.Refusal.TheVariants as refusal
use Rattle.target.specs.declared.Reply.TheVariants as reply
use Rattle.rules.specs.Rules.{Rule, rule, rules}
use Rattle.step.specs.Usable.{usable}
use Rattle.step.specs.Step.{Buffers, step_of}

-- the rules in document 01's order, with document 02's 14: 13, and then 12, 2, 1, 3, 6, 4, 9, 5, 14, 7, 8; 10 and 11 are met by bench events alone
unfoldable pub rules_of : Target → Event → List ℕ → Buffers → List ℕ → List Rule
rules_of t e page b flags =
    rule (not (usable t (length page) (length b.array) (length b.registers) (length b.counts) (length flags))) refusal.NotUsable
    ∷ rules t e

-- their numbers, in that order
abbrev pub numbers : List Rule → List ℕ
numbers [] = []
numbers (r ∷ rs) = number_of r.gives ∷ numbers rs

-- the rule of this refusal holds, and none listed before it does
abbrev pub speaks : Refusal → List Rule → Bool
speaks q [] = false
speaks q (r ∷ rs) = pick (eqb (number_of r.gives) (number_of q)) r.holds (not r.holds && speaks q rs)

-- no rule holds
abbrev pub silent : List Rule → Bool
silent [] = true
silent (r ∷ rs) = not r.holds && silent rs

-- an event is refused with q exactly when q's rule is the first that holds, and not refused exactly when none does
pub record Exact (t : Target) (e : Event) (page : List ℕ) (b : Buffers) (flags : List ℕ) : Type 0 where
  pub order : numbers (rules_of t e page b flags) ≡ 13 ∷ 12 ∷ 2 ∷ 1 ∷ 3 ∷ 6 ∷ 4 ∷ 9 ∷ 5 ∷ 14 ∷ 7 ∷ 8 ∷ 10 ∷ 11 ∷ []
  pub only_then : (q : Refusal) → (step_of t e page b flags).reply ≡ reply.Refused q → speaks q (rules_of t e page b flags) ≡ true
  pub always-then : (q : Refusal) → speaks q (rules_of t e page b flags) ≡ true → (step_of t e page b flags).reply ≡ reply.Refused q
  pub else-accepted : silent (rules_of t e page b flags) ≡ true → (q : Refusal) → (step_of t e page b flags).reply ≡ reply.Refused q → ⊥
  pub or-refused : silent (rules_of t e page b flags) ≡ false → (q : Refusal) × ((step_of t e page b flags).reply ≡ reply.Refused q)
