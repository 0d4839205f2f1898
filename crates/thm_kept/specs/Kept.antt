-- Rule 13 never comes up in a run with its own buffers (document 01, "Refusal numbers"): where it lets a record and its
-- buffers pass, it lets pass what any event leaves. Proved in proofs/.
use Rattle.std.specs.Prelude.{◌≡◌, Bool, true, List, ℕ, length}
use Rattle.target.specs.declared.Event.{Event}
use Rattle.target.specs.declared.Target.{Target}
use Rattle.step.specs.Usable.{usable}
use Rattle.step.specs.Step.{Buffers, step_of}

-- rule 13 lets the record pass with buffers of these lengths
abbrev pub lets_pass : Target → List ℕ → Buffers → List ℕ → Bool
lets_pass t params b flags =
    usable t (length params) (length b.array) (length b.registers) (length b.counts) (length flags)

abbrev pub Kept : Type 0
Kept =
    (t : Target) (e : Event) (params : List ℕ) (b : Buffers) (flags : List ℕ)
    → lets_pass t params b flags ≡ true
    → lets_pass (step_of t e params b flags).target params (step_of t e params b flags).buffers flags ≡ true
