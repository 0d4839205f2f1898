-- `rules::decide` meets its contract: an event is its kind and its value, so what is decided for a kind is decided for it.
use mathlib.Core.Path.{ap, sym, ◌∙◌}
use Prim.Native.Nat.{ℕ}
use Rattle.rules.specs.Rules.{verdict}
use Rattle.rules.proofs.decide.Goals as goal

pub returns-in-0 : goal.returns-in-0
returns-in-0 c =
    c.decide_command.ensures ∙ ap (λ (k : ℕ). verdict c.args.t (record { kind = k; value = c.args.e.value })) (sym c.in-0.is)

pub returns-in-1 : goal.returns-in-1
returns-in-1 c =
    c.decide_address.ensures ∙ ap (λ (k : ℕ). verdict c.args.t (record { kind = k; value = c.args.e.value })) (sym c.in-1.is)

pub returns-in-2 : goal.returns-in-2
returns-in-2 c =
    c.decide_in.ensures ∙ ap (λ (k : ℕ). verdict c.args.t (record { kind = k; value = c.args.e.value })) (sym c.in-2.is)

pub returns-in-3 : goal.returns-in-3
returns-in-3 c =
    c.decide_out.ensures ∙ ap (λ (k : ℕ). verdict c.args.t (record { kind = k; value = c.args.e.value })) (sym c.in-3.is)

pub returns-in-4 : goal.returns-in-4
returns-in-4 c =
    c.decide_finish.ensures ∙ ap (λ (k : ℕ). verdict c.args.t (record { kind = k; value = c.args.e.value })) (sym c.in-4.is)

pub returns-in-5 : goal.returns-in-5
returns-in-5 c =
    c.decide_protect.ensures ∙ ap (λ (k : ℕ). verdict c.args.t (record { kind = k; value = c.args.e.value })) (sym c.in-5.is)
