-- `in_place::run_one` meets its contract: what its two callees ensure, put together.
use mathlib.Core.Path.{◌≡◌, ap, ◌∙◌}
use Prim.Native.Nat.{ℕ, ◌+◌}
use mathlib.Core.List.{List}
use Rattle.target.specs.declared.Target.{Target}
use Rattle.target.specs.declared.Event.{Event}
use Rattle.step.specs.declared.Stepped.{Stepped}
use Rattle.step.specs.Step.{Outcome, step_of}
use Rattle.trace.specs.Run.{written, next_of, one_more}
use Rattle.in_place.proofs.Fold.{held, outcome, running}
use Rattle.in_place.proofs.run_one.Goals as goal

-- the two `ensures`, in the order of the calls
composed : (t : Target) (e : Event) (p f a g c w : List ℕ) (i : ℕ) {a' g' c' w' : List ℕ} {s : Stepped}
    → outcome s.reply s.target a' g' c' ≡ step_of t e p (held a g c) f → w' ≡ written w i s.reply
    → running s.target (i + 1) a' g' c' w' ≡ one_more p f (running t i a g c w) e
unfolding one_more
composed t e p f a g c w i {a'} {g'} {c'} {w'} {s} stepped put =
    ap (running s.target (i + 1) a' g' c') put ∙ ap (λ (o : Outcome). next_of o i w) stepped

pub returns : goal.returns
returns c =
    composed c.args.t c.args.e c.args.params.now c.args.flags.now c.args.array.now c.args.registers.now c.args.counts.now c.args.replies.now c.args.i
    c.step-s.ensures
    c.put_reply.ensures
