-- Each of document 01's useless builds is refuted by a run on T1.
-- Assumes nothing.
use mathlib.Core.Path.{◌≡◌, refl, ap, ◌∙◌}
use mathlib.Core.Bool.{true, false, ◌&&◌}
use mathlib.Core.List.{List, [], ◌∷◌}
use Prim.Native.Nat.{ℕ}
use lib.Seq.{get_or-set_same, get_or-set_other}
use Rattle.target.specs.Pick.{or_else}
use Rattle.target.specs.Commands.{row_of, first_of, second_of, second_row, class_of, offered}
use Rattle.target.specs.Place.{is_open}
use Rattle.target.specs.declared.Event.{Event}
use Rattle.target.specs.declared.Target.{Target}
use Rattle.target.specs.declared.Reply.TheVariants as reply
use Rattle.blocks.specs.Blocks.{page_index}
use Rattle.step.specs.Buffers.{counts_after}
use Rattle.rules.specs.Rules.{verdict, before_reset, unknown, misplaced, fits, others_busy, line_low}
use Rattle.rules.proofs.ByKind.{command-verdict}
use Rattle.step.specs.Step.{Buffers, Outcome, step_of, steady, by_verdict, accepted, accepted_by, reply_of}
use Rattle.trace.specs.Run.{Running, one_more, ran_all}
use Rattle.thm_kept.specs.Kept.{lets_pass}
use Rattle.thm_kept.proofs.Choice.{or-true}
use Rattle.thm_kept.proofs.Kept.{step-usable, step-steady}
use Rattle.thm_cases.specs.Parts.{t1}
use Rattle.thm_cases.specs.Useless.{reset_command, reached, NotRefusedAlways, Useful}
use Rattle.thm_cases.proofs.Cases.{computes, steadily, starts-1, tells, leaves-array, leaves-counts, cases}
use Rattle.std.specs.Prelude.{Ok, Result}
use Rattle.target.specs.declared.Refusal.{Refusal}

-- rule 13 lets pass wherever a run stands
ran-passes : (params flags : List ℕ) (es : List Event) (s : Running) → lets_pass s.target params s.buffers flags ≡ true
    → lets_pass (ran_all params flags es s).target params (ran_all params flags es s).buffers flags ≡ true
unfolding ran_all one_more
ran-passes params flags [] s h = h
ran-passes params flags (e ∷ es) s h = ran-passes params flags es (one_more params flags s e) (step-usable s.target e params s.buffers flags h)

-- and there FFh meets no rule
reset-verdict : (t : Target) → verdict t reset_command ≡ (Ok tt)
unfolding or_else before_reset unknown row_of first_of second_of second_row class_of offered misplaced fits others_busy line_low
reset-verdict t = command-verdict t 0xff ∙ (rw (or-true (is_open t.decoder.sequence && false)))

by-verdict : (t : Target) (params : List ℕ) (b : Buffers) (flags : List ℕ) (v : Result Unit Refusal) → v ≡ (Ok tt)
    → (by_verdict v t reset_command params b flags).reply ≡ reply.Accepted
unfolding by_verdict accepted accepted_by reply_of
by-verdict t params b flags v h = rw (h)

reset-accepted : (t : Target) (params : List ℕ) (b : Buffers) (flags : List ℕ) → lets_pass t params b flags ≡ true
    → (step_of t reset_command params b flags).reply ≡ reply.Accepted
unfolding steady
reset-accepted t params b flags ok =
    ap (λ (o : Outcome). o.reply) (step-steady t reset_command params b flags ok)
    ∙ by-verdict t params b flags (verdict t reset_command) (reset-verdict t)

reset-taken : NotRefusedAlways
reset-taken es =
    reset-accepted (reached t1 es).target t1.params (reached t1 es).buffers t1.flags
    (ran-passes t1.params t1.flags es _ cases.start-1.passes)

pub useful : Useful
unfolding counts_after
useful =
    let holding = starts-1 0xa5 in
    record {
      not-refused-always = reset-taken;
      not-accepted-always = tells holding _ _ (unfold computes steadily in refl);
      not-idle = leaves-array holding _ _ (unfold computes steadily in refl);
      not-once-only = leaves-array holding _ _ (unfold computes steadily in refl);
      counted-once = leaves-counts holding _ _ (unfold computes steadily in refl);
      counted-twice = leaves-counts holding _ _ (unfold computes steadily in refl);
      its_own = λ g r counts h. get_or-set_same counts (page_index g r) _ 0 h;
      no_other = λ g r counts i h. get_or-set_other counts (page_index g r) i _ 0 h;
    }
