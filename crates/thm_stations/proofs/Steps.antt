-- One cycle of a job and one finish event, whole: two states that agree on their LUN do the same for it, and nothing for any other.
-- Assumes nothing.
use mathlib.Core.Path.{◌≡◌, refl, sym, subst}
use mathlib.Core.Bool.{true}
use mathlib.Core.List.{List, ◌∷◌}
use Prim.Native.Nat.{ℕ}
use Rattle.target.specs.Events.{is_bus, bad_record}
use Rattle.target.specs.Luns.{lun_finished, lun_at}
use Rattle.target.specs.declared.Decoder.{Decoder}
use Rattle.target.specs.declared.Event.{Event}
use Rattle.target.specs.declared.Findings.{Findings}
use Rattle.target.specs.declared.Lun.{Lun}
use Rattle.target.specs.declared.Sequence.{Sequence}
use Rattle.target.specs.declared.Output.{Output}
use Rattle.target.specs.declared.Target.{Target}
use Rattle.target.proofs.Both.{meant}
use Rattle.rules.specs.Rules.{fits, misplaced, verdict}
use Rattle.rules.proofs.Passed.{all-passed}
use Rattle.effects.specs.Effects.{sequence_after, output_after, clear_after, high_after, target_after, dropped, target_refused, work_of}
use Rattle.memory.specs.Memory.{kept_after}
use Rattle.lun_records.specs.LunsAfter.{luns_after}
use Rattle.step.specs.Buffers.{findings, array_after, registers_after, counts_after}
use Rattle.step.specs.Step.{Buffers, Outcome, reply_of, worked, accepted_by, accepted, by_verdict, steady, State}
use Rattle.step.proofs.Sound.{sound, Passes, passes}
use Rattle.step.proofs.WorkReady.{work-ready}
use Rattle.thm_kept.proofs.Kept.{step-steady}
use Rattle.jobs.specs.Cycles.{Cycle, command, address, data_in, data_out}
use Rattle.thm_stations.specs.Jobs.{event_of, finish_of}
use Rattle.thm_demands.specs.Runs.{step_at}
use Rattle.thm_stations.specs.Isolated.{lun_record, Fine}
use Rattle.thm_stations.proofs.Agreement.{Parts, Edited, unedited}
use Rattle.thm_stations.proofs.OwnWork.{worked-edited}
use Rattle.thm_stations.proofs.Records.{Changed, as-were, become-by}
use Rattle.thm_stations.proofs.Halves.{Fixed, fixed_of, made, refixed}
use Rattle.thm_stations.proofs.Course.{held, CycleOf, Course, Spared, spared-all, spared-behind, Standing, equal, Alike}
use Rattle.thm_stations.proofs.Verdicts.{verdict-alike, verdict-finish}
use Rattle.thm_stations.proofs.Effects.{work-mine, luns-changed, decoder-alike, findings-alike, reply-alike, or-none, fixed_kept}
use Rattle.std.specs.Prelude.{Err, Ok, Result}
use Rattle.target.specs.declared.Refusal.{Refusal}

abbrev pub state_of : Target → Buffers → State
state_of t b = record { target = t; buffers = b }

-- two outcomes, of two states with this fixed half: the same answer, and the same done for the l-th LUN alone
pub record Moved (k : Fixed) (l : ℕ) (s u : State) (x y : Outcome) : Type 0 where
  pub reply : x.reply ≡ y.reply
  pub luns : Changed l s.target.luns u.target.luns x.target.luns y.target.luns
  pub buffers : Edited k.geometry l s.buffers u.buffers x.buffers y.buffers
  pub fixed : fixed_of x.target ≡ k
  pub fixedʳ : fixed_of y.target ≡ k

-- a refused bus cycle drops sequence, output and memory
refused-decoder : (t : Target) (c : Cycle) → (target_refused t (event_of c)).decoder ≡ dropped
unfolding target_refused bad_record
refused-decoder t (command v) = refl
refused-decoder t (address v) = refl
refused-decoder t (data_in v) = refl
refused-decoder t data_out = refl

-- an accepted one fits
is-bus : (c : Cycle) → is_bus (event_of c) ≡ true
is-bus (command v) = refl
is-bus (address v) = refl
is-bus (data_in v) = refl
is-bus data_out = refl

accepted-fits : (t : Target) (c : Cycle) → verdict t (event_of c) ≡ (Ok tt) → fits t.decoder (event_of c) ≡ true
unfolding misplaced
accepted-fits t c held =
    meant (is_bus (event_of c)) (fits t.decoder (event_of c)) (all-passed t (event_of c) held).rule-3 (is-bus c)

module _ (params flags : List ℕ) where
  -- what rule 13 lets pass
  pub passing : (s : State) → Fine params flags s
      → Passes s.target params s.buffers.array s.buffers.registers s.buffers.counts flags
  passing s fine =
      passes s.target params s.buffers.array s.buffers.registers s.buffers.counts flags fine.passes

  -- there the outcome goes by the verdict
  by-verdict : (s : State) (e : Event) → Fine params flags s
      → step_at params flags s e ≡ by_verdict (verdict s.target e) s.target e params s.buffers flags
  unfolding steady
  by-verdict s e fine = step-steady s.target e params s.buffers flags fine.passes

  -- two states that agree on the l-th LUN
  pub record Agreed (k : Fixed) (l : ℕ) (s u : State) : Type 0 where
    pub fixed : fixed_of s.target ≡ k
    pub fixedʳ : fixed_of u.target ≡ k
    pub fine : Fine params flags s
    pub fineʳ : Fine params flags u
    pub lun : lun_record l s ≡ lun_record l u
    pub parts : Parts k.geometry l s.buffers u.buffers

  module _ (k : Fixed) (on : k.clear ≡ true) (l : ℕ) where
    -- a cycle of a job, from two states with one sequence
    module _ (a b : ℕ) (xs ys : List Lun) (q : Sequence) (o p i j : Output) (B C : Buffers) (c : Cycle) (cs : List Cycle) where
      abbrev left_target : Target
      left_target = made k a xs (held q o i)

      abbrev right_target : Target
      right_target = made k b ys (held q p j)

      module _ (agreed : Agreed k l (state_of left_target B) (state_of right_target C)) (standing : Standing (c ∷ cs) o p) (keeps : CycleOf k.geometry l c q o) where
        cycle-accepted : verdict left_target (event_of c) ≡ (Ok tt) → (found : Findings)
            → found ≡ findings k.geometry k.words q (event_of c) B.counts flags
            → Moved k l (state_of left_target B) (state_of right_target C) (accepted_by left_target (event_of c) params B found) (accepted_by right_target (event_of c) params C found)
        unfolding accepted_by target_after
        cycle-accepted held found told =
            let g = k.geometry in
            let u = passing (state_of left_target B) agreed.fine in
            let uʳ = passing (state_of right_target C) agreed.fineʳ in
            record {
              reply = reply-alike k l a b xs ys agreed.lun params B C agreed.parts.registers q c i j standing keeps (all-passed left_target (event_of c) held).rule-8;
              luns = luns-changed g l xs ys agreed.lun q o c found keeps;
              buffers = worked-edited g B C u.sizes uʳ.sizes (work_of g k.clear q (event_of c) found) l
                  (work-ready left_target (event_of c) B.counts flags u.record-sound held found told)
                  (work-mine g l k.clear on q o c found keeps)
                  agreed.parts;
              fixed = fixed_kept k l a xs q o o i c found keeps;
              fixedʳ = fixed_kept k l b ys q o p j c found keeps;
            }

        -- what a second command asks of the buffers has one answer
        same-findings : findings k.geometry k.words q (event_of c) B.counts flags ≡ findings k.geometry k.words q (event_of c) C.counts flags
        same-findings =
            let u = passing (state_of left_target B) agreed.fine in
            findings-alike k.geometry l flags B C u.sizes (passing (state_of right_target C) agreed.fineʳ).sizes agreed.parts.counts k.words q o c (sound left_target u.record-sound).sequence keeps

        cycle-moved : (v : Result Unit Refusal) → verdict left_target (event_of c) ≡ v
            → Moved k l (state_of left_target B) (state_of right_target C) (by_verdict v left_target (event_of c) params B flags) (by_verdict v right_target (event_of c) params C flags)
        unfolding by_verdict accepted target_refused
        cycle-moved (Ok tt) held = rw (← same-findings) (cycle-accepted held _ refl)
        cycle-moved (Err r) held =
            record { reply = refl; luns = as-were; buffers = unedited k.geometry l B C; fixed = refl; fixedʳ = refl }

      cycle-decoder : Standing (c ∷ cs) o p → Course k.geometry l (c ∷ cs) q o → Spared k.geometry l cs
          → (v : Result Unit Refusal) → verdict left_target (event_of c) ≡ v
          → Alike k.geometry l cs (by_verdict v left_target (event_of c) params B flags).target.decoder (by_verdict v right_target (event_of c) params C flags).target.decoder
      unfolding by_verdict accepted accepted_by target_after
      cycle-decoder standing course spared (Ok tt) held =
          decoder-alike k.geometry l q c cs i j a b standing course spared (accepted-fits left_target c held)
      cycle-decoder standing course spared (Err r) held =
          rw (refused-decoder left_target c, refused-decoder right_target c)
          (record { sequence = refl; standing = equal; course = spared-all k.geometry l cs spared; rest = spared-behind k.geometry l cs spared })

    -- a finish event of the l-th LUN, whatever the decoders
    module _ (a b : ℕ) (xs ys : List Lun) (d e : Decoder) (B C : Buffers) (lun : lun_at xs l ≡ lun_at ys l) where
      finish-moved : (v : Result Unit Refusal)
          → Moved k l (state_of (made k a xs d) B) (state_of (made k b ys e) C) (by_verdict v (made k a xs d) (finish_of l) params B flags) (by_verdict v (made k b ys e) (finish_of l) params C flags)
      unfolding by_verdict accepted accepted_by target_after target_refused reply_of luns_after clear_after high_after work_of worked array_after registers_after counts_after
      finish-moved (Ok tt) = record {
        reply = refl;
        luns = become-by lun_finished lun;
        buffers = unedited k.geometry l B C;
        fixed = refixed k refl (or-none k.seen refl);
        fixedʳ = refixed k refl (or-none k.seen refl);
      }
      finish-moved (Err r) =
          record { reply = refl; luns = as-were; buffers = unedited k.geometry l B C; fixed = refl; fixedʳ = refl }

  -- a finish event leaves the decoder as it is
  finish-keeps : (f : ℕ) (t : Target) (b : Buffers) (v : Result Unit Refusal)
      → (by_verdict v t (finish_of f) params b flags).target.decoder ≡ t.decoder
  unfolding by_verdict accepted accepted_by target_after target_refused sequence_after output_after kept_after
  finish-keeps f t b (Ok tt) = refl
  finish-keeps f t b (Err r) = refl

  -- any two states with the fixed half k
  module _ (k : Fixed) (P : State → State → Type 0) where
    by-fixed : ((a b : ℕ) (xs ys : List Lun) (d e : Decoder) (B C : Buffers) → P (state_of (made k a xs d) B) (state_of (made k b ys e) C))
        → (s u : State) → fixed_of s.target ≡ k → fixed_of u.target ≡ k → P s u
    by-fixed h s u q r =
        let from : Fixed → State → State = λ f w. state_of (made f w.target.selected w.target.luns w.target.decoder) w.buffers in
        subst (λ (f : Fixed). P s (from f u)) (sym r)
        (subst (λ (f : Fixed). P (from f s) (from k u)) (sym q)
        (h s.target.selected u.target.selected s.target.luns u.target.luns s.target.decoder u.target.decoder s.buffers u.buffers))

  module _ (k : Fixed) (on : k.clear ≡ true) (l : ℕ) where
    -- a cycle of a job, met by both
    pub record CycleMet (cs : List Cycle) (s u : State) (e : Event) : Type 0 where
      pub moved : Moved k l s u (step_at params flags s e) (step_at params flags u e)
      pub alike : Alike k.geometry l cs (step_at params flags s e).target.decoder (step_at params flags u e).target.decoder

    one-sequence : (a b : ℕ) (xs ys : List Lun) (q : Sequence) (o p i j : Output) (B C : Buffers) (c : Cycle) (cs : List Cycle)
        → Standing (c ∷ cs) o p → Course k.geometry l (c ∷ cs) q o → Spared k.geometry l cs
        → Agreed k l (state_of (made k a xs (held q o i)) B) (state_of (made k b ys (held q p j)) C)
        → CycleMet cs (state_of (made k a xs (held q o i)) B) (state_of (made k b ys (held q p j)) C) (event_of c)
    unfolding Course
    one-sequence a b xs ys q o p i j B C c cs standing course spared agreed =
        let t = made k a xs (held q o i) in
        let u = made k b ys (held q p j) in
        let same : verdict t (event_of c) ≡ verdict u (event_of c) = verdict-alike k l a b xs ys agreed.lun q c i j standing course.0 in
        let is = by-verdict (state_of t B) (event_of c) agreed.fine in
        let isʳ = by-verdict (state_of u C) (event_of c) agreed.fineʳ in
        record {
          moved = rw (is, isʳ, ← same) (cycle-moved k on l a b xs ys q o p i j B C c cs agreed standing course.0 (verdict t (event_of c)) refl);
          alike = rw (is, isʳ, ← same) (cycle-decoder k on l a b xs ys q o p i j B C c cs standing course spared (verdict t (event_of c)) refl);
        }

    pub cycle-met : (c : Cycle) (cs : List Cycle) (s u : State) → Agreed k l s u
        → Alike k.geometry l (c ∷ cs) s.target.decoder u.target.decoder → CycleMet cs s u (event_of c)
    cycle-met c cs s u agreed alike =
        by-fixed k (λ s u. Agreed k l s u → Alike k.geometry l (c ∷ cs) s.target.decoder u.target.decoder → CycleMet cs s u (event_of c))
        (λ a b xs ys d e B C near like.
        let twin : Sequence → State = λ q. state_of (made k b ys (held q e.output e.kept)) C in
        subst (λ (q : Sequence). Agreed k l (state_of (made k a xs d) B) (twin q) → CycleMet cs (state_of (made k a xs d) B) (twin q) (event_of c)) like.sequence
        (one-sequence a b xs ys d.sequence d.output e.output d.kept e.kept B C c cs like.standing like.course like.rest)
        near)
        s u agreed.fixed agreed.fixedʳ agreed alike

    -- a finish event of the l-th LUN, met by both
    pub finish-met : (s u : State) → Agreed k l s u
        → Moved k l s u (step_at params flags s (finish_of l)) (step_at params flags u (finish_of l))
    finish-met s u agreed =
        by-fixed k (λ s u. Agreed k l s u → Moved k l s u (step_at params flags s (finish_of l)) (step_at params flags u (finish_of l)))
        (λ a b xs ys d e B C near.
        let same = verdict-finish k l a b xs ys near.lun d e in
        rw (by-verdict (state_of (made k a xs d) B) (finish_of l) near.fine, by-verdict (state_of (made k b ys e) C) (finish_of l) near.fineʳ, ← same)
        (finish-moved k on l a b xs ys d e B C near.lun (verdict (made k a xs d) (finish_of l))))
        s u agreed.fixed agreed.fixedʳ agreed

  pub finish-decoder : (f : ℕ) (s : State) → Fine params flags s
      → (step_at params flags s (finish_of f)).target.decoder ≡ s.target.decoder
  finish-decoder f s fine =
      rw (by-verdict s (finish_of f) fine) (finish-keeps f s.target s.buffers (verdict s.target (finish_of f)))
