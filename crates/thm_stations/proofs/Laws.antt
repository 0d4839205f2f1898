-- The target obeys the laws of `Ties`.
-- Assumes nothing.
use mathlib.Core.Path.{◌≡◌, refl, sym, ◌∙◌}
use mathlib.Core.Bool.{true}
use mathlib.Core.List.{List, []}
use Prim.Native.Nat.{ℕ, ◌<◌}
use native.Mathlib.Omega.{arith}
use lib.ListN.{length}
use Rattle.target.specs.declared.Decoder.{Decoder}
use Rattle.target.specs.declared.Event.{Event}
use Rattle.target.proofs.Limits.{Limits, limits}
use Rattle.step.proofs.Sound.{sound}
use Rattle.thm_kept.proofs.Kept.{step-usable}
use Rattle.step.specs.Step.{State}
use Rattle.thm_demands.specs.Runs.{step_at}
use Rattle.thm_stations.specs.Isolated.{next, Fine}
use Rattle.thm_stations.proofs.Agreement.{SizesOf, edited-flip, edited-alike, edited-apart}
use Rattle.thm_stations.proofs.Records.{changed-flip, changed-alike, changed-apart, changed-length}
use Rattle.thm_stations.proofs.Halves.{Fixed, fixed_of}
use Rattle.thm_stations.proofs.Ties.{Quiet, Ties, Laws}
use Rattle.thm_stations.proofs.Course.{Course, Spared, at-end, Alike}
use Rattle.thm_stations.proofs.Jobs.{job-alike}
use Rattle.thm_stations.proofs.Steps.{Moved, passing, Agreed, cycle-met, finish-met, finish-decoder}

module _ (params flags : List ℕ) where
  -- the house limits, and room for a LUN's record
  pub limits_of : (s : State) → Fine params flags s → Limits s.target.geometry
  limits_of s fine =
      limits s.target.geometry (sound s.target (passing params flags s fine).record-sound).limited

  module _ (k : Fixed) where
    pub sizes-of : (s : State) → fixed_of s.target ≡ k → Fine params flags s → SizesOf k.geometry s.buffers
    sizes-of s q fine = rw (← q) (passing params flags s fine).sizes

    has-record : (l : ℕ) (s : State) → l < k.geometry.luns → fixed_of s.target ≡ k → Fine params flags s
        → l < length s.target.luns
    has-record l s there q fine =
        let most = (limits_of s fine).luns-max in
        omega (arith, rw (← q) at there, fine.four)

    -- an event of the l-th LUN
    pub record Moves (l : ℕ) (s u : State) (e : Event) : Type 0 where
      pub there : l < k.geometry.luns
      pub moved : Moved k l s u (step_at params flags s e) (step_at params flags u e)

    -- a sound state stays sound
    fine-after : {l : ℕ} {s u : State} {e : Event} → Fine params flags s → Moves l s u e
        → Fine params flags (next params flags s e)
    fine-after {s = s} {e = e} fine m = record {
      passes = step-usable s.target e params s.buffers flags fine.passes;
      four = changed-length m.moved.luns ∙ fine.four;
    }

    turn : {l : ℕ} {s u : State} {e : Event} → Moves l s u e → Moves l u s e
    turn m = record {
      there = m.there;
      moved = record {
        reply = sym m.moved.reply;
        luns = changed-flip m.moved.luns;
        buffers = edited-flip m.moved.buffers;
        fixed = m.moved.fixedʳ;
        fixedʳ = m.moved.fixed;
      };
    }

    -- agreement is an equivalence of sound states with this fixed half
    pub itself : (l : ℕ) (s : State) → fixed_of s.target ≡ k → Fine params flags s → Agreed params flags k l s s
    itself l s q fine = record { fixed = q; fixedʳ = q; fine = fine; fineʳ = fine; lun = refl; parts = record { array = refl; registers = refl; counts = refl } }

    flip : {l : ℕ} {s u : State} → Agreed params flags k l s u → Agreed params flags k l u s
    flip a = record {
      fixed = a.fixedʳ;
      fixedʳ = a.fixed;
      fine = a.fineʳ;
      fineʳ = a.fine;
      lun = sym a.lun;
      parts = record { array = sym a.parts.array; registers = sym a.parts.registers; counts = sym a.parts.counts };
    }

    chain : {l : ℕ} {s u w : State} → Agreed params flags k l s u → Agreed params flags k l u w
        → Agreed params flags k l s w
    chain a b = record {
      fixed = a.fixed;
      fixedʳ = b.fixedʳ;
      fine = a.fine;
      fineʳ = b.fineʳ;
      lun = a.lun ∙ b.lun;
      parts = record { array = a.parts.array ∙ b.parts.array; registers = a.parts.registers ∙ b.parts.registers; counts = a.parts.counts ∙ b.parts.counts };
    }

    both : {l : ℕ} {s u : State} {e : Event} → Agreed params flags k l s u → Moves l s u e
        → Agreed params flags k l (next params flags s e) (next params flags u e)
    both {l} {s} {u} {e} a m = record {
      fixed = m.moved.fixed;
      fixedʳ = m.moved.fixedʳ;
      fine = fine-after a.fine m;
      fineʳ = fine-after a.fineʳ (turn m);
      lun = changed-alike (has-record l s m.there a.fixed a.fine) (has-record l u m.there a.fixedʳ a.fineʳ) a.lun m.moved.luns;
      parts = edited-alike k.geometry l m.there s.buffers u.buffers _ _ (sizes-of s a.fixed a.fine) m.moved.buffers (sizes-of u a.fixedʳ a.fineʳ) a.parts;
    }

    apart : {m l : ℕ} {s u w : State} {e : Event} → (m ≡ l → ⊥) → Agreed params flags k m s w → Moves l s u e
        → Agreed params flags k m (next params flags s e) w
    apart {m} {l} {s} {u} ne a v =
        chain
        (record {
          fixed = v.moved.fixed;
          fixedʳ = a.fixed;
          fine = fine-after a.fine v;
          fineʳ = a.fine;
          lun = changed-apart m ne v.moved.luns;
          parts = edited-apart k.geometry l v.there s.buffers u.buffers _ _ (sizes-of s a.fixed a.fine) v.moved.buffers m ne;
        })
        a

    abbrev pub ties : Ties
    ties = record { Agree = Agreed params flags k; Moves = Moves; Alike = Alike k.geometry }

    -- between jobs no sequence is open
    rests : {l : ℕ} {d e : Decoder} → Quiet d → Quiet e → Alike k.geometry l [] d e
    unfolding Course Spared
    rests p q = record { sequence = p ∙ sym q; standing = at-end; course = p; rest = tt }

    ends : {l : ℕ} {d e : Decoder} → Alike k.geometry l [] d e → Quiet d × Quiet e
    unfolding Course
    ends a = (a.course, sym a.sequence ∙ a.course)

    pub laws : k.clear ≡ true → Laws params flags k.geometry ties
    laws on = record {
      itself = λ {l} {s} m a. itself m s a.fixed a.fine;
      flip = flip;
      chain = chain;
      turn = turn;
      answers = λ m. m.moved.reply;
      both = both;
      apart = apart;
      cycle = λ {l} {c} {cs} {s} {u} there a d. record { there = there; moved = (cycle-met params flags k on l c cs s u a d).moved };
      goes = λ {l} {c} {cs} {s} {u} there a d. (cycle-met params flags k on l c cs s u a d).alike;
      finish = λ {l} {s} {u} there a. record { there = there; moved = finish-met params flags k on l s u a };
      finish-decoder = λ {l} {s} f a. finish-decoder params flags f s a.fine;
      begins = job-alike k.geometry;
      rests = rests;
      ends = ends;
    }
