-- The laws of a batch that the proofs cite: one event more of it, and what all of them give. Nothing here speaks of code.
--     held, outcome, running     the records of the contracts, made of their parts
--     turned                     one event is run, and the rest are left
--     batched, refused           where there is room, all that were run are the batch; where there is none, it is refused
-- Assumes nothing.
use mathlib.Core.Path.{◌≡◌, refl, sym, ap, ◌∙◌}
use mathlib.Core.Bool.{Bool, true, false}
use Prim.Native.Nat.{ℕ, ◌+◌, ◌*◌, ◌<◌}
use native.Mathlib.Omega.{arith}
use native.Mathlib.Numerals.{add-one}
use mathlib.Core.List.{List, ◌∷◌}
use lib.ListN.{length, get_or, drop}
use lib.Seq.{drop-cons}
use lib.Dec.{ltb}
use Rattle.std.specs.Prelude.{Result, Ok, Err, IsErr}
use Rattle.target.specs.Pick.{pick}
use Rattle.target.specs.declared.Event.{Event}
use Rattle.target.specs.declared.Target.{Target}
use Rattle.target.specs.declared.Reply.{Reply}
use Rattle.step.specs.Step.{Buffers, Outcome}
use Rattle.trace.specs.declared.RunRefusal.{RunRefusal}
use Rattle.trace.specs.declared.RunRefusal.TheVariants.{NoRoom}
use Rattle.trace.specs.Run.{run_number, Running, one_more, ran_all, traced, start, came_to, batch_of}
use Rattle.in_place.specs.Plan.{plan_of}

abbrev pub held : List ℕ → List ℕ → List ℕ → Buffers
held a g c = record { array = a; registers = g; counts = c }

abbrev pub outcome : Reply → Target → List ℕ → List ℕ → List ℕ → Outcome
outcome r t a g c = record { reply = r; target = t; buffers = held a g c }

abbrev pub running : Target → ℕ → List ℕ → List ℕ → List ℕ → List ℕ → Running
running t i a g c w = record { target = t; done = i; buffers = held a g c; room = w }

module _ (p f : List ℕ) (es : List Event) where
  pub turned : (d : Event) (i : ℕ) (s s' z : Running) → i < length es → s' ≡ one_more p f s (get_or es i d) → ran_all p f (drop i es) s ≡ z → ran_all p f (drop (i + 1) es) s' ≡ z
  unfolding ran_all
  turned d i s s' z h e before =
      ap (ran_all p f (drop (i + 1) es)) e
      ∙ (ap (λ (l : List Event). ran_all p f l s) (sym (drop-cons es i d h ∙ ap (λ (m : ℕ). get_or es i d ∷ drop m es) (sym (add-one i)))) ∙ before)

  pub batched : (t : Target) (b : Buffers) (room : List ℕ) (s : Running) (n : ℕ) → Ok n ≡ plan_of (length es) (length room)
      → s ≡ ran_all p f es (start t b room) → traced (Ok tt) s ≡ batch_of t es room p b f
  unfolding batch_of
  batched t b room s n planned e = ap (traced (Ok tt)) e ∙ by (ltb (length room) (2 * length es)) planned
    where
      by : (x : Bool) → Ok n ≡ pick x (Err NoRoom) (Ok (length es))
          → traced (Ok tt) (ran_all p f es (start t b room)) ≡ pick x (traced (Err NoRoom) (start t b room)) (traced (Ok tt) (ran_all p f es (start t b room)))
      by true h = let z : ◌≡◌ {A = ℕ} 0 16 = ap run_number h in absurd (omega arith)
      by false h = refl

  pub refused : (t : Target) (b : Buffers) (room : List ℕ) (r : Result Target RunRefusal) (why : RunRefusal) → IsErr r → Err why ≡ plan_of (length es) (length room)
      → came_to t r b room ≡ batch_of t es room p b f
  unfolding batch_of
  refused t b room (Ok next) why h planned = let z : ◌≡◌ {A = ℕ} 0 1 = ap (λ (x : Bool). pick x 1 0) h in absurd (omega arith)
  refused t b room (Err NoRoom) NoRoom h planned = by (ltb (length room) (2 * length es)) planned
    where
      by : (x : Bool) → Err NoRoom ≡ pick x (Err NoRoom) (Ok (length es))
          → traced (Err NoRoom) (start t b room) ≡ pick x (traced (Err NoRoom) (start t b room)) (traced (Ok tt) (ran_all p f es (start t b room)))
      by true h = refl
      by false h = let z : ◌≡◌ {A = ℕ} 16 0 = ap run_number h in absurd (omega arith)
