-- The laws of a run that the code's loop goes by: the records of a trace as events, one turn, and that rule 13 holds after a
-- turn exactly where it held before it.
-- Assumes nothing.
use mathlib.Core.Path.{◌≡◌, refl, sym, ap, ap₂, ◌∙◌}
use mathlib.Core.Bool.{Bool, true, false}
use mathlib.Core.List.{List, [], ◌∷◌}
use Prim.Native.Nat.{ℕ, zero, suc, ◌+◌, ◌*◌, ◌/◌, ◌%◌, ◌≤◌, ◌<◌}
use native.Mathlib.Omega.{arith}
use lib.ListN.{length, get_or, drop, drop_of_length-le}
use lib.Dec.{eqb, leb, ltb}
use borrow.Author.Tests.{leb-true, leb-false, lt-ltb, le-ltb}
use Rattle.target.specs.Pick.{pick}
use Rattle.target.specs.declared.Event.{Event}
use Rattle.target.specs.declared.Target.{Target}
use Rattle.step.specs.Usable.{usable}
use Rattle.step.specs.Step.{Buffers, step_of}
use Rattle.thm_kept.proofs.Kept.{step-usable}
use Rattle.target.specs.declared.Reply.TheVariants.{Refused}
use Rattle.target.specs.declared.Refusal.TheVariants.{BadRecord, NotUsable}
use Rattle.std.specs.Prelude.{Ok}
use Rattle.trace.specs.Run.{Running, written, one_more, ran_all, events_of, stands_usable, odd_answered, Traced, traced}

-- the event of the two bytes at a place
abbrev pub event_at : List ℕ → ℕ → Event
event_at records i = record { kind = get_or records (2 * i) 0; value = get_or records (2 * i + 1) 0 }

-- one record further is two bytes further
shifted : (k v : ℕ) (rest : List ℕ) (i : ℕ) → event_at (k ∷ (v ∷ rest)) (suc i) ≡ event_at rest i
shifted k v rest i =
    let a : 2 * suc i ≡ suc (suc (2 * i)) = omega arith in
    let b : 2 * suc i + 1 ≡ suc (suc (2 * i + 1)) = omega arith in
    ap₂ (λ (x y : ℕ). record { kind = get_or (k ∷ (v ∷ rest)) x 0; value = get_or (k ∷ (v ∷ rest)) y 0 }) a b

-- event number i of a trace, and those after it
pub events-at : (records : List ℕ) (i : ℕ) → 2 * i + 1 < length records → drop i (events_of records) ≡ event_at records i ∷ drop (i + 1) (events_of records)
unfolding events_of
events-at [] i h = absurd (omega arith)
events-at (k ∷ []) i h = absurd (omega arith)
events-at (k ∷ (v ∷ rest)) zero h = refl
events-at (k ∷ (v ∷ rest)) (suc i) h =
    let later : suc i + 1 ≡ suc (i + 1) = omega arith in
    rw (later, shifted k v rest i) (events-at rest i (omega arith))

-- a trace has half as many events as bytes
pub events-count : (records : List ℕ) → length (events_of records) ≡ length records / 2
unfolding events_of
events-count [] = refl
events-count (k ∷ []) = refl
events-count (k ∷ (v ∷ rest)) = omega (arith, events-count rest)

module _ (params flags : List ℕ) where
  -- rule 13 after an event, where it did not hold before it and where it did
  kept_by : (t : Target) (e : Event) (b : Buffers) (ok : Bool) → usable t (length params) (length b.array) (length b.registers) (length b.counts) (length flags) ≡ ok
      → usable (step_of t e params b flags).target (length params) (length (step_of t e params b flags).buffers.array) (length (step_of t e params b flags).buffers.registers) (length (step_of t e params b flags).buffers.counts) (length flags) ≡ ok
  unfolding step_of
  kept_by t e b true h = step-usable t e params b flags h
  kept_by t e b false h = rw (h) h

  pub stands-kept : (s : Running) (e : Event) → stands_usable params flags (one_more params flags s e) ≡ stands_usable params flags s
  unfolding stands_usable one_more
  stands-kept s e = kept_by s.target e s.buffers _ refl

  pub stands-through : (es : List Event) (s : Running) → stands_usable params flags (ran_all params flags es s) ≡ stands_usable params flags s
  unfolding ran_all
  stands-through [] s = refl
  stands-through (e ∷ es) s = stands-through es (one_more params flags s e) ∙ stands-kept s e

  -- record i is run, and the rest are left
  pub turned : (records : List ℕ) (i : ℕ) (s n z : Running) → 2 * i + 1 < length records → n ≡ one_more params flags s (event_at records i) → ran_all params flags (drop i (events_of records)) s ≡ z → ran_all params flags (drop (i + 1) (events_of records)) n ≡ z
  unfolding ran_all
  turned records i s n z h e before =
      ap (ran_all params flags (drop (i + 1) (events_of records))) e
      ∙ sym (ap (λ (l : List Event). ran_all params flags l s) (events-at records i h))
      ∙ before

  -- no record is left
  pub left-none : (es : List Event) (i : ℕ) → length es ≤ i → (s : Running) → s ≡ ran_all params flags (drop i es) s
  unfolding ran_all
  left-none es i h s = rw (drop_of_length-le es h)

  -- the odd last byte's reply
  pub odd-room : (n : ℕ) (s : Running) (ok : Bool) → s.done ≡ n / 2 → ok ≡ stands_usable params flags s
      → ◌≡◌ {A = Traced} (record { answer = Ok tt; target = s.target; buffers = s.buffers; room = pick (eqb (n % 2) 1) (written s.room (n / 2) (Refused (pick ok BadRecord NotUsable))) s.room })
      (traced (Ok tt) (odd_answered params flags n s))
  unfolding odd_answered
  odd-room n s ok at told = rw (told, ← at) (by (eqb (n % 2) 1))
    where
      by : (b : Bool) → ◌≡◌ {A = Traced} (record { answer = Ok tt; target = s.target; buffers = s.buffers; room = pick b (written s.room s.done (Refused (pick (stands_usable params flags s) BadRecord NotUsable))) s.room })
          (traced (Ok tt) (pick b (record { target = s.target; done = s.done + 1; buffers = s.buffers; room = written s.room s.done (Refused (pick (stands_usable params flags s) BadRecord NotUsable)) }) s))
      by true = refl
      by false = refl

-- at most n is below n + 1
pub at_most : (a n : ℕ) → leb a n ≡ ltb a (n + 1)
at_most a n = by (leb a n) refl
  where
    by : (b : Bool) → leb a n ≡ b → b ≡ ltb a (n + 1)
    by true h = sym (lt-ltb a (n + 1) (omega (arith, leb-true a n h)))
    by false h = sym (le-ltb a (n + 1) (omega (arith, leb-false a n h)))
