-- Each line goes on from its place: no record is told twice, and none is left out.
-- Assumes nothing.
use mathlib.Core.Path.{◌≡◌, refl}
use mathlib.Core.Bool.{Bool, true, false, ◌&&◌, ◌||◌, false≢true}
use mathlib.Core.List.{List, ◌∷◌}
use Prim.Native.Nat.{ℕ, ◌+◌, ◌*◌, ◌/◌, ◌<◌}
use native.Mathlib.Omega.{arith}
use lib.ListN.{length, drop}
use lib.Dec.{eqb, ltb}
use borrow.Author.Tests.{ltb-true, eqb-true}
use Rattle.std.specs.Prelude.{if◌then◌else◌, Option, Some, None, Result, Ok, Err}
use Rattle.jobs.specs.declared.reading.FoundJob.{FoundJob}
use Rattle.jobs.specs.declared.reading.Misfit.{Misfit}
use Rattle.jobs.specs.Reading.{of_kind, run, many_of, job_at}
use Rattle.jobs.proofs.Runs.{record-at}
use Rattle.jobs.proofs.Walks.{job-ahead}
use Rattle.nib_told.specs.declared.lines.Line.{Line}
use Rattle.nib_told.specs.Lines.{kind_at, value_at, is_data, times_of, begun_at, alone_at, line_of, line_at, Forward}

-- a data cycle is of its own kind
of_two : (k v : ℕ) → k ≡ 2 → of_kind k k v ≡ true
of_two k v e = rw (e)

of_three : (k v : ℕ) → k ≡ 3 → v ≡ 0 → of_kind k k v ≡ true
of_three k v e z = rw (e, z)

own-kind : (k v : ℕ) → is_data k v ≡ true → of_kind k k v ≡ true
own-kind k v h = by (eqb k 2) (eqb k 3) (eqb v 0) refl refl refl h where
  by : (a b c : Bool) → eqb k 2 ≡ a → eqb k 3 ≡ b → eqb v 0 ≡ c → (a || (b && c)) ≡ true → of_kind k k v ≡ true
  by true b c p q r d = of_two k v (eqb-true k 2 p)
  by false true true p q r d = of_three k v (eqb-true k 3 q) (eqb-true v 0 r)
  by false true false p q r d = absurd (false≢true d)
  by false false c p q r d = absurd (false≢true d)

one-of-many : (k v : ℕ) (ts : List ℕ) → of_kind k k v ≡ true → 0 < many_of k (k ∷ (v ∷ ts))
unfolding run
one-of-many k v ts h = rw (h) (omega arith)

module _ (trace : List ℕ) (at : ℕ) (below : at < length trace / 2) where
  once-at-least : 0 < times_of (kind_at trace at) (value_at trace at) trace at
  once-at-least = by (is_data (kind_at trace at) (value_at trace at)) refl where
    by : (b : Bool) → is_data (kind_at trace at) (value_at trace at) ≡ b → 0 < (if b then many_of (kind_at trace at) (drop (2 * at) trace) else 1)
    by true e =
        let bound : 2 * at + 1 < length trace = omega arith in
        rw (record-at trace at bound) (one-of-many (kind_at trace at) (value_at trace at) (drop (2 * (at + 1)) trace) (own-kind (kind_at trace at) (value_at trace at) e))
    by false e = omega arith

either : (at : ℕ) (b : Bool) (x y : Line) → (b ≡ true → at < x.next) → (b ≡ false → at < y.next) → at < (if b then x else y).next
either at true x y p q = p refl
either at false x y p q = q refl

alone-on : (trace : List ℕ) (at : ℕ) → at < (alone_at trace at).next
alone-on trace at =
    either at (ltb at (length trace / 2)) _ _
    (λ e. let h : 0 < times_of (kind_at trace at) (value_at trace at) trace at = once-at-least trace at (ltb-true at (length trace / 2) e) in omega arith)
    (λ e. omega arith)

misfit-on : (trace : List ℕ) (at p : ℕ) → at < (if ltb at p then begun_at trace at p else alone_at trace at).next
misfit-on trace at p = either at (ltb at p) _ _ (λ e. ltb-true at p e) (λ e. alone-on trace at)

on-to : (at : ℕ) (x y : Line) → Some x ≡ Some y → at < x.next → at < y.next
on-to at x y e h = let q : x ≡ y = cc in rw (← q) h

found-on : (trace : List ℕ) (at : ℕ) (f : Result (Option FoundJob) Misfit) (line : Line) → job_at trace at ≡ f → line_of f trace at ≡ Some line
    → at < line.next
found-on trace at (Ok None) line e h = cc
found-on trace at (Err m) line e h = on-to at _ line h (misfit-on trace at m.place)
found-on trace at (Ok (Some g)) line e h = on-to at _ line h (omega (arith, (job-ahead trace at g e).low))

pub forward : Forward
unfolding Forward line_at
forward trace at line h = found-on trace at (job_at trace at) line refl h
