-- Uniqueness: each public call promises one equation, so two results that meet its statement are equal, lent bytes included.
-- One law, and each call's instance of it.
-- Assumes nothing.
use Rattle.std.specs.Prelude.{Option, Result, Ok, Err}
use mathlib.Core.Path.{◌≡◌, sym, ap, ◌∙◌}
use native.Mathlib.Omega.{arith}
use mathlib.Core.List.{List}
use Prim.Native.Nat.{ℕ}
use Rattle.target.specs.declared.Event.{Event}
use Rattle.target.specs.declared.Target.{Target}
use Rattle.power.specs.declared.PowerRefusal.{PowerRefusal}
use Rattle.power.specs.declared.NotPowered.{NotPowered}
use Rattle.power.specs.Power.{Powering, power_of, told}
use Rattle.step.specs.Step.{Buffers, Outcome, step_of}
use Rattle.trace.specs.declared.RunRefusal.{RunRefusal}
use Rattle.trace.specs.Run.{Traced, trace_of, batch_of, came_to}
use Rattle.unread.specs.declared.Unread.{Unread}
use Rattle.unread.specs.Rest.{unread_of, rest_of}

-- two that equal the same are equal
pub unique : {A : Type 0} {x y z : A} → x ≡ z → y ≡ z → x ≡ y
unique p q = p ∙ sym q

pub power-unique : (page : List ℕ) (device : ℕ) (array registers counts flags : List ℕ) (x y : Powering) → x ≡ power_of page device array registers counts flags → y ≡ power_of page device array registers counts flags → x ≡ y
power-unique page device array registers counts flags x y = unique

-- and `told`, through which power-on's promise speaks of its result, is one to one: the result and the registers are equal too
abbrev done_by : Result Unit PowerRefusal → ℕ
done_by (Ok done) = 1
done_by (Err why) = 0

abbrev why_of : Result Unit PowerRefusal → PowerRefusal → PowerRefusal
why_of (Ok done) w = w
why_of (Err why) w = why

abbrev given_back : Powering → PowerRefusal → Result Target NotPowered
given_back p w = Err (record { why = why_of p.answer w; target = p.target })

abbrev powered : Powering → Result Target NotPowered
powered p = Ok p.target

pub told-unique : (x y : Result Target NotPowered) (r q : List ℕ) → told x r ≡ told y q → (x ≡ y) × (r ≡ q)
told-unique (Ok t) (Ok s) r q h = (ap powered h, ap (λ (p : Powering). p.registers) h)
told-unique (Ok t) (Err e) r q h = let z : ◌≡◌ {A = ℕ} 1 0 = ap (λ (p : Powering). done_by p.answer) h in absurd (omega arith)
told-unique (Err e) (Ok t) r q h = let z : ◌≡◌ {A = ℕ} 0 1 = ap (λ (p : Powering). done_by p.answer) h in absurd (omega arith)
told-unique (Err e) (Err d) r q h = (ap (λ (p : Powering). given_back p e.why) h, ap (λ (p : Powering). p.registers) h)

pub step-unique : (t : Target) (e : Event) (page : List ℕ) (b : Buffers) (flags : List ℕ) (x y : Outcome) → x ≡ step_of t e page b flags → y ≡ step_of t e page b flags → x ≡ y
step-unique t e page b flags x y = unique

pub trace-unique : (t : Target) (records room page : List ℕ) (b : Buffers) (flags : List ℕ) (x y : Traced) → x ≡ trace_of t records room page b flags → y ≡ trace_of t records room page b flags → x ≡ y
trace-unique t records room page b flags x y = unique

pub batch-unique : (t : Target) (events : List Event) (room page : List ℕ) (b : Buffers) (flags : List ℕ) (x y : Traced) → x ≡ batch_of t events room page b flags → y ≡ batch_of t events room page b flags → x ≡ y
batch-unique t events room page b flags x y = unique

-- likewise `came_to` on the same target, for a trace and a batch
abbrev ran_by : Result Unit RunRefusal → ℕ
ran_by (Ok done) = 1
ran_by (Err why) = 0

abbrev refused_by : Result Unit RunRefusal → RunRefusal → Result Target RunRefusal
refused_by (Ok done) w = Err w
refused_by (Err why) w = Err why

abbrev run_to : Traced → Result Target RunRefusal → Result Target RunRefusal
run_to d (Ok s) = Ok d.target
run_to d (Err why) = refused_by d.answer why

pub came-unique : (t : Target) (x y : Result Target RunRefusal) (b c : Buffers) (r q : List ℕ) → came_to t x b r ≡ came_to t y c q → (x ≡ y) × ((b ≡ c) × (r ≡ q))
came-unique t (Ok s) (Ok u) b c r q h = (ap (λ (d : Traced). run_to d (Ok s)) h, (ap (λ (d : Traced). d.buffers) h, ap (λ (d : Traced). d.room) h))
came-unique t (Ok s) (Err w) b c r q h = let z : ◌≡◌ {A = ℕ} 1 0 = ap (λ (d : Traced). ran_by d.answer) h in absurd (omega arith)
came-unique t (Err w) (Ok s) b c r q h = let z : ◌≡◌ {A = ℕ} 0 1 = ap (λ (d : Traced). ran_by d.answer) h in absurd (omega arith)
came-unique t (Err v) (Err w) b c r q h = (ap (λ (d : Traced). run_to d (Err v)) h, (ap (λ (d : Traced). d.buffers) h, ap (λ (d : Traced). d.room) h))

pub unread-unique : (t : Target) (page registers : ℕ) (x y : Option Unread) → x ≡ unread_of t page registers → y ≡ unread_of t page registers → x ≡ y
unread-unique t page registers x y = unique

pub rest-unique : (t : Target) (page registers x y : List ℕ) → x ≡ rest_of t page registers → y ≡ rest_of t page registers → x ≡ y
rest-unique t page registers x y = unique
