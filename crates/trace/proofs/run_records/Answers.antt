-- `trace::run_records` meets its contract.
use mathlib.Core.Path.{◌≡◌, refl, sym, ap, ◌∙◌}
use Prim.Native.Nat.{ℕ, ◌+◌, ◌*◌, ◌/◌, ◌≤◌, ◌<◌}
use native.Mathlib.Omega.{arith}
use lib.ListN.{length}
use mathlib.Core.Bool.{Bool}
use mathlib.Core.List.{List}
use Rattle.target.specs.declared.Event.{Event}
use Rattle.step.proofs.Sound.{passes}
use Rattle.trace.specs.Run.{Running, one_more, events_of, stands_usable}
use Rattle.trace.proofs.Turns.{turned, stands-kept, events-count, left-none}
use Rattle.trace.proofs.run_records.Invariants.{reached}
use Rattle.trace.proofs.run_records.Goals as goal

-- rule 13 holds after a turn where it held before it
stands-on : (params flags : List ℕ) (now next : Running) {ok : Bool} (e : Event) → ok ≡ stands_usable params flags now → next ≡ one_more params flags now e → ok ≡ stands_usable params flags next
stands-on params flags now next e before is = before ∙ sym (ap (stands_usable params flags) is ∙ stands-kept params flags now e)

pub loop-i-init : goal.loop-i-init
unfolding stands_usable
loop-i-init c = (omega arith, refl, refl, record { array = refl; registers = refl; counts = refl }, c.requires.ok_value, refl)

pub turn-at-requires-clause-ok_value : goal.turn-at-requires-clause-ok_value
unfolding stands_usable
turn-at-requires-clause-ok_value c = c.loop-i.invariant.4

pub burst-b-requires-clause-sound : goal.burst-b-requires-clause-sound
unfolding stands_usable
burst-b-requires-clause-sound c =
    let stands = stands-on c.args.params.now c.args.flags.now (reached c.loop-i.at c.loop-i.i c.loop-i.array c.loop-i.registers c.loop-i.counts c.loop-i.room) _ _ c.loop-i.invariant.4 c.turn-at.ensures in
    let p = passes c.turn-at.result c.args.params.now c.turn-at.new.array c.turn-at.new.registers c.turn-at.new.counts c.args.flags.now (sym stands ∙ c.if-ok.true) in
    (p.record-sound, p.sizes.registers-size)

pub overflow_add-i-then-may_burst : goal.overflow_add-i-then-may_burst
unfolding stands_usable
overflow_add-i-then-may_burst c =
    let stands = stands-on c.args.params.now c.args.flags.now (reached c.loop-i.at c.loop-i.i c.loop-i.array c.loop-i.registers c.loop-i.counts c.loop-i.room) _ _ c.loop-i.invariant.4 c.turn-at.ensures in
    let carried = c.burst-b.ensures c.args.params.now c.args.flags.now c.turn-at.new.array c.turn-at.new.counts (sym stands ∙ c.if-ok.true) in
    omega (arith, c, carried.within, c.loop-i.invariant.1)

pub loop-i-smaller-then-may_burst : goal.loop-i-smaller-then-may_burst
unfolding stands_usable
loop-i-smaller-then-may_burst c =
    let stands = stands-on c.args.params.now c.args.flags.now (reached c.loop-i.at c.loop-i.i c.loop-i.array c.loop-i.registers c.loop-i.counts c.loop-i.room) _ _ c.loop-i.invariant.4 c.turn-at.ensures in
    let carried = c.burst-b.ensures c.args.params.now c.args.flags.now c.turn-at.new.array c.turn-at.new.counts (sym stands ∙ c.if-ok.true) in
    omega (arith, c.loop-i-test.true, carried.within, c.loop-i.invariant.1)

pub loop-i-preserved-then-may_burst : goal.loop-i-preserved-then-may_burst
unfolding stands_usable
loop-i-preserved-then-may_burst c =
    let stands = stands-on c.args.params.now c.args.flags.now (reached c.loop-i.at c.loop-i.i c.loop-i.array c.loop-i.registers c.loop-i.counts c.loop-i.room) _ _ c.loop-i.invariant.4 c.turn-at.ensures in
    let carried = c.burst-b.ensures c.args.params.now c.args.flags.now c.turn-at.new.array c.turn-at.new.counts (sym stands ∙ c.if-ok.true) in (
      omega (arith, carried.within, c.loop-i.invariant.1),
      refl,
      c.burst-b.auto.room ∙ c.turn-at.auto.room ∙ c.loop-i.invariant.2,
      record {
        array = c.turn-at.auto.array ∙ c.loop-i.invariant.3.array;
        registers = c.burst-b.auto.registers ∙ c.turn-at.auto.registers ∙ c.loop-i.invariant.3.registers;
        counts = c.turn-at.auto.counts ∙ c.loop-i.invariant.3.counts;
      },
      stands ∙ sym carried.fit,
      carried.rest ∙ turned c.args.params.now c.args.flags.now c.args.records.now c.loop-i.i (reached c.loop-i.at c.loop-i.i c.loop-i.array c.loop-i.registers c.loop-i.counts c.loop-i.room) _ _ (omega (arith, c.loop-i.invariant.1, c.loop-i-test.true)) c.turn-at.ensures c.loop-i.invariant.5,
    )

pub loop-i-preserved : goal.loop-i-preserved
loop-i-preserved c = (
  omega (arith, c.loop-i-test.true),
  refl,
  c.turn-at.auto.room ∙ c.loop-i.invariant.2,
  record {
    array = c.turn-at.auto.array ∙ c.loop-i.invariant.3.array;
    registers = c.turn-at.auto.registers ∙ c.loop-i.invariant.3.registers;
    counts = c.turn-at.auto.counts ∙ c.loop-i.invariant.3.counts;
  },
  stands-on c.args.params.now c.args.flags.now (reached c.loop-i.at c.loop-i.i c.loop-i.array c.loop-i.registers c.loop-i.counts c.loop-i.room) _ _ c.loop-i.invariant.4 c.turn-at.ensures,
  turned c.args.params.now c.args.flags.now c.args.records.now c.loop-i.i (reached c.loop-i.at c.loop-i.i c.loop-i.array c.loop-i.registers c.loop-i.counts c.loop-i.room) _ _ (omega (arith, c.loop-i.invariant.1, c.loop-i-test.true)) c.turn-at.ensures c.loop-i.invariant.5,
)

pub returns : goal.returns
returns c =
    let all : c.loop-i.i ≡ length c.args.records.now / 2 = omega (arith, c.loop-i-test.false, c.loop-i.invariant.0, c.loop-i.invariant.1) in
    let whole : length (events_of c.args.records.now) ≤ c.loop-i.i = omega (arith, events-count c.args.records.now) in
    ap (λ (n : ℕ). reached c.loop-i.at n c.loop-i.array c.loop-i.registers c.loop-i.counts c.loop-i.room) (sym all) ∙ (left-none c.args.params.now c.args.flags.now _ c.loop-i.i whole _ ∙ c.loop-i.invariant.5)
