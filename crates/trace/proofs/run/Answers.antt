-- `trace::run` meets its contract.
use mathlib.Core.Path.{refl, sym, ap, ◌∙◌}
use native.Mathlib.Omega.{arith}
use lib.ListN.{length}
use borrow.Author.Tests.{ltb-false}
use Rattle.std.specs.Prelude.{Ok}
use Rattle.trace.specs.Run.{Running, events_of, stands_usable, odd_answered, needed, start, traced, trace_of}
use Rattle.trace.proofs.Turns.{stands-through, odd-room}
use Rattle.trace.proofs.run.Goals as goal

pub returns-then-too_short : goal.returns-then-too_short
unfolding trace_of
returns-then-too_short c =
    let short = sym c.too_short.ensures ∙ c.if-too_short.true in
    rw short

pub run_records-target-requires-clause-records_in_bounds : goal.run_records-target-requires-clause-records_in_bounds
unfolding needed
run_records-target-requires-clause-records_in_bounds c =
    let enough = ltb-false (length c.args.room.now) (needed (length c.args.records.now)) (sym c.too_short.ensures ∙ c.if-too_short.false) in
    omega (arith, enough)

pub returns : goal.returns
unfolding trace_of stands_usable
returns c =
    let room-left = sym c.too_short.ensures ∙ c.if-too_short.false in
    let params = c.args.params.now in
    let flags = c.args.flags.now in
    let begun = start c.args.t (record { array = c.args.array.now; registers = c.args.registers.now; counts = c.args.counts.now }) c.args.room.now in
    let whole = c.run_records-target.ensures in
    let known = c.usable-ok.ensures ∙ sym (ap (stands_usable params flags) whole ∙ stands-through params flags (events_of c.args.records.now) begun) in
    rw (room-left, c.answer_odd.ensures)
    (odd-room params flags (length c.args.records.now) _ _ refl known ∙ ap (λ (s : Running). traced (Ok tt) (odd_answered params flags (length c.args.records.now) s)) whole)
