-- `nib_told::lines::in_program`: the record before the place, by whether it is a command.
use Rattle.std.proofs.Common.{◌≡◌, suc, ◌-◌, sym, ◌∙◌, arith}
use borrow.Author.Tests.{ne_eqb}
use Rattle.nib_told.proofs.Programs.{behind-start, behind-command, behind-other}
use Rattle.nib_told.proofs.lines.in_program.Goals as goal

pub returns-then-value : goal.returns-then-value
returns-then-value c =
    let i = c.loop-i.i in
    let e : i ≡ suc (i - 1) = omega arith in
    let found = behind-command c.args.trace.now i (i - 1) e (sym c.byte_at.ensures ∙ c.if-byte_at-eq0.true) in
    rw (c.loop-i.invariant, found, ← c.byte_at-value.ensures, c.if-value.true)

pub returns-else-value : goal.returns-else-value
returns-else-value c =
    let i = c.loop-i.i in
    let e : i ≡ suc (i - 1) = omega arith in
    let found = behind-command c.args.trace.now i (i - 1) e (sym c.byte_at.ensures ∙ c.if-byte_at-eq0.true) in
    rw (c.loop-i.invariant, found, ← c.byte_at-value.ensures, ne_eqb _ _ c.if-value.false)

pub loop-i-preserved : goal.loop-i-preserved
loop-i-preserved c =
    let i = c.loop-i.i in
    let e : i ≡ suc (i - 1) = omega arith in
    c.loop-i.invariant ∙ behind-other c.args.trace.now i (i - 1) e (λ h. c.if-byte_at-eq0.false (c.byte_at.ensures ∙ h))

pub returns : goal.returns
returns c = sym (c.loop-i.invariant ∙ behind-start c.args.trace.now c.loop-i.i (omega arith))
