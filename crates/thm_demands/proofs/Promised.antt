-- Demand 1 and the soundness of rule 13, as specs/Promises.antt states them.
-- Assumes nothing.
use Rattle.std.specs.Prelude.{Result, Ok, Err}
use mathlib.Core.Path.{◌≡◌, refl, sym, ap, subst, ◌∙◌}
use mathlib.Core.Bool.{Bool, true, false, ◌&&◌, ◌||◌, not, false≢true}
use mathlib.Core.List.{List, [], ◌∷◌}
use mathlib.Core.Logic.{◌⊎◌, inl, inr, ⊎_elim}
use Prim.Native.Nat.{ℕ, zero, suc, ◌+◌, ◌*◌, ◌≤◌}
use native.Mathlib.Omega.{arith}
use lib.ListN.{length, length-replicate}
use lib.Dec.{eqb, ltb, leb}
use borrow.Author.Tests.{not-true, not-false, le-leb}
use Rattle.target.specs.Pick.{pick, or_else}
use Rattle.target.specs.Events.{is_bus, is_reset, bad_record}
use Rattle.target.specs.Luns.{lun_ready, is_unused, all_readied}
use Rattle.target.specs.Numbers.{number_of}
use Rattle.target.specs.Views.{completed, taking, ending, ended_by, ended_with, ends_with}
use Rattle.target.specs.Place.{is_open}
use Rattle.target.specs.Commands.{row_of, first_of, second_of, second_row, clears_register, class_of, offered}
use Rattle.target.specs.Sizes.{sized}
use Rattle.target.specs.declared.Event.{Event}
use Rattle.target.specs.declared.Geometry.{Geometry}
use Rattle.target.specs.declared.Target.{Target}
use Rattle.target.specs.declared.Row.{Row}
use Rattle.target.specs.declared.Column.{Column}
use Rattle.target.specs.declared.Findings.{Findings}
use Rattle.target.specs.declared.First.{First}
use Rattle.target.specs.declared.Second.{Second}
use Rattle.target.specs.declared.Second.TheVariants.{StartRead, StartOutput, StartProgram, StartErase, Move, StartCopyback}
use Rattle.target.specs.declared.commands.Act.{Act}
use Rattle.target.specs.declared.commands.Act.TheVariants as act
use Rattle.target.specs.declared.views.Given.{Given}
use Rattle.target.specs.declared.views.Given.TheVariants as given
use Rattle.target.specs.declared.views.Taker.{Taker}
use Rattle.target.specs.declared.views.Taker.TheVariants as taker
use Rattle.target.specs.declared.Sequence.{Sequence}
use Rattle.target.specs.declared.Sequence.TheVariants.{Idle, Columns, Rows, Single, Due, Filling, Moving, Setting}
use Rattle.target.specs.declared.Output.TheVariants as output
use Rattle.target.specs.declared.Refusal.{Refusal}
use Rattle.target.specs.declared.Refusal.TheVariants as refusal
use Rattle.target.specs.declared.Reply.{Reply}
use Rattle.target.specs.declared.Reply.TheVariants as reply
use Rattle.target.specs.declared.Work.{Work}
use Rattle.target.specs.declared.Work.TheVariants as work
use Rattle.target.proofs.Both.{both, other}
use Rattle.target.proofs.Limits.{limits}
use Rattle.rules.specs.Rules.{rules, verdict, unknown, before_reset, fits, misplaced, others_busy, is_guarded, line_low}
use Rattle.rules.proofs.ByKind.{command-verdict}
use Rattle.rules.proofs.Passed.{all-passed}
use Rattle.effects.specs.Effects.{acted, ended_work, first_work, command_work, address_work, data_work, work_of, target_after, target_refused}
use Rattle.lun_records.specs.LunsAfter.{luns_after}
use Rattle.page.specs.Page.{fields_in_limits}
use Rattle.power.specs.Power.{geometry_of, walked, luns_found, powered_of, unpowered, wrong_length, buffer_bad, power_answer, powering, power_of}
use Rattle.power.specs.declared.PowerRefusal.{PowerRefusal}
use Rattle.power.proofs.Answers.{all-passed as all-power-passed, limited, worded, accepted-limited}
use Rattle.blocks.specs.Blocks.{blank_block, blanks_from, blank_blocks}
use Rattle.step.specs.Usable.{marks_sound, record_sound, usable}
use Rattle.step.specs.Buffers.{array_after, counts_after}
use Rattle.step.specs.Step.{Buffers, Outcome, State, reply_of, worked, accepted_by, accepted, by_verdict, steady, step_of}
use Rattle.thm_kept.proofs.Choice.{by-pick, and-true}
use Rattle.thm_kept.proofs.Marks.{each-mark}
use Rattle.thm_kept.proofs.Kept.{Fit, step-usable, step-steady, all_sound}
use Rattle.thm_demands.specs.Runs.{step_at, left, after, powered_up}
use Rattle.thm_demands.specs.Exact.{rules_of}
use Rattle.thm_demands.proofs.Exact.{by_number, never-13, exact}
use Rattle.thm_demands.specs.Promises.{dropped, RefusedCycle, BadChangesNothing, RefusedBench, RefusedPower, Preserved, LineLow, low_through, LineLowRun, reset, ResetReadies, NeverUnusable}
use Rattle.std.specs.Prelude.{Err, None, Ok, Option, Result, Some}
use Rattle.target.specs.declared.views.Ended.{Ended}

-- two constructors are never equal
apart : ◌≡◌ {A = ℕ} 0 1 → ⊥
apart h = omega arith

module _ (t : Target) (e : Event) (page : List ℕ) (b : Buffers) (flags : List ℕ) where
  -- an accepted event is not answered with a refusal
  not-refused : (r : Refusal) → reply_of t e page b.registers ≡ reply.Refused r → ⊥
  unfolding reply_of
  not-refused r h =
      by-pick (λ (a : Reply). a ≡ reply.Refused r → ⊥) (eqb e.kind 3) (reply.Byte _) reply.Accepted
      (λ _ k. apart (cc))
      (λ _ k. apart (cc))
      h

  -- what a refusal of each kind leaves
  refused-by : (v : Result Unit Refusal) (r : Refusal) → (by_verdict v t e page b flags).reply ≡ reply.Refused r → (v ≡ Err r) × (by_verdict v t e page b flags ≡ record { reply = reply.Refused r; target = target_refused t e; buffers = b })
  unfolding by_verdict accepted accepted_by
  refused-by (Ok tt) r h = absurd (not-refused r h)
  refused-by (Err q) r h =
      let same : q ≡ r = cc in
      (ap Err same, ap (λ (x : Refusal). record { reply = reply.Refused x; target = target_refused t e; buffers = b }) same)

  by-usable : (ok : Bool) (r : Refusal) → (pick ok (steady t e page b flags) (record { reply = reply.Refused refusal.NotUsable; target = t; buffers = b })).reply ≡ reply.Refused r
      → ((ok ≡ true) × (verdict t e ≡ Err r) × (pick ok (steady t e page b flags) (record { reply = reply.Refused refusal.NotUsable; target = t; buffers = b }) ≡ record { reply = reply.Refused r; target = target_refused t e; buffers = b }))
      ⊎ ((r ≡ refusal.NotUsable) × (pick ok (steady t e page b flags) (record { reply = reply.Refused refusal.NotUsable; target = t; buffers = b }) ≡ record { reply = reply.Refused r; target = t; buffers = b }))
  unfolding steady
  by-usable true r h = let p = refused-by (verdict t e) r h in inl (refl, p.0, p.1)
  by-usable false r h =
      let same : refusal.NotUsable ≡ r = cc in
      inr (sym same, ap (λ (x : Refusal). record { reply = reply.Refused x; target = t; buffers = b }) same)

  -- the two ways of a refusal, of the step itself
  refused : (r : Refusal) → (step_of t e page b flags).reply ≡ reply.Refused r
      → ((verdict t e ≡ Err r) × (step_of t e page b flags ≡ record { reply = reply.Refused r; target = target_refused t e; buffers = b }))
      ⊎ ((r ≡ refusal.NotUsable) × (step_of t e page b flags ≡ record { reply = reply.Refused r; target = t; buffers = b }))
  unfolding step_of
  refused r h = ⊎_elim (λ p. inl (p.1, p.2)) (λ p. inr p) (by-usable (usable t (length page) (length b.array) (length b.registers) (length b.counts) (length flags)) r h)

  -- a record that is bad is refused so, whatever else holds
  bad-first : bad_record e ≡ true → verdict t e ≡ Err refusal.BadRecord
  unfolding verdict rules or_else
  bad-first h = rw (h)

  -- the record after a refused bus cycle, a refused bench event, a bad record
  after-cycle : is_bus e ≡ true → bad_record e ≡ false → target_refused t e ≡ dropped t
  unfolding target_refused
  after-cycle h k = rw (h, k)

  after-bench : is_bus e ≡ false → target_refused t e ≡ t
  unfolding target_refused
  after-bench h = rw (h)

  after-bad : bad_record e ≡ true → target_refused t e ≡ t
  unfolding target_refused
  after-bad h = rw (h) (by (is_bus e))
    where
      by : (x : Bool) → ◌≡◌ {A = Target} (record { powered = t.powered; geometry = t.geometry; words = t.words; ids = t.ids; high = t.high; clear = t.clear; seen = t.seen; selected = t.selected; luns = t.luns; decoder = pick (x && false) (record { sequence = Idle; output = output.Nothing; kept = output.Nothing }) t.decoder }) t
      by true = refl
      by false = refl

  good-or-bad : (x : Bool) → bad_record e ≡ x → (bad_record e ≡ true) ⊎ (bad_record e ≡ false)
  good-or-bad true h = inl h
  good-or-bad false h = inr h

  -- only a bad record is refused with 12
  bad-told : (step_of t e page b flags).reply ≡ reply.Refused refusal.BadRecord → bad_record e ≡ true
  unfolding rules_of rules
  bad-told h =
      let ok = usable t (length page) (length b.array) (length b.registers) (length b.counts) (length flags) in
      (both (not (not ok)) (bad_record e) ((exact t e page b flags).only_then refusal.BadRecord h)).1

  -- what a refusal leaves, by what the record after it is
  settled : (r : Refusal) (n : Target) → target_refused t e ≡ n → (r ≡ refusal.NotUsable → t ≡ n) → (step_of t e page b flags).reply ≡ reply.Refused r → step_of t e page b flags ≡ record { reply = reply.Refused r; target = n; buffers = b }
  settled r n same unusable h =
      ⊎_elim
      (λ p. p.1 ∙ ap (λ (x : Target). record { reply = reply.Refused r; target = x; buffers = b }) same)
      (λ p. p.1 ∙ ap (λ (x : Target). record { reply = reply.Refused r; target = x; buffers = b }) (unusable p.0))
      (refused r h)

  -- a refusal of another number than 12 and 13 is not of a bad record
  good-record : (r : Refusal) → (step_of t e page b flags).reply ≡ reply.Refused r → (r ≡ refusal.BadRecord → ⊥) → (r ≡ refusal.NotUsable → ⊥) → bad_record e ≡ false
  good-record r h other usable-too =
      ⊎_elim
      (λ bad. absurd (⊎_elim
      (λ p. let q : Err refusal.BadRecord ≡ Err r = sym (bad-first bad) ∙ p.0 in other (cc))
      (λ p. usable-too p.0)
      (refused r h)))
      (λ good. good)
      (good-or-bad (bad_record e) refl)

pub refused-cycle : RefusedCycle
refused-cycle t e page b flags r bus h other usable-too =
    let not-12 : r ≡ refusal.BadRecord → ⊥ = λ is. other (ap number_of is) in
    let not-13 : r ≡ refusal.NotUsable → ⊥ = λ is. usable-too (ap number_of is) in
    settled t e page b flags r (dropped t)
    (after-cycle t e page b flags bus (good-record t e page b flags r h not-12 not-13))
    (λ is. absurd (not-13 is)) h

pub bad-changes-nothing : BadChangesNothing
bad-changes-nothing t e page b flags r h which =
    ⊎_elim
    (λ (n : number_of r ≡ 12).
    let is = by_number r refusal.BadRecord n in
    settled t e page b flags r t (after-bad t e page b flags (bad-told t e page b flags (h ∙ ap reply.Refused is))) (λ _. refl) h)
    (λ (n : number_of r ≡ 13).
    let is = by_number r refusal.NotUsable n in
    ⊎_elim
    (λ p. absurd (never-13 t e (p.0 ∙ ap Err is)))
    (λ p. p.1)
    (refused t e page b flags r h))
    which

pub refused-bench : RefusedBench
refused-bench t e page b flags r bench h = settled t e page b flags r t (after-bench t e page b flags bench) (λ _. refl) h

pub refused-power : RefusedPower
unfolding power_of
refused-power page device array registers counts flags r h = by (power_answer page (length array) (length registers) counts flags) h
  where
    by : (a : Result Unit PowerRefusal) → (powering a page device registers counts flags).answer ≡ Err r
        → powering a page device registers counts flags ≡ record { answer = Err r; target = unpowered; registers = registers }
    by (Ok tt) k = absurd (apart (cc))
    by (Err q) k = let is : q ≡ r = cc in ap (λ (x : PowerRefusal). record { answer = Err x; target = unpowered; registers = registers }) is

-- small laws of tests
not-both : (a b c : Bool) → a ≡ true → c ≡ false → (a && b && not c) ≡ false → b ≡ false
not-both true true c h k l = absurd (false≢true (sym l ∙ ap not k))
not-both true false c h k l = refl
not-both false b c h k l = absurd (false≢true h)

steady-reply : (t : Target) (e : Event) (page : List ℕ) (b : Buffers) (flags : List ℕ) → (by_verdict (verdict t e) t e page b flags).reply ≡ (steady t e page b flags).reply
unfolding steady
steady-reply t e page b flags = refl

-- The protect line.

-- work that is neither a program nor an erase
abbrev spares : Work → Bool
spares work.Nothing = true
spares work.ClearAll = true
spares (work.ClearOne l) = true
spares (work.Load r) = true
spares (work.Put l c v) = true
spares (work.Program r) = false
spares (work.Erase r) = false

spared : (g : Geometry) (w : Work) (b : Buffers) → spares w ≡ true → Preserved b (worked g w b)
unfolding worked array_after counts_after
spared g work.Nothing b h = record { array = refl; counts = refl }
spared g work.ClearAll b h = record { array = refl; counts = refl }
spared g (work.ClearOne l) b h = record { array = refl; counts = refl }
spared g (work.Load r) b h = record { array = refl; counts = refl }
spared g (work.Put l c v) b h = record { array = refl; counts = refl }
spared g (work.Program r) b h = absurd (false≢true h)
spared g (work.Erase r) b h = absurd (false≢true h)

spares-pick : (x : Bool) (w v : Work) → (x ≡ true → spares w ≡ true) → (x ≡ false → spares v ≡ true) → spares (pick x w v) ≡ true
spares-pick x w v h k = by-pick (λ (z : Work). spares z ≡ true) x w v h k

-- a second command that rule 7 does not guard neither programs nor erases
abbrev spares_act : Act → Bool
spares_act act.Nothing = true
spares_act act.Load = true
spares_act act.Program = false
spares_act act.Erase = false
spares_act act.Move = true

unguarded : (s : Second) → (second_row s).guarded ≡ false → spares_act (second_row s).act ≡ true
unfolding second_row
unguarded StartRead h = refl
unguarded StartOutput h = refl
unguarded StartProgram h = absurd (false≢true (sym h))
unguarded StartErase h = absurd (false≢true (sym h))
unguarded Move h = refl
unguarded StartCopyback h = refl

acted-spares : (a : Act) (r : Row) (found : Findings) → spares_act a ≡ true → spares (acted a r found) ≡ true
acted-spares act.Nothing r found h = refl
acted-spares act.Load r found h = refl
acted-spares act.Program r found h = absurd (false≢true h)
acted-spares act.Erase r found h = absurd (false≢true h)
acted-spares act.Move r found h = refl

found-spares : (k : Option Second) (f : First) (c : Column) (r : Row) (found : Findings) → is_guarded k ≡ false → spares (ended_work (ended_with k f c r) found) ≡ true
found-spares None f c r found h = refl
found-spares (Some s) f c r found h = acted-spares (second_row s).act r found (unguarded s h)

ended-pick : (x : Bool) (k : Option Ended) (found : Findings) → spares (ended_work k found) ≡ true → spares (ended_work (pick x k None) found) ≡ true
ended-pick true k found h = h
ended-pick false k found h = refl

ending-spares : (s : Sequence) (v : ℕ) (found : Findings) → is_guarded (second_of v) ≡ false → spares (ended_work (ending s v) found) ≡ true
ending-spares Idle v found h = refl
ending-spares (Columns k) v found h = refl
ending-spares (Rows k) v found h = refl
ending-spares (Single f) v found h = refl
ending-spares (Due k) v found h =
    ended-pick (ends_with k.first v) (ended_by v k.first k.column k.row) found (found-spares (second_of v) k.first k.column k.row found h)
ending-spares (Filling k) v found h =
    ended-pick (eqb v 0x10 || eqb v 0x85) (ended_by v k.first k.at k.row) found (found-spares (second_of v) k.first k.at k.row found h)
ending-spares (Moving k) v found h = refl
ending-spares (Setting k) v found h = refl

first-spares : (clear : Bool) (k : Option First) → spares (first_work clear k) ≡ true
first-spares clear None = refl
first-spares clear (Some f) = spares-pick (clears_register f && not clear) work.ClearAll work.Nothing (λ _. refl) (λ _. refl)

address-spares : (g : Geometry) (clear : Bool) (k : Option Given) → spares (address_work g clear k) ≡ true
address-spares g clear None = refl
address-spares g clear (Some (given.Column k)) = refl
address-spares g clear (Some (given.Row k)) = spares-pick (clears_register k.first && clear) _ work.Nothing (λ _. refl) (λ _. refl)
address-spares g clear (Some (given.Single k)) = refl

data-spares : (g : Geometry) (k : Option Taker) (v : ℕ) → spares (data_work g k v) ≡ true
data-spares g None v = refl
data-spares g (Some (taker.Program k)) v = refl
data-spares g (Some (taker.Feature k)) v = refl

-- a command that is accepted with the line low is none that rule 7 guards
low-command : (t : Target) (e : Event) → verdict t e ≡ Ok tt → eqb e.kind 0 ≡ true → t.high ≡ false → is_guarded (second_of e.value) ≡ false
unfolding line_low
low-command t e h k low = not-both (eqb e.kind 0) (is_guarded (second_of e.value)) t.high k low (all-passed t e h).rule-7

low-spares : (t : Target) (e : Event) (found : Findings) → verdict t e ≡ Ok tt → t.high ≡ false → spares (work_of t.geometry t.clear t.decoder.sequence e found) ≡ true
unfolding work_of
low-spares t e found h low =
    let g = t.geometry in
    let s = t.decoder.sequence in
    let v = e.value in
    let w2 = pick (eqb e.kind 2) (data_work g (taking s) v) work.Nothing in
    let w1 = pick (eqb e.kind 1) (address_work g t.clear (completed s v)) w2 in
    let w0 = pick (eqb e.kind 0) (command_work t.clear s v found) w1 in
    spares-pick (is_reset e) work.ClearAll w0 (λ _. refl)
    (λ _. spares-pick (eqb e.kind 0) (command_work t.clear s v found) w1
    (λ is. spares-pick (is_open s) (ended_work (ending s v) found) (first_work t.clear (first_of v)) (λ _. ending-spares s v found (low-command t e h is low)) (λ _. first-spares t.clear (first_of v)))
    (λ _. spares-pick (eqb e.kind 1) (address_work g t.clear (completed s v)) w2 (λ _. address-spares g t.clear (completed s v))
    (λ _. spares-pick (eqb e.kind 2) (data_work g (taking s) v) work.Nothing (λ _. data-spares g (taking s) v) (λ _. refl))))

same-buffers : (b : Buffers) → Preserved b b
same-buffers b = record { array = refl; counts = refl }

module _ (t : Target) (e : Event) (page : List ℕ) (b : Buffers) (flags : List ℕ) (low : t.high ≡ false) where
  low-verdict : (v : Result Unit Refusal) → verdict t e ≡ v → Preserved b (by_verdict v t e page b flags).buffers
  unfolding by_verdict accepted accepted_by
  low-verdict (Ok tt) h = spared t.geometry _ b (low-spares t e _ h low)
  low-verdict (Err r) h = same-buffers b

  low_step : (ok : Bool) → Preserved b (pick ok (steady t e page b flags) (record { reply = reply.Refused refusal.NotUsable; target = t; buffers = b })).buffers
  unfolding steady
  low_step true = low-verdict (verdict t e) refl
  low_step false = same-buffers b

pub line_low_lem : LineLow
unfolding step_of
line_low_lem t e page b flags low = low_step t e page b flags low (usable t (length page) (length b.array) (length b.registers) (length b.counts) (length flags))

pub line-low-run : LineLowRun
unfolding after low_through
line-low-run page flags [] s h = same-buffers s.buffers
line-low-run page flags (e ∷ es) s h =
    let p = both (not s.target.high) _ h in
    let one = line_low_lem s.target e page s.buffers flags (not-true s.target.high p.0) in
    let rest = line-low-run page flags es (left (step_at page flags s e)) p.1 in
    record { array = rest.array ∙ one.array; counts = rest.counts ∙ one.counts }

-- Runs from an accepted power-on.

-- the walk finds no more blank blocks than it passes
pub blanks-few : (g : Geometry) (first n : ℕ) (counts flags : List ℕ) → blanks_from g first n counts flags ≤ n
blanks-few g first zero counts flags = omega arith
blanks-few g first (suc n) counts flags =
    let one : pick (blank_block g (first + n) counts flags) 1 0 ≤ 1 =
    by-pick (λ (m : ℕ). m ≤ 1) (blank_block g (first + n) counts flags) 1 0 (λ _. omega arith) (λ _. omega arith) in
    omega (arith, one, blanks-few g first n counts flags)

-- so each LUN is found as rule 13 asks
found_within : (g : Geometry) (l : ℕ) (counts flags : List ℕ) (there : Bool)
    → pick there (leb (pick there (blank_blocks g l counts flags) 0) g.blocks)
    (is_unused (lun_ready (pick there (blank_blocks g l counts flags) 0))) ≡ true
unfolding blank_blocks
found_within g l counts flags true = le-leb _ _ (blanks-few g (l * g.blocks) g.blocks counts flags)
found_within g l counts flags false = refl

found-sound : (g : Geometry) (counts flags : List ℕ) → marks_sound g (luns_found g counts flags) ≡ true
unfolding walked
found-sound g counts flags =
    let each : (l : ℕ) → _ = λ l. found_within g l counts flags (ltb l g.luns) in
    each-mark g (luns_found g counts flags) (each 0) (each 1) (each 2) (each 3)

powered-sound : (page : List ℕ) (device : ℕ) (counts flags : List ℕ) → fields_in_limits page ≡ true
    → record_sound (powered_of page device counts flags) ≡ true
unfolding powered_of
powered-sound page device counts flags h =
    let fine = limited page h in
    let m = limits (geometry_of page) fine in
    all_sound _ refl fine (worded page h) m.luns-min (found-sound (geometry_of page) counts flags) refl refl refl

module _ (page : List ℕ) (device : ℕ) (array registers counts flags : List ℕ) (on : power_answer page (length array) (length registers) counts flags ≡ Ok tt) where
  pub powered-fit : Fit (powered_up page device array registers counts flags).target page (powered_up page device array registers counts flags).buffers flags
  unfolding usable wrong_length buffer_bad powered_of
  powered-fit =
      let p = all-power-passed page (length array) (length registers) counts flags on in
      let long : eqb (length page) 256 ≡ true = not-false _ p.right-length in
      let fits = not-false (sized (geometry_of page) (length array) (length registers) (length counts) (length flags)) p.buffers in
      and-true (record_sound (powered_of page device counts flags)) _ (powered-sound page device counts flags (accepted-limited page (length array) (length registers) counts flags on))
      (and-true (eqb (length page) 256) _ long (rw (length-replicate) fits))

  pub run-fit : (es : List Event) (s : State) → Fit s.target page s.buffers flags → Fit (after page flags es s).target page (after page flags es s).buffers flags
  unfolding after
  run-fit [] s h = h
  run-fit (e ∷ es) s h = run-fit es (left (step_at page flags s e)) (step-usable s.target e page s.buffers flags h)

and_none : (b : Bool) → (b && false) ≡ false
and_none true = refl
and_none false = refl

pub reset-verdict : (t : Target) → verdict t reset ≡ Ok tt
unfolding or_else before_reset unknown row_of first_of second_of second_row class_of offered misplaced fits others_busy line_low
reset-verdict t = command-verdict t 0xff ∙ rw (and_none (is_open t.decoder.sequence))

reset-steady : (s : State) (page flags : List ℕ) → ((steady s.target reset page s.buffers flags).reply ≡ reply.Accepted) × ((steady s.target reset page s.buffers flags).target.luns ≡ all_readied s.target.luns)
unfolding steady by_verdict accepted accepted_by reply_of target_after luns_after
reset-steady s page flags = rw (reset-verdict s.target) (refl, refl)

pub reset-readies : ResetReadies
reset-readies page device array registers counts flags on es s at =
    let fit = subst (λ (x : State). Fit x.target page x.buffers flags) (sym at) (run-fit page device array registers counts flags on es _ (powered-fit page device array registers counts flags on)) in
    rw (step-steady s.target reset page s.buffers flags fit) (reset-steady s page flags)

pub never-unusable : NeverUnusable
never-unusable page device array registers counts flags on es e s at r h n =
    let fit = subst (λ (x : State). Fit x.target page x.buffers flags) (sym at) (run-fit page device array registers counts flags on es _ (powered-fit page device array registers counts flags on)) in
    let told = sym (ap (λ (o : Outcome). o.reply) (step-steady s.target e page s.buffers flags fit)) ∙ h ∙ ap reply.Refused (by_number r refusal.NotUsable n) in
    never-13 s.target e (refused-by s.target e page s.buffers flags (verdict s.target e) refusal.NotUsable (steady-reply s.target e page s.buffers flags ∙ told)).0
