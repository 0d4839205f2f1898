-- Each number of a sequence that rule 13 lets pass: the cycles that give it.
-- Assumes nothing.
use mathlib.Core.Path.{◌≡◌, refl, sym, ap, ◌∙◌, subst}
use mathlib.Core.List.{List, [], ◌∷◌}
use lib.ListN.{set}
use mathlib.Core.Bool.{Bool, true, false, ◌&&◌, ◌||◌, not, false≢true}
use Prim.Native.Nat.{ℕ, zero, suc, ◌/◌, ◌%◌, ◌≤◌, ◌<◌}
use native.Mathlib.Omega.{arith}
use lib.Dec.{eqb, ltb, leb}
use borrow.Author.Tests.{ltb-true, leb-true, lt-ltb, lt-leb, eqb-true}
use Rattle.target.specs.Pick.{pick, or_else}
use Rattle.target.specs.Address.{lun_of, row_exists}
use Rattle.target.specs.Sizes.{page_size, column_end}
use Rattle.target.specs.Words.{bit_of, has_feature}
use Rattle.target.specs.Commands.{row_of, byte_of, first_of, second_of, second_row, cycles_of, then_of, takes_column, takes_row, waits_second, looks_of, takes_program_data, closes_copyback, needs_copyback, gives_status, in_page, knows_address}
use Rattle.target.specs.Luns.{lun_at, lun_begun, lun_finished, lun_closed, works, blank_at, copyback_at}
use Rattle.target.specs.Views.{completed}
use Rattle.target.specs.Place.{is_page, shows_status, first_here}
use Rattle.target.specs.declared.Column.{Column}
use Rattle.target.specs.declared.Row.{Row}
use Rattle.target.specs.declared.Geometry.{Geometry}
use Rattle.target.specs.declared.Target.{Target}
use Rattle.target.specs.declared.Findings.{Findings}
use Rattle.target.specs.declared.First.{First}
use Rattle.target.specs.declared.Lun.{Lun}
use Rattle.target.specs.declared.First.TheVariants.{Read, ParameterPage, SetFeatures, ChangeColumnInPage}
use Rattle.target.specs.declared.ColumnCycles.{ColumnCycles}
use Rattle.target.specs.declared.RowCycles.{RowCycles}
use Rattle.target.specs.declared.Wait.{Wait}
use Rattle.target.specs.declared.Fill.{Fill}
use Rattle.target.specs.declared.Moved.{Moved}
use Rattle.target.specs.declared.FeatureBytes.{FeatureBytes}
use Rattle.target.specs.declared.Sequence.{Sequence}
use Rattle.target.specs.declared.Sequence.TheVariants.{Idle, Columns, Rows, Single, Due, Filling, Moving, Setting}
use Rattle.target.specs.declared.Output.{Output}
use Rattle.target.specs.declared.Output.TheVariants as output
use Rattle.target.specs.declared.commands.Looks.{Looks}
use Rattle.target.specs.declared.commands.Looks.TheVariants as looks
use Rattle.target.specs.declared.views.Given.{Given}
use Rattle.target.specs.declared.views.Given.TheVariants as given
use Rattle.target.specs.declared.commands.Then.{Then}
use Rattle.target.specs.declared.commands.Then.TheVariants as then
use Rattle.target.proofs.Both.{both, both3}
use Rattle.target.proofs.Firsts.{named}
use Rattle.target.proofs.Limits.{Limits, limits}
use Rattle.rules.specs.Rules.{exists, row_fits, beyond, lacks_copyback, not_working}
use Rattle.rules.specs.Rules as rules
use Rattle.rules.proofs.ByKind.{event, finish-verdict}
use Rattle.effects.specs.Effects.{started, opened, column_given, followed, shown, sequence_after, first_output, output_after, selected_after, clear_after, high_after, target_after}
use Rattle.memory.specs.Memory.{first_kept, kept_after}
use Rattle.lun_records.specs.LunsAfter.{addressed_luns, luns_after}
use Rattle.step.specs.Usable.{column_held, row_held, sequence_sound}
use Rattle.step.specs.Buffers.{findings}
use Rattle.blocks.proofs.Places.{row-lun}
use Rattle.thm_kept.proofs.Choice.{by-pick}
use Rattle.thm_kept.proofs.Commands.{looks_at_page, data-outside}
use Rattle.thm_kept.proofs.Views.{row_named}
use Rattle.thm_tight.specs.Tight.{Stands, SequenceGiven, BytesHeld}
use Rattle.thm_tight.proofs.Part.{Fine}
use Rattle.thm_tight.proofs.Ways.{Way, onward, to_end, reached}
use Rattle.thm_tight.proofs.Commands.{every, addresses, no_output, waits-some, waits-plain, waits-then, data-shape, data-then, data-silent, needs-only, page-only}
use Rattle.thm_tight.proofs.Cycles.{Calm, Unasked, copying, moving, second, full, keeping, standing, ready_luns, stand, resting, and_no, works-not, still, command, address, data-in}
use Rattle.thm_tight.proofs.Addresses.{column-bytes, row-bytes, row_small}
use Rattle.std.specs.Prelude.{Ok, Option, Some}

-- The sequences on the way, each written out once.

abbrev columns : First → ℕ → ℕ → ColumnCycles
columns f got low = record { first = f; got = got; low = low }

abbrev rows : First → Column → ℕ → ℕ → ℕ → RowCycles
rows f c got low mid = record { first = f; column = c; got = got; low = low; mid = mid }

abbrev pub filling-at : First → Row → Column → Fill
filling-at f r c = record { first = f; row = r; at = c }

abbrev moved_to : First → Row → ℕ → ℕ → Moved
moved_to f r got low = record { first = f; row = r; got = got; low = low }

abbrev pub setting : ℕ → ℕ → FeatureBytes
setting got value = record { got = got; value = value }

zero-column : (c : Column) → eqb c.0 0 ≡ true → record { 0 = 0 } ≡ c
zero-column c h =
    let none : 0 ≡ c.0 = sym (eqb-true c.0 0 h) in
    λ i. record { 0 = none i }

zero_row : (r : Row) → eqb r.0 0 ≡ true → record { 0 = 0 } ≡ r
zero_row r h =
    let none : 0 ≡ r.0 = sym (eqb-true r.0 0 h) in
    λ i. record { 0 = none i }

-- one of three tests
first-of : (a b c : Bool) → a ≡ true → (a || b || c) ≡ true
first-of a b c h = rw (h)

second-of : (a b c : Bool) → b ≡ true → (a || b || c) ≡ true
second-of true b c h = refl
second-of false b c h = rw (h)

third_of : (a b c : Bool) → c ≡ true → (a || b || c) ≡ true
third_of true b c h = refl
third_of false true c h = refl
third_of false false c h = h

first_one : (a b : Bool) → (a || b) ≡ true → b ≡ false → a ≡ true
first_one true b h e = refl
first_one false b h e = absurd (false≢true (sym e ∙ h))

-- a feature byte of 0 or 40h
takes-clear : has_feature every 8 ≡ true
unfolding bit_of
takes-clear = refl

offered-value : (a b c : Bool) → (a || b) ≡ true → c ≡ true → not (a || true && b && c) ≡ false
offered-value true b c h k = refl
offered-value false b c h k = rw (h, k)

small-value : (v : ℕ) → (eqb v 0 || eqb v 0x40) ≡ true → v ≤ 255
small-value v h = by (eqb v 0) refl h
  where
    by : (b : Bool) → eqb v 0 ≡ b → (b || eqb v 0x40) ≡ true → v ≤ 255
    by true e k = omega (arith, eqb-true v 0 e)
    by false e k = omega (arith, eqb-true v 0x40 k)

moved : (g : Geometry) (luns : List Lun) (selected : ℕ) (k : Fill) (found : Findings) → target_after (standing g luns selected (Filling k) output.Nothing) (event 0 0x85) found ≡ standing g luns selected (Moving (moved_to k.first k.row 0 0)) output.Nothing
unfolding target_after high_after clear_after selected_after luns_after sequence_after output_after kept_after second_of second_row
moved g luns selected k found = refl

-- the attributes of EFh and of ECh
features-is : (eqb (cycles_of SetFeatures) 1 ≡ true) × (then_of SetFeatures ≡ then.FeatureIn) × (knows_address SetFeatures 0x01 ≡ true)
unfolding row_of
features-is = (refl, refl, refl)

page-is : (eqb (cycles_of ParameterPage) 1 ≡ true) × (then_of ParameterPage ≡ then.ParameterPage) × (knows_address ParameterPage 0x00 ≡ true) × (in_page ParameterPage ≡ false)
unfolding row_of
page-is = (refl, refl, refl, refl)

-- the attributes of 00h
read-shape : (takes_column Read ≡ true) × (takes_row Read ≡ true) × (then_of Read ≡ then.Second) × (needs_copyback Read ≡ false) × (in_page Read ≡ false)
unfolding row_of
read-shape = (refl, refl, refl, refl, refl)

read_fits : (g : Geometry) (r : Row) → row_exists g r ≡ true → row_fits g Read r ≡ true
unfolding row_of
read_fits g r h = h

-- a row whose page is looked at fits where it exists
page-fits : (g : Geometry) (f : First) (r : Row) → looks_at_page (looks_of f) ≡ true → row_exists g r ≡ true → row_fits g f r ≡ true
page-fits g f r h there = by (looks_of f) h
  where
    by : (l : Looks) → looks_at_page l ≡ true → exists g l r ≡ true
    by looks.Nothing k = absurd (false≢true k)
    by looks.Lun k = absurd (false≢true k)
    by looks.Block k = absurd (false≢true k)
    by looks.Page k = there

-- 35h: the LUN works, and its copyback is open
abbrev copying_at : Geometry → ℕ → ℕ → List Lun
copying_at g bad l = set (ready_luns g bad) l (lun_begun (lun_at (ready_luns g bad) l) false true false (blank_at (ready_luns g bad) l))

abbrev copied_at : Geometry → ℕ → ℕ → List Lun
copied_at g bad l = set (copying_at g bad l) l (lun_finished (lun_at (copying_at g bad l) l))

copying-left : (g : Geometry) (bad l : ℕ) (r : Row) (counts flags : List ℕ)
    → target_after (stand g bad l (Due (record { first = Read; column = record { 0 = 0 }; row = r })) output.Nothing) (event 0 0x35)
    (findings g (stand g bad l Idle output.Nothing).words (Due (record { first = Read; column = record { 0 = 0 }; row = r })) (event 0 0x35) counts flags)
    ≡ standing g (copying_at g bad (lun_of g r)) l Idle (output.Register (lun_of g r) (record { 0 = 0 }))
unfolding target_after high_after clear_after selected_after luns_after sequence_after output_after kept_after findings row_of second_of second_row
copying-left g bad l r counts flags = refl

-- its finish event
finish-accepted : (g : Geometry) (l : ℕ) (luns : List Lun) (o : Output) → l < g.luns → works luns l ≡ true → rules.verdict (standing g luns l Idle o) (event 4 l) ≡ (Ok tt)
unfolding or_else not_working
finish-accepted g l luns o h k = finish-verdict (standing g luns l Idle o) l ∙ rw (lt-ltb l g.luns h, k)

finish-left : (g : Geometry) (l : ℕ) (luns : List Lun) (o : Output) (found : Findings)
    → target_after (standing g luns l Idle o) (event 4 l) found ≡ standing g (set luns l (lun_finished (lun_at luns l))) l Idle o
unfolding target_after high_after clear_after selected_after luns_after sequence_after output_after kept_after
finish-left g l luns o found = refl

-- each of the four LUNs
copying-works : (g : Geometry) (bad l : ℕ) → l < 4 → works (copying_at g bad l) l ≡ true
copying-works g bad zero h = refl
copying-works g bad (suc zero) h = refl
copying-works g bad (suc (suc zero)) h = refl
copying-works g bad (suc (suc (suc zero))) h = refl
copying-works g bad (suc (suc (suc (suc l)))) h = absurd (omega arith)

copied-mark : (g : Geometry) (bad l : ℕ) → l < 4 → copyback_at (copied_at g bad l) l ≡ true
copied-mark g bad zero h = refl
copied-mark g bad (suc zero) h = refl
copied-mark g bad (suc (suc zero)) h = refl
copied-mark g bad (suc (suc (suc zero))) h = refl
copied-mark g bad (suc (suc (suc (suc l)))) h = absurd (omega arith)

four-calm : (a b c d : Lun) → a.working ≡ false → b.working ≡ false → c.working ≡ false → d.working ≡ false → Calm (a ∷ b ∷ c ∷ d ∷ [])
four-calm a b c d p q r s zero = p
four-calm a b c d p q r s (suc zero) = q
four-calm a b c d p q r s (suc (suc zero)) = r
four-calm a b c d p q r s (suc (suc (suc zero))) = s
four-calm a b c d p q r s (suc (suc (suc (suc l)))) = refl

pub copied-calm : (g : Geometry) (bad l : ℕ) → l < 4 → Calm (copied_at g bad l)
copied-calm g bad zero h = four-calm _ _ _ _ refl refl refl refl
copied-calm g bad (suc zero) h = four-calm _ _ _ _ refl refl refl refl
copied-calm g bad (suc (suc zero)) h = four-calm _ _ _ _ refl refl refl refl
copied-calm g bad (suc (suc (suc zero))) h = four-calm _ _ _ _ refl refl refl refl
copied-calm g bad (suc (suc (suc (suc l)))) h = absurd (omega arith)

-- Where the cycles of a first command start.

-- where no parameter page is open a byte is the command that the list names first
plain_here : (o : Output) (f : First) → is_page o ≡ false → in_page f ≡ false → first_here (resting o) (byte_of f) ≡ Some f
plain_here o f none h = rw (none, and_no (eqb (byte_of f) 0x05)) (named f h)

plain-silent : (selected : ℕ) (f : First) → in_page f ≡ false → addresses f ≡ true → first_output selected (first_of (byte_of f)) ≡ output.Nothing
plain-silent selected f h k = ap (first_output selected) (named f h) ∙ no_output f selected k

-- only a status keeps the output that it ends
abbrev Empty : Output → Type 0
Empty o = o ≡ output.Nothing

plain-lost : (o : Output) (f : First) → (gives_status f ≡ true → Empty o) → in_page f ≡ false → Empty (first_kept (resting o) (first_of (byte_of f)))
plain-lost o f none h = ap (first_kept (resting o)) (named f h) ∙ lost
  where
    lost : Empty (first_kept (resting o) (Some f))
    lost =
        by-pick Empty (gives_status f) _ _ (λ is. by-pick Empty (shows_status o) _ _ (λ _. refl) (λ _. none is))
        (λ _. by-pick Empty (eqb (byte_of f) 0x00 && shows_status o) _ _ (λ _. refl) (λ _. refl))

-- 05h with the page open
page-here : first_here (resting (output.Parameters 0)) (byte_of ChangeColumnInPage) ≡ Some ChangeColumnInPage
unfolding row_of first_of
page-here = refl

page-silent : (selected : ℕ) → first_output selected (first_of (byte_of ChangeColumnInPage)) ≡ output.Nothing
unfolding row_of first_of
page-silent selected = refl

page-lost : first_kept (resting (output.Parameters 0)) (first_of (byte_of ChangeColumnInPage)) ≡ output.Nothing
unfolding row_of first_of
page-lost = refl

-- the output that stands open where a command's cycles start: for 05h within the parameter page the page, else none
abbrev before : Bool → Output
before page = pick page (output.Parameters 0) output.Nothing

pub before_here : (f : First) (b : Bool) → in_page f ≡ b → first_here (resting (before b)) (byte_of f) ≡ Some f
before_here f true h = subst (λ (x : First). first_here (resting (output.Parameters 0)) (byte_of x) ≡ Some x) (sym (page-only f h)) page-here
before_here f false h = plain_here output.Nothing f refl h

pub before-silent : (f : First) (b : Bool) → in_page f ≡ b → addresses f ≡ true → first_output 0 (first_of (byte_of f)) ≡ output.Nothing
before-silent f true h k = subst (λ (x : First). first_output 0 (first_of (byte_of x)) ≡ output.Nothing) (sym (page-only f h)) (page-silent 0)
before-silent f false h k = plain-silent 0 f h k

pub before-lost : (f : First) (b : Bool) → in_page f ≡ b → first_kept (resting (before b)) (first_of (byte_of f)) ≡ output.Nothing
before-lost f true h = subst (λ (x : First). first_kept (resting (output.Parameters 0)) (first_of (byte_of x)) ≡ output.Nothing) (sym (page-only f h)) page-lost
before-lost f false h = plain-lost output.Nothing f (λ _. refl) h

-- after FFh, no sequence open, no LUN working, and the command's byte is that command there; it ends the output, and keeps none
pub record Base (g : Geometry) (bad : ℕ) (f : First) : Type 0 where
  pub luns : List Lun
  pub calm : Calm luns
  pub selected : ℕ
  pub shows : Output
  pub way : Way (full g bad) (standing g luns selected Idle shows)
  pub here : first_here (resting shows) (byte_of f) ≡ Some f
  pub silent : addresses f ≡ true → first_output selected (first_of (byte_of f)) ≡ output.Nothing
  pub lost : first_kept (resting shows) (first_of (byte_of f)) ≡ output.Nothing

-- the row that an address completes
abbrev rowed : First → Row → Option Given
rowed f r = Some (given.Row (record { first = f; row = r }))

-- with every LUN as FFh leaves it no row closes a copyback
closed-ready : (g : Geometry) (bad l : ℕ) → set (ready_luns g bad) l (lun_closed (lun_at (ready_luns g bad) l)) ≡ ready_luns g bad
closed-ready g bad zero = refl
closed-ready g bad (suc zero) = refl
closed-ready g bad (suc (suc zero)) = refl
closed-ready g bad (suc (suc (suc zero))) = refl
closed-ready g bad (suc (suc (suc (suc l)))) = refl

pub ready-free : (g : Geometry) (bad : ℕ) (f : First) (r : Row) → needs_copyback f ≡ false → Unasked g (ready_luns g bad) (rowed f r)
ready-free g bad f r h = record {
  lacks = rw (h);
  closes = by-pick (λ (x : List Lun). x ≡ ready_luns g bad) (closes_copyback f) _ _ (λ _. closed-ready g bad (lun_of g r)) (λ _. refl);
}

module _ (g : Geometry) (bad : ℕ) (fine : Fine (full g bad)) where
  pub m : Limits g
  m = limits g fine.limited

  abbrev first-base : (f : First) → in_page f ≡ false → Base g bad f
  first-base f h = record {
    luns = ready_luns g bad;
    calm = works-not g bad;
    selected = 0;
    shows = output.Nothing;
    way = still g bad fine;
    here = plain_here output.Nothing f refl h;
    silent = plain-silent 0 f h;
    lost = plain-lost output.Nothing f (λ _. refl) h;
  }

module _ (g : Geometry) (bad : ℕ) (fine : Fine (full g bad)) (f : First) (base : Base g bad f) where
  -- a way to a sequence with no output
  abbrev To : ℕ → Sequence → Type 0
  To selected s = Way (full g bad) (standing g base.luns selected s output.Nothing)

  abbrev from : ℕ
  from = base.selected

  arrive : (s : Sequence) → started f ≡ s → addresses f ≡ true → To from s
  arrive s e h =
      subst (λ (o : Output). Way (full g bad) (keeping g base.luns from s o output.Nothing)) (base.silent h)
      (subst (λ (o : Output). Way (full g bad) (keeping g base.luns from s (first_output from (first_of (byte_of f))) o)) base.lost
      (subst (λ (x : Sequence). Way (full g bad) (keeping g base.luns from x (first_output from (first_of (byte_of f))) (first_kept (resting base.shows) (first_of (byte_of f))))) (ap opened base.here ∙ e)
      (command g bad fine base.luns base.calm from base.shows base.way f)))

  abbrev unasked : {k : Option Given} → lacks_copyback g base.luns k ≡ false → addressed_luns g base.luns k ≡ base.luns → Unasked g base.luns k
  unasked p q = record { lacks = p; closes = q }

  -- The column's cycles.

  column-none : takes_column f ≡ true → To from (Columns (columns f 0 0))
  column-none h = arrive (Columns (columns f 0 0)) (rw (h)) (first-of (takes_column f) (takes_row f) (eqb (cycles_of f) 1) h)

  column-low : takes_column f ≡ true → (v : ℕ) → v ≤ 255 → To from (Columns (columns f 1 v))
  column-low h v small = address g bad fine base.luns base.calm from (Columns (columns f 0 0)) output.Nothing v small refl refl (unasked refl refl) (column-none h)

  -- its end is one that two bytes reach
  end-small : column_end g (in_page f) ≤ 65536
  end-small = let most = (m g bad fine).page-max in by-pick (λ (n : ℕ). n ≤ 65536) (in_page f) 768 (page_size g) (λ _. omega arith) (λ _. omega arith)

  column-whole : takes_column f ≡ true → (c : Column) → c.0 < column_end g (in_page f) → To from (column_given f c)
  column-whole h c below =
      let most = end-small in
      let end = column_end g (in_page f) in
      subst (λ (x : Column). To from (column_given f x)) (column-bytes c)
      (address g bad fine base.luns base.calm from (Columns (columns f 1 (c.0 % 256))) output.Nothing (c.0 / 256) (omega arith) refl
      (ap (λ (x : Column). leb end x.0) (column-bytes c) ∙ lt-leb end c.0 below)
      (unasked refl refl)
      (column-low h (c.0 % 256) (omega arith)))

  -- The row's.

  row-none : takes_row f ≡ true → (c : Column) → column_held g f c ≡ true → To from (Rows (rows f c 0 0 0))
  row-none h c k = by (takes_column f) refl k
    where
      by : (b : Bool) → takes_column f ≡ b → pick b (ltb c.0 (column_end g (in_page f))) (eqb c.0 0) ≡ true → To from (Rows (rows f c 0 0 0))
      by true e l =
          let next : column_given f c ≡ Rows (rows f c 0 0 0) = rw (h) in
          subst (To from) next (column-whole e c (ltb-true _ _ l))
      by false e l =
          subst (λ (x : Column). To from (Rows (rows f x 0 0 0))) (zero-column c l)
          (arrive (Rows (rows f (record { 0 = 0 }) 0 0 0)) (rw (e, h)) (second-of (takes_column f) (takes_row f) (eqb (cycles_of f) 1) h))

  module _ (h : takes_row f ≡ true) (c : Column) (k : column_held g f c ≡ true) where
    row_low : (v : ℕ) → v ≤ 255 → To from (Rows (rows f c 1 v 0))
    row_low v small = address g bad fine base.luns base.calm from (Rows (rows f c 0 0 0)) output.Nothing v small refl refl (unasked refl refl) (row-none h c k)

    row-mid : (low mid : ℕ) → low ≤ 255 → mid ≤ 255 → To from (Rows (rows f c 2 low mid))
    row-mid low mid small smaller = address g bad fine base.luns base.calm from (Rows (rows f c 1 low 0)) output.Nothing mid smaller refl refl (unasked refl refl) (row_low low small)

    pub row-whole : (r : Row) → row_fits g f r ≡ true → Unasked g base.luns (rowed f r) → (next : Then) → then_of f ≡ next → Way (full g bad) (standing g base.luns (lun_of g r) (followed next f c r) (shown next (lun_of g r) 0 output.Nothing))
    row-whole r there free next told =
        let low = r.0 % 256 in
        let mid = r.0 / 256 % 256 in
        let top = r.0 / 256 / 256 in
        let near : beyond g (completed (Rows (rows f c 2 low mid)) top) ≡ false = ap (λ (x : Row). not (row_fits g f x)) (row-bytes r) ∙ ap not there in
        subst (λ (x : Then). Way (full g bad) (standing g base.luns (lun_of g r) (followed x f c r) (shown x (lun_of g r) 0 output.Nothing))) told
        (subst (λ (x : Row). Way (full g bad) (standing g base.luns (lun_of g x) (followed (then_of f) f c x) (shown (then_of f) (lun_of g x) 0 output.Nothing))) (row-bytes r)
        (address g bad fine base.luns base.calm from (Rows (rows f c 2 low mid)) output.Nothing top (row_small g (m g bad fine) r (row_named g f r h there)) refl near
        (subst (λ (x : Row). Unasked g base.luns (rowed f x)) (sym (row-bytes r)) free)
        (row-mid low mid (omega arith) (omega arith))))

  -- The one address cycle of a command that has no more.

  single : eqb (cycles_of f) 1 ≡ true → To from (Single f)
  single h =
      let one = eqb-true (cycles_of f) 1 h in
      arrive (Single f) (rw (one)) (third_of (takes_column f) (takes_row f) (eqb (cycles_of f) 1) h)

  pub answered : eqb (cycles_of f) 1 ≡ true → (next : Then) → then_of f ≡ next → (v : ℕ) → v ≤ 255 → knows_address f v ≡ true → Way (full g bad) (standing g base.luns from (followed next f (record { 0 = 0 }) (record { 0 = 0 })) (shown next 0 v output.Nothing))
  answered one next told v small h =
      subst (λ (x : Then). Way (full g bad) (standing g base.luns from (followed x f (record { 0 = 0 }) (record { 0 = 0 })) (shown x 0 v output.Nothing))) told
      (address g bad fine base.luns base.calm from (Single f) output.Nothing v small refl (rw (h)) (unasked refl refl) (single one))

  -- A program, opened by a command that takes data.

  module _ (takes : takes_program_data f ≡ true) (r : Row) (there : row_exists g r ≡ true) (free : Unasked g base.luns (rowed f r)) where
    filling-below : (at : Column) → at.0 < page_size g → To (lun_of g r) (Filling (filling-at f r at))
    filling-below at below =
        let p = data-shape f takes in
        row-whole p.1 at (rw (p.0, data-outside f takes) (lt-ltb at.0 (page_size g) below)) r (page-fits g f r p.2 there) free then.Data
        (data-then (then_of f) takes)

    -- past the register's last byte by data in there
    filling : (at : Column) → at.0 ≤ page_size g → To (lun_of g r) (Filling (filling-at f r at))
    filling at most =
        let least = (m g bad fine).page-min in
        to_end (λ (c : Column). standing g base.luns (lun_of g r) (Filling (filling-at f r c)) output.Nothing) (page_size g) (omega arith) filling-below
        (λ c below w. data-in g bad fine base.luns base.calm (lun_of g r) (Filling (filling-at f r c)) output.Nothing 0 (omega arith) refl refl (lt-leb (page_size g) c.0 below) refl w)
        at most

    pub filling-first : To (lun_of g r) (Filling (filling-at f r (record { 0 = 0 })))
    filling-first = let least = (m g bad fine).page-min in filling-below (record { 0 = 0 }) (omega arith)

    moving-none : To (lun_of g r) (Moving (moved_to f r 0 0))
    moving-none = second g bad fine base.luns (lun_of g r) _ output.Nothing 0x85 moving _ (λ _. moved g base.luns (lun_of g r) _ _) filling-first

    moving-low : (v : ℕ) → v ≤ 255 → To (lun_of g r) (Moving (moved_to f r 1 v))
    moving-low v small =
        address g bad fine base.luns base.calm (lun_of g r) (Moving (moved_to f r 0 0)) output.Nothing v small refl refl (unasked refl refl) moving-none

  -- Numbers.

  there : (selected : ℕ) (s : Sequence) → To selected s → Stands g s
  there selected s w = reached (λ (t : Target). t.decoder.sequence ≡ s) fine w refl

  columns-count : takes_column f ≡ true → (got : ℕ) → got < 2 → (x : ℕ) × Stands g (Columns (columns f got x))
  columns-count h zero k = (0, there from _ (column-none h))
  columns-count h (suc zero) k = (0, there from _ (column-low h 0 (omega arith)))
  columns-count h (suc (suc n)) k = absurd (omega arith)

  rows-count : takes_row f ≡ true → (c : Column) → column_held g f c ≡ true → (got : ℕ) → got < 3 → (x : ℕ) × (y : ℕ) × Stands g (Rows (rows f c got x y))
  rows-count h c k zero l = (0, 0, there from _ (row-none h c k))
  rows-count h c k (suc zero) l = (0, 0, there from _ (row_low h c k 0 (omega arith)))
  rows-count h c k (suc (suc zero)) l = (0, 0, there from _ (row-mid h c k 0 0 (omega arith) (omega arith)))
  rows-count h c k (suc (suc (suc n))) l = absurd (omega arith)

  module _ (takes : takes_program_data f ≡ true) (r : Row) (exists : row_exists g r ≡ true) (free : Unasked g base.luns (rowed f r)) where
    pub filling-given : (at : Column) → at.0 ≤ page_size g → Stands g (Filling (filling-at f r at))
    filling-given at most = there _ _ (filling takes r exists free at most)

    pub moving-count : (got : ℕ) → got < 2 → (x : ℕ) × Stands g (Moving (moved_to f r got x))
    moving-count zero k = (0, there _ _ (moving-none takes r exists free))
    moving-count (suc zero) k = (0, there _ _ (moving-low takes r exists free 0 (omega arith)))
    moving-count (suc (suc n)) k = absurd (omega arith)

    pub moving-byte : (v : ℕ) → v ≤ 255 → Stands g (Moving (moved_to f r 1 v))
    moving-byte v small = there _ _ (moving-low takes r exists free v small)

module _ (g : Geometry) (bad : ℕ) (fine : Fine (full g bad)) where
  abbrev Starting : ℕ → Sequence → Output → Type 0
  Starting selected s o = Way (full g bad) (stand g bad selected s o)

  -- ECh and its address: the parameter page is open
  pub paged : Starting 0 Idle (output.Parameters 0)
  paged =
      answered g bad fine ParameterPage (first-base g bad fine ParameterPage page-is.3) page-is.0 then.ParameterPage page-is.1
      0x00 (omega arith) page-is.2

  -- every command starts after FFh, 05h within the parameter page once that is open
  abbrev pub begin : (f : First) → Base g bad f
  begin f = record {
    luns = ready_luns g bad;
    calm = works-not g bad;
    selected = 0;
    shows = before (in_page f);
    way = by-pick (λ (o : Output). Starting 0 Idle o) (in_page f) (output.Parameters 0) output.Nothing (λ _. paged) (λ _. still g bad fine);
    here = before_here f (in_page f) refl;
    silent = before-silent f (in_page f) refl;
    lost = before-lost f (in_page f) refl;
  }

  -- EFh.

  abbrev Taking : ℕ → ℕ → Type 0
  Taking got v = Starting 0 (Setting (setting got v)) output.Nothing

  setting-none : Taking 0 0
  setting-none =
      answered g bad fine SetFeatures (begin SetFeatures) features-is.0 then.FeatureIn features-is.1 0x01 (omega arith) features-is.2

  setting-one : (v : ℕ) → (eqb v 0 || eqb v 0x40) ≡ true → Taking 1 v
  setting-one v h =
      data-in g bad fine (ready_luns g bad) (works-not g bad) 0 (Setting (setting 0 0)) output.Nothing v (small-value v h) refl (offered-value (eqb v 0) (eqb v 0x40) (has_feature every 8) h takes-clear) refl refl setting-none

  setting-two : (v : ℕ) → (eqb v 0 || eqb v 0x40) ≡ true → Taking 2 v
  setting-two v h = data-in g bad fine (ready_luns g bad) (works-not g bad) 0 (Setting (setting 1 v)) output.Nothing 0 (omega arith) refl refl refl refl (setting-one v h)

  pub setting-three : (v : ℕ) → (eqb v 0 || eqb v 0x40) ≡ true → Taking 3 v
  setting-three v h = data-in g bad fine (ready_luns g bad) (works-not g bad) 0 (Setting (setting 2 v)) output.Nothing 0 (omega arith) refl refl refl refl (setting-two v h)

  left_there : (selected : ℕ) (s : Sequence) → Starting selected s output.Nothing → Stands g s
  left_there selected s w = reached (λ (t : Target). t.decoder.sequence ≡ s) fine w refl

  setting-count : (got : ℕ) → got < 4 → (x : ℕ) × Stands g (Setting (setting got x))
  setting-count zero h = (0, left_there _ _ setting-none)
  setting-count (suc zero) h = (0, left_there _ _ (setting-one 0 refl))
  setting-count (suc (suc zero)) h = (0, left_there _ _ (setting-two 0 refl))
  setting-count (suc (suc (suc zero))) h = (0, left_there _ _ (setting-three 0 refl))
  setting-count (suc (suc (suc (suc n)))) h = absurd (omega arith)

  -- a second command is due: after the row, or after the column where there is no row
  module _ (k : Wait) (h : sequence_sound g (Due k) ≡ true) where
    abbrev f : First
    f = k.first

    parts : (waits_second f ≡ true) × (column_held g f k.column ≡ true) × (row_held g f k.row ≡ true)
    parts = both3 (waits_second f) (column_held g f k.column) (row_held g f k.row) h

    next : then_of f ≡ then.Second
    next = waits-then (then_of f) parts.0

    lone : takes_row f ≡ false → takes_column f ≡ true
    lone none = first_one (takes_column f) (takes_row f) (waits-some f parts.0) none

    due-column : takes_row f ≡ false → Starting 0 (followed then.Second f k.column (record { 0 = 0 })) output.Nothing
    due-column none =
        let given : column_given f k.column ≡ followed then.Second f k.column (record { 0 = 0 }) = rw (none, next) in
        let held : ltb k.column.0 (column_end g (in_page f)) ≡ true = (rw (lone none) at parts).1 in
        subst (λ (s : Sequence). Starting 0 s output.Nothing) given (column-whole g bad fine f (begin f) (lone none) k.column (ltb-true _ _ held))

    due-whole : Stands g (Due k)
    due-whole = by (takes_row f) refl parts.2
      where
        by : (b : Bool) → takes_row f ≡ b → pick b (row_fits g f k.row) (eqb k.row.0 0) ≡ true → Stands g (Due k)
        by true e l = left_there _ _ (row-whole g bad fine f (begin f) e k.column parts.1 k.row l (ready-free g bad f k.row (waits-plain f parts.0)) then.Second next)
        by false e l = subst (λ (x : Row). Stands g (followed then.Second f k.column x)) (zero_row k.row l) (left_there 0 _ (due-column e))

  -- 35h on a row, and its finish event: a copyback is open there.
  module _ (r : Row) (exists : row_exists g r ≡ true) where
    abbrev l : ℕ
    l = lun_of g r

    abbrev pub copying-luns : List Lun
    copying-luns = copying_at g bad l

    abbrev pub copied-luns : List Lun
    copied-luns = set copying-luns l (lun_finished (lun_at copying-luns l))

    abbrev due : Wait
    due = record { first = Read; column = record { 0 = 0 }; row = r }

    reads : Starting l (Due due) output.Nothing
    reads =
        let least = (m g bad fine).page-min in
        row-whole g bad fine Read (begin Read) read-shape.1 (record { 0 = 0 }) (rw (read-shape.0, read-shape.4) (lt-ltb 0 (page_size g) (omega arith))) r
        (read_fits g r exists)
        (ready-free g bad Read r read-shape.3) then.Second read-shape.2

    copies : Way (full g bad) (standing g copying-luns l Idle (output.Register l (record { 0 = 0 })))
    copies = second g bad fine (ready_luns g bad) l (Due due) output.Nothing 0x35 (copying refl) _ (λ counts. copying-left g bad l r counts _) reads

    pub finishes : Way (full g bad) (standing g copied-luns l Idle (output.Register l (record { 0 = 0 })))
    finishes =
        let named = row-lun g r exists in
        let most = (m g bad fine).luns-max in
        onward fine copies (event 4 l) (omega arith) (omega arith) (finish-accepted g l copying-luns _ named (copying-works g bad l (omega arith))) _
        (λ _. finish-left g l copying-luns _ _)

    -- a command that takes data starts there
    abbrev copied-base : (f : First) → takes_program_data f ≡ true → Base g bad f
    copied-base f takes = record {
      luns = copied-luns;
      calm = copied-calm g bad l (let most = (m g bad fine).luns-max in omega (arith, row-lun g r exists));
      selected = l;
      shows = output.Register l (record { 0 = 0 });
      way = finishes;
      here = plain_here (output.Register l (record { 0 = 0 })) f refl (data-outside f takes);
      silent = plain-silent l f (data-outside f takes);
      lost = plain-lost (output.Register l (record { 0 = 0 })) f (λ is. absurd (false≢true (sym (data-silent f takes) ∙ is))) (data-outside f takes);
    }

    pub copied-open : copyback_at copied-luns l ≡ true
    copied-open = copied-mark g bad l (let most = (m g bad fine).luns-max in omega (arith, row-lun g r exists))

    -- a row that asks for a copyback finds it there
    copied-free : (f : First) → needs_copyback f ≡ true → Unasked g copied-luns (rowed f r)
    copied-free f h = record { lacks = rw (h, copied-open); closes = rw (needs-only f h) }

  -- A program: where 14 is asked of its row, after a copyback read there.
  pub record Opened (f : First) (r : Row) : Type 0 where
    pub base : Base g bad f
    pub free : Unasked g base.luns (rowed f r)

  pub program-from : (f : First) (r : Row) → takes_program_data f ≡ true → row_exists g r ≡ true → Opened f r
  program-from f r takes exists = by (needs_copyback f) refl
    where
      by : (b : Bool) → needs_copyback f ≡ b → Opened f r
      by true e = record { base = copied-base r exists f takes; free = copied-free r exists f e }
      by false e = record { base = begin f; free = ready-free g bad f r e }

  -- Every number.

  pub sequence-given : (s : Sequence) → BytesHeld s → sequence_sound g s ≡ true → SequenceGiven g s
  sequence-given Idle small h = left_there _ _ (still g bad fine)
  sequence-given (Columns k) small h =
      let f = k.first in
      let p = both (takes_column f) (ltb k.got 2) h in
      let n = columns-count g bad fine f (begin f) p.0 k.got (ltb-true _ _ p.1) in (
        record { other = columns f k.got n.0; stands = n.1; same = refl },
        record { other = columns f 1 k.low; stands = left_there _ _ (column-low g bad fine f (begin f) p.0 k.low small); same = refl },
      )
  sequence-given (Rows k) small h =
      let f = k.first in
      let c = k.column in
      let p = both3 (takes_row f) (ltb k.got 3) (column_held g f c) h in
      let n = rows-count g bad fine f (begin f) p.0 c p.2 k.got (ltb-true _ _ p.1) in (
        record { other = rows f c k.got n.0 n.1; stands = n.2; same = refl },
        record { other = rows f c k.got n.0 n.1; stands = n.2; same = refl },
        record { other = rows f c 1 k.low 0; stands = left_there _ _ (row_low g bad fine f (begin f) p.0 c p.2 k.low small.0); same = refl },
        record { other = rows f c 2 0 k.mid; stands = left_there _ _ (row-mid g bad fine f (begin f) p.0 c p.2 0 k.mid (omega arith) small.1); same = refl },
      )
  sequence-given (Single f) small h = left_there _ _ (single g bad fine f (begin f) h)
  sequence-given (Due k) small h =
      let w = due-whole k h in
      (record { other = k; stands = w; same = refl }, record { other = k; stands = w; same = refl })
  sequence-given (Filling k) small h =
      let f = k.first in
      let p = both3 (takes_program_data f) (leb k.at.0 (page_size g)) (row_exists g k.row) h in
      let o = program-from f k.row p.0 p.2 in
      let w : Stands g (Filling k) = filling-given g bad fine f o.base p.0 k.row p.2 o.free k.at (leb-true _ _ p.1) in
      (record { other = k; stands = w; same = refl }, record { other = k; stands = w; same = refl })
  sequence-given (Moving k) small h =
      let f = k.first in
      let r = k.row in
      let p = both3 (takes_program_data f) (ltb k.got 2) (row_exists g r) h in
      let o = program-from f r p.0 p.2 in
      let n = moving-count g bad fine f o.base p.0 r p.2 o.free k.got (ltb-true _ _ p.1) in (
        record { other = moved_to f r k.got n.0; stands = n.1; same = refl },
        record { other = moved_to f r k.got n.0; stands = n.1; same = refl },
        record { other = moved_to f r 1 k.low; stands = moving-byte g bad fine f o.base p.0 r p.2 o.free k.low small; same = refl },
      )
  sequence-given (Setting k) small h =
      let p = both (ltb k.got 4) (eqb k.value 0 || eqb k.value 0x40) h in
      let n = setting-count k.got (ltb-true _ _ p.0) in (
        record { other = setting k.got n.0; stands = n.1; same = refl },
        record { other = setting 1 k.value; stands = left_there _ _ (setting-one k.value p.1); same = refl },
      )
