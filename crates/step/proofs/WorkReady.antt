-- An accepted event of a sound record asks only for work that stays within the buffers.
-- Assumes nothing.
use mathlib.Core.Path.{◌≡◌, refl, sym, ◌∙◌, ap, subst}
use mathlib.Core.Bool.{Bool, true, false, ◌&&◌, ◌||◌, not, false≢true}
use mathlib.Core.List.{List}
use Prim.Native.Nat.{ℕ, ◌<◌}
use native.Mathlib.Omega.{arith}
use lib.ListN.{get_or}
use lib.Dec.{eqb, leb}
use borrow.Author.Tests.{leb-false, not-true}
use Rattle.target.specs.Pick.{pick}
use Rattle.target.specs.Address.{lun_of, row_exists}
use Rattle.target.specs.Commands.{takes_row, waits_second, looks_of, clears_register, row_of, first_of, second_of, second_row}
use Rattle.target.specs.Views.{completed, taking, ending, ended_by, ended_with, ends_with}
use Rattle.target.specs.Place.{is_open, put_out}
use Rattle.target.specs.Events.{is_reset}
use Rattle.target.specs.declared.Column.{Column}
use Rattle.target.specs.declared.Row.{Row}
use Rattle.target.specs.declared.Event.{Event}
use Rattle.target.specs.declared.Findings.{Findings}
use Rattle.target.specs.declared.Geometry.{Geometry}
use Rattle.target.specs.declared.Words.{Words}
use Rattle.target.specs.declared.Target.{Target}
use Rattle.target.specs.declared.First.{First}
use Rattle.target.specs.declared.commands.Looks.{Looks}
use Rattle.target.specs.declared.commands.Looks.TheVariants as looks
use Rattle.target.specs.declared.commands.Act.{Act}
use Rattle.target.specs.declared.commands.Act.TheVariants as act
use Rattle.target.specs.declared.views.Given.{Given}
use Rattle.target.specs.declared.views.Given.TheVariants as given
use Rattle.target.specs.declared.Sequence.{Sequence}
use Rattle.target.specs.declared.Sequence.TheVariants.{Idle, Columns, Rows, Single, Due, Filling, Moving, Setting}
use Rattle.target.specs.declared.Work.{Work}
use Rattle.target.specs.declared.Work.TheVariants as work
use Rattle.target.proofs.Both.{both, both3, neither}
use Rattle.target.proofs.Firsts.{each_first, each-end}
use Rattle.target.proofs.Limits.{Limits, limits}
use Rattle.rules.specs.Rules.{exists, row_fits, beyond, data_ended, output_ended, out_of_range, past_end, verdict}
use Rattle.rules.proofs.Passed.{all-passed}
use Rattle.effects.specs.Effects.{acted, ended_work, first_work, command_work, address_work, data_work, work_of}
use Rattle.step.specs.Usable.{column_held, row_held, sequence_sound, record_sound}
use Rattle.blocks.specs.Blocks.{page_index, block_bad, page_full, out_of_order}
use Rattle.step.specs.Buffers.{proceeds, ended_findings, findings}
use Rattle.step.specs.Step.{Ready, Reaches, EnderReaches}
use Rattle.blocks.proofs.Places.{row-lun, row_block}
use Rattle.step.proofs.Sound.{sound, filling-row}
use Rattle.std.specs.Prelude.{None, Ok, Option, Some}
use Rattle.target.specs.declared.views.Ended.{Ended}
use Rattle.target.specs.declared.Second.{Second}

-- the fields of a row that a command looks at are those that its second command works on
abbrev pub suits : Act → Bool → Looks → Bool
suits act.Nothing rowed l = true
suits act.Load rowed looks.Nothing = false
suits act.Load rowed looks.Lun = false
suits act.Load rowed looks.Block = false
suits act.Load rowed looks.Page = rowed
suits act.Program rowed looks.Nothing = false
suits act.Program rowed looks.Lun = false
suits act.Program rowed looks.Block = false
suits act.Program rowed looks.Page = rowed
suits act.Erase rowed looks.Nothing = false
suits act.Erase rowed looks.Lun = false
suits act.Erase rowed looks.Block = rowed
suits act.Erase rowed looks.Page = rowed
suits act.Move rowed l = true

abbrev pub end_suits : Option Second → Bool → Looks → Bool
end_suits None rowed l = true
end_suits (Some s) rowed l = suits (second_row s).act rowed l

-- one test over the list of first commands
pub ends-suit : (f : First) (v : ℕ) → ends_with f v ≡ true → end_suits (second_of v) (takes_row f) (looks_of f) ≡ true
unfolding row_of second_of second_row
ends-suit f v h = each-end (λ (x : First) (k : Option Second). end_suits k (takes_row x) (looks_of x)) refl f v h

-- a command that clears registers has a row whose page exists
abbrev is_page : Looks → Bool
is_page looks.Nothing = false
is_page looks.Lun = false
is_page looks.Block = false
is_page looks.Page = true

clears-page : (f : First) → (not (clears_register f) || is_page (looks_of f)) ≡ true
unfolding row_of
clears-page f = each_first (λ (x : First). not (clears_register x) || is_page (looks_of x)) refl f

module _ (g : Geometry) where
  reached : (a : Act) (rowed : Bool) (l : Looks) (r : Row) → suits a rowed l ≡ true → (rowed ≡ true → exists g l r ≡ true) → Reaches g a r
  unfolding Reaches
  reached act.Nothing rowed l r h k = tt
  reached act.Load rowed looks.Nothing r h k = absurd (false≢true h)
  reached act.Load rowed looks.Lun r h k = absurd (false≢true h)
  reached act.Load rowed looks.Block r h k = absurd (false≢true h)
  reached act.Load rowed looks.Page r h k = k h
  reached act.Program rowed looks.Nothing r h k = absurd (false≢true h)
  reached act.Program rowed looks.Lun r h k = absurd (false≢true h)
  reached act.Program rowed looks.Block r h k = absurd (false≢true h)
  reached act.Program rowed looks.Page r h k = k h
  reached act.Erase rowed looks.Nothing r h k = absurd (false≢true h)
  reached act.Erase rowed looks.Lun r h k = absurd (false≢true h)
  reached act.Erase rowed looks.Block r h k = k h
  reached act.Erase rowed looks.Page r h k = row_block g r (k h)
  reached act.Move rowed l r h k = tt

  -- a row that exists is enough for every act
  row-reaches : (a : Act) (r : Row) → row_exists g r ≡ true → Reaches g a r
  unfolding Reaches
  row-reaches act.Nothing r h = tt
  row-reaches act.Load r h = h
  row-reaches act.Program r h = h
  row-reaches act.Erase r h = row_block g r h
  row-reaches act.Move r h = tt

  -- a row that is held where there is one
  held-row : (f : First) (r : Row) → row_held g f r ≡ true → takes_row f ≡ true → row_fits g f r ≡ true
  held-row f r h k = subst (λ (b : Bool). pick b (row_fits g f r) (eqb r.0 0) ≡ true) k h

  none-reached : EnderReaches g None
  unfolding EnderReaches
  none-reached = tt

  found-reached : (k : Option Second) (c : Column) (r : Row) (f : First) → end_suits k (takes_row f) (looks_of f) ≡ true → row_held g f r ≡ true → EnderReaches g (ended_with k f c r)
  unfolding EnderReaches
  found-reached None c r f h held = tt
  found-reached (Some s) c r f h held = reached (second_row s).act (takes_row f) (looks_of f) r h (held-row f r held)

  filling-reached : (k : Option Second) (f : First) (c : Column) (r : Row) → row_exists g r ≡ true → EnderReaches g (ended_with k f c r)
  unfolding EnderReaches
  filling-reached None f c r h = tt
  filling-reached (Some s) f c r h = row-reaches (second_row s).act r h

  reach-pick : (b : Bool) (x y : Option Ended) → (b ≡ true → EnderReaches g x) → EnderReaches g y → EnderReaches g (pick b x y)
  reach-pick true x y h k = h refl
  reach-pick false x y h k = k

  -- what a second command works on is there
  pub ender-reaches : (s : Sequence) (v : ℕ) → sequence_sound g s ≡ true → EnderReaches g (ending s v)
  ender-reaches Idle v h = none-reached
  ender-reaches (Columns k) v h = none-reached
  ender-reaches (Rows k) v h = none-reached
  ender-reaches (Single f) v h = none-reached
  ender-reaches (Due k) v h =
      let f = k.first in
      let p = both3 (waits_second f) (column_held g f k.column) (row_held g f k.row) h in
      reach-pick (ends_with f v) (ended_by v f k.column k.row) None
      (λ is. found-reached (second_of v) k.column k.row f (ends-suit f v is) p.2)
      none-reached
  ender-reaches (Filling k) v h =
      reach-pick (eqb v 0x10 || eqb v 0x85) (ended_by v k.first k.at k.row) None
      (λ _. filling-reached (second_of v) k.first k.at k.row (filling-row g k h))
      none-reached
  ender-reaches (Moving k) v h = none-reached
  ender-reaches (Setting k) v h = none-reached

module _ (g : Geometry) (counts : List ℕ) where
  ready-pick : (b : Bool) (w v : Work) → (b ≡ true → Ready g w counts) → (b ≡ false → Ready g v counts) → Ready g (pick b w v) counts
  ready-pick true w v h k = h refl
  ready-pick false w v h k = k refl

  nothing : Ready g work.Nothing counts
  unfolding Ready
  nothing = tt

  clear-all : Ready g work.ClearAll counts
  unfolding Ready
  clear-all = tt

  -- a page that takes a program has one left
  page-left : (w : Words) (r : Row) (flags : List ℕ) → Limits g → (block_bad g r flags || page_full g r counts || out_of_order g w r counts) ≡ false → get_or counts (page_index g r) 0 < 255
  unfolding page_full
  page-left w r flags m h =
      let first = (neither (block_bad g r flags || page_full g r counts) (out_of_order g w r counts) h).0 in
      let full = leb g.programs (get_or counts (page_index g r) 0) in
      omega (arith, leb-false g.programs (get_or counts (page_index g r) 0) (neither (block_bad g r flags) full first).1, m.programs-max)

  -- 30h, 10h and D0h
  act-ready : (w : Words) (a : Act) (r : Row) (flags : List ℕ) (found : Findings) → Limits g → Reaches g a r → found.proceeds ≡ proceeds g w a r counts flags → Ready g (acted a r found) counts
  unfolding Ready Reaches
  act-ready w act.Nothing r flags found m h k = tt
  act-ready w act.Load r flags found m h k = h
  act-ready w act.Program r flags found m h k =
      ready-pick found.proceeds (work.Program r) work.Nothing
      (λ p. (h, page-left w r flags m (not-true (block_bad g r flags || page_full g r counts || out_of_order g w r counts) (sym k ∙ p))))
      (λ _. tt)
  act-ready w act.Erase r flags found m h k = ready-pick found.proceeds (work.Erase r) work.Nothing (λ _. h) (λ _. tt)
  act-ready w act.Move r flags found m h k = tt

  ended-ready : (w : Words) (k : Option Ended) (flags : List ℕ) (found : Findings) → Limits g → EnderReaches g k → found ≡ ended_findings g w k counts flags → Ready g (ended_work k found) counts
  unfolding EnderReaches
  ended-ready w None flags found m h e = nothing
  ended-ready w (Some k) flags found m h e =
      act-ready w (second_row k.second).act k.row flags found m h (ap (λ (x : Findings). x.proceeds) e)

  first-ready : (clear : Bool) (k : Option First) → Ready g (first_work clear k) counts
  first-ready clear None = nothing
  first-ready clear (Some f) = ready-pick (clears_register f && not clear) work.ClearAll work.Nothing (λ _. clear-all) (λ _. nothing)

  command-ready : (w : Words) (clear : Bool) (s : Sequence) (v : ℕ) (flags : List ℕ) (found : Findings) → Limits g → sequence_sound g s ≡ true → found ≡ ended_findings g w (ending s v) counts flags → Ready g (command_work clear s v found) counts
  command-ready w clear s v flags found m h k =
      ready-pick (is_open s) (ended_work (ending s v) found) (first_work clear (first_of v))
      (λ _. ended-ready w (ending s v) flags found m (ender-reaches g s v h) k)
      (λ _. first-ready clear (first_of v))

  -- 80h's row, with program-clear on
  looked-row : (l : Looks) (r : Row) → is_page l ≡ true → exists g l r ≡ true → row_exists g r ≡ true
  looked-row looks.Nothing r p h = absurd (false≢true p)
  looked-row looks.Lun r p h = absurd (false≢true p)
  looked-row looks.Block r p h = absurd (false≢true p)
  looked-row looks.Page r p h = h

  implied : (a b : Bool) → (not a || b) ≡ true → a ≡ true → b ≡ true
  implied true b h e = h
  implied false b h e = absurd (false≢true e)

  not-false : (b : Bool) → not b ≡ false → b ≡ true
  not-false true h = refl
  not-false false h = absurd (false≢true (sym h))

  address-ready : (clear : Bool) (k : Option Given) → beyond g k ≡ false → Ready g (address_work g clear k) counts
  unfolding Ready
  address-ready clear None h = tt
  address-ready clear (Some (given.Column k)) h = tt
  address-ready clear (Some (given.Row k)) h =
      ready-pick (clears_register k.first && clear) (work.ClearOne (lun_of g k.row)) work.Nothing
      (λ p. row-lun g k.row
      (looked-row (looks_of k.first) k.row
      (implied (clears_register k.first) (is_page (looks_of k.first)) (clears-page k.first) (both (clears_register k.first) clear p).0)
      (not-false (row_fits g k.first k.row) h)))
      (λ _. tt)
  address-ready clear (Some (given.Single k)) h = tt

  -- a data-in byte that is not past the end has its place
  data-ready : (s : Sequence) (v : ℕ) → sequence_sound g s ≡ true → data_ended g (taking s) ≡ false → Ready g (data_work g (taking s) v) counts
  unfolding Ready
  data-ready Idle v h k = tt
  data-ready (Columns c) v h k = tt
  data-ready (Rows c) v h k = tt
  data-ready (Single f) v h k = tt
  data-ready (Due c) v h k = tt
  data-ready (Filling c) v h k = (row-lun g c.row (filling-row g c h), leb-false _ _ k)
  data-ready (Moving c) v h k = tt
  data-ready (Setting c) v h k = tt

-- where `a and b` fails and a holds, b fails
then-not : (a b : Bool) → (a && b) ≡ false → a ≡ true → b ≡ false
then-not true b h e = h
then-not false b h e = absurd (false≢true e)

picked : {A : Type 0} (b : Bool) (x y : A) → b ≡ true → pick b x y ≡ x
picked true x y e = refl
picked false x y e = absurd (false≢true e)

module _ (t : Target) (e : Event) (counts flags : List ℕ) (ok : record_sound t ≡ true) (accepted : verdict t e ≡ (Ok tt)) where
  in-range : eqb e.kind 1 ≡ true → beyond t.geometry (completed t.decoder.sequence e.value) ≡ false
  unfolding out_of_range
  in-range k = then-not (eqb e.kind 1) _ (all-passed t e accepted).rule-4 k

  in_place : eqb e.kind 2 ≡ true → data_ended t.geometry (taking t.decoder.sequence) ≡ false
  unfolding past_end
  in_place k =
      then-not (eqb e.kind 2) _
      (neither (eqb e.kind 2 && data_ended t.geometry (taking t.decoder.sequence)) (eqb e.kind 3 && output_ended t.geometry (put_out t.decoder)) (all-passed t e accepted).rule-8).0
      k

  pub work-ready : (found : Findings) → found ≡ findings t.geometry t.words t.decoder.sequence e counts flags → Ready t.geometry (work_of t.geometry t.clear t.decoder.sequence e found) counts
  unfolding work_of findings
  work-ready found h =
      let g = t.geometry in
      let s = t.decoder.sequence in
      let v = e.value in
      let k = sound t ok in
      let m = limits g k.limited in
      let w2 = pick (eqb e.kind 2) (data_work g (taking s) v) work.Nothing in
      let w1 = pick (eqb e.kind 1) (address_work g t.clear (completed s v)) w2 in
      let w0 = pick (eqb e.kind 0) (command_work t.clear s v found) w1 in
      ready-pick g counts (is_reset e) work.ClearAll w0 (λ _. clear-all g counts)
      (λ _. ready-pick g counts (eqb e.kind 0) (command_work t.clear s v found) w1
      (λ is. command-ready g counts t.words t.clear s v flags found m k.sequence (h ∙ picked (eqb e.kind 0) _ _ is))
      (λ _. ready-pick g counts (eqb e.kind 1) (address_work g t.clear (completed s v)) w2
      (λ is. address-ready g counts t.clear (completed s v) (in-range is))
      (λ _. ready-pick g counts (eqb e.kind 2) (data_work g (taking s) v) work.Nothing
      (λ is. data-ready g counts s v k.sequence (in_place is))
      (λ _. nothing g counts))))
