-- Each LUN's number of blank blocks is the walk's, after every event.
-- Assumes nothing.
use mathlib.Core.Path.{◌≡◌, refl, sym, subst, ◌∙◌}
use mathlib.Core.Bool.{Bool, true, false, ◌&&◌, not, false≢true}
use mathlib.Core.List.{List, [], ◌∷◌}
use Prim.Native.Nat.{ℕ, zero, suc, ◌*◌, ◌≤◌, ◌<◌}
use native.Mathlib.Omega.{arith}
use lib.Dec.{eqb}
use lib.ListN.{length, set, length-set}
use borrow.Author.Tests.{lt-ltb}
use Rattle.target.specs.Pick.{pick}
use Rattle.target.specs.Address.{lun_of}
use Rattle.target.specs.Commands.{second_row, clears_register, closes_copyback, first_of}
use Rattle.target.specs.Events.{is_reset}
use Rattle.target.specs.Luns.{blank_at, all_readied}
use Rattle.target.specs.Views.{completed, taking, ending}
use Rattle.target.specs.declared.Event.{Event}
use Rattle.target.specs.declared.Findings.{Findings}
use Rattle.target.specs.declared.Geometry.{Geometry}
use Rattle.target.specs.declared.Lun.{Lun}
use Rattle.target.specs.declared.Second.{Second}
use Rattle.target.specs.declared.Second.TheVariants.{StartRead, StartOutput, StartProgram, StartErase, Move, StartCopyback}
use Rattle.target.specs.declared.Sequence.{Sequence}
use Rattle.target.specs.declared.Sequence.TheVariants.{Idle, Columns, Rows, Single, Due, Filling, Moving, Setting}
use Rattle.target.specs.declared.Target.{Target}
use Rattle.target.specs.declared.Words.{Words}
use Rattle.target.specs.declared.Work.{Work}
use Rattle.target.specs.declared.Work.TheVariants as work
use Rattle.target.specs.declared.views.Given.{Given}
use Rattle.target.specs.declared.views.Given.TheVariants as given
use Rattle.target.specs.declared.views.Taker.{Taker}
use Rattle.target.specs.declared.views.Taker.TheVariants as taker
use Rattle.target.proofs.Limits.{limits}
use Rattle.rules.specs.Rules.{verdict}
use Rattle.lun_records.specs.LunsAfter.{end_closes, ended_luns, addressed_luns, finished, luns_after}
use Rattle.effects.specs.Effects.{ended_work, first_work, command_work, address_work, data_work, work_of, target_after, target_refused}
use Rattle.blocks.specs.Blocks.{blank_blocks}
use Rattle.power.specs.Power.{geometry_of, powered_of, walked}
use Rattle.step.specs.Usable.{sequence_sound}
use Rattle.step.specs.Buffers.{counts_after, ended_findings, findings}
use Rattle.step.specs.Step.{Buffers, State, worked, accepted_by, accepted, by_verdict, steady, EnderReaches}
use Rattle.step.proofs.Sound.{sound, passes}
use Rattle.step.proofs.WorkReady.{ender-reaches}
use Rattle.thm_kept.specs.Kept.{lets_pass}
use Rattle.thm_kept.proofs.Choice.{by-pick}
use Rattle.thm_kept.proofs.Kept.{step-steady, step-usable}
use Rattle.thm_demands.specs.Runs.{step_at, left, after, powered_up}
use Rattle.thm_demands.proofs.Promised.{powered-fit}
use Rattle.thm_steps.proofs.Status.{stored-leaves, row-leaves}
use Rattle.thm_steps.proofs.Blank.{moves_act, readied-leaves}
use Rattle.thm_blank.specs.Walked.{Walked, AlwaysWalked}
use Rattle.thm_blank.proofs.Moves.{Counted, still, ended}
use Rattle.std.specs.Prelude.{Err, None, Ok, Option, Result, Some}
use Rattle.target.specs.declared.views.Ended.{Ended}
use Rattle.target.specs.declared.First.{First}
use Rattle.target.specs.declared.Refusal.{Refusal}

-- two definitions that pick by the same test
by-pick-both : {A B : Type 0} (P : A → B → Type 0) (b : Bool) (x y : A) (u v : B) → (b ≡ true → P x u) → (b ≡ false → P y v)
    → P (pick b x y) (pick b u v)
by-pick-both P true x y u v h k = h refl
by-pick-both P false x y u v h k = k refl

-- a program and an erase start work
moving-starts : (s : Second) → moves_act (second_row s).act ≡ true → (second_row s).starts ≡ true
unfolding second_row
moving-starts StartRead h = refl
moving-starts StartOutput h = absurd (false≢true h)
moving-starts StartProgram h = refl
moving-starts StartErase h = refl
moving-starts Move h = absurd (false≢true h)
moving-starts StartCopyback h = refl

module _ (g : Geometry) (words : Words) (flags : List ℕ) (luns : List Lun) (counts : List ℕ) (four : g.luns ≤ 4) (all : length luns ≡ 4)
    (full : length counts ≡ g.luns * g.blocks * g.pages) (so_far : Counted g words flags luns counts) where
  -- what an event leaves of records and work
  abbrev Holds : List Lun → Work → Type 0
  Holds x w = Counted g words flags x (counts_after g w counts)

  unmoved : (x : List Lun) (w : Work) → ((l : ℕ) → blank_at x l ≡ blank_at luns l) → counts_after g w counts ≡ counts → Holds x w
  unmoved x w same counted = still g words flags luns counts four all full so_far x w same counted

  -- FFh
  readied : Holds (all_readied luns) work.ClearAll
  unfolding counts_after
  readied l h = readied-leaves luns l (omega (arith, h, four)) ∙ so_far l h

  -- a first command
  opened : (clear : Bool) (f : Option First) → Holds luns (first_work clear f)
  unfolding counts_after
  opened clear None = unmoved luns work.Nothing (λ l. refl) refl
  opened clear (Some f) =
      by-pick (Holds luns) (clears_register f && not clear) work.ClearAll work.Nothing (λ _. unmoved luns work.ClearAll (λ l. refl) refl) (λ _. unmoved luns work.Nothing (λ l. refl) refl)

  -- a second command
  by-ender : (k : Option Ended) → EnderReaches g k
      → Holds (ended_luns g luns k (ended_findings g words k counts flags)) (ended_work k (ended_findings g words k counts flags))
  unfolding EnderReaches counts_after
  by-ender None there = unmoved luns work.Nothing (λ l. refl) refl
  by-ender (Some k) there =
      ended g words flags luns counts four all full so_far (second_row k.second).act (second_row k.second).starts (moving-starts k.second)
      k.row (second_row k.second).opens (end_closes k) there

  commanded : (clear : Bool) (s : Sequence) (v : ℕ) → sequence_sound g s ≡ true
      → Holds (ended_luns g luns (ending s v) (ended_findings g words (ending s v) counts flags))
      (command_work clear s v (ended_findings g words (ending s v) counts flags))
  commanded clear Idle v h = opened clear (first_of v)
  commanded clear (Columns k) v h = by-ender (ending (Columns k) v) (ender-reaches g (Columns k) v h)
  commanded clear (Rows k) v h = by-ender (ending (Rows k) v) (ender-reaches g (Rows k) v h)
  commanded clear (Single f) v h = by-ender (ending (Single f) v) (ender-reaches g (Single f) v h)
  commanded clear (Due k) v h = by-ender (ending (Due k) v) (ender-reaches g (Due k) v h)
  commanded clear (Filling k) v h = by-ender (ending (Filling k) v) (ender-reaches g (Filling k) v h)
  commanded clear (Moving k) v h = by-ender (ending (Moving k) v) (ender-reaches g (Moving k) v h)
  commanded clear (Setting k) v h = by-ender (ending (Setting k) v) (ender-reaches g (Setting k) v h)

  -- an address: a row may close a copyback, and no count moves
  address-counts : (clear : Bool) (k : Option Given) → counts_after g (address_work g clear k) counts ≡ counts
  unfolding counts_after
  address-counts clear None = refl
  address-counts clear (Some (given.Column k)) = refl
  address-counts clear (Some (given.Row k)) =
      by-pick (λ (w : Work). counts_after g w counts ≡ counts) (clears_register k.first && clear) (work.ClearOne (lun_of g k.row)) work.Nothing
      (λ _. refl) (λ _. refl)
  address-counts clear (Some (given.Single k)) = refl

  data-counts : (k : Option Taker) (v : ℕ) → counts_after g (data_work g k v) counts ≡ counts
  unfolding counts_after
  data-counts None v = refl
  data-counts (Some (taker.Program k)) v = refl
  data-counts (Some (taker.Feature k)) v = refl

  no-counts : counts_after g work.Nothing counts ≡ counts
  unfolding counts_after
  no-counts = refl

  pub by_kind : (clear : Bool) (s : Sequence) (e : Event) → sequence_sound g s ≡ true → (found : Findings)
      → found ≡ findings g words s e counts flags → Holds (luns_after g luns s e found) (work_of g clear s e found)
  unfolding luns_after work_of findings
  by_kind clear s e sane found told =
      by-pick-both Holds (is_reset e) _ _ _ _ (λ _. readied)
      (λ _. by-pick-both Holds (eqb e.kind 0) _ _ _ _
      (λ is. subst (λ (f : Findings). Holds (ended_luns g luns (ending s e.value) f) (command_work clear s e.value f)) (sym (told ∙ rw (is)))
      (commanded clear s e.value sane))
      (λ _. by-pick-both Holds (eqb e.kind 1) _ _ _ _
      (λ _. unmoved (addressed_luns g luns (completed s e.value)) (address_work g clear (completed s e.value))
      (λ l. row-leaves g luns (λ (x : Lun). x.blank) (λ _. refl) (completed s e.value) l) (address-counts clear (completed s e.value)))
      (λ _. by-pick (λ (x : List Lun). Holds x (pick (eqb e.kind 2) (data_work g (taking s) e.value) work.Nothing)) (eqb e.kind 4) _ _
      (λ _. by-pick (Holds (finished luns e.value)) (eqb e.kind 2) _ _
      (λ _. unmoved (finished luns e.value) _ (ended-number e.value) (data-counts (taking s) e.value))
      (λ _. unmoved (finished luns e.value) _ (ended-number e.value) no-counts))
      (λ _. by-pick (Holds luns) (eqb e.kind 2) _ _
      (λ _. unmoved luns _ (λ l. refl) (data-counts (taking s) e.value))
      (λ _. unmoved luns _ (λ l. refl) no-counts)))))
    where
      ended-number : (i l : ℕ) → blank_at (finished luns i) l ≡ blank_at luns l
      ended-number i l = stored-leaves (λ (x : Lun). x.blank) luns i l _ refl

-- the four records stay four
module _ (g : Geometry) (luns : List Lun) (all : length luns ≡ 4) where
  abbrev Four : List Lun → Type 0
  Four x = length x ≡ 4

  stored : (i : ℕ) (x : Lun) → Four (set luns i x)
  stored i x = length-set luns i x ∙ all

  ended-four : (k : Option Ended) (found : Findings) → Four (ended_luns g luns k found)
  ended-four None found = all
  ended-four (Some k) found = by-pick Four (second_row k.second).starts _ _ (λ _. stored (lun_of g k.row) _) (λ _. all)

  addressed-four : (k : Option Given) → Four (addressed_luns g luns k)
  addressed-four None = all
  addressed-four (Some (given.Column k)) = all
  addressed-four (Some (given.Row k)) = by-pick Four (closes_copyback k.first) _ _ (λ _. stored (lun_of g k.row) _) (λ _. all)
  addressed-four (Some (given.Single k)) = all

  pub still-four : (s : Sequence) (e : Event) (found : Findings) → Four (luns_after g luns s e found)
  unfolding luns_after
  still-four s e found =
      by-pick Four (is_reset e) _ _ (λ _. refl)
      (λ _. by-pick Four (eqb e.kind 0) _ _ (λ _. ended-four (ending s e.value) found)
      (λ _. by-pick Four (eqb e.kind 1) _ _ (λ _. addressed-four (completed s e.value))
      (λ _. by-pick Four (eqb e.kind 4) _ _ (λ _. stored e.value _) (λ _. all))))

-- where a run stands: four records, and true numbers
pub record Standing (t : Target) (b : Buffers) (flags : List ℕ) : Type 0 where
  pub four : length t.luns ≡ 4
  pub numbers : Walked t b.counts flags

module _ (t : Target) (e : Event) (params : List ℕ) (b : Buffers) (flags : List ℕ) (h : lets_pass t params b flags ≡ true) (k : Standing t b flags) where
  by-verdict : (v : Result Unit Refusal) → Standing (by_verdict v t e params b flags).target (by_verdict v t e params b flags).buffers flags
  unfolding by_verdict accepted accepted_by target_after target_refused worked
  by-verdict (Ok tt) =
      let u = passes t params b.array b.registers b.counts flags h in
      let g = t.geometry in
      let sane = sound t u.record-sound in
      let found = findings g t.words t.decoder.sequence e b.counts flags in
      record {
        four = still-four g t.luns k.four t.decoder.sequence e found;
        numbers = by_kind g t.words flags t.luns b.counts (limits g sane.limited).luns-max k.four u.sizes.counts-size
            k.numbers t.clear t.decoder.sequence e sane.sequence found refl;
      }
  by-verdict (Err r) = record { four = k.four; numbers = k.numbers }

  steady-stands : Standing (steady t e params b flags).target (steady t e params b flags).buffers flags
  unfolding steady
  steady-stands = by-verdict (verdict t e)

  pub step-stands : Standing (step_at params flags (record { target = t; buffers = b }) e).target (step_at params flags (record { target = t; buffers = b }) e).buffers flags
  step-stands = rw (step-steady t e params b flags h) steady-stands

run-stands : (page flags : List ℕ) (es : List Event) (s : State) → lets_pass s.target page s.buffers flags ≡ true
    → Standing s.target s.buffers flags → Standing (after page flags es s).target (after page flags es s).buffers flags
unfolding after
run-stands page flags [] s h k = k
run-stands page flags (e ∷ es) s h k =
    run-stands page flags es (left (step_at page flags s e)) (step-usable s.target e page s.buffers flags h)
    (step-stands s.target e page s.buffers flags h k)

-- power-on walks
found-walked : (g : Geometry) (counts flags : List ℕ) (l : ℕ) → l < g.luns → walked g counts flags l ≡ blank_blocks g l counts flags
unfolding walked
found-walked g counts flags l h = rw (lt-ltb l g.luns h)

powered-stands : (page : List ℕ) (device : ℕ) (array registers counts flags : List ℕ) → (geometry_of page).luns ≤ 4
    → Standing (powered_up page device array registers counts flags).target (powered_up page device array registers counts flags).buffers flags
unfolding powered_of
powered-stands page device array registers counts flags few = record { four = refl; numbers = number }
  where
    number : (l : ℕ) → l < (geometry_of page).luns → blank_at (powered_of page device counts flags).luns l ≡ blank_blocks (geometry_of page) l counts flags
    number zero h = found-walked (geometry_of page) counts flags 0 h
    number (suc zero) h = found-walked (geometry_of page) counts flags 1 h
    number (suc (suc zero)) h = found-walked (geometry_of page) counts flags 2 h
    number (suc (suc (suc zero))) h = found-walked (geometry_of page) counts flags 3 h
    number (suc (suc (suc (suc l)))) h = absurd (omega (arith, h, few))

pub always-walked : AlwaysWalked
unfolding powered_of
always-walked page device array registers counts flags on es s at =
    let start = powered_up page device array registers counts flags in
    let fit = powered-fit page device array registers counts flags on in
    let u = passes start.target page array start.buffers.registers counts flags fit in
    let few = (limits (geometry_of page) (sound start.target u.record-sound).limited).luns-max in
    subst (λ (x : State). Walked x.target x.buffers.counts flags) (sym at)
    (run-stands page flags es start fit (powered-stands page device array registers counts flags few)).numbers
