-- The LUN records after an accepted event: the number of blank blocks stays within the LUN's blocks, and a LUN past the count stays as
-- power-on left it.
-- Assumes nothing.
use mathlib.Core.Path.{◌≡◌, refl, sym, subst}
use mathlib.Core.Bool.{Bool, true, false, ◌&&◌, not}
use mathlib.Core.List.{List, [], ◌∷◌}
use Prim.Native.Nat.{ℕ, zero, suc, ◌≤◌, ◌<◌}
use native.Mathlib.Omega.{arith}
use lib.ListN.{set}
use lib.Seq.{get_or-set_other}
use lib.Dec.{eqb, ltb, leb}
use borrow.Author.Tests.{ltb-true, ltb-false, lt-ltb, leb-true, le-leb, not-false}
use Rattle.target.specs.Pick.{pick}
use Rattle.target.specs.Address.{lun_of}
use Rattle.target.specs.Commands.{second_row, closes_copyback}
use Rattle.target.specs.Views.{completed, ending}
use Rattle.target.specs.Luns.{lun_ready, lun_unused, is_unused, lun_at, blank_at, all_readied}
use Rattle.target.specs.Events.{is_reset}
use Rattle.target.specs.declared.Lun.{Lun}
use Rattle.target.specs.declared.Event.{Event}
use Rattle.target.specs.declared.Geometry.{Geometry}
use Rattle.target.specs.declared.Findings.{Findings}
use Rattle.target.specs.declared.Sequence.{Sequence}
use Rattle.target.specs.declared.views.Given.{Given}
use Rattle.target.specs.declared.views.Given.TheVariants as given
use Rattle.target.specs.declared.commands.Act.{Act}
use Rattle.target.specs.declared.commands.Act.TheVariants as act
use Rattle.target.proofs.Both.{both, both4}
use Rattle.rules.specs.Rules.{row_fits, beyond}
use Rattle.lun_records.specs.LunsAfter.{one_more, blank_after, ended_luns, addressed_luns, luns_after}
use Rattle.step.specs.Usable.{sequence_sound, mark_sound, marks_sound}
use Rattle.thm_kept.proofs.Choice.{by-pick, and-true}
use Rattle.thm_kept.proofs.Views.{row_named, Completes, completes, Ending, ends}
use Rattle.std.specs.Prelude.{None, Option, Some}
use Rattle.target.specs.declared.views.Ended.{Ended}

-- what holds of the record that is stored and of every old one holds of every new one
set-or : (P : Lun → Type 0) (luns : List Lun) (i l : ℕ) (x : Lun) → P x → P (lun_at luns l) → P (lun_at (set luns i x) l)
set-or P [] i l x new old = old
set-or P (y ∷ ys) zero zero x new old = new
set-or P (y ∷ ys) zero (suc l) x new old = old
set-or P (y ∷ ys) (suc i) zero x new old = old
set-or P (y ∷ ys) (suc i) (suc l) x new old = set-or P ys i l x new old

unused-blank : (x : Lun) → is_unused x ≡ true → is_unused (lun_ready x.blank) ≡ true
unused-blank x h = (both (not x.working && not x.fail && not x.copyback) (eqb x.blank 0) h).1

module _ (g : Geometry) where
  -- at most all blocks are blank
  abbrev Within : Lun → Type 0
  Within x = x.blank ≤ g.blocks

  -- a LUN that exists is stored anew, within its blocks: the record of one that does not exist stays
  mark-past : (luns : List Lun) (i : ℕ) (x : Lun) (l : ℕ) → i < g.luns → Within x → (b : Bool) → ltb l g.luns ≡ b
      → pick b (leb (blank_at luns l) g.blocks) (is_unused (lun_at luns l)) ≡ true
      → pick b (leb (blank_at (set luns i x) l) g.blocks) (is_unused (lun_at (set luns i x) l)) ≡ true
  mark-past luns i x l h few true e k = le-leb _ _ (set-or Within luns i l x few (leb-true _ _ k))
  mark-past luns i x l h few false e k =
      let past : g.luns ≤ l = ltb-false l g.luns e in
      let same : lun_at (set luns i x) l ≡ lun_at luns l = get_or-set_other luns i l x lun_unused (λ (q : l ≡ i). omega arith) in
      subst (λ (y : Lun). is_unused y ≡ true) (sym same) k

  mark_set : (luns : List Lun) (i : ℕ) (x : Lun) (l : ℕ) → i < g.luns → Within x → mark_sound g luns l ≡ true
      → mark_sound g (set luns i x) l ≡ true
  mark_set luns i x l h few k = mark-past luns i x l h few (ltb l g.luns) refl k

  -- the four marks, one by one
  pub each-mark : (luns : List Lun) → mark_sound g luns 0 ≡ true → mark_sound g luns 1 ≡ true → mark_sound g luns 2 ≡ true
      → mark_sound g luns 3 ≡ true → marks_sound g luns ≡ true
  each-mark luns a b c d =
      and-true (mark_sound g luns 0 && mark_sound g luns 1 && mark_sound g luns 2) (mark_sound g luns 3)
      (and-true (mark_sound g luns 0 && mark_sound g luns 1) (mark_sound g luns 2)
      (and-true (mark_sound g luns 0) (mark_sound g luns 1) a b) c) d

  pub marks-set : (luns : List Lun) (i : ℕ) (x : Lun) → i < g.luns → x.blank ≤ g.blocks → marks_sound g luns ≡ true
      → marks_sound g (set luns i x) ≡ true
  marks-set luns i x h few k =
      let p = both4 (mark_sound g luns 0) (mark_sound g luns 1) (mark_sound g luns 2) (mark_sound g luns 3) k in
      each-mark (set luns i x) (mark_set luns i x 0 h few p.0) (mark_set luns i x 1 h few p.1)
      (mark_set luns i x 2 h few p.2) (mark_set luns i x 3 h few p.3)

  -- the number of a LUN that exists
  mark-within : (luns : List Lun) (l : ℕ) → l < g.luns → mark_sound g luns l ≡ true → blank_at luns l ≤ g.blocks
  mark-within luns l h k = leb-true _ _ (rw (lt-ltb _ _ h) at k)

  pub marks-within : (luns : List Lun) (l : ℕ) → l < g.luns → g.luns ≤ 4 → marks_sound g luns ≡ true → blank_at luns l ≤ g.blocks
  marks-within luns l h four k = within-four luns l h four (both4 (mark_sound g luns 0) (mark_sound g luns 1) (mark_sound g luns 2) (mark_sound g luns 3) k)
    where
      within-four : (luns : List Lun) (l : ℕ) → l < g.luns → g.luns ≤ 4
          → (mark_sound g luns 0 ≡ true) × (mark_sound g luns 1 ≡ true) × (mark_sound g luns 2 ≡ true) × (mark_sound g luns 3 ≡ true)
          → blank_at luns l ≤ g.blocks
      within-four luns zero h four p = mark-within luns 0 h p.0
      within-four luns (suc zero) h four p = mark-within luns 1 h p.1
      within-four luns (suc (suc zero)) h four p = mark-within luns 2 h p.2
      within-four luns (suc (suc (suc zero))) h four p = mark-within luns 3 h p.3
      within-four luns (suc (suc (suc (suc l)))) h four p = absurd (omega arith)

  -- FFh leaves the numbers
  mark-readied : (luns : List Lun) (l : ℕ) (b : Bool) → pick b (leb (blank_at luns l) g.blocks) (is_unused (lun_at luns l)) ≡ true
      → pick b (leb (blank_at luns l) g.blocks) (is_unused (lun_ready (blank_at luns l))) ≡ true
  mark-readied luns l true k = k
  mark-readied luns l false k = unused-blank (lun_at luns l) k

  all-readied-sound : (luns : List Lun) → marks_sound g luns ≡ true → marks_sound g (all_readied luns) ≡ true
  all-readied-sound luns k =
      let p = both4 (mark_sound g luns 0) (mark_sound g luns 1) (mark_sound g luns 2) (mark_sound g luns 3) k in
      each-mark (all_readied luns) (mark-readied luns 0 (ltb 0 g.luns) p.0) (mark-readied luns 1 (ltb 1 g.luns) p.1)
      (mark-readied luns 2 (ltb 2 g.luns) p.2) (mark-readied luns 3 (ltb 3 g.luns) p.3)

  -- the number stops at 0 and at the LUN's blocks
  more_within : (n : ℕ) → n ≤ g.blocks → one_more g n ≤ g.blocks
  more_within n h =
      by-pick (λ (m : ℕ). m ≤ g.blocks) (ltb n g.blocks) _ _ (λ is. omega (arith, ltb-true n g.blocks is)) (λ _. h)

  after-within : (a : Act) (says : Findings) (n : ℕ) → n ≤ g.blocks → blank_after g a says n ≤ g.blocks
  after-within act.Nothing says n h = h
  after-within act.Load says n h = h
  after-within act.Program says n h =
      by-pick (λ (m : ℕ). m ≤ g.blocks) (says.proceeds && says.blank) _ _ (λ _. omega (arith, h)) (λ _. h)
  after-within act.Erase says n h =
      by-pick (λ (m : ℕ). m ≤ g.blocks) (says.proceeds && not says.blank) _ _ (λ _. more_within n h) (λ _. h)
  after-within act.Move says n h = h

  ended-sound : (luns : List Lun) (found : Option Ended) (says : Findings) → g.luns ≤ 4 → Ending g found → marks_sound g luns ≡ true → marks_sound g (ended_luns g luns found says) ≡ true
  ended-sound luns None says four h k = k
  ended-sound luns (Some e) says four h k =
      by-pick (λ (x : List Lun). marks_sound g x ≡ true) (second_row e.second).starts _ _
      (λ is. marks-set luns (lun_of g e.row) _ (h.starts is)
      (after-within (second_row e.second).act says _ (marks-within luns (lun_of g e.row) (h.starts is) four k)) k)
      (λ _. k)

  -- a row that closes a copyback names a LUN that exists
  addressed-sound : (luns : List Lun) (x : Option Given) → g.luns ≤ 4 → Completes g x → beyond g x ≡ false → marks_sound g luns ≡ true
      → marks_sound g (addressed_luns g luns x) ≡ true
  addressed-sound luns None four h near k = k
  addressed-sound luns (Some (given.Column c)) four h near k = k
  addressed-sound luns (Some (given.Row r)) four h near k =
      let named = row_named g r.first r.row h (not-false (row_fits g r.first r.row) near) in
      by-pick (λ (x : List Lun). marks_sound g x ≡ true) (closes_copyback r.first) _ _ (λ _. marks-set luns _ _ named (marks-within luns _ named four k) k) (λ _. k)
  addressed-sound luns (Some (given.Single v)) four h near k = k

  pub marks-kept : (luns : List Lun) (s : Sequence) (e : Event) (says : Findings) → g.luns ≤ 4 → sequence_sound g s ≡ true → marks_sound g luns ≡ true
      → (eqb e.kind 1 ≡ true → beyond g (completed s e.value) ≡ false)
      → (eqb e.kind 4 ≡ true → e.value < g.luns)
      → marks_sound g (luns_after g luns s e says) ≡ true
  unfolding luns_after
  marks-kept luns s e says four h k near named =
      by-pick (λ (x : List Lun). marks_sound g x ≡ true) (is_reset e) _ _ (λ _. all-readied-sound luns k)
      (λ _. by-pick (λ (x : List Lun). marks_sound g x ≡ true) (eqb e.kind 0) _ _ (λ _. ended-sound luns (ending s e.value) says four (ends g s e.value h) k)
      (λ _. by-pick (λ (x : List Lun). marks_sound g x ≡ true) (eqb e.kind 1) _ _
      (λ is. addressed-sound luns (completed s e.value) four (completes g s e.value h) (near is) k)
      (λ _. by-pick (λ (x : List Lun). marks_sound g x ≡ true) (eqb e.kind 4) _ _ (λ is. marks-set luns e.value _ (named is) (marks-within luns e.value (named is) four k) k)
      (λ _. k))))
