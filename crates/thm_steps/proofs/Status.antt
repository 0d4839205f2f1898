-- "Work" and "Status", as specs/Steps.antt states them.
-- Assumes nothing.
use mathlib.Core.Path.{◌≡◌, refl, sym, ap, subst, ◌∙◌}
use mathlib.Core.Bool.{Bool, true, false, ◌||◌, not, false≢true}
use mathlib.Core.List.{List, [], ◌∷◌}
use Prim.Native.Nat.{ℕ, zero, suc}
use lib.ListN.{set}
use lib.Dec.{eqb}
use borrow.Author.Tests.{eqb-true, not-true}
use Rattle.target.specs.Pick.{pick, or_else}
use Rattle.target.specs.Events.{is_reset, bad_record}
use Rattle.target.specs.Address.{row_from, lun_of}
use Rattle.target.specs.Luns.{lun_at, lun_closed, works, failed}
use Rattle.target.specs.Place.{is_bare, put_out, shows_status, is_register_of, has_output}
use Rattle.target.specs.Views.{completed, ending, ended_with}
use Rattle.target.specs.Commands.{row_of, first_of, second_of, second_row, closes_copyback}
use Rattle.target.specs.declared.Column.{Column}
use Rattle.target.specs.declared.Row.{Row}
use Rattle.target.specs.declared.Lun.{Lun}
use Rattle.target.specs.declared.Geometry.{Geometry}
use Rattle.target.specs.declared.Event.{Event}
use Rattle.target.specs.declared.Target.{Target}
use Rattle.target.specs.declared.Findings.{Findings}
use Rattle.target.specs.declared.First.{First}
use Rattle.target.specs.declared.First.TheVariants as first
use Rattle.target.specs.declared.Second.TheVariants.{StartRead, StartOutput, StartProgram, StartErase, Move, StartCopyback}
use Rattle.target.specs.declared.RowCycles.{RowCycles}
use Rattle.target.specs.declared.Sequence.{Sequence}
use Rattle.target.specs.declared.Sequence.TheVariants.{Idle, Columns, Rows, Single, Due, Filling, Moving, Setting}
use Rattle.target.specs.declared.views.Given.{Given}
use Rattle.target.specs.declared.views.Given.TheVariants as given
use Rattle.target.specs.declared.Output.{Output}
use Rattle.target.specs.declared.Output.TheVariants as output
use Rattle.target.specs.declared.Refusal.TheVariants.{BeforeReset, Misplaced, LunWorks, PastEnd}
use Rattle.target.specs.declared.Reply.TheVariants as reply
use Rattle.rules.specs.Rules.{verdict, before_reset, misplaced, fits, lun_works, past_end, output_works, output_ended}
use Rattle.rules.proofs.ByKind.{out-verdict}
use Rattle.target.proofs.Both.{both}
use Rattle.lun_records.specs.LunsAfter.{addressed_luns, ended_luns, finished, luns_after}
use Rattle.effects.specs.Effects.{advanced, work_of, target_after, sequence_after, output_after, selected_after, clear_after, high_after}
use Rattle.memory.specs.Memory.{kept_after}
use Rattle.step.specs.Usable.{output_sound}
use Rattle.step.proofs.Sound.{sound, passes}
use Rattle.step.specs.Buffers.{registers_after, array_after, counts_after, status_of, output_byte}
use Rattle.step.specs.Step.{Buffers, Outcome, reply_of, worked, accepted_by, accepted, step_of}
use Rattle.thm_kept.proofs.Choice.{by-pick, then-not}
use Rattle.thm_steps.specs.Steps.{address, data_out, finish, last_row, decoding, begins_work, Work, Status, Live}
use Rattle.thm_steps.proofs.Places.{by-ending, closes-80}
use Rattle.thm_steps.proofs.Taken.{put, accepts, left_by, left_at, left-first}
use Rattle.std.specs.Prelude.{Err, None, Ok, Option, Result, Some}
use Rattle.target.specs.declared.views.Ended.{Ended}
use Rattle.target.specs.declared.Refusal.{Refusal}
use Rattle.target.specs.declared.Second.{Second}

-- Work: a second command that is none of 30h, 35h, 10h and D0h leaves the LUN records.

abbrev found_starts : Option Second → Bool
found_starts None = false
found_starts (Some s) = (second_row s).starts

by_tests : (a c p q o m : Bool) → (a || c || p || q) ≡ false
    → found_starts (pick a (Some StartRead) (pick o (Some StartOutput) (pick p (Some StartProgram)
    (pick q (Some StartErase) (pick m (Some Move) (pick c (Some StartCopyback) None))))))
    ≡ false
unfolding second_row
by_tests true c p q o m h = absurd (false≢true (sym h))
by_tests false true p q o m h = absurd (false≢true (sym h))
by_tests false false true q o m h = absurd (false≢true (sym h))
by_tests false false false true o m h = absurd (false≢true (sym h))
by_tests false false false false true m h = refl
by_tests false false false false false true h = refl
by_tests false false false false false false h = refl

starts_none : (v : ℕ) → (eqb v 0x30 || eqb v 0x35 || eqb v 0x10 || eqb v 0xd0) ≡ false → found_starts (second_of v) ≡ false
unfolding second_of second_row
starts_none v h = by_tests (eqb v 0x30) (eqb v 0x35) (eqb v 0x10) (eqb v 0xd0) (eqb v 0xe0) (eqb v 0x85) h

pub not_yes : (a : Bool) → (a ≡ true → ⊥) → a ≡ false
not_yes true h = absurd (h refl)
not_yes false h = refl

-- a record that says of this the same as the one it takes the place of
pub stored-leaves : {A : Type 0} (says : Lun → A) (luns : List Lun) (i l : ℕ) (y : Lun) → says y ≡ says (lun_at luns i)
    → says (lun_at (set luns i y) l) ≡ says (lun_at luns l)
stored-leaves says [] i l y same = refl
stored-leaves says (x ∷ xs) zero zero y same = same
stored-leaves says (x ∷ xs) zero (suc l) y same = refl
stored-leaves says (x ∷ xs) (suc i) zero y same = refl
stored-leaves says (x ∷ xs) (suc i) (suc l) y same = stored-leaves says xs i l y same

-- a row that closes a copyback leaves what else the records say
module _ (g : Geometry) (luns : List Lun) where
  pub row-leaves : {A : Type 0} (says : Lun → A) → ((x : Lun) → says (lun_closed x) ≡ says x) → (k : Option Given) (l : ℕ)
      → says (lun_at (addressed_luns g luns k) l) ≡ says (lun_at luns l)
  row-leaves says same None l = refl
  row-leaves says same (Some (given.Column k)) l = refl
  row-leaves says same (Some (given.Row k)) l =
      by-pick (λ (x : List Lun). says (lun_at x l) ≡ says (lun_at luns l)) (closes_copyback k.first) _ _
      (λ _. stored-leaves says luns (lun_of g k.row) l _ (same _)) (λ _. refl)
  row-leaves says same (Some (given.Single k)) l = refl

  -- and where it is not the last cycle of 80h's row, all
  last-leaves : (k : RowCycles) → ((c : Column) (low mid : ℕ) → Rows k ≡ last_row first.Program c low mid → ⊥)
      → eqb k.got 2 ≡ true → closes_copyback k.first ≡ false
  last-leaves k other last =
      not_yes (closes_copyback k.first) (λ is. other k.column k.low k.mid
      (ap (λ (n : ℕ). Rows (record { first = k.first; column = k.column; got = n; low = k.low; mid = k.mid })) (eqb-true k.got 2 last)
      ∙ ap (λ (f : First). last_row f k.column k.low k.mid) (closes-80 k.first is)))

  no-row-closes : (s : Sequence) (v : ℕ) → ((c : Column) (low mid : ℕ) → s ≡ last_row first.Program c low mid → ⊥)
      → addressed_luns g luns (completed s v) ≡ luns
  no-row-closes Idle v other = refl
  no-row-closes (Columns k) v other = by-pick (λ (x : Option Given). addressed_luns g luns x ≡ luns) (eqb k.got 1) _ _ (λ _. refl) (λ _. refl)
  no-row-closes (Rows k) v other =
      by-pick (λ (x : Option Given). addressed_luns g luns x ≡ luns) (eqb k.got 2) _ _
      (λ last. ap (λ (x : Bool). pick x (set luns (lun_of g (row_from k.low k.mid v)) (lun_closed (lun_at luns (lun_of g (row_from k.low k.mid v))))) luns) (last-leaves k other last))
      (λ _. refl)
  no-row-closes (Single f) v other = refl
  no-row-closes (Due k) v other = refl
  no-row-closes (Filling k) v other = refl
  no-row-closes (Moving k) v other = by-pick (λ (x : Option Given). addressed_luns g luns x ≡ luns) (eqb k.got 1) _ _ (λ _. refl) (λ _. refl)
  no-row-closes (Setting k) v other = refl

module _ (g : Geometry) (luns : List Lun) (found : Findings) where
  quiet-found : (k : Option Second) (f : First) (c : Column) (r : Row) → found_starts k ≡ false → ended_luns g luns (ended_with k f c r) found ≡ luns
  quiet-found None f c r h = refl
  quiet-found (Some s) f c r h = rw (h)

  quiet : (v : ℕ) → found_starts (second_of v) ≡ false → (s : Sequence) → ended_luns g luns (ending s v) found ≡ luns
  quiet v h s = by-ending (λ (x : Option Ended). ended_luns g luns x found ≡ luns) v refl (λ f c r. quiet-found (second_of v) f c r h) s

  -- so what holds of the records as they are, and after a row, holds after every event that neither begins nor ends work
  else-by : (P : List Lun → Type 0) (s : Sequence) (e : Event) → begins_work e ≡ false → eqb e.kind 4 ≡ false → is_reset e ≡ false
      → P luns → (eqb e.kind 1 ≡ true → P (addressed_luns g luns (completed s e.value)))
      → P (luns_after g luns s e found)
  unfolding luns_after
  else-by P s e begins four ff same row =
      by-pick P (is_reset e) _ _ (λ is. absurd (false≢true (sym ff ∙ is)))
      (λ _. by-pick P (eqb e.kind 0) _ _
      (λ is. subst P (sym (quiet e.value (starts_none e.value (then-not (eqb e.kind 0) (eqb e.value 0x30 || eqb e.value 0x35 || eqb e.value 0x10 || eqb e.value 0xd0) begins is)) s)) same)
      (λ _. by-pick P (eqb e.kind 1) _ _ row
      (λ _. by-pick P (eqb e.kind 4) _ _ (λ is. absurd (false≢true (sym four ∙ is))) (λ _. same))))

  else-says : (says : Lun → Bool) → ((x : Lun) → says (lun_closed x) ≡ says x) → (s : Sequence) (e : Event)
      → begins_work e ≡ false → eqb e.kind 4 ≡ false → is_reset e ≡ false
      → (l : ℕ) → says (lun_at (luns_after g luns s e found) l) ≡ says (lun_at luns l)
  else-says says same s e begins four ff l =
      else-by (λ (x : List Lun). says (lun_at x l) ≡ says (lun_at luns l)) s e begins four ff refl
      (λ _. row-leaves g luns says same (completed s e.value) l)

finished-luns : (t : Target) (l : ℕ) (found : Findings) → luns_after t.geometry t.luns t.decoder.sequence (finish l) found ≡ finished t.luns l
unfolding luns_after
finished-luns t l found = refl

pub none-70 : second_of 0x70 ≡ None
unfolding second_of second_row
none-70 = refl

-- Status: a data-out cycle is accepted where there is more to give, and refused with 8 where there is not.

pick-not : (x : Bool) (a b : Output) → pick (not x) a b ≡ pick x b a
pick-not true a b = refl
pick-not false a b = refl

-- the verdict on a data-out cycle that puts this out
abbrev pub on_out : Target → Bool → Output → Result Unit Refusal
on_out t seen o =
    or_else (not seen) BeforeReset (or_else (not (has_output o)) Misplaced (or_else (output_works t.luns o) LunWorks (or_else (output_ended t.geometry o) PastEnd (Ok tt))))

pub on_out_lem : (t : Target) → verdict t data_out ≡ on_out t t.seen (put_out t.decoder)
unfolding or_else bad_record before_reset misplaced fits lun_works past_end
on_out_lem t = out-verdict t 0

pub puts-out : (t : Target) (o : Output) → t.seen ≡ true → put_out t.decoder ≡ o → verdict t data_out ≡ on_out t true o
puts-out t o seen h = on_out_lem t ∙ ap (λ (x : Bool). on_out t x (put_out t.decoder)) seen ∙ ap (on_out t true) h

pub more-out : (t : Target) (o : Output) → has_output o ≡ true → output_works t.luns o ≡ false → output_ended t.geometry o ≡ false → on_out t true o ≡ (Ok tt)
unfolding or_else
more-out t o h k l = rw (h, k, l)

pub none_out : (t : Target) (o : Output) → has_output o ≡ true → output_works t.luns o ≡ false → output_ended t.geometry o ≡ true → on_out t true o ≡ Err PastEnd
unfolding or_else
none_out t o h k l = rw (h, k, l)

-- a status is never kept, so that a data-out cycle that gives one finds it open
status-open : (t : Target) (l : ℕ) (x : Bool) → shows_status t.decoder.kept ≡ false → is_bare t.decoder.sequence ≡ x → pick x t.decoder.kept t.decoder.output ≡ output.Status l
    → is_bare t.decoder.sequence ≡ false
status-open t l true none is h = absurd (false≢true (sym none ∙ ap shows_status h))
status-open t l false none is h = is

module _ (t : Target) (params : List ℕ) (b : Buffers) (flags : List ℕ) where
  pub given_out : (o : Output) → put_out t.decoder ≡ o → Live t params b flags → has_output o ≡ true → output_works t.luns o ≡ false → output_ended t.geometry o ≡ false
      → step_of t data_out params b flags ≡ accepted t data_out params b flags
  given_out o s live h k l = accepts t data_out params b flags live.passes (puts-out t o live.seen s ∙ more-out t o h k l)

  -- the record after a data-out cycle that gives a status is the one before it
  abbrev still : Bool → Bool → Output → Target
  still seen x o = record {
    powered = t.powered;
    geometry = t.geometry;
    words = t.words;
    ids = t.ids;
    high = t.high;
    clear = t.clear;
    seen = seen || false;
    selected = t.selected;
    luns = t.luns;
    decoder = record { sequence = pick x Idle t.decoder.sequence; output = o; kept = pick x output.Nothing t.decoder.kept };
  }

  out-left : (accepted t data_out params b flags).target ≡ still t.seen (is_bare t.decoder.sequence) (advanced (put_out t.decoder))
  unfolding accepted accepted_by target_after luns_after sequence_after output_after kept_after selected_after clear_after high_after
  out-left = refl

  status-stays : (l : ℕ) → put_out t.decoder ≡ output.Status l → Live t params b flags → (accepted t data_out params b flags).target ≡ t
  status-stays l s live =
      let held = (sound t (passes t params b.array b.registers b.counts flags live.passes).record-sound).kept in
      let none = not-true (shows_status t.decoder.kept) (both (output_sound t.geometry t.decoder.kept) (not (shows_status t.decoder.kept)) held).1 in
      let plain = status-open t l (is_bare t.decoder.sequence) none refl s in
      let same = ap advanced s ∙ sym s ∙ ap (λ (x : Bool). pick x t.decoder.kept t.decoder.output) plain in
      let seen : (t.seen || false) ≡ t.seen = ap (λ (x : Bool). x || false) live.seen ∙ sym live.seen in
      out-left ∙ ap (λ (x : Bool). still t.seen x (advanced (put_out t.decoder))) plain ∙ ap (still t.seen false) same
      ∙ ap (λ (x : Bool). put t x t.decoder.sequence t.decoder.output) seen

  pub working-luns : Work t params b flags
  unfolding accepted accepted_by target_after
  working-luns = record {
    finishes = λ l h. ap (λ (o : Outcome). o.target.luns) (left_by t (finish l) params b flags h) ∙ finished-luns t l _;
    else-as-it-is = λ e h begins four ff l.
        let p = ap (λ (o : Outcome). o.target.luns) (left_by t e params b flags h) in (
          ap (λ (x : List Lun). works x l) p
              ∙ else-says t.geometry t.luns _ (λ (x : Lun). x.working) (λ _. refl) t.decoder.sequence e begins four ff l,
          ap (λ (x : List Lun). failed x l) p
              ∙ else-says t.geometry t.luns _ (λ (x : Lun). x.fail) (λ _. refl) t.decoder.sequence e begins four ff l,
        );
    only-a-row = λ e h begins four ff other.
        ap (λ (o : Outcome). o.target.luns) (left_by t e params b flags h)
        ∙ else-by t.geometry t.luns _ (λ (x : List Lun). x ≡ t.luns) t.decoder.sequence e begins four ff refl
        (λ is. no-row-closes t.geometry t.luns t.decoder.sequence e.value (λ c low mid at. false≢true (sym (other c low mid at) ∙ is)));
  }

  pub status : Status t params b flags
  unfolding accepted accepted_by reply_of worked work_of target_after luns_after sequence_after output_after kept_after registers_after array_after counts_after output_byte status_of row_of first_of
  status = record {
    of-selected = λ h. ap (λ (o : Outcome). o.target.decoder) (left-first t params b flags 0x70 refl none-70 h);
    of_row = λ c low mid v s h.
        let l = lun_of t.geometry (row_from low mid v) in
        ap (λ (o : Outcome). o.target.decoder) (left_at t (address v) params b flags (last_row first.StatusEnhanced c low mid) s h)
        ∙ ap (decoding Idle (output.Status l)) (pick-not (is_register_of l t.decoder.kept) output.Nothing t.decoder.kept);
    gives = λ l s live.
        ap (λ (o : Outcome). o.reply) (given_out (output.Status l) s live refl refl refl)
        ∙ ap (λ (o : Output). reply.Byte (output_byte t params b.registers o)) s;
    stays = λ l s live.
        let p = given_out (output.Status l) s live refl refl refl in
        (ap (λ (o : Outcome). o.target) p ∙ status-stays l s live, ap (λ (o : Outcome). o.buffers) p);
  }
