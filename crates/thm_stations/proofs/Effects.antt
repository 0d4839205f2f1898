-- What an accepted cycle of a job does: its work, its LUN records, its answer and the decoder after it have to do with no
-- LUN but the job's, and are the same for two targets that agree on that LUN. All of it goes by the views of the open
-- sequence.
-- Assumes nothing.
use mathlib.Core.Path.{◌≡◌, refl, sym, ap, ◌∙◌}
use mathlib.Core.Bool.{Bool, true, false, ◌&&◌, ◌||◌, not, false≢true}
use mathlib.Core.List.{List, ◌∷◌}
use Prim.Native.Nat.{ℕ, ◌*◌}
use lib.ListN.{set}
use lib.Dec.{eqb, leb}
use borrow.Author.Tests.{leb-false, not-true}
use Rattle.slices.proofs.Parts.{get_or-alike}
use Rattle.target.specs.Address.{lun_of, block_exists, row_exists}
use Rattle.target.specs.Commands.{clears_register, closes_copyback, waits_for, cycles_of, first_of, second_row}
use Rattle.target.specs.Luns.{lun_at, lun_begun, lun_closed, blank_at}
use Rattle.target.specs.Pick.{pick}
use Rattle.target.specs.Place.{is_open, is_bare}
use Rattle.target.specs.Sizes.{page_size}
use Rattle.target.specs.Views.{completed, taking, ending}
use Rattle.target.specs.declared.Row.{Row}
use Rattle.target.specs.declared.Decoder.{Decoder}
use Rattle.target.specs.declared.Findings.{Findings}
use Rattle.target.specs.Words.{has_feature}
use Rattle.target.specs.declared.Geometry.{Geometry}
use Rattle.target.specs.declared.Words.{Words}
use Rattle.target.specs.declared.Lun.{Lun}
use Rattle.target.specs.declared.Sequence.{Sequence}
use Rattle.target.specs.declared.Output.{Output}
use Rattle.target.specs.declared.Output.TheVariants as output
use Rattle.target.specs.declared.Reply.TheVariants as reply
use Rattle.target.specs.declared.Work.TheVariants as work
use Rattle.target.specs.declared.commands.Act.{Act}
use Rattle.target.specs.declared.commands.Act.TheVariants as act
use Rattle.target.specs.declared.views.Given.{Given}
use Rattle.target.specs.declared.views.Given.TheVariants as given
use Rattle.target.specs.declared.views.Taker.{Taker}
use Rattle.target.specs.declared.views.Taker.TheVariants as taker
use Rattle.target.proofs.Both.{both}
use Rattle.rules.specs.Rules.{fits, output_ended, past_end}
use Rattle.effects.specs.Effects.{sequence_after, ended_output, first_output, command_output, output_after, clear_set, clear_after, high_after, target_after, acted, ended_work, first_work, command_work, address_work, data_work, work_of}
use Rattle.memory.specs.Memory.{kept_after}
use Rattle.lun_records.specs.LunsAfter.{blank_after, end_closes, ended_luns, addressed_luns, luns_after}
use Rattle.step.specs.Usable.{sequence_sound}
use Rattle.blocks.specs.Blocks.{block_index, page_full, out_of_order, block_bad, blank_block}
use Rattle.blocks.proofs.Places.{row_block}
use Rattle.step.specs.Buffers.{proceeds, was_blank, ended_findings, findings, status_of, output_byte}
use Rattle.step.specs.Step.{Buffers, reply_of, Reaches, EnderReaches}
use Rattle.step.proofs.WorkReady.{ender-reaches}
use Rattle.thm_kept.proofs.Choice.{by-pick}
use Rattle.jobs.specs.Cycles.{Cycle, command, address, data_in, data_out}
use Rattle.thm_stations.specs.Jobs.{event_of}
use Rattle.thm_stations.proofs.Agreement.{RegisterAgrees, CountsAgree, SizesOf}
use Rattle.thm_stations.proofs.OwnWork.{Mine, count-alike, higher-alike, blank-alike}
use Rattle.thm_stations.proofs.Records.{Changed, as-were, become-by, changed-pick}
use Rattle.thm_stations.proofs.Halves.{Fixed, fixed_of, made, refixed}
use Rattle.thm_stations.proofs.Course.{held, is_nobody, aimed_found, Plain, plainly, EndedOf, GivenOf, TakerOf, OutputOf, CycleOf, Course, Spared, spared-behind, sequence-any, fits-any, Standing, equal, Alike}
use Rattle.std.specs.Prelude.{None, Option, Some}
use Rattle.target.specs.declared.views.Ended.{Ended}
use Rattle.target.specs.declared.First.{First}

module _ (g : Geometry) (l : ℕ) where
  -- The work is the LUN's own.

  nothing-mine : Mine g l work.Nothing
  unfolding Mine
  nothing-mine = tt

  acted-mine : (a : Act) (r : Row) (found : Findings) → lun_of g r ≡ l → Mine g l (acted a r found)
  unfolding Mine
  acted-mine act.Nothing r found q = tt
  acted-mine act.Load r found q = q
  acted-mine act.Program r found q =
      by-pick (Mine g l) found.proceeds (work.Program r) work.Nothing (λ _. q) (λ _. tt)
  acted-mine act.Erase r found q = by-pick (Mine g l) found.proceeds (work.Erase r) work.Nothing (λ _. q) (λ _. tt)
  acted-mine act.Move r found q = tt

  ended-mine : (x : Option Ended) (found : Findings) → EndedOf g l x → Mine g l (ended_work x found)
  unfolding EndedOf
  ended-mine None found w = nothing-mine
  ended-mine (Some k) found w = acted-mine (second_row k.second).act k.row found w.1

  -- with program-clear on a first command fills no register
  first-mine : (clear : Bool) → clear ≡ true → (x : Option First) → Mine g l (first_work clear x)
  first-mine clear on None = nothing-mine
  first-mine clear on (Some f) =
      by-pick (Mine g l) (clears_register f && not clear) work.ClearAll work.Nothing
      (λ h. absurd (false≢true (rw on at (both (clears_register f) (not clear) h).1)))
      (λ _. nothing-mine)

  command-mine : (clear : Bool) → clear ≡ true → (s : Sequence) (v : ℕ) (found : Findings) → EndedOf g l (ending s v)
      → Mine g l (command_work clear s v found)
  command-mine clear on s v found w =
      by-pick (Mine g l) (is_open s) (ended_work (ending s v) found) (first_work clear (first_of v))
      (λ _. ended-mine (ending s v) found w)
      (λ _. first-mine clear on (first_of v))

  address-mine : (clear : Bool) (x : Option Given) → GivenOf g l x → Mine g l (address_work g clear x)
  unfolding GivenOf Mine
  address-mine clear None w = tt
  address-mine clear (Some (given.Column k)) w = tt
  address-mine clear (Some (given.Row k)) w =
      by-pick (Mine g l) (clears_register k.first && clear) (work.ClearOne (lun_of g k.row)) work.Nothing (λ _. w)
      (λ _. tt)
  address-mine clear (Some (given.Single k)) w = tt

  data-mine : (x : Option Taker) (v : ℕ) → TakerOf g l x → Mine g l (data_work g x v)
  unfolding TakerOf Mine
  data-mine None v w = tt
  data-mine (Some (taker.Program k)) v w = w
  data-mine (Some (taker.Feature k)) v w = tt

  pub work-mine : (clear : Bool) → clear ≡ true → (s : Sequence) (o : Output) (c : Cycle) (found : Findings)
      → CycleOf g l c s o → Mine g l (work_of g clear s (event_of c) found)
  unfolding CycleOf work_of
  work-mine clear on s o (command v) found keeps =
      rw (plainly v keeps.0).no-reset (command-mine clear on s v found keeps.1)
  work-mine clear on s o (address v) found keeps = address-mine clear (completed s v) keeps
  work-mine clear on s o (data_in v) found keeps = data-mine (taking s) v keeps
  work-mine clear on s o data_out found keeps = nothing-mine

  -- The LUN records.

  module _ (xs ys : List Lun) (lun : lun_at xs l ≡ lun_at ys l) where
    begun-changed : (m : ℕ) (fail opens closes : Bool) (a : Act) (found : Findings) → m ≡ l
        → Changed l xs ys (set xs m (lun_begun (lun_at xs m) fail opens closes (blank_after g a found (blank_at xs m))))
        (set ys m (lun_begun (lun_at ys m) fail opens closes (blank_after g a found (blank_at ys m))))
    begun-changed m fail opens closes a found q =
        rw q (become-by (λ (u : Lun). lun_begun u fail opens closes (blank_after g a found u.blank)) lun)

    closed-changed : (m : ℕ) → m ≡ l → Changed l xs ys (set xs m (lun_closed (lun_at xs m))) (set ys m (lun_closed (lun_at ys m)))
    closed-changed m q = rw q (become-by lun_closed lun)

    addressed-changed : (x : Option Given) → GivenOf g l x → Changed l xs ys (addressed_luns g xs x) (addressed_luns g ys x)
    unfolding GivenOf
    addressed-changed None w = as-were
    addressed-changed (Some (given.Column k)) w = as-were
    addressed-changed (Some (given.Row k)) w = changed-pick (closes_copyback k.first) (closed-changed (lun_of g k.row) w)
    addressed-changed (Some (given.Single k)) w = as-were

    ended-changed : (x : Option Ended) (found : Findings) → EndedOf g l x
        → Changed l xs ys (ended_luns g xs x found) (ended_luns g ys x found)
    unfolding EndedOf
    ended-changed None found w = as-were
    ended-changed (Some k) found w =
        changed-pick (second_row k.second).starts (begun-changed (lun_of g k.row) (not found.proceeds) (second_row k.second).opens (end_closes k)
        (second_row k.second).act found w.1)

    pub luns-changed : (s : Sequence) (o : Output) (c : Cycle) (found : Findings) → CycleOf g l c s o
        → Changed l xs ys (luns_after g xs s (event_of c) found) (luns_after g ys s (event_of c) found)
    unfolding CycleOf luns_after
    luns-changed s o (command v) found keeps =
        rw (plainly v keeps.0).no-reset (ended-changed (ending s v) found keeps.1)
    luns-changed s o (address v) found keeps = addressed-changed (completed s v) keeps
    luns-changed s o (data_in v) found keeps = as-were
    luns-changed s o data_out found keeps = as-were

  -- The decoder, whatever LUN is selected and whatever was put out before.

  ended-any : (x : Option Ended) (a b : ℕ) → EndedOf g l x → ended_output g a x ≡ ended_output g b x
  unfolding EndedOf
  ended-any None a b w = refl
  ended-any (Some k) a b w = rw w.0

  first_any : (x : Option First) (a b : ℕ) → aimed_found x ≡ true → first_output a x ≡ first_output b x
  first_any None a b h = refl
  first_any (Some f) a b h =
      rw (not-true (eqb (cycles_of f) 0) (both (is_nobody (waits_for f)) (not (eqb (cycles_of f) 0)) h).1)

  command-any : (s : Sequence) (v a b : ℕ) → Plain v → EndedOf g l (ending s v)
      → command_output g a s v ≡ command_output g b s v
  command-any s v a b p w = rw (ended-any (ending s v) a b w, first_any (first_of v) a b p.is-aimed)

  output-any : (s : Sequence) (c : Cycle) {cs : List Cycle} {o p : Output} (i j : Output) (a b : ℕ) → Standing (c ∷ cs) o p
      → CycleOf g l c s o → output_after g a (held s o i) (event_of c) ≡ output_after g b (held s p j) (event_of c)
  unfolding CycleOf output_after
  output-any s (command v) i j a b standing keeps =
      rw (plainly v keeps.0).no-reset (command-any s v a b (plainly v keeps.0) keeps.1)
  output-any s (address v) i j a b equal keeps = refl
  output-any s (data_in v) i j a b equal keeps = refl
  output-any s data_out i j a b equal keeps = rw keeps.0

  -- the decoder after a cycle, with whatever is kept
  abbrev decoder_after : ℕ → Decoder → Cycle → Decoder
  decoder_after a d c = held (sequence_after d (event_of c)) (output_after g a d (event_of c)) (kept_after g d (event_of c))

  pub decoder-alike : (s : Sequence) (c : Cycle) (cs : List Cycle) {o p : Output} (i j : Output) (a b : ℕ)
      → Standing (c ∷ cs) o p → Course g l (c ∷ cs) s o → Spared g l cs → fits (held s o i) (event_of c) ≡ true
      → Alike g l cs (decoder_after a (held s o i) c) (decoder_after b (held s p j) c)
  unfolding Course
  decoder-alike s c cs {o} {p} i j a b standing course spared fit =
      let same = output-any s c i j a b standing course.0 in
      let here = output-any s c {cs = cs} i output.Nothing a l equal course.0 in
      let opened = sequence-any g l s c o o i output.Nothing course.0 in
      record {
        sequence = sequence-any g l s c o p i j course.0;
        standing = rw (← same) equal;
        course = rw (here, opened) (course.1 (fits-any g l s c o output.Nothing i course.0 ∙ fit));
        rest = spared-behind g l cs spared;
      }

-- What a second command asks of the buffers: whether it proceeds, and whether its block is blank.
module _ (g : Geometry) (l : ℕ) (flags : List ℕ) (B C : Buffers) (sizes : SizesOf g B) (sizesʳ : SizesOf g C) (agree : CountsAgree g l B C) where
  full-alike : (r : Row) → row_exists g r ≡ true → lun_of g r ≡ l → page_full g r B.counts ≡ page_full g r C.counts
  unfolding page_full
  full-alike r there q = ap (leb g.programs) (count-alike g B C sizes sizesʳ r there (rw q agree))

  order_alike : (w : Words) (r : Row) → row_exists g r ≡ true → lun_of g r ≡ l → out_of_order g w r B.counts ≡ out_of_order g w r C.counts
  unfolding out_of_order
  order_alike w r there q = ap (λ (x : Bool). not (has_feature w 2) && x) (higher-alike g B C sizes sizesʳ r there (rw q agree))

  -- a program looks at its page, which exists, and at the higher pages of its block
  proceeds-alike : (w : Words) (a : Act) (r : Row) → Reaches g a r → lun_of g r ≡ l
      → proceeds g w a r B.counts flags ≡ proceeds g w a r C.counts flags
  unfolding Reaches
  proceeds-alike w act.Nothing r there q = refl
  proceeds-alike w act.Load r there q = refl
  proceeds-alike w act.Program r there q = λ j. not (block_bad g r flags || full-alike r there q j || order_alike w r there q j)
  proceeds-alike w act.Erase r there q = refl
  proceeds-alike w act.Move r there q = refl

  -- a program's block and an erase's exist
  block-alike : (r : Row) → block_exists g r ≡ true → lun_of g r ≡ l
      → blank_block g (block_index g r) B.counts flags ≡ blank_block g (block_index g r) C.counts flags
  block-alike r there q = blank-alike g B C sizes sizesʳ flags r there (rw q agree)

  blank-found : (a : Act) (r : Row) → Reaches g a r → lun_of g r ≡ l
      → was_blank g a r B.counts flags ≡ was_blank g a r C.counts flags
  unfolding Reaches
  blank-found act.Nothing r there q = refl
  blank-found act.Load r there q = refl
  blank-found act.Program r there q = block-alike r (row_block g r there) q
  blank-found act.Erase r there q = block-alike r there q
  blank-found act.Move r there q = refl

  ended-findings : (w : Words) (x : Option Ended) → EnderReaches g x → EndedOf g l x
      → ended_findings g w x B.counts flags ≡ ended_findings g w x C.counts flags
  unfolding EndedOf EnderReaches
  ended-findings words None there w = refl
  ended-findings words (Some k) there w =
      let a = (second_row k.second).act in
      λ j. record { proceeds = proceeds-alike words a k.row there w.1 j; blank = blank-found a k.row there w.1 j }

  pub findings-alike : (w : Words) (s : Sequence) (o : Output) (c : Cycle) → sequence_sound g s ≡ true → CycleOf g l c s o
      → findings g w s (event_of c) B.counts flags ≡ findings g w s (event_of c) C.counts flags
  unfolding CycleOf findings
  findings-alike w s o (command v) ok keeps = ended-findings w (ending s v) (ender-reaches g s v ok) keeps.1
  findings-alike w s o (address v) ok keeps = refl
  findings-alike w s o (data_in v) ok keeps = refl
  findings-alike w s o data_out ok keeps = refl

-- The answer.
module _ (k : Fixed) (l a b : ℕ) (xs ys : List Lun) (lun : lun_at xs l ≡ lun_at ys l) (params : List ℕ) (B C : Buffers) (agree : RegisterAgrees k.geometry l B C) where
  status-alike : (d e : Decoder) → status_of (made k a xs d) l ≡ status_of (made k b ys e) l
  unfolding status_of
  status-alike d e = rw lun

  byte-alike : (d e : Decoder) (o : Output) → OutputOf l o → output_ended k.geometry o ≡ false
      → output_byte (made k a xs d) params B.registers o ≡ output_byte (made k b ys e) params C.registers o
  unfolding OutputOf output_byte
  byte-alike d e output.Nothing q ended = refl
  byte-alike d e (output.Register m c) q ended =
      let size = page_size k.geometry in
      rw q (get_or-alike B.registers C.registers (l * size) size agree c.0 (leb-false _ _ ended))
  byte-alike d e (output.Parameters at) q ended = absurd q
  byte-alike d e (output.Status m) q ended = rw q (status-alike d e)
  byte-alike d e (output.Ids at) q ended = absurd q
  byte-alike d e (output.Signature at) q ended = absurd q
  byte-alike d e (output.Feature at) q ended = absurd q

  -- data out that is not after a bare 00h gives the output that is open
  out-alike : (s : Sequence) (o i j : Output) (x : Bool) → x ≡ false → OutputOf l o → output_ended k.geometry (pick x i o) ≡ false
      → output_byte (made k a xs (held s o i)) params B.registers (pick x i o) ≡ output_byte (made k b ys (held s o j)) params C.registers (pick x j o)
  out-alike s o i j true plain q ended = absurd (false≢true (sym plain))
  out-alike s o i j false plain q ended = byte-alike (held s o i) (held s o j) o q ended

  pub reply-alike : (s : Sequence) (c : Cycle) {cs : List Cycle} {o p : Output} (i j : Output) → Standing (c ∷ cs) o p
      → CycleOf k.geometry l c s o → past_end k.geometry (held s o i) (event_of c) ≡ false
      → reply_of (made k a xs (held s o i)) (event_of c) params B.registers ≡ reply_of (made k b ys (held s p j)) (event_of c) params C.registers
  unfolding CycleOf reply_of past_end
  reply-alike s (command v) i j standing keeps ended = refl
  reply-alike s (address v) i j standing keeps ended = refl
  reply-alike s (data_in v) i j standing keeps ended = refl
  reply-alike s data_out {o = o} i j equal keeps ended = ap reply.Byte (out-alike s o i j (is_bare s) keeps.0 keeps.1 ended)

-- The fixed half.
pub or-none : (a : Bool) {b : Bool} → b ≡ false → (a || b) ≡ a
or-none true h = refl
or-none false h = h

clear_kept : (g : Geometry) (l : ℕ) (clear : Bool) (x : Option Taker) → TakerOf g l x → clear_set clear x ≡ clear
unfolding TakerOf
clear_kept g l clear None w = refl
clear_kept g l clear (Some (taker.Program k)) w = refl
clear_kept g l clear (Some (taker.Feature k)) w = absurd w

pub fixed_kept : (k : Fixed) (l a : ℕ) (xs : List Lun) (s : Sequence) (o p i : Output) (c : Cycle) (found : Findings)
    → CycleOf k.geometry l c s o → fixed_of (target_after (made k a xs (held s p i)) (event_of c) found) ≡ k
unfolding CycleOf target_after high_after clear_after
fixed_kept k l a xs s o p i (command v) found keeps =
    refixed k (rw (plainly v keeps.0).no-reset) (or-none k.seen (plainly v keeps.0).no-reset)
fixed_kept k l a xs s o p i (address v) found keeps = refixed k refl (or-none k.seen refl)
fixed_kept k l a xs s o p i (data_in v) found keeps =
    refixed k (clear_kept k.geometry l k.clear (taking s) keeps) (or-none k.seen refl)
fixed_kept k l a xs s o p i data_out found keeps = refixed k refl (or-none k.seen refl)
