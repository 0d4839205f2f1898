-- A cycle of a job, and a finish event, get the same verdict from two targets that agree on their LUN.
-- Assumes nothing.
use mathlib.Core.Path.{◌≡◌, refl, ap}
use mathlib.Core.Bool.{true, false, not, false≢true}
use mathlib.Core.List.{List, ◌∷◌}
use Prim.Native.Nat.{ℕ}
use lib.Dec.{eqb}
use Rattle.target.specs.Address.{lun_of}
use Rattle.target.specs.Commands.{first_of, waits_for, cycles_of}
use Rattle.target.specs.Events.{bad_record}
use Rattle.target.specs.Luns.{lun_at, works, copyback_at}
use Rattle.target.specs.Views.{completed}
use Rattle.target.specs.declared.Lun.{Lun}
use Rattle.target.specs.declared.Decoder.{Decoder}
use Rattle.target.specs.declared.Sequence.{Sequence}
use Rattle.target.specs.declared.Output.{Output}
use Rattle.target.specs.declared.Output.TheVariants as output
use Rattle.target.specs.declared.commands.Waits.{Waits}
use Rattle.target.specs.declared.commands.Waits.TheVariants as waits
use Rattle.target.specs.declared.views.Given.{Given}
use Rattle.target.specs.declared.views.Given.TheVariants as given
use Rattle.target.proofs.Both.{both}
use Rattle.rules.specs.Rules.{unknown, before_reset, fits, misplaced, out_of_range, names_working, output_works, lun_works, lacks_copyback, no_copyback, work_for, others_work_for, others_busy, line_low, past_end, not_offered, not_working, line_held, rules, verdict}
use Rattle.jobs.specs.Cycles.{Cycle, command, address, data_in, data_out}
use Rattle.thm_stations.specs.Jobs.{event_of, finish_of}
use Rattle.thm_stations.proofs.Halves.{Fixed, made}
use Rattle.thm_stations.proofs.Course.{held, is_nobody, aimed_found, plain, plainly, GivenOf, OutputOf, CycleOf, Standing, equal}
use Rattle.std.specs.Prelude.{None, Option, Some}
use Rattle.target.specs.declared.First.{First}

-- rule 6 holds of no command of a job
module _ (luns : List Lun) (selected : ℕ) where
  nobody-works : (w : Waits) → is_nobody w ≡ true → work_for luns selected w ≡ false
  nobody-works waits.Nobody h = refl
  nobody-works waits.Others h = absurd (false≢true h)
  nobody-works waits.All h = absurd (false≢true h)

  aimed-calm : (x : Option First) → aimed_found x ≡ true → others_work_for luns selected x ≡ false
  aimed-calm None h = refl
  aimed-calm (Some f) h =
      nobody-works (waits_for f) (both (is_nobody (waits_for f)) (not (eqb (cycles_of f) 0)) h).0

  calm : (v : ℕ) → plain v ≡ true → others_busy luns selected (event_of (command v)) ≡ false
  unfolding others_busy
  calm v h = aimed-calm (first_of v) (plainly v h).is-aimed

module _ (k : Fixed) (l a b : ℕ) (xs ys : List Lun) (lun : lun_at xs l ≡ lun_at ys l) where
  works-alike : (m : ℕ) → m ≡ l → works xs m ≡ works ys m
  works-alike m q = rw q (ap (λ (u : Lun). u.working) lun)

  copyback-alike : (m : ℕ) → m ≡ l → copyback_at xs m ≡ copyback_at ys m
  copyback-alike m q = rw q (ap (λ (u : Lun). u.copyback) lun)

  -- what an address completes asks for no LUN but the l-th
  names-alike : (x : Option Given) → GivenOf k.geometry l x
      → names_working k.geometry xs a x ≡ names_working k.geometry ys b x
  unfolding GivenOf
  names-alike None w = refl
  names-alike (Some (given.Column c)) w = rw w
  names-alike (Some (given.Row r)) w = rw (works-alike (lun_of k.geometry r.row) w)
  names-alike (Some (given.Single s)) w = absurd w

  -- nor looks at another LUN's copyback
  lacks-alike : (x : Option Given) → GivenOf k.geometry l x
      → lacks_copyback k.geometry xs x ≡ lacks_copyback k.geometry ys x
  unfolding GivenOf
  lacks-alike None w = refl
  lacks-alike (Some (given.Column c)) w = refl
  lacks-alike (Some (given.Row r)) w = rw (copyback-alike (lun_of k.geometry r.row) w)
  lacks-alike (Some (given.Single s)) w = refl

  output-alike : (o : Output) → OutputOf l o → output_works xs o ≡ output_works ys o
  unfolding OutputOf
  output-alike output.Nothing q = refl
  output-alike (output.Register m c) q = works-alike m q
  output-alike (output.Parameters at) q = refl
  output-alike (output.Status m) q = refl
  output-alike (output.Ids at) q = refl
  output-alike (output.Signature at) q = refl
  output-alike (output.Feature at) q = refl

  command-alike : (s : Sequence) (v : ℕ) (o p i j : Output) → plain v ≡ true
      → verdict (made k a xs (held s o i)) (event_of (command v)) ≡ verdict (made k b ys (held s p j)) (event_of (command v))
  unfolding verdict rules bad_record misplaced fits out_of_range not_offered lun_works no_copyback past_end not_working line_held
  command-alike s v o p i j h = rw (calm xs a v h, calm ys b v h)

  pub verdict-alike : (s : Sequence) (c : Cycle) {cs : List Cycle} {o p : Output} (i j : Output) → Standing (c ∷ cs) o p
      → CycleOf k.geometry l c s o
      → verdict (made k a xs (held s o i)) (event_of c) ≡ verdict (made k b ys (held s p j)) (event_of c)
  unfolding CycleOf verdict rules bad_record before_reset unknown misplaced fits others_busy out_of_range not_offered lun_works no_copyback line_low past_end not_working line_held
  verdict-alike s (command v) {o = o} {p = p} i j standing keeps = command-alike s v o p i j keeps.0
  verdict-alike s (address v) i j standing keeps =
      rw (names-alike (completed s v) keeps, lacks-alike (completed s v) keeps)
  verdict-alike s (data_in v) i j standing keeps = refl
  verdict-alike s data_out {o = o} i j equal keeps = rw (keeps.0, output-alike o keeps.1)

  pub verdict-finish : (d e : Decoder) → verdict (made k a xs d) (finish_of l) ≡ verdict (made k b ys e) (finish_of l)
  unfolding verdict rules bad_record before_reset unknown misplaced others_busy out_of_range not_offered lun_works no_copyback line_low past_end not_working line_held
  verdict-finish d e = rw (works-alike l refl)
