-- The rules that an event of each kind can meet, in their order: the others are false of that kind.
-- Assumes nothing.
use mathlib.Core.Path.{◌≡◌, refl, sym, ap}
use Prim.Native.Nat.{ℕ, ◌≤◌, ◌<◌, zero-le}
use lib.Arith.{lt_of_le-ne}
use borrow.Author.Tests.{lt-ltb}
use Rattle.target.specs.Pick.{or_else}
use Rattle.target.specs.Events.{bad_record}
use Rattle.target.specs.declared.Event.{Event}
use Rattle.target.specs.declared.Target.{Target}
use Rattle.target.specs.declared.Refusal.TheVariants.{Unknown, BeforeReset, Misplaced, OutOfRange, LunWorks, OthersWork, Protected, PastEnd, NotOffered, NotWorking, LineHeld, BadRecord, NoCopyback}
use Rattle.rules.specs.Rules.{unknown, before_reset, misplaced, out_of_range, lun_works, no_copyback, others_busy, line_low, past_end, not_offered, not_working, line_held, rules, verdict}
use Rattle.std.specs.Prelude.{Err, Ok}

abbrev pub event : ℕ → ℕ → Event
event k v = record { kind = k; value = v }

module _ (t : Target) (v : ℕ) where
  -- a command can meet 2, 1, 3, 6 and 7
  pub command-verdict : verdict t (event 0 v) ≡ or_else (before_reset t.seen (event 0 v)) BeforeReset (or_else (unknown t.words t.decoder.sequence (event 0 v)) Unknown (or_else (misplaced t.decoder (event 0 v)) Misplaced (or_else (others_busy t.luns t.selected (event 0 v)) OthersWork (or_else (line_low t.high (event 0 v)) Protected (Ok tt)))))
  unfolding verdict rules or_else bad_record out_of_range not_offered lun_works past_end not_working line_held no_copyback
  command-verdict = refl

  -- an address 2, 3, 4, 5 and 14
  pub address-verdict : verdict t (event 1 v) ≡ or_else (before_reset t.seen (event 1 v)) BeforeReset (or_else (misplaced t.decoder (event 1 v)) Misplaced (or_else (out_of_range t.geometry t.decoder.sequence (event 1 v)) OutOfRange (or_else (lun_works t.geometry t.luns t.selected t.decoder (event 1 v)) LunWorks (or_else (no_copyback t.geometry t.luns t.decoder.sequence (event 1 v)) NoCopyback (Ok tt)))))
  unfolding verdict rules or_else bad_record unknown others_busy not_offered line_low past_end not_working line_held
  address-verdict = refl

  -- data in 2, 3, 9 and 8
  pub in-verdict : verdict t (event 2 v) ≡ or_else (before_reset t.seen (event 2 v)) BeforeReset (or_else (misplaced t.decoder (event 2 v)) Misplaced (or_else (not_offered t.words t.decoder.sequence (event 2 v)) NotOffered (or_else (past_end t.geometry t.decoder (event 2 v)) PastEnd (Ok tt))))
  unfolding verdict rules or_else bad_record unknown others_busy out_of_range lun_works line_low not_working line_held no_copyback
  in-verdict = refl

  -- data out 12, 2, 3, 5 and 8
  pub out-verdict : verdict t (event 3 v) ≡ or_else (bad_record (event 3 v)) BadRecord (or_else (before_reset t.seen (event 3 v)) BeforeReset (or_else (misplaced t.decoder (event 3 v)) Misplaced (or_else (lun_works t.geometry t.luns t.selected t.decoder (event 3 v)) LunWorks (or_else (past_end t.geometry t.decoder (event 3 v)) PastEnd (Ok tt)))))
  unfolding verdict rules or_else unknown others_busy out_of_range not_offered line_low not_working line_held no_copyback
  out-verdict = refl

  -- a finish 10
  pub finish-verdict : verdict t (event 4 v) ≡ or_else (not_working t.geometry t.luns (event 4 v)) NotWorking (Ok tt)
  unfolding verdict rules or_else bad_record before_reset unknown misplaced others_busy out_of_range not_offered lun_works line_low past_end line_held no_copyback
  finish-verdict = refl

  -- the protect line 12 and 11
  pub protect-verdict : verdict t (event 5 v) ≡ or_else (bad_record (event 5 v)) BadRecord (or_else (line_held t.luns t.decoder.sequence (event 5 v)) LineHeld (Ok tt))
  unfolding verdict rules or_else before_reset unknown misplaced others_busy out_of_range not_offered lun_works line_low past_end not_working no_copyback
  protect-verdict = refl
