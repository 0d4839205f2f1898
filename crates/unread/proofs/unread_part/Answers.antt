-- `unread::unread_part`: where 13 does not hold, what is put out is sound.
use mathlib.Core.Path.{◌≡◌, refl, sym, ◌∙◌}
use mathlib.Core.Bool.{Bool, true, false}
use Rattle.target.proofs.Both.{both}
use Rattle.target.specs.Pick.{pick}
use Rattle.target.specs.Place.{is_bare}
use Rattle.target.specs.declared.Target.{Target}
use Rattle.target.specs.declared.Output.TheVariants as output
use Rattle.step.specs.Usable.{output_sound, record_sound}
use Rattle.step.proofs.Sound.{Sound, sound}
use Rattle.unread.specs.Rest.{present}
use Rattle.unread.proofs.unread_part.Goals as goal

-- no output is sound, and so is the one that is open
present-sound : (t : Target) → Sound t → output_sound t.geometry (present t.decoder) ≡ true
present-sound t ok = by (is_bare t.decoder.sequence)
  where
    by : (b : Bool) → output_sound t.geometry (pick b output.Nothing t.decoder.output) ≡ true
    by true = refl
    by false = ok.output

pub unread_in-requires : goal.unread_in-requires
unread_in-requires c =
    let t = c.args.t in
    let ok = sound t (both (record_sound t) _ (sym c.readable.ensures ∙ c.if-not-readable.false)).0 in
    (ok.limited, rw c.present.ensures (present-sound t ok))
