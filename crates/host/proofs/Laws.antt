-- Bounds of the numbers that go out: where the unread rest lies is one number that can be taken apart again.
-- Assumes nothing.
use mathlib.Core.Path.{◌≡◌, refl}
use mathlib.Core.Bool.{true, ◌&&◌, ◌||◌}
use mathlib.Core.List.{List}
use Prim.Native.Nat.{ℕ, ◌+◌, ◌*◌, ◌%◌, ◌<◌}
use lib.Dec.{eqb, leb}
use native.Mathlib.Omega.{arith}
use Rattle.slices.proofs.Splice.{piece}
use Rattle.target.specs.declared.Geometry.{Geometry}
use Rattle.target.specs.declared.Lun.{Lun}
use Rattle.target.specs.declared.Target.{Target}
use Rattle.target.specs.declared.Output.{Output}
use Rattle.target.specs.declared.Output.TheVariants as output
use Rattle.target.specs.Luns.{works}
use Rattle.target.specs.Sizes.{page_size}
use Rattle.target.proofs.Both.{both}
use Rattle.target.proofs.Limits.{Limits, limits, registers-all}
use Rattle.step.specs.Usable.{record_sound, output_sound}
use Rattle.step.proofs.Sound.{register-place, sound}
use Rattle.target.specs.Place.{is_bare}
use Rattle.thm_kept.proofs.Choice.{by-pick}
use Rattle.unread.specs.Rest.{present, readable, unread_in, unread_of}
use Rattle.std.specs.Prelude.{Option, Some, None}
use Rattle.unread.specs.declared.Unread.{Unread}
use Rattle.host.specs.Image.{source_number, rest_number}

mod-small : (n : ℕ) → n < 1073741824 → n % 1073741824 ≡ n
mod-small n h = omega arith

-- where a rest starts and how long it is
abbrev pub Small : Option Unread → Type 0
Small None = Unit
Small (Some u) = (u.at < 1073741824) × (u.count < 1073741824)

small-in : (g : Geometry) (luns : List Lun) (o : Output) → Limits g → output_sound g o ≡ true → Small (unread_in g luns o)
small-in g luns output.Nothing m h = tt
small-in g luns (output.Register l c) m h =
    by-pick Small (works luns l || leb (page_size g) c.0) None _ (λ _. tt)
    (λ _. let k = register-place g l c h in (omega (arith, piece (page_size g) k.0, registers-all m, m.page-max, k.1), omega (arith, m.page-max)))
small-in g luns (output.Parameters at) m h = by-pick Small (leb 768 at) None _ (λ _. tt) (λ _. (omega arith, omega arith))
small-in g luns (output.Status l) m h = tt
small-in g luns (output.Ids at) m h = tt
small-in g luns (output.Signature at) m h = tt
small-in g luns (output.Feature at) m h = tt

pub small-rest : (t : Target) (params registers : ℕ) → Small (unread_of t params registers)
small-rest t params registers =
    by-pick Small (readable t params registers) (unread_in t.geometry t.luns (present t.decoder)) None
    (λ h. let k = sound t (both (record_sound t) (eqb params 256 && eqb registers (t.geometry.luns * page_size t.geometry)) h).0 in
    small-in t.geometry t.luns (present t.decoder) (limits t.geometry k.limited)
    (by-pick (λ (o : Output). output_sound t.geometry o ≡ true) (is_bare t.decoder.sequence) output.Nothing t.decoder.output (λ _. refl) (λ _. k.output)))
    (λ _. tt)

-- the buffer, the start and the length side by side, and 0 where nothing is unread
abbrev pub side_by_side : Option Unread → ℕ
side_by_side None = 0
side_by_side (Some u) = source_number u.source * 1152921504606846976 + u.at * 1073741824 + u.count

-- so that is what the number is
pub rest-exact : (r : Option Unread) → Small r → rest_number r ≡ side_by_side r
rest-exact None h = refl
rest-exact (Some u) h = rw (mod-small u.at h.0, mod-small u.count h.1)
