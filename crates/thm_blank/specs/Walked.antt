-- "Keep the number in the LUN record from power-on. Every program, erase and reset must keep it equal to the walk" (document 02, A7).
-- Proved in proofs/.
use Rattle.std.specs.Prelude.{◌≡◌, List, ℕ, ◌<◌, length, Ok}
use Rattle.target.specs.Luns.{blank_at}
use Rattle.target.specs.declared.Event.{Event}
use Rattle.target.specs.declared.Geometry.{Geometry}
use Rattle.target.specs.declared.Lun.{Lun}
use Rattle.target.specs.declared.Target.{Target}
use Rattle.blocks.specs.Blocks.{blank_blocks}
use Rattle.power.specs.Power.{power_answer}
use Rattle.step.specs.Step.{State}
use Rattle.thm_demands.specs.Runs.{after, powered_up}

-- the number of each LUN that exists is the walk's
abbrev pub Counted : Geometry → List Lun → List ℕ → List ℕ → Type 0
Counted g luns counts flags = (l : ℕ) → l < g.luns → blank_at luns l ≡ blank_blocks g l counts flags

abbrev pub Walked : Target → List ℕ → List ℕ → Type 0
Walked t counts flags = Counted t.geometry t.luns counts flags

-- after every event of every run from an accepted power-on with its own buffers
abbrev pub AlwaysWalked : Type 0
AlwaysWalked =
    (page : List ℕ) (device : ℕ) (array registers counts flags : List ℕ)
    → power_answer page (length array) (length registers) counts flags ≡ Ok tt
    → (es : List Event) (s : State) → s ≡ after page flags es (powered_up page device array registers counts flags)
    → Walked s.target s.buffers.counts flags
