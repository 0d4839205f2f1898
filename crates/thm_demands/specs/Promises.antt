-- Demand 1, sentence by sentence, and what is promised of rule 13. Each is a statement; proofs/Promised.antt proves it.
use Rattle.std.specs.Prelude.{◌≡◌, Bool, true, false, ◌&&◌, not, List, [], ◌∷◌, ◌⊎◌, ℕ, length, Ok, Err}
use Rattle.target.specs.Luns.{all_readied}
use Rattle.target.specs.Numbers.{number_of}
use Rattle.target.specs.Events.{is_bus}
use Rattle.target.specs.declared.Event.{Event}
use Rattle.target.specs.declared.Target.{Target}
use Rattle.target.specs.declared.Refusal.{Refusal}
use Rattle.target.specs.declared.Reply.TheVariants.{Accepted, Refused}
use Rattle.target.specs.declared.Sequence.TheVariants.{Idle}
use Rattle.target.specs.declared.Output.TheVariants.{Nothing}
use Rattle.power.specs.declared.PowerRefusal.{PowerRefusal}
use Rattle.power.specs.Power.{power_answer, power_of, unpowered}
use Rattle.step.specs.Step.{Buffers, State, step_of}
use Rattle.thm_demands.specs.Runs.{step_at, left, after, powered_up}

-- the record with no sequence open, no output and none kept, which counts as output; otherwise the same
abbrev pub dropped : Target → Target
dropped t = record {
  powered = t.powered;
  geometry = t.geometry;
  words = t.words;
  ids = t.ids;
  high = t.high;
  clear = t.clear;
  seen = t.seen;
  selected = t.selected;
  luns = t.luns;
  decoder = record { sequence = Idle; output = Nothing; kept = Nothing };
}

-- "A refused bus cycle (12 and 13 apart, which change nothing) drops the sequence under way and ends output, and changes
-- nothing else"
abbrev pub RefusedCycle : Type 0
RefusedCycle =
    (t : Target) (e : Event) (page : List ℕ) (b : Buffers) (flags : List ℕ) (r : Refusal)
    → is_bus e ≡ true → (step_of t e page b flags).reply ≡ Refused r → (number_of r ≡ 12 → ⊥) → (number_of r ≡ 13 → ⊥)
    → step_of t e page b flags ≡ record { reply = Refused r; target = dropped t; buffers = b }

-- "12 and 13 .. change nothing"
abbrev pub BadChangesNothing : Type 0
BadChangesNothing =
    (t : Target) (e : Event) (page : List ℕ) (b : Buffers) (flags : List ℕ) (r : Refusal)
    → (step_of t e page b flags).reply ≡ Refused r → (number_of r ≡ 12) ⊎ (number_of r ≡ 13)
    → step_of t e page b flags ≡ record { reply = Refused r; target = t; buffers = b }

-- "a refused bench event changes nothing"
abbrev pub RefusedBench : Type 0
RefusedBench =
    (t : Target) (e : Event) (page : List ℕ) (b : Buffers) (flags : List ℕ) (r : Refusal)
    → is_bus e ≡ false → (step_of t e page b flags).reply ≡ Refused r
    → step_of t e page b flags ≡ record { reply = Refused r; target = t; buffers = b }

-- "a refused power-on no lent buffer": the registers, which alone it may write, stay; the target is unpowered
abbrev pub RefusedPower : Type 0
RefusedPower =
    (page : List ℕ) (device : ℕ) (array registers counts flags : List ℕ) (r : PowerRefusal)
    → (power_of page device array registers counts flags).answer ≡ Err r
    → power_of page device array registers counts flags ≡ record { answer = Err r; target = unpowered; registers = registers }

-- array and counts as they were
pub record Preserved (b n : Buffers) : Type 0 where
  pub array : n.array ≡ b.array
  pub counts : n.counts ≡ b.counts

-- "While the protect line is low no event changes the array or the program counts": at each step
abbrev pub LineLow : Type 0
LineLow =
    (t : Target) (e : Event) (page : List ℕ) (b : Buffers) (flags : List ℕ)
    → t.high ≡ false → Preserved b (step_of t e page b flags).buffers

-- the line is low before each event of a run
unfoldable pub low_through : List ℕ → List ℕ → List Event → State → Bool
low_through page flags [] s = true
low_through page flags (e ∷ es) s = not s.target.high && low_through page flags es (left (step_at page flags s e))

-- and over any run in which it stays low
abbrev pub LineLowRun : Type 0
LineLowRun =
    (page flags : List ℕ) (es : List Event) (s : State)
    → low_through page flags es s ≡ true → Preserved s.buffers (after page flags es s).buffers

-- the command FFh
abbrev pub reset : Event
reset = record { kind = 0; value = 0xff }

-- "Once powered, one FFh from any state a run can reach, with its own buffers lent, leaves every LUN ready";
-- its number of blank blocks stays (document 02, A7)
abbrev pub ResetReadies : Type 0
ResetReadies =
    (page : List ℕ) (device : ℕ) (array registers counts flags : List ℕ)
    → power_answer page (length array) (length registers) counts flags ≡ Ok tt
    → (es : List Event) (s : State) → s ≡ after page flags es (powered_up page device array registers counts flags)
    → ((step_at page flags s reset).reply ≡ Accepted)
    × ((step_at page flags s reset).target.luns ≡ all_readied s.target.luns)

-- Rule 13 is sound: from an accepted power-on, no run with its own buffers ever meets it
abbrev pub NeverUnusable : Type 0
NeverUnusable =
    (page : List ℕ) (device : ℕ) (array registers counts flags : List ℕ)
    → power_answer page (length array) (length registers) counts flags ≡ Ok tt
    → (es : List Event) (e : Event) (s : State)
    → s ≡ after page flags es (powered_up page device array registers counts flags)
    → (r : Refusal) → (step_at page flags s e).reply ≡ Refused r → number_of r ≡ 13 → ⊥
