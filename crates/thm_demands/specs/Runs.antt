-- Runs, as the demands speak of them: any list of events, each stepped with the run's own buffers.
use Rattle.std.specs.Prelude.{List, [], ◌∷◌, ℕ, length, replicate}
use Rattle.target.specs.declared.Event.{Event}
use Rattle.power.specs.Power.{powered_of}
use Rattle.step.specs.Step.{Outcome, State, step_of}

-- what one event answers and leaves there
abbrev pub step_at : List ℕ → List ℕ → State → Event → Outcome
step_at page flags s e = step_of s.target e page s.buffers flags

abbrev pub left : Outcome → State
left o = record { target = o.target; buffers = o.buffers }

-- after a list of events
unfoldable pub after : List ℕ → List ℕ → List Event → State → State
after page flags [] s = s
after page flags (e ∷ es) s = after page flags es (left (step_at page flags s e))

-- where an accepted power-on leaves a run: the powered record, the registers FFh, array and counts as they were lent
abbrev pub powered_up : List ℕ → ℕ → List ℕ → List ℕ → List ℕ → List ℕ → State
powered_up page device array registers counts flags = record {
  target = powered_of page device counts flags;
  buffers = record { array = array; registers = replicate (length registers) 0xff; counts = counts };
}
