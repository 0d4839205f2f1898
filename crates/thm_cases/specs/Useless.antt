-- Builds that would be of no use (document 01, "What the statements have to settle"), each with the run on T1 that it
-- breaks.
use Rattle.std.specs.Prelude.{◌≡◌, List, [], ◌∷◌, ◌++◌, ℕ, ◌+◌, ◌<◌, get_or, length, replicate}
use Rattle.target.specs.declared.Event.{Event}
use Rattle.target.specs.declared.Geometry.{Geometry}
use Rattle.target.specs.declared.Row.{Row}
use Rattle.target.specs.declared.Reply.TheVariants as reply
use Rattle.target.specs.declared.Work.TheVariants as work
use Rattle.blocks.specs.Blocks.{page_index}
use Rattle.step.specs.Buffers.{counts_after}
use Rattle.step.specs.Step.{step_of}
use Rattle.trace.specs.Run.{Running, ran_all, start}
use Rattle.thm_cases.specs.Parts.{Part, t1, t1_with, first, run, told}
use Rattle.thm_cases.specs.Cases.{reset, program, read, accepted, byte, data_out}

-- where a list of events leaves the part
abbrev pub reached : Part → List Event → Running
reached p es = ran_all p.params p.flags es (start (first p).target (first p).buffers [])

-- FFh
abbrev pub reset_command : Event
reset_command = record { kind = 0; value = 0xff }

-- "refusing everything" breaks "at no other time": after any events FFh is accepted
abbrev pub NotRefusedAlways : Type 0
NotRefusedAlways =
    (es : List Event)
    → (step_of (reached t1 es).target reset_command t1.params (reached t1 es).buffers t1.flags).reply ≡ reply.Accepted

-- a page that holds A5h, programmed with 3Ch and then with 0Fh
abbrev pub once : List ℕ
once = reset (program 0x3c [])

abbrev pub twice : List ℕ
twice = reset (program 0x3c (program 0x0f []))

pub record Useful : Type 0 where
  pub not-refused-always : NotRefusedAlways
  -- "answering 00 00 always" breaks (i), and what is read back
  pub not-accepted-always : told (t1_with 0xa5 0) (reset (read (data_out []))) ≡ accepted 9 (byte 0xa5 [])
  -- "doing nothing" breaks (h): the array is another one after a program
  pub not-idle : (run (t1_with 0xa5 0) once).buffers.array ≡ 0x24 ∷ (replicate 527 0xa5 ++ replicate 33264 0xff)
  -- "doing the first program truly and only marking later ones done" breaks the array rule at the second 10h
  pub not-once-only : (run (t1_with 0xa5 0) twice).buffers.array ≡ 0x04 ∷ (replicate 527 0xa5 ++ replicate 33264 0xff)
  -- "a made-up program count" breaks the rule of exactly one more, and of no other page
  pub counted-once : (run (t1_with 0xa5 0) once).buffers.counts ≡ 1 ∷ replicate 63 0
  pub counted-twice : (run (t1_with 0xa5 0) twice).buffers.counts ≡ 2 ∷ replicate 63 0
  -- on any part: its own count one more, and no other
  pub its_own : (g : Geometry) (r : Row) (counts : List ℕ) → page_index g r < length counts
      → get_or (counts_after g (work.Program r) counts) (page_index g r) 0 ≡ get_or counts (page_index g r) 0 + 1
  pub no_other : (g : Geometry) (r : Row) (counts : List ℕ) (i : ℕ) → (i ≡ page_index g r → ⊥)
      → get_or (counts_after g (work.Program r) counts) i 0 ≡ get_or counts i 0
