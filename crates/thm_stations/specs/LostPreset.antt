-- The lost preset, on part T1: stations A (LUN 0) and B (LUN 1) save at once, and A looks at its register again.
use Rattle.std.specs.Prelude.{Bool, true, false, List, [], ◌∷◌, map, ℕ, replicate}
use Rattle.target.specs.Luns.{lun_ready, lun_unused}
use Rattle.target.specs.declared.Event.{Event}
use Rattle.target.specs.declared.Geometry.{Geometry}
use Rattle.target.specs.declared.Reply.{Reply}
use Rattle.target.specs.declared.Sequence.TheVariants.{Idle}
use Rattle.target.specs.declared.Output.TheVariants.{Nothing}
use Rattle.step.specs.Step.{State}
use Rattle.jobs.specs.Cycles.{Cycle, command, address, data_in, data_out}
use Rattle.thm_stations.specs.Jobs.{event_of, finish_of}
use Rattle.thm_stations.specs.Mixture.{Owned, those}
use Rattle.thm_stations.specs.Isolated.{Told, log}

-- 512+16 bytes a page, 4 pages a block, 8 blocks a LUN, 2 LUNs
abbrev pub t1 : Geometry
t1 = record { bytes = 512; spare = 16; pages = 4; blocks = 8; luns = 2; programs = 4 }

abbrev pub params : List ℕ
params = replicate 256 0

abbrev pub flags : List ℕ
flags = replicate 16 0

-- ready, with an erased array, so that every block is blank: after the first FFh or before it, with program-clear on or
-- off; the part has more than one LUN, program-clear, EEh and EFh, 78h and 06h
abbrev pub ready_state : Bool → Bool → State
ready_state seen clear = record {
  target = record {
    powered = true;
    geometry = t1;
    words = record { features = 0x0102; optional = 0x004c };
    ids = record { maker = 0; device = 0 };
    high = true;
    clear = clear;
    seen = seen;
    selected = 0;
    luns = lun_ready 8 ∷ lun_ready 8 ∷ lun_unused ∷ lun_unused ∷ [];
    decoder = record { sequence = Idle; output = Nothing; kept = Nothing };
  };
  buffers = record { array = replicate 33792 0xff; registers = replicate 1056 0xff; counts = replicate 64 0 };
}

-- the start of the mixture
abbrev pub start_with : Bool → State
start_with clear = ready_state true clear

abbrev pub of : ℕ → Cycle → Owned Event
of l c = record { own = l; it = event_of c }

abbrev pub done : ℕ → Owned Event
done l = record { own = l; it = finish_of l }

-- how a run gets there: FFh, and EFh for program-clear
abbrev pub set_up : Bool → List (Owned Event)
set_up false = of 0 (command 0xff) ∷ []
set_up true =
    of 0 (command 0xff) ∷ of 0 (command 0xef) ∷ of 0 (address 0x01)
    ∷ of 0 (data_in 0x40) ∷ of 0 (data_in 0) ∷ of 0 (data_in 0) ∷ of 0 (data_in 0) ∷ []

-- A saves 3Ch and A5h at row 0; B saves C3h at row 32, its LUN's first page, after an 85h move, while A's LUN comes to its end; A
-- reads its register out, while B's LUN comes to its end; B asks for its status
abbrev pub events : List (Owned Event)
events =
    of 0 (command 0x80) ∷ of 0 (address 0) ∷ of 0 (address 0) ∷ of 0 (address 0) ∷ of 0 (address 0) ∷ of 0 (address 0)
    ∷ of 0 (data_in 0x3c) ∷ of 0 (data_in 0xa5) ∷ of 0 (command 0x10)
    ∷ of 1 (command 0x80) ∷ of 1 (address 0) ∷ of 1 (address 0) ∷ done 0
    ∷ of 1 (address 32) ∷ of 1 (address 0) ∷ of 1 (address 0)
    ∷ of 1 (command 0x85) ∷ of 1 (address 7) ∷ of 1 (address 0) ∷ of 1 (data_in 0xc3) ∷ of 1 (command 0x10)
    ∷ of 0 (command 0x06) ∷ of 0 (address 0) ∷ of 0 (address 0) ∷ of 0 (address 0) ∷ of 0 (address 0) ∷ of 0 (address 0)
    ∷ of 0 (command 0xe0) ∷ of 0 data_out ∷ done 1 ∷ of 0 data_out
    ∷ of 1 (command 0x78) ∷ of 1 (address 32) ∷ of 1 (address 0) ∷ of 1 (address 0) ∷ of 1 data_out ∷ []

-- what the l-th LUN's events are told
abbrev pub told_to : ℕ → List (Owned Told) → List Reply
told_to l xs = map (λ (x : Owned Told). x.it.reply) (those l xs)

abbrev pub told_in : Bool → List (Owned Event) → ℕ → List Reply
told_in clear es l = told_to l (log params flags (start_with clear) es)
