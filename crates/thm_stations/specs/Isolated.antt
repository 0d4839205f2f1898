-- Demand 3 over `step_of`. Run a mixture of whole jobs; then, from the same start, LUN 0's events alone, then LUN 1's and so
-- on: every event gets the same answer, and all memory ends equal. And a LUN sees no difference where all other LUNs' events
-- are deleted.
use Rattle.std.specs.Prelude.{ℕ, ◌*◌, ◌≡◌, true, List, [], ◌∷◌, map, length}
use Rattle.slices.specs.Cells.{part}
use Rattle.target.specs.Luns.{lun_at}
use Rattle.target.specs.Sizes.{page_size}
use Rattle.target.specs.declared.Event.{Event}
use Rattle.target.specs.declared.Geometry.{Geometry}
use Rattle.target.specs.declared.Lun.{Lun}
use Rattle.target.specs.declared.Reply.{Reply}
use Rattle.target.specs.declared.Sequence.TheVariants.{Idle}
use Rattle.step.specs.Usable.{usable}
use Rattle.step.specs.Step.{State}
use Rattle.thm_demands.specs.Runs.{step_at, left, after}
use Rattle.thm_stations.specs.Mixture.{Owned, Mixture, those, serial, Reordered}

-- an event and its answer
pub record Told : Type 0 where
  pub event : Event
  pub reply : Reply

-- the bytes of one LUN's pages, and how many pages it has
abbrev pub lun_bytes : Geometry → ℕ
lun_bytes g = g.blocks * g.pages * page_size g

abbrev pub lun_pages : Geometry → ℕ
lun_pages g = g.blocks * g.pages

-- the l-th LUN's own: its record, and its part of the array, of the registers and of the counts
abbrev pub lun_record : ℕ → State → Lun
lun_record l s = lun_at s.target.luns l

abbrev pub lun_array : Geometry → ℕ → State → List ℕ
lun_array g l s = part s.buffers.array (l * lun_bytes g) (lun_bytes g)

abbrev pub lun_register : Geometry → ℕ → State → List ℕ
lun_register g l s = part s.buffers.registers (l * page_size g) (page_size g)

abbrev pub lun_counts : Geometry → ℕ → State → List ℕ
lun_counts g l s = part s.buffers.counts (l * lun_pages g) (lun_pages g)

-- LUN 0's events, then LUN 1's, and so on to the target's last LUN
abbrev pub in_turn : State → List (Owned Event) → List (Owned Event)
in_turn s es = serial s.target.geometry.luns es

-- the parameter bytes and the block flags are lent too, and no event changes them
module _ (params flags : List ℕ) where
  -- the state after an event
  abbrev pub next : State → Event → State
  next s e = left (step_at params flags s e)

  -- a run: each event with its answer, in order; and the state after all
  unfoldable pub log : State → List (Owned Event) → List (Owned Told)
  log s [] = []
  log s (x ∷ xs) =
      record { own = x.own; it = record { event = x.it; reply = (step_at params flags s x.it).reply } }
      ∷ log (next s x.it) xs

  unfoldable pub end : State → List (Owned Event) → State
  end s es = after params flags (map (λ (x : Owned Event). x.it) es) s

  -- a record and buffers that rule 13 lets pass, as in every run from an accepted power-on; the record holds four LUN
  -- records
  pub record Fine (s : State) : Type 0 where
    pub passes :
        usable s.target (length params) (length s.buffers.array) (length s.buffers.registers)
        (length s.buffers.counts) (length flags)
        ≡ true
    pub four : length s.target.luns ≡ 4

  -- the start: after the first reset, no sequence open, program-clear on; any output may still be open, and any kept
  pub record Start (s : State) : Type 0 where
    pub fine : Fine s
    pub reset : s.target.seen ≡ true
    pub closed : s.target.decoder.sequence ≡ Idle
    pub clear : s.target.clear ≡ true

  -- the run of one LUN after the other beside the run of the mixture: the log is the other log in the serial order, so that
  -- every event gets the same answer; arrays, counts, page registers and LUN records end equal
  pub record Isolated (s : State) (es : List (Owned Event)) : Type 0 where
    pub answers : log s (in_turn s es) ≡ serial s.target.geometry.luns (log s es)
    pub in_order : Reordered (log s (in_turn s es)) (log s es)
    pub array : (end s (in_turn s es)).buffers.array ≡ (end s es).buffers.array
    pub counts : (end s (in_turn s es)).buffers.counts ≡ (end s es).buffers.counts
    pub registers : (end s (in_turn s es)).buffers.registers ≡ (end s es).buffers.registers
    pub luns : (end s (in_turn s es)).target.luns ≡ (end s es).target.luns

  -- the l-th LUN with the events of all others deleted: what its own events are told, and what they leave of its own
  pub record Undisturbed (s : State) (es : List (Owned Event)) (l : ℕ) : Type 0 where
    pub answers : log s (those l es) ≡ those l (log s es)
    pub lun : lun_record l (end s (those l es)) ≡ lun_record l (end s es)
    pub array : lun_array s.target.geometry l (end s (those l es)) ≡ lun_array s.target.geometry l (end s es)
    pub register :
        lun_register s.target.geometry l (end s (those l es)) ≡ lun_register s.target.geometry l (end s es)
    pub counts : lun_counts s.target.geometry l (end s (those l es)) ≡ lun_counts s.target.geometry l (end s es)

-- demand 3
abbrev pub Isolation : Type 0
Isolation =
    (params flags : List ℕ) (s : State) (es : List (Owned Event)) → Start params flags s
    → Mixture s.target.geometry es → Isolated params flags s es

-- and for each LUN by itself
abbrev pub Deletion : Type 0
Deletion =
    (params flags : List ℕ) (s : State) (es : List (Owned Event)) → Start params flags s
    → Mixture s.target.geometry es → (l : ℕ) → Undisturbed params flags s es l
