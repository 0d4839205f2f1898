-- What work does to the lent buffers (document 01, "The steps"). Pages lie in the array in order of LUN, block, page.
use Rattle.std.specs.Prelude.{Bool, true, false, ◌&&◌, ◌||◌, not, List, ℕ, ◌+◌, ◌*◌, ◌%◌, length, get_or, set, replicate, eqb, None, Option, Some}
use Rattle.slices.specs.Cells.{splice, part, and_bytes}
use Rattle.target.specs.Pick.{pick}
use Rattle.target.specs.Address.{lun_of}
use Rattle.target.specs.Sizes.{page_size}
use Rattle.target.specs.Commands.{second_row}
use Rattle.target.specs.Views.{ending}
use Rattle.target.specs.Luns.{works, failed}
use Rattle.target.specs.declared.Row.{Row}
use Rattle.target.specs.declared.Geometry.{Geometry}
use Rattle.target.specs.declared.Words.{Words}
use Rattle.target.specs.declared.Event.{Event}
use Rattle.target.specs.declared.Target.{Target}
use Rattle.target.specs.declared.Findings.{Findings}
use Rattle.target.specs.declared.commands.Act.{Act}
use Rattle.target.specs.declared.commands.Act.TheVariants as act
use Rattle.target.specs.declared.Sequence.{Sequence}
use Rattle.target.specs.declared.Output.{Output}
use Rattle.target.specs.declared.Output.TheVariants as output
use Rattle.target.specs.declared.Work.{Work}
use Rattle.target.specs.declared.Work.TheVariants as work
use Rattle.blocks.specs.Blocks.{block_index, page_index, block_bad, page_full, out_of_order, blank_block}
use Rattle.target.specs.declared.views.Ended.{Ended}

-- the page registers after work: FFh, a page of the array, or one byte put at its column
unfoldable pub registers_after : Geometry → Work → List ℕ → List ℕ → List ℕ
registers_after g work.Nothing array registers = registers
registers_after g work.ClearAll array registers = replicate (length registers) 0xff
registers_after g (work.ClearOne l) array registers = splice registers (l * page_size g) (page_size g) (replicate (page_size g) 0xff)
registers_after g (work.Load r) array registers =
    splice registers (lun_of g r * page_size g) (page_size g) (part array (page_index g r * page_size g) (page_size g))
registers_after g (work.Put l c v) array registers =
    splice registers (l * page_size g) (page_size g) (set (part registers (l * page_size g) (page_size g)) c.0 v)
registers_after g (work.Program r) array registers = registers
registers_after g (work.Erase r) array registers = registers

-- the array after work: 10h makes each byte old AND register; D0h sets the block's bytes to FFh
unfoldable pub array_after : Geometry → Work → List ℕ → List ℕ → List ℕ
array_after g work.Nothing array registers = array
array_after g work.ClearAll array registers = array
array_after g (work.ClearOne l) array registers = array
array_after g (work.Load r) array registers = array
array_after g (work.Put l c v) array registers = array
array_after g (work.Program r) array registers =
    splice array (page_index g r * page_size g) (page_size g)
    (and_bytes (part array (page_index g r * page_size g) (page_size g)) (part registers (lun_of g r * page_size g) (page_size g)))
array_after g (work.Erase r) array registers =
    splice array (block_index g r * g.pages * page_size g) (g.pages * page_size g) (replicate (g.pages * page_size g) 0xff)

-- the program counts after work: 10h makes the page's rise by one, D0h sets the block's to 0
unfoldable pub counts_after : Geometry → Work → List ℕ → List ℕ
counts_after g work.Nothing counts = counts
counts_after g work.ClearAll counts = counts
counts_after g (work.ClearOne l) counts = counts
counts_after g (work.Load r) counts = counts
counts_after g (work.Put l c v) counts = counts
counts_after g (work.Program r) counts = set counts (page_index g r) (get_or counts (page_index g r) 0 + 1)
counts_after g (work.Erase r) counts = splice counts (block_index g r * g.pages) g.pages (replicate g.pages 0)

-- 10h does not proceed on a bad block, on a full page or out of order, D0h not on a bad block; a read always does
abbrev pub proceeds : Geometry → Words → Act → Row → List ℕ → List ℕ → Bool
proceeds g w act.Nothing r counts flags = true
proceeds g w act.Load r counts flags = true
proceeds g w act.Program r counts flags = not (block_bad g r flags || page_full g r counts || out_of_order g w r counts)
proceeds g w act.Erase r counts flags = not (block_bad g r flags)
proceeds g w act.Move r counts flags = true

-- A7: the block that 10h or D0h works on is blank; nothing else asks
abbrev pub was_blank : Geometry → Act → Row → List ℕ → List ℕ → Bool
was_blank g act.Nothing r counts flags = false
was_blank g act.Load r counts flags = false
was_blank g act.Program r counts flags = blank_block g (block_index g r) counts flags
was_blank g act.Erase r counts flags = blank_block g (block_index g r) counts flags
was_blank g act.Move r counts flags = false

-- an event that starts no work
abbrev pub nothing_found : Findings
nothing_found = record { proceeds = true; blank = false }

abbrev pub ended_findings : Geometry → Words → Option Ended → List ℕ → List ℕ → Findings
ended_findings g w None counts flags = nothing_found
ended_findings g w (Some k) counts flags = record {
  proceeds = proceeds g w (second_row k.second).act k.row counts flags;
  blank = was_blank g (second_row k.second).act k.row counts flags;
}

-- what the buffers say of the event that comes
unfoldable pub findings : Geometry → Words → Sequence → Event → List ℕ → List ℕ → Findings
findings g w s e counts flags =
    pick (eqb e.kind 0) (ended_findings g w (ending s e.value) counts flags) nothing_found

-- 128 if the line is high, plus 96 if ready, plus FAIL if ready
unfoldable pub status_of : Target → ℕ → ℕ
status_of t l =
    pick t.high 128 0
    + pick (not (works t.luns l)) 96 0
    + pick (not (works t.luns l) && failed t.luns l) 1 0

-- the byte that a data-out cycle gives
unfoldable pub output_byte : Target → List ℕ → List ℕ → Output → ℕ
output_byte t params registers output.Nothing = 0
output_byte t params registers (output.Register l c) = get_or registers (l * page_size t.geometry + c.0) 0
output_byte t params registers (output.Parameters at) = get_or params (at % 256) 0
output_byte t params registers (output.Status l) = status_of t l
output_byte t params registers (output.Ids at) = pick (eqb at 0) t.ids.maker t.ids.device
output_byte t params registers (output.Signature at) = pick (eqb at 0) 0x4f (pick (eqb at 1) 0x4e (pick (eqb at 2) 0x46 0x49))
output_byte t params registers (output.Feature at) = pick (eqb at 0 && t.clear) 0x40 0
