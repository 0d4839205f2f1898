-- `step::buffers::findings` meets its contract.
use Rattle.step.proofs.WorkReady.{ender-reaches}
use Rattle.step.proofs.buffers.findings.Goals as goal

pub ended_findings-requires : goal.ended_findings-requires
ended_findings-requires c =
    record { g_value = c.requires.0; ender_reaches = rw c.ending.ensures (ender-reaches _ c.args.s c.args.e.value c.requires.1) }
