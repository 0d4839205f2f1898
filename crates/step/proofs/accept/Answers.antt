-- `step::accept` meets its contract.
use Rattle.step.proofs.Sound.{sound, places-small}
use Rattle.step.proofs.WorkReady.{work-ready}
use Rattle.step.proofs.accept.Goals as goal

pub findings-found-requires : goal.findings-found-requires
findings-found-requires c =
    let ok = sound _ c.requires.t_value in
    (ok.limited, ok.sequence)

pub perform-requires : goal.perform-requires
perform-requires c =
    let ready = work-ready c.args.t c.args.e c.args.counts.now c.args.flags.now c.requires.t_value c.requires.e_value c.findings-found.result c.findings-found.ensures in
    record { g_value = (sound c.args.t c.requires.t_value).limited; ready = rw c.work_of-work.ensures ready; sizes = c.requires.sizes }

pub target_after-requires : goal.target_after-requires
target_after-requires c =
    record { geometry_value = (sound _ c.requires.t_value).limited; sequence_bound = places-small _ c.requires.t_value }
