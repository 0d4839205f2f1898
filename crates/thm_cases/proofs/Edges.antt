-- Each edge of specs/Edges.antt, computed.
-- Assumes nothing.
use mathlib.Core.Path.{◌≡◌, refl}
use Rattle.thm_cases.specs.Edges.{behind_first, powered_by, Edges}
use Rattle.thm_cases.specs.Parts.{t1}
use Rattle.thm_cases.proofs.Cases.{powers, computes, steadily, starts-1, tells, answers, leaves-array, leaves-counts}

-- power-on refused
unsigned : powered_by 0x4e (behind_first t1.params) ≡ 21
unfolding powers
unsigned = refl

pub edges : Edges
edges =
    let erased = starts-1 0xff in
    let holding = starts-1 0xa5 in
    record {
      low_told = tells holding _ _ (unfold computes steadily in refl);
      low-array = leaves-array holding _ _ (unfold computes steadily in refl);
      low-counts = leaves-counts holding _ _ (unfold computes steadily in refl);
      readied = tells erased _ _ (unfold computes steadily in refl);
      ended = tells holding _ _ (unfold computes steadily in refl);
      bad = tells erased _ _ (unfold computes steadily in refl);
      no_room = answers erased 2 _ _ (unfold computes steadily in refl);
      room = answers erased 4 _ _ (unfold computes steadily in refl);
      unsigned = unsigned;
      before-reset = tells erased _ _ (unfold computes steadily in refl);
      unknown = tells erased _ _ (unfold computes steadily in refl);
      misplaced = tells erased _ _ (unfold computes steadily in refl);
      busy = tells erased _ _ (unfold computes steadily in refl);
      feature = tells erased _ _ (unfold computes steadily in refl);
      idle-finish = tells erased _ _ (unfold computes steadily in refl);
      held-line = tells erased _ _ (unfold computes steadily in refl);
      full = tells erased _ _ (unfold computes steadily in refl);
      fuller = tells erased _ _ (unfold computes steadily in refl);
      full-count = leaves-counts erased _ _ (unfold computes steadily in refl);
      extent = leaves-counts erased _ _ (unfold computes steadily in refl);
      goes_on = tells holding _ _ (unfold computes steadily in refl);
      gone = tells holding _ _ (unfold computes steadily in refl);
      in-page = tells erased _ _ (unfold computes steadily in refl);
      past-page = tells erased _ _ (unfold computes steadily in refl);
    }
