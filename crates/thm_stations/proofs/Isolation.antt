-- Demand 3, over `step_of`.
--     isolation      the run of a mixture and the run of one LUN after the other
--     deletion       a LUN, with the events of all others deleted
-- Assumes nothing.
use mathlib.Core.Path.{◌≡◌, refl, sym, ap, ◌∙◌}
use mathlib.Core.List.{List}
use Prim.Native.Nat.{ℕ, ◌<◌}
use lib.Seq.{ext_get_or}
use Rattle.target.specs.Luns.{lun_unused}
use Rattle.target.specs.declared.Event.{Event}
use Rattle.step.specs.Step.{Buffers, State}
use Rattle.thm_stations.specs.Mixture.{Owned, serial, Mixture}
use Rattle.thm_stations.specs.Isolated.{log, end, Start, Isolated, Undisturbed, Isolation, Deletion}
use Rattle.thm_stations.proofs.Agreement.{shares-all}
use Rattle.thm_stations.proofs.Halves.{Fixed, fixed_of}
use Rattle.thm_stations.proofs.Sorting.{reordered, mix-below}
use Rattle.thm_stations.proofs.Ties.{Laws}
use Rattle.thm_stations.proofs.Mixing.{Seen}
use Rattle.thm_stations.proofs.Serial.{log-below, seen, sorted-answers, sorted-agree}
use Rattle.thm_stations.proofs.Steps.{Agreed}
use Rattle.thm_stations.proofs.Laws.{limits_of, sizes-of, itself, ties, laws}

module _ (params flags : List ℕ) (s : State) (es : List (Owned Event)) (ok : Start params flags s) (mix : Mixture s.target.geometry es) where
  abbrev k : Fixed
  k = fixed_of s.target

  some : 0 < s.target.geometry.luns
  some = (limits_of params flags s ok.fine).luns-min

  lawful : Laws params flags s.target.geometry (ties params flags k)
  lawful = laws params flags k ok.clear

  starts : (l : ℕ) → Agreed params flags k l s s
  starts l = itself params flags k l s refl ok.fine

  agree : (l : ℕ)
      → Agreed params flags k l (end params flags s (serial s.target.geometry.luns es)) (end params flags s es)
  agree =
      sorted-agree params flags (ties params flags k) s.target.geometry lawful some es mix s (starts 0) ok.closed

  memory : (end params flags s (serial s.target.geometry.luns es)).buffers ≡ (end params flags s es).buffers
  memory =
      let near = agree 0 in
      shares-all s.target.geometry _ _ (sizes-of params flags k _ near.fixed near.fine) (sizes-of params flags k _ near.fixedʳ near.fineʳ) (λ l. (agree l).parts)

  answers : log params flags s (serial s.target.geometry.luns es) ≡ serial s.target.geometry.luns (log params flags s es)
  answers =
      sorted-answers params flags (ties params flags k) s.target.geometry lawful some es mix s (starts 0)
      ok.closed

  isolated : Isolated params flags s es
  isolated = record {
    answers = answers;
    in_order = rw answers (reordered s.target.geometry.luns (log params flags s es) (log-below params flags s (mix-below mix some)));
    array = ap (λ (b : Buffers). b.array) memory;
    counts = ap (λ (b : Buffers). b.counts) memory;
    registers = ap (λ (b : Buffers). b.registers) memory;
    luns = ext_get_or lun_unused _ _ ((agree 0).fine.four ∙ sym (agree 0).fineʳ.four) (λ l h. (agree l).lun);
  }

  undisturbed : (l : ℕ) → Undisturbed params flags s es l
  undisturbed l =
      let p : Seen params flags (ties params flags k) l s s es = seen params flags (ties params flags k) s.target.geometry lawful some es mix l s s (starts l) ok.closed ok.closed in
      record {
        answers = sym p.answers;
        lun = sym p.agree.lun;
        array = sym p.agree.parts.array;
        register = sym p.agree.parts.registers;
        counts = sym p.agree.parts.counts;
      }

pub isolation : Isolation
isolation = isolated

pub deletion : Deletion
deletion = undisturbed
