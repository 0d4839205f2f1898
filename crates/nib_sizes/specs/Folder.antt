-- What a part folder has to hold. `proofs/Answers.antt` shows that power-on agrees.
use Rattle.std.specs.Prelude.{ℕ, ◌*◌, ◌≡◌, true, List, Result, Ok, Err, replicate, ltb}
use Rattle.target.specs.Pick.{pick}
use Rattle.target.specs.Sizes.{page_size, in_limits}
use Rattle.target.specs.declared.Geometry.{Geometry}
use Rattle.power.specs.declared.PowerRefusal.{PowerRefusal}
use Rattle.power.specs.declared.PowerRefusal.TheVariants.{PageLength, Signature, Crc, Field}
use Rattle.power.specs.Power.{geometry_of, wrong_length, unsigned, crc_bad, field_bad, power_answer}
use Rattle.nib_sizes.specs.declared.Lengths.{Lengths}
use Rattle.nib_sizes.specs.declared.Unplanned.{Unplanned}
use Rattle.nib_sizes.specs.declared.Unplanned.TheVariants.{Refused, TooLarge}

-- array LUNs × blocks × pages × P; registers LUNs × P; counts LUNs × blocks × pages; flags LUNs × blocks
abbrev pub lengths_of : Geometry → Lengths
lengths_of g = record {
  array = g.luns * g.blocks * g.pages * page_size g;
  registers = g.luns * page_size g;
  counts = g.luns * g.blocks * g.pages;
  flags = g.luns * g.blocks;
}

-- 4 MiB of array is what the program holds
abbrev pub planned : Lengths → Result Lengths Unplanned
planned l = pick (ltb 4194304 l.array) (Err (TooLarge l)) (Ok l)

-- power-on's refusals 20 to 23, lowest first, else the sizes
abbrev pub known_of : List ℕ → Result Geometry PowerRefusal
known_of page =
    pick (wrong_length page) (Err PageLength)
    (pick (unsigned page) (Err Signature)
    (pick (crc_bad page) (Err Crc)
    (pick (field_bad page) (Err Field)
    (Ok (geometry_of page)))))

-- a part that is known is within the limits
abbrev pub Limited : Result Geometry PowerRefusal → Type 0
Limited (Ok g) = in_limits g ≡ true
Limited (Err r) = Unit

abbrev pub plan_for : Result Geometry PowerRefusal → Result Lengths Unplanned
plan_for (Ok g) = planned (lengths_of g)
plan_for (Err r) = Err (Refused r)

abbrev pub plan_of : List ℕ → Result Lengths Unplanned
plan_of page = plan_for (known_of page)

-- what power-on answers on a folder of these lengths with no count and no flag set
unfoldable pub answer_on : List ℕ → Lengths → Result Unit PowerRefusal
answer_on page l = power_answer page l.array l.registers (replicate l.counts 0) (replicate l.flags 0)

-- power-on agrees: a page that is planned is accepted on a folder of those lengths, and one that is refused here is
-- refused by it with the same number, whatever the buffers are
abbrev pub Agrees : List ℕ → Result Lengths Unplanned → Type 0
Agrees page (Ok l) = answer_on page l ≡ Ok tt
Agrees page (Err (TooLarge l)) = answer_on page l ≡ Ok tt
Agrees page (Err (Refused r)) =
    (array registers : ℕ) (counts flags : List ℕ) → power_answer page array registers counts flags ≡ Err r
