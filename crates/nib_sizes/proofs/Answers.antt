-- The first refusal that holds, read from the top; and power-on agrees with the plan.
-- Assumes nothing.
use mathlib.Core.Path.{◌≡◌, refl, sym, ap}
use mathlib.Core.Bool.{Bool, true, false, ◌&&◌, not}
use mathlib.Core.List.{List}
use Prim.Native.Nat.{ℕ, zero, suc, ◌*◌}
use native.Mathlib.Omega.{arith}
use lib.Dec.{eqb, ltb}
use lib.ListN.{length, replicate, length-replicate}
use borrow.Author.Tests.{eq-eqb, le-leb}
use Rattle.slices.specs.Cells.{all_at_most}
use Rattle.page.specs.Page.{programs_a_page}
use Rattle.target.specs.Pick.{pick}
use Rattle.target.specs.Sizes.{page_size, sized}
use Rattle.target.specs.declared.Geometry.{Geometry}
use Rattle.power.specs.declared.PowerRefusal.{PowerRefusal}
use Rattle.power.specs.Power.{geometry_of, wrong_length, unsigned, crc_bad, field_bad, buffer_bad, content_bad, power_answer}
use Rattle.power.proofs.Answers as power
use Rattle.nib_sizes.specs.declared.Lengths.{Lengths}
use Rattle.nib_sizes.specs.declared.Unplanned.{Unplanned}
use Rattle.nib_sizes.specs.declared.Unplanned.TheVariants.{Refused, TooLarge}
use Rattle.std.specs.Prelude.{Result, Ok, Err}
use Rattle.nib_sizes.specs.Folder.{lengths_of, planned, plan_for, known_of, plan_of, answer_on, Agrees}

pub here : {p : Result Geometry PowerRefusal} (b : Bool) (x y : Result Geometry PowerRefusal) → b ≡ true → p ≡ x → p ≡ pick b x y
here b x y h e = rw (h) e

pub later : {p : Result Geometry PowerRefusal} (b : Bool) (x y : Result Geometry PowerRefusal) → b ≡ false → p ≡ y → p ≡ pick b x y
later b x y h e = rw (h) e

-- no count and no flag set
zeros : ℕ → List ℕ
zeros n = replicate n 0

unset : (most n : ℕ) → all_at_most most (zeros n) ≡ true
unfolding all_at_most zeros
unset most zero = refl
unset most (suc n) = rw (le-leb 0 most (omega arith)) (unset most n)

four : (a b c d : Bool) → a ≡ true → b ≡ true → c ≡ true → d ≡ true → (a && b && c && d) ≡ true
four a b c d p q r s = rw (p, q, r, s)

fit : (g : Geometry) → sized g (lengths_of g).array (lengths_of g).registers (length (zeros (lengths_of g).counts)) (length (zeros (lengths_of g).flags)) ≡ true
unfolding sized zeros
fit g =
    let blocks = g.luns * g.blocks in
    let pages = blocks * g.pages in
    let bytes = pages * page_size g in
    let registers = g.luns * page_size g in
    four (eqb bytes bytes) (eqb registers registers) (eqb (length (zeros pages)) pages) (eqb (length (zeros blocks)) blocks)
    (eq-eqb bytes bytes refl)
    (eq-eqb registers registers refl)
    (eq-eqb (length (zeros pages)) pages (length-replicate pages 0))
    (eq-eqb (length (zeros blocks)) blocks (length-replicate blocks 0))

content : (page : List ℕ) → not (all_at_most (programs_a_page page) (zeros (lengths_of (geometry_of page)).counts) && all_at_most 1 (zeros (lengths_of (geometry_of page)).flags)) ≡ false
content page = rw (unset (programs_a_page page) (lengths_of (geometry_of page)).counts, unset 1 (lengths_of (geometry_of page)).flags)

-- what the first four rules let pass is accepted on a folder of the page's lengths
fine : (page : List ℕ) → wrong_length page ≡ false → unsigned page ≡ false → crc_bad page ≡ false → field_bad page ≡ false → answer_on page (lengths_of (geometry_of page)) ≡ Ok tt
unfolding answer_on power_answer buffer_bad content_bad zeros
fine page a b c d =
    sym
    (power.later _ _ _ a
    (power.later _ _ _ b
    (power.later _ _ _ c
    (power.later _ _ _ d
    (power.later _ _ _ (ap not (fit (geometry_of page)))
    (power.later _ _ _ (content page) refl))))))

-- along the picks of the plan
along : (page : List ℕ) (b : Bool) (r : PowerRefusal) (k : Result Geometry PowerRefusal) → (b ≡ true → Agrees page (Err (Refused r))) → (b ≡ false → Agrees page (plan_for k)) → Agrees page (plan_for (pick b (Err r) k))
along page true r k h l = h refl
along page false r k h l = l refl

sizes : (page : List ℕ) (b : Bool) (l : Lengths) → answer_on page l ≡ Ok tt → Agrees page (pick b (Err (TooLarge l)) (Ok l))
sizes page true l h = h
sizes page false l h = h

pub agrees : (page : List ℕ) → Agrees page (plan_of page)
unfolding power_answer
agrees page =
    along page (wrong_length page) _ _ (λ a array registers counts flags. sym (power.here _ _ _ a)) (λ a.
    along page (unsigned page) _ _ (λ b array registers counts flags. sym (power.later _ _ _ a (power.here _ _ _ b))) (λ b.
    along page (crc_bad page) _ _ (λ c array registers counts flags. sym (power.later _ _ _ a (power.later _ _ _ b (power.here _ _ _ c)))) (λ c.
    along page (field_bad page) _ _ (λ d array registers counts flags. sym (power.later _ _ _ a (power.later _ _ _ b (power.later _ _ _ c (power.here _ _ _ d))))) (λ d.
    sizes page (ltb 4194304 (lengths_of (geometry_of page)).array) (lengths_of (geometry_of page)) (fine page a b c d)))))
