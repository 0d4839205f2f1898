-- The l-th record of two lists of LUN records becomes the same: if they agreed there they still do, and every other record stays.
-- Assumes nothing.
use mathlib.Core.Path.{◌≡◌, refl, sym, subst, ◌∙◌}
use mathlib.Core.Bool.{Bool, true, false}
use mathlib.Core.List.{List}
use Prim.Native.Nat.{ℕ, ◌<◌}
use lib.ListN.{length, set, length-set}
use lib.Seq.{get_or-set_same, get_or-set_other}
use Rattle.target.specs.Pick.{pick}
use Rattle.target.specs.Luns.{lun_unused, lun_at}
use Rattle.target.specs.declared.Lun.{Lun}

pub data Changed (l : ℕ) (xs ys : List Lun) : List Lun → List Lun → Type 0 where
  as-were : Changed l xs ys xs ys
  become : (u : Lun) → Changed l xs ys (set xs l u) (set ys l u)

-- a change of the record that was there
pub become-by : {l : ℕ} {xs ys : List Lun} (f : Lun → Lun) → lun_at xs l ≡ lun_at ys l
    → Changed l xs ys (set xs l (f (lun_at xs l))) (set ys l (f (lun_at ys l)))
become-by {l} {xs} {ys} f lun =
    subst (λ (u : Lun). Changed l xs ys (set xs l (f (lun_at xs l))) (set ys l (f u))) lun (become (f (lun_at xs l)))

pub changed-flip : {l : ℕ} {xs ys zs ws : List Lun} → Changed l xs ys zs ws → Changed l ys xs ws zs
changed-flip as-were = as-were
changed-flip (become u) = become u

pub changed-alike : {l : ℕ} {xs ys zs ws : List Lun} → l < length xs → l < length ys → lun_at xs l ≡ lun_at ys l
    → Changed l xs ys zs ws → lun_at zs l ≡ lun_at ws l
changed-alike there thereʳ lun as-were = lun
changed-alike {l} {xs} {ys} there thereʳ lun (become u) =
    get_or-set_same xs l u lun_unused there ∙ sym (get_or-set_same ys l u lun_unused thereʳ)

pub changed-apart : {l : ℕ} {xs ys zs ws : List Lun} (m : ℕ) → (m ≡ l → ⊥) → Changed l xs ys zs ws
    → lun_at zs m ≡ lun_at xs m
changed-apart m ne as-were = refl
changed-apart {l} {xs} m ne (become u) = get_or-set_other xs l m u lun_unused ne

pub changed-length : {l : ℕ} {xs ys zs ws : List Lun} → Changed l xs ys zs ws → length zs ≡ length xs
changed-length as-were = refl
changed-length {l} {xs} (become u) = length-set xs l u

-- a change that a test decides
pub changed-pick : {l : ℕ} {xs ys zs ws : List Lun} (b : Bool) → Changed l xs ys zs ws
    → Changed l xs ys (pick b zs xs) (pick b ws ys)
changed-pick true c = c
changed-pick false c = as-were
