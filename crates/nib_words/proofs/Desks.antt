-- Bytes put down one after the other: words after words, and how far a loop has come.
-- Assumes nothing.
use Prim.Native.Nat.{ℕ, suc, ◌+◌, ◌≤◌, ◌<◌}
use native.Mathlib.Numerals.{add-one}
use native.Mathlib.Omega.{arith}
use mathlib.Core.Path.{◌≡◌, refl, sym, ap, ◌∙◌}
use mathlib.Core.List.{List, [], ◌∷◌, ◌++◌}
use lib.ListN.{length, set, drop, length-set}
use lib.Seq.{sets, sets-eq}
use borrow.Author.Tests.{lt-ltb, le-ltb}
use Rattle.nib_words.specs.declared.desk.Desk.{Desk as Lent}
use Rattle.nib_words.specs.Desk.{Desk, down, wrote, lying, Writes}

pub wrote-append : (d : Desk) (a b : List ℕ) → wrote d (a ++ b) ≡ wrote (wrote d a) b
unfolding wrote
wrote-append d [] b = refl
wrote-append d (x ∷ a) b = wrote-append (down d x) a b

-- words after words, as calls one after the other say them
pub and_then : {d0 d1 d2 : Lent} {a b : List ℕ} → Writes d0 d1 a → Writes d1 d2 b → Writes d0 d2 (a ++ b)
and_then {d0} {d1} {d2} {a} {b} h k = record {
  same_room = k.same_room ∙ h.same_room;
  lies = k.lies ∙ ap (λ (d : Desk). wrote d b) h.lies ∙ sym (wrote-append (lying d0) a b);
}

-- nothing more
pub none : {d : Lent} → Writes d d []
unfolding wrote
none {d} = record { same_room = refl; lies = refl }

pub down-there : (room : List ℕ) (at b : ℕ) → at < length room
    → ◌≡◌ {A = Desk} (record { room = set room at b; at = at + 1 }) (wrote (record { room = room; at = at }) (b ∷ []))
unfolding wrote
down-there room at b h = rw (lt-ltb at (length room) h)

pub down-full : (room : List ℕ) (at b : ℕ) → length room ≤ at
    → ◌≡◌ {A = Desk} (record { room = room; at = at }) (wrote (record { room = room; at = at }) (b ∷ []))
unfolding wrote
down-full room at b h = rw (le-ltb at (length room) h)

-- where there is room for all of them, the words stand from the desk's place on, and the rest of the room is as it was
pub wrote-sets : (room : List ℕ) (at : ℕ) (s : List ℕ) → at + length s ≤ length room
    → wrote (record { room = room; at = at }) s ≡ record { room = sets room at s; at = at + length s }
unfolding wrote
wrote-sets room at [] h =
    let e : at + 0 ≡ at = omega arith in
    ap (λ (n : ℕ). record { room = room; at = n }) (sym e)
wrote-sets room at (b ∷ s) h =
    let below : at < length room = omega arith in
    let e : at + 1 ≡ suc at = add-one at in
    let f : suc at + length s ≡ at + suc (length s) = omega arith in
    let fits : suc at + length s ≤ length (set room at b) = rw (length-set room at b) (omega arith) in
    ap (λ (d : Desk). wrote d s) (sym (down-there room at b below))
    ∙ ap (λ (n : ℕ). wrote (record { room = set room at b; at = n }) s) e
    ∙ wrote-sets (set room at b) (suc at) s fits
    ∙ ap (λ (n : ℕ). record { room = sets (set room at b) (suc at) s; at = n }) f

pub wrote-whole : (room s : List ℕ) → length s ≤ length room
    → wrote (record { room = room; at = 0 }) s ≡ record { room = s ++ drop (length s) room; at = length s }
wrote-whole room s h =
    let e : 0 + length s ≡ length s = omega arith in
    wrote-sets room 0 s (rw (e) h)
    ∙ rw (sets-eq s room 0 (rw (e) h), e)
