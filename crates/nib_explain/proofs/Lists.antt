-- How far the loop over the rules has come.
-- Assumes nothing.
use Prim.Native.Nat.{ℕ, suc, ◌+◌, ◌≤◌, ◌<◌}
use native.Mathlib.Numerals.{add-one}
use mathlib.Core.Path.{◌≡◌, refl, sym, ap, ◌∙◌}
use mathlib.Core.Bool.{Bool, false, ◌||◌}
use mathlib.Core.List.{List, [], ◌∷◌, ◌++◌}
use lib.Dec.{ltb}
use lib.ListN.{length, get_or, drop, drop_of_length-le}
use lib.Seq.{drop-cons}
use Rattle.nib_words.specs.declared.desk.Desk.{Desk as Lent}
use Rattle.nib_words.specs.Desk.{Desk, wrote, lying, Writes}
use Rattle.nib_words.proofs.Desks.{wrote-append}
use Rattle.nib_explain.specs.Words.{rule_times, from_rule, by_rules}

-- words of a list's first element, and then of the rest
turned : (d d2 : Desk) (a b : List ℕ) → d2 ≡ wrote d a → wrote d2 b ≡ wrote d (a ++ b)
turned d d2 a b h = ap (λ (e : Desk). wrote e b) h ∙ sym (wrote-append d a b)

-- after the rules below i
pub record Ruling (first now : Lent) (s : List ℕ) (told : Bool) (i : ℕ) : Type 0 where
  pub same_room : now.room.ghost_name ≡ first.room.ghost_name
  pub rest : wrote (lying now) (from_rule (drop i s) i told) ≡ wrote (lying first) (from_rule (drop 1 s) 1 false)

pub ruling-begins : (first : Lent) (s : List ℕ) → Ruling first first s false 1
ruling-begins first s = record { same_room = refl; rest = refl }

rule-cons : (n : ℕ) (s : List ℕ) (i : ℕ) (told : Bool) → from_rule (n ∷ s) i told ≡ rule_times n i told ++ from_rule s (suc i) (told || ltb 0 n)
unfolding from_rule
rule-cons n s i told = refl

pub ruling-turn : (first now next : Lent) (s : List ℕ) (told : Bool) (i : ℕ) → Ruling first now s told i → i < length s
    → Writes now next (rule_times (get_or s i 0) i told) → Ruling first next s (told || ltb 0 (get_or s i 0)) (i + 1)
ruling-turn first now next s told i h below put = record {
  same_room = put.same_room ∙ h.same_room;
  rest =
      ap (λ (n : ℕ). wrote (lying next) (from_rule (drop n s) n (told || ltb 0 (get_or s i 0)))) (add-one i)
      ∙ turned (lying now) (lying next) (rule_times (get_or s i 0) i told) (from_rule (drop (suc i) s) (suc i) (told || ltb 0 (get_or s i 0))) put.lies
      ∙ ap (wrote (lying now))
      (sym (ap (λ (t : List ℕ). from_rule t i told) (drop-cons s i 0 below) ∙ rule-cons (get_or s i 0) (drop (suc i) s) i told))
      ∙ h.rest;
}

rules-none : (d : Desk) (i : ℕ) (told : Bool) → wrote d (from_rule [] i told) ≡ d
unfolding from_rule wrote
rules-none d i told = refl

pub ruling-end : (first now : Lent) (s : List ℕ) (told : Bool) (i : ℕ) → Ruling first now s told i → length s ≤ i → Writes first now (by_rules s)
unfolding by_rules
ruling-end first now s told i h past = record {
  same_room = h.same_room;
  lies =
      sym (ap (λ (t : List ℕ). wrote (lying now) (from_rule t i told)) (drop_of_length-le s past) ∙ rules-none (lying now) i told)
      ∙ h.rest;
}
