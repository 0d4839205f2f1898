-- Each refusal is given when its rule says and at no other time, as specs/Exact.antt states it.
-- Assumes nothing.
use mathlib.Core.Path.{◌≡◌, refl, sym, ap, subst, ◌∙◌}
use mathlib.Core.Bool.{Bool, true, false, ◌&&◌, not, false≢true}
use mathlib.Core.List.{List, [], ◌∷◌}
use Prim.Native.Nat.{ℕ}
use native.Mathlib.Omega.{arith}
use lib.ListN.{length, get_or}
use lib.Dec.{eqb}
use borrow.Author.Tests.{eqb-true, eq-eqb}
use Rattle.target.specs.Pick.{pick, or_else}
use Rattle.target.specs.Numbers.{number_of}
use Rattle.target.specs.declared.Event.{Event}
use Rattle.target.specs.declared.Target.{Target}
use Rattle.target.specs.declared.Refusal.{Refusal}
use Rattle.target.specs.declared.Refusal.TheVariants.{Unknown, BeforeReset, Misplaced, OutOfRange, LunWorks, OthersWork, Protected, PastEnd, NotOffered, NotWorking, LineHeld, BadRecord, NotUsable, NoCopyback}
use Rattle.target.specs.declared.Reply.{Reply}
use Rattle.target.specs.declared.Reply.TheVariants as reply
use Rattle.target.proofs.Both.{both}
use Rattle.rules.specs.Rules.{Rule, rules, first_holding, verdict}
use Rattle.step.specs.Usable.{usable}
use Rattle.step.specs.Step.{Buffers, reply_of, accepted_by, accepted, by_verdict, steady, step_of}
use Rattle.thm_kept.proofs.Choice.{by-pick}
use Rattle.thm_demands.specs.Exact.{rules_of, numbers, speaks, silent, Exact}
use Rattle.std.specs.Prelude.{Err, Ok, Result}

-- two constructors are never equal
apart : ◌≡◌ {A = ℕ} 0 1 → ⊥
apart h = omega arith

-- a refusal is told by its number
abbrev named : ℕ → Refusal
named n = get_or (Unknown ∷ Unknown ∷ BeforeReset ∷ Misplaced ∷ OutOfRange ∷ LunWorks ∷ OthersWork ∷ Protected ∷ PastEnd ∷ NotOffered ∷ NotWorking ∷ LineHeld ∷ BadRecord ∷ NotUsable ∷ NoCopyback ∷ []) n Unknown

named-number : (r : Refusal) → named (number_of r) ≡ r
named-number Unknown = refl
named-number BeforeReset = refl
named-number Misplaced = refl
named-number OutOfRange = refl
named-number LunWorks = refl
named-number OthersWork = refl
named-number Protected = refl
named-number PastEnd = refl
named-number NotOffered = refl
named-number NotWorking = refl
named-number LineHeld = refl
named-number BadRecord = refl
named-number NotUsable = refl
named-number NoCopyback = refl

pub by_number : (r q : Refusal) → number_of r ≡ number_of q → r ≡ q
by_number r q h = sym (named-number r) ∙ ap named h ∙ named-number q

same : (r q : Refusal) → eqb (number_of r) (number_of q) ≡ true → r ≡ q
same r q h = by_number r q (eqb-true (number_of r) (number_of q) h)

-- a refusal is listed; no refusal is listed twice
listed : Refusal → List Rule → Bool
listed q [] = false
listed q (r ∷ rs) = pick (eqb (number_of r.gives) (number_of q)) true (listed q rs)

distinct : List Rule → Bool
distinct [] = true
distinct (r ∷ rs) = not (listed r.gives rs) && distinct rs

speaks-listed : (q : Refusal) (rs : List Rule) → speaks q rs ≡ true → listed q rs ≡ true
unfolding listed
speaks-listed q [] h = h
speaks-listed q (r ∷ rs) h = by (λ k. speaks-listed q rs k) (eqb (number_of r.gives) (number_of q)) h
  where
    by : (speaks q rs ≡ true → listed q rs ≡ true) → (s : Bool) → pick s r.holds (not r.holds && speaks q rs) ≡ true → pick s true (listed q rs) ≡ true
    by ih true k = refl
    by ih false k = ih (both (not r.holds) (speaks q rs) k).1

not-true-twice : (b : Bool) → not b ≡ true → b ≡ true → ⊥
not-true-twice true h k = false≢true h
not-true-twice false h k = false≢true k

-- the first that holds is the one that speaks
to-speaks : (q : Refusal) (rs : List Rule) → distinct rs ≡ true → first_holding rs ≡ Err q → speaks q rs ≡ true
unfolding distinct or_else
to-speaks q [] d h = absurd (apart (cc))
to-speaks q (r ∷ rs) d h =
    let p = both (not (listed r.gives rs)) (distinct rs) d in
    by p.0 (λ k. to-speaks q rs p.1 k) r.holds h (eqb (number_of r.gives) (number_of q)) refl
  where
    by : not (listed r.gives rs) ≡ true → (first_holding rs ≡ Err q → speaks q rs ≡ true) → (b : Bool) → pick b (Err r.gives) (first_holding rs) ≡ Err q → (s : Bool) → eqb (number_of r.gives) (number_of q) ≡ s → pick s b (not b && speaks q rs) ≡ true
    by alone ih true k true e = refl
    by alone ih true k false e =
        let is : r.gives ≡ q = cc in
        absurd (false≢true (sym e ∙ eq-eqb (number_of r.gives) (number_of q) (ap number_of is)))
    by alone ih false k true e =
        let later = speaks-listed q rs (ih k) in
        absurd (not-true-twice (listed r.gives rs) alone (subst (λ (x : Refusal). listed x rs ≡ true) (sym (same r.gives q e)) later))
    by alone ih false k false e = ih k

from-speaks : (q : Refusal) (rs : List Rule) → speaks q rs ≡ true → first_holding rs ≡ Err q
unfolding or_else
from-speaks q [] h = absurd (false≢true h)
from-speaks q (r ∷ rs) h = by (λ k. from-speaks q rs k) r.holds (eqb (number_of r.gives) (number_of q)) refl h
  where
    by : (speaks q rs ≡ true → first_holding rs ≡ Err q) → (b s : Bool) → eqb (number_of r.gives) (number_of q) ≡ s → pick s b (not b && speaks q rs) ≡ true → pick b (Err r.gives) (first_holding rs) ≡ Err q
    by ih true true e k = ap Err (same r.gives q e)
    by ih true false e k = absurd (false≢true k)
    by ih false true e k = absurd (false≢true k)
    by ih false false e k = ih k

silent-first : (rs : List Rule) → silent rs ≡ true → first_holding rs ≡ (Ok tt)
unfolding or_else
silent-first [] h = refl
silent-first (r ∷ rs) h = by (λ k. silent-first rs k) r.holds h
  where
    by : (silent rs ≡ true → first_holding rs ≡ (Ok tt)) → (b : Bool) → (not b && silent rs) ≡ true → pick b (Err r.gives) (first_holding rs) ≡ (Ok tt)
    by ih true k = absurd (false≢true k)
    by ih false k = ih k

loud-first : (rs : List Rule) → silent rs ≡ false → (q : Refusal) × (first_holding rs ≡ Err q)
unfolding or_else
loud-first [] h = absurd (false≢true (sym h))
loud-first (r ∷ rs) h = by (λ k. loud-first rs k) r.holds h
  where
    by : (silent rs ≡ false → (q : Refusal) × (first_holding rs ≡ Err q)) → (b : Bool) → (not b && silent rs) ≡ false → (q : Refusal) × (pick b (Err r.gives) (first_holding rs) ≡ Err q)
    by ih true k = (r.gives, refl)
    by ih false k = ih k

-- a refusal that is not listed is never given
not-given : (q : Refusal) (rs : List Rule) → listed q rs ≡ false → first_holding rs ≡ Err q → ⊥
unfolding listed or_else
not-given q [] l h = apart (cc)
not-given q (r ∷ rs) l h = by (λ z k. not-given q rs z k) r.holds h (eqb (number_of r.gives) (number_of q)) refl l
  where
    by : (listed q rs ≡ false → first_holding rs ≡ Err q → ⊥) → (b : Bool) → pick b (Err r.gives) (first_holding rs) ≡ Err q → (s : Bool) → eqb (number_of r.gives) (number_of q) ≡ s → pick s true (listed q rs) ≡ false → ⊥
    by ih b k true e z = false≢true (sym z)
    by ih true k false e z =
        let is : r.gives ≡ q = cc in
        false≢true (sym e ∙ eq-eqb (number_of r.gives) (number_of q) (ap number_of is))
    by ih false k false e z = ih z k

-- the rules after 13 never give 13
pub never-13 : (t : Target) (e : Event) → verdict t e ≡ Err NotUsable → ⊥
unfolding verdict rules listed
never-13 t e h = not-given NotUsable (rules t e) refl h

module _ (t : Target) (e : Event) (page : List ℕ) (b : Buffers) (flags : List ℕ) where
  -- the reply of a verdict
  abbrev Says : Result Unit Refusal → Reply → Type 0
  Says v a = (q : Refusal) → ((v ≡ Err q → a ≡ reply.Refused q) × (a ≡ reply.Refused q → v ≡ Err q))

  no-refusal : (q : Refusal) → reply_of t e page b.registers ≡ reply.Refused q → ⊥
  unfolding reply_of
  no-refusal q h =
      by-pick (λ (a : Reply). a ≡ reply.Refused q → ⊥) (eqb e.kind 3) (reply.Byte _) reply.Accepted
      (λ _ k. apart (cc))
      (λ _ k. apart (cc))
      h

  verdict-says : (v : Result Unit Refusal) → Says v (by_verdict v t e page b flags).reply
  unfolding by_verdict accepted accepted_by
  verdict-says (Ok tt) q = (λ h. absurd (apart (cc)), λ h. absurd (no-refusal q h))
  verdict-says (Err r) q = (λ h. let is : r ≡ q = cc in ap reply.Refused is, λ h. let is : r ≡ q = cc in ap Err is)

  -- the step's reply is the first rule's, rule 13 included
  says : (ok : Bool) → Says (or_else (not ok) NotUsable (verdict t e)) (pick ok (steady t e page b flags) (record { reply = reply.Refused NotUsable; target = t; buffers = b })).reply
  unfolding or_else steady
  says true q = verdict-says (verdict t e) q
  says false q = (λ h. let is : NotUsable ≡ q = cc in ap reply.Refused is, λ h. let is : NotUsable ≡ q = cc in ap Err is)

  step-says : Says (first_holding (rules_of t e page b flags)) (step_of t e page b flags).reply
  unfolding rules_of step_of verdict
  step-says = says (usable t (length page) (length b.array) (length b.registers) (length b.counts) (length flags))

  all-distinct : distinct (rules_of t e page b flags) ≡ true
  unfolding distinct listed rules_of rules
  all-distinct = refl

  in_order : numbers (rules_of t e page b flags) ≡ 13 ∷ 12 ∷ 2 ∷ 1 ∷ 3 ∷ 6 ∷ 4 ∷ 9 ∷ 5 ∷ 14 ∷ 7 ∷ 8 ∷ 10 ∷ 11 ∷ []
  unfolding rules_of rules
  in_order = refl

  pub exact : Exact t e page b flags
  exact =
      let rs = rules_of t e page b flags in
      record {
        order = in_order;
        only_then = λ q h. to-speaks q rs all-distinct ((step-says q).1 h);
        always-then = λ q h. (step-says q).0 (from-speaks q rs h);
        else-accepted = λ h q k. let z : (Ok tt) ≡ Err q = sym (silent-first rs h) ∙ (step-says q).1 k in apart (cc);
        or-refused = λ h. let l = loud-first rs h in (l.0, (step-says l.0).0 l.1);
      }
