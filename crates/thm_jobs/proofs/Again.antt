-- Read and written.
-- Assumes nothing.
use mathlib.Core.Path.{◌≡◌, refl, sym, ap, subst, ◌∙◌}
use mathlib.Core.Bool.{Bool, true, false, ◌&&◌}
use mathlib.Core.List.{List, [], ◌∷◌, ◌++◌}
use Prim.Native.Nat.{ℕ, zero, suc, ◌+◌, ◌-◌, ◌*◌, ◌/◌, ◌%◌, ◌<◌}
use native.Mathlib.Omega.{arith}
use lib.ListN.{length, drop, get_or}
use lib.Seq.{get_or-drop, drop-drop, drop-append_seam}
use lib.Dec.{eqb, ltb}
use borrow.Author.Tests.{eqb-true, le-ltb}
use Rattle.target.specs.Pick.{pick}
use Rattle.jobs.specs.declared.Job.{Job}
use Rattle.jobs.specs.declared.Job.TheVariants.{Read, ReadOut, Program, Erase, Status}
use Rattle.std.specs.Prelude.{Option, None, Some, Result, Ok, Err}
use Rattle.jobs.specs.declared.reading.First.{First}
use Rattle.jobs.specs.declared.reading.First.TheVariants as first
use Rattle.jobs.specs.declared.reading.Misfit.{Misfit}
use Rattle.jobs.specs.declared.reading.FoundJob.{FoundJob}
use Rattle.jobs.specs.Writing.{wide, too_wide, records_of, data_records, out_records}
use Rattle.jobs.specs.Reading.{misfit, Item, address, command, data_ins, data_outs, addresses, items, first_of, beginning, of_kind, many_of, through, column_at, row_at, grouped_of, found_of, begun_of, job_from, job_at}
use Rattle.jobs.proofs.Jobs.{read-size, read-out-size, program-size, erase-size, status-size}
use Rattle.jobs.proofs.Walks.{through-address, through-command, through-data, through-outs, through-none}
use Rattle.thm_jobs.specs.Round.{AllBytes, values_of, data_at, WrittenAgain, ReadAndWritten}
use Rattle.thm_jobs.proofs.Shapes.{both_of, outs-were, data-were, given-then}

-- which bytes begin a job
abbrev Opening : Option First → ℕ → Type 0
Opening None v = Unit
Opening (Some first.Read) v = v ≡ 0x00
Opening (Some first.ReadOut) v = v ≡ 0x06
Opening (Some first.Program) v = v ≡ 0x80
Opening (Some first.Erase) v = v ≡ 0x60
Opening (Some first.Status) v = v ≡ 0x78

by-pick : (P : Option First → Type 0) (b : Bool) (x y : Option First) → (b ≡ true → P x) → (b ≡ false → P y) → P (pick b x y)
by-pick P true x y f g = f refl
by-pick P false x y f g = g refl

opened : (v : ℕ) → Opening (first_of v) v
unfolding first_of
opened v =
    by-pick (λ (f : Option First). Opening f v) (eqb v 0x00) _ _ (λ e. eqb-true v 0x00 e)
    (λ _. by-pick (λ (f : Option First). Opening f v) (eqb v 0x06) _ _ (λ e. eqb-true v 0x06 e)
    (λ _. by-pick (λ (f : Option First). Opening f v) (eqb v 0x80) _ _ (λ e. eqb-true v 0x80 e)
    (λ _. by-pick (λ (f : Option First). Opening f v) (eqb v 0x60) _ _ (λ e. eqb-true v 0x60 e)
    (λ _. by-pick (λ (f : Option First). Opening f v) (eqb v 0x78) _ _ (λ e. eqb-true v 0x78 e) (λ _. tt)))))

abbrev Starting : Option First → ℕ → ℕ → Type 0
Starting None k v = Unit
Starting (Some first.Read) k v = (k ≡ 0) × (v ≡ 0x00)
Starting (Some first.ReadOut) k v = (k ≡ 0) × (v ≡ 0x06)
Starting (Some first.Program) k v = (k ≡ 0) × (v ≡ 0x80)
Starting (Some first.Erase) k v = (k ≡ 0) × (v ≡ 0x60)
Starting (Some first.Status) k v = (k ≡ 0) × (v ≡ 0x78)

joined : (f : Option First) (k v : ℕ) → k ≡ 0 → Opening f v → Starting f k v
joined None k v e o = tt
joined (Some first.Read) k v e o = (e, o)
joined (Some first.ReadOut) k v e o = (e, o)
joined (Some first.Program) k v e o = (e, o)
joined (Some first.Erase) k v e o = (e, o)
joined (Some first.Status) k v e o = (e, o)

started : (k v : ℕ) → Starting (beginning k v) k v
unfolding beginning
started k v =
    by-pick (λ (f : Option First). Starting f k v) (eqb k 0) (first_of v) None
    (λ e. joined (first_of v) k v (eqb-true k 0 e) (opened v))
    (λ _. tt)

-- items that were all there
never-whole : (p q : ℕ) → ◌≡◌ {A = Result ℕ Misfit} (Err (misfit p)) (Ok q) → ⊥
never-whole p q e = let z : ◌≡◌ {A = ℕ} 0 1 = cc in omega arith

record Address (is : List Item) (ts : List ℕ) (at p : ℕ) : Type 0 where
  value : ℕ
  rest : List ℕ
  same : ts ≡ 1 ∷ (value ∷ rest)
  on : through is rest (at + 1) ≡ Ok p

address-was : (is : List Item) (ts : List ℕ) (at p : ℕ) → through (address ∷ is) ts at ≡ Ok p → Address is ts at p
address-was is [] at p e = absurd (never-whole at p (sym (through-address is [] at) ∙ e))
address-was is (k ∷ []) at p e = absurd (never-whole at p (sym (through-address is (k ∷ []) at) ∙ e))
address-was is (k ∷ (v ∷ ts)) at p e = side (of_kind 1 k v) refl (sym (through-address is (k ∷ (v ∷ ts)) at) ∙ e) where
  side : (b : Bool) → of_kind 1 k v ≡ b → pick b (through is ts (at + 1)) (Err (misfit at)) ≡ Ok p → Address is (k ∷ (v ∷ ts)) at p
  side true w e =
      let ek : k ≡ 1 = eqb-true k 1 (both_of (eqb k 1) true w).0 in
      record { value = v; rest = ts; same = rw (ek); on = e }
  side false w e = absurd (never-whole at p e)

record Closing (b : ℕ) (is : List Item) (ts : List ℕ) (at p : ℕ) : Type 0 where
  rest : List ℕ
  same : ts ≡ 0 ∷ (b ∷ rest)
  on : through is rest (at + 1) ≡ Ok p

command-was : (b : ℕ) (is : List Item) (ts : List ℕ) (at p : ℕ) → through (command b ∷ is) ts at ≡ Ok p → Closing b is ts at p
command-was b is [] at p e = absurd (never-whole at p (sym (through-command b is [] at) ∙ e))
command-was b is (k ∷ []) at p e = absurd (never-whole at p (sym (through-command b is (k ∷ []) at) ∙ e))
command-was b is (k ∷ (v ∷ ts)) at p e = side (eqb k 0 && eqb v b) refl (sym (through-command b is (k ∷ (v ∷ ts)) at) ∙ e) where
  side : (c : Bool) → (eqb k 0 && eqb v b) ≡ c → pick c (through is ts (at + 1)) (Err (misfit at)) ≡ Ok p → Closing b is (k ∷ (v ∷ ts)) at p
  side true w e =
      let ek : k ≡ 0 = eqb-true k 0 (both_of (eqb k 0) (eqb v b) w).0 in
      let ev : v ≡ b = eqb-true v b (both_of (eqb k 0) (eqb v b) w).1 in
      record { rest = ts; same = rw (ek, ev); on = e }
  side false w e = absurd (never-whole at p e)

whole-at : (p q : ℕ) → ◌≡◌ {A = Result ℕ Misfit} (Ok p) (Ok q) → p ≡ q
whole-at p q e = cc

record Three (is : List Item) (ts : List ℕ) (at p : ℕ) : Type 0 where
  a : ℕ
  b : ℕ
  c : ℕ
  rest : List ℕ
  same : ts ≡ 1 ∷ (a ∷ (1 ∷ (b ∷ (1 ∷ (c ∷ rest)))))
  on : through is rest (at + 1 + 1 + 1) ≡ Ok p

three-were : (is : List Item) (ts : List ℕ) (at p : ℕ) → through (addresses 3 is) ts at ≡ Ok p → Three is ts at p
three-were is ts at p e =
    let x = address-was (addresses 2 is) ts at p e in
    let y = address-was (addresses 1 is) x.rest (at + 1) p x.on in
    let z = address-was is y.rest (at + 1 + 1) p y.on in
    record {
      a = x.value;
      b = y.value;
      c = z.value;
      rest = z.rest;
      same = x.same ∙ ap (λ (l : List ℕ). 1 ∷ (x.value ∷ l)) (y.same ∙ ap (λ (l : List ℕ). 1 ∷ (y.value ∷ l)) z.same);
      on = z.on;
    }

record Five (is : List Item) (ts : List ℕ) (at p : ℕ) : Type 0 where
  a : ℕ
  b : ℕ
  c : ℕ
  d : ℕ
  e : ℕ
  rest : List ℕ
  same : ts ≡ 1 ∷ (a ∷ (1 ∷ (b ∷ (1 ∷ (c ∷ (1 ∷ (d ∷ (1 ∷ (e ∷ rest)))))))))
  on : through is rest (at + 1 + 1 + 1 + 1 + 1) ≡ Ok p

five-were : (is : List Item) (ts : List ℕ) (at p : ℕ) → through (addresses 5 is) ts at ≡ Ok p → Five is ts at p
five-were is ts at p e =
    let x = address-was (addresses 4 is) ts at p e in
    let y = address-was (addresses 3 is) x.rest (at + 1) p x.on in
    let z = three-were is y.rest (at + 1 + 1) p y.on in
    record {
      a = x.value;
      b = y.value;
      c = z.a;
      d = z.b;
      e = z.c;
      rest = z.rest;
      same = x.same ∙ ap (λ (l : List ℕ). 1 ∷ (x.value ∷ l)) (y.same ∙ ap (λ (l : List ℕ). 1 ∷ (y.value ∷ l)) z.same);
      on = z.on;
    }

-- lists as they were, and the records of the jobs that they are read as
abbrev long : ℕ → ℕ → ℕ → ℕ → ℕ → ℕ → List ℕ → List ℕ
long first a b c d e rest = 0 ∷ (first ∷ (1 ∷ (a ∷ (1 ∷ (b ∷ (1 ∷ (c ∷ (1 ∷ (d ∷ (1 ∷ (e ∷ rest)))))))))))

abbrev short : ℕ → ℕ → ℕ → ℕ → List ℕ → List ℕ
short first a b c rest = 0 ∷ (first ∷ (1 ∷ (a ∷ (1 ∷ (b ∷ (1 ∷ (c ∷ rest)))))))

module _ (a b c d e : ℕ) (ha : a < 256) (hb : b < 256) (hc : c < 256) (hd : d < 256) (he : e < 256) (after : List ℕ) where
  column-low : (a + 256 * b) % 256 ≡ a
  column-low = omega arith

  column-high : (a + 256 * b) / 256 % 256 ≡ b
  column-high = omega arith

  row_low : (c + 256 * d + 65536 * e) % 256 ≡ c
  row_low = omega arith

  row-mid : (c + 256 * d + 65536 * e) / 256 % 256 ≡ d
  row-mid = omega arith

  row-high : (c + 256 * d + 65536 * e) / 65536 % 256 ≡ e
  row-high = omega arith

  read-so : (bytes : List ℕ) → long 0x00 a b c d e (0 ∷ (0x30 ∷ after)) ≡ records_of (Read (a + 256 * b) (c + 256 * d + 65536 * e)) bytes ++ after
  unfolding records_of
  read-so bytes = rw (column-low, column-high, row_low, row-mid, row-high)

  read-out-so : (n : ℕ) (bytes : List ℕ) → long 0x06 a b c d e (0 ∷ (0xe0 ∷ (out_records n ++ after))) ≡ records_of (ReadOut (a + 256 * b) (c + 256 * d + 65536 * e) n) bytes ++ after
  unfolding records_of
  read-out-so n bytes = rw (column-low, column-high, row_low, row-mid, row-high)

  program-so : (bytes : List ℕ) → long 0x80 a b c d e (data_records bytes ++ (0 ∷ (0x10 ∷ after))) ≡ records_of (Program (a + 256 * b) (c + 256 * d + 65536 * e)) bytes ++ after
  unfolding records_of
  program-so bytes = rw (column-low, column-high, row_low, row-mid, row-high, given-then bytes after)

  erase-so : (bytes : List ℕ) → short 0x60 c d e (0 ∷ (0xd0 ∷ after)) ≡ records_of (Erase (c + 256 * d + 65536 * e)) bytes ++ after
  unfolding records_of
  erase-so bytes = rw (row_low, row-mid, row-high)

  status-so : (n : ℕ) (bytes : List ℕ) → short 0x78 c d e (out_records n ++ after) ≡ records_of (Status (c + 256 * d + 65536 * e) n) bytes ++ after
  unfolding records_of
  status-so n bytes = rw (row_low, row-mid, row-high)

not_wide : (c r : ℕ) → c < 65536 → r < 16777216 → wide c r ≡ false
not_wide c r hc hr =
    let x : ltb 65535 c ≡ false = le-ltb 65535 c (omega arith) in
    let y : ltb 16777215 r ≡ false = le-ltb 16777215 r (omega arith) in
    rw (x, y)

column-of : (first a b c d e : ℕ) (rest : List ℕ) → column_at (long first a b c d e rest) ≡ a + 256 * b
unfolding column_at
column-of first a b c d e rest = refl

row_of : (first a b c d e : ℕ) (rest : List ℕ) → row_at (long first a b c d e rest) 3 ≡ c + 256 * d + 65536 * e
unfolding row_at
row_of first a b c d e rest = refl

short-row-of : (first a b c : ℕ) (rest : List ℕ) → row_at (short first a b c rest) 1 ≡ a + 256 * b + 65536 * c
unfolding row_at
short-row-of first a b c rest = refl

-- a job with a column: its numbers, and the list as it was
module _ (first : ℕ) (ts : List ℕ) (bound : (i : ℕ) → get_or (0 ∷ (first ∷ ts)) i 0 < 256) (is : List Item) (at p : ℕ) (f : Five is ts at p) where
  listed : 0 ∷ (first ∷ ts) ≡ long first f.a f.b f.c f.d f.e f.rest
  listed = ap (λ (l : List ℕ). 0 ∷ (first ∷ l)) f.same

  ha : f.a < 256
  ha = subst (λ (l : List ℕ). get_or l 3 0 < 256) listed (bound 3)

  hb : f.b < 256
  hb = subst (λ (l : List ℕ). get_or l 5 0 < 256) listed (bound 5)

  hc : f.c < 256
  hc = subst (λ (l : List ℕ). get_or l 7 0 < 256) listed (bound 7)

  hd : f.d < 256
  hd = subst (λ (l : List ℕ). get_or l 9 0 < 256) listed (bound 9)

  he : f.e < 256
  he = subst (λ (l : List ℕ). get_or l 11 0 < 256) listed (bound 11)

  column-is : column_at (0 ∷ (first ∷ ts)) ≡ f.a + 256 * f.b
  column-is = ap column_at listed ∙ column-of first f.a f.b f.c f.d f.e f.rest

  row_is : row_at (0 ∷ (first ∷ ts)) 3 ≡ f.c + 256 * f.d + 65536 * f.e
  row_is = ap (λ (l : List ℕ). row_at l 3) listed ∙ row_of first f.a f.b f.c f.d f.e f.rest

  narrow-long : wide (column_at (0 ∷ (first ∷ ts))) (row_at (0 ∷ (first ∷ ts)) 3) ≡ false
  narrow-long =
      let x = ha in
      let y = hb in
      let u = hc in
      let v = hd in
      let w = he in
      let column : column_at (0 ∷ (first ∷ ts)) < 65536 = omega (arith, column-is) in
      let row : row_at (0 ∷ (first ∷ ts)) 3 < 16777216 = omega (arith, row_is) in
      not_wide _ _ column row

-- and one without
module _ (first : ℕ) (ts : List ℕ) (bound : (i : ℕ) → get_or (0 ∷ (first ∷ ts)) i 0 < 256) (is : List Item) (at p : ℕ) (f : Three is ts at p) where
  listed-short : 0 ∷ (first ∷ ts) ≡ short first f.a f.b f.c f.rest
  listed-short = ap (λ (l : List ℕ). 0 ∷ (first ∷ l)) f.same

  sa : f.a < 256
  sa = subst (λ (l : List ℕ). get_or l 3 0 < 256) listed-short (bound 3)

  sb : f.b < 256
  sb = subst (λ (l : List ℕ). get_or l 5 0 < 256) listed-short (bound 5)

  sc : f.c < 256
  sc = subst (λ (l : List ℕ). get_or l 7 0 < 256) listed-short (bound 7)

  short-row-is : row_at (0 ∷ (first ∷ ts)) 1 ≡ f.a + 256 * f.b + 65536 * f.c
  short-row-is = ap (λ (l : List ℕ). row_at l 1) listed-short ∙ short-row-of first f.a f.b f.c f.rest

  narrow_short : wide 0 (row_at (0 ∷ (first ∷ ts)) 1) ≡ false
  narrow_short =
      let x = sa in
      let y = sb in
      let z = sc in
      let row : row_at (0 ∷ (first ∷ ts)) 1 < 16777216 = omega (arith, short-row-is) in
      not_wide 0 _ (omega arith) row

-- a job's records at the front give all of it
again : (trace : List ℕ) (at : ℕ) (j : Job) (bytes after : List ℕ) (p : ℕ) → too_wide j ≡ false → drop (2 * at) trace ≡ records_of j bytes ++ after → 2 * at + length (records_of j bytes) ≡ 2 * p → WrittenAgain trace at j bytes p
again trace at j bytes after p narrow same size =
    let rest : drop (2 * p) trace ≡ after =
    ap (λ (n : ℕ). drop n trace) (sym size)
    ∙ sym (drop-drop (length (records_of j bytes)) (2 * at) trace)
    ∙ ap (drop (length (records_of j bytes))) same
    ∙ drop-append_seam (records_of j bytes) after in
    record { narrow = narrow; same = rw (rest) same; size = size }

abbrev Sound : List ℕ → ℕ → FoundJob → Type 0
Sound trace at g = WrittenAgain trace at g.job (data_at trace g.place g.count) g.next

abbrev So : List ℕ → ℕ → Result (Option FoundJob) Misfit → Type 0
So trace at (Ok None) = Unit
So trace at (Err m) = Unit
So trace at (Ok (Some g)) = Sound trace at g

data_is : (trace : List ℕ) (d m n : ℕ) (rest : List ℕ) → m ≡ n → drop (2 * d) trace ≡ rest → data_at trace d m ≡ values_of n rest
unfolding data_at
data_is trace d m n rest e f = rw (e, f)

values-size : (n : ℕ) (ts : List ℕ) → length (values_of n ts) ≡ n
values-size zero ts = refl
values-size (suc n) ts = ap suc (values-size n (drop 2 ts))

module _ (trace : List ℕ) (at : ℕ) (ts : List ℕ) (p : ℕ) where
  read_again : drop (2 * at) trace ≡ 0 ∷ (0x00 ∷ ts) → ((i : ℕ) → get_or (0 ∷ (0x00 ∷ ts)) i 0 < 256) → through (items first.Read) ts (at + 1) ≡ Ok p → Sound trace at (grouped_of first.Read (0 ∷ (0x00 ∷ ts)) at p)
  unfolding too_wide
  read_again here bound e =
      let is : List Item = command 0x30 ∷ [] in
      let f = five-were is ts (at + 1) p e in
      let k = command-was 0x30 [] f.rest (at + 1 + 1 + 1 + 1 + 1 + 1) p f.on in
      let end : at + 1 + 1 + 1 + 1 + 1 + 1 + 1 ≡ p = whole-at _ p (sym (through-none k.rest (at + 1 + 1 + 1 + 1 + 1 + 1 + 1)) ∙ k.on) in
      let all : drop (2 * at) trace ≡ records_of (Read (column_at (0 ∷ (0x00 ∷ ts))) (row_at (0 ∷ (0x00 ∷ ts)) 3)) (data_at trace 0 0) ++ k.rest =
      here
      ∙ listed 0x00 ts bound is (at + 1) p f
      ∙ ap (long 0x00 f.a f.b f.c f.d f.e) k.same
      ∙ read-so f.a f.b f.c f.d f.e (ha 0x00 ts bound is (at + 1) p f) (hb 0x00 ts bound is (at + 1) p f) (hc 0x00 ts bound is (at + 1) p f) (hd 0x00 ts bound is (at + 1) p f) (he 0x00 ts bound is (at + 1) p f) k.rest (data_at trace 0 0)
      ∙ sym (rw (column-is 0x00 ts bound is (at + 1) p f, row_is 0x00 ts bound is (at + 1) p f)) in
      again trace at _ (data_at trace 0 0) k.rest p (narrow-long 0x00 ts bound is (at + 1) p f) all (omega (arith, read-size (column_at (0 ∷ (0x00 ∷ ts))) (row_at (0 ∷ (0x00 ∷ ts)) 3) (data_at trace 0 0)))

  read-out-again : drop (2 * at) trace ≡ 0 ∷ (0x06 ∷ ts) → ((i : ℕ) → get_or (0 ∷ (0x06 ∷ ts)) i 0 < 256) → through (items first.ReadOut) ts (at + 1) ≡ Ok p → Sound trace at (grouped_of first.ReadOut (0 ∷ (0x06 ∷ ts)) at p)
  unfolding too_wide
  read-out-again here bound e =
      let is : List Item = command 0xe0 ∷ (data_outs ∷ []) in
      let f = five-were is ts (at + 1) p e in
      let k = command-was 0xe0 (data_outs ∷ []) f.rest (at + 1 + 1 + 1 + 1 + 1 + 1) p f.on in
      let n = many_of 3 k.rest in
      let after = drop (2 * n) k.rest in
      let end : at + 1 + 1 + 1 + 1 + 1 + 1 + 1 + n ≡ p =
      whole-at _ p (sym (through-outs [] k.rest (at + 1 + 1 + 1 + 1 + 1 + 1 + 1) ∙ through-none after (at + 1 + 1 + 1 + 1 + 1 + 1 + 1 + n)) ∙ k.on) in
      let count : p - (at + 7) ≡ n = omega arith in
      let all : drop (2 * at) trace ≡ records_of (ReadOut (column_at (0 ∷ (0x06 ∷ ts))) (row_at (0 ∷ (0x06 ∷ ts)) 3) (p - (at + 7))) (data_at trace 0 0) ++ after =
      here
      ∙ listed 0x06 ts bound is (at + 1) p f
      ∙ ap (long 0x06 f.a f.b f.c f.d f.e) (k.same ∙ ap (λ (l : List ℕ). 0 ∷ (0xe0 ∷ l)) (outs-were (length k.rest) k.rest))
      ∙ read-out-so f.a f.b f.c f.d f.e (ha 0x06 ts bound is (at + 1) p f) (hb 0x06 ts bound is (at + 1) p f) (hc 0x06 ts bound is (at + 1) p f) (hd 0x06 ts bound is (at + 1) p f) (he 0x06 ts bound is (at + 1) p f) after n (data_at trace 0 0)
      ∙ sym (rw (column-is 0x06 ts bound is (at + 1) p f, row_is 0x06 ts bound is (at + 1) p f, count)) in
      again trace at _ (data_at trace 0 0) after p (narrow-long 0x06 ts bound is (at + 1) p f) all (omega (arith, read-out-size (column_at (0 ∷ (0x06 ∷ ts))) (row_at (0 ∷ (0x06 ∷ ts)) 3) (p - (at + 7)) (data_at trace 0 0)))

  program-again : drop (2 * at) trace ≡ 0 ∷ (0x80 ∷ ts) → ((i : ℕ) → get_or (0 ∷ (0x80 ∷ ts)) i 0 < 256) → through (items first.Program) ts (at + 1) ≡ Ok p → Sound trace at (grouped_of first.Program (0 ∷ (0x80 ∷ ts)) at p)
  unfolding too_wide
  program-again here bound e =
      let is : List Item = data_ins ∷ (command 0x10 ∷ []) in
      let f = five-were is ts (at + 1) p e in
      let n = many_of 2 f.rest in
      let k = command-was 0x10 [] (drop (2 * n) f.rest) (at + 1 + 1 + 1 + 1 + 1 + 1 + n) p (sym (through-data (command 0x10 ∷ []) f.rest (at + 1 + 1 + 1 + 1 + 1 + 1)) ∙ f.on) in
      let end : at + 1 + 1 + 1 + 1 + 1 + 1 + n + 1 ≡ p = whole-at _ p (sym (through-none k.rest (at + 1 + 1 + 1 + 1 + 1 + 1 + n + 1)) ∙ k.on) in
      let count : p - (at + 7) ≡ n = omega arith in
      let six : 2 * (at + 6) ≡ 2 * at + 12 = omega arith in
      let front : drop (2 * (at + 6)) trace ≡ f.rest =
      ap (λ (n : ℕ). drop n trace) six
      ∙ sym (drop-drop 12 (2 * at) trace)
      ∙ ap (drop 12) (here ∙ listed 0x80 ts bound is (at + 1) p f) in
      let given : data_at trace (at + 6) (p - (at + 7)) ≡ values_of n f.rest = data_is trace (at + 6) (p - (at + 7)) n f.rest count front in
      let all : drop (2 * at) trace ≡ records_of (Program (column_at (0 ∷ (0x80 ∷ ts))) (row_at (0 ∷ (0x80 ∷ ts)) 3)) (data_at trace (at + 6) (p - (at + 7))) ++ k.rest =
      here
      ∙ listed 0x80 ts bound is (at + 1) p f
      ∙ ap (long 0x80 f.a f.b f.c f.d f.e) (data-were (length f.rest) f.rest ∙ ap (λ (l : List ℕ). data_records (values_of n f.rest) ++ l) k.same)
      ∙ program-so f.a f.b f.c f.d f.e (ha 0x80 ts bound is (at + 1) p f) (hb 0x80 ts bound is (at + 1) p f) (hc 0x80 ts bound is (at + 1) p f) (hd 0x80 ts bound is (at + 1) p f) (he 0x80 ts bound is (at + 1) p f) k.rest (values_of n f.rest)
      ∙ sym (rw (column-is 0x80 ts bound is (at + 1) p f, row_is 0x80 ts bound is (at + 1) p f, given)) in
      let size : length (data_at trace (at + 6) (p - (at + 7))) ≡ n = ap length given ∙ values-size n f.rest in
      again trace at _ (data_at trace (at + 6) (p - (at + 7))) k.rest p (narrow-long 0x80 ts bound is (at + 1) p f) all (omega (arith, program-size (column_at (0 ∷ (0x80 ∷ ts))) (row_at (0 ∷ (0x80 ∷ ts)) 3) (data_at trace (at + 6) (p - (at + 7)))))

  erase-again : drop (2 * at) trace ≡ 0 ∷ (0x60 ∷ ts) → ((i : ℕ) → get_or (0 ∷ (0x60 ∷ ts)) i 0 < 256) → through (items first.Erase) ts (at + 1) ≡ Ok p → Sound trace at (grouped_of first.Erase (0 ∷ (0x60 ∷ ts)) at p)
  unfolding too_wide
  erase-again here bound e =
      let is : List Item = command 0xd0 ∷ [] in
      let f = three-were is ts (at + 1) p e in
      let k = command-was 0xd0 [] f.rest (at + 1 + 1 + 1 + 1) p f.on in
      let end : at + 1 + 1 + 1 + 1 + 1 ≡ p = whole-at _ p (sym (through-none k.rest (at + 1 + 1 + 1 + 1 + 1)) ∙ k.on) in
      let zero-fits : 0 < 256 = omega arith in
      let all : drop (2 * at) trace ≡ records_of (Erase (row_at (0 ∷ (0x60 ∷ ts)) 1)) (data_at trace 0 0) ++ k.rest =
      here
      ∙ listed-short 0x60 ts bound is (at + 1) p f
      ∙ ap (short 0x60 f.a f.b f.c) k.same
      ∙ erase-so 0 0 f.a f.b f.c zero-fits zero-fits (sa 0x60 ts bound is (at + 1) p f) (sb 0x60 ts bound is (at + 1) p f) (sc 0x60 ts bound is (at + 1) p f) k.rest (data_at trace 0 0)
      ∙ sym (rw (short-row-is 0x60 ts bound is (at + 1) p f)) in
      again trace at _ (data_at trace 0 0) k.rest p (narrow_short 0x60 ts bound is (at + 1) p f) all (omega (arith, erase-size (row_at (0 ∷ (0x60 ∷ ts)) 1) (data_at trace 0 0)))

  status-again : drop (2 * at) trace ≡ 0 ∷ (0x78 ∷ ts) → ((i : ℕ) → get_or (0 ∷ (0x78 ∷ ts)) i 0 < 256) → through (items first.Status) ts (at + 1) ≡ Ok p → Sound trace at (grouped_of first.Status (0 ∷ (0x78 ∷ ts)) at p)
  unfolding too_wide
  status-again here bound e =
      let is : List Item = data_outs ∷ [] in
      let f = three-were is ts (at + 1) p e in
      let n = many_of 3 f.rest in
      let after = drop (2 * n) f.rest in
      let end : at + 1 + 1 + 1 + 1 + n ≡ p = whole-at _ p (sym (through-outs [] f.rest (at + 1 + 1 + 1 + 1) ∙ through-none after (at + 1 + 1 + 1 + 1 + n)) ∙ f.on) in
      let count : p - (at + 4) ≡ n = omega arith in
      let zero-fits : 0 < 256 = omega arith in
      let all : drop (2 * at) trace ≡ records_of (Status (row_at (0 ∷ (0x78 ∷ ts)) 1) (p - (at + 4))) (data_at trace 0 0) ++ after =
      here
      ∙ listed-short 0x78 ts bound is (at + 1) p f
      ∙ ap (short 0x78 f.a f.b f.c) (outs-were (length f.rest) f.rest)
      ∙ status-so 0 0 f.a f.b f.c zero-fits zero-fits (sa 0x78 ts bound is (at + 1) p f) (sb 0x78 ts bound is (at + 1) p f) (sc 0x78 ts bound is (at + 1) p f) after n (data_at trace 0 0)
      ∙ sym (rw (short-row-is 0x78 ts bound is (at + 1) p f, count)) in
      again trace at _ (data_at trace 0 0) after p (narrow_short 0x78 ts bound is (at + 1) p f) all (omega (arith, status-size (row_at (0 ∷ (0x78 ∷ ts)) 1) (p - (at + 4)) (data_at trace 0 0)))

-- from the record that begins a job
module _ (trace : List ℕ) (at k v : ℕ) (ts : List ℕ) (here : drop (2 * at) trace ≡ k ∷ (v ∷ ts)) (bound : (i : ℕ) → get_or (k ∷ (v ∷ ts)) i 0 < 256) where
  by-reached : (f : First) (b : ℕ) → k ≡ 0 → v ≡ b
      → ((p : ℕ) → drop (2 * at) trace ≡ 0 ∷ (b ∷ ts) → ((i : ℕ) → get_or (0 ∷ (b ∷ ts)) i 0 < 256) → through (items f) ts (at + 1) ≡ Ok p → Sound trace at (grouped_of f (0 ∷ (b ∷ ts)) at p))
      → (r : Result ℕ Misfit) → through (items f) ts (at + 1) ≡ r → So trace at (found_of f (k ∷ (v ∷ ts)) at r)
  by-reached f b ek ev made (Err m) e = tt
  by-reached f b ek ev made (Ok p) e = rw (ek, ev) (made p (rw (ek, ev) at here) (rw (ek, ev) at bound) e)

  by_first : (f : Option First) → Starting f k v → So trace at (begun_of f (k ∷ (v ∷ ts)) at)
  by_first None s = tt
  by_first (Some first.Read) s = by-reached first.Read 0x00 s.0 s.1 (λ p h b e. read_again trace at ts p h b e) _ refl
  by_first (Some first.ReadOut) s = by-reached first.ReadOut 0x06 s.0 s.1 (λ p h b e. read-out-again trace at ts p h b e) _ refl
  by_first (Some first.Program) s = by-reached first.Program 0x80 s.0 s.1 (λ p h b e. program-again trace at ts p h b e) _ refl
  by_first (Some first.Erase) s = by-reached first.Erase 0x60 s.0 s.1 (λ p h b e. erase-again trace at ts p h b e) _ refl
  by_first (Some first.Status) s = by-reached first.Status 0x78 s.0 s.1 (λ p h b e. status-again trace at ts p h b e) _ refl

from : (trace : List ℕ) (at : ℕ) (ts : List ℕ) → drop (2 * at) trace ≡ ts → ((i : ℕ) → get_or ts i 0 < 256) → So trace at (job_from ts at)
from trace at [] here bound = tt
from trace at (k ∷ []) here bound = tt
from trace at (k ∷ (v ∷ ts)) here bound = by_first trace at k v ts here bound (beginning k v) (started k v)

bytes-from : (trace : List ℕ) (n : ℕ) → AllBytes trace → (i : ℕ) → get_or (drop n trace) i 0 < 256
bytes-from trace n b i = rw (get_or-drop n trace i 0) (b.each (n + i))

job-so : (trace : List ℕ) (at : ℕ) → AllBytes trace → So trace at (job_at trace at)
unfolding job_at
job-so trace at b = from trace at (drop (2 * at) trace) refl (bytes-from trace (2 * at) b)

pub read-and-written : ReadAndWritten
read-and-written trace at j d n p b e = rw (e) at (job-so trace at b)
