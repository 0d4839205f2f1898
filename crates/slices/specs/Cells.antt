-- Lists of lent bytes: a part, a splice, an AND, a bound on every byte, whether some byte is set.
use Rattle.std.specs.Prelude.{ℕ, Bool, List, [], ◌∷◌, ◌++◌, take, drop, leb, ltb}
use Rattle.std.specs.Int.Bits.{bit_and}
use Rattle.std.specs.List.{list_all, list_any}

-- the n bytes from `at` on
unfoldable pub part : List ℕ → ℕ → ℕ → List ℕ
part xs at n = take n (drop at xs)

-- the list with its n bytes from `at` on replaced by `new`
unfoldable pub splice : List ℕ → ℕ → ℕ → List ℕ → List ℕ
splice xs at n new = take at xs ++ (new ++ drop n (drop at xs))

-- each byte of the first list, ANDed with its neighbour of the second
unfoldable pub and_bytes : List ℕ → List ℕ → List ℕ
and_bytes [] ys = []
and_bytes (x ∷ xs) [] = x ∷ xs
and_bytes (x ∷ xs) (y ∷ ys) = bit_and x y ∷ and_bytes xs ys

-- no byte is above `most`
unfoldable pub all_at_most : ℕ → List ℕ → Bool
all_at_most most xs = list_all (λ x. leb x most) xs

-- some byte is above 0
unfoldable pub some_set : List ℕ → Bool
some_set xs = list_any (λ x. ltb 0 x) xs
