-- The vocabulary of lists and tests that the definitions of document 01 are written in. It is not part of that document.
--     at l i            what stands at place i, 0 past the end
--     first_bad ok n     the lowest number below n at which the test fails, and n where there is none
--     passes ok n       the test holds at every number below n
--     below ok n        the numbers below n that pass, ascending
--     follow stop f     x, f x, f (f x), .. up to the first that stops
-- Assumes nothing.
use Rattle.std.specs.Prelude.{ℕ, zero, suc, ◌+◌, Bool, true, false, ◌&&◌, ◌||◌, cond, List, [], ◌∷◌, ◌++◌, eqb, length, get_or, set, replicate}

abbrev pub at : List ℕ → ℕ → ℕ
at l i = get_or l i 0

-- ---- tests over numbers

-- from i on, n numbers
unfoldable pub from : (ℕ → Bool) → ℕ → ℕ → ℕ
from ok zero i = i
from ok (suc n) i = let r = from ok n (suc i) in cond (ok i) r i

unfoldable pub first_bad : (ℕ → Bool) → ℕ → ℕ
first_bad ok n = from ok n 0

abbrev pub passes : (ℕ → Bool) → ℕ → Bool
passes ok n = eqb (first_bad ok n) n

-- the test holds of each of 1 to n
unfoldable pub all : (ℕ → Bool) → ℕ → Bool
all ok zero = true
all ok (suc n) = ok (suc n) && all ok n

unfoldable pub below : (ℕ → Bool) → ℕ → List ℕ
below ok zero = []
below ok (suc n) = let l = below ok n in cond (ok n) (l ++ (n ∷ [])) l

-- the sum of f at every number below n
unfoldable pub total : (ℕ → ℕ) → ℕ → ℕ
total f zero = 0
total f (suc n) = total f n + f n

-- ---- lists

unfoldable pub member : ℕ → List ℕ → Bool
member x [] = false
member x (y ∷ l) = eqb x y || member x l

-- the members that pass, in their order
unfoldable pub keep : (ℕ → Bool) → List ℕ → List ℕ
keep ok [] = []
keep ok (x ∷ l) = let k = keep ok l in cond (ok x) (x ∷ k) k

-- the first member, and d where there is none
abbrev pub head_or : ℕ → List ℕ → ℕ
head_or d [] = d
head_or d (x ∷ l) = x

-- f i, f (i + 1), .., n of them
unfoldable pub tabulate_from : (ℕ → ℕ) → ℕ → ℕ → List ℕ
tabulate_from f i zero = []
tabulate_from f i (suc n) = f i ∷ tabulate_from f (suc i) n

-- f 0 to f (n − 1)
abbrev pub tabulate : (ℕ → ℕ) → ℕ → List ℕ
tabulate f n = tabulate_from f 0 n

-- as many zeros
abbrev pub zeros : List ℕ → List ℕ
zeros l = replicate (length l) 0

-- the first member goes to the end: at each place the next one, cyclically
abbrev pub rotate : List ℕ → List ℕ
rotate [] = []
rotate (x ∷ l) = l ++ (x ∷ [])

-- l with each value of vs stored at its place of ks, one after the other
unfoldable pub put_all : List ℕ → List ℕ → List ℕ → List ℕ
put_all [] vs l = l
put_all (k ∷ ks) [] l = l
put_all (k ∷ ks) (v ∷ vs) l = put_all ks vs (set l k v)

-- ---- following a step

-- from x on, at most n steps
unfoldable pub follow : (ℕ → Bool) → (ℕ → ℕ) → ℕ → ℕ → ℕ
follow stop f zero x = x
follow stop f (suc n) x = let r = follow stop f n (f x) in cond (stop x) x r
