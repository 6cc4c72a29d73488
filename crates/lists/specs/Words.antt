-- Words: lists of numbers, compared letter by letter.
--
--   Lower u v             the word u reads lower than v: at the first letter in which they differ, its letter is the lower
--   lower u v             the test of that
--   words k n             all words of k letters below n, the lowest first
--   FirstDifference u v   the first letter in which u and v differ: the words agree before it, and that of u is the lower
use Rattle.std.specs.Prelude.{◌≡◌, ℕ, zero, suc, ◌<◌, Bool, false, ◌&&◌, ◌||◌, ◌⊎◌, List, [], ◌∷◌, map, length, ◌==◌, nat_lt, slice_index, slice_index_or}
use Rattle.std.specs.List.{range_with_len, flat_map}

abbrev pub Lower : List ℕ → List ℕ → Type 0
Lower [] v = ⊥
Lower (x ∷ u) [] = ⊥
Lower (x ∷ u) (y ∷ v) = (x < y) ⊎ ((x ≡ y) × Lower u v)

abbrev pub lower : List ℕ → List ℕ → Bool
lower [] v = false
lower (x ∷ u) [] = false
lower (x ∷ u) (y ∷ v) = nat_lt x y || (x == y && lower u v)

abbrev pub words : ℕ → ℕ → List (List ℕ)
words zero n = [] ∷ []
words (suc k) n = flat_map (λ x. map (λ w. x ∷ w) (words k n)) (range_with_len 0 n)

-- a place up to which two words agree, and at which the letter of the first is the lower
pub record FirstDifference (u v : List ℕ) : Type 0 where
  pub at : ℕ
  pub there : at < length u
  pub there' : at < length v
  pub before : (j : ℕ) → j < at → slice_index u j ≡ slice_index v j
  pub lower : slice_index_or u at 0 < slice_index v at
