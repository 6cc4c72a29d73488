-- Sets of numbers below 32, each held in one word: the numbers of the bits that are 1.
--
--   has k w           the number k is in the set that the word w holds: bit k of w is 1
--   set_from t k n    the word of those of the n numbers from k up that pass the test t, with k as bit 0
--   set_of t          the word of the set of the numbers below 32 that pass the test t
--   set w             the set that the word w holds
--   Member k s        the number k is in the set s
--   every_below n t   the test t passes at every number below n
--   implies, agree    one test implies another; two tests are equal
--   is_subset s t     every member of s is a member of t
--   same_set s t      s and t have the same members
--   joined s t        the members of s and those of t
--   added k s         the members of s and, where it is below 32, the number k
use Rattle.std.specs.Prelude.{◌≡◌, ℕ, zero, suc, ◌+◌, ◌*◌, ◌/◌, ◌%◌, ◌^◌, ◌<◌, Bool, true, cond, not, ◌&&◌, ◌||◌, ◌==◌}
use Rattle.sets.specs.declared.Set.{Set}

abbrev pub has : ℕ → ℕ → Bool
has k s = s / 2 ^ k % 2 == 1

abbrev pub set_from : (ℕ → Bool) → ℕ → ℕ → ℕ
set_from t k zero = 0
set_from t k (suc n) = cond (t k) 1 0 + 2 * set_from t (suc k) n

unfoldable pub set_of : (ℕ → Bool) → ℕ
set_of t = set_from t 0 32

abbrev pub set : ℕ → Set
set w = record { 0 = w }

abbrev pub Member : ℕ → Set → Type 0
Member k s = (k < 32) × (has k s.0 ≡ true)

abbrev pub every_below : ℕ → (ℕ → Bool) → Bool
every_below zero t = true
every_below (suc n) t = t n && every_below n t

abbrev pub implies : Bool → Bool → Bool
implies a b = not a || b

abbrev pub agree : Bool → Bool → Bool
agree a b = implies a b && implies b a

unfoldable pub is_subset : Set → Set → Bool
is_subset s t = every_below 32 (λ k. implies (has k s.0) (has k t.0))

unfoldable pub same_set : Set → Set → Bool
same_set s t = every_below 32 (λ k. agree (has k s.0) (has k t.0))

abbrev pub joined : Set → Set → Set
joined s t = set (set_of (λ k. has k s.0 || has k t.0))

abbrev pub added : ℕ → Set → Set
added n s = set (set_of (λ k. has k s.0 || k == n))
