-- Membership in a set that a test names, in a union and in a common part; sets with the same members are one.
use Rattle.std.proofs.Common.{◌≡◌, ℕ, zero, suc, ◌+◌, ◌*◌, ◌/◌, ◌%◌, ◌^◌, ◌<◌, ◌≤◌, min, max, Bool, true, false, cond, ◌&&◌, ◌||◌, eqb, Decides, sym, refl, ap, ◌∙◌, ⊎_elim, add-zero, add-suc, suc-add, pow-suc, one-add, arith, pow_mono}
use native.Mathlib.Nat.{div-eq_of_lt, zero-div}
use lib.Bits.{bit_and, bit_or, and_step, or_step, and_shr, or_shr, and_lt}
use Rattle.std.proofs.lemmas.Nat.{shr-shr}
use Rattle.std.proofs.lemmas.Bool.{ne_eqb, eq-eqb, eqb-true, and_parts, cases_lt, both_ways}
use Rattle.std.proofs.lemmas.Bool.Decides.{nat_tests, Decides-below_and, Decides-like, same_from_decides}
use Rattle.sets.specs.Sets.{has, set_from, set_of, Member, every_below, implies, agree, is_subset, same_set}
use Rattle.sets.specs.declared.Set.{Set}

-- the digits of a number whose lowest is b
has_zero : (b x : ℕ) → b < 2 → has 0 (b + 2 * x) ≡ eqb b 1
has_zero b x h = let e : (b + 2 * x) / 1 % 2 ≡ b = omega arith in ap (λ n. eqb n 1) e

has_suc : (k b x : ℕ) → b < 2 → has (suc k) (b + 2 * x) ≡ has k x
has_suc k b x h =
    let half : (b + 2 * x) / 2 ≡ x = omega arith in
    ap (λ n. eqb (n % 2) 1) (ap (λ j. (b + 2 * x) / 2 ^ j) (sym (one-add k)) ∙ sym (shr-shr (b + 2 * x) 1 k) ∙ ap (λ n. n / 2 ^ k) half)

pub has_nothing : (k : ℕ) → has k 0 ≡ false
has_nothing k = ap (λ n. eqb (n % 2) 1) (zero-div (2 ^ k))

digit_lt : (b : Bool) → cond b 1 0 < 2
digit_lt true = omega arith
digit_lt false = omega arith

digit_is : (b : Bool) → eqb (cond b 1 0) 1 ≡ b
digit_is true = refl
digit_is false = refl

has-set_from : (t : ℕ → Bool) (n j k : ℕ) → k < n → has k (set_from t j n) ≡ t (j + k)
has-set_from t zero j k h = absurd (omega arith)
has-set_from t (suc n) j zero h = has_zero (cond (t j) 1 0) (set_from t (suc j) n) (digit_lt (t j)) ∙ digit_is (t j) ∙ ap t (sym (add-zero j))
has-set_from t (suc n) j (suc k) h =
    has_suc k (cond (t j) 1 0) (set_from t (suc j) n) (digit_lt (t j)) ∙ has-set_from t n (suc j) k (omega arith)
    ∙ ap t (suc-add j k ∙ sym (add-suc j k))

has-set_from_past : (t : ℕ → Bool) (n j k : ℕ) → n ≤ k → has k (set_from t j n) ≡ false
has-set_from_past t zero j k h = has_nothing k
has-set_from_past t (suc n) j zero h = absurd (omega arith)
has-set_from_past t (suc n) j (suc k) h =
    has_suc k (cond (t j) 1 0) (set_from t (suc j) n) (digit_lt (t j)) ∙ has-set_from_past t n (suc j) k (omega arith)

pub has-set_of : (t : ℕ → Bool) (k : ℕ) → k < 32 → has k (set_of t) ≡ t k
unfolding set_of
has-set_of t k h = has-set_from t 32 0 k h ∙ ap t (omega arith)

pub has-set_of_past : (t : ℕ → Bool) (k : ℕ) → 32 ≤ k → has k (set_of t) ≡ false
unfolding set_of
has-set_of_past t k h = has-set_from_past t 32 0 k h

-- ---- sets with the same members are one
-- the digits of half a number
pub has_half : (k w : ℕ) → has (suc k) w ≡ has k (w / 2)
has_half k w = ap (λ n. eqb (n % 2) 1) (ap (λ j. w / 2 ^ j) (sym (one-add k)) ∙ sym (shr-shr w 1 k))

same_digit : (a b : ℕ) → has 0 a ≡ has 0 b → a % 2 ≡ b % 2
same_digit a b e = grind (arith, nat_tests)

pub same_from_members : (n a b : ℕ) → a < 2 ^ n → b < 2 ^ n → ((k : ℕ) → has k a ≡ has k b) → a ≡ b
same_from_members zero a b ha hb e = let one : 2 ^ 0 ≡ 1 = refl in omega arith
same_from_members (suc n) a b ha hb e =
    let p : 2 ^ suc n ≡ 2 ^ n * 2 = pow-suc 2 n in
    let half = same_from_members n (a / 2) (b / 2) (omega arith) (omega arith) (λ k. sym (has_half k a) ∙ e (suc k) ∙ has_half k b) in
    let low = same_digit a b (e 0) in
    omega arith

-- ---- bounds
set_from_lt : (t : ℕ → Bool) (n j : ℕ) → set_from t j n < 2 ^ n
set_from_lt t zero j = omega arith
set_from_lt t (suc n) j =
    let p : 2 ^ suc n ≡ 2 ^ n * 2 = pow-suc 2 n in
    let rest = set_from_lt t n (suc j) in
    let low = digit_lt (t j) in
    omega arith

pub set_of_lt : (t : ℕ → Bool) → set_of t < 2 ^ 32
unfolding set_of
set_of_lt t = set_from_lt t 32 0

-- a number below a power has no bit from there on
pub has_above : (n w k : ℕ) → w < 2 ^ n → n ≤ k → has k w ≡ false
has_above n w k h l =
    let high : 2 ^ n ≤ 2 ^ k = pow_mono l in
    ap (λ m. eqb (m % 2) 1) (div-eq_of_lt (omega arith))

-- a word has no bit 32
pub has_past : (w k : ℕ) → w < 2 ^ 32 → 32 ≤ k → has k w ≡ false
has_past w k h l = has_above 32 w k h l

-- ---- the operations on words
either_digit : (u v : ℕ) → u < 2 → v < 2 → eqb (max u v) 1 ≡ (eqb u 1 || eqb v 1)
either_digit u v hu hv = grind (arith, nat_tests)

both_digits : (u v : ℕ) → u < 2 → v < 2 → eqb (min u v) 1 ≡ (eqb u 1 && eqb v 1)
both_digits u v hu hv = grind (arith, nat_tests)

pub has_or : (k a b : ℕ) → has k (bit_or a b) ≡ (has k a || has k b)
has_or k a b =
    let x : ℕ = a / 2 ^ k in
    let y : ℕ = b / 2 ^ k in
    let step = or_step x y in
    let low : bit_or x y % 2 ≡ max (x % 2) (y % 2) = omega arith in
    ap (λ n. eqb (n % 2) 1) (or_shr a b k) ∙ ap (λ n. eqb n 1) low ∙ either_digit (x % 2) (y % 2) (omega arith) (omega arith)

pub has_and : (k a b : ℕ) → has k (bit_and a b) ≡ (has k a && has k b)
has_and k a b =
    let x : ℕ = a / 2 ^ k in
    let y : ℕ = b / 2 ^ k in
    let step = and_step x y in
    let low : bit_and x y % 2 ≡ min (x % 2) (y % 2) = omega arith in
    ap (λ n. eqb (n % 2) 1) (and_shr a b k) ∙ ap (λ n. eqb n 1) low ∙ both_digits (x % 2) (y % 2) (omega arith) (omega arith)

pub has_power : (k j : ℕ) → has k (2 ^ j) ≡ eqb k j
has_power zero zero = refl
has_power zero (suc j) =
    let p : 2 ^ suc j ≡ 2 ^ j * 2 = pow-suc 2 j in
    let even : 2 ^ suc j / 1 % 2 ≡ 0 = omega arith in
    ap (λ n. eqb n 1) even ∙ sym (ne_eqb 0 (suc j) (λ e. omega arith))
has_power (suc k) zero = has_half k 1 ∙ has_nothing k ∙ sym (ne_eqb (suc k) 0 (λ e. omega arith))
has_power (suc k) (suc j) =
    let p : 2 ^ suc j ≡ 2 ^ j * 2 = pow-suc 2 j in
    let half : 2 ^ suc j / 2 ≡ 2 ^ j = omega arith in
    has_half k (2 ^ suc j) ∙ ap (has k) half ∙ has_power k j ∙ next k j
  where
    next : (m n : ℕ) → eqb m n ≡ eqb (suc m) (suc n)
    next m n = grind (arith, nat_tests)

pub has_or_power : (k a j : ℕ) → has k (bit_or a (2 ^ j)) ≡ (has k a || eqb k j)
has_or_power k a j = has_or k a (2 ^ j) ∙ ap (λ b. has k a || b) (has_power k j)

-- ---- words by their members
-- tests that agree below 32 name one set
pub set_of-alike : (t u : ℕ → Bool) → ((k : ℕ) → k < 32 → t k ≡ u k) → set_of t ≡ set_of u
set_of-alike t u e =
    same_from_members 32 (set_of t) (set_of u) (set_of_lt t) (set_of_lt u)
    (λ k. ⊎_elim (λ h. has-set_of t k h ∙ e k h ∙ sym (has-set_of u k h)) (λ h. has-set_of_past t k h ∙ sym (has-set_of_past u k h)) (cases_lt k 32))

-- a word is the set of its members
pub word_is : (w : ℕ) (t : ℕ → Bool) → w < 2 ^ 32 → ((k : ℕ) → k < 32 → has k w ≡ t k) → w ≡ set_of t
word_is w t small e =
    same_from_members 32 w (set_of t) small (set_of_lt t)
    (λ k. ⊎_elim (λ h. e k h ∙ sym (has-set_of t k h)) (λ h. has_past w k small h ∙ sym (has-set_of_past t k h)) (cases_lt k 32))

-- ---- tests over all members
-- tests that imply one another are one
pub one_test : (a b : Bool) → (a ≡ true → b ≡ true) → (b ≡ true → a ≡ true) → a ≡ b
one_test true b f g = sym (f refl)
one_test false true f g = g refl
one_test false false f g = refl

pub decides_every : (t : ℕ → Bool) (P : ℕ → Type 0) → ((k : ℕ) → Decides (t k) (P k)) → (n : ℕ) → Decides (every_below n t) ((k : ℕ) → k < n → P k)
decides_every t P each n = Decides-below_and t P (λ m. every_below m t) each refl (λ m. refl) n

pub decides_true : (b : Bool) → Decides b (b ≡ true)
decides_true b = ((λ e. e), λ e. e)

pub decides_implies : (a b : Bool) (P Q : Type 0) → Decides a P → Decides b Q → Decides (implies a b) (P → Q)
decides_implies true b P Q x y = ((λ e p. y.0 e), λ h. y.1 (h (x.0 refl)))
decides_implies false b P Q x y = ((λ e p. absurd (both_ways false refl (x.1 p))), λ h. refl)

pub decides_agree : (a b : Bool) → Decides (agree a b) (a ≡ b)
decides_agree true true = ((λ e. refl), λ e. refl)
decides_agree true false = ((λ e. sym e), λ e. sym e)
decides_agree false true = ((λ e. e), λ e. e)
decides_agree false false = ((λ e. refl), λ e. refl)

-- every member of s is a member of t
pub decides_subset : (s t : Set) → Decides (is_subset s t) ((k : ℕ) → Member k s → Member k t)
unfolding is_subset
decides_subset s t =
    Decides-like (every_below 32 (λ k. implies (has k s.0) (has k t.0))) (λ h k m. (m.0, h k m.0 m.1)) (λ h k l m. (h k (l, m)).1)
    (decides_every (λ k. implies (has k s.0) (has k t.0)) (λ k. has k s.0 ≡ true → has k t.0 ≡ true) (λ k. decides_implies _ _ _ _ (decides_true (has k s.0)) (decides_true (has k t.0))) 32)

-- s and t have the same members
pub decides_same : (s t : Set) → Decides (same_set s t) ((k : ℕ) → k < 32 → has k s.0 ≡ has k t.0)
unfolding same_set
decides_same s t =
    decides_every (λ k. agree (has k s.0) (has k t.0)) (λ k. has k s.0 ≡ has k t.0) (λ k. decides_agree (has k s.0) (has k t.0)) 32

-- the test of two words
pub subset_word : (s t : Set) → s.0 < 2 ^ 32 → t.0 < 2 ^ 32 → eqb (bit_and s.0 t.0) s.0 ≡ is_subset s t
subset_word s t hs ht = same_from_decides _ _ words (decides_subset s t)
  where
    kept : (x y : Bool) → (x ≡ true → y ≡ true) → (x && y) ≡ x
    kept true y h = h refl
    kept false y h = refl

    -- at each number of a word, below 32 or not
    at : ((k : ℕ) → Member k s → Member k t) → (k : ℕ) → has k s.0 ≡ true → has k t.0 ≡ true
    at all k m = ⊎_elim (λ h. (all k (h, m)).1) (λ h. absurd (both_ways (has k s.0) (has_past s.0 k hs h) m)) (cases_lt k 32)

    words : Decides (eqb (bit_and s.0 t.0) s.0) ((k : ℕ) → Member k s → Member k t)
    words = (
      λ e k m. (m.0, (and_parts (has k s.0) (has k t.0) (sym (has_and k s.0 t.0) ∙ ap (has k) (eqb-true (bit_and s.0 t.0) s.0 e) ∙ m.1)).1),
      λ all. eq-eqb (bit_and s.0 t.0) s.0 (same_from_members 32 (bit_and s.0 t.0) s.0 (and_lt 32 s.0 t.0 hs ht) hs (λ k. has_and k s.0 t.0 ∙ kept (has k s.0) (has k t.0) (at all k))),
    )

pub same_word : (s t : Set) → s.0 < 2 ^ 32 → t.0 < 2 ^ 32 → eqb s.0 t.0 ≡ same_set s t
same_word s t hs ht = same_from_decides _ _ words (decides_same s t)
  where
    words : Decides (eqb s.0 t.0) ((k : ℕ) → k < 32 → has k s.0 ≡ has k t.0)
    words = (
      λ e k h. ap (has k) (eqb-true s.0 t.0 e),
      λ all. eq-eqb s.0 t.0 (same_from_members 32 s.0 t.0 hs ht
          (λ k. ⊎_elim (all k) (λ h. has_past s.0 k hs h ∙ sym (has_past t.0 k ht h)) (cases_lt k 32))),
    )

pub or_nothing : (x y : Bool) → y ≡ false → (x || y) ≡ x
or_nothing true y e = refl
or_nothing false y e = e

pub every_fails : (t : ℕ → Bool) (n j : ℕ) → j < n → t j ≡ false → every_below n t ≡ false
every_fails t n j l e = go (every_below n t) refl
  where
    go : (b : Bool) → every_below n t ≡ b → b ≡ false
    go false f = refl
    go true f = absurd (both_ways (t j) e ((decides_every t (λ k. t k ≡ true) (λ k. decides_true (t k)) n).0 f j l))
