-- The numbers from one number up, and lists of numbers that rise.
use Rattle.std.proofs.Common.{◌≡◌, ℕ, zero, suc, ◌+◌, ◌<◌, ◌≤◌, List, [], ◌∷◌, ◌++◌, length, get_or, sym, ap, ◌∙◌, ap₂, subst₂, inl, inr, ⊎_elim, add-zero, suc-add, zero-add, add-one, arith}
use Rattle.std.specs.List.{range_with_len}
use Rattle.std.proofs.lemmas.List.FromFn.{map-range_with_len_more}
use Rattle.std.proofs.lemmas.List.{map-id}
use Rattle.std.proofs.lemmas.Bool.{cases_eq}
use Rattle.lists.specs.Members.{In, Distinct, Rising}
use Rattle.lists.proofs.Members.{all_in, in_all}
use Rattle.lists.proofs.Rising.{rising_distinct}

pub in_counting : (a n q : ℕ) → a ≤ q → q < a + n → In q (range_with_len a n)
in_counting a zero q h l = absurd (omega arith)
in_counting a (suc n) q h l = ⊎_elim (λ e. inl e) (λ e. inr (in_counting (a + 1) n q (omega arith) (omega arith))) (cases_eq q a)

pub counting_in : (a n q : ℕ) → In q (range_with_len a n) → (a ≤ q) × (q < a + n)
counting_in a zero q i = absurd i
counting_in a (suc n) q (inl e) = (omega arith, omega arith)
counting_in a (suc n) q (inr i) = let r = counting_in (a + 1) n q i in (omega arith, omega arith)

pub rising_counting : (a n : ℕ) → Rising ◌<◌ (range_with_len a n)
rising_counting a zero = tt
rising_counting a (suc n) = (all_in (λ z. a < z) (range_with_len (a + 1) n) (λ z i. let r = counting_in (a + 1) n z i in omega arith), rising_counting (a + 1) n)

pub distinct_counting : (a n : ℕ) → Distinct (range_with_len a n)
distinct_counting a n = rising_distinct ◌<◌ (λ x h. omega arith) (range_with_len a n) (rising_counting a n)

pub counting_append : (a m n : ℕ) → range_with_len a (m + n) ≡ range_with_len a m ++ range_with_len (a + m) n
counting_append a zero n = ap₂ range_with_len (sym (add-zero a)) (zero-add n)
counting_append a (suc m) n =
    ap (range_with_len a) (suc-add m n) ∙ ap (λ l. a ∷ l) (counting_append (a + 1) m n ∙ ap (λ b. range_with_len (a + 1) m ++ range_with_len b n) (omega arith))

pub counting_more : (a n j : ℕ) → a + n ≡ j → range_with_len a (n + 1) ≡ range_with_len a n ++ j ∷ []
counting_more a n j e = sym (map-id (range_with_len a (n + 1))) ∙ map-range_with_len_more (λ x. x) a n j e ∙ ap (λ l. l ++ j ∷ []) (map-id (range_with_len a n))

-- a list in which each number is below the next rises
pub rising_from_places : (xs : List ℕ) → ((k : ℕ) → k + 1 < length xs → get_or xs k 0 < get_or xs (k + 1) 0) → Rising ◌<◌ xs
rising_from_places [] h = tt
rising_from_places (x ∷ []) h = (tt, tt)
rising_from_places (x ∷ y ∷ xs) h =
    let rest = rising_from_places (y ∷ xs) (λ k l. subst₂ (λ a b. get_or (x ∷ y ∷ xs) a 0 < get_or (x ∷ y ∷ xs) b 0) (add-one k) (ap (λ n. n + 1) (add-one k) ∙ add-one (suc k) ∙ ap suc (sym (add-one k))) (h (k + 1) (omega arith))) in
    let first : x < y = h 0 (omega arith) in
    ((first, all_in (λ z. x < z) xs (λ z i. let l = in_all (λ w. y < w) xs z rest.0 i in omega arith)), rest)
