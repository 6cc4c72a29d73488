-- Lists joined over the numbers from one on.
use Rattle.std.proofs.Common.{◌≡◌, ℕ, zero, suc, ◌+◌, ◌-◌, ◌<◌, ◌≤◌, List, [], ◌++◌, sym, refl, ap, ◌∙◌, ap₂, add-zero, suc-add, zero-add, arith}
use Rattle.std.specs.List.{range_with_len, flat_map}
use Rattle.std.proofs.lemmas.List.{append-nil, append_assoc}

pub joined_split : {X : Type 0} (f : ℕ → List X) (a m d : ℕ)
    → flat_map f (range_with_len a (m + d)) ≡ flat_map f (range_with_len a m) ++ flat_map f (range_with_len (a + m) d)
joined_split f a zero d = ap (λ k. flat_map f (range_with_len a k)) (zero-add d) ∙ ap (λ b. flat_map f (range_with_len b d)) (sym (add-zero a))
joined_split f a (suc m) d =
    let at : a + 1 + m ≡ a + suc m = omega arith in
    ap (λ k. flat_map f (range_with_len a k)) (suc-add m d) ∙ ap (λ t. f a ++ t) (joined_split f (a + 1) m d)
    ∙ sym (append_assoc (f a) (flat_map f (range_with_len (a + 1) m)) (flat_map f (range_with_len (a + 1 + m) d)))
    ∙ ap (λ b. (f a ++ flat_map f (range_with_len (a + 1) m)) ++ flat_map f (range_with_len b d)) at

joined_none : {X : Type 0} (f : ℕ → List X) (a d : ℕ) → ((x : ℕ) → a ≤ x → x < a + d → f x ≡ []) → flat_map f (range_with_len a d) ≡ []
joined_none f a zero h = refl
joined_none f a (suc d) h = ap₂ (λ s t. s ++ t) (h a (omega arith) (omega arith)) (joined_none f (a + 1) d (λ x l m. h x (omega arith) (omega arith)))

pub joined_empty : {X : Type 0} (f : ℕ → List X) (n : ℕ) → ((x : ℕ) → x < n → f x ≡ []) → flat_map f (range_with_len 0 n) ≡ []
joined_empty f n h = joined_none f 0 n (λ x l m. h x (omega arith))

joined-alike : {X : Type 0} (f g : ℕ → List X) (a d : ℕ) → ((x : ℕ) → a ≤ x → x < a + d → f x ≡ g x) → flat_map f (range_with_len a d) ≡ flat_map g (range_with_len a d)
joined-alike f g a zero h = refl
joined-alike f g a (suc d) h = ap₂ (λ s t. s ++ t) (h a (omega arith) (omega arith)) (joined-alike f g (a + 1) d (λ x l m. h x (omega arith) (omega arith)))

-- the same at each number
pub joined_same : {X : Type 0} (f g : ℕ → List X) (n : ℕ) → ((x : ℕ) → x < n → f x ≡ g x) → flat_map f (range_with_len 0 n) ≡ flat_map g (range_with_len 0 n)
joined_same f g n h = joined-alike f g 0 n (λ x l m. h x (omega arith))

-- nothing from u on
pub joined-front : {X : Type 0} (f : ℕ → List X) (u n : ℕ) → u ≤ n → ((x : ℕ) → u ≤ x → x < n → f x ≡ [])
    → flat_map f (range_with_len 0 n) ≡ flat_map f (range_with_len 0 u)
joined-front f u n h e =
    let parts : n ≡ u + (n - u) = omega arith in
    ap (λ k. flat_map f (range_with_len 0 k)) parts ∙ joined_split f 0 u (n - u)
    ∙ ap (λ t. flat_map f (range_with_len 0 u) ++ t) (joined_none f (0 + u) (n - u) (λ x l m. e x (omega arith) (omega arith)))
    ∙ append-nil (flat_map f (range_with_len 0 u))

-- nothing after u
pub joined_to : {X : Type 0} (f : ℕ → List X) (u n : ℕ) → u < n → ((x : ℕ) → u < x → x < n → f x ≡ [])
    → flat_map f (range_with_len 0 n) ≡ flat_map f (range_with_len 0 u) ++ f u
joined_to f u n h e =
    joined-front f (u + 1) n (omega arith) (λ x l m. e x (omega arith) m) ∙ joined_split f 0 u 1
    ∙ ap (λ t. flat_map f (range_with_len 0 u) ++ t) (append-nil (f (0 + u)) ∙ ap f (zero-add u))
