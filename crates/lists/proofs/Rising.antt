-- Lists that rise in a relation: one list for each set.
use Rattle.std.proofs.Common.{◌≡◌, Bool, true, false, cond, ◌⊎◌, List, [], ◌∷◌, ◌++◌, map, filter, sym, refl, ◌∙◌, subst, ap₂, inl, inr, ⊎_elim}
use Rattle.std.specs.List.{flat_map}
use Rattle.lists.specs.Members.{In, Within, Distinct, Rising}
use Rattle.lists.proofs.Members.{in_all, all_in, in_append_cases, kept_in, map_in, joined_in}

module _ {X : Type 0} (R : X → X → Type 0) where
  pub rising_kept : (p : X → Bool) (xs : List X) → Rising R xs → Rising R (filter p xs)
  rising_kept p [] r = tt
  rising_kept p (x ∷ xs) r = go (p x) (rising_kept p xs r.1)
    where
      go : (b : Bool) → Rising R (filter p xs) → Rising R (cond b (x ∷ filter p xs) (filter p xs))
      go true s = (all_in (R x) (filter p xs) (λ z i. in_all (R x) xs z r.0 (kept_in p xs z i).0), s)
      go false s = s

  pub rising_append : (xs ys : List X) → Rising R xs → Rising R ys → ((y z : X) → In y xs → In z ys → R y z) → Rising R (xs ++ ys)
  rising_append [] ys r s h = s
  rising_append (x ∷ xs) ys r s h = (
    all_in (R x) (xs ++ ys) (λ z i. ⊎_elim (in_all (R x) xs z r.0) (λ j. h x z (inl refl) j) (in_append_cases xs ys z i)),
    rising_append xs ys r.1 s (λ y z i j. h y z (inr i) j),
  )

  pub rising_distinct : ((x : X) → R x x → ⊥) → (xs : List X) → Rising R xs → Distinct xs
  rising_distinct strict [] r = tt
  rising_distinct strict (x ∷ xs) r = ((λ i. strict x (in_all (R x) xs x r.0 i)), rising_distinct strict xs r.1)

module _ {X Y : Type 0} (R : X → X → Type 0) (S : Y → Y → Type 0) where
  pub rising_map : (f : X → Y) (xs : List X) → Rising R xs → ((x z : X) → In x xs → In z xs → R x z → S (f x) (f z)) → Rising S (map f xs)
  rising_map f [] r h = tt
  rising_map f (x ∷ xs) r h = (
    all_in (S (f x)) (map f xs) (λ y i. let m = map_in f xs y i in subst (S (f x)) m.2 (h x m.0 (inl refl) (inr m.1) (in_all (R x) xs m.0 r.0 m.1))),
    rising_map f xs r.1 (λ u v i j. h u v (inr i) (inr j)),
  )

  -- parts that rise, each below those of all later members
  pub rising_joined : (f : X → List Y) (xs : List X) → Rising R xs → ((x : X) → In x xs → Rising S (f x)) → ((x z : X) (u v : Y) → R x z → In u (f x) → In v (f z) → S u v) → Rising S (flat_map f xs)
  rising_joined f [] r h g = tt
  rising_joined f (x ∷ xs) r h g =
      rising_append S (f x) (flat_map f xs) (h x (inl refl)) (rising_joined f xs r.1 (λ z i. h z (inr i)) g)
      (λ u v i j. let m = joined_in f xs v j in g x m.0 u v (in_all (R x) xs m.0 r.0 m.1) i m.2)

-- ---- a relation that never holds both ways
module _ {X : Type 0} (R : X → X → Type 0) (one_way : (x y : X) → R x y → R y x → ⊥) where
  same_first : (x y : X) (xs ys : List X) → Rising R (x ∷ xs) → Rising R (y ∷ ys) → Within (x ∷ xs) (y ∷ ys) → Within (y ∷ ys) (x ∷ xs) → x ≡ y
  same_first x y xs ys r s f g = go (f x (inl refl)) (g y (inl refl))
    where
      go : (x ≡ y) ⊎ In x ys → (y ≡ x) ⊎ In y xs → x ≡ y
      go (inl e) j = e
      go (inr i) (inl e) = sym e
      go (inr i) (inr j) = absurd (one_way x y (in_all (R x) xs y r.0 j) (in_all (R y) ys x s.0 i))

  within_tails : (x y : X) (xs ys : List X) → x ≡ y → Rising R (x ∷ xs) → Within (x ∷ xs) (y ∷ ys) → Within xs ys
  within_tails x y xs ys e r h z i = go (h z (inr i))
    where
      go : (z ≡ y) ⊎ In z ys → In z ys
      go (inl f) = let l : R x x = subst (R x) (f ∙ sym e) (in_all (R x) xs z r.0 i) in absurd (one_way x x l l)
      go (inr j) = j

  -- two rising lists with the same members are the same list
  pub same_rising : (xs ys : List X) → Rising R xs → Rising R ys → Within xs ys → Within ys xs → xs ≡ ys
  same_rising [] [] r s f g = refl
  same_rising [] (y ∷ ys) r s f g = absurd (g y (inl refl))
  same_rising (x ∷ xs) [] r s f g = absurd (f x (inl refl))
  same_rising (x ∷ xs) (y ∷ ys) r s f g =
      let e = same_first x y xs ys r s f g in
      ap₂ ◌∷◌ e (same_rising xs ys r.1 s.1 (within_tails x y xs ys e r f) (within_tails y x ys xs (sym e) s g))
