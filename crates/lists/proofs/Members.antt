-- Members of appended, mapped, joined and filtered lists.
use Rattle.std.proofs.Common.{◌≡◌, ℕ, zero, suc, ◌<◌, Bool, true, false, cond, ◌||◌, ◌⊎◌, List, [], ◌∷◌, ◌++◌, map, length, get_or, filter, sym, refl, ap, ◌∙◌, subst, inl, inr, ⊎_elim, arith}
use Rattle.std.specs.List.{flat_map, AllByRecursion, list_any}
use Rattle.std.proofs.lemmas.Bool.{both_ways}
use Rattle.lists.specs.Members.{In}

module _ {X : Type 0} where
  pub in_all : (P : X → Type 0) (xs : List X) (z : X) → AllByRecursion P xs → In z xs → P z
  in_all P [] z a i = absurd i
  in_all P (x ∷ xs) z a (inl e) = subst P (sym e) a.0
  in_all P (x ∷ xs) z a (inr i) = in_all P xs z a.1 i

  pub all_in : (P : X → Type 0) (xs : List X) → ((z : X) → In z xs → P z) → AllByRecursion P xs
  all_in P [] h = tt
  all_in P (x ∷ xs) h = (h x (inl refl), all_in P xs (λ z i. h z (inr i)))

  pub in_get_or : (xs : List X) (z d : X) → In z xs → (k : ℕ) × (k < length xs) × (get_or xs k d ≡ z)
  in_get_or [] z d i = absurd i
  in_get_or (x ∷ xs) z d (inl e) = (0, omega arith, sym e)
  in_get_or (x ∷ xs) z d (inr i) = let r = in_get_or xs z d i in (suc r.0, (let h = r.1 in omega arith), r.2)

  pub get_or_in : (xs : List X) (k : ℕ) (d : X) → k < length xs → In (get_or xs k d) xs
  get_or_in [] k d h = absurd (omega arith)
  get_or_in (x ∷ xs) zero d h = inl refl
  get_or_in (x ∷ xs) (suc k) d h = inr (get_or_in xs k d (omega arith))

  -- ---- ++
  pub in_append_left : (xs ys : List X) (z : X) → In z xs → In z (xs ++ ys)
  in_append_left [] ys z i = absurd i
  in_append_left (x ∷ xs) ys z (inl e) = inl e
  in_append_left (x ∷ xs) ys z (inr i) = inr (in_append_left xs ys z i)

  pub in_append_right : (xs ys : List X) (z : X) → In z ys → In z (xs ++ ys)
  in_append_right [] ys z i = i
  in_append_right (x ∷ xs) ys z i = inr (in_append_right xs ys z i)

  pub in_append_cases : (xs ys : List X) (z : X) → In z (xs ++ ys) → In z xs ⊎ In z ys
  in_append_cases [] ys z i = inr i
  in_append_cases (x ∷ xs) ys z (inl e) = inl (inl e)
  in_append_cases (x ∷ xs) ys z (inr i) = ⊎_elim (λ j. inl (inr j)) (λ j. inr j) (in_append_cases xs ys z i)

  -- a list splits at each of its members
  pub in_split : (xs : List X) (z : X) → In z xs → (us : List X) × (vs : List X) × (xs ≡ us ++ z ∷ vs)
  in_split [] z i = absurd i
  in_split (x ∷ xs) z (inl e) = ([], xs, ap (λ y. y ∷ xs) (sym e))
  in_split (x ∷ xs) z (inr i) = let r = in_split xs z i in (x ∷ r.0, r.1, ap (λ l. x ∷ l) r.2)

  -- ---- filters
  pub in_kept : (p : X → Bool) (xs : List X) (z : X) → In z xs → p z ≡ true → In z (filter p xs)
  in_kept p [] z i h = absurd i
  in_kept p (x ∷ xs) z i h = go (p x) refl i (in_kept p xs z)
    where
      go : (b : Bool) → p x ≡ b → In z (x ∷ xs) → (In z xs → p z ≡ true → In z (filter p xs)) → In z (cond b (x ∷ filter p xs) (filter p xs))
      go true e (inl j) rec = inl j
      go true e (inr j) rec = inr (rec j h)
      go false e (inl j) rec = absurd (both_ways (p x) e (ap p (sym j) ∙ h))
      go false e (inr j) rec = rec j h

  pub kept_in : (p : X → Bool) (xs : List X) (z : X) → In z (filter p xs) → In z xs × (p z ≡ true)
  kept_in p [] z = λ i. absurd i
  kept_in p (x ∷ xs) z = go (p x) refl (kept_in p xs z)
    where
      go : (b : Bool) → p x ≡ b → (In z (filter p xs) → In z xs × (p z ≡ true)) → In z (cond b (x ∷ filter p xs) (filter p xs)) → In z (x ∷ xs) × (p z ≡ true)
      go true e rec (inl j) = (inl j, ap p j ∙ e)
      go true e rec (inr j) = let r = rec j in (inr r.0, r.1)
      go false e rec j = let r = rec j in (inr r.0, r.1)

  -- a test finds one of a list that passes it, exactly when there is one
  pub any_in : (t : X → Bool) (xs : List X) → list_any t xs ≡ true → (z : X) × In z xs × (t z ≡ true)
  any_in t [] e = absurd (both_ways false refl e)
  any_in t (x ∷ xs) e = go (t x) refl e (any_in t xs)
    where
      go : (b : Bool) → t x ≡ b → (b || list_any t xs) ≡ true → (list_any t xs ≡ true → (z : X) × In z xs × (t z ≡ true)) → (z : X) × In z (x ∷ xs) × (t z ≡ true)
      go true h f on = (x, inl refl, h)
      go false h f on = let r = on f in (r.0, inr r.1, r.2)

  pub in_any : (t : X → Bool) (xs : List X) (z : X) → In z xs → t z ≡ true → list_any t xs ≡ true
  in_any t [] z i h = absurd i
  in_any t (x ∷ xs) z (inl e) h = rw (ap t (sym e) ∙ h) refl
  in_any t (x ∷ xs) z (inr i) h = go (t x) (in_any t xs z i h)
    where
      go : (b : Bool) → list_any t xs ≡ true → (b || list_any t xs) ≡ true
      go true f = refl
      go false f = f

module _ {X Y : Type 0} where
  -- ---- maps
  pub in_map : (f : X → Y) (xs : List X) (z : X) → In z xs → In (f z) (map f xs)
  in_map f [] z i = absurd i
  in_map f (x ∷ xs) z (inl e) = inl (ap f e)
  in_map f (x ∷ xs) z (inr i) = inr (in_map f xs z i)

  pub map_in : (f : X → Y) (xs : List X) (y : Y) → In y (map f xs) → (z : X) × In z xs × (f z ≡ y)
  map_in f [] y i = absurd i
  map_in f (x ∷ xs) y (inl e) = (x, inl refl, sym e)
  map_in f (x ∷ xs) y (inr i) = let r = map_in f xs y i in (r.0, inr r.1, r.2)

  -- ---- joins
  pub in_joined : (f : X → List Y) (xs : List X) (z : X) (y : Y) → In z xs → In y (f z) → In y (flat_map f xs)
  in_joined f [] z y i j = absurd i
  in_joined f (x ∷ xs) z y (inl e) j = in_append_left (f x) (flat_map f xs) y (subst (λ w. In y (f w)) e j)
  in_joined f (x ∷ xs) z y (inr i) j = in_append_right (f x) (flat_map f xs) y (in_joined f xs z y i j)

  pub joined_in : (f : X → List Y) (xs : List X) (y : Y) → In y (flat_map f xs) → (z : X) × In z xs × In y (f z)
  joined_in f [] y i = absurd i
  joined_in f (x ∷ xs) y i = go (in_append_cases (f x) (flat_map f xs) y i) (joined_in f xs y)
    where
      go : In y (f x) ⊎ In y (flat_map f xs) → (In y (flat_map f xs) → (z : X) × In z xs × In y (f z)) → (z : X) × In z (x ∷ xs) × In y (f z)
      go (inl j) rec = (x, inl refl, j)
      go (inr j) rec = let r = rec j in (r.0, inr r.1, r.2)
