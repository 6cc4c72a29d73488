-- The first fault of words from a place on, and how the check comes to it.
use Rattle.std.proofs.Common.{◌≡◌, ℕ, suc, ◌+◌, ◌-◌, ◌<◌, ◌≤◌, Bool, true, false, cond, ltb, ◌⊎◌, List, [], ◌∷◌, ◌++◌, length, is_some, Some, None, Ok, Err, Option, sym, refl, ap, ◌∙◌, inl, inr, arith}
use Rattle.std.specs.List.{range_with_len, flat_map, find}
use Rattle.std.specs.Option.{option_or}
use Rattle.std.proofs.lemmas.Bool.{ltb-false, or_parts, eqb-true, not-false}
use Rattle.std.proofs.lemmas.List.Folds.{find-append}
use Rattle.std.proofs.lemmas.Option.{none-some}
use Rattle.lists.specs.Members.{In}
use Rattle.listing.specs.declared.counts.Counts.{Counts}
use Rattle.listing.specs.declared.fault.Fault.{Fault}
use Rattle.listing.specs.declared.fault.Fault.TheVariants.{WordCount, Total}
use Rattle.listing.specs.Listings.{counts_of}
use Rattle.listing.specs.Faults.{fits, opening_faults, faults_at, answered, verdict}

-- ---- the first of two lists, one after the other
pub find_skip : {X : Type 0} (t : X → Bool) (xs ys : List X) → find t xs ≡ None → find t (xs ++ ys) ≡ find t ys
find_skip t xs ys e = find-append t xs ys ∙ ap (λ o. option_or o (find t ys)) e

pub find_found : {X : Type 0} (t : X → Bool) (xs ys : List X) (y : X) → find t xs ≡ Some y → find t (xs ++ ys) ≡ Some y
find_found t xs ys y e = find-append t xs ys ∙ ap (λ o. option_or o (find t ys)) e

-- none passes: each fails
pub none_each : {X : Type 0} (t : X → Bool) (xs : List X) → find t xs ≡ None → (x : X) → In x xs → t x ≡ false
none_each t [] e x i = absurd i
none_each {X = X} t (y ∷ ys) e x i = go (t y) refl e i (none_each t ys)
  where
    go : (b : Bool) → t y ≡ b → cond b (Some y) (find t ys) ≡ None → (x ≡ y) ⊎ In x ys → (find t ys ≡ None → (z : X) → In z ys → t z ≡ false) → t x ≡ false
    go true h f j rec = absurd (none-some y (sym f))
    go false h f (inl p) rec = ap t p ∙ h
    go false h f (inr j) rec = rec f x j

pub each_none : {X : Type 0} (t : X → Bool) (xs : List X) → ((x : X) → In x xs → t x ≡ false) → find t xs ≡ None
each_none t [] h = refl
each_none t (x ∷ xs) h = rw (h x (inl refl)) (each_none t xs (λ z i. h z (inr i)))

-- the first is one that passes
pub found_in : {X : Type 0} (t : X → Bool) (xs : List X) (x : X) → find t xs ≡ Some x → In x xs × (t x ≡ true)
found_in t [] x e = absurd (none-some x e)
found_in t (y ∷ ys) x e = go (t y) refl e (found_in t ys x)
  where
    go : (b : Bool) → t y ≡ b → cond b (Some y) (find t ys) ≡ Some x → (find t ys ≡ Some x → In x ys × (t x ≡ true)) → In x (y ∷ ys) × (t x ≡ true)
    go true h f rec = let same : x ≡ y = cc in (inl same, ap t same ∙ h)
    go false h f rec = let r = rec f in (inr r.0, r.1)

none_from_is_some : {X : Type 0} (o : Option X) → is_some o ≡ false → o ≡ None
none_from_is_some None e = refl
none_from_is_some (Some x) e = absurd (cc)

-- ---- the first fault from place p on
pub first_from : List ℕ → ℕ → Option Fault
first_from ws p = find (fits ws) (flat_map faults_at (range_with_len p (length ws - p)))

pub first_from_end : (ws : List ℕ) (p : ℕ) → p ≡ length ws → first_from ws p ≡ None
unfolding first_from
first_from_end ws p e =
    let z : length ws - p ≡ 0 = omega arith in ap (λ n. find (fits ws) (flat_map faults_at (range_with_len p n))) z

-- the faults after place p
abbrev later : List ℕ → ℕ → List Fault
later ws p = flat_map faults_at (range_with_len (p + 1) (length ws - (p + 1)))

first_from_step : (ws : List ℕ) (p : ℕ) → p < length ws → first_from ws p ≡ find (fits ws) (faults_at p ++ later ws p)
unfolding first_from
first_from_step ws p h =
    let s : length ws - p ≡ suc (length ws - (p + 1)) = omega arith in
    ap (λ n. find (fits ws) (flat_map faults_at (range_with_len p n))) s

pub first_from_next : (ws : List ℕ) (p : ℕ) → p < length ws → is_some (find (fits ws) (faults_at p)) ≡ false → first_from ws (p + 1) ≡ first_from ws p
unfolding first_from
first_from_next ws p h e =
    sym (first_from_step ws p h ∙ find_skip (fits ws) (faults_at p) (later ws p) (none_from_is_some (find (fits ws) (faults_at p)) e))

pub first_from_found : (ws : List ℕ) (p : ℕ) (f : Fault) → p < length ws → find (fits ws) (faults_at p) ≡ Some f → first_from ws p ≡ Some f
unfolding first_from
first_from_found ws p f h e = first_from_step ws p h ∙ find_found (fits ws) (faults_at p) (later ws p) f e

-- ---- the verdict by the faults at place 0 and those after it
pub answered_none : (c d : Counts) (o : Option Fault) → Ok c ≡ answered d o → (o ≡ None) × (c ≡ d)
answered_none c d None e = (refl, cc)
answered_none c d (Some f) e = absurd (cc)

pub answered_some : (d : Counts) (o : Option Fault) (f : Fault) → Err f ≡ answered d o → o ≡ Some f
answered_some d None f e = absurd (cc)
answered_some d (Some g) f e = cc

pub verdict-at_opening : (ws : List ℕ) (f : Fault) → find (fits ws) opening_faults ≡ Some f → verdict ws ≡ Err f
unfolding verdict
verdict-at_opening ws f e =
    ap (answered (counts_of ws)) (find_found (fits ws) opening_faults (flat_map faults_at (range_with_len 1 (length ws - 1))) f e)

pub verdict-after : (ws : List ℕ) → find (fits ws) opening_faults ≡ None → verdict ws ≡ answered (counts_of ws) (first_from ws 1)
unfolding verdict first_from
verdict-after ws e =
    ap (answered (counts_of ws)) (find_skip (fits ws) opening_faults (flat_map faults_at (range_with_len 1 (length ws - 1))) e)

-- ---- what an accepted opening tells
pub record Opened (ws : List ℕ) (c : Counts) : Type 0 where
  pub counted : c ≡ counts_of ws
  pub none : find (fits ws) opening_faults ≡ None
  pub long : 3 ≤ length ws
  pub whole : length ws ≡ c.blocks + c.wires + 2

pub opened : (ws : List ℕ) (c : Counts) → Ok c ≡ answered (counts_of ws) (find (fits ws) opening_faults) → Opened ws c
opened ws c e =
    let p = answered_none c (counts_of ws) (find (fits ws) opening_faults) e in
    let sound = none_each (fits ws) opening_faults p.0 in
    record {
      counted = p.1;
      none = p.0;
      long = ltb-false (length ws) 3 (or_parts (ltb (length ws) 3) (ltb 1218 (length ws)) (sound WordCount (inl refl))).0;
      whole = eqb-true (length ws) ((counts_of ws).blocks + (counts_of ws).wires + 2) (not-false _ (sound Total (inr (inr (inl refl))))) ∙ ap (λ d. d.blocks + d.wires + 2) (sym p.1);
    }
