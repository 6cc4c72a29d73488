-- The check refuses with exactly the first fault: the one at the lowest place, and there with the lowest number.
use Rattle.std.proofs.Common.{◌≡◌, ℕ, zero, suc, ◌+◌, ◌-◌, ◌<◌, ◌≤◌, Bool, true, false, cond, eqb, ◌⊎◌, List, [], ◌∷◌, length, Some, None, Ok, Err, Option, Result, sym, refl, ap, ◌∙◌, inl, inr, ⊎_elim, arith, rules}
use Rattle.std.specs.List.{range_with_len, flat_map, find}
use Rattle.std.proofs.lemmas.Bool.{both_ways, cases_order, ltb-true, eqb-true, and_parts}
use Rattle.lists.specs.Members.{In, Rising}
use Rattle.lists.proofs.Members.{in_all}
use Rattle.listing.specs.declared.counts.Counts.{Counts}
use Rattle.listing.specs.declared.fault.Fault.{Fault}
use Rattle.listing.specs.declared.fault.Fault.TheVariants.{WordCount, Opening, Total, Block, Wire, Rise, Closing, PartialWord}
use Rattle.listing.specs.Listings.{counts_of}
use Rattle.listing.specs.Faults.{at, fits, number_of, place_of, Before, FirstFault, opening_faults, faults_at, ranked, verdict}
use Rattle.listing.specs.Checks.{Refuses}
use Rattle.listing.proofs.Verdicts.{find_skip, find_found, none_each, found_in, answered_some}
use Rattle.listing.proofs.Accepts.{no_fault, accepts}

-- ---- the first of a list whose numbers rise
abbrev Ascending : List Fault → Type 0
Ascending fs = Rising (λ f g. number_of f ≤ number_of g) fs

-- what fits of a list is not below its first
least_in : (ws : List ℕ) (fs : List Fault) (f : Fault) → Ascending fs → find (fits ws) fs ≡ Some f
    → (g : Fault) → In g fs → fits ws g ≡ true → number_of g < number_of f → ⊥
least_in ws [] f up e g i = absurd i
least_in ws (h ∷ fs) f up e g i = go (fits ws h) refl e i (least_in ws fs f up.1)
  where
    go : (b : Bool) → fits ws h ≡ b → cond b (Some h) (find (fits ws) fs) ≡ Some f → (g ≡ h) ⊎ In g fs
        → (find (fits ws) fs ≡ Some f → (k : Fault) → In k fs → fits ws k ≡ true → number_of k < number_of f → ⊥)
        → fits ws g ≡ true → number_of g < number_of f → ⊥
    go true t x (inl p) rest u l = let same : g ≡ f = cc in let n = ap number_of same in omega arith
    go true t x (inr j) rest u l =
        let same : h ≡ f = cc in
        let n = ap number_of same in
        let m = in_all (λ k. number_of h ≤ number_of k) fs g up.0 j in
        omega arith
    go false t x (inl p) rest u l = both_ways (fits ws h) t (ap (fits ws) (sym p) ∙ u)
    go false t x (inr j) rest u l = rest x g j u l

-- ---- the faults of one place
-- a fault of words at a place after the first is one of the four of that place
one_of_four : (ws : List ℕ) (p : ℕ) (g : Fault) → 0 < p → place_of g ≡ p → fits ws g ≡ true → In g (faults_at p)
one_of_four ws p WordCount h e t = absurd (omega arith)
one_of_four ws p Opening h e t = absurd (omega arith)
one_of_four ws p Total h e t = absurd (omega arith)
one_of_four ws p (Block q) h e t = inl (ap (λ k. Block (at k)) e)
one_of_four ws p (Wire q) h e t = inr (inl (ap (λ k. Wire (at k)) e))
one_of_four ws p (Rise q) h e t = inr (inr (inl (ap (λ k. Rise (at k)) e)))
one_of_four ws p (Closing q) h e t = inr (inr (inr (inl (ap (λ k. Closing (at k)) e))))
one_of_four ws p (PartialWord q) h e t = absurd (both_ways false refl t)

one_of_three : (ws : List ℕ) (g : Fault) → place_of g ≡ 0 → fits ws g ≡ true → In g opening_faults
one_of_three ws WordCount e t = inl refl
one_of_three ws Opening e t = inr (inl refl)
one_of_three ws Total e t = inr (inr (inl refl))
one_of_three ws (Block q) e t =
    absurd (let h = ltb-true 0 q.0 (and_parts _ _ (and_parts _ _ t).0).0 in omega arith)
one_of_three ws (Wire q) e t =
    absurd (let h = ltb-true (counts_of ws).blocks q.0 (and_parts _ _ (and_parts _ _ t).0).0 in omega arith)
one_of_three ws (Rise q) e t =
    absurd (let h = ltb-true ((counts_of ws).blocks + 1) q.0 (and_parts _ _ (and_parts _ _ t).0).0 in omega arith)
one_of_three ws (Closing q) e t =
    absurd (let h = eqb-true q.0 ((counts_of ws).blocks + (counts_of ws).wires + 1) (and_parts _ _ t).0 in omega arith)
one_of_three ws (PartialWord q) e t = absurd (both_ways false refl t)

-- ---- the first fault from a place on
record FirstFrom (ws : List ℕ) (p : ℕ) (f : Fault) : Type 0 where
  fitting : fits ws f ≡ true
  none_before : (g : Fault) → fits ws g ≡ true → p ≤ place_of g → Before g f → ⊥

rising_there : (p : ℕ) → Ascending (faults_at p)
rising_there p = search (rules)

-- the places of the faults of one place
there : (ws : List ℕ) (p : ℕ) (f : Fault) → find (fits ws) (faults_at p) ≡ Some f → place_of f ≡ p
there ws p f e = in_all (λ g. place_of g ≡ p) (faults_at p) f (refl, (refl, (refl, (refl, tt)))) (found_in (fits ws) (faults_at p) f e).0

first_here : (ws : List ℕ) (p : ℕ) (f : Fault) → 0 < p → find (fits ws) (faults_at p) ≡ Some f → FirstFrom ws p f
first_here ws p f pos e =
    let here = there ws p f e in
    record {
      fitting = (found_in (fits ws) (faults_at p) f e).1;
      none_before = λ g t low.
          ⊎_elim (λ l. omega arith)
          (λ l. least_in ws (faults_at p) f (rising_there p) e g (one_of_four ws p g pos (l.0 ∙ here) t) t l.1);
    }

first_later : (ws : List ℕ) (p : ℕ) (f : Fault) → 0 < p → find (fits ws) (faults_at p) ≡ None → FirstFrom ws (p + 1) f → FirstFrom ws p f
first_later ws p f pos none r =
    record {
      fitting = r.fitting;
      none_before = λ g t low before.
          ⊎_elim
          (λ e. both_ways (fits ws g) (none_each (fits ws) (faults_at p) none g (one_of_four ws p g pos (sym e) t)) t)
          (⊎_elim (λ l. r.none_before g t (omega arith) before) (λ l. omega arith)) (cases_order p (place_of g));
    }

scan : (ws : List ℕ) (n p : ℕ) (f : Fault) → 0 < p → find (fits ws) (flat_map faults_at (range_with_len p n)) ≡ Some f → FirstFrom ws p f
scan ws zero p f pos e = absurd (cc)
scan ws (suc n) p f pos e = go (find (fits ws) (faults_at p)) refl (scan ws n (p + 1) f (omega arith))
  where
    rest : List Fault
    rest = flat_map faults_at (range_with_len (p + 1) n)

    go : (o : Option Fault) → find (fits ws) (faults_at p) ≡ o → (find (fits ws) (flat_map faults_at (range_with_len (p + 1) n)) ≡ Some f → FirstFrom ws (p + 1) f) → FirstFrom ws p f
    go None h on = first_later ws p f pos h (on (sym (find_skip (fits ws) (faults_at p) rest h) ∙ e))
    go (Some g) h on =
        let found = find_found (fits ws) (faults_at p) rest g h in
        let same : g ≡ f = cc in
        first_here ws p f pos (h ∙ ap Some same)

-- ---- the theorem
first_fault : (ws : List ℕ) (f : Fault) → find (fits ws) (ranked (length ws)) ≡ Some f → FirstFault ws f
first_fault ws f e = go (find (fits ws) opening_faults) refl
  where
    rest : List Fault
    rest = flat_map faults_at (range_with_len 1 (length ws - 1))

    go : (o : Option Fault) → find (fits ws) opening_faults ≡ o → FirstFault ws f
    go None h =
        let r = scan ws (length ws - 1) 1 f (omega arith) (sym (find_skip (fits ws) opening_faults rest h) ∙ e) in (
          r.fitting,
          λ g t before.
              ⊎_elim (λ z. both_ways (fits ws g) (none_each (fits ws) opening_faults h g (one_of_three ws g (sym z) t)) t)
              (⊎_elim (λ l. r.none_before g t l before) (λ l. omega arith)) (cases_order 0 (place_of g)),
        )
    go (Some k) h =
        let found = find_found (fits ws) opening_faults rest k h in
        let same : k ≡ f = cc in
        let here = h ∙ ap Some same in
        let first = found_in (fits ws) opening_faults f here in
        let at_zero = in_all (λ g. place_of g ≡ 0) opening_faults f (refl, (refl, (refl, tt))) first.0 in (
          first.1,
          λ g t.
              ⊎_elim (λ l. omega arith)
              (λ l. least_in ws opening_faults f (search rules) here g (one_of_three ws g (l.0 ∙ at_zero) t) t l.1),
        )

-- the fault with a given number and place
fault_of : ℕ → ℕ → Fault
fault_of n p =
    cond (eqb n 10) WordCount (cond (eqb n 11) Opening (cond (eqb n 12) Total (cond (eqb n 13) (Block (at p)) (cond (eqb n 14) (Wire (at p)) (cond (eqb n 15) (Rise (at p)) (cond (eqb n 16) (Closing (at p)) (PartialWord (at p))))))))

fault_of_its_own : (f : Fault) → fault_of (number_of f) (place_of f) ≡ f
unfolding fault_of
fault_of_its_own WordCount = refl
fault_of_its_own Opening = refl
fault_of_its_own Total = refl
fault_of_its_own (Block p) = refl
fault_of_its_own (Wire p) = refl
fault_of_its_own (Rise p) = refl
fault_of_its_own (Closing p) = refl
fault_of_its_own (PartialWord p) = refl

one_first_fault : (ws : List ℕ) (f g : Fault) → FirstFault ws f → FirstFault ws g → f ≡ g
one_first_fault ws f g a b =
    let places : place_of f ≡ place_of g = ⊎_elim (λ e. e) (⊎_elim (λ l. absurd (b.1 f a.0 (inl l))) (λ l. absurd (a.1 g b.0 (inl l)))) (cases_order (place_of f) (place_of g)) in
    let numbers : number_of f ≡ number_of g = ⊎_elim (λ e. e) (⊎_elim (λ l. absurd (b.1 f a.0 (inr (places, l)))) (λ l. absurd (a.1 g b.0 (inr (sym places, l))))) (cases_order (number_of f) (number_of g)) in
    sym (fault_of_its_own f) ∙ ap (fault_of (number_of f)) places ∙ ap (λ n. fault_of n (place_of g)) numbers ∙ fault_of_its_own g

refused_first : (ws : List ℕ) (f : Fault) → verdict ws ≡ Err f → FirstFault ws f
unfolding verdict
refused_first ws f e = first_fault ws f (answered_some (counts_of ws) (find (fits ws) (ranked (length ws))) f (sym e))

pub refuses : (ws : List ℕ) → Refuses ws (verdict ws)
refuses ws f = (refused_first ws f, λ first. go (verdict ws) refl first)
  where
    go : (r : Result Counts Fault) → verdict ws ≡ r → FirstFault ws f → r ≡ Err f
    go (Ok c) e first = absurd (both_ways (fits ws f) (no_fault ws c ((accepts ws c).0 e) f) first.0)
    go (Err g) e first = ap Err (one_first_fault ws g f (refused_first ws g e) first)
