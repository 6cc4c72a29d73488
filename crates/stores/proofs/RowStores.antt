-- What the fields of a filled row store say, and how its tests and unions go step by step.
use Rattle.std.proofs.Common.{◌≡◌, ℕ, zero, suc, ◌+◌, ◌<◌, ◌≤◌, Bool, true, false, ◌&&◌, ◌||◌, eqb, leb, List, [], length, get_or, take, Some, None, Option, Bor, sym, refl, ap, ◌∙◌, subst, ⊎_elim, add-one, arith}
use Rattle.std.specs.List.{IsAllAdjacentAnswer, slice_get}
use Rattle.std.specs.Slice.{IsItemAt}
use Rattle.std.specs.Option.{option_copied}
use Rattle.std.proofs.lemmas.Option.{slice_get_past, slice_get_read}
use Rattle.std.specs.Ordering.{is_le, is_some_and, nat_cmp}
use Rattle.std.proofs.lemmas.List.Sorted.{non_decreasing_from_is_sorted}
use Rattle.std.proofs.lemmas.Bool.{leb-true, le-leb, lt-leb, and_parts, and_from, and_left, and_right, eqb-true, ne_eqb, eq-eqb, cases_order}
use Rattle.std.proofs.lemmas.List.Folds.{list_any_more}
use Rattle.sets.specs.Sets.{has, set, joined}
use Rattle.sets.specs.declared.Set.{Set}
use Rattle.sets.proofs.Membership.{has_nothing, has-set_of, word_is, set_of-alike, or_nothing}
use Rattle.stores.specs.declared.entry.Entry.{Entry}
use Rattle.stores.specs.RowStores.{lists, any_entry, pair_set, never_falls, starts_fit}

-- ---- a label that a slice lends
pub got : {X : Type 0} (xs : List X) (i : ℕ) (r : Option (Bor X)) → IsItemAt xs i r → option_copied r ≡ slice_get xs i
got xs i None h = sym (slice_get_past xs i h.3)
got xs i (Some x) h = sym (slice_get_read xs (length xs) i x.now refl h.3.0 h.1)

-- ---- starts that never fall
never_from : (starts : List ℕ) (n : ℕ) → ((k : ℕ) → k < n → get_or starts k 0 ≤ get_or starts (k + 1) 0) → never_falls starts n ≡ true
never_from starts zero h = refl
never_from starts (suc n) h = and_from _ _ (le-leb _ _ (h n (omega arith))) (never_from starts n (λ k l. h k (omega arith)))

never_stops : (starts : List ℕ) (n k : ℕ) → k < n → get_or starts (k + 1) 0 < get_or starts k 0 → never_falls starts n ≡ false
never_stops starts zero k h l = absurd (omega arith)
never_stops starts (suc n) k h l =
    ⊎_elim (λ e. and_left _ _ (lt-leb (get_or starts n 0) (get_or starts (n + 1) 0) (subst (λ m. get_or starts (m + 1) 0 < get_or starts m 0) e l)))
    (λ o. and_right (leb (get_or starts n 0) (get_or starts (n + 1) 0)) (never_falls starts n) (⊎_elim (λ b. never_stops starts n k b l) (λ b. absurd (omega arith)) o)) (cases_order k n)

-- the answer of the slice's own test
pub sorted_is : (starts : List ℕ) (n : ℕ) (r : Bool) → length starts ≡ n + 1 → IsAllAdjacentAnswer (λ x y b. is_some_and is_le (Some (nat_cmp x y)) ≡ b) starts r → r ≡ never_falls starts n
sorted_is starts n true e a =
    let up = non_decreasing_from_is_sorted starts true a in sym (never_from starts n (λ k h. up k (k + 1) 0 (omega arith) (omega arith)))
sorted_is starts n false e a =
    let fall = non_decreasing_from_is_sorted starts false a in sym (never_stops starts n fall.0 (let h = fall.1 in omega arith) (fall.2 0))

-- a row ends where the next begins, no earlier than it begins, and within the entries
never_step : (starts : List ℕ) (n k : ℕ) → never_falls starts n ≡ true → k < n → get_or starts k 0 ≤ get_or starts (k + 1) 0
never_step starts zero k e h = absurd (omega arith)
never_step starts (suc n) k e h =
    let p = and_parts (leb (get_or starts n 0) (get_or starts (n + 1) 0)) (never_falls starts n) e in
    ⊎_elim (λ s. subst (λ m. get_or starts m 0 ≤ get_or starts (m + 1) 0) (sym s) (leb-true _ _ p.0))
    (λ o. ⊎_elim (λ b. never_step starts n k p.1 b) (λ b. absurd (omega arith)) o) (cases_order k n)

never_up : (starts : List ℕ) (n k : ℕ) → never_falls starts n ≡ true → k ≤ n → get_or starts k 0 ≤ get_or starts n 0
never_up starts zero k e h = let z : k ≡ 0 = omega arith in subst (λ m. get_or starts m 0 ≤ get_or starts 0 0) (sym z) (omega arith)
never_up starts (suc n) k e h =
    let p = and_parts (leb (get_or starts n 0) (get_or starts (n + 1) 0)) (never_falls starts n) e in
    let last : get_or starts n 0 ≤ get_or starts (suc n) 0 = subst (λ m. get_or starts n 0 ≤ get_or starts m 0) (add-one n) (leb-true _ _ p.0) in
    ⊎_elim (λ s. subst (λ m. get_or starts m 0 ≤ get_or starts (suc n) 0) (sym s) (omega arith))
    (λ o. ⊎_elim (λ b. let r = never_up starts n k p.1 (omega arith) in omega arith) (λ b. absurd (omega arith)) o) (cases_order k (suc n))

pub record RowBounds (starts : List ℕ) (entries : List Entry) (u : ℕ) : Type 0 where
  pub rising : get_or starts u 0 ≤ get_or starts (u + 1) 0
  pub within : get_or starts (u + 1) 0 ≤ length entries

pub row_bounds : (starts : List ℕ) (entries : List Entry) (n u : ℕ) → starts_fit starts entries n ≡ true → u < n → RowBounds starts entries u
row_bounds starts entries n u e h =
    let p = and_parts (eqb (get_or starts 0 0) 0) (eqb (get_or starts n 0) (length entries) && never_falls starts n) e in
    let q = and_parts (eqb (get_or starts n 0) (length entries)) (never_falls starts n) p.1 in
    let end = eqb-true (get_or starts n 0) (length entries) q.0 in
    let up = never_up starts n (u + 1) q.1 (omega arith) in
    record { rising = never_step starts n u q.1 h; within = omega arith }

-- ---- entries, one after another
pub union_none : (v : ℕ) → set 0 ≡ pair_set [] v
union_none v = ap set (word_is 0 (λ k. false) (omega arith) (λ k h. has_nothing k))

module _ (es : List Entry) (i v : ℕ) (d : Entry) (s : Set) (inside : i < length es) (so_far : s ≡ pair_set (take i es) v) where
  longer : (k : ℕ) → any_entry v k (take (i + 1) es) ≡ (any_entry v k (take i es) || lists v k (get_or es i d))
  longer k = list_any_more (lists v k) es i d inside

  held : (k : ℕ) → k < 32 → has k s.0 ≡ any_entry v k (take i es)
  held k h = ap (λ (x : Set). has k x.0) so_far ∙ has-set_of (λ j. any_entry v j (take i es)) k h

  pub union_with : (get_or es i d).to ≡ v → joined s (get_or es i d).types ≡ pair_set (take (i + 1) es) v
  union_with e =
      ap set (set_of-alike _ _ (λ k h.
      ap (λ b. b || has k (get_or es i d).types.0) (held k h)
      ∙ ap (λ b. any_entry v k (take i es) || (b && has k (get_or es i d).types.0)) (sym (eq-eqb _ _ e)) ∙ sym (longer k)))

  pub union_skip : ((get_or es i d).to ≡ v → ⊥) → s ≡ pair_set (take (i + 1) es) v
  union_skip ne =
      so_far
      ∙ ap set (set_of-alike _ _ (λ k h. sym (or_nothing _ _ (and_left _ _ (ne_eqb _ _ ne))) ∙ sym (longer k)))
