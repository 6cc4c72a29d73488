-- The laws of the three rules.
use Rattle.std.specs.Prelude.{◌≡◌, true, refl}
use Rattle.std.specs.Ordering.{int_eq}
use Rattle.std.proofs.Common.{sym, ap, ◌∙◌}
use Rattle.std.proofs.lemmas.Bool.{and_parts, and_from}
use Rattle.std.proofs.lemmas.Bool.Decides.{Decides-int_eq}
use Rattle.model.specs.Rules.{Laws}
use Rattle.sets.specs.Sets.{is_subset, same_set}
use Rattle.sets.specs.declared.Set.{Set}
use Rattle.sets.proofs.Membership.{one_test, decides_subset, decides_same}
use Rattle.rules.specs.Bands.{in_band, same_band}
use Rattle.rules.specs.declared.band.Band.{Band}

-- ---- sets with the same members
same_reflexive : (s : Set) → same_set s s ≡ true
same_reflexive s = (decides_same s s).1 (λ k h. refl)

same_symmetric : (s t : Set) → same_set s t ≡ true → same_set t s ≡ true
same_symmetric s t e = (decides_same t s).1 (λ k h. sym ((decides_same s t).0 e k h))

same_transitive : (s t u : Set) → same_set s t ≡ true → same_set t u ≡ true → same_set s u ≡ true
same_transitive s t u e f = (decides_same s u).1 (λ k h. (decides_same s t).0 e k h ∙ (decides_same t u).0 f k h)

same_subset : (s t u : Set) → same_set s t ≡ true → is_subset s u ≡ true → is_subset t u ≡ true
same_subset s t u e h =
    (decides_subset t u).1 (λ k m. (decides_subset s u).0 h k (m.0, (decides_same s t).0 e k m.0 ∙ m.1))

pub subset_laws : Laws is_subset same_set
subset_laws =
    record {
      reflexive = same_reflexive;
      symmetric = same_symmetric;
      transitive = same_transitive;
      alike = λ s t u e. one_test (is_subset s u) (is_subset t u) (same_subset s t u e) (same_subset t s u (same_symmetric s t e));
    }

pub exact_laws : Laws same_set same_set
exact_laws =
    record {
      reflexive = same_reflexive;
      symmetric = same_symmetric;
      transitive = same_transitive;
      alike = λ s t u e. one_test (same_set s u) (same_set t u) (same_transitive t s u (same_symmetric s t e)) (same_transitive s t u e);
    }

-- ---- bands
band_same : (a b : Band) → same_band a b ≡ true → a ≡ b
band_same a b e =
    let p = and_parts (int_eq a.low b.low) (int_eq a.high b.high) e in
    let l = (Decides-int_eq a.low b.low).0 p.0 in
    let h = (Decides-int_eq a.high b.high).0 p.1 in
    λ i. record { low = l i; high = h i }

same_band_lem : (a b : Band) → a ≡ b → same_band a b ≡ true
same_band_lem a b e =
    ap (λ c. same_band a c) (sym e) ∙ and_from _ _ ((Decides-int_eq a.low a.low).1 refl) ((Decides-int_eq a.high a.high).1 refl)

pub band_laws : Laws in_band same_band
band_laws =
    record {
      reflexive = λ a. same_band_lem a a refl;
      symmetric = λ a b e. same_band_lem b a (sym (band_same a b e));
      transitive = λ a b c e f. same_band_lem a c (band_same a b e ∙ band_same b c f);
      alike = λ a b x e. ap (λ c. in_band c x) (band_same a b e);
    }
