-- Embeddings under subset rules are monomorphisms of multigraphs, and automorphisms are their symmetries.
use Rattle.std.proofs.Common.{◌≡◌, ℕ, true, List, get_or, Some, sym, ◌∙◌, subst}
use Rattle.model.specs.Graphs.{Graph}
use Rattle.model.specs.Tasks.{Placing, Renumbering}
use Rattle.model.proofs.Meanings.{slice_get_some, slice_get-below, pair_there, pair_below, meant}
use Rattle.sets.specs.Sets.{has, Member, is_subset, same_set}
use Rattle.sets.specs.declared.Set.{Set}
use Rattle.sets.proofs.Membership.{one_test, decides_subset, decides_same}
use Rattle.rules.specs.Multigraphs.{Monomorphism, Symmetry, SubMultigraphs}

-- a label that is there is one
one_label : {s t : Set} → Some s ≡ Some t → s ≡ t
one_label e = cc

-- sets with the same members
same_member : (s t : Set) → same_set s t ≡ true → (k : ℕ) → Member k s → Member k t
same_member s t e k m = (m.0, sym ((decides_same s t).0 e k m.0) ∙ m.1)

member_back : (s t : Set) → same_set s t ≡ true → (k : ℕ) → Member k t → Member k s
member_back s t e k m = (m.0, (decides_same s t).0 e k m.0 ∙ m.1)

same_from : (s t : Set) → ((k : ℕ) → Member k s → Member k t) → ((k : ℕ) → Member k t → Member k s) → same_set s t ≡ true
same_from s t f g = (decides_same s t).1 (λ k h. one_test (has k s.0) (has k t.0) (λ e. (f k (h, e)).1) (λ e. (g k (h, e)).1))

module _ (g h : Graph Set Set) (f : List ℕ) where
  -- a block's label at its place
  monomorphism_from : Placing is_subset same_set is_subset same_set g h f → Monomorphism g h f
  monomorphism_from p =
      record {
        injective = p.injective;
        labels = λ v k (s, is, m).
            let below = slice_get-below g.labels v s is in
            let t = slice_get_some h.labels (get_or f v 0) (p.injective.below v below) in
            (t.0, t.1, (decides_subset s t.0).0 (p.blocks v s t.0 is t.1) k m);
        edges = λ u v k (hu, hv, m).
            let fu = p.injective.below u hu in
            let fv = p.injective.below v hv in
            let ok = p.pairs u v _ _ (pair_there g u v hu hv) (pair_there h (get_or f u 0) (get_or f v 0) fu fv) in
            (fu, fv, (decides_subset (g.pairs u v) (h.pairs (get_or f u 0) (get_or f v 0))).0 ok k m);
      }

  placing_from : Monomorphism g h f → Placing is_subset same_set is_subset same_set g h f
  placing_from m =
      record {
        injective = m.injective;
        blocks = λ q a b one two.
            (decides_subset a b).1 (λ k member.
            let t = m.labels q k (a, one, member) in
            subst (Member k) (one_label (sym t.1 ∙ two)) t.2);
        pairs = λ q r a b one two.
            let l = pair_below g q r a one in
            let fu = m.injective.below q l.0 in
            let fv = m.injective.below r l.1 in
            let ea = one_label (sym (pair_there g q r l.0 l.1) ∙ one) in
            let eb = one_label (sym (pair_there h (get_or f q 0) (get_or f r 0) fu fv) ∙ two) in
            (decides_subset a b).1 (λ k member. subst (Member k) eb (m.edges q r k (l.0, l.1, subst (Member k) (sym ea) member)).2);
      }

module _ (g h : Graph Set Set) (p : List ℕ) where
  symmetry_from : Renumbering is_subset same_set is_subset same_set g h p → Symmetry g p
  symmetry_from n =
      record {
        injective = n.injective;
        labels = λ v k l.
            let pv = n.injective.below v l in
            let s = slice_get_some g.labels v l in
            let t = slice_get_some g.labels (get_or p v 0) pv in
            let e = n.blocks v s.0 t.0 s.1 t.1 in (
              λ (a, is, m). (t.0, t.1, same_member s.0 t.0 e k (subst (Member k) (one_label (sym is ∙ s.1)) m)),
              λ (a, is, m). (s.0, s.1, member_back s.0 t.0 e k (subst (Member k) (one_label (sym is ∙ t.1)) m)),
            );
        edges = λ u v k hu hv.
            let pu = n.injective.below u hu in
            let pv = n.injective.below v hv in
            let e = n.pairs u v _ _ (pair_there g u v hu hv) (pair_there g (get_or p u 0) (get_or p v 0) pu pv) in (
              λ (a, b, m). (pu, pv, same_member (g.pairs u v) (g.pairs (get_or p u 0) (get_or p v 0)) e k m),
              λ (a, b, m). (hu, hv, member_back (g.pairs u v) (g.pairs (get_or p u 0) (get_or p v 0)) e k m),
            );
      }

  renumbering_from : Symmetry g p → Renumbering is_subset same_set is_subset same_set g h p
  renumbering_from s =
      record {
        injective = s.injective;
        blocks = λ q a b one two.
            let l = slice_get-below g.labels q a one in
            same_from a b
            (λ k m. let t = (s.labels q k l).0 (a, one, m) in subst (Member k) (one_label (sym t.1 ∙ two)) t.2)
            (λ k m. let t = (s.labels q k l).1 (b, two, m) in subst (Member k) (one_label (sym t.1 ∙ one)) t.2);
        pairs = λ q r a b one two.
            let l = pair_below g q r a one in
            let pu = s.injective.below q l.0 in
            let pv = s.injective.below r l.1 in
            let ea = one_label (sym (pair_there g q r l.0 l.1) ∙ one) in
            let eb = one_label (sym (pair_there g (get_or p q 0) (get_or p r 0) pu pv) ∙ two) in
            same_from a b
            (λ k m. subst (Member k) eb ((s.edges q r k l.0 l.1).0 (l.0, l.1, subst (Member k) (sym ea) m)).2)
            (λ k m. subst (Member k) ea ((s.edges q r k l.0 l.1).1 (pu, pv, subst (Member k) (sym eb) m)).2);
      }

pub sub_multigraphs : (g h : Graph Set Set) → SubMultigraphs g h
sub_multigraphs g h =
    let m = meant is_subset same_set is_subset same_set g h in
    record {
      embeddings = λ f. ((λ e. monomorphism_from g h f ((m.embeddings f).0 e)), λ x. (m.embeddings f).1 (placing_from g h f x));
      automorphisms = λ p. ((λ e. symmetry_from g h p ((m.automorphisms p).0 e)), λ x. (m.automorphisms p).1 (renumbering_from g h p x));
    }
