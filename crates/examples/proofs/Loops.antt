-- A block wired to itself, in a block wired to itself with one type more.
use Rattle.std.proofs.Common.{◌≡◌, ℕ, ◌<◌, true, false, List, [], ◌∷◌, length, get_or, sym, refl, ap, ◌∙◌, subst, arith}
use Rattle.std.proofs.lemmas.Bool.{both_ways}
use Rattle.listing.specs.Graphs.{stated}
use Rattle.model.specs.Instances.{Injective, Embedding}
use Rattle.sets.specs.Sets.{is_subset, same_set, set_of}
use Rattle.examples.specs.Table.{by_subset, by_exact, loop, double_loop}

-- a row of one place below 1
only_place : (h : List ℕ) → length h ≡ 1 → get_or h 0 0 < 1 → h ≡ 0 ∷ []
only_place [] e l = absurd (omega arith)
only_place (x ∷ []) e l = ap (λ n. n ∷ []) (omega arith)
only_place (x ∷ y ∷ h) e l = absurd (omega arith)

first : (q : ℕ) → q < 1 → q ≡ 0
first q h = omega arith

placed : Injective 1 1 (0 ∷ [])
placed =
    record {
      long = refl;
      below = λ q h. subst (λ n. get_or (0 ∷ []) n 0 < 1) (sym (first q h)) (omega arith);
      apart = λ q r h k e. first q h ∙ sym (first r k);
    }

pub one_loop : (h : List ℕ) → (Embedding (by_subset loop double_loop) h → h ≡ 0 ∷ []) × (h ≡ 0 ∷ [] → Embedding (by_subset loop double_loop) h)
unfolding stated is_subset set_of
one_loop h = (
  λ e. only_place h e.injective.long (e.injective.below 0 (omega arith)),
  λ e. subst (Embedding (by_subset loop double_loop)) (sym e) (record {
    injective = placed;
    blocks = λ q l. subst (λ n. (by_subset loop double_loop).block_fits n (get_or (0 ∷ []) n 0) ≡ true) (sym (first q l)) refl;
    pairs = λ q r l k.
        subst (λ n. (by_subset loop double_loop).pair_fits n r (get_or (0 ∷ []) n 0) (get_or (0 ∷ []) r 0) ≡ true) (sym (first q l))
        (subst (λ n. (by_subset loop double_loop).pair_fits 0 n 0 (get_or (0 ∷ []) n 0) ≡ true) (sym (first r k)) refl);
  }),
)

pub no_loop : (h : List ℕ) → Embedding (by_exact loop double_loop) h → ⊥
unfolding stated same_set set_of
no_loop h e =
    let at = only_place h e.injective.long (e.injective.below 0 (omega arith)) in
    let there = subst (λ f. (by_exact loop double_loop).pair_fits 0 0 (get_or f 0 0) (get_or f 0 0) ≡ true) at (e.pairs 0 0 (omega arith) (omega arith)) in
    both_ways false refl there
