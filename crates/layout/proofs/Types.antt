-- The types of the wires from one block to another, among the wires of a list of words.
use Rattle.std.proofs.Common.{◌≡◌, ℕ, ◌/◌, ◌<◌, Bool, true, false, ◌&&◌, ◌||◌, eqb, List, [], ◌∷◌, ◌++◌, sym, refl, ap, ◌∙◌, ap₂, arith}
use Rattle.std.proofs.lemmas.Nat.{mod_below}
use Rattle.std.proofs.lemmas.Bool.{both_ways}
use Rattle.std.proofs.lemmas.Bool.Decides.{nat_tests}
use Rattle.sets.specs.Sets.{has, set_of}
use Rattle.sets.proofs.Membership.{has-set_of, set_of-alike, or_nothing}
use Rattle.std.specs.List.{list_any}
use Rattle.std.proofs.lemmas.List.Folds.{list_any-append}
use Rattle.listing.specs.Words.{wire_from, wire_to, wire_type}
use Rattle.listing.specs.Graphs.{runs}
use Rattle.lists.specs.Members.{In}
use Rattle.lists.proofs.Members.{any_in, in_any}
use Rattle.listing.proofs.States.{runs_so, so_runs}

abbrev pub types : List ℕ → ℕ → ℕ → ℕ
types vs u v = set_of (λ k. list_any (runs u v k) vs)

-- no word lays a wire from u to v
abbrev pub Off : List ℕ → ℕ → ℕ → Type 0
Off vs u v = (w : ℕ) → In w vs → wire_from w ≡ u → wire_to w ≡ v → ⊥

any_none : (vs : List ℕ) (u v k : ℕ) → Off vs u v → list_any (runs u v k) vs ≡ false
any_none vs u v k off = go (list_any (runs u v k) vs) refl
  where
    go : (b : Bool) → list_any (runs u v k) vs ≡ b → b ≡ false
    go false e = refl
    go true e = let f = any_in (runs u v k) vs e in let s = runs_so u v k f.0 f.2 in absurd (off f.0 f.1 s.from s.to)

nothing : set_of (λ _. false) ≡ 0
unfolding set_of
nothing = refl

pub types_none : (vs : List ℕ) (u v : ℕ) → Off vs u v → types vs u v ≡ 0
types_none vs u v off = set_of-alike _ (λ _. false) (λ k h. any_none vs u v k off) ∙ nothing

pub types-front : (vs us : List ℕ) (u v : ℕ) → Off us u v → types (vs ++ us) u v ≡ types vs u v
types-front vs us u v off =
    set_of-alike _ _ (λ k h. list_any-append (runs u v k) vs us ∙ or_nothing (list_any (runs u v k) vs) (list_any (runs u v k) us) (any_none us u v k off))

-- one wire more
pub types_more : (vs : List ℕ) (w : ℕ)
    → types (vs ++ w ∷ []) (wire_from w) (wire_to w) ≡ set_of (λ k. has k (types vs (wire_from w) (wire_to w)) || eqb k (wire_type w))
types_more vs w =
    set_of-alike _ _ (λ k h. list_any-append (runs (wire_from w) (wire_to w) k) vs (w ∷ [])
    ∙ ap₂ (λ a b. a || b) (sym (has-set_of (λ j. list_any (runs (wire_from w) (wire_to w) j) vs) k h)) (last (wire_from w) (wire_to w) (wire_type w) k))
  where
    last : (a b c k : ℕ) → ((eqb a a && (eqb b b && eqb c k)) || false) ≡ eqb k c
    last a b c k = grind (arith, nat_tests)

pub types_some : (vs : List ℕ) (w : ℕ) → In w vs → types vs (wire_from w) (wire_to w) ≡ 0 → ⊥
types_some vs w i e =
    let k : ℕ = wire_type w in
    let small : k < 32 = mod_below (w / 1) 32 (omega arith) in
    both_ways (has k (types vs (wire_from w) (wire_to w))) (ap (has k) e ∙ ap (has k) (sym nothing) ∙ has-set_of (λ _. false) k small)
    (has-set_of (λ j. list_any (runs (wire_from w) (wire_to w) j) vs) k small ∙ in_any (runs (wire_from w) (wire_to w) k) vs w i (so_runs _ _ _ w refl refl refl))
