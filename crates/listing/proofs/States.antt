-- What the graph that a listing states holds, in terms of its words.
use Rattle.std.proofs.Common.{◌≡◌, ℕ, ◌<◌, true, ◌&&◌, eqb, List, sym, ap, ◌∙◌, subst, ⊎_elim, arith}
use Rattle.std.proofs.lemmas.Bool.{and_parts, and_from, eqb-true, eq-eqb, both_ways, cases_lt}
use Rattle.std.proofs.lemmas.Nat.{mod_below}
use Rattle.listing.specs.declared.counts.Counts.{Counts}
use Rattle.listing.specs.Words.{wire_from, wire_to, wire_type}
use Rattle.listing.specs.Listings.{Listing, counts_of, wire_words}
use Rattle.sets.specs.Sets.{has, set_of, Member}
use Rattle.listing.specs.Graphs.{runs, wired, type_set, stated}
use Rattle.listing.specs.Checks.{wire_word, Laid, States}
use Rattle.sets.proofs.Membership.{has-set_of, has-set_of_past}
use Rattle.lists.specs.Members.{In}
use Rattle.lists.proofs.Members.{any_in, in_any, in_get_or, get_or_in}
use Rattle.listing.proofs.Parts.{length-wire_words, get_or-wire_words, length_tags, slice_get_tags}

-- what a wire word tells of the wire that it lays
pub record RunsSo (u v k w : ℕ) : Type 0 where
  pub from : wire_from w ≡ u
  pub to : wire_to w ≡ v
  pub type : wire_type w ≡ k

pub runs_so : (u v k w : ℕ) → runs u v k w ≡ true → RunsSo u v k w
runs_so u v k w e =
    let p = and_parts (eqb (wire_from w) u) (eqb (wire_to w) v && eqb (wire_type w) k) e in
    let q = and_parts (eqb (wire_to w) v) (eqb (wire_type w) k) p.1 in
    record { from = eqb-true _ _ p.0; to = eqb-true _ _ q.0; type = eqb-true _ _ q.1 }

pub so_runs : (u v k w : ℕ) → wire_from w ≡ u → wire_to w ≡ v → wire_type w ≡ k → runs u v k w ≡ true
so_runs u v k w f t s = and_from _ _ (eq-eqb _ _ f) (and_from _ _ (eq-eqb _ _ t) (eq-eqb _ _ s))

-- type k is in the set of a pair exactly when a wire word says so
pub has_wired : (ws : List ℕ) (u v k : ℕ) → has k (set_of (wired ws u v)) ≡ true → wired ws u v k ≡ true
has_wired ws u v k e =
    ⊎_elim (λ h. sym (has-set_of (wired ws u v) k h) ∙ e) (λ h. absurd (both_ways _ (has-set_of_past (wired ws u v) k h) e)) (cases_lt k 32)

-- a type has five bits
type_small : (u v k w : ℕ) → runs u v k w ≡ true → k < 32
type_small u v k w r = let s = (runs_so u v k w r).type in let m = mod_below w 32 (omega arith) in omega arith

pub wired_member : (ws : List ℕ) (u v k w : ℕ) → In w (wire_words ws) → runs u v k w ≡ true → Member k (type_set ws u v)
wired_member ws u v k w i r =
    let small = type_small u v k w r in
    (small, has-set_of (wired ws u v) k small ∙ in_any (runs u v k) (wire_words ws) w i r)

module _ (ws : List ℕ) (l : Listing ws (counts_of ws)) where
  laid_from : (u v k : ℕ) → Member k ((stated ws).pairs u v) → Laid ws (counts_of ws) u v k
  unfolding stated
  laid_from u v k e =
      let found = any_in (runs u v k) (wire_words ws) (has_wired ws u v k e.1) in
      let there = in_get_or (wire_words ws) found.0 0 found.1 in
      let long = length-wire_words ws l in
      let inside : there.0 < (counts_of ws).wires = let h = there.1 in omega arith in
      let is = sym (get_or-wire_words ws l there.0 inside) ∙ there.2 in
      let so = runs_so u v k found.0 found.2 in
      (there.0, inside, ap wire_from is ∙ so.from, ap wire_to is ∙ so.to, ap wire_type is ∙ so.type)

  laid-has : (u v k : ℕ) → Laid ws (counts_of ws) u v k → Member k ((stated ws).pairs u v)
  unfolding stated
  laid-has u v k (e, h, f, t, s) =
      let long = length-wire_words ws l in
      let is = get_or-wire_words ws l e h in
      let here : In (wire_word ws (counts_of ws) e) (wire_words ws) =
      subst (λ w. In w (wire_words ws)) is (get_or_in (wire_words ws) e 0 (omega arith)) in
      wired_member ws u v k (wire_word ws (counts_of ws) e) here (so_runs u v k (wire_word ws (counts_of ws) e) f t s)

  states_own : States ws (counts_of ws)
  unfolding stated
  states_own =
      record {
        blocks = length_tags ws l;
        tags = slice_get_tags ws l;
        types = λ u v k. (laid_from u v k, laid-has u v k);
      }

pub states : (ws : List ℕ) (c : Counts) → Listing ws c → States ws c
states ws c l = subst (States ws) l.counts (states_own ws (subst (Listing ws) (sym l.counts) l))
