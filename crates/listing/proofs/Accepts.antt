-- The check accepts exactly the listings: where no fault fits, each word is what it has to be, and the other way round.
use Rattle.std.proofs.Common.{◌≡◌, ℕ, ◌+◌, ◌-◌, ◌<◌, ◌≤◌, Bool, true, false, not, ◌&&◌, eqb, ltb, leb, List, length, Ok, sym, refl, ap, ◌∙◌, subst, inl, inr, arith}
use Rattle.std.specs.List.{range_with_len, flat_map, find}
use Rattle.std.proofs.lemmas.Bool.{ltb-true, leb-true, leb-false, lt-ltb, le-leb, eq-eqb, lt-leb, le-ltb, eqb-true, not-false, and_parts, and_from, not_from_true, or_from, both_ways}
use Rattle.lists.specs.Members.{In}
use Rattle.lists.proofs.Members.{in_append_right, in_joined}
use Rattle.lists.proofs.Ranges.{in_counting}
use Rattle.listing.specs.declared.counts.Counts.{Counts}
use Rattle.listing.specs.declared.fault.Fault.{Fault}
use Rattle.listing.specs.declared.fault.Fault.TheVariants.{WordCount, Opening, Total, Block, Wire, Rise, Closing, PartialWord}
use Rattle.listing.specs.Words.{is_block, is_wire, is_closing}
use Rattle.listing.specs.Listings.{Listing, word, counts_of}
use Rattle.listing.specs.Faults.{at, fits, opening_faults, faults_at, ranked, answered, verdict}
use Rattle.listing.specs.Checks.{Accepts}
use Rattle.listing.proofs.Verdicts.{none_each, each_none, answered_none}

-- ---- no fault fits: the words are a listing
excused : (a b : Bool) → (a && not b) ≡ false → a ≡ true → b ≡ true
excused true true e h = refl
excused true false e h = sym e
excused false b e h = absurd (both_ways false refl h)

unlike : (a b : Bool) → (a && b) ≡ false → a ≡ true → b ≡ false
unlike true b e h = e
unlike false b e h = absurd (both_ways false refl h)

module _ (ws : List ℕ) (sound : (f : Fault) → In f (ranked (length ws)) → fits ws f ≡ false) where
  abbrev blocks : ℕ
  blocks = (counts_of ws).blocks

  abbrev wires : ℕ
  wires = (counts_of ws).wires

  total : length ws ≡ blocks + wires + 2
  total = eqb-true (length ws) (blocks + wires + 2) (not-false _ (sound Total (inr (inr (inl refl)))))

  at_place : (p : ℕ) (f : Fault) → 0 < p → p < length ws → In f (faults_at p) → fits ws f ≡ false
  at_place p f low high i =
      sound f (in_append_right opening_faults (flat_map faults_at (range_with_len 1 (length ws - 1))) f
      (in_joined faults_at (range_with_len 1 (length ws - 1)) p f (in_counting 1 (length ws - 1) p (omega arith) (omega arith)) i))

  listing_from_none : Listing ws (counts_of ws)
  listing_from_none =
      let long = total in
      record {
        opening = not-false _ (sound Opening (inr (inl refl)));
        counts = refl;
        total = long;
        block = λ v h.
            excused (ltb 0 (1 + v) && leb (1 + v) blocks) (is_block (word ws (1 + v)))
            (at_place (1 + v) (Block (at (1 + v))) (omega arith) (omega arith) (inl refl))
            (and_from _ _ (lt-ltb 0 (1 + v) (omega arith)) (le-leb (1 + v) blocks (omega arith)));
        wire = λ e h.
            let p : ℕ = 1 + blocks + e in
            excused (ltb blocks p && leb p (blocks + wires)) (is_wire blocks (word ws p))
            (at_place p (Wire (at p)) (omega arith) (omega arith) (inr (inl refl)))
            (and_from _ _ (lt-ltb blocks p (omega arith)) (le-leb p (blocks + wires) (omega arith)));
        rising = λ e h.
            let p : ℕ = 1 + blocks + (e + 1) in
            let before : p - 1 ≡ 1 + blocks + e = omega arith in
            let falls = unlike (ltb (blocks + 1) p && leb p (blocks + wires)) (leb (word ws p) (word ws (p - 1))) (at_place p (Rise (at p)) (omega arith) (omega arith) (inr (inr (inl refl))))
            (and_from _ _ (lt-ltb (blocks + 1) p (omega arith)) (le-leb p (blocks + wires) (omega arith))) in
            subst (λ k. word ws k < word ws p) before (leb-false (word ws p) (word ws (p - 1)) falls);
        closing =
            let p : ℕ = blocks + wires + 1 in
            excused (eqb p (blocks + wires + 1)) (is_closing p (word ws p))
            (at_place p (Closing (at p)) (omega arith) (omega arith) (inr (inr (inr (inl refl))))) (eq-eqb p (blocks + wires + 1) refl);
      }

-- ---- the words are a listing: no fault fits
refuted : (a b : Bool) → (a ≡ true → b ≡ false) → (a && b) ≡ false
refuted true b h = h refl
refuted false b h = refl

module _ (ws : List ℕ) (listing : Listing ws (counts_of ws)) where
  abbrev blocks' : ℕ
  blocks' = (counts_of ws).blocks

  abbrev wires' : ℕ
  wires' = (counts_of ws).wires

  -- the counts of an opening word are in range
  pub ranges : (1 ≤ blocks') × (blocks' ≤ 192) × (wires' ≤ 1024)
  ranges =
      let o = and_parts _ _ (and_parts _ _ listing.opening).1 in
      let q = and_parts _ _ o.1 in
      (leb-true 1 blocks' o.0, leb-true blocks' 192 q.0, leb-true wires' 1024 q.1)

  none_from_listing : (f : Fault) → fits ws f ≡ false
  none_from_listing WordCount =
      let r = ranges in
      let t = listing.total in
      or_from _ _ (le-ltb (length ws) 3 (omega arith)) (le-ltb 1218 (length ws) (omega arith))
  none_from_listing Opening = not_from_true _ listing.opening
  none_from_listing Total = not_from_true _ (eq-eqb (length ws) (blocks' + wires' + 2) listing.total)
  none_from_listing (Block p) =
      refuted _ _ (λ h.
      let r = and_parts _ _ h in
      let low = ltb-true 0 p.0 r.0 in
      let high = leb-true p.0 blocks' r.1 in
      let e : 1 + (p.0 - 1) ≡ p.0 = omega arith in
      not_from_true _ (subst (λ k. is_block (word ws k) ≡ true) e (listing.block (p.0 - 1) (omega arith))))
  none_from_listing (Wire p) =
      refuted _ _ (λ h.
      let r = and_parts _ _ h in
      let low = ltb-true blocks' p.0 r.0 in
      let high = leb-true p.0 (blocks' + wires') r.1 in
      let e : 1 + blocks' + (p.0 - (1 + blocks')) ≡ p.0 = omega arith in
      not_from_true _
      (subst (λ k. is_wire blocks' (word ws k) ≡ true) e (listing.wire (p.0 - (1 + blocks')) (omega arith))))
  none_from_listing (Rise p) =
      refuted _ _ (λ h.
      let r = and_parts _ _ h in
      let low = ltb-true (blocks' + 1) p.0 r.0 in
      let high = leb-true p.0 (blocks' + wires') r.1 in
      let i : ℕ = p.0 - (2 + blocks') in
      let e : 1 + blocks' + i ≡ p.0 - 1 = omega arith in
      let f : 1 + blocks' + (i + 1) ≡ p.0 = omega arith in
      let rises = subst (λ k. word ws k < word ws (1 + blocks' + (i + 1))) e (listing.rising i (omega arith)) in
      lt-leb (word ws p.0) (word ws (p.0 - 1)) (subst (λ k. word ws (p.0 - 1) < word ws k) f rises))
  none_from_listing (Closing p) =
      refuted _ _ (λ h.
      let e = eqb-true p.0 (blocks' + wires' + 1) h in
      not_from_true _ (subst (λ k. is_closing k (word ws k) ≡ true) (sym e) listing.closing))
  none_from_listing (PartialWord p) = refl

-- ---- the theorem
pub no_fault : (ws : List ℕ) (c : Counts) → Listing ws c → (f : Fault) → fits ws f ≡ false
no_fault ws c l = none_from_listing ws (subst (Listing ws) (sym l.counts) l)

pub accepts : (ws : List ℕ) → Accepts ws (verdict ws)
unfolding verdict
accepts ws c = (
  λ e.
      let p = answered_none c (counts_of ws) (find (fits ws) (ranked (length ws))) (sym e) in
      subst (Listing ws) (sym p.1) (listing_from_none ws (none_each (fits ws) (ranked (length ws)) p.0)),
  λ l.
      ap (answered (counts_of ws)) (each_none (fits ws) (ranked (length ws)) (λ f i. no_fault ws c l f)) ∙ ap Ok l.counts,
)
