-- The turns of a pass over the wires.
use Rattle.std.proofs.Common.{◌≡◌, ℕ, ◌+◌, ◌<◌, ◌≤◌, true, false, List, length, get_or, sym, ap, ◌∙◌, ⊎_elim, arith}
use Rattle.std.proofs.lemmas.Nat.{mod_below}
use Rattle.std.proofs.lemmas.Bool.{cases_eq}
use Rattle.listing.specs.declared.counts.Counts.{Counts}
use Rattle.listing.specs.Words.{wire_from, opening_wires}
use Rattle.listing.specs.Listings.{Listing, word, wire_words}
use Rattle.listing.specs.Graphs.{stated}
use Rattle.layout.specs.declared.passed.Passed.{Passed}
use Rattle.layout.specs.Layouts.{start_of}
use Rattle.layout.specs.Passes.{Below}
use Rattle.layout.proofs.Steps.{no_entries}
use Rattle.layout.proofs.Listed.{open_test, entries_to, wire_count, wire_at, length_open, length_add, length_most, start_is, from_rises}

abbrev pub passing : ℕ → ℕ → Passed
passing i p = record { wires = i; pairs = p }

pub no_wires : (ws : List ℕ) (row : ℕ) → Below ws row (passing 0 0)
no_wires ws row =
    record { within = omega arith; pairs = sym (ap length (no_entries (stated ws).labels)); below = λ e h. absurd (omega arith) }

pub next_row : (ws : List ℕ) (row : ℕ) (p : Passed) → Below ws row p → Below ws (row + 1) p
next_row ws row p b = record { within = b.within; pairs = b.pairs; below = λ e h. let l = b.below e h in omega arith }

module _ (ws : List ℕ) (c : Counts) (l : Listing ws c) where
  pub few_wires : c.wires < 16384
  few_wires =
      let e = ap (λ (d : Counts). d.wires) l.counts in
      let m : opening_wires (word ws 0) < 16384 = mod_below _ 16384 (omega arith) in
      omega arith

  pub few_pairs : (row : ℕ) (p : Passed) → Below ws row p → (p.pairs ≤ p.wires) × (p.wires ≤ c.wires) × (p.wires < 16384)
  few_pairs row p b =
      let m = wire_count ws c l in
      let w = b.within in
      let k = length_most ws c l p.wires (omega arith) in
      let e = b.pairs in
      let f = few_wires in
      (omega arith, omega arith, omega arith)

  -- a wire from below the row is passed
  pub next_wire : (row i p q : ℕ) → Below ws row (passing i p) → i < c.wires → wire_from (word ws (1 + c.blocks + i)) < row
      → q ≡ length (entries_to ws (i + 1)) → Below ws row (passing (i + 1) q)
  next_wire row i p q b h low e =
      let m = wire_count ws c l in
      record {
        within = omega arith;
        pairs = e;
        below = λ j k.
            ⊎_elim (λ s. let a = ap wire_from (ap (λ t. get_or (wire_words ws) t 0) s ∙ wire_at ws c l i h) in omega arith)
            (λ s. b.below j (omega arith)) (cases_eq j i);
      }

  pub pairs_open : (row i p : ℕ) → Below ws row (passing i p) → i < c.wires → true ≡ open_test (wire_words ws) i → p + 1 ≡ length (entries_to ws (i + 1))
  pairs_open row i p b h t = ap (λ n. n + 1) b.pairs ∙ sym (length_open ws c l i h (sym t))

  pub pairs_add : (row i p : ℕ) → Below ws row (passing i p) → i < c.wires → false ≡ open_test (wire_words ws) i → p ≡ length (entries_to ws (i + 1))
  pairs_add row i p b h t = b.pairs ∙ sym (length_add ws c l i h (sym t)).0

  -- at a wire from the row or above, and at the end, the pairs are those of the rows before
  pub start_found : (row i p : ℕ) → row ≤ c.blocks → Below ws row (passing i p) → row ≤ wire_from (word ws (1 + c.blocks + i)) → p ≡ start_of (stated ws) row
  start_found row i p r b h =
      let k = (few_pairs row (passing i p) b).1 in
      b.pairs ∙ start_is ws c l i row k r b.below (λ e q m. from_rises ws c l i e row q m h)

  pub start_end : (row p : ℕ) → row ≤ c.blocks → Below ws row (passing c.wires p) → p ≡ start_of (stated ws) row
  start_end row p r b = b.pairs ∙ start_is ws c l c.wires row (omega arith) r b.below (λ e q m. absurd (omega arith))
