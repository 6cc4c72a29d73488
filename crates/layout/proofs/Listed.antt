-- The wires of a listing stand in the order of their pairs, and a test on two words tells whether a wire opens a pair.
use Rattle.std.proofs.Common.{◌≡◌, ℕ, zero, suc, ◌+◌, ◌-◌, ◌/◌, ◌^◌, ◌<◌, ◌≤◌, Bool, true, false, not, ◌||◌, eqb, List, [], ◌∷◌, ◌++◌, length, get_or, sym, refl, ap, ◌∙◌, subst, ⊎_elim, add-zero, arith}
use Rattle.std.proofs.lemmas.Nat.{mod_below}
use Rattle.std.proofs.lemmas.List.{take_all, length-append}
use Rattle.std.proofs.lemmas.Bool.{or_cases, or_parts, eq-eqb, eqb-true, not-true, not-false, cases_Bool, both_ways, cases_eq}
use Rattle.sets.specs.Sets.{set, added}
use Rattle.sets.specs.declared.Set.{Set}
use Rattle.stores.specs.declared.entry.Entry.{Entry}
use Rattle.listing.specs.declared.counts.Counts.{Counts}
use Rattle.listing.specs.Words.{wire_from, wire_to, wire_type, is_wire}
use Rattle.listing.specs.Listings.{Listing, word, counts_of, wire_words}
use Rattle.listing.specs.Graphs.{stated}
use Rattle.listing.proofs.Fields.{wire_is, wire_ends}
use Rattle.listing.proofs.Parts.{length-wire_words, get_or-wire_words, length_tags}
use Rattle.layout.specs.Layouts.{entry, entries_of, start_of}
use Rattle.layout.specs.Passes.{drawn, early}
use Rattle.layout.proofs.Steps.{key, Ordered, no_entries, opens_entry, adds_type, start_at}

pair_is : (b w : ℕ) → is_wire b w ≡ true → w / 16384 ≡ 131072 + key w
pair_is b w h =
    let e = wire_is b w h in
    let t : wire_to w < 256 = mod_below _ 256 (omega arith) in
    let k : wire_type w < 32 = mod_below _ 32 (omega arith) in
    omega arith

key_rises : (b x y : ℕ) → is_wire b x ≡ true → is_wire b y ≡ true → x ≤ y → key x ≤ key y
key_rises b x y h k l = let p = pair_is b x h in let q = pair_is b y k in omega arith

-- the test for a wire that opens a pair: the first of the wire words, or one of another pair than the one before it
abbrev pub open_test : List ℕ → ℕ → Bool
open_test es i = eqb i 0 || not (eqb (get_or es (i - 1) 0 / 2 ^ 14) (get_or es i 0 / 2 ^ 14))

-- the entries that the first i wires make
abbrev pub entries_to : List ℕ → ℕ → List Entry
entries_to ws i = entries_of (early ws i)

pub record Grows (ws : List ℕ) (c : Counts) (i : ℕ) : Type 0 where
  pub rest : List Entry
  pub types : Set
  pub now : entries_to ws i ≡ rest ++ entry (wire_to (word ws (1 + c.blocks + i))) types ∷ []
  pub next : entries_to ws (i + 1)
      ≡ rest ++ entry (wire_to (word ws (1 + c.blocks + i))) (added (wire_type (word ws (1 + c.blocks + i))) types) ∷ []

module _ (ws : List ℕ) (c : Counts) (l : Listing ws c) where
  own : Listing ws (counts_of ws)
  own = subst (Listing ws) (sym l.counts) l

  pub wire_count : length (wire_words ws) ≡ c.wires
  wire_count = length-wire_words ws own ∙ ap (λ (d : Counts). d.wires) l.counts

  pub label_count : length (stated ws).labels ≡ c.blocks
  unfolding stated
  label_count = length_tags ws own ∙ ap (λ (d : Counts). d.blocks) l.counts

  pub wire_at : (e : ℕ) → e < c.wires → get_or (wire_words ws) e 0 ≡ word ws (1 + c.blocks + e)
  wire_at e h =
      get_or-wire_words ws own e (subst (λ (d : Counts). e < d.wires) (sym l.counts) h)
      ∙ ap (λ (d : Counts). word ws (1 + d.blocks + e)) l.counts

  words_rise : (d e : ℕ) → e + d < c.wires → word ws (1 + c.blocks + e) ≤ word ws (1 + c.blocks + (e + d))
  words_rise zero e h = rw (add-zero e) (omega arith)
  words_rise (suc d) e h =
      let so_far = words_rise d e (omega arith) in
      let up = l.rising (e + d) (omega arith) in
      let at : e + d + 1 ≡ e + suc d = omega arith in
      let same = ap (λ k. word ws (1 + c.blocks + k)) at in
      omega arith

  ordered : Ordered (length (stated ws).labels) (wire_words ws)
  ordered =
      let n = label_count in
      let m = wire_count in
      record {
        ends = λ i h.
            let e = wire_ends c.blocks (word ws (1 + c.blocks + i)) (l.wire i (omega arith)) in
            let a = wire_at i (omega arith) in
            let f = ap wire_from a in
            let t = ap wire_to a in
            let p = e.0 in
            let q = e.1 in
            (omega arith, omega arith);
        rise = λ j i r h.
            let at : j + (i - j) ≡ i = omega arith in
            let up = subst (λ k. word ws (1 + c.blocks + j) ≤ word ws (1 + c.blocks + k)) at (words_rise (i - j) j (omega arith)) in
            let k = key_rises c.blocks (word ws (1 + c.blocks + j)) (word ws (1 + c.blocks + i)) (l.wire j (omega arith)) (l.wire i (omega arith)) up in
            let a = ap key (wire_at j (omega arith)) in
            let b = ap key (wire_at i (omega arith)) in
            omega arith;
      }

  -- the pair of a wire, as its word gives it
  pair_of : (i : ℕ) → i < c.wires → get_or (wire_words ws) i 0 / 16384 ≡ 131072 + key (get_or (wire_words ws) i 0)
  pair_of i h = pair_is c.blocks _ (subst (λ w. is_wire c.blocks w ≡ true) (sym (wire_at i h)) (l.wire i h))

  new_pair : (i : ℕ) → i < c.wires → open_test (wire_words ws) i ≡ true → (j : ℕ) → j < i → key (get_or (wire_words ws) j 0) < key (get_or (wire_words ws) i 0)
  new_pair i h t j low =
      let m = wire_count in
      let a = pair_of (i - 1) (omega arith) in
      let b = pair_of i h in
      let r = ordered.rise j (i - 1) (omega arith) (omega arith) in
      let s = ordered.rise (i - 1) i (omega arith) (omega arith) in
      let other : not (eqb (get_or (wire_words ws) (i - 1) 0 / 2 ^ 14) (get_or (wire_words ws) i 0 / 2 ^ 14)) ≡ true = ⊎_elim (λ z. let none = eqb-true i 0 z in absurd (omega arith)) (λ o. o) (or_cases (eqb i 0) _ t) in
      let apart : key (get_or (wire_words ws) (i - 1) 0) ≡ key (get_or (wire_words ws) i 0) → ⊥ = λ e. both_ways _ (not-true _ other) (eq-eqb _ _ (a ∙ ap (λ k. 131072 + k) e ∙ sym b)) in
      ⊎_elim (λ e. absurd (apart e)) (λ n. omega arith) (cases_eq (key (get_or (wire_words ws) (i - 1) 0)) (key (get_or (wire_words ws) i 0)))

  later : (i : ℕ) → open_test (wire_words ws) i ≡ false → 0 < i
  later zero t = absurd (both_ways true t refl)
  later (suc i) t = omega arith

  same_pair : (i : ℕ) → i < c.wires → open_test (wire_words ws) i ≡ false → key (get_or (wire_words ws) (i - 1) 0) ≡ key (get_or (wire_words ws) i 0)
  same_pair i h t =
      let e = eqb-true _ _ (not-false _ (or_parts (eqb i 0) _ t).1) in
      let some = later i t in
      let a = pair_of (i - 1) (omega arith) in
      let b = pair_of i h in
      omega arith

  -- ---- what one wire more adds to the entries
  pub entries_open : (i : ℕ) → i < c.wires → open_test (wire_words ws) i ≡ true
      → entries_to ws (i + 1) ≡ entries_to ws i ++ entry (wire_to (word ws (1 + c.blocks + i))) (added (wire_type (word ws (1 + c.blocks + i))) (set 0)) ∷ []
  entries_open i h t =
      let m = wire_count in
      opens_entry (stated ws).labels (wire_words ws) ordered i (omega arith) (new_pair i h t)
      ∙ ap (λ w. entries_to ws i ++ entry (wire_to w) (added (wire_type w) (set 0)) ∷ []) (wire_at i h)

  pub entries_add : (i : ℕ) → i < c.wires → open_test (wire_words ws) i ≡ false → Grows ws c i
  entries_add i h t =
      let m = wire_count in
      let g = adds_type (stated ws).labels (wire_words ws) ordered i (omega arith) (later i t) (same_pair i h t) in
      record {
        rest = g.rest;
        types = g.types;
        now = g.now ∙ ap (λ w. g.rest ++ entry (wire_to w) g.types ∷ []) (wire_at i h);
        next = g.next ∙ ap (λ w. g.rest ++ entry (wire_to w) (added (wire_type w) g.types) ∷ []) (wire_at i h);
      }

  pub length_open : (i : ℕ) → i < c.wires → open_test (wire_words ws) i ≡ true → length (entries_to ws (i + 1)) ≡ length (entries_to ws i) + 1
  length_open i h t = ap length (entries_open i h t) ∙ length-append (entries_to ws i) _

  pub length_add : (i : ℕ) → i < c.wires → open_test (wire_words ws) i ≡ false
      → (length (entries_to ws (i + 1)) ≡ length (entries_to ws i)) × (0 < length (entries_to ws i))
  length_add i h t =
      let g = entries_add i h t in
      let a = ap length g.now ∙ length-append g.rest _ in
      let b = ap length g.next ∙ length-append g.rest _ in
      (omega arith, omega arith)

  length_step : (i : ℕ) → i < c.wires → (length (entries_to ws i) ≤ length (entries_to ws (i + 1))) × (length (entries_to ws (i + 1)) ≤ length (entries_to ws i) + 1)
  length_step i h =
      ⊎_elim (λ t. let e = length_open i h t in (omega arith, omega arith)) (λ t. let e = (length_add i h t).0 in (omega arith, omega arith)) (cases_Bool (open_test (wire_words ws) i))

  -- at most one entry a wire
  pub length_most : (i : ℕ) → i ≤ c.wires → length (entries_to ws i) ≤ i
  length_most zero h = let e = ap length (no_entries (stated ws).labels) in omega arith
  length_most (suc i) h =
      let so_far = length_most i (omega arith) in
      let step = (length_step i (omega arith)).1 in
      let at : i + 1 ≡ suc i = omega arith in
      let same = ap (λ k. length (entries_to ws k)) at in
      omega arith

  length_rises : (d i : ℕ) → i + d ≤ c.wires → length (entries_to ws i) ≤ length (entries_to ws (i + d))
  length_rises zero i h = rw (add-zero i) (omega arith)
  length_rises (suc d) i h =
      let so_far = length_rises d i (omega arith) in
      let step = (length_step (i + d) (omega arith)).0 in
      let at : i + d + 1 ≡ i + suc d = omega arith in
      let same = ap (λ k. length (entries_to ws k)) at in
      omega arith

  -- all wires make the graph that the words state
  pub entries_all : (i : ℕ) → i ≡ c.wires → entries_to ws i ≡ entries_of (stated ws)
  unfolding stated
  entries_all i e = ap (λ t. entries_of (drawn (stated ws).labels t)) (take_all i (wire_words ws) (let m = wire_count in omega arith))

  pub length_within : (i : ℕ) → i ≤ c.wires → length (entries_to ws i) ≤ length (entries_of (stated ws))
  length_within i h =
      let r = length_rises (c.wires - i) i (omega arith) in
      let e = ap length (entries_all (i + (c.wires - i)) (omega arith)) in
      omega arith

  pub start_is : (i row : ℕ) → i ≤ c.wires → row ≤ c.blocks
      → ((e : ℕ) → e < i → wire_from (get_or (wire_words ws) e 0) < row)
      → ((e : ℕ) → i ≤ e → e < c.wires → row ≤ wire_from (get_or (wire_words ws) e 0))
      → length (entries_to ws i) ≡ start_of (stated ws) row
  unfolding stated
  start_is i row h r low high =
      let n = label_count in
      let m = wire_count in
      start_at (stated ws).labels (wire_words ws) i row (omega arith) (omega arith) low (λ e p q. high e p (omega arith))

  -- past a wire that does not run from below a row there is none that does
  pub from_rises : (i e row : ℕ) → i ≤ e → e < c.wires → row ≤ wire_from (word ws (1 + c.blocks + i)) → row ≤ wire_from (get_or (wire_words ws) e 0)
  from_rises i e row p h k =
      let m = wire_count in
      let r = ordered.rise i e p (omega arith) in
      let a = ap wire_from (wire_at i (omega arith)) in
      let x : wire_to (get_or (wire_words ws) e 0) < 256 = mod_below _ 256 (omega arith) in
      omega arith

  pub entries_in_total : length (entries_of (stated ws)) ≡ start_of (stated ws) c.blocks
  unfolding entries_of start_of
  entries_in_total = ap (start_of (stated ws)) label_count
