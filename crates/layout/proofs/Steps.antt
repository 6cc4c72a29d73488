-- Laying out the wires one by one: what one wire more adds to the entries.
use Rattle.std.proofs.Common.{◌≡◌, ℕ, ◌+◌, ◌-◌, ◌*◌, ◌<◌, ◌≤◌, cond, eqb, List, [], ◌∷◌, ◌++◌, length, get_or, take, drop, sym, ap, ◌∙◌, subst, ap₂, inl, inr, arith}
use Rattle.std.specs.List.{range_with_len, flat_map}
use Rattle.std.proofs.lemmas.Nat.{mod_below}
use Rattle.std.proofs.lemmas.List.{append_assoc, append-nil, length-take-le, length-drop, get_or-take, get_or-drop, take_more, take-append-drop}
use Rattle.std.proofs.lemmas.Bool.{cond-true, cond-false, eq-eqb, ne_eqb}
use Rattle.sets.specs.Sets.{set, added}
use Rattle.sets.specs.declared.Set.{Set}
use Rattle.stores.specs.declared.entry.Entry.{Entry}
use Rattle.listing.specs.Words.{wire_from, wire_to, wire_type}
use Rattle.lists.specs.Members.{In}
use Rattle.lists.proofs.Members.{in_get_or, get_or_in}
use Rattle.layout.specs.Layouts.{entry, cell_of, row_of, entries_of, start_of}
use Rattle.layout.specs.Passes.{drawn}
use Rattle.layout.proofs.Joins.{joined_empty, joined_same, joined-front, joined_to}
use Rattle.layout.proofs.Types.{types, Off, types_none, types-front, types_more, types_some}

-- the place of a wire's pair among the pairs
abbrev pub key : ℕ → ℕ
key w = wire_from w * 256 + wire_to w

-- wires among n blocks, no pair before one that comes earlier
pub record Ordered (n : ℕ) (vs : List ℕ) : Type 0 where
  pub ends : (i : ℕ) → i < length vs → (wire_from (get_or vs i 0) < n) × (wire_to (get_or vs i 0) < n)
  pub rise : (j i : ℕ) → j ≤ i → i < length vs → key (get_or vs j 0) ≤ key (get_or vs i 0)

to_small : (w : ℕ) → wire_to w < 256
to_small w = mod_below _ 256 (omega arith)

in_front : (vs : List ℕ) (i x : ℕ) → i ≤ length vs → In x (take i vs) → (j : ℕ) × (j < i) × (get_or vs j 0 ≡ x)
in_front vs i x h m =
    let f = in_get_or (take i vs) x 0 m in
    let long = length-take-le i vs h in
    let low : f.0 < i = let l = f.1 in omega arith in
    (f.0, low, sym (get_or-take i vs f.0 0 low) ∙ f.2)

in_rest : (vs : List ℕ) (i x : ℕ) → In x (drop i vs) → (j : ℕ) × (i ≤ j) × (j < length vs) × (get_or vs j 0 ≡ x)
in_rest vs i x m =
    let f = in_get_or (drop i vs) x 0 m in
    let long = length-drop i vs in
    let l = f.1 in
    (i + f.0, omega arith, omega arith, sym (get_or-drop i vs f.0 0) ∙ f.2)

-- ---- cells and rows
module _ (ls : List Set) where
  cell_none : (vs : List ℕ) (u v : ℕ) → Off vs u v → cell_of (drawn ls vs) u v ≡ []
  cell_none vs u v off = cond-true (eqb (types vs u v) 0) [] (entry v (set (types vs u v)) ∷ []) (eq-eqb _ _ (types_none vs u v off))

  cell_some : (vs : List ℕ) (u v : ℕ) → (types vs u v ≡ 0 → ⊥) → cell_of (drawn ls vs) u v ≡ entry v (set (types vs u v)) ∷ []
  cell_some vs u v h = cond-false (eqb (types vs u v) 0) [] (entry v (set (types vs u v)) ∷ []) (ne_eqb _ _ h)

  cell_front : (vs us : List ℕ) (u v : ℕ) → Off us u v → cell_of (drawn ls (vs ++ us)) u v ≡ cell_of (drawn ls vs) u v
  cell_front vs us u v off = ap (λ t. cond (eqb t 0) [] (entry v (set t) ∷ [])) (types-front vs us u v off)

  row_none : (vs : List ℕ) (u : ℕ) → ((w : ℕ) → In w vs → wire_from w ≡ u → ⊥) → row_of (drawn ls vs) u ≡ []
  unfolding row_of
  row_none vs u off = joined_empty (cell_of (drawn ls vs) u) (length ls) (λ v h. cell_none vs u v (λ w i e f. off w i e))

  row_front : (vs us : List ℕ) (u : ℕ) → ((w : ℕ) → In w us → wire_from w ≡ u → ⊥) → row_of (drawn ls (vs ++ us)) u ≡ row_of (drawn ls vs) u
  unfolding row_of
  row_front vs us u off = joined_same (cell_of (drawn ls (vs ++ us)) u) (cell_of (drawn ls vs) u) (length ls) (λ v h. cell_front vs us u v (λ w i e f. off w i e))

  -- with no wire there is no entry
  pub no_entries : entries_of (drawn ls []) ≡ []
  unfolding entries_of
  no_entries = joined_empty (row_of (drawn ls [])) (length ls) (λ u h. row_none [] u (λ w i e. i))

  -- the entries before those of the pair (u, v)
  before : List ℕ → ℕ → ℕ → List Entry
  before vs u v = flat_map (row_of (drawn ls vs)) (range_with_len 0 u) ++ flat_map (cell_of (drawn ls vs) u) (range_with_len 0 v)

  -- where no wire is of a later pair, the entries end with those of this pair
  split : (vs : List ℕ) (u v : ℕ) → u < length ls → v < length ls → v < 256 → ((w : ℕ) → In w vs → key w ≤ u * 256 + v)
      → entries_of (drawn ls vs) ≡ before vs u v ++ cell_of (drawn ls vs) u v
  unfolding entries_of row_of before
  split vs u v hu hv small last =
      joined_to (row_of (drawn ls vs)) u (length ls) hu (λ x l m. row_none vs x (λ w i e. let k = last w i in omega arith))
      ∙ ap (λ t. flat_map (row_of (drawn ls vs)) (range_with_len 0 u) ++ t)
      (joined_to (cell_of (drawn ls vs) u) v (length ls) hv (λ y l m. cell_none vs u y (λ w i e f. let k = last w i in omega arith)))
      ∙ sym (append_assoc (flat_map (row_of (drawn ls vs)) (range_with_len 0 u)) (flat_map (cell_of (drawn ls vs) u) (range_with_len 0 v)) (cell_of (drawn ls vs) u v))

  -- a wire of a pair changes nothing before it
  before_same : (vs : List ℕ) (w : ℕ) → before (vs ++ w ∷ []) (wire_from w) (wire_to w) ≡ before vs (wire_from w) (wire_to w)
  unfolding before
  before_same vs w =
      ap₂ (λ s t. s ++ t)
      (joined_same (row_of (drawn ls (vs ++ w ∷ []))) (row_of (drawn ls vs)) (wire_from w) (λ x h. row_front vs (w ∷ []) x (λ y i e. other_from x y h i e)))
      (joined_same (cell_of (drawn ls (vs ++ w ∷ [])) (wire_from w)) (cell_of (drawn ls vs) (wire_from w)) (wire_to w) (λ v h. cell_front vs (w ∷ []) (wire_from w) v (λ y i e f. other_to v y h i f)))
    where
      other_from : (x y : ℕ) → x < wire_from w → In y (w ∷ []) → wire_from y ≡ x → ⊥
      other_from x y h (inl e) f = let g = ap wire_from e in omega arith
      other_from x y h (inr i) f = i

      other_to : (x y : ℕ) → x < wire_to w → In y (w ∷ []) → wire_to y ≡ x → ⊥
      other_to x y h (inl e) f = let g = ap wire_to e in omega arith
      other_to x y h (inr i) f = i

  -- ---- one wire more
  module _ (vs : List ℕ) (o : Ordered (length ls) vs) (i : ℕ) (h : i < length vs) where
    abbrev w : ℕ
    w = get_or vs i 0

    abbrev front : List ℕ
    front = take i vs

    abbrev had : ℕ
    had = types front (wire_from w) (wire_to w)

    more : take (i + 1) vs ≡ front ++ w ∷ []
    more = take_more vs i 0 h

    at_most : (x : ℕ) → In x (take i vs) → key x ≤ key w
    at_most x m = let f = in_front vs i x (omega arith) m in let l = f.1 in let e = ap key f.2 in let r = o.rise f.0 i (omega arith) h in omega arith

    at_most_more : (x : ℕ) → In x (front ++ w ∷ []) → key x ≤ key w
    at_most_more x m =
        let f = in_front vs (i + 1) x (omega arith) (subst (In x) (sym more) m) in
        let l = f.1 in
        let e = ap key f.2 in
        let r = o.rise f.0 i (omega arith) h in
        omega arith

    last_in : In w (front ++ w ∷ [])
    last_in = subst (In w) more (subst (λ x. In x (take (i + 1) vs)) (get_or-take (i + 1) vs i 0 (omega arith)) (get_or_in (take (i + 1) vs) i 0 (let l = length-take-le (i + 1) vs (omega arith) in omega arith)))

    entries_now : entries_of (drawn ls front) ≡ before front (wire_from w) (wire_to w) ++ cell_of (drawn ls front) (wire_from w) (wire_to w)
    entries_now = let e = o.ends i h in split front (wire_from w) (wire_to w) e.0 e.1 (to_small w) at_most

    entries_next : entries_of (drawn ls (take (i + 1) vs))
        ≡ before front (wire_from w) (wire_to w) ++ entry (wire_to w) (added (wire_type w) (set had)) ∷ []
    entries_next =
        let e = o.ends i h in
        ap (λ t. entries_of (drawn ls t)) more
        ∙ split (front ++ w ∷ []) (wire_from w) (wire_to w) e.0 e.1 (to_small w) at_most_more
        ∙ ap₂ (λ s t. s ++ t) (before_same front w)
        (cell_some (front ++ w ∷ []) (wire_from w) (wire_to w) (types_some (front ++ w ∷ []) w last_in)
        ∙ ap (λ t. entry (wire_to w) (set t) ∷ []) (types_more front w))

    -- a wire of a new pair adds an entry
    pub opens_entry : ((j : ℕ) → j < i → key (get_or vs j 0) < key w)
        → entries_of (drawn ls (take (i + 1) vs)) ≡ entries_of (drawn ls (take i vs)) ++ entry (wire_to w) (added (wire_type w) (set 0)) ∷ []
    opens_entry new =
        let off : Off front (wire_from w) (wire_to w) = λ x m e f. let p = in_front vs i x (omega arith) m in let n = new p.0 p.1 in let k = ap key p.2 in omega arith in
        entries_next
        ∙ ap₂ (λ b t. b ++ entry (wire_to w) (added (wire_type w) (set t)) ∷ [])
        (sym (append-nil (before front (wire_from w) (wire_to w))) ∙ ap (λ t. before front (wire_from w) (wire_to w) ++ t) (sym (cell_none front (wire_from w) (wire_to w) off)) ∙ sym entries_now)
        (types_none front (wire_from w) (wire_to w) off)

    -- a wire of the same pair as the last one adds its type to the last entry
    pub record Grown : Type 0 where
      pub rest : List Entry
      pub types : Set
      pub now : entries_of (drawn ls (take i vs)) ≡ rest ++ entry (wire_to w) types ∷ []
      pub next : entries_of (drawn ls (take (i + 1) vs)) ≡ rest ++ entry (wire_to w) (added (wire_type w) types) ∷ []

    pub adds_type : 0 < i → key (get_or vs (i - 1) 0) ≡ key w → Grown
    adds_type low same =
        let x : ℕ = get_or vs (i - 1) 0 in
        let inside : In x front =
        subst (λ y. In y front) (get_or-take i vs (i - 1) 0 (omega arith)) (get_or_in front (i - 1) 0 (let l = length-take-le i vs (omega arith) in omega arith)) in
        let a = to_small x in
        let b = to_small w in
        let f : wire_from x ≡ wire_from w = omega arith in
        let t : wire_to x ≡ wire_to w = omega arith in
        let full : types front (wire_from w) (wire_to w) ≡ 0 → ⊥ = λ z. types_some front x inside (ap₂ (λ u v. types front u v) f t ∙ z) in
        record {
          rest = before front (wire_from w) (wire_to w);
          types = set had;
          now = entries_now ∙ ap (λ t. before front (wire_from w) (wire_to w) ++ t) (cell_some front (wire_from w) (wire_to w) full);
          next = entries_next;
        }

  -- ---- a row begins where the wires from the blocks before it end
  pub start_at : (vs : List ℕ) (i row : ℕ) → i ≤ length vs → row ≤ length ls
      → ((e : ℕ) → e < i → wire_from (get_or vs e 0) < row) → ((e : ℕ) → i ≤ e → e < length vs → row ≤ wire_from (get_or vs e 0))
      → length (entries_of (drawn ls (take i vs))) ≡ start_of (drawn ls vs) row
  unfolding entries_of start_of
  start_at vs i row h r low high =
      ap length
      (joined-front (row_of (drawn ls (take i vs))) row (length ls) r
      (λ x l m. row_none (take i vs) x (λ w n e. let f = in_front vs i w h n in let b = low f.0 f.1 in let g = ap wire_from f.2 in omega arith))
      ∙ joined_same (row_of (drawn ls (take i vs))) (row_of (drawn ls vs)) row (λ x l.
      sym (row_front (take i vs) (drop i vs) x (λ w n e. let f = in_rest vs i w n in let b = high f.0 f.1 f.2 in let g = ap wire_from f.3 in omega arith))
      ∙ ap (λ t. row_of (drawn ls t) x) (take-append-drop i vs)))
