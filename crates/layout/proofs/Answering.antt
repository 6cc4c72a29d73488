-- What the layout answers and leaves, at each of its ends.
use Rattle.std.proofs.Common.{◌≡◌, ℕ, ◌+◌, ◌<◌, ◌≤◌, false, ltb, List, length, Some, None, Ok, Err, sym, ap, ◌∙◌, arith}
use Rattle.std.proofs.lemmas.Bool.{cond-true, cond-false, lt-ltb, le-ltb}
use Rattle.stores.specs.declared.entry.Entry.{Entry}
use Rattle.listing.specs.declared.counts.Counts.{Counts}
use Rattle.listing.specs.declared.fault.Fault.{Fault}
use Rattle.listing.specs.Listings.{Listing}
use Rattle.listing.specs.Faults.{verdict}
use Rattle.listing.specs.Graphs.{stated}
use Rattle.listing.proofs.Accepts.{accepts}
use Rattle.layout.specs.declared.fault.LayoutFault.{LayoutFault}
use Rattle.layout.specs.declared.fault.LayoutFault.TheVariants.{Check, ShortStarts, ShortEntries}
use Rattle.layout.specs.Layouts.{entries_of, start_of, starts_of, laid, fault_of, fault_for, answer_by, left_by, layout_answer, starts_left, entries_left}
use Rattle.layout.proofs.Listed.{label_count, entries_in_total}

pub entry_count : (ws : List ℕ) (c : Counts) → Listing ws c → (n : ℕ) → n ≡ start_of (stated ws) c.blocks → n ≡ length (entries_of (stated ws))
entry_count ws c l n e = e ∙ sym (entries_in_total ws c l)

module _ (ws ss : List ℕ) (es : List Entry) where
  -- ---- which fault
  pub fault_check : (f : Fault) → Err f ≡ verdict ws → fault_for ws ss es ≡ Some (Check f)
  fault_check f e = ap (fault_of (stated ws) (length ss) (length es)) (sym e)

  module _ (c : Counts) (l : Listing ws c) where
    accepted : fault_for ws ss es ≡ fault_of (stated ws) (length ss) (length es) (Ok c)
    accepted = ap (fault_of (stated ws) (length ss) (length es)) ((accepts ws c).1 l)

    pub fault_starts : length ss < c.blocks + 1 → fault_for ws ss es ≡ Some ShortStarts
    fault_starts low = let n = label_count ws c l in accepted ∙ cond-true _ _ _ (lt-ltb (length ss) (length (stated ws).labels + 1) (omega arith))

    past_starts : c.blocks + 1 ≤ length ss → ltb (length ss) (length (stated ws).labels + 1) ≡ false
    past_starts room = let n = label_count ws c l in le-ltb (length ss) (length (stated ws).labels + 1) (omega arith)

    pub fault_entries : c.blocks + 1 ≤ length ss → length es < length (entries_of (stated ws)) → fault_for ws ss es ≡ Some ShortEntries
    fault_entries room low = accepted ∙ cond-false _ _ _ (past_starts room) ∙ cond-true _ _ _ (lt-ltb (length es) (length (entries_of (stated ws))) low)

    pub no_fault : c.blocks + 1 ≤ length ss → length (entries_of (stated ws)) ≤ length es → fault_for ws ss es ≡ None
    no_fault room more = accepted ∙ cond-false _ _ _ (past_starts room) ∙ cond-false _ _ _ (le-ltb (length es) (length (entries_of (stated ws))) more)

  -- ---- what is answered and left
  pub refused : (f : LayoutFault) → fault_for ws ss es ≡ Some f → (Err f ≡ layout_answer ws ss es) × (ss ≡ starts_left ws ss es) × (es ≡ entries_left ws ss es)
  unfolding layout_answer starts_left entries_left
  refused f e = (
    ap (answer_by (length (entries_of (stated ws)))) (sym e),
    ap (left_by (starts_of (stated ws)) ss) (sym e),
    ap (left_by (entries_of (stated ws)) es) (sym e),
  )

  pub made : (n : ℕ) → n ≡ length (entries_of (stated ws)) → fault_for ws ss es ≡ None
      → (Ok n ≡ layout_answer ws ss es) × (laid (starts_of (stated ws)) ss ≡ starts_left ws ss es) × (laid (entries_of (stated ws)) es ≡ entries_left ws ss es)
  unfolding layout_answer starts_left entries_left
  made n m e = (
    ap Ok m ∙ ap (answer_by (length (entries_of (stated ws)))) (sym e),
    ap (left_by (starts_of (stated ws)) ss) (sym e),
    ap (left_by (entries_of (stated ws)) es) (sym e),
  )
