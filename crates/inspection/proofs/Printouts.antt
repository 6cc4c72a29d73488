-- The line of a file by what the file is found to be, and two lines one after the other.
use Rattle.std.proofs.Common.{◌≡◌, ℕ, ◌+◌, ◌≤◌, Bool, true, false, cond, List, length, take, drop, None, Ok, Err, Result, unwrap_or, sym, refl, ap, ◌∙◌, ap₂, arith}
use Rattle.refusal.specs.declared.Place.{Place}
use Rattle.refusal.specs.declared.Refusal.{Refusal}
use Rattle.listing.specs.declared.counts.Counts.{Counts}
use Rattle.listing.specs.declared.fault.Fault.{Fault}
use Rattle.listing.specs.declared.fault.Fault.TheVariants.{PartialWord}
use Rattle.listing.specs.Faults.{refusal, at, verdict}
use Rattle.listing.specs.Files.{is_whole, whole_words, file_words, file_verdict, read_left}
use Rattle.listing.proofs.Accepts.{accepts}
use Rattle.listing.proofs.Files.{length-file_words, length_taken}
use Rattle.std.proofs.lemmas.List.{take_at}
use Rattle.std.proofs.lemmas.Bool.{cond-true}
use Rattle.lines.specs.declared.role.Role.{Role}
use Rattle.lines.specs.GraphLines.{graph_line}
use Rattle.lines.specs.Lines.{count_line, fault_line}
use Rattle.std.specs.Result.{result_ok}
use Rattle.inspection.specs.Printouts.{verdict_line, file_line, graph_line_of, file_graph_line}

pub line_of_counts : (role : Role) (bs : List ℕ) (c : Counts) → Ok c ≡ file_verdict bs → count_line role c ≡ file_line role bs
unfolding file_line
line_of_counts role bs c e = ap (verdict_line role) e

-- the number and the place are told by the fault's refusal
pub line_of_fault : (role : Role) (bs : List ℕ) (f : Fault) (told : Refusal) (p : Place) → Err f ≡ file_verdict bs → told ≡ refusal f
    → p ≡ unwrap_or told.place (record { 0 = 0 }) → fault_line role told.number.0 p.0 ≡ file_line role bs
unfolding file_line
line_of_fault role bs f told p e t q =
    ap₂ (λ n k. fault_line role n k) (ap (λ r. r.number.0) t) (ap (λ k. k.0) q ∙ ap (λ r. (unwrap_or {T = Place} r.place (record { 0 = 0 })).0) t)
    ∙ ap (verdict_line role) e

-- ---- the lines of the graph
pub no_line_of_fault : (bs : List ℕ) (i : ℕ) → result_ok (file_verdict bs) ≡ None → file_graph_line bs i ≡ None
unfolding file_graph_line
no_line_of_fault bs i = go (file_verdict bs)
  where
    go : (r : Result Counts Fault) → result_ok r ≡ None → graph_line_of r (file_words bs) i ≡ None
    go (Ok c) e = cc
    go (Err f) e = refl

pub line_of_graph : (bs : List ℕ) (i : ℕ) (c : Counts) → file_verdict bs ≡ Ok c → graph_line (file_words bs) i ≡ file_graph_line bs i
unfolding file_graph_line
line_of_graph bs i c e = sym (ap (λ r. graph_line_of r (file_words bs) i) e)

-- an accepted file is whole, and its words are as many as its counts ask for
accepted-words : (bs : List ℕ) (c : Counts) → file_verdict bs ≡ Ok c → (is_whole bs ≡ true) × (length (file_words bs) ≡ c.blocks + c.wires + 2)
unfolding file_verdict
accepted-words bs c = go (is_whole bs) refl
  where
    go : (b : Bool) → is_whole bs ≡ b → cond b (verdict (file_words bs)) (Err (PartialWord (at (whole_words bs)))) ≡ Ok c → (is_whole bs ≡ true) × (length (file_words bs) ≡ c.blocks + c.wires + 2)
    go true w e = (w, ((accepts (file_words bs) c).0 e).total)
    go false w e = let z : ◌≡◌ {A = ℕ} 0 1 = cc in absurd (omega arith)

pub words_in_front : (bs m : List ℕ) (c : Counts) (n : ℕ) → file_verdict bs ≡ Ok c → n ≡ c.blocks + c.wires + 2 → take n (read_left bs m) ≡ file_words bs
words_in_front bs m c n e size =
    let a = accepted-words bs c e in
    ap (take n) (cond-true (is_whole bs) _ _ a.0) ∙ take_at (file_words bs) (drop (whole_words bs) m) n (a.1 ∙ sym size)

-- they fit the memory
pub words_few : (bs : List ℕ) (c : Counts) → file_verdict bs ≡ Ok c → c.blocks + c.wires + 2 ≤ 1219
words_few bs c e =
    let a = accepted-words bs c e in
    let n = length-file_words bs in
    let t = length_taken bs in
    let w : whole_words bs ≤ 1219 = omega arith in
    omega arith
