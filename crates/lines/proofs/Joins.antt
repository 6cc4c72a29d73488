-- A line is its pieces, added one after another; how long its numbers are.
use Rattle.std.proofs.Common.{◌≡◌, ℕ, ◌+◌, ◌/◌, ◌%◌, ◌^◌, ◌<◌, ◌≤◌, List, [], ◌∷◌, ◌++◌, length, codes, decimal, sym, refl, ap, ◌∙◌, append_assoc, arith}
use Rattle.lines.specs.GraphLines.{block_line, tags_text, wire_line}
use Rattle.lines.specs.Lines.{count_line, fault_line, number_line, role_word}
use Rattle.lines.specs.declared.role.Role.{Role}
use Rattle.listing.specs.declared.counts.Counts.{Counts}
use Rattle.listing.specs.Words.{wire_from, wire_to, wire_type}
use Rattle.std.proofs.lemmas.Fmt.{decimal_digit, decimal_step, length-decimal-le}
use Rattle.std.proofs.lemmas.List.{length-append}

pub number_line_joined : (role : Role) (first second : ℕ) (middle end : List ℕ)
    → ((((role_word role ++ codes " ") ++ decimal first) ++ middle) ++ decimal second) ++ end ≡ number_line role first middle second end
unfolding number_line
number_line_joined role first second middle end = simp append_assoc refl

pub fault_line_is : (role : Role) (number place : ℕ) → number_line role number (codes " at ") place (codes "\n") ≡ fault_line role number place
unfolding fault_line
fault_line_is role number place = refl

pub count_line_is : (role : Role) (counts : Counts)
    → number_line role counts.blocks (codes " blocks ") counts.wires (codes " wires\n") ≡ count_line role counts
unfolding count_line
count_line_is role counts = refl

pub block_line_joined : (v s : ℕ) → (((codes "block " ++ decimal v) ++ codes " tags") ++ tags_text s) ++ codes "\n" ≡ block_line v s
unfolding block_line
block_line_joined v s = simp append_assoc refl

pub wire_line_joined : (w : ℕ) → (((((codes "wire " ++ decimal (wire_from w)) ++ codes " ") ++ decimal (wire_to w)) ++ codes " type ") ++ decimal (wire_type w)) ++ codes "\n" ≡ wire_line w
unfolding wire_line
wire_line_joined w = simp append_assoc refl

pub length_decimal_number : (n : ℕ) → n < 65536 → length (decimal n) ≤ 5
length_decimal_number n small = length-decimal-le 5 n (omega arith) (omega arith) (omega arith)

-- one digit after a line, and the last digit after the others
pub digit_added : (line : List ℕ) (n : ℕ) → n < 10 → line ++ ((48 + n) ∷ []) ≡ line ++ decimal n
digit_added line n small = ap (λ xs. line ++ xs) (sym (decimal_digit n small))

pub last_added : (line : List ℕ) (n : ℕ) → 10 ≤ n → n < 2 ^ 64 → (line ++ decimal (n / 10)) ++ ((48 + n % 10) ∷ []) ≡ line ++ decimal n
last_added line n many fits =
    append_assoc line (decimal (n / 10)) ((48 + n % 10) ∷ []) ∙ ap (λ xs. line ++ xs) (sym (decimal_step n many fits))

pub length_digits : (n : ℕ) → 10 ≤ n → n < 2 ^ 64 → length (decimal n) ≡ length (decimal (n / 10)) + 1
length_digits n many fits = ap length (decimal_step n many fits) ∙ length-append (decimal (n / 10)) ((48 + n % 10) ∷ [])

pub length_most : (n : ℕ) → n < 2 ^ 64 → length (decimal n) ≤ 20
length_most n fits = length-decimal-le 20 n (omega arith) (omega arith) fits
