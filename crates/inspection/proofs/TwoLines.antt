-- Two lines written one after the other into a memory of 128 bytes.
use Rattle.std.proofs.Common.{◌≡◌, ℕ, ◌+◌, ◌-◌, ◌≤◌, ltb, List, [], ◌++◌, length, take, drop, Ok, sym, ap, ◌∙◌, subst, ap₂, arith}
use borrow.Rule.Slice.PartMut.{put_mid}
use Rattle.std.proofs.lemmas.List.{append_assoc, append-nil, length-append, length-drop, drop_at, take_at, take_all, drop_all, drop-drop}
use Rattle.std.proofs.lemmas.Bool.{cond-false, le-ltb}
use Rattle.lines.specs.Lines.{line_answer, line_left}
use Rattle.inspection.specs.Printouts.{overwritten}

-- with room for a line it is written, and its length answered
answer_roomy : (line m : List ℕ) (n : ℕ) → 64 ≤ length m → Ok n ≡ line_answer line m → n ≡ length line
answer_roomy line m n room e =
    let is = e ∙ cond-false (ltb (length m) 64) _ _ (le-ltb (length m) 64 room) in cc

left_roomy : (line m : List ℕ) → 64 ≤ length m → line_left line m ≡ overwritten line m
left_roomy line m room = cond-false (ltb (length m) 64) _ _ (le-ltb (length m) 64 room)

-- what was written and where, line by line
pub record Lines (m a b one two : List ℕ) (n k : ℕ) : Type 0 where
  pub room : length m ≡ 128
  pub first_answer : Ok n ≡ line_answer a m
  pub first_left : one ≡ line_left a m
  pub first_within : n ≤ 64
  pub second_answer : Ok k ≡ line_answer b (take (128 - n) (drop n one))
  pub second_left : two ≡ line_left b (take (128 - n) (drop n one))

module _ (m a b one two : List ℕ) (n k : ℕ) (w : Lines m a b one two n k) where
  first_length : n ≡ length a
  first_length = let r = w.room in answer_roomy a m n (omega arith) w.first_answer

  first_is : one ≡ a ++ drop n m
  first_is =
      let r = w.room in
      w.first_left ∙ left_roomy a m (omega arith) ∙ ap (λ j. a ++ drop j m) (sym first_length)

  rest_is : drop n one ≡ drop n m
  rest_is = ap (drop n) first_is ∙ drop_at a (drop n m) n (sym first_length)

  length_rest : length (drop n m) ≡ 128 - n
  length_rest = length-drop n m ∙ ap (λ j. j - n) w.room

  part_is : take (128 - n) (drop n one) ≡ drop n m
  part_is = ap (take (128 - n)) rest_is ∙ take_all (128 - n) (drop n m) (let l = length_rest in omega arith)

  roomy : 64 ≤ length (drop n m)
  roomy = let l = length_rest in let h = w.first_within in omega arith

  second_length : k ≡ length b
  second_length = answer_roomy b (drop n m) k roomy (subst (λ p. Ok k ≡ line_answer b p) part_is w.second_answer)

  second_is : two ≡ b ++ drop (length b) (drop n m)
  second_is = w.second_left ∙ ap (line_left b) part_is ∙ left_roomy b (drop n m) roomy

  pub length_of_two : n + k ≡ length (a ++ b)
  length_of_two = ap₂ ◌+◌ first_length second_length ∙ sym (length-append a b)

  pub two_written : put_mid n (128 - n) one two ≡ overwritten (a ++ b) m
  two_written =
      let front : take n one ≡ a = ap (take n) first_is ∙ take_at a (drop n m) n (sym first_length) in
      let back : drop (128 - n) (drop n one) ≡ [] = ap (drop (128 - n)) rest_is ∙ drop_all (128 - n) (drop n m) (let l = length_rest in omega arith) in
      let kept : drop (length b) (drop n m) ≡ drop (length (a ++ b)) m =
      drop-drop (length b) n m ∙ ap (λ j. drop j m) (ap (λ j. j + length b) first_length ∙ sym (length-append a b)) in
      ap₂ ◌++◌ front (ap₂ ◌++◌ second_is back ∙ append-nil _) ∙ ap (λ r. a ++ (b ++ r)) kept
      ∙ sym (append_assoc a b (drop (length (a ++ b)) m))
