-- The text of a tag set, tag by tag, and how long it is.
use Rattle.std.proofs.Common.{◌≡◌, ℕ, zero, suc, ◌+◌, ◌*◌, ◌<◌, ◌≤◌, min, true, false, List, [], ◌++◌, length, codes, decimal, sym, refl, ap, ◌∙◌, ⊎_elim, zero-add, add-one, arith, append_assoc, append-nil}
use Rattle.lines.specs.GraphLines.{tag_text, tags_below}
use Rattle.sets.specs.Sets.{has}
use Rattle.lists.proofs.Ranges.{counting_more}
use Rattle.std.proofs.lemmas.Fmt.{decimal_digit, length-decimal-le}
use Rattle.std.proofs.lemmas.List.{flat_map_more, length-append}
use Rattle.std.proofs.lemmas.Bool.{cases_lt, cond_both, cond-false, cond-true}
use Rattle.std.specs.List.{range_with_len, flat_map}

pub length_decimal_digit : (n : ℕ) → n < 10 → length (decimal n) ≡ 1
length_decimal_digit n small = ap length (decimal_digit n small)

pub tag_absent : (s k : ℕ) → has k s ≡ false → tag_text s k ≡ []
unfolding tag_text
tag_absent s k out = cond-false (has k s) _ _ out

pub tag_present : (s k : ℕ) → has k s ≡ true → tag_text s k ≡ codes " " ++ decimal k
unfolding tag_text
tag_present s k inside = cond-true (has k s) _ _ inside

-- one more tag
pub tags_more : (n s : ℕ) → tags_below n s ++ tag_text s n ≡ tags_below (n + 1) s
unfolding tags_below
tags_more n s = flat_map_more (tag_text s) [] (range_with_len 0 n) n ∙ ap (flat_map (tag_text s)) (sym (counting_more 0 n n (zero-add n)))

pub tags_none : (s : ℕ) → tags_below 0 s ≡ []
unfolding tags_below
tags_none s = refl

-- a tag takes two bytes, or from 10 on three
length_number : (k : ℕ) → k < 24 → length (decimal k) + min (k + 1) 10 ≤ 2 + min k 10
length_number k small =
    ⊎_elim (λ (below : k < 10). let one = length_decimal_digit k below in omega arith)
    (λ (above : 10 ≤ k). let two = length-decimal-le 2 k (omega arith) (omega arith) (omega arith) in omega arith)
    (cases_lt k 10)

length_tag : (s k : ℕ) → k < 24 → length (tag_text s k) + min (k + 1) 10 ≤ 3 + min k 10
unfolding tag_text
length_tag s k small =
    let number = length_number k small in
    cond_both (has k s) (codes " " ++ decimal k) [] (λ text. length text + min (k + 1) 10 ≤ 3 + min k 10) (λ e. omega arith) (λ e. omega arith)

pub length_tags : (n s : ℕ) → n ≤ 24 → length (tags_below n s) + min n 10 ≤ 3 * n
length_tags zero s small = omega (arith, ap length (tags_none s))
length_tags (suc n) s small =
    let before = length_tags n s (omega arith) in
    let last = length_tag s n (omega arith) in
    let whole : length (tags_below (suc n) s) ≡ length (tags_below n s) + length (tag_text s n) =
    ap (λ m. length (tags_below m s)) (sym (add-one n)) ∙ ap length (sym (tags_more n s)) ∙ length-append (tags_below n s) (tag_text s n) in
    omega arith

-- a line with the tags below n, and then tag n
module _ (old line : List ℕ) (n s : ℕ) (so_far : line ≡ old ++ tags_below n s) where
  more : {text : List ℕ} → tag_text s n ≡ text → line ++ text ≡ old ++ tags_below (n + 1) s
  more {text} is =
      ap (λ xs. xs ++ text) so_far ∙ append_assoc old (tags_below n s) text ∙ ap (λ xs. old ++ (tags_below n s ++ xs)) (sym is)
      ∙ ap (λ xs. old ++ xs) (tags_more n s)

  pub tag_added : has n s ≡ true → line ++ (codes " " ++ decimal n) ≡ old ++ tags_below (n + 1) s
  tag_added inside = more (tag_present s n inside)

  pub tag_skipped : has n s ≡ false → line ≡ old ++ tags_below (n + 1) s
  tag_skipped outside = sym (append-nil line) ∙ more (tag_absent s n outside)

  pub length_so_far : n ≤ 24 → length line + min n 10 ≤ length old + 3 * n
  length_so_far small =
      let long : length line ≡ length old + length (tags_below n s) = ap length so_far ∙ length-append old (tags_below n s) in
      omega (arith, length_tags n s small)

pub length_tag_number : (k : ℕ) → k < 24 → length (decimal k) ≤ 2
length_tag_number k small = omega (arith, length_number k small)
