-- Reading the words of a file one by one.
use Rattle.std.proofs.Common.{◌≡◌, ℕ, zero, suc, ◌+◌, ◌*◌, ◌/◌, ◌%◌, ◌<◌, min, Bool, true, false, cond, eqb, List, ◌++◌, length, get_or, take, drop, set, Ok, Err, sym, refl, ap, ◌∙◌, ap₂, zero-add, arith}
use lib.Seq.{paste}
use Rattle.std.specs.Simd.{first_chunks}
use Rattle.std.proofs.lemmas.List.{length-take, take_at, take_min, drop-drop, get_or-take, get_or-drop}
use Rattle.std.proofs.lemmas.List.Edits.{paste_more, paste_all}
use Rattle.std.proofs.lemmas.List.FromFn.{length-map-range_with_len, get_or-map-range_with_len}
use Rattle.std.proofs.lemmas.Bool.{cond-true}
use Rattle.listing.specs.declared.fault.Fault.{Fault}
use Rattle.listing.specs.declared.fault.Fault.TheVariants.{PartialWord}
use Rattle.listing.specs.Faults.{at, verdict}
use Rattle.listing.specs.Files.{taken, word_at, whole_words, is_whole, file_words, read_answer, read_left, file_verdict}

-- how many bytes are read
pub length_taken : (bs : List ℕ) → length (taken bs) ≡ min (length bs) 4876
length_taken bs = let l = length-take 4876 bs in omega arith

pub length-file_words : (bs : List ℕ) → length (file_words bs) ≡ whole_words bs
unfolding file_words
length-file_words bs = length-map-range_with_len (word_at bs) 0 (whole_words bs)

pub get_or-file_words : (bs : List ℕ) (i : ℕ) → i < whole_words bs → get_or (file_words bs) i 0 ≡ word_at bs i
unfolding file_words
get_or-file_words bs i h = get_or-map-range_with_len (word_at bs) 0 (whole_words bs) i i 0 h (zero-add i)

-- one word more
pub words_more : (bs m : List ℕ) (i w : ℕ) → i < whole_words bs → i < length m → w ≡ word_at bs i
    → set (paste m 0 (file_words bs) i) i w ≡ paste m 0 (file_words bs) (i + 1)
words_more bs m i w h room e =
    let long = length-file_words bs in
    let step = paste_more m 0 (file_words bs) i 0 (omega arith) (omega arith) in
    let at : 0 + i ≡ i = zero-add i in
    let is = get_or-file_words bs i h in
    cc

pub words_all : (bs m : List ℕ) (n : ℕ) → n ≡ whole_words bs → is_whole bs ≡ true → paste m 0 (file_words bs) n ≡ read_left bs m
words_all bs m n e whole =
    paste_all m 0 (file_words bs) n (e ∙ sym (length-file_words bs))
    ∙ ap (λ k. file_words bs ++ drop k m) (zero-add n ∙ e) ∙ sym (cond-true (is_whole bs) _ _ whole)

-- ---- the chunks of four bytes of what is read
chunk_at : {X : Type 0} (k : ℕ) (xs : List X) (i : ℕ) (d : List X) → i < k → get_or (first_chunks 4 k xs) i d ≡ take 4 (drop (4 * i) xs)
chunk_at zero xs i d h = absurd (omega arith)
chunk_at (suc k) xs zero d h = refl
chunk_at (suc k) xs (suc i) d h =
    let step : 4 + 4 * i ≡ 4 * suc i = omega arith in
    chunk_at k (drop 4 xs) i d (omega arith) ∙ ap (take 4) (drop-drop (4 * i) 4 xs ∙ ap (λ m. drop m xs) step)

module _ (bs : List ℕ) (n : ℕ) (e : n ≡ min (length bs) 4876) where
  cut : take n bs ≡ taken bs
  cut = let m : n ≡ min 4876 (length bs) = omega arith in ap (λ k. take k bs) m ∙ take_min 4876 bs

  pub words_of : length (take n bs) / 4 ≡ whole_words bs
  words_of = ap (λ xs. length xs / 4) cut

  -- what is left after the chunks
  pub whole_is : (m : ℕ) → m ≡ length (take n bs) % 4 → is_whole bs ≡ eqb m 0
  whole_is m h = ap (λ k. eqb k 0) (ap (λ xs. length xs % 4) (sym cut) ∙ sym h)

  -- a chunk is the four bytes of a word
  pub chunk_word : (i : ℕ) (d : List ℕ) → i < length (take n bs) / 4 → word_at (get_or (first_chunks 4 (length (take n bs) / 4) (take n bs)) i d) 0 ≡ word_at bs i
  chunk_word i d h =
      let none : 4 * i + 0 ≡ 4 * i = omega arith in
      ap (λ c. word_at c 0) (chunk_at (length (take n bs) / 4) (take n bs) i d h) ∙ ap₂ ◌+◌ (ap₂ ◌+◌ (ap₂ ◌+◌ (ap (λ b. b * 16777216) (byte 0 (omega arith) ∙ ap (λ k. get_or bs k 0) none)) (ap (λ b. b * 65536) (byte 1 (omega arith)))) (ap (λ b. b * 256) (byte 2 (omega arith)))) (byte 3 (omega arith))
    where
      byte : (j : ℕ) → j < 4 → get_or (take 4 (drop (4 * i) (take n bs))) j 0 ≡ get_or bs (4 * i + j) 0
      byte j l =
          let long = length-take n bs in
          get_or-take 4 (drop (4 * i) (take n bs)) j 0 l ∙ get_or-drop (4 * i) (take n bs) j 0 ∙ get_or-take n bs (4 * i + j) 0 (omega arith)

-- ---- from the answer to what the file is
pub verdict_from_fault : (bs : List ℕ) (f : Fault) → Err f ≡ read_answer bs → file_verdict bs ≡ Err f
unfolding file_verdict
verdict_from_fault bs f = go (is_whole bs)
  where
    go : (b : Bool) → Err f ≡ cond b (Ok (whole_words bs)) (Err (PartialWord (at (whole_words bs))))
        → cond b (verdict (file_words bs)) (Err (PartialWord (at (whole_words bs)))) ≡ Err f
    go true e = absurd (cc)
    go false e = cc

pub whole_from_answer : (bs : List ℕ) (n : ℕ) → Ok n ≡ read_answer bs → (is_whole bs ≡ true) × (n ≡ whole_words bs)
whole_from_answer bs n e = go (is_whole bs) refl e
  where
    go : (b : Bool) → is_whole bs ≡ b → Ok n ≡ cond b (Ok (whole_words bs)) (Err (PartialWord (at (whole_words bs))))
        → (is_whole bs ≡ true) × (n ≡ whole_words bs)
    go true h x = (h, cc)
    go false h x = absurd (cc)

-- the words that were read stand at the front of the memory
pub front_is_words : (bs m : List ℕ) (n : ℕ) → Ok n ≡ read_answer bs → take n (read_left bs m) ≡ file_words bs
front_is_words bs m n e =
    let p = whole_from_answer bs n e in
    ap (take n) (cond-true (is_whole bs) _ _ p.0)
    ∙ take_at (file_words bs) (drop (whole_words bs) m) n (length-file_words bs ∙ sym p.1)

pub verdict_from_words : (bs : List ℕ) (n : ℕ) → Ok n ≡ read_answer bs → file_verdict bs ≡ verdict (file_words bs)
unfolding file_verdict
verdict_from_words bs n e = cond-true (is_whole bs) _ _ (whole_from_answer bs n e).0
