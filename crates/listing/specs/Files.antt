-- The words of a file, and what a file is found to be.
--
--   taken bs          the bytes of a file that are read: the first 4,876, and nothing past them
--   word_at bs i      word i: the four bytes from byte 4 i up, the highest first
--   file_words bs     the whole words of the bytes that are read
--   whole_words bs    how many whole words these bytes hold
--   is_whole bs       they hold nothing besides
--   read_answer bs    the answer of the call that reads words: how many; or, where the bytes end within a word, that fault
--   read_left bs m    what a memory that held m then holds: the words, and after them what it held; all as it was at a fault
--   file_verdict bs   what a file of these bytes is: refused where they end within a word, else what the check says of its words
use Rattle.std.specs.Prelude.{ℕ, ◌+◌, ◌*◌, ◌/◌, ◌%◌, Bool, cond, List, ◌++◌, map, length, take, drop, Ok, Err, Result, ◌==◌, slice_index}
use Rattle.std.specs.List.{range_with_len}
use Rattle.listing.specs.declared.counts.Counts.{Counts}
use Rattle.listing.specs.declared.fault.Fault.{Fault}
use Rattle.listing.specs.declared.fault.Fault.TheVariants.{PartialWord}
use Rattle.listing.specs.Faults.{at, verdict}

abbrev pub taken : List ℕ → List ℕ
taken bs = take 4876 bs

abbrev pub word_at : List ℕ → ℕ → ℕ
word_at bs i = slice_index bs (4 * i) * 16777216 + slice_index bs (4 * i + 1) * 65536 + slice_index bs (4 * i + 2) * 256 + slice_index bs (4 * i + 3)

abbrev pub whole_words : List ℕ → ℕ
whole_words bs = length (taken bs) / 4

abbrev pub is_whole : List ℕ → Bool
is_whole bs = length (taken bs) % 4 == 0

unfoldable pub file_words : List ℕ → List ℕ
file_words bs = map (word_at bs) (range_with_len 0 (whole_words bs))

abbrev pub read_answer : List ℕ → Result ℕ Fault
read_answer bs = cond (is_whole bs) (Ok (whole_words bs)) (Err (PartialWord (at (whole_words bs))))

abbrev pub read_left : List ℕ → List ℕ → List ℕ
read_left bs m = cond (is_whole bs) (file_words bs ++ drop (whole_words bs) m) m

unfoldable pub file_verdict : List ℕ → Result Counts Fault
file_verdict bs = cond (is_whole bs) (verdict (file_words bs)) (Err (PartialWord (at (whole_words bs))))
