-- The text of the lines that tell of a file, and what a call that writes one answers and leaves.
--   role_word     the word by which a line names its file
--   refusal       the refusal that a line fault is told as: number 8, with no place
--   number_line   the form of every line: a role's word, a space, a number, a text, a number, a text
--   fault_line    the line that tells a refusal: its number, and its place
--   count_line    the line that tells how many blocks and how many wires a listing has
--   line_answer   what a call answers that is to write a line: its length, or that the buffer has under 64 bytes
--   line_left     what the buffer holds afterwards: the line and then what stood there, or all as it was
use Rattle.std.specs.Prelude.{ℕ, cond, List, [], ◌∷◌, ◌++◌, length, drop, Ok, Err, codes, decimal, Result, nat_lt}
use Rattle.lines.specs.declared.fault.LineFault.{LineFault}
use Rattle.lines.specs.declared.fault.LineFault.TheVariants.{ShortBuffer}
use Rattle.lines.specs.declared.role.Role.{Role}
use Rattle.lines.specs.declared.role.Role.TheVariants.{Pattern, Program}
use Rattle.listing.specs.declared.counts.Counts.{Counts}
use Rattle.refusal.specs.Refusals.{unplaced}
use Rattle.refusal.specs.declared.Refusal.{Refusal}

abbrev pub role_word : Role → List ℕ
role_word Pattern = codes "pattern"
role_word Program = codes "program"

abbrev pub refusal : LineFault → Refusal
refusal ShortBuffer = unplaced 8

unfoldable pub number_line : Role → ℕ → List ℕ → ℕ → List ℕ → List ℕ
number_line role first middle second end = role_word role ++ codes " " ++ decimal first ++ middle ++ decimal second ++ end

-- the last byte is a line feed
unfoldable pub fault_line : Role → ℕ → ℕ → List ℕ
fault_line role number place = number_line role number (codes " at ") place (10 ∷ [])

-- the last byte is a line feed
unfoldable pub count_line : Role → Counts → List ℕ
count_line role counts = number_line role counts.blocks (codes " blocks ") counts.wires (codes " wires" ++ 10 ∷ [])

abbrev pub line_answer : List ℕ → List ℕ → Result ℕ LineFault
line_answer line buffer = cond (nat_lt (length buffer) 64) (Err ShortBuffer) (Ok (length line))

abbrev pub line_left : List ℕ → List ℕ → List ℕ
line_left line buffer = cond (nat_lt (length buffer) 64) buffer (line ++ drop (length line) buffer)
