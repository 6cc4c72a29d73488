-- How refusals are told.
--
--   placed n p   the refusal with the number n at the place p
--   unplaced n   the refusal with the number n, which has no place
use Rattle.std.specs.Prelude.{ℕ, Some, None}
use Rattle.refusal.specs.declared.Refusal.{Refusal}

abbrev pub placed : ℕ → ℕ → Refusal
placed n p = record { number = record { 0 = n }; place = Some (record { 0 = p }) }

abbrev pub unplaced : ℕ → Refusal
unplaced n = record { number = record { 0 = n }; place = None }
