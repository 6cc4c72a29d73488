-- Bands of signed numbers.
--
--   in_band band x   the number x lies from the band's low end to its high end, both ends in
--   same_band a b    two bands have equal ends
use Rattle.std.specs.Prelude.{Bool, ◌&&◌, ℤ, int_le}
use Rattle.std.specs.Ordering.{int_eq}
use Rattle.rules.specs.declared.band.Band.{Band}

abbrev pub in_band : Band → ℤ → Bool
in_band band x = int_le band.low x && int_le x band.high

abbrev pub same_band : Band → Band → Bool
same_band a b = int_eq a.low b.low && int_eq a.high b.high
