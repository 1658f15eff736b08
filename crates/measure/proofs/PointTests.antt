-- The constant of points
use Rattle.std.proofs.Common.{◌≡◌, refl}
use lib.Ieee.{binary32, of_bits, of_fields, odd}
use lib.Count.{count_trailing_zeros}
use Rattle.measure.specs.Points.{float_2}

pub bits_2 : of_bits binary32 1073741824 ≡ float_2
unfolding of_bits of_fields odd count_trailing_zeros
bits_2 = refl
