-- The float constants of the code, and the tests on them
use Rattle.std.proofs.Common.{◌≡◌, Bool, ◌&&◌, sym, refl, ap, ◌∙◌}
use lib.Ieee.{Float, binary32, of_bits, of_fields, odd, le}
use lib.Count.{count_trailing_zeros}
use Rattle.glyph.specs.Ranges.{float_0, float_64, float_4096, from_zero_to}

pub bits_0 : of_bits binary32 0 ≡ float_0
unfolding of_bits of_fields odd count_trailing_zeros
bits_0 = refl

pub bits_64 : of_bits binary32 1115684864 ≡ float_64
unfolding of_bits of_fields odd count_trailing_zeros
bits_64 = refl

pub bits_4096 : of_bits binary32 1166016512 ≡ float_4096
unfolding of_bits of_fields odd count_trailing_zeros
bits_4096 = refl

-- the range by the answer of its first test
pub by_low_test : (most x : Float) (b : Bool) → le (of_bits binary32 0) x ≡ b → (b && le x most) ≡ from_zero_to most x
by_low_test most x b p = ap (λ t. t && le x most) (sym p ∙ ap (λ z. le z x) bits_0)
