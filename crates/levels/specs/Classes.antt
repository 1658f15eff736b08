-- The bidi classes: the raw code and the name of each, the class of a raw code, and what rule L1 makes of each.
use Rattle.std.specs.Prelude.{ℕ, cond, List, Some, None, codes, Option, ◌==◌}
use Rattle.std.specs.Option.{unwrap_or}
use Rattle.levels.specs.declared.classes.BidiClass.{BidiClass}
use Rattle.levels.specs.declared.classes.BidiClass.TheVariants.{L, R, AL, EN, ES, ET, AN, CS, NSM, BN, B, S, WS, ON, LRE, LRO, RLE, RLO, PDF, LRI, RLI, FSI, PDI}

-- the raw code of each class, 0 to 22 in the order in which they are declared
abbrev pub code_of : BidiClass → ℕ
code_of L = 0
code_of R = 1
code_of AL = 2
code_of EN = 3
code_of ES = 4
code_of ET = 5
code_of AN = 6
code_of CS = 7
code_of NSM = 8
code_of BN = 9
code_of B = 10
code_of S = 11
code_of WS = 12
code_of ON = 13
code_of LRE = 14
code_of LRO = 15
code_of RLE = 16
code_of RLO = 17
code_of PDF = 18
code_of LRI = 19
code_of RLI = 20
code_of FSI = 21
code_of PDI = 22

-- the name of each class in UAX #9
abbrev pub name_of : BidiClass → List ℕ
name_of L = codes "L"
name_of R = codes "R"
name_of AL = codes "AL"
name_of EN = codes "EN"
name_of ES = codes "ES"
name_of ET = codes "ET"
name_of AN = codes "AN"
name_of CS = codes "CS"
name_of NSM = codes "NSM"
name_of BN = codes "BN"
name_of B = codes "B"
name_of S = codes "S"
name_of WS = codes "WS"
name_of ON = codes "ON"
name_of LRE = codes "LRE"
name_of LRO = codes "LRO"
name_of RLE = codes "RLE"
name_of RLO = codes "RLO"
name_of PDF = codes "PDF"
name_of LRI = codes "LRI"
name_of RLI = codes "RLI"
name_of FSI = codes "FSI"
name_of PDI = codes "PDI"

-- the class of a raw code, and none above 22
abbrev pub from_code : ℕ → Option BidiClass
from_code n =
    cond (n == 0) (Some L) (
    cond (n == 1) (Some R) (
    cond (n == 2) (Some AL) (
    cond (n == 3) (Some EN) (
    cond (n == 4) (Some ES) (
    cond (n == 5) (Some ET) (
    cond (n == 6) (Some AN) (
    cond (n == 7) (Some CS) (
    cond (n == 8) (Some NSM) (
    cond (n == 9) (Some BN) (
    cond (n == 10) (Some B) (
    cond (n == 11) (Some S) (
    cond (n == 12) (Some WS) (
    cond (n == 13) (Some ON) (
    cond (n == 14) (Some LRE) (
    cond (n == 15) (Some LRO) (
    cond (n == 16) (Some RLE) (
    cond (n == 17) (Some RLO) (
    cond (n == 18) (Some PDF) (
    cond (n == 19) (Some LRI) (
    cond (n == 20) (Some RLI) (
    cond (n == 21) (Some FSI) (
    cond (n == 22) (Some PDI) (
    None)))))))))))))))))))))))

-- the class of a raw code that is known; any other code is refused before a class is asked of it
abbrev pub class_of : ℕ → BidiClass
class_of n = unwrap_or (from_code n) ON

-- what rule L1 makes of a character: a segment or paragraph separator, white space or isolate formatting, one that rule X9
-- removed (embeddings, overrides, PDF, BN), or any other
pub data Role : Type 0 where
  separator : Role
  space : Role
  removed : Role
  other : Role

abbrev pub role_of : BidiClass → Role
role_of L = other
role_of R = other
role_of AL = other
role_of EN = other
role_of ES = other
role_of ET = other
role_of AN = other
role_of CS = other
role_of NSM = other
role_of BN = removed
role_of B = separator
role_of S = separator
role_of WS = space
role_of ON = other
role_of LRE = removed
role_of LRO = removed
role_of RLE = removed
role_of RLO = removed
role_of PDF = removed
role_of LRI = space
role_of RLI = space
role_of FSI = space
role_of PDI = space
