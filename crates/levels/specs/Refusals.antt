-- docs/RULES.md, "Level resets (rule L1)"
-- When the tables of a line are refused, and what the refusal says: the first of these that holds decides.
use Rattle.std.specs.Prelude.{◌≡◌, ℕ, ◌<◌, ◌≤◌, Bool, true, false, cond, ◌&&◌, ◌⊎◌, List, [], ◌∷◌, length, is_some, Some, None, Ok, Err, sum, Option, Result, ◌==◌, ◌≢◌, nat_le, not, slice_index}
use Rattle.std.specs.List.{position}
use Rattle.refusals.specs.declared.fault.Fault.{Fault}
use Rattle.levels.specs.declared.fault.ClassCause.{ClassCause}
use Rattle.levels.specs.declared.fault.ClassCause.TheVariants.{Unfit}
use Rattle.levels.specs.declared.fault.ClassTable.{ClassTable}
use Rattle.levels.specs.declared.fault.ClassTable.TheVariants.{Classes, Lengths, Levels, ParagraphLevel}
use Rattle.levels.specs.Classes.{from_code}

-- a refusal at a row of a table
abbrev pub fault_at : ℕ → ClassTable → Fault ClassCause ClassTable
fault_at row table = record { cause = Unfit; row = row; table = table }

-- a character has 1 to 4 bytes
abbrev pub one_to_four : List ℕ → Bool
one_to_four [] = true
one_to_four (n ∷ lengths) = (nat_le 1 n && nat_le n 4) && one_to_four lengths

-- how many bytes the characters have, if each has 1 to 4 and together they do not pass 65,535
abbrev pub byte_count : List ℕ → Option ℕ
byte_count lengths = cond (one_to_four lengths && nat_le (sum lengths) 65535) (Some (sum lengths)) None

-- a code is that of a class: 0 to 22
abbrev pub known : ℕ → Bool
known code = is_some (from_code code)

-- a level is 126 at most
abbrev pub lawful : ℕ → Bool
lawful level = nat_le level 126

-- the refusal of the row that is wrong, if one is, and else what comes after
abbrev pub refused_at : Option ℕ → ClassTable → Result (Unit {0}) (Fault ClassCause ClassTable) → Result (Unit {0}) (Fault ClassCause ClassTable)
refused_at (Some row) table after = Err (fault_at row table)
refused_at None table after = after

-- the first row with an unknown class, then the first byte with a level above 126
abbrev pub rows_verdict : List ℕ → List ℕ → Result (Unit {0}) (Fault ClassCause ClassTable)
rows_verdict classes levels =
    refused_at (position (λ code. not (known code)) classes) Classes (refused_at (position (λ level. not (lawful level)) levels) Levels (Ok tt))

-- A byte count that is not the number of levels is about the levels; a paragraph has level 0 or 1.
abbrev pub count_verdict : Option ℕ → ℕ → List ℕ → List ℕ → Result (Unit {0}) (Fault ClassCause ClassTable)
count_verdict None paragraph classes levels = Err (fault_at 0 Lengths)
count_verdict (Some count) paragraph classes levels =
    cond (count == length levels) (
    cond (nat_le paragraph 1) (rows_verdict classes levels) (
    Err (fault_at 0 ParagraphLevel))) (
    Err (fault_at 0 Levels))

-- the verdict on all tables of a line
abbrev pub verdict : ℕ → List ℕ → List ℕ → List ℕ → Result (Unit {0}) (Fault ClassCause ClassTable)
verdict paragraph classes lengths levels =
    cond (length classes == length lengths) (count_verdict (byte_count lengths) paragraph classes levels) (
    Err (fault_at 0 Lengths))

-- WHAT THE VERDICT MEANS

-- tables that are granted: a known class and 1 to 4 bytes for each character, a level up to 126 for each byte, and
-- no more than 65,535 of these in a paragraph of level 0 or 1
pub record Fit (paragraph : ℕ) (classes lengths levels : List ℕ) : Type 0 where
  pub same : length classes ≡ length lengths
  pub filled : sum lengths ≡ length levels
  pub short : length levels ≤ 65535
  pub direction : paragraph ≤ 1
  pub sized : (k : ℕ) → k < length lengths → (1 ≤ slice_index lengths k) × (slice_index lengths k ≤ 4)
  pub classed : (k : ℕ) → k < length classes → known (slice_index classes k) ≡ true
  pub leveled : (b : ℕ) → b < length levels → slice_index levels b ≤ 126

-- the first row of a table that fails a test
pub record First (test : ℕ → Bool) (rows : List ℕ) (row : ℕ) : Type 0 where
  pub inside : row < length rows
  pub fails : test (slice_index rows row) ≡ false
  pub before : (k : ℕ) → k < row → test (slice_index rows k) ≡ true

-- a character without bytes or with more than 4
pub record Missized (lengths : List ℕ) : Type 0 where
  pub row : ℕ
  pub inside : row < length lengths
  pub wrong : (slice_index lengths row ≡ 0) ⊎ (4 < slice_index lengths row)

-- the grounds of a refusal, by the table and the row that it names
abbrev pub Grounds : ClassTable → ℕ → ℕ → List ℕ → List ℕ → List ℕ → Type 0
Grounds Lengths row paragraph classes lengths levels =
    (row ≡ 0) × ((length classes ≢ length lengths) ⊎ (Missized lengths ⊎ (65535 < sum lengths)))
Grounds ParagraphLevel row paragraph classes lengths levels = (row ≡ 0) × (1 < paragraph)
Grounds Classes row paragraph classes lengths levels = First known classes row
Grounds Levels row paragraph classes lengths levels =
    ((row ≡ 0) × (sum lengths ≢ length levels)) ⊎ First lawful levels row

-- what an answer says of the tables
abbrev pub Judged : ℕ → List ℕ → List ℕ → List ℕ → Result (Unit {0}) (Fault ClassCause ClassTable) → Type 0
Judged paragraph classes lengths levels (Ok done) = Fit paragraph classes lengths levels
Judged paragraph classes lengths levels (Err fault) = Grounds fault.table fault.row paragraph classes lengths levels
