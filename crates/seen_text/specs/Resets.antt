-- The levels of a text's characters after rule L1 of the bidirectional algorithm, which works on a level for each byte
use Rattle.std.specs.Prelude.{◌≡◌, ℕ, ◌<◌, cond, List, map, length, replicate, Ok, Err, vec_items, Result, Vec, slice_index}
use Rattle.std.specs.declared.alloc.Global.{Global}
use Rattle.std.specs.List.{flat_map}
use Rattle.levels.specs.Classes.{code_of}
use Rattle.levels.specs.Refusals.{verdict}
use Rattle.levels.specs.RuleL1.{adjusted, reset_at, roles_of}
use Rattle.levels.specs.declared.fault.ClassCause.{ClassCause}
use Rattle.levels.specs.declared.fault.ClassTable.{ClassTable}
use Rattle.refusals.specs.declared.fault.Fault.{Fault}
use Rattle.visual_order.specs.declared.character.Character.{Character}
use Rattle.seen_text.specs.Classes.{Resets}
use Rattle.seen_text.specs.Seen.{characters_of}

-- how many bytes each character has
abbrev pub byte_lengths : List Character → List ℕ
byte_lengths characters = map (λ c. c.len) characters

-- the level of each byte: that of its character
abbrev pub own_levels : Character → List ℕ
own_levels c = replicate c.len c.level

abbrev pub byte_levels : List Character → List ℕ
byte_levels characters = flat_map own_levels characters

-- the level of each character: that of its first byte
abbrev pub first_levels : List ℕ → List Character → List ℕ
first_levels bytes characters = map (λ c. slice_index bytes c.start) characters

-- whether the rule refuses the line
abbrev pub reset_verdict : Resets → List Character → Result (Unit {0}) (Fault ClassCause ClassTable)
reset_verdict resets characters = verdict resets.paragraph (map code_of resets.classes) (byte_lengths characters) (byte_levels characters)

-- the levels after the rule
abbrev pub reset_levels : Resets → List Character → List ℕ
reset_levels resets characters = first_levels (adjusted resets.paragraph (map code_of resets.classes) (byte_lengths characters) (byte_levels characters)) characters

-- what the resets answer: the levels after the rule, or its refusal
abbrev pub ResetsLevels : Resets → List Character → Result (Vec ℕ Global) (Fault ClassCause ClassTable) → Type 0
ResetsLevels resets characters (Ok levels) = (reset_verdict resets characters ≡ Ok tt) × (vec_items levels ≡ reset_levels resets characters)
ResetsLevels resets characters (Err fault) = reset_verdict resets characters ≡ Err fault

-- What the levels after the rule are, character by character: one that rule L1 resets has the paragraph's level, and each other its own
abbrev pub ResetsByRule : Type 0
ResetsByRule =
    (resets : Resets) (chars levels : List ℕ) → length chars ≡ length levels → length chars ≡ length resets.classes
    → (k : ℕ) → k < length levels → slice_index (reset_levels resets (characters_of 0 chars levels)) k ≡ cond (reset_at (roles_of (map code_of resets.classes)) k) resets.paragraph (slice_index levels k)
