-- The format of an input: line 1 is a text in UTF-8, line 2 its levels; line 3, which may be left out, asks for level resets
use Rattle.std.specs.Prelude.{◌≡◌, ℕ, ◌<◌, ◌≤◌, ◌⊎◌, List, [], ◌∷◌, ◌++◌, length, IfSome, Some, None, IsUtf8, Option, ◌≢◌, slice_index}
use Rattle.std.specs.Option.{option_map}
use Rattle.std.specs.List.{AllByRecursion}
use Rattle.std.specs.Str.{chars}
use Rattle.seen_text.specs.Classes.{Lawful, Resets, resets_line}
use Rattle.seen_text.specs.Numbers.{spelled}

-- the byte does not occur
abbrev pub Lacks : ℕ → List ℕ → Type 0
Lacks byte bytes = (p : ℕ) → p < length bytes → slice_index bytes p ≢ byte

-- The bytes are these two lines. The line feed behind the second may be left out, but not if this line is empty: it would be missing
pub record TwoLines (bytes first second : List ℕ) : Type 0 where
  pub first_line : Lacks 10 first
  pub second_line : Lacks 10 second
  pub lines : ((0 < length second) × (bytes ≡ first ++ (10 ∷ second))) ⊎ (bytes ≡ first ++ (10 ∷ (second ++ (10 ∷ []))))

-- levels are numbers up to 126
abbrev pub Levels : List ℕ → Type 0
Levels levels = AllByRecursion (λ level. level ≤ 126) levels

-- the bytes are a line and two lines behind its line feed
pub record ThreeLines (bytes first second third : List ℕ) : Type 0 where
  pub rest : List ℕ
  pub first_line : Lacks 10 first
  pub begins : bytes ≡ first ++ (10 ∷ rest)
  pub others : TwoLines rest second third

-- two lines, or three
abbrev pub Lines : List ℕ → List ℕ → List ℕ → Option (List ℕ) → Type 0
Lines bytes first second None = TwoLines bytes first second
Lines bytes first second (Some third) = ThreeLines bytes first second third

-- the lines say this text and these levels, and what the level resets go by, if they are asked for
pub record Says (bytes text levels : List ℕ) (resets : Option Resets) : Type 0 where
  pub utf8 : IsUtf8 text
  pub small : Levels levels
  pub lawful : IfSome resets Lawful
  pub lines : Lines bytes text (spelled levels) (option_map resets_line resets)

-- there is a level for each character, and a class if the level resets are asked for
pub record Counted (text levels : List ℕ) (resets : Option Resets) : Type 0 where
  pub each : length (chars text) ≡ length levels
  pub classed : IfSome resets (λ r. length (chars text) ≡ length r.classes)

-- the bytes ask for this text with these levels, which are to be reset or not
pub record Asks (bytes text levels : List ℕ) (resets : Option Resets) : Type 0 where
  pub says : Says bytes text levels resets
  pub counted : Counted text levels resets

-- what an input asks for, it asks for alone
abbrev pub OneReading : Type 0
OneReading = (bytes text levels other others : List ℕ) (resets more : Option Resets) → Asks bytes text levels resets → Asks bytes other others more → (text ≡ other) × (levels ≡ others) × (resets ≡ more)
