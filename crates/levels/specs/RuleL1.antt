-- docs/RULES.md, "Level resets (rule L1)"
-- Rule L1 of the bidirectional algorithm (UAX #9), from its text:
-- "On each line, reset the embedding level of the following characters to the paragraph embedding level:
--  1. segment separators, 2. paragraph separators, 3. any sequence of whitespace characters and/or isolate
--  formatting characters (FSI, LRI, RLI, and PDI) preceding a segment separator or paragraph separator, and
--  4. any sequence of whitespace characters and/or isolate formatting characters (FSI, LRI, RLI, and PDI) at
--  the end of the line."
-- Rule X9 removes the embeddings, the overrides, PDF and BN before: the text of L1 does not see them, and passes over them.
use Rattle.std.specs.Prelude.{◌≡◌, ℕ, suc, ◌+◌, ◌<◌, ◌≤◌, Bool, true, false, cond, ◌&&◌, ◌⊎◌, List, [], ◌∷◌, ◌++◌, map, length, take, drop, replicate, Decides, sum, ◌≢◌, slice_index, slice_index_or}
use Rattle.levels.specs.Classes.{Role, separator, space, removed, other, role_of, class_of}

-- what L1 makes of each character of a line, by the raw codes of their classes
abbrev pub roles_of : List ℕ → List Role
roles_of codes = map (λ code. role_of (class_of code)) codes

-- the role of the character at a place of the line
abbrev pub role_at : List Role → ℕ → Role
role_at line k = slice_index_or line k other

-- THE RULE, as a relation

-- a character inside a run: white space, isolate formatting, or one that X9 removed
abbrev pub InRun : List Role → ℕ → Type 0
InRun line k = (role_at line k ≡ space) ⊎ (role_at line k ≡ removed)

-- from the place k on there is nothing but a run, up to a separator or the end of the line
pub record Trailing (line : List Role) (k : ℕ) : Type 0 where
  pub end : ℕ
  pub from : k ≤ end
  pub within : end ≤ length line
  pub ended : (end ≡ length line) ⊎ (role_at line end ≡ separator)
  pub between : (j : ℕ) → k ≤ j → j < end → InRun line j

-- L1 for a character that X9 keeps: it is a separator, or white space or isolate formatting in a run before a separator or the end
abbrev pub ResetByL1 : List Role → ℕ → Type 0
ResetByL1 line k = (role_at line k ≡ separator) ⊎ ((role_at line k ≡ space) × Trailing line (suc k))

-- a run stands open before the character k: one has begun at white space or isolate formatting, and nothing but a run came since
pub record Begun (line : List Role) (k : ℕ) : Type 0 where
  pub start : ℕ
  pub before : start < k
  pub begins : role_at line start ≡ space
  pub between : (j : ℕ) → start < j → j < k → InRun line j

-- or nothing but a run came since the start of the line, which counts as open
abbrev pub FromStart : List Role → ℕ → Type 0
FromStart line k = (j : ℕ) → j < k → InRun line j

-- A character that X9 removed, of which L1 does not speak: it is reset where it lies between the start of an open run and its end.
abbrev pub ResetWithRun : List Role → ℕ → Type 0
ResetWithRun line k = (FromStart line k ⊎ Begun line k) × Trailing line (suc k)

-- THE SAME, as it is worked out from the start of the line to its end

-- whether a run that goes on here comes to a separator or the end of the line
abbrev pub runs_out : List Role → Bool
runs_out [] = true
runs_out (separator ∷ rest) = true
runs_out (space ∷ rest) = runs_out rest
runs_out (removed ∷ rest) = runs_out rest
runs_out (other ∷ rest) = false

-- which characters are reset, where a run stands open at the start or not
abbrev pub resets : Bool → List Role → List Bool
resets run [] = []
resets run (separator ∷ rest) = true ∷ resets false rest
resets run (space ∷ rest) = runs_out rest ∷ resets true rest
resets run (removed ∷ rest) = (run && runs_out rest) ∷ resets run rest
resets run (other ∷ rest) = false ∷ resets false rest

-- whether the character k of a line is reset: the start of the line counts as an open run
abbrev pub reset_at : List Role → ℕ → Bool
reset_at line k = slice_index_or (resets true line) k false

-- the levels of all bytes, those of each reset character the paragraph's and the others as before
abbrev pub releveled : ℕ → List Bool → List ℕ → List ℕ → List ℕ
releveled level [] lengths levels = levels
releveled level (reset ∷ resets) [] levels = levels
releveled level (reset ∷ resets) (n ∷ lengths) levels =
    cond reset (replicate n level) (take n levels) ++ releveled level resets lengths (drop n levels)

-- the levels after L1
abbrev pub adjusted : ℕ → List ℕ → List ℕ → List ℕ → List ℕ
adjusted level codes lengths levels = releveled level (resets true (roles_of codes)) lengths levels

-- WHAT THE LEVELS AFTER L1 ARE, byte by byte

-- the byte b belongs to the character k
pub record ByteOf (lengths : List ℕ) (k b : ℕ) : Type 0 where
  pub from : sum (take k lengths) ≤ b
  pub to : b < sum (take k lengths) + slice_index lengths k

-- the levels of the bytes after the rule: as many as before, those of a reset character at the paragraph's level, each other as it was
pub record Leveled (level : ℕ) (line : List Role) (lengths old new : List ℕ) : Type 0 where
  -- a character that X9 keeps is reset exactly where the text of L1 says so
  pub kept : (k : ℕ) → k < length line → (role_at line k ≢ removed) → Decides (reset_at line k) (ResetByL1 line k)
  -- one that X9 removed exactly where it lies in an open run that is reset
  pub gone : (k : ℕ) → k < length line → role_at line k ≡ removed → Decides (reset_at line k) (ResetWithRun line k)
  -- each byte of a character that is reset has the paragraph's level, and each other byte keeps its own
  pub bytes : (k b : ℕ) → k < length line → ByteOf lengths k b → slice_index new b ≡ cond (reset_at line k) level (slice_index old b)
  -- so the bytes of a character agree if they did before
  pub agree : (k b d : ℕ) → k < length line → ByteOf lengths k b → ByteOf lengths k d → slice_index old b ≡ slice_index old d → slice_index new b ≡ slice_index new d
  -- each byte belongs to a character
  pub covered : (b : ℕ) → b < length old → (k : ℕ) × (k < length line) × ByteOf lengths k b
  pub long : length new ≡ length old
