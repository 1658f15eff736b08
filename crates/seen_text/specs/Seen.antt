-- The characters of a text, and the text as it is seen
use Rattle.std.specs.Prelude.{ℕ, ◌+◌, List, [], ◌∷◌, slice_index}
use Rattle.std.proofs.Math.Utf8.{encode}
use Rattle.std.specs.Char.{len_utf8}
use Rattle.std.specs.List.{flat_map}
use Rattle.visual_order.specs.declared.character.Character.{Character}

-- Characters with their levels, the first of which starts at the byte `start`: each starts where the one before it ends,
-- and is as many bytes long as its code has in UTF-8
abbrev pub characters_of : ℕ → List ℕ → List ℕ → List Character
characters_of start [] levels = []
characters_of start (c ∷ chars) [] = []
characters_of start (c ∷ chars) (level ∷ levels) = record { start = start; len = len_utf8 c; level = level } ∷ characters_of (start + len_utf8 c) chars levels

abbrev pub level_of : Character → ℕ
level_of c = c.level

-- The text as seen: the bytes of its characters, in the given order
abbrev pub seen_bytes : List ℕ → List ℕ → List ℕ
seen_bytes chars order = flat_map (λ i. encode (slice_index chars i)) order
