-- docs/RULES.md, "The paragraph"
-- Words and spans as rows that name a piece of the table below
use Rattle.std.specs.Prelude.{ℕ, ◌+◌, Bool, true, false, cond, ◌&&◌, List, [], ◌∷◌, Some, None, Option, ◌==◌, nat_le}
use Rattle.paragraph.specs.declared.piece.Piece.{Piece}
use Rattle.paragraph.specs.declared.span.Span.{Span}
use Rattle.paragraph.specs.declared.word.Word.{Word}

-- a word has no other field that could be out of range
abbrev pub word_piece : Word → Piece
word_piece w = record { offset = w.offset; len = w.len; lawful = true }

-- a span's level is 126 at most
abbrev pub span_piece : Span → Piece
span_piece s = record { offset = s.offset; len = s.len; lawful = nat_le s.level 126 }

-- a row goes on at the place at of a table of n rows: it begins there, ends in the table, and its other fields are in range
abbrev pub follows : ℕ → ℕ → Piece → Bool
follows at n p = p.lawful && (p.offset == at && nat_le (at + p.len) n)

-- The first row that does not go on where the one before it ended, and where all do but end short of n, the row after the last.
-- Here of the rows from the row i on, the first of which is to begin at the place at
abbrev pub first_loose : {X : Type 0} → (X → Piece) → ℕ → ℕ → ℕ → List X → Option ℕ
first_loose piece n i at [] = cond (at == n) None (Some i)
first_loose piece n i at (x ∷ xs) =
    elim (follows at n (piece x)) [ true ↦ first_loose piece n (i + 1) (at + (piece x).len) xs | false ↦ Some i ]

-- the first row that fails a test, here of the rows from the row i on
abbrev pub first_failing : {X : Type 0} → (X → Bool) → ℕ → List X → Option ℕ
first_failing test i [] = None
first_failing test i (x ∷ xs) = elim (test x) [ true ↦ first_failing test (i + 1) xs | false ↦ Some i ]
