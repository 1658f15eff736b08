-- docs/RULES.md, "The paragraph"
-- Tables that a paragraph may have, and what the first fault of others is
use Rattle.std.specs.Prelude.{◌≡◌, ℕ, ◌+◌, ◌<◌, ◌≤◌, Bool, true, false, ◌⊎◌, List, [], ◌∷◌, ◌++◌, length, Ok, Err, Result}
use Rattle.std.specs.List.{AllByRecursion}
use Rattle.glyph.specs.declared.glyph.Glyph.{Glyph}
use Rattle.glyph.specs.Ranges.{glyph_in}
use Rattle.paragraph.specs.declared.fault.TableCause.{TableCause}
use Rattle.paragraph.specs.declared.fault.TableCause.TheVariants.{TooManyRows, GlyphField, WordPair, SpanRow, Ellipsis}
use Rattle.paragraph.specs.Faults.{TableFault}
use Rattle.paragraph.specs.declared.fault.TableName.{TableName}
use Rattle.paragraph.specs.declared.fault.TableName.TheVariants as table
use Rattle.paragraph.specs.declared.piece.Piece.{Piece}
use Rattle.paragraph.specs.Pieces.{word_piece, span_piece}
use Rattle.paragraph.specs.Text.{Text, Sound}

-- each glyph's fields are in range
abbrev pub InRange : List Glyph → Type 0
InRange gs = AllByRecursion (λ g. glyph_in g ≡ true) gs

-- the tables are sound, each glyph's fields are in range, and the ellipsis has 1 to 16 glyphs
pub record Lawful (t : Text) (e : List Glyph) : Type 0 where
  pub sound : Sound t
  pub glyphs : InRange t.glyphs
  pub some_ellipsis : 1 ≤ length e
  pub short_ellipsis : length e ≤ 16
  pub ellipsis : InRange e

-- Rows run from one place of the table below to another: each begins where the one before it ended, and its other fields are in range
abbrev pub Run : {X : Type 0} → (X → Piece) → ℕ → List X → ℕ → Type 0
Run piece from [] to = from ≡ to
Run piece from (x ∷ xs) to =
    ((piece x).lawful ≡ true) × ((piece x).offset ≡ from) × Run piece (from + (piece x).len) xs to

-- what is left of a table's rows does not go on at the place at of a table of n rows: no row is left and something of the table is, or the first row left is bad
abbrev pub Stops : {X : Type 0} → (X → Piece) → ℕ → ℕ → List X → Type 0
Stops piece n at [] = at < n
Stops piece n at (x ∷ xs) = (piece x).lawful ≡ true → (piece x).offset ≡ at → at + (piece x).len ≤ n → ⊥

-- the rows before the row run to a place in a table of n rows, and do not go on there
pub record Loose {X : Type 0} (piece : X → Piece) (n : ℕ) (xs : List X) (row : ℕ) : Type 0 where
  pub before : List X
  pub rest : List X
  pub at : ℕ
  pub split : xs ≡ before ++ rest
  pub here : length before ≡ row
  pub run : Run piece 0 before at
  pub within : at ≤ n
  pub stops : Stops piece n at rest

-- the row fails a test, and none before it does
pub record Failing {X : Type 0} (test : X → Bool) (xs : List X) (row : ℕ) : Type 0 where
  pub before : List X
  pub bad : X
  pub after : List X
  pub split : xs ≡ before ++ (bad ∷ after)
  pub here : length before ≡ row
  pub good : AllByRecursion (λ x. test x ≡ true) before
  pub fails : test bad ≡ false

-- at most 16,384 glyphs, 4,096 words and 256 spans
abbrev pub Few : Text → Type 0
Few t = (length t.glyphs ≤ 16384) × (length t.words ≤ 4096) × (length t.spans ≤ 256)

-- the words run without gap or overlap from the first glyph to the end of the glyphs
abbrev pub WordsRun : Text → Type 0
WordsRun t = Run word_piece 0 t.words (length t.glyphs)

-- the spans run so from the first word to the end of the words, each with a level of 126 at most
abbrev pub SpansRun : Text → Type 0
SpansRun t = Run span_piece 0 t.spans (length t.words)

-- what the checks before this one have found good
abbrev pub GoodBefore : TableCause → Text → Type 0
GoodBefore TooManyRows t = Unit {0}
GoodBefore GlyphField t = Few t
GoodBefore WordPair t = Few t × InRange t.glyphs
GoodBefore SpanRow t = Few t × InRange t.glyphs × WordsRun t
GoodBefore Ellipsis t = Few t × InRange t.glyphs × WordsRun t × SpansRun t

-- what this one has found at a row of a table
abbrev pub Found : TableCause → Text → List Glyph → TableName → ℕ → Type 0
Found TooManyRows t e table.Glyphs row = (row ≡ 16384) × (16384 < length t.glyphs)
Found TooManyRows t e table.Words row = (row ≡ 4096) × (length t.glyphs ≤ 16384) × (4096 < length t.words)
Found TooManyRows t e table.Spans row =
    (row ≡ 256) × (length t.glyphs ≤ 16384) × (length t.words ≤ 4096) × (256 < length t.spans)
Found TooManyRows t e table.Ellipsis row = ⊥
Found GlyphField t e name row = (name ≡ table.Glyphs) × Failing glyph_in t.glyphs row
Found WordPair t e name row = (name ≡ table.Words) × Loose word_piece (length t.glyphs) t.words row
Found SpanRow t e name row = (name ≡ table.Spans) × Loose span_piece (length t.words) t.spans row
Found Ellipsis t e name row =
    (name ≡ table.Ellipsis)
    × (((row ≡ 0) × (length e ≡ 0)) ⊎ (((row ≡ 16) × (16 < length e)) ⊎ ((length e ≤ 16) × Failing glyph_in e row)))

-- the first fault of tables
pub record FirstFault (t : Text) (e : List Glyph) (f : TableFault) : Type 0 where
  pub before : GoodBefore f.cause t
  pub found : Found f.cause t e f.table f.row

-- granted if and only if the tables are lawful
abbrev pub GrantedExactly : Text → List Glyph → Result (Unit {0}) TableFault → Type 0
GrantedExactly t e r = (r ≡ Ok tt → Lawful t e) × (Lawful t e → r ≡ Ok tt)

-- refused with a fault if and only if it is the first
abbrev pub RefusedExactly : Text → List Glyph → Result (Unit {0}) TableFault → Type 0
RefusedExactly t e r = (f : TableFault) → (r ≡ Err f → FirstFault t e f) × (FirstFault t e f → r ≡ Err f)
