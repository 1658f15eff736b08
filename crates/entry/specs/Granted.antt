-- When a line may be laid
use Rattle.std.specs.Prelude.{◌≡◌, ℕ, ◌+◌, ◌<◌, ◌≤◌, Bool, true, false, cond, length, is_ok, Some, None, Ok, Err, Option, Result}
use Rattle.entry.specs.Faults.{CallFault}
use Rattle.entry.specs.declared.progress.Progress.{Progress}
use Rattle.paragraph.specs.Reading.{ahead, exists}
use Rattle.paragraph.specs.Text.{Text}
use Rattle.paragraph.specs.declared.ahead.Ahead.{Ahead}
use Rattle.paragraph.specs.declared.tables.SoundTables.{SoundTables}

-- a check answers the fault that it found, if any, and else what is ahead of the entry's position in the lent tables
abbrev pub Checks : SoundTables → Progress → Option CallFault → Result Ahead CallFault → Type 0
Checks tables q found (Ok a) = (found ≡ None) × (a.tables ≡ tables) × (a.position ≡ q.position)
Checks tables q found (Err f) = found ≡ Some f

-- a check for one fault
abbrev pub refused_if : Bool → CallFault → Result (Unit {0}) CallFault
refused_if refused f = cond refused (Err f) (Ok tt)

-- The entry is not closed, its position exists in the lent paragraph and has as many glyphs ahead as the entry has left, the width is lawful, and both
-- lists have two places more than the paragraph has spans
pub record MayLay (t : Text) (q : Progress) (lawful : Bool) (ranges order : ℕ) : Type 0 where
  pub still_open : q.closed ≡ false
  pub stands : exists t q.position ≡ true
  pub left_is : length (ahead t q.position) ≡ q.tally.left
  pub is_lawful : lawful ≡ true
  pub ranges_fit : length t.spans + 2 ≤ ranges
  pub order_fit : length t.spans + 2 ≤ order

-- to take a line there must also be a glyph left
abbrev pub MayTake : Text → Progress → Bool → ℕ → ℕ → Type 0
MayTake t q lawful ranges order = MayLay t q lawful ranges order × (0 < q.tally.left)

-- granted if it may be, and only then
abbrev pub GrantedExactly : {X Y : Type 0} → Type 0 → Result X Y → Type 0
GrantedExactly may r = (is_ok r ≡ true → may) × (may → is_ok r ≡ true)
