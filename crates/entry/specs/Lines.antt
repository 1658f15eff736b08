-- What granted calls lay, and how far the entry has come then
use Rattle.std.specs.Prelude.{ℕ, ◌+◌, ◌-◌, true, false, List, ◌++◌, map, length, drop}
use Rattle.entry.specs.declared.progress.Progress.{Progress}
use Rattle.layout.specs.Lines.{Line, plain}
use Rattle.measure.specs.declared.measure.Measure.{Ghosts}
use Rattle.paragraph.specs.Text.{Text}
use Rattle.paragraph.specs.declared.place.Position.{Position}
use Rattle.visual_order.specs.VisualOrder.{visual}
use Rattle.walk.specs.Walk.{lay}
use Rattle.walk.specs.declared.line.LayoutDirection.TheVariants.{Forward}
use Rattle.walk.specs.declared.line.Rule.TheVariants.{Taking}
use Rattle.walk.specs.declared.line.VlRange.{VlRange}

-- the line that a take lays: forward by the taking rule, without an ellipsis
abbrev pub taken_line : {S W : Type 0} → Ghosts S W → S → Text → Position → W → Line W
taken_line k m t p width = plain (lay k m t p (Taking width) Forward)

-- a list with something new in its first places, and beyond it what it held
abbrev pub over_written : {X : Type 0} → List X → List X → List X
over_written new held = new ++ drop (length new) held

-- the visual order of a line's ranges
abbrev pub order_of : List VlRange → List ℕ
order_of rs = visual (map (λ r. r.level) rs)

-- after a granted take of n glyphs the entry stands at the position `at`
abbrev pub after_take : Progress → Position → ℕ → Progress
after_take q at n =
    record {
      position = at;
      tally = record { lines = q.tally.lines + 1; laid = q.tally.laid + n; hidden = q.tally.hidden; left = q.tally.left - n };
      closed = false;
    }

-- after a granted close whose line has n glyphs
abbrev pub after_close : Progress → ℕ → Progress
after_close q n =
    record {
      position = q.position;
      tally = record { lines = q.tally.lines + 1; laid = q.tally.laid + n; hidden = q.tally.hidden + (q.tally.left - n); left = 0 };
      closed = true;
    }
