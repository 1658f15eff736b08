-- Which calls on an entry are refused, and why
use Rattle.std.specs.Prelude.{ℕ, ◌+◌, Bool, cond, not, ◌&&◌, length, Some, None, Option, ◌==◌, nat_lt}
use Rattle.entry.specs.Faults.{CallFault, fault}
use Rattle.entry.specs.declared.fault.CallCause.TheVariants as cause
use Rattle.entry.specs.declared.fault.CallTable.TheVariants as table
use Rattle.entry.specs.declared.progress.Progress.{Progress}
use Rattle.paragraph.specs.Reading.{ahead, exists}
use Rattle.paragraph.specs.Text.{Text}

-- the lent paragraph is no stranger: the entry's position exists in it, and has as many glyphs ahead as the entry has left
abbrev pub known : Text → Progress → Bool
known t q = exists t q.position && length (ahead t q.position) == q.tally.left

-- The first fault of a call that is to lay a line, in the order of the causes: `lawful` says whether the width given, if any, is lawful, `ranges` and
-- `order` are how long the lent lists are
abbrev pub line_verdict : Text → Progress → Bool → ℕ → ℕ → Option CallFault
line_verdict t q lawful ranges order =
    cond q.closed (Some (fault cause.Closed 0 table.Entry))
    (cond (not (known t q)) (Some (fault cause.Stranger 0 table.Paragraph))
    (cond (not lawful) (Some (fault cause.UnlawfulWidth 0 table.Width))
    (cond (nat_lt ranges (length t.spans + 2)) (Some (fault cause.ListTooShort ranges table.Ranges))
    (cond (nat_lt order (length t.spans + 2)) (Some (fault cause.ListTooShort order table.Order))
    None))))

-- a take is refused last if there is nothing left
abbrev pub or_nothing_left : Progress → Option CallFault → Option CallFault
or_nothing_left q (Some f) = Some f
or_nothing_left q None = cond (q.tally.left == 0) (Some (fault cause.NothingLeft 0 table.Entry)) None

abbrev pub take_verdict : Text → Progress → Bool → ℕ → ℕ → Option CallFault
take_verdict t q lawful ranges order = or_nothing_left q (line_verdict t q lawful ranges order)
