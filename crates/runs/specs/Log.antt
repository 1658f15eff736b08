-- A log of calls on an entry with their answers, and what it tells. All is read off the lines that were granted: a refusal and a tally change nothing
use Rattle.std.specs.Prelude.{ℕ, ◌+◌, Bool, true, false, cond, not, ◌||◌, List, [], ◌∷◌, ◌++◌, length, drop, is_some, count_by, filter, ◌==◌, nat_eq}
use Rattle.entry.specs.Steps.{Answer, laid, refused, counted}
use Rattle.entry.specs.declared.call.Call.{Call}
use Rattle.entry.specs.declared.call.Call.TheVariants.{Take, Close, Count}
use Rattle.paragraph.specs.Before.{position_before}
use Rattle.paragraph.specs.Reading.{begin, reading}
use Rattle.paragraph.specs.Text.{Text}
use Rattle.paragraph.specs.declared.place.Position.{Position}
use Rattle.walk.specs.declared.line.VlRange.{VlRange}
use Rattle.walk_laws.specs.Shown.{shown}

-- a call and what it answered. A log is a list of these, the latest first
pub record Recorded (W : Type 0) : Type 0 where
  pub call : Call W
  pub answer : Answer W

abbrev pub recorded : {W : Type 0} → Call W → Answer W → Recorded W
recorded c a = record { call = c; answer = a }

-- a line was granted
abbrev pub is_line : {W : Type 0} → Answer W → Bool
is_line (laid ranges order line) = true
is_line (refused f) = false
is_line (counted n) = false

-- a close was granted
abbrev pub closes : {W : Type 0} → Call W → Answer W → Bool
closes (Take width) a = false
closes (Close ellipsize width) a = is_line a
closes Count a = false

-- the glyphs of a line that was granted, range by range
abbrev pub glyphs_of : {W : Type 0} → Text → Answer W → List ℕ
glyphs_of t (laid ranges order line) = shown t ranges
glyphs_of t (refused f) = []
glyphs_of t (counted n) = []

-- how many lines were granted
abbrev pub lines_of : {W : Type 0} → List (Recorded W) → ℕ
lines_of [] = 0
lines_of (x ∷ past) = cond (is_line x.answer) (lines_of past + 1) (lines_of past)

-- the glyphs on the lines, line by line
abbrev pub on_lines : {W : Type 0} → Text → List (Recorded W) → List ℕ
on_lines t [] = []
on_lines t (x ∷ past) = cond (is_line x.answer) (on_lines t past ++ glyphs_of t x.answer) (on_lines t past)

-- the entry is closed
abbrev pub closed : {W : Type 0} → List (Recorded W) → Bool
closed [] = false
closed (x ∷ past) = closes x.call x.answer || closed past

-- the glyphs ahead: none once closed, and else all of reading order behind those that are on lines
abbrev pub ahead_now : {W : Type 0} → Text → List (Recorded W) → List ℕ
ahead_now t log = cond (closed log) [] (drop (length (on_lines t log)) (reading t))

-- of some glyphs those that are not among others
abbrev pub without : List ℕ → List ℕ → List ℕ
without others is = filter (λ i. nat_eq (count_by (nat_eq i) others) 0) is

-- the hidden glyphs: those that were ahead at the granted close and are not on its line
abbrev pub hidden_of : {W : Type 0} → Text → List (Recorded W) → List ℕ
hidden_of t [] = []
hidden_of t (x ∷ past) = cond (closes x.call x.answer) (without (glyphs_of t x.answer) (ahead_now t past)) (hidden_of t past)

-- where an entry stands that is not closed: where it began until a line is granted, and from then on just before the next glyph of reading order
abbrev pub stands : {W : Type 0} → Text → List (Recorded W) → Position
stands t log = cond (lines_of log == 0) (begin t) (position_before t (length (on_lines t log)))

-- a line holds the ellipsis: one of its ranges names no span
abbrev pub holds_ellipsis : List VlRange → Bool
holds_ellipsis [] = false
holds_ellipsis (r ∷ rs) = not (is_some r.span) || holds_ellipsis rs
