-- The law of a run of calls on one entry, over the log of what they answered
use Rattle.std.specs.Prelude.{◌≡◌, ℕ, ◌+◌, ◌<◌, ◌≤◌, Bool, true, false, cond, ◌&&◌, List, [], ◌∷◌, ◌++◌, map, length, is_some, count_by, Option, nat_eq, nat_lt, slice_index}
use Rattle.entry.specs.Lines.{taken_line}
use Rattle.entry.specs.Steps.{Answer, laid, refused, counted, answers, begun, lawful_width, step}
use Rattle.entry.specs.declared.call.Call.{Call}
use Rattle.entry.specs.declared.call.Call.TheVariants.{Take, Close, Count}
use Rattle.entry.specs.declared.fault.CallCause.{CallCause}
use Rattle.entry.specs.declared.fault.CallCause.TheVariants as cause
use Rattle.entry.specs.Faults.{CallFault}
use Rattle.entry.specs.declared.fault.CallTable.{CallTable}
use Rattle.entry.specs.declared.fault.CallTable.TheVariants as table
use Rattle.entry.specs.declared.progress.Progress.{Progress}
use Rattle.entry.specs.declared.progress.Tally.{Tally}
use Rattle.glyph.specs.declared.glyph.Glyph.{Glyph}
use Rattle.layout.specs.Lines.{Line, closing_line, line_ranges, line_told}
use Rattle.layout.specs.declared.line.Ellipsize.{Ellipsize}
use Rattle.layout.specs.declared.line.VisualLine.{VisualLine}
use Rattle.layout_laws.specs.Laws.{elides}
use Rattle.measure.specs.Rows.{row_width}
use Rattle.measure.specs.declared.measure.Measure.{Ghosts}
use Rattle.paragraph.specs.Reading.{ahead, exists, reading}
use Rattle.paragraph.specs.Text.{Sound, Text}
use Rattle.runs.specs.Log.{Recorded, ahead_now, closed, hidden_of, holds_ellipsis, lines_of, on_lines, recorded, stands, without}
use Rattle.runs.specs.Standing.{Stands}
use Rattle.visual_order.specs.Laws.{Once, Pairs}
use Rattle.walk.specs.declared.line.VlRange.{VlRange}
use Rattle.walk_laws.specs.Shown.{shown}

-- Glyphs that follow one another in reading order, `read`: the first has the rank `from` or a later one, and each other a later one than that before it
abbrev pub InOrder : List ℕ → ℕ → List ℕ → Type 0
InOrder read from [] = Unit {0}
InOrder read from (i ∷ is) = (rank : ℕ) × (from ≤ rank) × (rank < length read) × (slice_index read rank ≡ i) × InOrder read (rank + 1) is

-- How the glyphs are shared out: each glyph of the paragraph is on a line, hidden or ahead, in one of these alone and there once; and read along the
-- lines, each glyph follows the one before it in reading order
pub record SharedOut {W : Type 0} (t : Text) (log : List (Recorded W)) : Type 0 where
  pub each_once : (i : ℕ) → count_by (nat_eq i) (on_lines t log ++ (hidden_of t log ++ ahead_now t log)) ≡ cond (nat_lt i (length t.glyphs)) 1 0
  pub as_many : length (on_lines t log) + length (hidden_of t log) + length (ahead_now t log) ≡ length t.glyphs
  pub in_order : InOrder (reading t) 0 (on_lines t log)

-- A tally counts the lines that were granted, the glyphs on them, the hidden glyphs and those ahead now, and the last three add up to the paragraph's
pub record Counts {W : Type 0} (t : Text) (past : List (Recorded W)) (n : Tally) : Type 0 where
  pub lines_are : n.lines ≡ lines_of past
  pub laid_are : n.laid ≡ length (on_lines t past)
  pub hidden_are : n.hidden ≡ length (hidden_of t past)
  pub left_are : n.left ≡ length (ahead_now t past)
  pub all_counted : n.laid + n.hidden + n.left ≡ length t.glyphs

-- A lent list has fewer places than the paragraph has spans, plus two. The fault has its length as its row; the list of ranges is looked at first
abbrev pub TooShort : ℕ → ℕ → ℕ → ℕ → CallTable → Type 0
TooShort spans ranges order row table.Entry = ⊥
TooShort spans ranges order row table.Paragraph = ⊥
TooShort spans ranges order row table.Width = ⊥
TooShort spans ranges order row table.Ranges = (ranges < spans + 2) × (row ≡ ranges)
TooShort spans ranges order row table.Order = (spans + 2 ≤ ranges) × (order < spans + 2) × (row ≡ order)

-- What is amiss with a call that is to lay a line, after a log. Each cause has its case, in which none before it has: the entry is closed; the width given
-- is not `lawful`; a list is too short; and, of a `take`, no glyph is ahead. The entry's own paragraph is never a stranger
module _ {W : Type 0} (t : Text) (ranges order : ℕ) (past : List (Recorded W)) (take lawful : Bool) where
  abbrev pub CaseOf : CallCause → ℕ → CallTable → Type 0
  CaseOf cause.Closed row about = (closed past ≡ true) × (row ≡ 0) × (about ≡ table.Entry)
  CaseOf cause.Stranger row about = ⊥
  CaseOf cause.UnlawfulWidth row about = (closed past ≡ false) × (lawful ≡ false) × (row ≡ 0) × (about ≡ table.Width)
  CaseOf cause.ListTooShort row about = (closed past ≡ false) × (lawful ≡ true) × TooShort (length t.spans) ranges order row about
  CaseOf cause.NothingLeft row about =
      (closed past ≡ false)
      × (lawful ≡ true)
      × (length t.spans + 2 ≤ ranges)
      × (length t.spans + 2 ≤ order)
      × (take ≡ true)
      × (ahead_now t past ≡ [])
      × (row ≡ 0)
      × (about ≡ table.Entry)

  abbrev pub Amiss : CallFault → Type 0
  Amiss f = CaseOf f.cause f.row f.table

  -- a refusal names what is amiss, and nothing else is
  pub record Refused (f : CallFault) : Type 0 where
    pub amiss : Amiss f
    pub no_other : (g : CallFault) → Amiss g → g ≡ f

-- A line that was granted after a log: nothing was amiss; it is the line `l`, laid from where the entry stands, where just what is ahead by the log is
-- ahead; it tells how many glyphs it has; its visual order has every range once, the ellipsis too, and shows a range before a later one exactly if the
-- lowest level from the one to the other is even
pub record Granted {W : Type 0} (t : Text) (ranges order : ℕ) (past : List (Recorded W)) (take lawful : Bool) (l : Line W) (rs : List VlRange)
    (seen : List ℕ)
    (told : VisualLine W) : Type 0 where
  pub nothing_amiss : (f : CallFault) → Amiss t ranges order past take lawful f → ⊥
  pub there : exists t (stands t past) ≡ true
  pub all_ahead : ahead t (stands t past) ≡ ahead_now t past
  pub ranges_are : rs ≡ line_ranges l
  pub tells : told ≡ line_told t 0 l
  pub counted_glyphs : told.laid ≡ length (shown t rs)
  pub seen_once : Once (map (λ r. r.level) rs) seen
  pub seen_by_level : Pairs (map (λ r. r.level) rs) seen

module _ {S W : Type 0} (k : Ghosts S W) (m : S) (t : Text) (ellipsis : List Glyph) (ranges order : ℕ) where
  -- a width that is not given is lawful
  abbrev pub lawful_given : Option W → Bool
  lawful_given width = lawful_width k m t (row_width k m ellipsis) ranges order width

  -- a line that was taken is the one that the rule of takes defines: it shows one glyph or more, those that come next, and holds no ellipsis
  pub record Taken (past : List (Recorded W)) (width : W) (rs : List VlRange) (seen : List ℕ) (told : VisualLine W) : Type 0 where
    pub granted : Granted t ranges order past true (k.lawful_of m width) (taken_line k m t (stands t past) width) rs seen told
    pub one_or_more : 0 < length (shown t rs)
    pub left : List ℕ
    pub comes_next : ahead_now t past ≡ shown t rs ++ left
    pub no_ellipsis : holds_ellipsis rs ≡ false

  -- A closing line is the one that the mode and the width define. It shows the front and the back of what is ahead, and what it does not show stands
  -- between them; it shows all unless it holds the ellipsis, and holds that only with a mode and a width
  pub record ClosedBy (past : List (Recorded W)) (ellipsize : Ellipsize) (width : Option W) (rs : List VlRange) (seen : List ℕ)
      (told : VisualLine W) : Type 0 where
    pub granted : Granted t ranges order past false (lawful_given width) (closing_line k m t (stands t past) ellipsize width (row_width k m ellipsis)) rs seen told
    pub front : List ℕ
    pub back : List ℕ
    pub shows : shown t rs ≡ front ++ back
    pub hides : ahead_now t past ≡ front ++ (without (shown t rs) (ahead_now t past) ++ back)
    pub all_shown : holds_ellipsis rs ≡ false → shown t rs ≡ ahead_now t past
    pub no_ellipsis : (elides ellipsize && is_some width) ≡ false → holds_ellipsis rs ≡ false

  -- what a call may answer after a log. A take and a close lay a line or are refused, with what is amiss; a tally is never refused
  abbrev pub RightAnswer : List (Recorded W) → Call W → Answer W → Type 0
  RightAnswer past (Take width) (laid rs seen told) = Taken past width rs seen told
  RightAnswer past (Take width) (refused f) = Refused t ranges order past true (k.lawful_of m width) f
  RightAnswer past (Take width) (counted n) = ⊥
  RightAnswer past (Close ellipsize width) (laid rs seen told) = ClosedBy past ellipsize width rs seen told
  RightAnswer past (Close ellipsize width) (refused f) = Refused t ranges order past false (lawful_given width) f
  RightAnswer past (Close ellipsize width) (counted n) = ⊥
  RightAnswer past Count (laid rs seen told) = ⊥
  RightAnswer past Count (refused f) = ⊥
  RightAnswer past Count (counted n) = Counts t past n

  -- each call's answer, and how the glyphs are shared out behind it
  pub record LawfulCall (past : List (Recorded W)) (c : Call W) (a : Answer W) : Type 0 where
    pub right_answer : RightAnswer past c a
    pub shared_out : SharedOut t (recorded c a ∷ past)

-- each call has one answer, and P holds of it after what the log had before
abbrev pub Along : {W : Type 0} → (List (Recorded W) → Call W → Answer W → Type 0) → List (Recorded W) → List (Call W) → List (Answer W) → Type 0
Along P past [] [] = Unit {0}
Along P past [] (a ∷ rest) = ⊥
Along P past (c ∷ calls) [] = ⊥
Along P past (c ∷ calls) (a ∷ rest) = P past c a × Along P (recorded c a ∷ past) calls rest

-- The law of a run: from an empty log on, call by call
abbrev pub LawfulRun : {S W : Type 0} → Ghosts S W → S → Text → List Glyph → ℕ → ℕ → List (Call W) → List (Answer W) → Type 0
LawfulRun k m t ellipsis ranges order calls given = Along (LawfulCall k m t ellipsis ranges order) [] calls given

module _ {S W : Type 0} (k : Ghosts S W) (m : S) where
  -- every run on a newly opened entry obeys it
  abbrev pub EveryRun : Type 0
  EveryRun =
      (t : Text) (ellipsis : List Glyph) (ranges order : ℕ) (calls : List (Call W)) → Sound t →
      LawfulRun k m t ellipsis ranges order calls (answers k m t (row_width k m ellipsis) ranges order (begun t) calls)

  -- So does whoever makes the calls one by one, with other lists at each: where the entry stands where the log tells, the next call is lawful after that
  -- log, and the entry stands then where the longer log tells
  abbrev pub EveryStep : Type 0
  EveryStep =
      (t : Text) (ellipsis : List Glyph) (ranges order : ℕ) (past : List (Recorded W)) (q : Progress) (c : Call W) → Sound t → Stands t past q →
      let o = step k m t (row_width k m ellipsis) ranges order q c in
      LawfulCall k m t ellipsis ranges order past c o.answer × Stands t (recorded c o.answer ∷ past) o.progress
