-- How a granted call continues a run, whatever came before it
use Rattle.std.specs.Prelude.{◌≡◌, ℕ, ◌+◌, ◌<◌, true, false, List, ◌++◌, length}
use Rattle.entry.specs.Written.{InVisualOrder}
use Rattle.entry.specs.declared.progress.Progress.{Progress}
use Rattle.entry.specs.declared.progress.Tally.{Tally}
use Rattle.layout_laws.specs.Laws.{EachOnce}
use Rattle.paragraph.specs.Reading.{ahead, exists}
use Rattle.paragraph.specs.Text.{Text}
use Rattle.walk.specs.declared.line.VlRange.{VlRange}
use Rattle.walk_laws.specs.Shown.{shown}

-- how many glyphs an entry speaks of
abbrev pub whole_count : Tally → ℕ
whole_count n = n.laid + n.hidden + n.left

-- A take whose line has the ranges `rs`, seen in the order `os`: the line shows a glyph or more, just those that come next in reading order, and what
-- follows them is ahead then. The tally has one line more, the glyphs of that line, and what is ahead now
pub record Takes (t : Text) (before after : Progress) (rs : List VlRange) (os : List ℕ) : Type 0 where
  pub goes_on : ahead t before.position ≡ shown t rs ++ ahead t after.position
  pub stands : exists t after.position ≡ true
  pub some_shown : 0 < length (shown t rs)
  pub each_once : EachOnce t (shown t rs)
  pub lines_are : after.tally.lines ≡ before.tally.lines + 1
  pub laid_is : after.tally.laid ≡ before.tally.laid + length (shown t rs)
  pub hidden_is : after.tally.hidden ≡ before.tally.hidden
  pub left_is : after.tally.left ≡ length (ahead t after.position)
  pub none_lost : whole_count after.tally ≡ whole_count before.tally
  pub still_open : after.closed ≡ false
  pub in_order : InVisualOrder rs os

-- A close: what is ahead is what its line shows before the ellipsis, what it hides, and what it shows behind the ellipsis, and is accounted for so
pub record Closes (t : Text) (before after : Progress) (rs : List VlRange) (os : List ℕ) : Type 0 where
  pub front : List ℕ
  pub hides : List ℕ
  pub back : List ℕ
  pub parted : ahead t before.position ≡ front ++ (hides ++ back)
  pub shows : shown t rs ≡ front ++ back
  pub each_once : EachOnce t (shown t rs)
  pub lines_are : after.tally.lines ≡ before.tally.lines + 1
  pub laid_is : after.tally.laid ≡ before.tally.laid + length (shown t rs)
  pub hidden_is : after.tally.hidden ≡ before.tally.hidden + length hides
  pub left_is : after.tally.left ≡ 0
  pub none_lost : whole_count after.tally ≡ whole_count before.tally
  pub is_closed : after.closed ≡ true
  pub in_order : InVisualOrder rs os
