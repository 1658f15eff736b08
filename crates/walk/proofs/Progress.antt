-- How far a walk has come
use Rattle.std.proofs.Common.{◌≡◌, ℕ, ◌+◌, ◌-◌, ◌*◌, ◌≤◌, Bool, false, List, ◌++◌, length, drop}
use Rattle.measure.specs.declared.measure.Measure.{Ghosts}
use Rattle.paragraph.specs.Text.{Text}
use Rattle.paragraph.specs.declared.place.Position.{Position}
use Rattle.paragraph.specs.declared.place.Stretch.{Stretch}
use Rattle.paragraph.specs.declared.span.Span.{Span}
use Rattle.paragraph.specs.Aheads.{text_at}
use Rattle.walk.specs.Inside.{ReachesAll}
use Rattle.walk.specs.Parts.{words_in}
use Rattle.walk.specs.Walk.{Lay, Part, in_span, told, walked, walks}
use Rattle.walk.specs.declared.line.LayoutDirection.{LayoutDirection}
use Rattle.walk.specs.declared.line.Rule.{Rule}
use Rattle.walk.specs.declared.line.VlRange.{VlRange}
use Rattle.walk.specs.declared.line.Walked.{Walked}
use Rattle.walk.specs.declared.places.Places.{Places}
use Rattle.walk.specs.declared.span_ahead.SpanAhead.{SpanAhead}
use Rattle.walk.specs.declared.span_part.SpanPart.{SpanPart}

-- what a walk tells, with its ranges
abbrev pub as_lay : {W : Type 0} → List VlRange → Walked W → Lay W
as_lay rs l = record { ranges = rs; blanks = l.blanks; laid = l.laid; width = l.width; flagged = l.flagged }

-- Before a span, where the n spans from `first` on are still to walk. The list was `before` and is `after`
pub record AtSpan {S W : Type 0} (k : Ghosts S W) (m : S) (t : Text) (p : Position) (rule : Rule W) (way : LayoutDirection) (before after : List VlRange) (line : Walked W) (first n : ℕ) : Type 0 where
  pub ranges : List VlRange
  pub counts : length ranges ≡ line.ranges
  pub goes : walks k m t p rule way (as_lay ranges line) first n ≡ walked k m t p rule way
  pub written : length t.spans - p.span ≤ length before → after ≡ ranges ++ drop line.ranges before
  pub there : first + n ≤ length t.spans
  pub few : line.ranges + n ≤ length t.spans - p.span
  pub blanks : line.blanks + 4096 * n ≤ 1048576
  pub laid : line.laid + 67108864 * n ≤ 17179869184
  pub unflagged : line.flagged ≡ false

-- Before a word of a span of which `a` is ahead, where the words `ws` are still to walk, and then the `count` spans from `first` on. `goal` is what the
-- walk lays of the span
pub record AtWord {S W : Type 0} (k : Ghosts S W) (m : S) (t : Text) (p : Position) (rule : Rule W) (T : W) (sp : Span) (a : Stretch) (up : Bool) (first count : ℕ) (goal : Part W) (blanks_end laid_end : ℕ) (part : SpanPart W) (ws : Places) : Type 0 where
  pub as_up : ws.up ≡ up
  pub reaches : ReachesAll a ws
  pub goes : in_span k m t p rule sp a up first count T part.width part.blanks part.laid ws.first ws.count ≡ goal
  pub blanks : part.blanks + ws.count ≤ blanks_end
  pub laid : part.laid + 16384 * ws.count ≤ laid_end
  pub stretch_is : part.stretch ≡ a
  pub unflagged : part.flagged ≡ false

-- what the walk lays of a span, where `line` is what it laid before
abbrev pub all_of : {S W : Type 0} → Ghosts S W → S → Rule W → SpanAhead → Bool → Walked W → Places → Part W
all_of k m rule own up line spans =
    in_span k m (text_at own.ahead) own.ahead.position rule own.span own.stretch up spans.first spans.count line.width (k.nil_of m) line.blanks line.laid own.stretch.start.word (words_in own.stretch)

-- the same, for what the code holds of a span
abbrev pub AtRest : {S W : Type 0} → Ghosts S W → S → Rule W → SpanAhead → Bool → Walked W → Places → SpanPart W → Places → Type 0
AtRest k m rule own up line spans part ws =
    AtWord k m (text_at own.ahead) own.ahead.position rule line.width own.span own.stretch up spans.first spans.count (all_of k m rule own up line spans)
    (line.blanks + words_in own.stretch) (line.laid + 16384 * words_in own.stretch) part ws

-- After the walk
pub record WalkedAll {S W : Type 0} (k : Ghosts S W) (m : S) (t : Text) (p : Position) (rule : Rule W) (way : LayoutDirection) (before after : List VlRange) (line : Walked W) : Type 0 where
  pub tells : line ≡ told (walked k m t p rule way)
  pub few : line.ranges ≤ length t.spans - p.span
  pub written : length t.spans - p.span ≤ length before → after ≡ (walked k m t p rule way).ranges ++ drop line.ranges before
