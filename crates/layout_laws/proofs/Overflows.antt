-- By the rule that nothing overflows no walk is flagged
use Rattle.std.proofs.Common.{◌≡◌, ℕ, false, sym, refl, ◌∙◌}
use mathlib.Core.Bool.{false≢true}
use Rattle.measure.specs.declared.measure.Measure.{Ghosts}
use Rattle.paragraph.specs.Text.{Text, span_at}
use Rattle.paragraph.specs.declared.place.Position.{Position}
use Rattle.walk.specs.Parts.{forward, goes_up, later, next, words_in}
use Rattle.walk.specs.Walk.{Lay, lay, nothing, part_of}
use Rattle.walk.specs.Widths.{ahead_of}
use Rattle.walk.specs.declared.line.LayoutDirection.{LayoutDirection}
use Rattle.walk.specs.declared.line.Rule.TheVariants.{Never}
use Rattle.walk_laws.proofs.Runs.{in_span_by, walks_by}

module _ {S W : Type 0} (k : Ghosts S W) (m : S) (t : Text) (p : Position) (way : LayoutDirection) where
  never_part : (l : Lay W) (s first count : ℕ) → (part_of k m t p Never way l s first count).flagged ≡ false
  never_part l s first count =
      in_span_by k m t p Never (span_at t s) (ahead_of t p s) (goes_up t.direction (span_at t s) way) first count l.width
      (λ R laid at n. Unit {0}) (λ q. q.flagged ≡ false)
      (λ R blanks laid at n so e. absurd cc)
      (λ R laid at n so e. tt)
      (λ R blanks laid at so. refl)
      (k.nil_of m) l.blanks l.laid (ahead_of t p s).start.word (words_in (ahead_of t p s)) tt

  pub never_flagged : (lay k m t p Never way).flagged ≡ false
  never_flagged =
      walks_by k m t p Never way (λ l at n. l.flagged ≡ false) (λ l. l.flagged ≡ false)
      (λ l at n so e. absurd (false≢true (sym (never_part l (next (forward way) at n) (later (forward way) at) n) ∙ e)))
      (λ l at n so e. e)
      (λ l at so. so)
      (nothing k m t p Never) p.span _ refl
