-- The laws of all walks on a measure
use Rattle.std.proofs.Common.{ℕ, arith}
use Rattle.glyph.specs.declared.glyph.Glyph.{Glyph}
use Rattle.measure.specs.Exact.{Exact}
use Rattle.measure.specs.declared.measure.Measure.{Ghosts}
use Rattle.walk_laws.specs.Laws.{EveryWalk, EveryTake, EveryWidth, EveryEllipsis, EveryClosing, EveryTaking}
use Rattle.walk_laws.proofs.Bounds.{ellipsis_most, ahead_small}
use Rattle.walk_laws.proofs.Closings.{closing_law}
use Rattle.walk_laws.proofs.Laid.{width_law}
use Rattle.walk_laws.proofs.Takings.{some_taken, taking_law}
use Rattle.walk_laws.proofs.Walks.{walk_law}

module _ {S W : Type 0} (k : Ghosts S W) (m : S) where
  pub every_walk : EveryWalk k m
  every_walk t p rule way sound here = walk_law k m t p rule sound here way

  pub every_take : EveryTake k m
  every_take t p width way sound here = some_taken k m width t p sound here way

  module _ (number : W → ℕ) (glyph : Glyph → ℕ) (from : ℕ → W) (exact : Exact k m number glyph from) where
    pub every_width : EveryWidth k m number glyph
    every_width t p rule way sound here = width_law k m number glyph from exact t sound p rule here way (omega (arith, ahead_small k m number glyph from exact t sound p here))

    pub every_ellipsis : EveryEllipsis k m number glyph
    every_ellipsis row few = ellipsis_most k m number glyph from exact row few

    pub every_closing : EveryClosing k m number glyph
    every_closing t p width ellipsis way sound here few = closing_law k m number glyph from exact t sound p here width ellipsis way (omega (arith, ahead_small k m number glyph from exact t sound p here))

    pub every_taking : EveryTaking k m number glyph
    every_taking t p width way sound here = taking_law k m number glyph from exact t sound p here width way (omega (arith, ahead_small k m number glyph from exact t sound p here))
