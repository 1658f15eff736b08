-- The places of a table that a walk still has to visit
use Rattle.std.specs.Prelude.{◌≡◌, ℕ, suc, Option, MatchOption}
use Rattle.walk.specs.Parts.{next, later}
use Rattle.walk.specs.declared.places.Places.{Places}

-- these places are what is left of those: all but the first that the walk meets
pub record Follows (s t : Places) (w : ℕ) : Type 0 where
  pub counts : s.count ≡ suc t.count
  pub place : w ≡ next s.up s.first t.count
  pub later_first : t.first ≡ later s.up s.first
  pub as_up : t.up ≡ s.up

-- a step: the first place that the walk meets, if one is left
abbrev pub GivesPlace : Places → Option ℕ → Places → Type 0
GivesPlace s r t = MatchOption r ((s.count ≡ 0) × (t ≡ s)) (Follows s t)
