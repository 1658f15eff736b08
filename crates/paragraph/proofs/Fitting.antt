-- The laws of reading order, ranks and positions
use Rattle.std.proofs.Common.{◌≡◌, ℕ, ◌-◌, true, false, cond, length, drop, Some, None, Option, sym, ap, ◌∙◌, subst, inl, inr, arith, MatchOption}
use Rattle.std.proofs.lemmas.Bool.{cases_Bool}
use Rattle.paragraph.specs.declared.place.Position.{Position}
use Rattle.paragraph.specs.Text.{Text, Sound}
use Rattle.paragraph.specs.Reading.{exists, reading, ahead}
use Rattle.paragraph.specs.Ranks.{start_of, rank, ahead_count}
use Rattle.paragraph.specs.Before.{around}
use Rattle.paragraph.specs.Laws.{ReadingFits, RanksOn}
use Rattle.paragraph.proofs.Befores.{begin_there, begin_ahead, just_before, span_found}
use Rattle.paragraph.proofs.Joining.{parts_ahead}
use Rattle.paragraph.proofs.Ranking.{ahead_by_rank, length_ahead, length_reading, rank_within, reading_shuffled, glyph_at_rank}

module _ (t : Text) (sound : Sound t) where
  pub ranking_on : (p : Position) → exists t p ≡ true → RanksOn t p (length (ahead t p))
  ranking_on p h =
      let e : rank t p ≡ length (reading t) - length (ahead t p) =
      omega (arith, length_reading t sound, length_ahead t sound p h, rank_within t sound p h) in
      ahead_by_rank t sound p h ∙ ap (λ r. drop r (reading t)) e

  -- what a count tells
  pub counted : (p : Position) (o : Option ℕ) → o ≡ ahead_count t p → MatchOption o (exists t p ≡ false) (RanksOn t p)
  counted p o e =
      elim (cases_Bool (exists t p)) [
        | inl y ↦
            let k : Some (length (ahead t p)) ≡ o = sym (e ∙ ap (λ b. cond b (Some (length (ahead t p))) None) y) in
            subst (λ o. MatchOption o (exists t p ≡ false) (RanksOn t p)) k (ranking_on p y)
        | inr n ↦
            let k : None ≡ o = sym (e ∙ ap (λ b. cond b (Some (length (ahead t p))) None) n) in
            subst (λ o. MatchOption o (exists t p ≡ false) (RanksOn t p)) k n
      ]

pub fits : ReadingFits
fits t sound = record {
  each_once = reading_shuffled t sound;
  as_many = length_reading t sound;
  in_a_span = λ i h. let f = span_found t sound i h in
      (around (start_of t) i 0 (length t.spans), record { is_span = omega (arith, f.in_rows); low = f.low; high = f.high });
  ranked = λ i s h. glyph_at_rank t sound s i h.is_span h.low h.high;
  begins = begin_there t sound;
  all_ahead = begin_ahead t sound;
  ranks_on = ranking_on t sound;
  parts = parts_ahead t sound;
  before = just_before t sound;
}
