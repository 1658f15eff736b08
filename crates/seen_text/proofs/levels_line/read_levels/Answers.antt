use Rattle.std.proofs.Common.{◌≡◌, ℕ, ◌<◌, false, eqb, decimal, sym, arith, rules}
use Rattle.std.proofs.lemmas.Bool.{eqb-false}
use Rattle.std.proofs.lemmas.Fn.{always_returns_same}
use Rattle.seen_text.proofs.LevelWords.{Small, line_parts, spelt_so}
use Rattle.seen_text.proofs.Parts.{next_part, next_word, no_part, read_all, read_more}
use Rattle.seen_text.proofs.levels_line.read_levels.Goals as goal

not_empty : (n : ℕ) → false ≡ eqb n 0 → 0 < n
not_empty n e = omega (arith, eqb-false n 0 (sym e))

pub returns-in_default : goal.returns-in_default
returns-in_default c = λ levels all is.
    let next = next_part _ c.loop-word.word-iterator c.next.new.self 32 c.in-Some.word (always_returns_same _ _ _ (λ a is f k. search rules)) c.in-Some.ensures.steps in
    let read = next_word 32 decimal Small c.loop-word.invariant c.in-Some.word.now _ next levels all (line_parts _ levels (not_empty _ c.if-is_empty.ensures) all is) in
    c.in_default.ensures read.0 read.1 read.2

pub loop-word-preserved : goal.loop-word-preserved
loop-word-preserved c =
    let next = next_part _ c.loop-word.word-iterator c.next.new.self 32 c.in-Some.word (always_returns_same _ _ _ (λ a is f k. search rules)) c.in-Some.ensures.steps in
    read_more 32 decimal Small c.loop-word.invariant c.in-Some.word.now _ next c.in-Some-read_level.level _ c.in-Some-read_level.ensures.0 c.in-Some-read_level.ensures.1 c.in_ok-push.ensures.items

pub returns : goal.returns
returns c = (c.loop-word.invariant.good, spelt_so _ _ (read_all 32 decimal Small c.loop-word.invariant (no_part c.loop-word.word-iterator 32 c.in-None.ensures.steps.0)))
