use Rattle.std.proofs.Common.{subst, sym, vec_items, ◌++◌, ◌∷◌, [], rules, Ok}
use Rattle.replay.proofs.Replayed.{one_more}
use Rattle.replay.specs.Numbers.{Reads}
use Rattle.replay.proofs.numbers.read_numbers.Goals as goal

pub loop-word-preserved : goal.loop-word-preserved
loop-word-preserved g c =
    let read : g.N.FromStr.from_str_gives c.in-Some.word.now (Ok c.in_ok-parse.field-0) = search rules in
    subst (Reads g.N.FromStr.from_str_gives (c.loop-word.yielded ++ (c.in-Some.word ∷ []))) (sym c.in_ok-push.ensures.items)
    (one_more (λ word n. g.N.FromStr.from_str_gives word.now (Ok n)) c.loop-word.yielded (vec_items c.loop-word.numbers) c.in-Some.word c.in_ok-parse.field-0 c.loop-word.invariant read)
