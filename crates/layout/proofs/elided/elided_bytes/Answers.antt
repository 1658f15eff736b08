use Rattle.std.proofs.Common.{ℕ, Option, rules, reverse, ap, ◌∙◌}
use Rattle.std.proofs.lemmas.Iterator.{YieldsList-from_slice}
use Rattle.std.proofs.lemmas.Iterator.Adapters.{YieldsList-from_rev_slice}
use Rattle.std.specs.Option.{unwrap_or}
use Rattle.paragraph.specs.Lent.{lent}
use Rattle.layout.specs.Elided.{if_any, largest_end, smallest_start, range_glyphs}
use Rattle.layout.proofs.Chains.{first_from_find_map}
use Rattle.layout.proofs.Glyphs.{nearest_answers, or_answer}
use Rattle.layout.proofs.elided.elided_bytes.Goals as goal

pub returns : goal.returns
returns c =
    let t = lent c.args.tables in
    let last = first_from_find_map {v = λ x. x.now} (λ r. if_any largest_end (range_glyphs t r)) _ c.find_map-last.result c.find_map-last.ensures.runs (YieldsList-from_rev_slice c.args.before.now cc) (λ x r q k. search rules) in
    let first = first_from_find_map {v = λ x. x.now} (λ r. if_any smallest_start (range_glyphs t r)) _ c.find_map-first.result c.find_map-first.ensures.runs (YieldsList-from_slice c.args.behind.now cc) (λ x r q k. search rules) in
    let start = c.unwrap_or.ensures ∙ ap (λ (o : Option ℕ). unwrap_or o c.args.none_before) last ∙ nearest_answers t c.args.none_before largest_end (reverse c.args.before.now) in
    let end = or_answer c.find_map-first.result c.unwrap_or_else.result (largest_end t.glyphs) (λ h. search rules) c.unwrap_or_else.ensures
    ∙ ap (λ (o : Option ℕ). unwrap_or o (largest_end t.glyphs)) first ∙ nearest_answers t (largest_end t.glyphs) smallest_start c.args.behind.now in
    cc
