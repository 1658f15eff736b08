use Rattle.std.proofs.Common.{ℕ, ◌+◌, ◌-◌, [], map, length, unwrap_or, sym, refl, ap, ◌∙◌, arith}
use Rattle.std.specs.List.{range_with_len}
use Rattle.std.proofs.lemmas.List.{length-map}
use Rattle.visual_order.specs.VisualOrder.{turned, high, highest, lowest_odd}
use Rattle.visual_order.proofs.Bounds.{highest_found, lowest_odd_found, lowest_odd_within}
use Rattle.visual_order.proofs.InPlace.{high_in_place}
use Rattle.visual_order.proofs.Rounds.{rounds_none, rounds_more, rounds_done}
use Rattle.visual_order.proofs.reordering.arrange.Goals as goal

pub lowest_odd_level-requires : goal.lowest_odd_level-requires
lowest_odd_level-requires g c = omega (arith, highest_found (map g.E.Leveled.depth c.args.elements.now) c.in-Some.top (sym c.highest_level.ensures ∙ c.in-Some.is))

pub returns-in_default-lowest_odd_level : goal.returns-in_default-lowest_odd_level
returns-in_default-lowest_odd_level g c =
    let levels = map g.E.Leveled.depth c.args.elements.now in
    let n = length c.args.elements.now in
    let none = highest levels + 1 in
    let low_is = lowest_odd_found levels ∙ ap (λ o. unwrap_or o none) (sym c.lowest_odd_level.ensures ∙ c.in_default-lowest_odd_level.is) in
    let start = c.number_places.ensures ∙ ap (range_with_len 0) c.requires ∙ sym (rounds_none levels (range_with_len 0 n) none (none - none) (omega arith)) in
    rounds_done levels c.number_places.new.line n none none none (length-map c.args.elements.now g.E.Leveled.depth) refl (sym low_is) refl start

pub loop-level-init : goal.loop-level-init
loop-level-init g c =
    let levels = map g.E.Leveled.depth c.args.elements.now in
    let top = c.in-Some.top in
    let top_is = highest_found levels top (sym c.highest_level.ensures ∙ c.in-Some.is) in
    record {
      within = omega (arith, lowest_odd_within levels c.in-Some-lowest_odd_level.low (sym c.lowest_odd_level.ensures ∙ c.in-Some-lowest_odd_level.is));
      above = c.number_places.ensures ∙ ap (range_with_len 0) c.requires ∙ sym (rounds_none levels (range_with_len 0 (length c.args.elements.now)) (top + 1) (top - top) (omega arith));
    }

pub reverse_runs-requires-clause-in_place : goal.reverse_runs-requires-clause-in_place
reverse_runs-requires-clause-in_place g c =
    let levels = map g.E.Leveled.depth c.args.elements.now in
    let level = c.loop-level.level in
    high_in_place levels level (level + 1) (c.in-Some.top - level) (length c.args.elements.now) c.loop-level.line (omega arith) c.loop-level.invariant.above

pub returns-in-Some-lowest_odd_level-2 : goal.returns-in-Some-lowest_odd_level-2
returns-in-Some-lowest_odd_level-2 g c =
    let levels = map g.E.Leveled.depth c.args.elements.now in
    let n = length c.args.elements.now in
    let level = c.loop-level.level in
    let top = c.in-Some.top in
    let top_is = highest_found levels top (sym c.highest_level.ensures ∙ c.in-Some.is) in
    let low_is = lowest_odd_found levels ∙ ap (λ o. unwrap_or o (highest levels + 1)) (sym c.lowest_odd_level.ensures ∙ c.in-Some-lowest_odd_level.is) in
    let last =
    c.reverse_runs.ensures
    ∙ ap (turned (high levels level) []) c.loop-level.invariant.above
    ∙ sym (rounds_more levels (range_with_len 0 n) level (level + 1) (top - level) (top + 1 - level) (omega arith) (omega (arith, c.loop-level.auto.level))) in
    rounds_done levels c.reverse_runs.new.line n level c.in-Some-lowest_odd_level.low (top + 1) (length-map c.args.elements.now g.E.Leveled.depth) (omega arith) (sym low_is ∙ ap (λ (t : ℕ). lowest_odd (t + 1) levels) top_is) (omega arith) last
