use Rattle.std.proofs.Common.{rules, ◌≡◌, ℕ, fold, map, ◌+◌, ◌∙◌, sym, arith}
use Rattle.std.proofs.lemmas.List.Folds.{fold-map}
use Rattle.visual_order.specs.VisualOrder.{lower_odd}
use Rattle.visual_order.proofs.Bounds.{lowest_odd_below, lowest_odd_above}
use Rattle.visual_order.proofs.level_bounds.lowest_odd_level.Goals as goal

pub returns-then-low-none : goal.returns-then-low-none
returns-then-low-none g c =
    let none = c.args.top + 1 in
    let told : c.fold-low.result ≡ fold (λ low e. lower_odd none low (g.E.Leveled.depth e)) none c.args.elements.now = search rules in
    lowest_odd_below (map g.E.Leveled.depth c.args.elements.now) none c.fold-low.result (omega (arith, c.requires)) (told ∙ sym (fold-map (lower_odd none) g.E.Leveled.depth none c.args.elements.now)) (omega arith)

pub returns-else-low-none : goal.returns-else-low-none
returns-else-low-none g c =
    let none = c.args.top + 1 in
    let told : c.fold-low.result ≡ fold (λ low e. lower_odd none low (g.E.Leveled.depth e)) none c.args.elements.now = search rules in
    lowest_odd_above (map g.E.Leveled.depth c.args.elements.now) none c.fold-low.result (omega (arith, c.requires)) (told ∙ sym (fold-map (lower_odd none) g.E.Leveled.depth none c.args.elements.now)) (omega arith)
