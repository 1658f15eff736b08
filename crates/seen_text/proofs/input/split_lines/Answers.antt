use Rattle.std.proofs.Common.{ℕ, length, unwrap_or, inl, inr, List, ◌∷◌, refl, ap, ◌∙◌, arith, rules}
use Rattle.std.specs.Option.{option_map}
use Rattle.std.proofs.lemmas.Fn.{always_returns_same}
use Rattle.seen_text.proofs.Feeds.{Body, body_is, lined, not_lines}
use Rattle.seen_text.proofs.Parts.{begun_at, ends, goes_on, next_part, no_part}
use Rattle.seen_text.proofs.input.split_lines.Goals as goal

pub returns-in_default : goal.returns-in_default
returns-in_default c =
    let body : Body c.args.bytes.now c.unwrap_or-body.result.now = rw c.unwrap_or-body.ensures (body_is _ c.strip_suffix.result c.args.bytes refl c.strip_suffix.ensures.cases) in
    let first = begun_at _ c.split-lines.result c.next.new.self 10 c.unwrap_or-body.result.now c.next.result c.unwrap_or-body.result c.split-lines.ensures.rest c.split-lines.ensures.done (always_returns_same _ _ _ (λ a is f k. search rules)) c.next.ensures.steps in
    not_lines c.args.bytes.now c.unwrap_or-body.result.now body (inl (omega (arith, ap length first, ap length (no_part c.next.new.self 10 c.in_default.ensures.steps.0))))

pub returns-then-is_some : goal.returns-then-is_some
returns-then-is_some c =
    let body : Body c.args.bytes.now c.unwrap_or-body.result.now = rw c.unwrap_or-body.ensures (body_is _ c.strip_suffix.result c.args.bytes refl c.strip_suffix.ensures.cases) in
    let first = begun_at _ c.split-lines.result c.next.new.self 10 c.unwrap_or-body.result.now c.next.result c.unwrap_or-body.result c.split-lines.ensures.rest c.split-lines.ensures.done (always_returns_same _ _ _ (λ a is f k. search rules)) c.next.ensures.steps in
    let second = next_part _ c.next.new.self c.next-2.new.self 10 c.in-Some.levels (always_returns_same _ _ _ (λ a is f k. search rules)) c.in-Some.ensures.steps in
    let others = goes_on _ c.next-2.new.self c.next-classes.new.self c.next-3.new.self 10 c.next-classes.result c.next-3.result (always_returns_same _ _ _ (λ a is f k. search rules)) (always_returns_same _ _ _ (λ a is f k. search rules)) c.next-classes.ensures.steps c.next-3.ensures.steps c.if-is_some.ensures in
    not_lines c.args.bytes.now c.unwrap_or-body.result.now body (inr (omega (arith, ap length first, ap length second, others)))

pub returns : goal.returns
returns c =
    let body : Body c.args.bytes.now c.unwrap_or-body.result.now = rw c.unwrap_or-body.ensures (body_is _ c.strip_suffix.result c.args.bytes refl c.strip_suffix.ensures.cases) in
    let first = begun_at _ c.split-lines.result c.next.new.self 10 c.unwrap_or-body.result.now c.next.result c.unwrap_or-body.result c.split-lines.ensures.rest c.split-lines.ensures.done (always_returns_same _ _ _ (λ a is f k. search rules)) c.next.ensures.steps in
    let second = next_part _ c.next.new.self c.next-2.new.self 10 c.in-Some.levels (always_returns_same _ _ _ (λ a is f k. search rules)) c.in-Some.ensures.steps in
    let others = ends _ c.next-2.new.self c.next-classes.new.self c.next-3.new.self 10 c.next-classes.result c.next-3.result (always_returns_same _ _ _ (λ a is f k. search rules)) c.next-classes.ensures.steps c.next-3.ensures.steps c.if-is_some.ensures in
    rw c.unwrap_or-text.ensures (lined c.args.bytes.now c.unwrap_or-body.result.now _ _ (option_map (λ x. x.now) c.next-classes.result) body (first ∙ ap (λ (ps : List (List ℕ)). (unwrap_or c.next.result c.unwrap_or-body.result).now ∷ ps) (second ∙ ap (λ (ps : List (List ℕ)). c.in-Some.levels.now ∷ ps) others)))
