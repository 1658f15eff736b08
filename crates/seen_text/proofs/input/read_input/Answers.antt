use Rattle.std.proofs.Common.{IsUtf8, ap, rules}
use Rattle.std.specs.Option.{option_map}
use Rattle.std.proofs.lemmas.Result.{err_from_is_err_and}
use Rattle.seen_text.specs.Format.{Lines}
use Rattle.seen_text.proofs.Asked.{no_classes, no_levels, no_text_fault}
use Rattle.seen_text.proofs.input.read_input.Goals as goal

pub returns-in_err-levels : goal.returns-in_err-levels
returns-in_err-levels c =
    let lines : Lines c.args.bytes.now c.in_ok-lines.lines.text.now c.in_ok-lines.lines.levels.now (option_map (λ x. x.now) c.in_ok-lines.lines.classes) = search rules in
    let p = err_from_is_err_and c.from_residual-in_err-levels.result c.from_residual-in_err-levels.ensures.1 in
    rw (p.1, p.2) (no_levels c.args.bytes.now _ _ _ lines _ c.in_err-levels.ensures)

pub returns-in_err-text : goal.returns-in_err-text
returns-in_err-text c =
    let lines : Lines c.args.bytes.now c.in_ok-lines.lines.text.now c.in_ok-lines.lines.levels.now (option_map (λ x. x.now) c.in_ok-lines.lines.classes) = search rules in
    let p = err_from_is_err_and c.from_residual-in_err-text.result c.from_residual-in_err-text.ensures.1 in
    let bad : IsUtf8 c.in_ok-lines.lines.text.now → ⊥ = search rules in
    rw p.1 (no_text_fault c.args.bytes.now _ _ _ lines p.0 bad)

pub returns-in_err-read_class_line-in-Some : goal.returns-in_err-read_class_line-in-Some
returns-in_err-read_class_line-in-Some c =
    let lines : Lines c.args.bytes.now c.in_ok-lines.lines.text.now c.in_ok-lines.lines.levels.now (option_map (λ x. x.now) c.in_ok-lines.lines.classes) = search rules in
    let p = err_from_is_err_and c.from_residual-in_err-read_class_line-in-Some.result c.from_residual-in_err-read_class_line-in-Some.ensures.1 in
    rw (p.1, p.2) (no_classes c.args.bytes.now _ _ _ lines _ c.in-Some.line.now (ap (option_map (λ x. x.now)) c.in-Some.is) c.in_err-read_class_line-in-Some.ensures)
