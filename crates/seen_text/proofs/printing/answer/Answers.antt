use Rattle.std.proofs.Common.{Some, None, vec_items, ap}
use Rattle.std.specs.Option.{option_map}
use Rattle.std.proofs.lemmas.Result.{err_from_is_err_and}
use Rattle.seen_text.specs.Classes.{resets_of}
use Rattle.seen_text.proofs.Asked.{answered_at, unread}
use Rattle.seen_text.proofs.printing.answer.Goals as goal

pub returns-in_err-input : goal.returns-in_err-input
returns-in_err-input c =
    let p = err_from_is_err_and c.from_residual.result c.from_residual.ensures.1 in
    rw (p.1, p.2) (unread _ _ c.in_err-input.ensures)

pub returns-in-None : goal.returns-in-None
returns-in-None c =
    answered_at c.args.bytes.now c.in_ok-input.input.text.now (vec_items c.in_ok-input.input.levels) c.deref.result.now c.in_ok-input.input.classes None c.print_seen.result c.in_ok-input.ensures (ap (option_map resets_of) c.in-None.is) c.deref.ensures.value c.print_seen.ensures

pub returns : goal.returns
returns c =
    answered_at c.args.bytes.now c.in_ok-input.input.text.now (vec_items c.in_ok-input.input.levels) c.deref-in-Some.result.now c.in_ok-input.input.classes (Some (resets_of c.in-Some.line)) c.print_reset.result c.in_ok-input.ensures (ap (option_map resets_of) c.in-Some.is) c.deref-in-Some.ensures.value c.print_reset.ensures
