use Rattle.std.proofs.Common.{map, get_or, IsUtf8, ◌∙◌, arith, rules}
use Rattle.std.specs.Str.{chars}
use Rattle.seen_text.specs.Seen.{level_of}
use Rattle.seen_text.proofs.Spelt.{stands, ends_within, starts_whole, ends_whole, bytes_are, seen_more}
use Rattle.seen_text.proofs.seen_line.in_order.Goals as goal

pub overflow_add-c : goal.overflow_add-c
overflow_add-c c =
    let text : IsUtf8 c.args.text.now = search rules in
    let s = stands _ (map level_of c.args.characters.now) c.args.characters.now (get_or c.args.order.now c.loop-i.i-index 0) (record { start = 0; len = 0; level = 0 }) text c.requires.spelt (c.requires.indices c.loop-i.i-index c.loop-i-test.true) in
    omega (arith, ends_within s)

pub range-requires : goal.range-requires
range-requires c =
    let text : IsUtf8 c.args.text.now = search rules in
    let s = stands _ (map level_of c.args.characters.now) c.args.characters.now (get_or c.args.order.now c.loop-i.i-index 0) (record { start = 0; len = 0; level = 0 }) text c.requires.spelt (c.requires.indices c.loop-i.i-index c.loop-i-test.true) in
    record { start_le_end = omega arith; start_boundary = λ _. starts_whole s; end_boundary = ends_whole s }

pub loop-i-preserved : goal.loop-i-preserved
loop-i-preserved c =
    let text : IsUtf8 c.args.text.now = search rules in
    let s = stands _ (map level_of c.args.characters.now) c.args.characters.now (get_or c.args.order.now c.loop-i.i-index 0) (record { start = 0; len = 0; level = 0 }) text c.requires.spelt (c.requires.indices c.loop-i.i-index c.loop-i-test.true) in
    seen_more (chars c.args.text.now) c.args.order.now _ _ _ c.loop-i.i-index c.loop-i-test.true c.loop-i.invariant c.in_ok-push_str.ensures.bytes (c.range.ensures.value ∙ bytes_are s)
