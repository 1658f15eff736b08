use Rattle.std.proofs.Common.{◌≡◌, map, length, drop, Ok, ap, ◌∙◌, arith}
use Rattle.std.specs.Str.{chars}
use Rattle.std.proofs.lemmas.List.{take_at}
use Rattle.levels.specs.Classes.{code_of}
use Rattle.seen_text.specs.Classes.{resets_of}
use Rattle.seen_text.specs.Resets.{byte_lengths, byte_levels}
use Rattle.seen_text.specs.Seen.{characters_of}
use Rattle.seen_text.proofs.Relevel.{all_inside, all_short, reset_is, verdict_is}
use Rattle.seen_text.proofs.resets.reset_levels.Goals as goal

pub lengths_of-requires : goal.lengths_of-requires
lengths_of-requires c = all_short (chars c.args.text.now) c.args.levels.now _ (c.deref-2.ensures.value ∙ c.in_ok-characters.ensures)

pub levels_from_bytes-requires : goal.levels_from_bytes-requires
levels_from_bytes-requires c =
    let made = c.in_ok-characters.ensures in
    let last = c.adjust_levels.new.levels in
    let last_long : length last ≡ c.in_ok-bytes.bytes.len = omega (arith, c.adjust_levels.auto.levels, c.deref_mut.ensures.len) in
    let list_is = c.deref-7.ensures.value ∙ take_at last (drop (length last) c.in_ok-bytes.bytes.items) c.in_ok-bytes.bytes.len last_long in
    let bytes_are = c.deref_mut.ensures.value ∙ c.in_ok-bytes.ensures ∙ ap byte_levels (c.deref-3.ensures.value ∙ made) in
    all_inside (chars c.args.text.now) c.args.levels.now c.deref-7.result.now c.deref-6.result.now (c.deref-6.ensures.value ∙ made) (omega (arith, ap length list_is, c.adjust_levels.auto.levels, ap length bytes_are))

pub returns : goal.returns
returns c =
    let made = c.in_ok-characters.ensures in
    let last = c.adjust_levels.new.levels in
    let last_long : length last ≡ c.in_ok-bytes.bytes.len = omega (arith, c.adjust_levels.auto.levels, c.deref_mut.ensures.len) in
    let list_is = c.deref-7.ensures.value ∙ take_at last (drop (length last) c.in_ok-bytes.bytes.items) c.in_ok-bytes.bytes.len last_long in
    let codes_are = c.deref-4.ensures.value ∙ c.in_ok-codes.ensures ∙ ap (map code_of) c.deref.ensures.value in
    let lengths_are = c.deref-5.ensures.value ∙ c.in_ok-lengths.ensures ∙ ap byte_lengths (c.deref-2.ensures.value ∙ made) in
    let bytes_are = c.deref_mut.ensures.value ∙ c.in_ok-bytes.ensures ∙ ap byte_levels (c.deref-3.ensures.value ∙ made) in
    let resets = resets_of c.args.line.now in
    let characters = characters_of 0 (chars c.args.text.now) c.args.levels.now in
    let answer = c.in_default.ensures in (
      verdict_is resets characters c.deref-4.result.now c.deref-5.result.now c.deref_mut.result.now codes_are lengths_are bytes_are (Ok tt) answer.verdict,
      reset_is resets characters c.deref-4.result.now c.deref-5.result.now c.deref_mut.result.now codes_are lengths_are bytes_are c.deref-6.result.now last c.deref-7.result.now _ answer.after list_is (c.deref-6.ensures.value ∙ made) c.in_ok-levels_from_bytes.ensures,
    )
