use Rattle.std.proofs.Common.{◌≡◌, List, IfOk, IsUtf8, vec_items, subst, rules}
use Rattle.std.proofs.lemmas.Iterator.{YieldsList-from_map, YieldsList-from_slice, YieldsList-from_zip, items_from_collect}
use Rattle.std.specs.Char.{len_utf8}
use Rattle.std.specs.Iterator.Adapters.{map_source, zip_first, zip_second}
use Rattle.std.specs.Slice.Iter.{iter_rest}
use Rattle.std.specs.Str.{chars}
use Rattle.std.specs.Str.Iter.{char_indices_offset, char_indices_rest}
use Rattle.visual_order.specs.declared.character.Character.{Character}
use Rattle.seen_text.proofs.Spelt.{made_of, places_given}
use Rattle.seen_text.proofs.characters.characters.Goals as goal

pub returns : goal.returns
returns c =
    let text : IsUtf8 c.args.text.now = search rules in
    let zipped = map_source c.map.result in
    let rest : char_indices_rest (zip_first zipped) ≡ c.args.text.now = search rules in
    let offset : char_indices_offset (zip_first zipped) ≡ 0 = search rules in
    let levels : iter_rest (zip_second zipped) ≡ c.args.levels.now = search rules in
    let made = YieldsList-from_map _ (λ p. record { start = p.0.0; len = len_utf8 p.0.1; level = p.1 }) (YieldsList-from_zip (places_given (zip_first zipped) c.args.text.now text rest offset) (YieldsList-from_slice c.args.levels.now levels)) c.map.ensures.closure (λ x r q k. search rules) in
    subst (λ (cs : List Character). IfOk c.collect.result (λ w. vec_items w ≡ cs)) (made_of 0 (chars c.args.text.now) c.args.levels.now) (items_from_collect c.collect.result c.collect.ensures.ran made)
