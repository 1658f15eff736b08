use Rattle.std.proofs.Common.{◌≡◌, take, string_bytes}
use Rattle.std.specs.Str.{chars}
use Rattle.seen_text.specs.Seen.{seen_bytes}
use Rattle.seen_text.proofs.seen_line.in_order.Given as goal

abbrev pub invariant-loop-i : goal.invariant-loop-i
invariant-loop-i l = string_bytes l.seen ≡ seen_bytes (chars l.text) (take l.i-index l.order)
