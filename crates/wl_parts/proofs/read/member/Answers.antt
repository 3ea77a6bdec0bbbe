use Rattle.std.proofs.Common.{◌++◌, codes, refl, Some}
use Rattle.wl_parts.specs.Text.{bytes_words}
use Rattle.wl_parts.proofs.Answered.{sets_left}
use Rattle.wl_parts.proofs.read.member.Goals as goal

pub returns : goal.returns
returns c = λ m rest fits e.
    let first = c.in_ok-number.ensures m.number (codes "\"line\":" ++ bytes_words m.line (codes "}," ++ rest)) fits refl e in
    let second = c.in_ok-rest.ensures m.line (codes "}," ++ rest) first.1 in
    sets_left c.after.result _ (Some m) rest (λ i. Some record { number = first.0 i; line = second.0 i }) (c.after.ensures rest second.1)
