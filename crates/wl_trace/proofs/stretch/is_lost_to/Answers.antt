use Rattle.std.proofs.Common.{◌≡◌, ◌∙◌, ap, sym, ◌&&◌, not, length, List, Bool}
use Rattle.wl_level.specs.declared.Level.{Level}
use Rattle.wl_level.specs.Levels.{is_dominant}
use Rattle.wl_level.specs.Places.{at}
use Rattle.wl_frame.specs.Grammar.{bits_of, is_arbitration}
use Rattle.wl_trace.proofs.Taken.{lost_is}
use Rattle.wl_trace.proofs.stretch.is_lost_to.Goals as goal

pub returns : goal.returns
returns c head is kept =
    let bits : List Level = c.args.bits.now in
    let inside : c.is_arbitration-inside.result ≡ is_arbitration (bits_of head) (length bits) =
    c.is_arbitration-inside.ensures ∙ ap (λ (b : List Level). is_arbitration b (length bits)) is in
    let sent : c.is_dominant-recessive.result ≡ is_dominant (at (bits_of head) (length bits)) =
    c.is_dominant-recessive.ensures ∙ ap is_dominant (c.level_at.ensures ∙ ap (λ (b : List Level). at b (length bits)) is) in
    ap (λ (b : Bool). b && not c.is_dominant-recessive.result && c.is_dominant-dominant.result) inside
    ∙ ap (λ (b : Bool). is_arbitration (bits_of head) (length bits) && not b && c.is_dominant-dominant.result) sent
    ∙ ap (λ (b : Bool). is_arbitration (bits_of head) (length bits) && not (is_dominant (at (bits_of head) (length bits))) && b) c.is_dominant-dominant.ensures
    ∙ sym (lost_is head c.args.own.now bits c.args.level kept (sym c.is_stuff_due.ensures ∙ c.if-is_stuff_due.false))
