use Rattle.std.proofs.Common.{◌≡◌, ◌<◌, false, refl, ap, sym, ◌∙◌, arith}
use Rattle.wl_replica.specs.Dense.{edges_of_row, row_number}
use Rattle.wl_replica.specs.Known.{is_tick, run_goes_on}
use Rattle.wl_replica.proofs.WalkLemmas.{no_value, no_more, inside}
use Rattle.wl_replica.proofs.RunLemmas.{made_of, silence_past, silence_next, silence_under, silence_reaches, silence_cut, silence_cut_few}
use Rattle.wl_replica.proofs.known_run.after_silence.Goals as goal
use Rattle.wl_replica.proofs.known_run.after_silence.Goals.{in_default-via-in-Value+else-until-tick, in_default-via-in_default}

pub returns-then-count-known : goal.returns-then-count-known
returns-then-count-known c = silence_past (edges_of_row c.args.edges.now) (row_number c.args.silences.now) c.args.count c.args.until c.args.known c.requires.was c.if-count-known.true

pub returns-then-count-known-2 : goal.returns-then-count-known-2
returns-then-count-known-2 c =
    silence_next (edges_of_row c.args.edges.now) (row_number c.args.silences.now) c.args.count c.args.until c.args.known c.requires.was c.if-count-known-2.true _ refl c.max.ensures

pub returns-in-Value : goal.returns-in-Value
returns-in-Value c =
    silence_under (edges_of_row c.args.edges.now) (row_number c.args.silences.now) c.args.count c.args.until c.args.known c.requires.was (omega (arith, c.if-count-known.false, c.if-count-known-2.false))
    c.in-Value.tick (sym c.edge_at.ensures ∙ c.in-Value.is) c.if-until-tick.true

pub returns-in_default : goal.returns-in_default
returns-in_default c =
    let e = edges_of_row c.args.edges.now in
    let s = row_number c.args.silences.now in
    let n = c.args.count in
    let lt : n < c.args.known.run.length = omega (arith, c.if-count-known.false, c.if-count-known-2.false) in
    let stops : run_goes_on e s n ≡ false = elim c.in_default.branch [
      | in_default-via-in-Value+else-until-tick w ↦ inside e s w.in-Value.tick n (sym c.edge_at.ensures ∙ w.in-Value.is) (omega (arith, silence_reaches e s n c.args.until c.args.known c.requires.was, w.if-until-tick.false))
      | in_default-via-in_default w ↦ no_more e s n (sym (ap is_tick c.edge_at.ensures) ∙ no_value c.edge_at.result w.in_default.not-Value)
    ] in
    made_of e s n (silence_cut_few e s n c.args.until c.args.known c.requires.was lt) (silence_cut e s n c.args.until c.args.known c.requires.was lt) stops
    c.known_at.result c.first_of.result c.known_at.ensures.run c.first_of.ensures.length c.first_of.ensures.end c.known_at.ensures.horizon
