use Rattle.std.proofs.Common.{◌≡◌, ◌∙◌, ap, sym, subst, List, [], ◌++◌, All}
use Rattle.std.specs.List.{AllByRecursion}
use Rattle.wl_record_core.specs.declared.record.Record.{Record}
use Rattle.wl_record_core.specs.Limits.{record_nodes}
use Rattle.wl_record_core.specs.Within.{IsWithinBy}
use Rattle.wl_record.specs.Reading.{HasRead, ReadProgress, RecordsOf, GoesOnWith}
use Rattle.wl_replica.specs.State.{Fits, State, state_of}
use Rattle.wl_engines.specs.Gather.{state_of_all}
use Rattle.wl_engines.proofs.Gathering.{fits_all}
use Rattle.wl_engines.proofs.gather.gather.Goals as goal

pub pieces-init : goal.pieces-init
pieces-init g c =
    let gives = g.R.Source.gives in
    let P : ReadProgress → Type 0 = λ p. HasRead gives c.args.reader.now [] [] p c.args.reader.now in (
      [],
      c.in_ok-rows.ensures ∙ ap (λ n. state_of n []) c.record_nodes.ensures,
      [],
      subst P (sym c.in_ok-input.ensures) (c.nothing_read_law.ensures c.args.limits),
      ap (λ (p : ReadProgress). p.limits) c.in_ok-input.ensures,
    )

pub take_batch-requires : goal.take_batch-requires
take_batch-requires g c =
    let came = c.in_ok-came.ensures.came in
    let items : c.deref.result.now ≡ came.0 = c.deref.ensures.value ∙ came.1 ∙ ap (λ b. b ++ came.0) c.clear.ensures.items in
    let P : List Record → Type 0 = λ b. All (Fits (record_nodes c.args.limits)) b in
    let within : AllByRecursion (IsWithinBy c.args.limits) came.0 = subst (λ l. AllByRecursion (IsWithinBy l) came.0) c.pieces.invariant.4 came.2.0 in
    subst (λ n. All (Fits n) c.deref.result.now) (sym (ap (λ (s : State). s.nodes) c.pieces.invariant.1))
    (subst P (sym items) (fits_all c.args.limits (c.wide_record_limits_hold.ensures c.args.limits) came.0 within))

pub returns-in-All : goal.returns-in-All
returns-in-All g c =
    let gives = g.R.Source.gives in
    let limits = c.args.limits in
    let told = c.pieces.invariant.0 in
    let came = c.in_ok-came.ensures.came in
    let items : c.deref.result.now ≡ came.0 = c.deref.ensures.value ∙ came.1 ∙ ap (λ b. b ++ came.0) c.clear.ensures.items in
    let nodes : c.pieces.rows.nodes ≡ record_nodes limits = ap (λ (s : State). s.nodes) c.pieces.invariant.1 in
    let before : c.pieces.rows ≡ state_of c.pieces.rows.nodes told = c.pieces.invariant.1 ∙ ap (λ n. state_of n told) (sym nodes) in
    let after : c.take_batch.new.rows ≡ state_of c.pieces.rows.nodes (told ++ c.deref.result.now) = c.in_ok-take_batch.ensures told before in
    let whole : c.take_batch.new.rows ≡ state_of_all limits (told ++ came.0) =
    after ∙ ap (λ n. state_of n (told ++ c.deref.result.now)) nodes ∙ ap (λ b. state_of (record_nodes limits) (told ++ b)) items in
    let all = subst (λ k. GoesOnWith gives c.pieces.input c.pieces.reader k came.0 c.next.new.self c.next.new.reader) c.in-All.is came.2 in
    let read = all.1 c.args.reader.now c.pieces.invariant.2 told c.pieces.invariant.3 in
    (told ++ came.0, subst (λ l. RecordsOf l gives c.args.reader.now (told ++ came.0) c.next.new.reader) c.pieces.invariant.4 read, whole)
