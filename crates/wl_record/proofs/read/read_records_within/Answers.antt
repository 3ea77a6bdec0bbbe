use Rattle.std.proofs.Common.{[], ap, sym, subst, List, arith}
use Rattle.wl_record_core.specs.declared.record.Record.{Record}
use Rattle.wl_device.proofs.Runs.{nothing_given}
use Rattle.wl_record.specs.Reading.{HasRead, ReadProgress}
use Rattle.wl_record.proofs.ReadLemmas.{nothing_read}
use Rattle.wl_record.proofs.read.read_records_within.Goals as goal

pub returns-in_default-clause-fault : goal.returns-in_default-clause-fault
returns-in_default-clause-fault g c = ([], nothing_given g.R.Source.gives c.args.reader.now, omega arith)

pub loop-records-init : goal.loop-records-init
loop-records-init g c =
    let gives = g.R.Source.gives in
    let P : List Record → ReadProgress → Type 0 = λ told p. HasRead gives c.args.reader.now [] told p c.args.reader.now in
    ([], subst (λ told. P told c.in-Ok.text) (sym c.new-records.ensures.items) (subst (P []) (sym c.in-Ok.ensures) (nothing_read c.args.limits gives c.args.reader.now)), ap (λ (p : ReadProgress). p.limits) c.in-Ok.ensures)
