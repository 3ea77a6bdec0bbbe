use Rattle.std.proofs.Common.{Err, sym, ap, ◌∙◌}
use Rattle.wl_setup.specs.declared.fault.SetupFault.TheVariants as fault
use Rattle.wl_setup.specs.Limits.{most_bytes-is}
use Rattle.wl_setup.specs.Reading.{reading_answer}
use Rattle.wl_setup.proofs.ReadLemmas.{answers_so, parsed, not_parsed}
use Rattle.wl_setup.proofs.read.read_named.Goals as goal

pub returns-in-End-clause-ok : goal.returns-in-End-clause-ok
returns-in-End-clause-ok g c =
    parsed g.R.Source.gives c.args.reader.now c.read_up_to.new.reader c.in_ok-text.text.items c.as_slice.result.now c.as_slice.ensures.value
    (λ r is. answers_so g.R.Source.gives c.args.reader.now c.read_up_to.new.reader c.in_ok-text.text.items c.in_ok-text.ended _ most_bytes-is c.in_ok-text.ensures r (is ∙ sym (ap (λ e. reading_answer e c.in_ok-text.text.items) c.in-End.is)))
    c.parse.result c.parse.ensures.ok

pub returns-in-End-clause-fault : goal.returns-in-End-clause-fault
returns-in-End-clause-fault g c =
    not_parsed g.R.Source.gives c.args.reader.now c.read_up_to.new.reader c.in_ok-text.text.items c.as_slice.result.now c.as_slice.ensures.value
    (λ r is. answers_so g.R.Source.gives c.args.reader.now c.read_up_to.new.reader c.in_ok-text.text.items c.in_ok-text.ended _ most_bytes-is c.in_ok-text.ensures r (is ∙ sym (ap (λ e. reading_answer e c.in_ok-text.text.items) c.in-End.is)))
    c.parse.result c.parse.ensures.fault

pub returns-in-Broken-clause-fault : goal.returns-in-Broken-clause-fault
returns-in-Broken-clause-fault g c = λ _.
    answers_so g.R.Source.gives c.args.reader.now c.read_up_to.new.reader c.in_ok-text.text.items c.in_ok-text.ended _ most_bytes-is c.in_ok-text.ensures (Err fault.Read) (sym (ap (λ e. reading_answer e c.in_ok-text.text.items) c.in-Broken.is))

pub returns-clause-fault : goal.returns-clause-fault
returns-clause-fault g c = λ _.
    answers_so g.R.Source.gives c.args.reader.now c.read_up_to.new.reader c.in_ok-text.text.items c.in_ok-text.ended _ most_bytes-is c.in_ok-text.ensures (Err fault.Size) (sym (ap (λ e. reading_answer e c.in_ok-text.text.items) c.in-Full.is))
