use Rattle.std.proofs.Common.{◌≡◌, ◌∙◌, sym, length}
use Rattle.std.proofs.lemmas.Bool.{eq-eqb, eqb-true, false≢true}
use Rattle.wl_parts.specs.declared.fault.PartsFault.TheVariants as fault
use Rattle.wl_parts.proofs.Answered.{reads_err}
use Rattle.wl_parts.proofs.PartTexts.{parts_end, parts_fail, parts_step}
use Rattle.wl_parts.proofs.read.read_parts.Goals as goal

pub returns-in_err-rest : goal.returns-in_err-rest
returns-in_err-rest c = λ ps fits is.
    reads_err c.from_residual.result c.in_err-rest.field-0.0 ps c.from_residual.ensures.1
    (parts_fail (c.in_err-rest.field-0.0 ≡ fault.Memory) ps c.loop-rest.parts c.loop-rest.rest.now
    (λ none. false≢true (sym c.loop-rest-test.true ∙ c.is_empty.ensures ∙ eq-eqb (length c.loop-rest.rest.now) 0 none))
    (λ p r f e. c.in_err-rest.ensures.next p r f e) (c.loop-rest.invariant ps fits is))

pub loop-rest-preserved : goal.loop-rest-preserved
loop-rest-preserved c = λ ps fits is.
    parts_step ps c.loop-rest.parts c.next_part.new.parts c.loop-rest.rest.now c.in_ok-rest.rest.now
    (λ none. false≢true (sym c.loop-rest-test.true ∙ c.is_empty.ensures ∙ eq-eqb (length c.loop-rest.rest.now) 0 none))
    (λ p r f e. c.in_ok-rest.ensures.next p r f e) (c.loop-rest.invariant ps fits is)

pub returns : goal.returns
returns c = λ ps fits is.
    parts_end ps c.loop-rest.parts c.loop-rest.rest.now (eqb-true (length c.loop-rest.rest.now) 0 (sym c.is_empty.ensures ∙ c.loop-rest-test.false))
    (c.loop-rest.invariant ps fits is)
