use Rattle.std.proofs.Common.{◌≡◌, ◌∙◌, ap, arith, is_some, true, sym}
use Rattle.std.proofs.lemmas.Bool.{false≢true}
use Rattle.wl_setup.proofs.ReadLemmas.{document_of-parsed, document_of-none}
use Rattle.wl_setup.proofs.read.document_or_place.Goals as goal

pub returns-in-Ok-clause-document : goal.returns-in-Ok-clause-document
returns-in-Ok-clause-document c = document_of-parsed _ _ c.in-Ok.ensures.ok.0 c.in-Ok.ensures.ok.1

pub returns-in-Some-clause-none : goal.returns-in-Some-clause-none
returns-in-Some-clause-none c =
    let known : is_some c.span.result ≡ true = ap is_some c.in-Some.is in (
      document_of-none c.args.text.now (c.in-Err.ensures.refused (λ memory. false≢true (sym (c.span.ensures.none.1 memory) ∙ known))),
      (let within = c.in-Err.ensures.span in let starts = c.in-Some.ensures.range.0 in omega arith),
    )
