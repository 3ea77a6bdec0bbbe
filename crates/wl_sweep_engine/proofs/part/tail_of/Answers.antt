use Rattle.std.proofs.Common.{◌∙◌, ◌++◌, ap, sym, subst, List, ℕ}
use Rattle.std.proofs.lemmas.Result.{IfOk-weaker}
use Rattle.wl_sweep_engine.specs.Payload.{NoneTests}
use Rattle.wl_sweep_engine.specs.Said.{added_words, untested_words}
use Rattle.wl_sweep_engine.proofs.Edges.{true_unless}
use Rattle.wl_sweep_engine.proofs.part.tail_of.Goals as goal

pub returns : goal.returns
returns c =
    let b = c.none_tests.result in
    let nodes = c.args.plan.now.nodes in
    IfOk-weaker c.listed.result _ _
    (λ tail h. record {
      untested = b;
      none = (
        (λ is. subst NoneTests c.as_slice.ensures (c.none_tests.ensures.yes is)),
        (λ all. true_unless (NoneTests nodes) b (λ none p. c.none_tests.ensures.no none (subst NoneTests (sym c.as_slice.ensures) p)) all),
      );
      whole =
          h ∙ c.as_str.ensures.value ∙ c.in_ok-push_untested.ensures
          ∙ ap (λ (t : List ℕ). t ++ untested_words b) (c.in_ok-push_added.ensures ∙ ap (λ (t : List ℕ). t ++ added_words c.args.worst) c.new-text.ensures.bytes);
    })
    c.listed.ensures
