use Rattle.std.proofs.Common.{◌≡◌, ◌∙◌, ap, sym, List}
use Rattle.wl_level.specs.declared.Level.{Level}
use Rattle.wl_frame.specs.Grammar.{bits_of}
use Rattle.wl_frame.specs.Laws.{up_to_ack}
use Rattle.wl_sweep_engine.specs.Payload.{has_far_edges}
use Rattle.wl_sweep_engine.proofs.payload.tests_clocks.Goals as goal

pub returns : goal.returns
returns c =
    let y = c.stuffed.result.items in
    let same : c.has_far_edges.result ≡ has_far_edges (up_to_ack y) = c.has_far_edges.ensures ∙ ap (λ (l : List Level). has_far_edges (up_to_ack l)) c.as_slice.ensures.value in (
      (λ is. (y, c.stuffed.ensures, sym same ∙ is)),
      (λ t. same ∙ ap (λ (l : List Level). has_far_edges (up_to_ack l)) (c.a_list_has_one_stuffing.ensures (bits_of c.args.frame.now) y t.0 c.stuffed.ensures t.1) ∙ t.2),
    )
