use Rattle.std.proofs.Common.{◌≡◌, ◌∙◌, ℕ, List, ◌++◌, ap, string_bytes}
use Rattle.wl_margin.proofs.Callers.{grown, grown_ok}
use Rattle.wl_spikes.specs.Words.{clean_member_words, classes_words, firsts_words, spike_bit, swept_spike_words, worst_words}
use Rattle.wl_spikes.proofs.text.push_said.Goals as goal

pub returns : goal.returns
returns c =
    let s = c.args.spikes.now in
    let t = c.args.tally in
    let b0 = string_bytes c.args.text.now in
    let b1 = string_bytes c.push_spike.new.text in
    let b2 = string_bytes c.push_clean.new.text in
    let b3 = string_bytes c.push_classes.new.text in
    let b4 = string_bytes c.push_worst.new.text in
    let bit : c.spike_bit.result ≡ spike_bit s.text.node = c.spike_bit.ensures ∙ ap spike_bit c.as_slice.ensures in
    let worst : b4 ≡ b3 ++ worst_words (spike_bit s.text.node) t = c.in_ok-push_worst.ensures ∙ ap (λ k. b3 ++ worst_words k t) bit in
    let w1 : List ℕ = swept_spike_words s in
    let w2 : List ℕ = clean_member_words t in
    let w3 : List ℕ = classes_words t in
    let w4 : List ℕ = worst_words (spike_bit s.text.node) t in
    let to2 = grown b0 b1 b2 w1 w2 c.in_ok-push_spike.ensures c.in_ok-push_clean.ensures in
    let to3 = grown b0 b2 b3 (w1 ++ w2) w3 to2 c.in_ok-push_classes.ensures in
    let to4 = grown b0 b3 b4 (w1 ++ w2 ++ w3) w4 to3 worst in
    grown_ok c.push_firsts.result b0 b4 (string_bytes c.push_firsts.new.text) (w1 ++ w2 ++ w3 ++ w4) (firsts_words s t) to4 c.push_firsts.ensures
