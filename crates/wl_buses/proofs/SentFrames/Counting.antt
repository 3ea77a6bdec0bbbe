-- What has been sent of what has passed a node.
use Rattle.std.proofs.Common.{◌≡◌, ◌∙◌, refl, ap, cond, ℕ, zero, suc, ◌+◌, [], ◌∷◌, arith}
use Rattle.std.specs.Prelude.{◌==◌, count_by}
use Rattle.std.proofs.lemmas.List.Sums.{sum_by-append}
use Rattle.wl_frame.specs.Grammar.{Content}
use Rattle.wl_node.specs.History.{is_sent}
use Rattle.wl_buses.specs.OneFrame.Stations.{Stations}
use Rattle.wl_buses.specs.FrameEnd.Rests.{passed_frame}
use Rattle.wl_buses.specs.NextFrames.Frames.{Frame}
use Rattle.wl_buses.specs.SentFrames.Winners.{passed_with, won_by}

pub sent_by : (s : Stations) (frames : ℕ → Frame) (winner : ℕ → ℕ) (content : ℕ → Content) (i n : ℕ) → count_by is_sent (passed_with s frames winner content i n) ≡ won_by winner i n
sent_by s frames winner content i zero = refl
sent_by s frames winner content i (suc n) =
    let e = sent_by s frames winner content i n in
    let last : 0 + cond (i == winner n) 1 0 ≡ cond (i == winner n) 1 0 = omega arith in
    sum_by-append (λ p. cond (is_sent p) 1 0) (passed_with s frames winner content i n) (passed_frame s (frames n).outset (frames n).bits i (winner n) (content n) ∷ [])
    ∙ ap (λ k. k + (0 + cond (i == winner n) 1 0)) e ∙ ap (λ k. won_by winner i n + k) last
