-- What the nodes of a line that is clean since a silence show.
use Rattle.std.proofs.Common.{◌≡◌, ◌∙◌, refl, sym, ap, subst, ℕ, zero, suc, ◌+◌, ◌-◌, ◌<◌, ◌≤◌, ◌==◌, cond, Bool, true, false, List, [], ◌∷◌, ◌++◌, arith}
use Rattle.std.specs.Prelude.{IsPermutation, filter, map}
use Rattle.std.proofs.lemmas.List.{map-append}
use Rattle.wl_frame.specs.Grammar.{Content}
use Rattle.wl_node.specs.declared.setup.NodeSetup.{NodeSetup}
use Rattle.wl_node.specs.declared.setup.Passed.{Passed}
use Rattle.wl_node.specs.History.{History, is_sent, unsent_of}
use Rattle.wl_plan.specs.Line.{Line}
use Rattle.wl_plan.specs.Simulation.{AreInside}
use Rattle.wl_buses.specs.BothProofs.Queues.{queued_contents}
use Rattle.wl_buses.specs.OneFrame.Stations.{Stations}
use Rattle.wl_buses.specs.NextFrames.Frames.{Frame}
use Rattle.wl_buses.specs.SentFrames.Winners.{passed_with}
use Rattle.wl_buses.specs.CleanLines.Lines.{line_history}
use Rattle.wl_buses.specs.CleanPlans.Clean.{sent_contents}
use Rattle.wl_silence.specs.Restarts.{passed_since}
use Rattle.wl_silence.specs.Shown.{ShowsClean, frames_passing, way_passed}
use Rattle.wl_silence.specs.Silences.{IsCleanSince, eleventh_of, fresh_line, fresh_setups, fresh_stations, after_eleventh, joins}
use Rattle.wl_silence.proofs.PoweredUp.{contents_since}
use Rattle.wl_silence.proofs.Queues.{unsent_is}

passing_since : (p : ℕ) (frames : List Passed) → map way_passed (map (passed_since p) frames) ≡ map way_passed frames
passing_since p [] = refl
passing_since p (x ∷ more) = ap (λ l. way_passed x ∷ l) (passing_since p more)

sent_since : (p : ℕ) (frames : List Passed) → sent_contents (map (passed_since p) frames) ≡ sent_contents frames
sent_since p [] = refl
sent_since p (x ∷ more) = inside x.sent (sent_since p more)
  where
    inside : (b : Bool) → sent_contents (map (passed_since p) more) ≡ sent_contents more
        → map (λ (y : Passed). y.frame) (cond b (passed_since p x ∷ filter is_sent (map (passed_since p) more)) (filter is_sent (map (passed_since p) more)))
        ≡ map (λ (y : Passed). y.frame) (cond b (x ∷ filter is_sent more) (filter is_sent more))
    inside true e = ap (λ l. x.frame ∷ l) e
    inside false e = e

passing_is : (s : Stations) (frames : ℕ → Frame) (winner : ℕ → ℕ) (content : ℕ → Content) (i n : ℕ) → map way_passed (passed_with s frames winner content i n) ≡ frames_passing winner content i n
passing_is s frames winner content i zero = refl
passing_is s frames winner content i (suc n) =
    map-append way_passed (passed_with s frames winner content i n) _ ∙ ap (λ l. l ++ (i == winner n, content n) ∷ []) (passing_is s frames winner content i n)

pub shows : (l : Line) (setups : ℕ → NodeSetup) (s : Stations) (from : ℕ) (first : ℕ → ℕ) → s.count ≡ l.nodes → IsCleanSince l setups s from first
    → (sender : ℕ → ℕ) × (content : ℕ → Content) × (count : ℕ)
    × ((i k : ℕ) → i < l.nodes → after_eleventh l setups first i ≤ k → AreInside l i k → ShowsClean (setups i) i sender content count (line_history l setups i (after_eleventh l setups first i)) (line_history l setups i k))
shows l setups s from first count clean = (clean.through.bus.by.winner, clean.through.bus.by.content, clean.through.bus.count, node)
  where
    at_quantum : (i k : ℕ) → i < l.nodes → eleventh_of (setups i).segments < k → AreInside (fresh_line l setups first) i k
        → ShowsClean (setups i) i clean.through.bus.by.winner clean.through.bus.by.content clean.through.bus.count (line_history l setups i (after_eleventh l setups first i)) (line_history l setups i (joins l setups first i + k))
    at_quantum i k inside late there =
        let p : ℕ = joins l setups first i in
        let R : NodeSetup = fresh_setups l setups first i in
        let fresh : History = line_history (fresh_line l setups first) (fresh_setups l setups first) i k in
        let before : History = line_history l setups i (after_eleventh l setups first i) in
        let now : History = line_history l setups i (p + k) in
        let g = clean.goes i k inside late there in
        let counted : i < s.count = omega arith in
        let passed = clean.through.passed i k counted there in
        let come = clean.through.sent i k counted there in
        let left = unsent_is (setups i) p before fresh now g.frames g.quanta in
        record {
          errors = g.errors;
          counters = g.counters;
          since = map (passed_since p) fresh.frames;
          frames = g.frames;
          passed = (
            passed.0,
            passed.1,
            passing_since p fresh.frames ∙ ap (map way_passed) passed.2
                ∙ passing_is (fresh_stations l setups first s) clean.through.bus.frames clean.through.bus.by.winner clean.through.bus.by.content i passed.0,
          );
          left =
              subst (λ q. IsPermutation q (sent_contents (map (passed_since p) fresh.frames) ++ queued_contents (unsent_of (setups i) now))) (contents_since p (unsent_of (setups i) before))
              (subst (λ f. IsPermutation (queued_contents R.queue) (f ++ queued_contents (unsent_of (setups i) now))) (sym (sent_since p fresh.frames))
              (subst (λ u. IsPermutation (queued_contents R.queue) (sent_contents fresh.frames ++ u)) (ap queued_contents left ∙ contents_since p (unsent_of (setups i) now)) come.once));
          order = λ fifo.
              ap (λ f. f ++ queued_contents (unsent_of (setups i) now)) (sent_since p fresh.frames)
              ∙ ap (λ u. sent_contents fresh.frames ++ u) (sym (ap queued_contents left ∙ contents_since p (unsent_of (setups i) now))) ∙ come.order fifo ∙ contents_since p (unsent_of (setups i) before);
        }

    node : (i k : ℕ) → i < l.nodes → after_eleventh l setups first i ≤ k → AreInside l i k
        → ShowsClean (setups i) i clean.through.bus.by.winner clean.through.bus.by.content clean.through.bus.count (line_history l setups i (after_eleventh l setups first i)) (line_history l setups i k)
    node i k inside late there =
        let e : joins l setups first i + (k - joins l setups first i) ≡ k = omega arith in
        subst (λ n. ShowsClean (setups i) i clean.through.bus.by.winner clean.through.bus.by.content clean.through.bus.count (line_history l setups i (after_eleventh l setups first i)) (line_history l setups i n)) e
        (at_quantum i (k - joins l setups first i) inside (omega arith) (λ j less. there (joins l setups first i + j) (omega arith)))
