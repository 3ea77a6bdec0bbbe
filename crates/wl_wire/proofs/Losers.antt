-- Who lost the arbitration of the running frame, and to whom.
use Rattle.std.proofs.Common.{◌≡◌, ℕ, suc, ◌+◌, ◌<◌, ◌≤◌, ◌∙◌, List, [], ◌∷◌, ◌++◌, length, true, false, cond, not, ◌&&◌, Some, sym, ap, arith, append-nil, length-append}
use Rattle.std.proofs.Math.Seq.{get_or-append_seam}
use Rattle.std.proofs.lemmas.Bool.{both_ways}
use Rattle.wl_level.specs.declared.Level.{Level}
use Rattle.wl_level.specs.declared.Level.TheVariants.{Dominant, Recessive}
use Rattle.wl_level.specs.Levels.{opposite}
use Rattle.wl_level.specs.Places.{at, before}
use Rattle.wl_level.proofs.Callers.{at_old}
use Rattle.wl_frame.specs.Stuffing.{is_stuff, destuffed_bits}
use Rattle.wl_frame.specs.Grammar.{Content, IsContent, bits_of, is_whole, is_arbitration}
use Rattle.wl_frame.proofs.Callers.{stuff_old, kept_old, sent_whole}
use Rattle.wl_machine.specs.declared.state.Role.TheVariants.{Rx}
use Rattle.wl_machine.specs.Stretch.Sort.{Framing}
use Rattle.wl_machine.specs.Frames.{sent_at, frame_role}
use Rattle.wl_machine.specs.Laws.{FoundSent}
use Rattle.wl_machine.specs.States.{stretch_by}
use Rattle.wl_machine.proofs.Callers.{ends_at, front_kept, HasRest}
use Rattle.wl_wire.specs.Wire.{Wire, stretch_at}
use Rattle.wl_wire.specs.Winner.{Beats}
use Rattle.wl_wire.proofs.Stuffing.{sent_old, found_old}

-- a machine lost the arbitration at a place: it found what it sent before, and dominant there for its recessive bit
pub record LostAt (head : Content) (own : List Level) : Type 0 where
  pub place : ℕ
  pub inside : place < length own
  pub going_on : (k : ℕ) → k ≤ place → ends_at own k ≡ false
  pub found : FoundSent head own place
  pub free : is_stuff own place ≡ false
  pub arbitration : is_arbitration (bits_of head) (length (destuffed_bits own place)) ≡ true
  pub recessive : sent_at head own place ≡ Recessive
  pub dominant : at own place ≡ Dominant

pub ends_old : (own : List Level) (x : Level) (n : ℕ) → n ≤ length own → ends_at (own ++ x ∷ []) n ≡ ends_at own n
ends_old own x n h =
    ap (λ ks. is_whole ks && not (is_stuff (own ++ x ∷ []) n)) (kept_old own x n h)
    ∙ ap (λ s. is_whole (destuffed_bits own n) && not s) (stuff_old own x n h)

-- one sample later that is so still
pub lost_still : (head : Content) (own : List Level) (x : Level) → LostAt head own → LostAt head (own ++ x ∷ [])
lost_still head own x l =
    let within : l.place < length own = l.inside in
    record {
      place = l.place;
      inside = (let more : length (own ++ x ∷ []) ≡ length own + 1 = length-append own (x ∷ []) in omega arith);
      going_on = λ k below. ends_old own x k (omega arith) ∙ l.going_on k below;
      found = found_old head own x l.place (omega arith) l.found;
      free = stuff_old own x l.place (omega arith) ∙ l.free;
      arbitration = ap (λ ks. is_arbitration (bits_of head) (length ks)) (kept_old own x l.place (omega arith)) ∙ l.arbitration;
      recessive = sent_old head own x l.place (omega arith) ∙ l.recessive;
      dominant = at_old own x l.place within ∙ l.dominant;
    }

-- the bits of a frame go on with the bit that is sent next
module _ (head : Content) (own : List Level) (n : ℕ) (is : IsContent head) (free : is_stuff own n ≡ false) (no_end : ends_at own n ≡ false) where
  goes_on_with : (rest : List Level) → bits_of head ≡ destuffed_bits own n ++ rest → (more : List Level) × (bits_of head ≡ destuffed_bits own n ++ sent_at head own n ∷ more)
  goes_on_with [] e =
      let whole : is_whole (destuffed_bits own n) ≡ true = ap is_whole (sym (e ∙ append-nil (destuffed_bits own n))) ∙ sent_whole head is in
      absurd (both_ways (ends_at own n) no_end (ap (λ b. b && not (is_stuff own n)) whole ∙ ap not free))
  goes_on_with (l ∷ rest) e =
      let here : sent_at head own n ≡ l =
      ap (λ b. cond b (opposite (before own n)) (at (bits_of head) (length (destuffed_bits own n)))) free
      ∙ ap (λ b. at b (length (destuffed_bits own n))) e ∙ get_or-append_seam (destuffed_bits own n) l rest Recessive in
      (rest, e ∙ ap (λ k. destuffed_bits own n ++ k ∷ rest) (sym here))

-- so who found what it sent up to that place, and at it, beats the loser
pub beats_by : (winner loser : Content) (own : List Level) → IsContent winner → IsContent loser → (l : LostAt loser own) → FoundSent winner own (suc l.place) → Beats winner loser
beats_by winner loser own iw il l found =
    let front_w : HasRest (bits_of winner) (destuffed_bits own l.place) =
    front_kept winner own l.place iw (λ k below. l.going_on k (omega arith)) (λ k below. found k (omega arith)) l.place (omega arith) in
    let front_l : HasRest (bits_of loser) (destuffed_bits own l.place) =
    front_kept loser own l.place il (λ k below. l.going_on k (omega arith)) l.found l.place (omega arith) in
    let none : ends_at own l.place ≡ false = l.going_on l.place (omega arith) in
    let more_w : (more : List Level) × (bits_of winner ≡ destuffed_bits own l.place ++ sent_at winner own l.place ∷ more) =
    goes_on_with winner own l.place iw l.free none front_w.rest front_w.joined in
    let more_l : (more : List Level) × (bits_of loser ≡ destuffed_bits own l.place ++ sent_at loser own l.place ∷ more) =
    goes_on_with loser own l.place il l.free none front_l.rest front_l.joined in
    record {
      front = destuffed_bits own l.place;
      more = more_w.0;
      rest = more_l.0;
      winner_is = more_w.1 ∙ ap (λ b. destuffed_bits own l.place ++ b ∷ more_w.0) (sym (found l.place (omega arith)) ∙ l.dominant);
      loser_is = more_l.1 ∙ ap (λ b. destuffed_bits own l.place ++ b ∷ more_l.0) l.recessive;
      inside = l.arbitration;
    }

-- in all stretches of frames
abbrev pub LostSoFar : Wire → Type 0
LostSoFar w = (k : ℕ) (head : Content) (own : List Level) → k < w.count → stretch_at w k ≡ stretch_by (Framing (Some head)) own → frame_role (Some head) own ≡ Rx → LostAt head own
