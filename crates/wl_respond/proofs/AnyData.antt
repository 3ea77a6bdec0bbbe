-- A frame with any data is within the bits that its message counts with.
use Rattle.std.proofs.Common.{◌≡◌, ◌∙◌, refl, sym, ap, subst, ℕ, ◌≤◌, cond, max, List, [], ◌∷◌, ◌++◌, length, Bool, true, false, arith}
use Rattle.std.proofs.Math.Nat.{le-max_left, le-max_right}
use Rattle.wl_level.specs.declared.Level.{Level}
use Rattle.wl_frame.specs.Grammar.{Content, IsContent, bits_of}
use Rattle.wl_frame.specs.Stuffing.{Stuffs}
use Rattle.wl_longest.specs.Longest.{longest_frame}
use Rattle.wl_longest.proofs.Callers.{no_longer}
use Rattle.wl_setup.specs.declared.plan_text.FrameText.{FrameText}
use Rattle.wl_bound.specs.Families.{Bus}
use Rattle.wl_respond.specs.declared.message.MessageWait.{MessageWait}
use Rattle.wl_respond.specs.Asks.{IsOfText, asked_by, is_frame_of, most_bits_in}

abbrev longest_of : FrameText → ℕ
longest_of f = longest_frame f.extended f.id f.remote f.dlc

counted : (c : Content) (before later : List FrameText) (f : FrameText) → is_frame_of c f ≡ true → longest_of f ≤ most_bits_in c (before ++ f ∷ later)
counted c [] later f is =
    let first : most_bits_in c (f ∷ later) ≡ max (longest_of f) (most_bits_in c later) = ap (λ b. cond b (max (longest_of f) (most_bits_in c later)) (most_bits_in c later)) is in
    let least = le-max_left (longest_of f) (most_bits_in c later) in
    omega (arith, first, least)
counted c (g ∷ before) later f is =
    let below = counted c before later f is in
    let more = by_first (is_frame_of c g) (longest_of g) (most_bits_in c (before ++ f ∷ later)) in
    omega (arith, below, more)
  where
    by_first : (b : Bool) (n most : ℕ) → most ≤ cond b (max n most) most
    by_first true n most = le-max_right n most
    by_first false n most = omega arith

same_longest : (c : Content) (f : FrameText) → IsOfText c f → longest_frame c.extended c.id c.remote c.dlc ≡ longest_of f
same_longest c f (extended, id, remote, dlc) =
    ap (λ e. longest_frame e c.id c.remote c.dlc) extended ∙ ap (λ i. longest_frame f.extended i c.remote c.dlc) id
    ∙ ap (λ r. longest_frame f.extended f.id r c.dlc) remote ∙ ap (longest_frame f.extended f.id f.remote) dlc

pub within_bits : (b : Bus) (x : MessageWait) (before later : List FrameText) (f : FrameText) (c : Content) (y : List Level) → is_frame_of x.frame f ≡ true → IsOfText c f
    → IsContent c → Stuffs y (bits_of c) → length y ≤ (asked_by b true x (before ++ f ∷ later)).message.bits
within_bits b x before later f c y is of content stuffs =
    let short = no_longer c y content stuffs in
    let most = counted x.frame before later f is in
    let all = le-max_right x.bits (most_bits_in x.frame (before ++ f ∷ later)) in
    omega (arith, short, same_longest c f of, most, all)
