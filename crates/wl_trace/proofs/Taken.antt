-- The stretch of a frame, one sample later.
use Rattle.std.proofs.Common.{◌≡◌, ◌∙◌, refl, ap, sym, ℕ, suc, ◌<◌, ◌≤◌, nat_le, nat_lt, ◌&&◌, not, Bool, true, false, cond, List, [], ◌∷◌, ◌++◌, length, Option, None, arith}
use Rattle.std.proofs.lemmas.Bool.{and_right, le-ltb}
use Rattle.wl_level.specs.declared.Level.{Level}
use Rattle.wl_level.specs.Levels.{is_dominant, opposite}
use Rattle.wl_level.specs.Places.{at, before, or_at, first_place}
use Rattle.wl_level.proofs.Callers.{at_new, first_cong}
use Rattle.wl_frame.specs.Stuffing.{is_stuff, destuffed_bits}
use Rattle.wl_frame.specs.Header.{is_extended}
use Rattle.wl_frame.specs.Grammar.{Content, bits_of, is_whole, is_arbitration, layout_by}
use Rattle.wl_frame.proofs.Callers.{stuff_old, kept_old, length_more, destuffed_more}
use Rattle.wl_machine.specs.declared.state.Role.{Role}
use Rattle.wl_machine.specs.declared.state.Role.TheVariants.{Tx, Rx}
use Rattle.wl_machine.specs.Frames.{stuffed_end, is_lost, frame_role}
use Rattle.wl_machine.specs.Stretch.{Stretch, Sampled}
use Rattle.wl_machine.specs.Stretch.Sort.{Framing}
use Rattle.wl_machine.specs.Judged.{judged, or_next, role_by, role_of}
use Rattle.wl_machine.specs.Roles.{RoleLaws, loses}
use Rattle.wl_trace.specs.Events.{is_transmitter}
use Rattle.wl_trace.specs.Running.{way_of}

nowhere : (a b c d : Bool) → b ≡ false → (a && b && c && d) ≡ false
nowhere true b c d e = ap (λ (x : Bool). x && c && d) e
nowhere false b c d e = refl

-- a place behind the longest arbitration is in none
by_format : (extended : Bool) (bits : List Level) (k : ℕ) → 32 < k
    → (nat_le (layout_by extended bits).start k && nat_lt k (layout_by extended bits).arbitration) ≡ false
by_format true bits k far = and_right (nat_le 1 k) (nat_lt k 33) (le-ltb k 33 (omega arith))
by_format false bits k far = and_right (nat_le 1 k) (nat_lt k 13) (le-ltb k 13 (omega arith))

module _ (head : Content) (own bits : List Level) (x : Level) (kept : bits ≡ destuffed_bits own (length own)) where
  -- what the arbitration asks, by whether a stuff bit is due
  abbrev asks : Bool → List Level → Level → Level → Bool
  asks stuff read last here =
      not stuff && is_arbitration (bits_of head) (length read) && not (is_dominant (cond stuff (opposite last) (at (bits_of head) (length read)))) && is_dominant here

  asked : is_lost head (own ++ x ∷ []) (length own) ≡ asks (is_stuff own (length own)) bits (before (own ++ x ∷ []) (length own)) x
  asked =
      ap (λ s. asks s (destuffed_bits (own ++ x ∷ []) (length own)) (before (own ++ x ∷ []) (length own)) (at (own ++ x ∷ []) (length own))) (stuff_old own x (length own) (omega arith))
      ∙ ap (λ b. asks (is_stuff own (length own)) b (before (own ++ x ∷ []) (length own)) (at (own ++ x ∷ []) (length own))) (kept_old own x (length own) (omega arith) ∙ sym kept)
      ∙ ap (asks (is_stuff own (length own)) bits (before (own ++ x ∷ []) (length own))) (at_new own x)

  pub not_lost : is_stuff own (length own) ≡ true → is_lost head (own ++ x ∷ []) (length own) ≡ false
  not_lost due = asked ∙ ap (λ s. asks s bits (before (own ++ x ∷ []) (length own)) x) due

  pub past_arbitration : 32 < length bits → is_lost head (own ++ x ∷ []) (length own) ≡ false
  past_arbitration far =
      let last : Level = before (own ++ x ∷ []) (length own) in
      let sent : Bool = not (is_dominant (cond (is_stuff own (length own)) (opposite last) (at (bits_of head) (length bits)))) in
      asked
      ∙ nowhere (not (is_stuff own (length own))) (is_arbitration (bits_of head) (length bits)) sent (is_dominant x)
      (by_format (is_extended (bits_of head)) (bits_of head) (length bits) far)

  pub lost_is : is_stuff own (length own) ≡ false
      → is_lost head (own ++ x ∷ []) (length own) ≡ (is_arbitration (bits_of head) (length bits) && not (is_dominant (at (bits_of head) (length bits))) && is_dominant x)
  lost_is due = asked ∙ ap (λ s. asks s bits (before (own ++ x ∷ []) (length own)) x) due

-- the end of what is stuffed is found where it was, or right after the new sample
module _ (own : List Level) (x : Level) where
  abbrev pub ends : List Level → ℕ → Bool
  ends samples n = is_whole (destuffed_bits samples n) && not (is_stuff samples n)

  ends_before : (n : ℕ) → n ≤ length own → ends (own ++ x ∷ []) n ≡ ends own n
  ends_before n h =
      ap (λ ks. is_whole ks && not (is_stuff (own ++ x ∷ []) n)) (kept_old own x n h) ∙ ap (λ s. is_whole (destuffed_bits own n) && not s) (stuff_old own x n h)

  pub end_is : stuffed_end (own ++ x ∷ []) ≡ or_at (stuffed_end own) (ends (own ++ x ∷ []) (length (own ++ x ∷ []))) (length (own ++ x ∷ []))
  end_is =
      ap (λ n. first_place (ends (own ++ x ∷ [])) (suc n)) (length_more own x)
      ∙ ap (λ o. or_at o (ends (own ++ x ∷ []) (suc (length own))) (suc (length own)))
      (first_cong (ends (own ++ x ∷ [])) (ends own) (suc (length own)) (λ k lt. ends_before k (omega arith)))
      ∙ ap (λ n. or_at (stuffed_end own) (ends (own ++ x ∷ []) n) n) (sym (length_more own x))

-- whose frame it is after a sample
pub still : (r : Role) (lost : Bool) (sends : Bool) → r ≡ way_of sends → way_of (cond (is_transmitter r && lost) false sends) ≡ cond lost Rx r
still Tx true true e = refl
still Tx false true e = refl
still Tx lost false e = cc
still Rx lost true e = cc
still Rx true false e = refl
still Rx false false e = refl

-- what is kept of a frame after a sample with which its stretch goes on
module _ (laws : RoleLaws) (s : Stretch) (x : Sampled) (none : (judged s x).next ≡ None) where
  abbrev more : List Level
  more = s.own ++ x.level ∷ []

  abbrev plain : Stretch
  plain = record { sort = s.sort; own = more }

  pub goes_on : or_next (judged s x).next plain ≡ plain
  goes_on = ap (λ n. or_next n plain) none

  module _ (head : Option Content) (sends : Bool) (sort : s.sort ≡ Framing head) (role : frame_role head s.own ≡ way_of sends) where
    was : role_of s ≡ way_of sends
    was = ap (λ k. role_by k s.own) sort ∙ role

    pub role_kept : (lost : Bool) → lost ≡ (is_transmitter (role_of s) && loses s x.level) → frame_role head more ≡ way_of (cond lost false sends)
    role_kept lost e =
        ap (λ k. role_by k more) (sym sort)
        ∙ sym (ap role_of goes_on)
        ∙ laws.stays s x none
        ∙ sym (still (role_of s) (loses s x.level) sends was)
        ∙ ap (λ b. way_of (cond b false sends)) (sym e)

  module _ (bits next : List Level) (kept : bits ≡ destuffed_bits s.own (length s.own)) (is : next ≡ bits ++ cond (is_stuff s.own (length s.own)) [] (x.level ∷ [])) where
    pub bits_kept : next ≡ destuffed_bits more (length more)
    bits_kept = is ∙ ap (λ ks. ks ++ cond (is_stuff s.own (length s.own)) [] (x.level ∷ [])) kept ∙ sym (destuffed_more s.own x.level)

    pub end_kept : (end : Option ℕ) → stuffed_end s.own ≡ end → stuffed_end more ≡ or_at end (is_whole next && not (is_stuff more (length more))) (length more)
    end_kept end e =
        end_is s.own x.level
        ∙ ap (λ o. or_at o (ends s.own x.level more (length more)) (length more)) e
        ∙ ap (λ ks. or_at end (is_whole ks && not (is_stuff more (length more))) (length more)) (sym bits_kept)
