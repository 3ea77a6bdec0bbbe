-- What a transmitter sends, and what a receiver reads, is a stuffed list.
use Rattle.std.proofs.Common.{◌≡◌, ℕ, zero, suc, ◌<◌, ◌≤◌, ◌∙◌, List, [], ◌∷◌, ◌++◌, length, take, Bool, true, false, not, cond, ◌&&◌, Some, refl, sym, ap, subst, arith, append-nil, append_assoc, inl, inr}
use Rattle.std.proofs.Math.Seq.{get_or-append_seam}
use Rattle.std.proofs.lemmas.Bool.{and_parts, and_right, both_ways, cases_lt, cases_Bool, not-true}
use Rattle.wl_level.specs.declared.Level.{Level}
use Rattle.wl_level.specs.declared.Level.TheVariants.{Dominant, Recessive}
use Rattle.wl_level.specs.Levels.{same, opposite}
use Rattle.wl_level.specs.Places.{at, before, IsFirstPlace}
use Rattle.wl_level.proofs.Callers.{first_is, first_found}
use Rattle.wl_frame.specs.Stuffing.{is_stuff, destuffed_bits, Stuffs, ends_six}
use Rattle.wl_frame.specs.Grammar.{Content, IsContent, IsFrame, bits_of, content_of, is_whole, is_crc_right}
use Rattle.wl_frame.proofs.Callers.{sent_whole, whole_alone, frame_is_read, front_stuffs, same_back}
use Rattle.wl_machine.specs.Frames.{stuffed_end}
use Rattle.wl_machine.specs.Laws.{FoundSent}

abbrev pub ends_at : List Level → ℕ → Bool
ends_at own n = is_whole (destuffed_bits own n) && not (is_stuff own n)

end_first : (own : List Level) (end : ℕ) → stuffed_end own ≡ Some end → IsFirstPlace (ends_at own) (suc (length own)) end
end_first own end h = first_is (ends_at own) (suc (length own)) end h

is_free : (own : List Level) (end : ℕ) → stuffed_end own ≡ Some end → is_stuff own end ≡ false
is_free own end h = not-true (is_stuff own end) (and_parts (is_whole (destuffed_bits own end)) (not (is_stuff own end)) (end_first own end h).passes).1

is_whole_there : (own : List Level) (end : ℕ) → stuffed_end own ≡ Some end → is_whole (destuffed_bits own end) ≡ true
is_whole_there own end h = (and_parts (is_whole (destuffed_bits own end)) (not (is_stuff own end)) (end_first own end h).passes).0

-- a prefix of the bits of the head was kept
pub record HasRest (bits front : List Level) : Type 0 where
  pub rest : List Level
  pub joined : bits ≡ front ++ rest

keeps_stuff : (own : List Level) (n : ℕ) → is_stuff own n ≡ true → destuffed_bits own (suc n) ≡ destuffed_bits own n
keeps_stuff own n due = ap (λ b. destuffed_bits own n ++ cond b [] (at own n ∷ [])) due ∙ append-nil (destuffed_bits own n)

keeps_bit : (own : List Level) (n : ℕ) → is_stuff own n ≡ false → destuffed_bits own (suc n) ≡ destuffed_bits own n ++ at own n ∷ []
keeps_bit own n due = ap (λ b. destuffed_bits own n ++ cond b [] (at own n ∷ [])) due

-- one place more, where a bit of the head was sent and found
more_rest : (head : Content) (own : List Level) (n : ℕ) (rest : List Level) → IsContent head → bits_of head ≡ destuffed_bits own n ++ rest → is_stuff own n ≡ false
    → ends_at own n ≡ false → at own n ≡ at (bits_of head) (length (destuffed_bits own n)) → HasRest (bits_of head) (destuffed_bits own (suc n))
more_rest head own n [] c e free no_end found =
    let whole : is_whole (destuffed_bits own n) ≡ true = ap is_whole (sym (e ∙ append-nil (destuffed_bits own n))) ∙ sent_whole head c in
    let here : ends_at own n ≡ true = ap (λ b. b && not (is_stuff own n)) whole ∙ ap not free in
    absurd (both_ways (ends_at own n) no_end here)
more_rest head own n (l ∷ rest) c e free no_end found =
    let l_is : at own n ≡ l = found ∙ ap (λ b. at b (length (destuffed_bits own n))) e ∙ get_or-append_seam (destuffed_bits own n) l rest Recessive in
    record {
      rest = rest;
      joined =
          e ∙ sym (append_assoc (destuffed_bits own n) (l ∷ []) rest)
          ∙ ap (λ k. (destuffed_bits own n ++ k ∷ []) ++ rest) (sym l_is) ∙ ap (λ ks. ks ++ rest) (sym (keeps_bit own n free));
    }

-- a transmitter that finds what it sends keeps a prefix of the bits of its head, as long as no place ends the stuffed part
pub front_kept : (head : Content) (own : List Level) (end : ℕ) → IsContent head → ((k : ℕ) → k < end → ends_at own k ≡ false) → FoundSent head own end
    → (n : ℕ) → n ≤ end → HasRest (bits_of head) (destuffed_bits own n)
front_kept head own end c none found zero below = record { rest = bits_of head; joined = refl }
front_kept head own end c none found (suc n) below =
    let front : HasRest (bits_of head) (destuffed_bits own n) = front_kept head own end c none found n (omega arith) in
    elim (cases_Bool (is_stuff own n)) [
      | inl due ↦ record { rest = front.rest; joined = front.joined ∙ ap (λ ks. ks ++ front.rest) (sym (keeps_stuff own n due)) }
      | inr free ↦
          more_rest head own n front.rest c front.joined free (none n (omega arith))
          (found n (omega arith) ∙ ap (λ b. cond b (opposite (before own n)) (at (bits_of head) (length (destuffed_bits own n)))) free)
    ]

pub kept_is_all : (head : Content) (own : List Level) (end : ℕ) → IsContent head → stuffed_end own ≡ Some end → FoundSent head own end → destuffed_bits own end ≡ bits_of head
kept_is_all head own end c h found =
    let front : HasRest (bits_of head) (destuffed_bits own end) = front_kept head own end c (end_first own end h).none_before found end (omega arith) in
    let none : front.rest ≡ [] = whole_alone (destuffed_bits own end) front.rest (is_whole_there own end h) (ap is_whole (sym front.joined) ∙ sent_whole head c) in
    sym (front.joined ∙ ap (λ r. destuffed_bits own end ++ r) none ∙ append-nil (destuffed_bits own end))

no_six_sent : (head : Content) (own : List Level) (end : ℕ) → FoundSent head own end → (k : ℕ) → k < end → ends_six own k ≡ false
no_six_sent head own end found k below = elim (cases_Bool (is_stuff own k)) [
  | inl due ↦
      (let turned : at own k ≡ opposite (before own k) = found k below ∙ ap (λ b. cond b (opposite (before own k)) (at (bits_of head) (length (destuffed_bits own k)))) due in
      and_right (is_stuff own k) (same (at own k) (before own k)) (ap (λ l. same l (before own k)) turned ∙ same_back (before own k)))
  | inr free ↦ ap (λ b. b && same (at own k) (before own k)) free
]

pub read_stuffs : (own : List Level) (end : ℕ) → stuffed_end own ≡ Some end → ((k : ℕ) → k < end → ends_six own k ≡ false) → Stuffs (take end own) (destuffed_bits own end)
read_stuffs own end h no_six =
    let inside : end < suc (length own) = (end_first own end h).inside in
    front_stuffs own end (omega arith) no_six (is_free own end h)

pub sent_stuffs : (head : Content) (own : List Level) (end : ℕ) → IsContent head → stuffed_end own ≡ Some end → FoundSent head own end → Stuffs (take end own) (bits_of head)
sent_stuffs head own end c h found = subst (Stuffs (take end own)) (kept_is_all head own end c h found) (read_stuffs own end h (no_six_sent head own end found))

pub read_frame : (own : List Level) (end : ℕ) → stuffed_end own ≡ Some end → at (destuffed_bits own end) 0 ≡ Dominant → is_crc_right (destuffed_bits own end) ≡ true
    → IsFrame (destuffed_bits own end) (content_of (destuffed_bits own end))
read_frame own end h begins crc = (frame_is_read (destuffed_bits own end) (content_of (destuffed_bits own end))).1 (record { begins = begins; whole = is_whole_there own end h; crc = crc; content = refl })

-- the other way: along a stuffed list

kept_rest : (own : List Level) (n m : ℕ) → n ≤ m → HasRest (destuffed_bits own m) (destuffed_bits own n)
kept_rest own n zero h = let e : n ≡ zero = omega arith in record { rest = []; joined = ap (destuffed_bits own) (sym e) ∙ sym (append-nil (destuffed_bits own n)) }
kept_rest own n (suc m) h = elim (cases_lt m n) [
  | inl above ↦ (let e : n ≡ suc m = omega arith in record { rest = []; joined = ap (destuffed_bits own) (sym e) ∙ sym (append-nil (destuffed_bits own n)) })
  | inr below ↦
      (let front : HasRest (destuffed_bits own m) (destuffed_bits own n) = kept_rest own n m below in
      record {
        rest = front.rest ++ cond (is_stuff own m) [] (at own m ∷ []);
        joined = ap (λ ks. ks ++ cond (is_stuff own m) [] (at own m ∷ [])) front.joined ∙ append_assoc (destuffed_bits own n) front.rest (cond (is_stuff own m) [] (at own m ∷ []));
      })
]

pub found_sent : (head : Content) (own : List Level) → Stuffs own (bits_of head) → FoundSent head own (length own)
found_sent head own s k below = elim (cases_Bool (is_stuff own k)) [
  | inl due ↦ s.opposite k below due ∙ ap (λ b. cond b (opposite (before own k)) (at (bits_of head) (length (destuffed_bits own k)))) (sym due)
  | inr free ↦
      (let front : HasRest (destuffed_bits own (length own)) (destuffed_bits own (suc k)) = kept_rest own (suc k) (length own) (omega arith) in
      let bits : bits_of head ≡ destuffed_bits own k ++ at own k ∷ front.rest =
      sym s.content ∙ front.joined ∙ ap (λ ks. ks ++ front.rest) (keeps_bit own k free) ∙ append_assoc (destuffed_bits own k) (at own k ∷ []) front.rest in
      sym (ap (λ b. at b (length (destuffed_bits own k))) bits ∙ get_or-append_seam (destuffed_bits own k) (at own k) front.rest Recessive)
      ∙ ap (λ b. cond b (opposite (before own k)) (at (bits_of head) (length (destuffed_bits own k)))) (sym free))
]

-- no place before the end ends it
none_earlier : (head : Content) (own : List Level) → IsContent head → Stuffs own (bits_of head) → (j : ℕ) → j < length own → ends_at own j ≡ false
none_earlier head own c s j below = elim (cases_Bool (is_stuff own j)) [
  | inl due ↦ ap (λ b. is_whole (destuffed_bits own j) && not b) due ∙ and_right (is_whole (destuffed_bits own j)) false refl
  | inr free ↦ elim (cases_Bool (is_whole (destuffed_bits own j))) [
    | inl whole ↦
        (let front : HasRest (destuffed_bits own (length own)) (destuffed_bits own (suc j)) = kept_rest own (suc j) (length own) (omega arith) in
        let bits : bits_of head ≡ destuffed_bits own j ++ at own j ∷ front.rest =
        sym s.content ∙ front.joined ∙ ap (λ ks. ks ++ front.rest) (keeps_bit own j free) ∙ append_assoc (destuffed_bits own j) (at own j ∷ []) front.rest in
        let none : at own j ∷ front.rest ≡ [] = whole_alone (destuffed_bits own j) (at own j ∷ front.rest) whole (ap is_whole (sym bits) ∙ sent_whole head c) in
        cc)
    | inr open' ↦ ap (λ b. b && not (is_stuff own j)) open'
  ]
]

pub found_end : (head : Content) (own : List Level) → IsContent head → Stuffs own (bits_of head) → stuffed_end own ≡ Some (length own)
found_end head own c s =
    first_found (ends_at own) (suc (length own)) (length own) (record {
      inside = omega arith;
      passes =
          ap (λ b. b && not (is_stuff own (length own))) (ap is_whole s.content ∙ sent_whole head c)
          ∙ ap not s.closed;
      none_before = none_earlier head own c s;
    })
