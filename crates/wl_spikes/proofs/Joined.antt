-- The tally of two lists of members, one after the other.
use Rattle.std.proofs.Common.{◌≡◌, ◌∙◌, ◌+◌, ◌^◌, ◌<◌, ℕ, List, [], ◌∷◌, ◌++◌, length, max, option_map, refl, sym, ap, arith, length-append}
use Rattle.std.specs.Option.{option_or}
use Rattle.std.specs.Prelude.{fold}
use Rattle.std.proofs.lemmas.Grind.{fold-append}
use Rattle.wl_sweep.specs.Family.{capped}
use Rattle.wl_sweep.proofs.Callers.{capped-small, count-joined, first-joined}
use Rattle.wl_spikes.specs.declared.aftermath.Aftermath.{Aftermath}
use Rattle.wl_spikes.specs.declared.aftermath.Class.{Class}
use Rattle.wl_spikes.specs.declared.aftermath.Class.TheVariants.{Clean, Healed, Late, Unhealed, Twice, Missed, Off, Refused}
use Rattle.wl_spikes.specs.declared.tally.SpikeTally.{SpikeTally}
use Rattle.wl_spikes.specs.Tallies.{class_tally, most_of_members, is_class, is_sound, rec_of_member, spike_tally, tec_of_member, trouble_of_member}

-- the tally of a class
pub class-joined : (class : Class) (xs ys : List Aftermath) → length xs + length ys < 2 ^ 64
    → class_tally class (xs ++ ys) ≡ record {
      count = capped ((class_tally class xs).count + (class_tally class ys).count);
      first = option_or (class_tally class xs).first (option_map (λ n. capped (length xs + n)) (class_tally class ys).first);
    }
class-joined class xs ys small =
    rw (sym (first-joined (is_class class) xs ys small), sym (count-joined (is_class class) xs ys small)) refl

-- the greatest number, from one on
most_from : (number : Aftermath → ℕ) (least : ℕ) (ys : List Aftermath)
    → fold (λ (most : ℕ) (a : Aftermath). max most (number a)) least ys ≡ max least (most_of_members number ys)
most_from number least [] = omega arith
most_from number least (y ∷ ys) =
    most_from number (max least (number y)) ys
    ∙ (let more = most_from number (max 0 (number y)) ys in
    let assoc : max (max least (number y)) (most_of_members number ys) ≡ max least (max (max 0 (number y)) (most_of_members number ys)) = omega arith in
    assoc ∙ ap (λ k. max least k) (sym more))

pub most-joined : (number : Aftermath → ℕ) (xs ys : List Aftermath) → most_of_members number (xs ++ ys) ≡ max (most_of_members number xs) (most_of_members number ys)
most-joined number xs ys =
    fold-append (λ (most : ℕ) (a : Aftermath). max most (number a)) 0 xs ys ∙ most_from number (most_of_members number xs) ys

module _ (xs ys : List Aftermath) (t : SpikeTally) (runs : t.runs ≡ capped (length xs + length ys)) (sound : t.sound ≡ capped ((spike_tally xs).sound + (spike_tally ys).sound))
    (clean : t.clean ≡ class_tally Clean (xs ++ ys)) (healed : t.healed ≡ class_tally Healed (xs ++ ys)) (late : t.late ≡ class_tally Late (xs ++ ys))
    (unhealed : t.unhealed ≡ class_tally Unhealed (xs ++ ys)) (twice : t.twice ≡ class_tally Twice (xs ++ ys)) (missed : t.missed ≡ class_tally Missed (xs ++ ys))
    (off : t.off ≡ class_tally Off (xs ++ ys)) (refused : t.refused ≡ class_tally Refused (xs ++ ys))
    (longest : t.longest ≡ max (spike_tally xs).longest (spike_tally ys).longest) (tec : t.tec ≡ max (spike_tally xs).tec (spike_tally ys).tec)
    (rec : t.rec ≡ max (spike_tally xs).rec (spike_tally ys).rec) where
  pub tally-joined : length xs + length ys < 2 ^ 64 → t ≡ spike_tally (xs ++ ys)
  tally-joined small =
      let all = runs ∙ capped-small (length xs + length ys) small ∙ sym (length-append xs ys) in
      let good = sound ∙ count-joined is_sound xs ys small in
      let l = longest ∙ sym (most-joined trouble_of_member xs ys) in
      let a = tec ∙ sym (most-joined tec_of_member xs ys) in
      let b = rec ∙ sym (most-joined rec_of_member xs ys) in
      (λ i. record {
        runs = all i;
        sound = good i;
        clean = clean i;
        healed = healed i;
        late = late i;
        unhealed = unhealed i;
        twice = twice i;
        missed = missed i;
        off = off i;
        refused = refused i;
        longest = l i;
        tec = a i;
        rec = b i;
      })
