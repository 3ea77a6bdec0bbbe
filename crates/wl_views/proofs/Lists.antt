-- Lists that grow by what one element more gives.
use Rattle.std.proofs.Common.{◌≡◌, ◌∙◌, refl, sym, ap, arith, add-one, ℕ, zero, suc, ◌+◌, ◌-◌, ◌/◌, ◌%◌, ◌<◌, true, false, List, [], ◌∷◌, ◌++◌, length, get_or, take, map, append-nil, append_assoc}
use Rattle.std.specs.Fmt.{digit_glyph}
use Rattle.std.specs.List.{filter, flat_map, enumerate_from}
use Rattle.std.proofs.lemmas.List.Elements.{filter_more}
use Rattle.std.proofs.lemmas.List.{map-append}
use Rattle.wl_clock.specs.Timing.{Timing, tick_of}
use Rattle.wl_node.specs.declared.setup.Passed.{Passed}
use Rattle.wl_node.specs.History.{is_sent}
use Rattle.wl_views.specs.Digits.{digits_of}
use Rattle.wl_views.specs.SentFrames.{sent_by}

pub no_digit : (base k n : ℕ) → k ≡ 0 → digits_of base k n ≡ []
unfolding digits_of
no_digit base zero n none = refl
no_digit base (suc k) n none = absurd (omega arith)

-- the last digit stands after the others
pub last_digit : (base k n : ℕ) → 0 < k → digits_of base k n ≡ digits_of base (k - 1) (n / base) ++ digit_glyph true (n % base) ∷ []
unfolding digits_of
last_digit base zero n some = absurd (omega arith)
last_digit base (suc k) n some =
    ap (λ (m : ℕ). digits_of base m (n / base) ++ digit_glyph true (n % base) ∷ []) {x = k} {y = suc k - 1} (omega arith)

-- a frame more that was sent, and one that was received
pub one_sent : (clock : Timing) (frames : List Passed) (i : ℕ) (d : Passed) → i < length frames → (get_or frames i d).sent ≡ true
    → sent_by clock (take (i + 1) frames) ≡ sent_by clock (take i frames) ++ (tick_of clock (get_or frames i d).quantum, (get_or frames i d).frame) ∷ []
one_sent clock frames i d within is =
    ap (map (λ p. (tick_of clock p.quantum, p.frame))) (filter_more is_sent frames i d within)
    ∙ rw is (map-append (λ p. (tick_of clock p.quantum, p.frame)) (filter is_sent (take i frames)) (get_or frames i d ∷ []))

pub none_sent : (clock : Timing) (frames : List Passed) (i : ℕ) (d : Passed) → i < length frames → (get_or frames i d).sent ≡ false
    → sent_by clock (take (i + 1) frames) ≡ sent_by clock (take i frames)
none_sent clock frames i d within is =
    ap (map (λ p. (tick_of clock p.quantum, p.frame))) (filter_more is_sent frames i d within)
    ∙ rw is (ap (map (λ p. (tick_of clock p.quantum, p.frame))) (append-nil (filter is_sent (take i frames))))

-- what a numbered element more gives
number_more : {X A : Type 0} (f : ℕ × X → List A) (a : ℕ) (xs : List X) (k : ℕ) (d : X) → k < length xs
    → flat_map f (enumerate_from a (take (suc k) xs)) ≡ flat_map f (enumerate_from a (take k xs)) ++ f (a + k, get_or xs k d)
number_more f a [] k d within = absurd (omega arith)
number_more f a (x ∷ xs) zero d within = append-nil (f (a, x)) ∙ ap (λ (m : ℕ). f (m, x)) {x = a} {y = a + 0} (omega arith)
number_more f a (x ∷ xs) (suc k) d within =
    ap (λ zs. f (a, x) ++ zs) (number_more f (a + 1) xs k d (omega arith)
    ∙ ap (λ (m : ℕ). flat_map f (enumerate_from (a + 1) (take k xs)) ++ f (m, get_or xs k d)) {x = a + 1 + k} {y = a + suc k} (omega arith))
    ∙ sym (append_assoc (f (a, x)) (flat_map f (enumerate_from (a + 1) (take k xs))) (f (a + suc k, get_or xs k d)))

pub numbered : {X A : Type 0} (f : ℕ × X → List A) (xs : List X) (k : ℕ) (d : X) → k < length xs
    → flat_map f (enumerate_from 0 (take (k + 1) xs)) ≡ flat_map f (enumerate_from 0 (take k xs)) ++ f (k, get_or xs k d)
numbered f xs k d within =
    rw add-one (number_more f 0 xs k d within
    ∙ ap (λ (m : ℕ). flat_map f (enumerate_from 0 (take k xs)) ++ f (m, get_or xs k d)) {x = 0 + k} {y = k} (omega arith))
