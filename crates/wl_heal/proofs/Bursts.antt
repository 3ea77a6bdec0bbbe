-- Two frames that differ in 15 bits in a row at most are the same: their difference has the remainder 0, and a remainder keeps a short difference.
use Rattle.std.proofs.Common.{◌≡◌, ◌∙◌, ℕ, zero, suc, ◌+◌, ◌-◌, ◌≤◌, List, [], ◌∷◌, ◌++◌, length, map, Bool, true, false, ◌&&◌, refl, sym, ap, arith, append_assoc, length-append}
use Rattle.std.specs.Prelude.{replicate}
use Rattle.std.proofs.lemmas.Bool.{and_parts}
use Rattle.std.proofs.lemmas.List.{map-append, length-map, length-replicate}
use Rattle.wl_level.specs.declared.Level.{Level}
use Rattle.wl_level.specs.declared.Level.TheVariants.{Dominant, Recessive}
use Rattle.wl_frame.specs.Crc.{bit_of_level, level_of_bit, generator, differ, subtracted, remainder, crc_bits}
use Rattle.wl_frame.specs.Grammar.{Content, IsFrame, with_crc, bits_before_crc}
use Rattle.wl_heal.specs.Bursts.{DifferWithin, burst_bits}

-- the sum of two lists, without carry
abbrev plus : List Bool → List Bool → List Bool
plus [] ys = []
plus (x ∷ xs) [] = []
plus (x ∷ xs) (y ∷ ys) = differ x y ∷ plus xs ys

abbrev is_zero : List Bool → Bool
is_zero [] = true
is_zero (true ∷ xs) = false
is_zero (false ∷ xs) = is_zero xs

abbrev zeros : ℕ → List Bool
zeros n = replicate n false

zero_append : (xs ys : List Bool) → is_zero (xs ++ ys) ≡ (is_zero xs && is_zero ys)
zero_append [] ys = refl
zero_append (true ∷ xs) ys = refl
zero_append (false ∷ xs) ys = zero_append xs ys

zero_plus : (xs ys : List Bool) → is_zero xs ≡ true → is_zero ys ≡ true → is_zero (plus xs ys) ≡ true
zero_plus [] ys p q = refl
zero_plus (x ∷ xs) [] p q = refl
zero_plus (true ∷ xs) (y ∷ ys) p q = cc
zero_plus (false ∷ xs) (true ∷ ys) p q = cc
zero_plus (false ∷ xs) (false ∷ ys) p q = zero_plus xs ys p q

zero_self : (xs : List Bool) → is_zero (plus xs xs) ≡ true
zero_self [] = refl
zero_self (true ∷ xs) = zero_self xs
zero_self (false ∷ xs) = zero_self xs

zeros_are : (xs : List Bool) → is_zero xs ≡ true → xs ≡ zeros (length xs)
zeros_are [] h = refl
zeros_are (true ∷ xs) h = cc
zeros_are (false ∷ xs) h = ap (λ ys. false ∷ ys) (zeros_are xs h)

plus_length : (xs ys : List Bool) → length xs ≡ length ys → length (plus xs ys) ≡ length xs
plus_length [] ys e = refl
plus_length (x ∷ xs) [] e = absurd (omega (arith, e))
plus_length (x ∷ xs) (y ∷ ys) e = ap suc (plus_length xs ys (omega (arith, e)))

plus_append : (ps qs cs ds : List Bool) → length ps ≡ length qs → plus (ps ++ cs) (qs ++ ds) ≡ plus ps qs ++ plus cs ds
plus_append [] [] cs ds e = refl
plus_append [] (b ∷ qs) cs ds e = absurd (omega (arith, e))
plus_append (a ∷ ps) [] cs ds e = absurd (omega (arith, e))
plus_append (a ∷ ps) (b ∷ qs) cs ds e = ap (λ ys. differ a b ∷ ys) (plus_append ps qs cs ds (omega (arith, e)))

differ_none : (x : Bool) → differ x false ≡ x
differ_none true = refl
differ_none false = refl

plus_zeros : (xs : List Bool) (n : ℕ) → length xs ≡ n → plus xs (zeros n) ≡ xs
plus_zeros [] n e = refl
plus_zeros (x ∷ xs) zero e = absurd (omega (arith, e))
plus_zeros (x ∷ xs) (suc n) e = ap (λ b. b ∷ plus xs (zeros n)) (differ_none x) ∙ ap (λ ys. x ∷ ys) (plus_zeros xs n (omega (arith, e)))

zeros_plus : (n : ℕ) (ys : List Bool) → length ys ≡ n → plus (zeros n) ys ≡ ys
zeros_plus zero [] e = refl
zeros_plus zero (y ∷ ys) e = absurd (omega (arith, e))
zeros_plus (suc n) [] e = absurd (omega (arith, e))
zeros_plus (suc n) (y ∷ ys) e = ap (λ zs. y ∷ zs) (zeros_plus n ys (omega (arith, e)))

-- subtraction and sums
twice : (gs xs ys : List Bool) → plus (subtracted gs xs) (subtracted gs ys) ≡ plus xs ys
twice [] xs ys = refl
twice (g ∷ gs) [] ys = refl
twice (g ∷ gs) (x ∷ xs) [] = refl
twice (g ∷ gs) (x ∷ xs) (y ∷ ys) = ap (λ b. b ∷ plus (subtracted gs xs) (subtracted gs ys)) (by g x y) ∙ ap (λ zs. differ x y ∷ zs) (twice gs xs ys)
  where
    by : (g x y : Bool) → differ (differ g x) (differ g y) ≡ differ x y
    by true true true = refl
    by true true false = refl
    by true false true = refl
    by true false false = refl
    by false x y = refl

first_less : (gs xs ys : List Bool) → length xs ≡ length ys → plus (subtracted gs xs) ys ≡ subtracted gs (plus xs ys)
first_less [] xs ys e = refl
first_less (g ∷ gs) [] ys e = refl
first_less (g ∷ gs) (x ∷ xs) [] e = absurd (omega (arith, e))
first_less (g ∷ gs) (x ∷ xs) (y ∷ ys) e =
    ap (λ b. b ∷ plus (subtracted gs xs) ys) (by g x y) ∙ ap (λ zs. differ g (differ x y) ∷ zs) (first_less gs xs ys (omega (arith, e)))
  where
    by : (g x y : Bool) → differ (differ g x) y ≡ differ g (differ x y)
    by true true true = refl
    by true true false = refl
    by true false y = refl
    by false x y = refl

second_less : (gs xs ys : List Bool) → length xs ≡ length ys → plus xs (subtracted gs ys) ≡ subtracted gs (plus xs ys)
second_less [] xs ys e = refl
second_less (g ∷ gs) [] [] e = refl
second_less (g ∷ gs) [] (y ∷ ys) e = absurd (omega (arith, e))
second_less (g ∷ gs) (x ∷ xs) [] e = absurd (omega (arith, e))
second_less (g ∷ gs) (x ∷ xs) (y ∷ ys) e =
    ap (λ b. b ∷ plus xs (subtracted gs ys)) (by g x y) ∙ ap (λ zs. differ g (differ x y) ∷ zs) (second_less gs xs ys (omega (arith, e)))
  where
    by : (g x y : Bool) → differ x (differ g y) ≡ differ g (differ x y)
    by true true true = refl
    by true true false = refl
    by true false true = refl
    by true false false = refl
    by false x y = refl

less_length : (gs xs : List Bool) → length (subtracted gs xs) ≡ length xs
less_length [] xs = refl
less_length (g ∷ gs) [] = refl
less_length (g ∷ gs) (x ∷ xs) = ap suc (less_length gs xs)

-- the remainder of a sum is the sum of the remainders
linear : (n : ℕ) (xs ys : List Bool) → length xs ≡ length ys → remainder n (plus xs ys) ≡ plus (remainder n xs) (remainder n ys)
linear zero xs ys e = refl
linear (suc n) [] ys e = refl
linear (suc n) (x ∷ xs) [] e = absurd (omega (arith, e))
linear (suc n) (true ∷ xs) (true ∷ ys) e =
    let l = less_length generator xs in
    let m = less_length generator ys in
    ap (remainder n) (sym (twice generator xs ys)) ∙ linear n (subtracted generator xs) (subtracted generator ys) (omega (arith, e))
linear (suc n) (true ∷ xs) (false ∷ ys) e =
    let l = less_length generator xs in
    ap (remainder n) (sym (first_less generator xs ys (omega (arith, e)))) ∙ linear n (subtracted generator xs) ys (omega (arith, e))
linear (suc n) (false ∷ xs) (true ∷ ys) e =
    let m = less_length generator ys in
    ap (remainder n) (sym (second_less generator xs ys (omega (arith, e)))) ∙ linear n xs (subtracted generator ys) (omega (arith, e))
linear (suc n) (false ∷ xs) (false ∷ ys) e = linear n xs ys (omega (arith, e))

after_zeros : (n : ℕ) (xs : List Bool) → remainder n (zeros n ++ xs) ≡ xs
after_zeros zero xs = refl
after_zeros (suc n) xs = after_zeros n xs

remainder_length : (n : ℕ) (xs : List Bool) → n ≤ length xs → length (remainder n xs) + n ≡ length xs
remainder_length zero xs le = omega arith
remainder_length (suc n) [] le = absurd (omega (arith, le))
remainder_length (suc n) (true ∷ xs) le =
    let l = less_length generator xs in
    let old = remainder_length n (subtracted generator xs) (omega (arith, le)) in
    omega arith
remainder_length (suc n) (false ∷ xs) le = let old = remainder_length n xs (omega (arith, le)) in omega arith

-- one more bit at the end
less_snoc : (gs xs : List Bool) (b : Bool) → length gs ≤ length xs → subtracted gs (xs ++ b ∷ []) ≡ subtracted gs xs ++ b ∷ []
less_snoc [] xs b le = refl
less_snoc (g ∷ gs) [] b le = absurd (omega (arith, le))
less_snoc (g ∷ gs) (x ∷ xs) b le = ap (λ ys. differ g x ∷ ys) (less_snoc gs xs b (omega (arith, le)))

remainder_snoc : (n : ℕ) (xs : List Bool) (b : Bool) → n + 15 ≤ length xs → remainder n (xs ++ b ∷ []) ≡ remainder n xs ++ b ∷ []
remainder_snoc zero xs b le = refl
remainder_snoc (suc n) [] b le = absurd (omega (arith, le))
remainder_snoc (suc n) (true ∷ xs) b le =
    let l = less_length generator xs in
    ap (remainder n) (less_snoc generator xs b (omega (arith, le))) ∙ remainder_snoc n (subtracted generator xs) b (omega (arith, le))
remainder_snoc (suc n) (false ∷ xs) b le = remainder_snoc n xs b (omega (arith, le))

step_more : (n : ℕ) (xs : List Bool) → remainder (suc n) xs ≡ remainder 1 (remainder n xs)
step_more zero xs = refl
step_more (suc n) [] = refl
step_more (suc n) (true ∷ xs) = step_more n (subtracted generator xs)
step_more (suc n) (false ∷ xs) = step_more n xs

-- the generator ends with a 1, so the last step of a division without a remainder takes nothing from a list that ends with a 0
abbrev generator_front : List Bool
generator_front = true ∷ false ∷ false ∷ false ∷ true ∷ false ∷ true ∷ true ∷ false ∷ false ∷ true ∷ true ∷ false ∷ false ∷ []

ends_with : (gs xs : List Bool) → length gs ≡ length xs → subtracted (gs ++ true ∷ []) (xs ++ false ∷ []) ≡ subtracted gs xs ++ true ∷ []
ends_with [] [] e = refl
ends_with [] (x ∷ xs) e = absurd (omega (arith, e))
ends_with (g ∷ gs) [] e = absurd (omega (arith, e))
ends_with (g ∷ gs) (x ∷ xs) e = ap (λ ys. differ g x ∷ ys) (ends_with gs xs (omega (arith, e)))

last_step : (r : List Bool) → length r ≡ 15 → is_zero (remainder 1 (r ++ false ∷ [])) ≡ true → is_zero r ≡ true
last_step [] e h = absurd (omega (arith, e))
last_step (true ∷ r) e h =
    let one : is_zero (subtracted generator (r ++ false ∷ [])) ≡ (is_zero (subtracted generator_front r) && false) =
    ap is_zero (ends_with generator_front r (omega (arith, e))) ∙ zero_append (subtracted generator_front r) (true ∷ []) in
    absurd (never (is_zero (subtracted generator_front r)) (sym one ∙ h))
  where
    never : (b : Bool) → (b && false) ≡ true → ⊥
    never true e = cc
    never false e = cc
last_step (false ∷ r) e h = (and_parts (is_zero r) (is_zero (false ∷ [])) (sym (zero_append r (false ∷ [])) ∙ h)).0

strip : (n : ℕ) (xs : List Bool) → length xs ≡ n + 15 → is_zero (remainder (suc n) (xs ++ false ∷ [])) ≡ true → is_zero (remainder n xs) ≡ true
strip n xs e h =
    let l = remainder_length n xs (omega arith) in
    last_step (remainder n xs) (omega arith) (ap is_zero (ap (remainder 1) (sym (remainder_snoc n xs false (omega arith))) ∙ sym (step_more n (xs ++ false ∷ []))) ∙ h)

-- a difference of 15 bits in a row at most
zeros_snoc : (n : ℕ) → zeros (suc n) ≡ zeros n ++ false ∷ []
zeros_snoc zero = refl
zeros_snoc (suc n) = ap (λ ys. false ∷ ys) (zeros_snoc n)

zeros_split : (m n : ℕ) → zeros (m + n) ≡ zeros m ++ zeros n
zeros_split zero n = ap zeros (let e : 0 + n ≡ n = omega arith in e)
zeros_split (suc m) n = ap zeros (let e : suc m + n ≡ suc (m + n) = omega arith in e) ∙ ap (λ ys. false ∷ ys) (zeros_split m n)

inner : (front e rest : List Bool) → is_zero (front ++ (e ++ rest)) ≡ true → is_zero e ≡ true
inner front e rest h =
    let both = (and_parts (is_zero front) (is_zero (e ++ rest)) (sym (zero_append front (e ++ rest)) ∙ h)).1 in
    (and_parts (is_zero e) (is_zero rest) (sym (zero_append e rest) ∙ both)).0

finish : (z n f : ℕ) (e : List Bool) → f + (length e + z) ≡ n + 15 → length e ≤ 15 → is_zero (remainder n (zeros f ++ (e ++ zeros z))) ≡ true → is_zero e ≡ true
finish z zero f e long short h = inner (zeros f) e (zeros z) h
finish zero (suc n) f e long short h =
    let split : zeros f ≡ zeros (suc n) ++ zeros (f - suc n) = ap zeros (let m : f ≡ suc n + (f - suc n) = omega arith in m) ∙ zeros_split (suc n) (f - suc n) in
    let there : remainder (suc n) (zeros f ++ (e ++ [])) ≡ zeros (f - suc n) ++ (e ++ []) =
    ap (λ ys. remainder (suc n) (ys ++ (e ++ []))) split ∙ ap (remainder (suc n)) (append_assoc (zeros (suc n)) (zeros (f - suc n)) (e ++ []))
    ∙ after_zeros (suc n) (zeros (f - suc n) ++ (e ++ [])) in
    inner (zeros (f - suc n)) e [] (ap is_zero (sym there) ∙ h)
finish (suc z) (suc n) f e long short h =
    let lf = length-replicate f false in
    let lz = length-replicate z false in
    let le = length-append e (zeros z) in
    let ll = length-append (zeros f) (e ++ zeros z) in
    let joined : zeros f ++ (e ++ zeros (suc z)) ≡ (zeros f ++ (e ++ zeros z)) ++ false ∷ [] =
    ap (λ ys. zeros f ++ (e ++ ys)) (zeros_snoc z) ∙ ap (λ ys. zeros f ++ ys) (sym (append_assoc e (zeros z) (false ∷ []))) ∙ sym (append_assoc (zeros f) (e ++ zeros z) (false ∷ [])) in
    finish z n f e (omega arith) short (strip n (zeros f ++ (e ++ zeros z)) (omega arith) (ap (λ ys. is_zero (remainder (suc n) ys)) (sym joined) ∙ h))

-- a frame has the remainder 0
abbrev bits : List Level → List Bool
bits levels = map bit_of_level levels

back : (qs : List Bool) → bits (map level_of_bit qs) ≡ qs
back [] = refl
back (true ∷ qs) = ap (λ ys. true ∷ ys) (back qs)
back (false ∷ qs) = ap (λ ys. false ∷ ys) (back qs)

crc_size : (m : List Level) → length (crc_bits m) ≡ 15
crc_size m =
    let a = length-map m bit_of_level in
    let b = length-append (bits m) (zeros 15) in
    let d = length-replicate 15 false in
    let l = remainder_length (length m) (bits m ++ zeros 15) (omega arith) in
    omega arith

frame_zero : (m : List Level) → is_zero (remainder (length m) (bits (with_crc m))) ≡ true
frame_zero m =
    let a = length-map m bit_of_level in
    let d = length-replicate 15 false in
    let dm = length-replicate (length m) false in
    let r = crc_size m in
    let l1 = length-append (bits m) (zeros 15) in
    let l2 = length-append (zeros (length m)) (crc_bits m) in
    let spelled : bits (with_crc m) ≡ bits m ++ crc_bits m = map-append bit_of_level m (map level_of_bit (crc_bits m)) ∙ ap (λ ys. bits m ++ ys) (back (crc_bits m)) in
    let sum : plus (bits m ++ zeros 15) (zeros (length m) ++ crc_bits m) ≡ bits m ++ crc_bits m =
    plus_append (bits m) (zeros (length m)) (zeros 15) (crc_bits m) (omega arith)
    ∙ ap (λ ys. ys ++ plus (zeros 15) (crc_bits m)) (plus_zeros (bits m) (length m) a) ∙ ap (λ ys. bits m ++ ys) (zeros_plus 15 (crc_bits m) r) in
    let rest : remainder (length m) (bits m ++ crc_bits m) ≡ plus (crc_bits m) (crc_bits m) =
    ap (remainder (length m)) (sym sum) ∙ linear (length m) (bits m ++ zeros 15) (zeros (length m) ++ crc_bits m) (omega arith)
    ∙ ap (plus (crc_bits m)) (after_zeros (length m) (crc_bits m)) in
    ap (λ ys. is_zero (remainder (length m) ys)) spelled ∙ ap is_zero rest ∙ zero_self (crc_bits m)

same_levels : (a b : List Level) → length a ≡ length b → is_zero (plus (bits a) (bits b)) ≡ true → a ≡ b
same_levels [] [] e h = refl
same_levels [] (b ∷ qs) e h = absurd (omega (arith, e))
same_levels (a ∷ ps) [] e h = absurd (omega (arith, e))
same_levels (Dominant ∷ ps) (Dominant ∷ qs) e h = ap (λ ys. Dominant ∷ ys) (same_levels ps qs (omega (arith, e)) h)
same_levels (Recessive ∷ ps) (Recessive ∷ qs) e h = ap (λ ys. Recessive ∷ ys) (same_levels ps qs (omega (arith, e)) h)
same_levels (Dominant ∷ ps) (Recessive ∷ qs) e h = cc
same_levels (Recessive ∷ ps) (Dominant ∷ qs) e h = cc

spelled : (front here rest : List Level) → bits (front ++ (here ++ rest)) ≡ bits front ++ (bits here ++ bits rest)
spelled front here rest = map-append bit_of_level front (here ++ rest) ∙ ap (λ ys. bits front ++ ys) (map-append bit_of_level here rest)

module _ (front here there rest m k : List Level) (same : length here ≡ length there) (short : length here ≤ 15)
    (first : with_crc m ≡ front ++ (here ++ rest)) (second : with_crc k ≡ front ++ (there ++ rest)) where
  abbrev e : List Bool
  e = plus (bits here) (bits there)

  sizes : (c : List Level) → length (with_crc c) ≡ length c + 15
  sizes c =
      let r = crc_size c in
      let l = length-append c (map level_of_bit (crc_bits c)) in
      let d = length-map (crc_bits c) level_of_bit in
      omega arith

  longs : (mid : List Level) → length (front ++ (mid ++ rest)) ≡ length front + (length mid + length rest)
  longs mid = let a = length-append front (mid ++ rest) in let b = length-append mid rest in omega arith

  long : length front + (length here + length rest) ≡ length m + 15
  long = sym (longs here) ∙ ap length (sym first) ∙ sizes m

  size : length m ≡ length k
  size =
      let a = sizes m in
      let b = sizes k in
      let p = ap length first in
      let q = ap length second in
      let u = longs here in
      let v = longs there in
      omega arith

  difference : plus (bits (with_crc m)) (bits (with_crc k)) ≡ zeros (length front) ++ (e ++ zeros (length rest))
  difference =
      let lh = length-map here bit_of_level in
      let lt = length-map there bit_of_level in
      let lf = length-map front bit_of_level in
      let lr = length-map rest bit_of_level in
      let pf = plus_length (bits front) (bits front) refl in
      let pr = plus_length (bits rest) (bits rest) refl in
      ap (λ ls. plus (bits ls) (bits (with_crc k))) first ∙ ap (λ ls. plus (bits (front ++ (here ++ rest))) (bits ls)) second
      ∙ ap (λ ys. plus ys (bits (front ++ (there ++ rest)))) (spelled front here rest) ∙ ap (plus (bits front ++ (bits here ++ bits rest))) (spelled front there rest)
      ∙ plus_append (bits front) (bits front) (bits here ++ bits rest) (bits there ++ bits rest) refl
      ∙ ap (λ ys. plus (bits front) (bits front) ++ ys) (plus_append (bits here) (bits there) (bits rest) (bits rest) (omega arith))
      ∙ ap (λ ys. ys ++ (e ++ plus (bits rest) (bits rest))) (zeros_are (plus (bits front) (bits front)) (zero_self (bits front)) ∙ ap zeros (pf ∙ lf))
      ∙ ap (λ ys. zeros (length front) ++ (e ++ ys)) (zeros_are (plus (bits rest) (bits rest)) (zero_self (bits rest)) ∙ ap zeros (pr ∙ lr))

  no_difference : is_zero e ≡ true
  no_difference =
      let lh = length-map here bit_of_level in
      let lt = length-map there bit_of_level in
      let le = plus_length (bits here) (bits there) (omega arith) in
      let lm = length-map (with_crc m) bit_of_level in
      let lk = length-map (with_crc k) bit_of_level in
      let sm = sizes m in
      let sk = sizes k in
      let g = long in
      let z = size in
      finish (length rest) (length m) (length front) e (omega arith) (omega arith)
      (ap (λ ys. is_zero (remainder (length m) ys)) (sym difference)
      ∙ ap is_zero (linear (length m) (bits (with_crc m)) (bits (with_crc k)) (omega arith))
      ∙ zero_plus (remainder (length m) (bits (with_crc m))) (remainder (length m) (bits (with_crc k))) (frame_zero m)
      (ap (λ n. is_zero (remainder n (bits (with_crc k)))) size ∙ frame_zero k))

  pub one_frame : with_crc m ≡ with_crc k
  one_frame = first ∙ ap (λ ls. front ++ (ls ++ rest)) (same_levels here there same no_difference) ∙ sym second

pub burst_found : (a b : List Level) (c d : Content) → IsFrame a c → IsFrame b d → DifferWithin burst_bits a b → a ≡ b
burst_found a b c d p q w =
    let pa : a ≡ with_crc (bits_before_crc c p.1) = p.2 in
    let qb : b ≡ with_crc (bits_before_crc d q.1) = q.2 in
    pa ∙ one_frame w.front w.here w.there w.rest (bits_before_crc c p.1) (bits_before_crc d q.1) w.same w.short (sym pa ∙ w.a_is) (sym qb ∙ w.b_is) ∙ sym qb
