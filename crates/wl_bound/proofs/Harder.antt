-- A bus that is no easier in any respect: if the condition holds for it, it holds for the other.
use Rattle.std.proofs.Common.{◌≡◌, ◌≢◌, ℕ, zero, suc, ◌+◌, ◌-◌, ◌*◌, ◌<◌, ◌≤◌, ◌==◌, ◌&&◌, ◌||◌, ◌∙◌, ◌⊎◌, nat_lt, nat_le, not, min, max, Bool, true, false, cond, inl, inr, refl, ap, ap₂, subst, sym, arith}
use Rattle.std.specs.Int.{div_ceil}
use Rattle.std.proofs.lemmas.Bool.{cases_lt, le-leb, lt-leb}
use Rattle.std.proofs.lemmas.Grind.{div_ceil_times}
use Rattle.std.proofs.Math.Nat.{mul-le-mul, mul-le-mul_left, mul-le-mul_right}
use Rattle.wl_segments.specs.Lengths.{Lengths, bit_quanta, sample_at}
use Rattle.wl_level.specs.Places.{count_places}
use Rattle.wl_topology.specs.Driven.{any_below}
use Rattle.wl_bound.specs.declared.condition.Inequality.{Inequality}
use Rattle.wl_bound.specs.declared.condition.Inequality.TheVariants.{DriftFitsJump, BitIsThereAtSample, NoBitTooEarly}
use Rattle.wl_bound.specs.Families.{Bus}
use Rattle.wl_bound.specs.Terms.{ahead, answered, apart, behind, chase, drift, early, edges, greatest, is_answering, is_third, jump, late, look, lost, pull, pulled, sends_but, sends_third, several, spread, strays, sum_of, there_and_back, tour, trip, way}
use Rattle.wl_bound.specs.Conditions.{IsSound, is_asked, left_of, right_of}

-- c is no easier than b: the same nodes, segments, senders, listeners and changes of rates, quanta that may be shorter and longer, the same own loops and ways on the plan's cable, longer delays and detours
pub record IsHarder (b c : Bus) : Type 0 where
  pub nodes : b.nodes ≡ c.nodes
  pub tick : b.tick ≡ c.tick
  pub lengths : (i : ℕ) → b.lengths i ≡ c.lengths i
  pub sends : (i : ℕ) → b.sends i ≡ c.sends i
  pub listens : (i : ℕ) → b.listens i ≡ c.listens i
  pub turns : (i : ℕ) → b.turns i ≡ c.turns i
  pub shorter : (i : ℕ) → c.shortest i ≤ b.shortest i
  pub longer : (i : ℕ) → b.longest i ≤ c.longest i
  pub own : (i : ℕ) → b.delay i i ≡ c.delay i i
  pub planned : (i j : ℕ) → b.delay i j - b.added i j ≡ c.delay i j - c.added i j
  pub delays : (i j : ℕ) → b.delay i j ≤ c.delay i j
  pub detours : (k j i : ℕ) → b.delay k j + b.delay j i + c.delay k i ≤ c.delay k j + c.delay j i + b.delay k i

-- the greatest of greater numbers is greater
pick_le : (t u : Bool) (x y : ℕ) → t ≡ u → x ≤ y → cond t x 0 ≤ cond u y 0
pick_le true true x y e h = h
pick_le true false x y e h = absurd (cc)
pick_le false u x y e h = omega arith

max_le : (a b x y : ℕ) → a ≤ b → x ≤ y → max a x ≤ max b y
max_le a b x y h k = omega arith

pub greatest_le : (n : ℕ) (t u : ℕ → Bool) (f g : ℕ → ℕ) → ((k : ℕ) → t k ≡ u k) → ((k : ℕ) → f k ≤ g k) → greatest n t f ≤ greatest n u g
greatest_le zero t u f g e h = omega arith
greatest_le (suc n) t u f g e h =
    max_le (greatest n t f) (greatest n u g) _ _ (greatest_le n t u f g e h) (pick_le (t n) (u n) (f n) (g n) (e n) (h n))

count_same : (n : ℕ) (t u : ℕ → Bool) → ((k : ℕ) → t k ≡ u k) → count_places t n ≡ count_places u n
count_same zero t u e = refl
count_same (suc n) t u e = (let rest = count_same n t u e in let here = e n in cc)

sum_same : (n : ℕ) (t : ℕ → Bool) (f g : ℕ → ℕ) → ((k : ℕ) → f k ≡ g k) → sum_of n t f ≡ sum_of n t g
sum_same zero t f g e = refl
sum_same (suc n) t f g e = ap₂ (λ x y. x + cond (t n) y 0) (sum_same n t f g e) (e n)

pub any_same : (n : ℕ) (t u : ℕ → Bool) → ((k : ℕ) → t k ≡ u k) → any_below n t ≡ any_below n u
any_same zero t u e = refl
any_same (suc n) t u e = (let rest = any_same n t u e in let here = e n in cc)

-- division rounded up
pub ceil_le : (x y p q : ℕ) → 0 < q → q ≤ p → x ≤ y → div_ceil x p ≤ div_ceil y q
ceil_le x y p q low less more =
    elim (cases_lt (div_ceil y q) (div_ceil x p)) [
      | inl above ↦
          (let upper = (div_ceil_times y q low).0 in
          let lower = (div_ceil_times x p (omega arith)).1 in
          let wide : div_ceil y q * q ≤ div_ceil y q * p = mul-le-mul_left (div_ceil y q) less in
          let step : suc (div_ceil y q) * p ≤ div_ceil x p * p = mul-le-mul_right p above in
          absurd (omega arith))
      | inr within ↦ within
    ]

sends_but_same : (b c : Bus) → IsHarder b c → (i k : ℕ) → sends_but b i k ≡ sends_but c i k
sends_but_same b c h i k = ap (λ v. v && not (k == i)) (h.sends k)

sends_third_same : (b c : Bus) → IsHarder b c → (i j k : ℕ) → sends_third b i j k ≡ sends_third c i j k
sends_third_same b c h i j k = ap (λ v. (v && not (k == i)) && not (k == j)) (h.sends k)

-- over the nodes of both
over : (b c : Bus) → IsHarder b c → (t u : ℕ → Bool) (f g : ℕ → ℕ) → ((k : ℕ) → t k ≡ u k) → ((k : ℕ) → f k ≤ g k)
    → greatest b.nodes t f ≤ greatest c.nodes u g
over b c h t u f g e k =
    let P : ℕ → Type 0 = λ n. greatest b.nodes t f ≤ greatest n u g in
    subst P h.nodes (greatest_le b.nodes t u f g e k)

drift_le : (b c : Bus) → IsHarder b c → (i j : ℕ) → drift b i j ≤ drift c i j
unfolding drift
drift_le b c h i j =
    let Q : Lengths → Lengths → Type 0 = λ l m. bit_quanta (b.lengths i) * b.longest i - bit_quanta (b.lengths j) * b.shortest j
    ≤ bit_quanta l * c.longest i - bit_quanta m * c.shortest j in
    let first : bit_quanta (b.lengths i) * b.longest i ≤ bit_quanta (b.lengths i) * c.longest i =
    mul-le-mul_left (bit_quanta (b.lengths i)) (h.longer i) in
    let second : bit_quanta (b.lengths j) * c.shortest j ≤ bit_quanta (b.lengths j) * b.shortest j =
    mul-le-mul_left (bit_quanta (b.lengths j)) (h.shorter j) in
    let both : Q (b.lengths i) (b.lengths j) = omega arith in
    subst (λ l. Q l (c.lengths j)) (h.lengths i) (subst (λ m. Q (b.lengths i) m) (h.lengths j) both)

jump_le : (b c : Bus) → IsHarder b c → (i : ℕ) → jump c i ≤ jump b i
unfolding jump
jump_le b c h i =
    subst (λ (l : Lengths). l.sjw * c.shortest i ≤ (b.lengths i).sjw * b.shortest i) (h.lengths i)
    (mul-le-mul_left (b.lengths i).sjw (h.shorter i))

look_le : (b c : Bus) → IsHarder b c → (i : ℕ) → look b i ≤ look c i
unfolding look
look_le b c h i = (let a = h.longer i in let d = h.own i in let t = h.tick in omega arith)

trip_le : (b c : Bus) → IsHarder b c → (i j k : ℕ) → trip b i j k ≤ trip c i j k
unfolding trip
trip_le b c h i j k = pick (k == i)
  where
    two : (n m : ℕ) (x y : ℕ) → n ≡ m → x ≤ y → cond (nat_lt 2 n) x 0 ≤ cond (nat_lt 2 m) y 0
    two n m x y e less = pick_le (nat_lt 2 n) (nat_lt 2 m) x y (ap (λ v. nat_lt 2 v) e) less

    pick : (v : Bool)
        → cond v (b.delay i j + b.delay j i + cond (nat_lt 2 b.nodes) (look b i) 0) (b.delay k j + b.delay j i + b.longest i + b.tick - b.delay k i)
        ≤ cond v (c.delay i j + c.delay j i + cond (nat_lt 2 c.nodes) (look c i) 0) (c.delay k j + c.delay j i + c.longest i + c.tick - c.delay k i)
    pick true =
        (let there = h.delays i j in let back = h.delays j i in let ahead = two b.nodes c.nodes (look b i) (look c i) h.nodes (look_le b c h i) in
        omega arith)
    pick false = (let round = h.detours k j i in let long = h.longer i in let t = h.tick in let away = h.delays k i in omega arith)

way_le : (b c : Bus) → IsHarder b c → (i j : ℕ) → way b i j ≤ way c i j
unfolding way
way_le b c h i j =
    let first = over b c h (sends_but b j) (sends_but c j) (trip b i j) (trip c i j) (sends_but_same b c h j) (trip_le b c h i j) in
    let second = over b c h (is_third i j) (is_third i j) (look b) (look c) (λ k. refl) (look_le b c h) in
    omega arith

ahead_same : (b c : Bus) → IsHarder b c → (j : ℕ) → ahead b j ≡ ahead c j
unfolding ahead
ahead_same b c h j =
    sum_same b.nodes (λ w. not (w == j)) b.turns c.turns h.turns ∙ ap (λ n. sum_of n (λ w. not (w == j)) c.turns) h.nodes

late_sender_le : (b c : Bus) → IsHarder b c → (i a : ℕ) → way b i a + 10 * drift b a i + ahead b a ≤ way c i a + 10 * drift c a i + ahead c a
late_sender_le b c h i a = (let w = way_le b c h i a in let d = drift_le b c h a i in let l = ahead_same b c h a in omega arith)

several_same : (b c : Bus) → IsHarder b c → several b ≡ several c
unfolding several
several_same b c h =
    ap (λ n. nat_lt 1 n) (count_same b.nodes b.sends c.sends h.sends ∙ ap (count_places c.sends) h.nodes)

early_le : (b c : Bus) → IsHarder b c → (i : ℕ) → early b i ≤ early c i
unfolding early
early_le b c h i =
    pick_le (several b) (several c) _ _ (several_same b c h)
    (over b c h (sends_but b i) (sends_but c i) (λ a. way b i a + 10 * drift b a i + ahead b a) (λ a. way c i a + 10 * drift c a i + ahead c a)
    (sends_but_same b c h i) (late_sender_le b c h i))

lost_le : (b c : Bus) → IsHarder b c → (i : ℕ) → lost b i ≤ lost c i
unfolding lost
lost_le b c h i =
    let most = over b c h (sends_but b i) (sends_but c i) (λ a. drift b a i) (λ a. drift c a i) (sends_but_same b c h i) (λ a. drift_le b c h a i) in
    omega arith

-- a quotient of no more than 14, and one of more
pub ceil_within : (x d : ℕ) → 0 < d → x ≤ 14 * d → div_ceil x d ≤ 14
ceil_within x d some le =
    elim (cases_lt 14 (div_ceil x d)) [
      | inl above ↦
          (let lower = (div_ceil_times x d some).1 in
          let wide : 15 * d ≤ div_ceil x d * d = mul-le-mul_right d above in
          absurd (omega arith))
      | inr within ↦ within
    ]

ceil_beyond : (x d : ℕ) → 0 < d → 14 * d < x → 14 < div_ceil x d
ceil_beyond x d some lt =
    elim (cases_lt 14 (div_ceil x d)) [
      | inl above ↦ above
      | inr within ↦
          (let upper = (div_ceil_times x d some).0 in
          let wide : div_ceil x d * d ≤ 14 * d = mul-le-mul_right d within in
          absurd (omega arith))
    ]

-- the edges that are not sparse, and all, by their numbers alone
many_by : ℕ → ℕ → ℕ → ℕ
many_by x j l = cond (nat_le j 0) 74 (min 74 (div_ceil (x + 14 * l) j))

edges_by : ℕ → ℕ → ℕ → ℕ → ℕ
edges_by e q j l = cond (nat_le e q) 0 (cond (nat_le (e - q) (14 * (j - l))) (div_ceil (e - q) (j - l)) (many_by (e - q) j l))

many_beyond : (y k m : ℕ) → 14 * (k - m) < y → 14 ≤ many_by y k m
unfolding many_by
many_beyond y k m lt =
    elim (cases_lt 0 k) [
      | inr none ↦ rw (le-leb k 0 none) (omega arith)
      | inl some ↦ rw (lt-leb k 0 some) (let more = ceil_beyond (y + 14 * m) k some (omega arith) in omega arith)
    ]

many_le : (x y j k l m : ℕ) → x ≤ y → k ≤ j → l ≤ m → many_by x j l ≤ many_by y k m
unfolding many_by
many_le x y j k l m hx hj hl =
    elim (cases_lt 0 k) [
      | inr none ↦ rw (le-leb k 0 none) (at_most (nat_le j 0) (div_ceil (x + 14 * l) j))
      | inl some ↦
          rw (lt-leb k 0 some, lt-leb j 0 (omega arith)) (let less = ceil_le (x + 14 * l) (y + 14 * m) j k some hj (omega arith) in omega arith)
    ]
  where
    at_most : (v : Bool) (n : ℕ) → cond v 74 (min 74 n) ≤ 74
    at_most true n = omega arith
    at_most false n = omega arith

edges_by_le : (e q j l f r k m : ℕ) → e ≤ f → r ≤ q → k ≤ j → l ≤ m → edges_by e q j l ≤ edges_by f r k m
unfolding edges_by
edges_by_le e q j l f r k m he hq hj hl =
    elim (cases_lt q e) [
      | inr soon ↦ rw (le-leb e q soon) (omega arith)
      | inl far ↦ rw (lt-leb e q far, lt-leb f r (omega arith)) (later far (cases_lt (14 * (j - l)) (e - q)) (cases_lt (14 * (k - m)) (f - r)))
    ]
  where
    later : q < e → (14 * (j - l) < e - q) ⊎ (e - q ≤ 14 * (j - l)) → (14 * (k - m) < f - r) ⊎ (f - r ≤ 14 * (k - m))
        → cond (nat_le (e - q) (14 * (j - l))) (div_ceil (e - q) (j - l)) (many_by (e - q) j l)
        ≤ cond (nat_le (f - r) (14 * (k - m))) (div_ceil (f - r) (k - m)) (many_by (f - r) k m)
    later far (inl dense) (inl other) =
        rw (lt-leb (e - q) (14 * (j - l)) dense, lt-leb (f - r) (14 * (k - m)) other) (many_le (e - q) (f - r) j k l m (omega arith) hj hl)
    later far (inl dense) (inr other) = absurd (omega arith)
    later far (inr sparse) (inl other) =
        rw (le-leb (e - q) (14 * (j - l)) sparse, lt-leb (f - r) (14 * (k - m)) other)
        (let few = ceil_within (e - q) (j - l) (omega arith) sparse in let more = many_beyond (f - r) k m other in omega arith)
    later far (inr sparse) (inr other) =
        rw (le-leb (e - q) (14 * (j - l)) sparse, le-leb (f - r) (14 * (k - m)) other)
        (ceil_le (e - q) (f - r) (j - l) (k - m) (omega arith) (omega arith) (omega arith))

edges_le : (b c : Bus) → IsHarder b c → (i : ℕ) → edges b i ≤ edges c i
unfolding edges edges_by many_by
edges_le b c h i =
    edges_by_le (early b i) (b.shortest i) (jump b i) (lost b i) (early c i) (c.shortest i) (jump c i) (lost c i)
    (early_le b c h i) (h.shorter i) (jump_le b c h i) (lost_le b c h i)

third_same : (b c : Bus) → IsHarder b c → (i j : ℕ) → any_below b.nodes (sends_third b i j) ≡ any_below c.nodes (sends_third c i j)
third_same b c h i j =
    any_same b.nodes (sends_third b i j) (sends_third c i j) (sends_third_same b c h i j) ∙ ap (λ n. any_below n (sends_third c i j)) h.nodes

chase_le : (b c : Bus) → IsHarder b c → (i j : ℕ) → chase b i j ≤ chase c i j
unfolding chase
chase_le b c h i j =
    let one = edges_le b c h i in
    let other = edges_le b c h j in
    pick_le (any_below b.nodes (sends_third b i j)) (any_below c.nodes (sends_third c i j)) _ _ (third_same b c h i j) (omega arith)

spread_le : (b c : Bus) → IsHarder b c → (i j : ℕ) → spread b i j ≤ spread c i j
unfolding spread
spread_le b c h i j =
    let moves : (b.lengths j).sjw * b.longest j ≤ (c.lengths j).sjw * c.longest j =
    subst (λ (l : Lengths). (b.lengths j).sjw * b.longest j ≤ l.sjw * c.longest j) (h.lengths j)
    (mul-le-mul_left (b.lengths j).sjw (h.longer j)) in
    let jumps = jump_le b c h i in
    let drifts = drift_le b c h j i in
    omega arith

apart_le : (b c : Bus) → IsHarder b c → (i j : ℕ) → apart b i j ≤ apart c i j
unfolding apart
apart_le b c h i j = mul-le-mul (chase_le b c h i j) (spread_le b c h i j)

tour_le : (b c : Bus) → IsHarder b c → (i j : ℕ) → tour b i j ≤ tour c i j
unfolding tour
tour_le b c h i j =
    over b c h (sends_third b i j) (sends_third c i j) _ _ (sends_third_same b c h i j)
    (λ a. (let comes = late_sender_le b c h i a in let round = h.detours a j i in let away = h.delays a i in omega arith))

behind_le : (b c : Bus) → IsHarder b c → (j a : ℕ) → behind b j a ≤ behind c j a
unfolding behind
behind_le b c h j a =
    (let gathers : edges b j * spread b a j ≤ edges c j * spread c a j = mul-le-mul (edges_le b c h j) (spread_le b c h a j) in
    let l = look_le b c h a in let d = drift_le b c h j a in let k = jump_le b c h j in omega arith)

answering_same : (b c : Bus) → IsHarder b c → (i j a : ℕ) → is_answering b i j a ≡ is_answering c i j a
answering_same b c h i j a = ap₂ (λ u v. not u && is_third i j a && v) (h.listens a) (third_same b c h a j)

answered_le : (b c : Bus) → IsHarder b c → (i j : ℕ) → answered b i j ≤ answered c i j
unfolding answered
answered_le b c h i j =
    pick_le (several b) (several c) _ _ (several_same b c h)
    (over b c h (is_answering b i j) (is_answering c i j) (λ a. trip b i j a + behind b j a) (λ a. trip c i j a + behind c j a)
    (answering_same b c h i j) (λ a. (let t = trip_le b c h i j a in let g = behind_le b c h j a in omega arith)))

late_le : (b c : Bus) → IsHarder b c → (i j : ℕ) → late b i j ≤ late c i j
unfolding late
late_le b c h i j =
    (let w = way_le b c h i j in let a = apart_le b c h i j in let t = tour_le b c h i j in let n = answered_le b c h i j in omega arith)

strays_le : (b c : Bus) → IsHarder b c → (j : ℕ) → strays b j ≤ strays c j
unfolding strays
strays_le b c h j = over b c h (λ w. not (w == j)) (λ w. not (w == j)) (drift b j) (drift c j) (λ k. refl) (drift_le b c h j)

pull_le : (b c : Bus) → IsHarder b c → (i j : ℕ) → pull b i j ≤ pull c i j
unfolding pull
pull_le b c h i j =
    let more = look_le b c h j in
    let there = h.planned j i in
    let back = h.planned i j in
    let long = h.longer j in
    let t = h.tick in
    let alone =
    pick_le (b.sends i) (c.sends i) (b.longest j + b.tick - there_and_back b i j) (c.longest j + c.tick - there_and_back c i j) (h.sends i) (omega arith) in
    pick_le (b.sends j) (c.sends j) _ _ (h.sends j)
    (choose_le (any_below b.nodes (sends_third b i j)) (any_below c.nodes (sends_third c i j)) _ _ _ _ (third_same b c h i j) more alone)
  where
    choose_le : (t u : Bool) (x y v w : ℕ) → t ≡ u → x ≤ y → v ≤ w → cond t x v ≤ cond u y w
    choose_le true true x y v w e h k = h
    choose_le false false x y v w e h k = k
    choose_le true false x y v w e h k = absurd (cc)
    choose_le false true x y v w e h k = absurd (cc)

-- the jump that node i has beyond that of j may grow, but not the room of both
drift_fits : (b c : Bus) → IsHarder b c → (i j : ℕ) → left_of c DriftFitsJump i j ≤ right_of c DriftFitsJump i j
    → left_of b DriftFitsJump i j ≤ right_of b DriftFitsJump i j
unfolding left_of right_of pulled
drift_fits b c h i j fits =
    let d = drift_le b c h i j in
    let p = pull_le b c h i j in
    let one = jump_le b c h i in
    let other = jump_le b c h j in
    both (drift b i j) (drift c i j) (pull b i j) (pull c i j) (jump b i) (jump c i) (jump b j) (jump c j) d p one other fits
  where
    both : (d e p q j k l m : ℕ) → d ≤ e → p ≤ q → k ≤ j → m ≤ l → 10 * e + (q - (k - m)) ≤ min k m → 10 * d + (p - (j - l)) ≤ min j l
    both d e p q j k l m de pq kj ml fits = omega arith

pub left_le : (b c : Bus) → IsHarder b c → (e : Inequality) (i j : ℕ) → e ≢ DriftFitsJump → left_of b e i j ≤ left_of c e i j
unfolding left_of
left_le b c h DriftFitsJump i j other = absurd (other refl)
left_le b c h BitIsThereAtSample i j other = pick (i == j)
  where
    pick : (v : Bool)
        → cond v (b.delay i i + b.turns i) (late b i j + 11 * strays b j + ahead b j) ≤ cond v (c.delay i i + c.turns i) (late c i j + 11 * strays c j + ahead c j)
    pick true = (let d = h.delays i i in let n = h.turns i in omega arith)
    pick false = (let l = late_le b c h i j in let s = strays_le b c h j in let n = ahead_same b c h j in omega arith)
left_le b c h NoBitTooEarly i j other =
    (let l = look_le b c h j in let d = drift_le b c h i j in let a = apart_le b c h j i in let y = early_le b c h j in let o = h.own j in
    let t = h.tick in let n = ahead_same b c h i in omega arith)

pub right_le : (b c : Bus) → IsHarder b c → (e : Inequality) (i j : ℕ) → right_of c e i j ≤ right_of b e i j
unfolding right_of
right_le b c h DriftFitsJump i j = (let one = jump_le b c h i in let other = jump_le b c h j in omega arith)
right_le b c h BitIsThereAtSample i j =
    subst (λ (l : Lengths). sample_at l * c.shortest i ≤ sample_at (b.lengths i) * b.shortest i) (h.lengths i)
    (mul-le-mul_left (sample_at (b.lengths i)) (h.shorter i))
right_le b c h NoBitTooEarly i j =
    subst (λ (l : Lengths). l.ps2 * c.shortest i ≤ (b.lengths i).ps2 * b.shortest i) (h.lengths i)
    (mul-le-mul_left (b.lengths i).ps2 (h.shorter i))

-- what is asked of a pair of the one is asked of the other
asked_same : (b c : Bus) → IsHarder b c → (e : Inequality) (i j : ℕ) → is_asked b.listens e i j ≡ is_asked c.listens e i j
asked_same b c h DriftFitsJump i j = (let one = h.listens i in let other = h.listens j in cc)
asked_same b c h BitIsThereAtSample i j = ap (λ v. i == j || not v) (h.listens j)
asked_same b c h NoBitTooEarly i j = ap (λ v. not (i == j) && not v) (h.listens j)

pub sound_le : (b c : Bus) → IsHarder b c → IsSound c → IsSound b
sound_le b c h s = record {
  drift_fits_jump = λ i j bi bj asked.
      (let n = h.nodes in
      drift_fits b c h i j (s.drift_fits_jump i j (omega arith) (omega arith) (sym (asked_same b c h DriftFitsJump i j) ∙ asked)));
  bit_is_there_at_sample = λ i j bi bj asked.
      (let l = left_le b c h BitIsThereAtSample i j (λ e. cc) in let r = right_le b c h BitIsThereAtSample i j in let n = h.nodes in
      let m = s.bit_is_there_at_sample i j (omega arith) (omega arith) (sym (asked_same b c h BitIsThereAtSample i j) ∙ asked) in omega arith);
  no_bit_too_early = λ i j bi bj asked.
      (let l = left_le b c h NoBitTooEarly i j (λ e. cc) in let r = right_le b c h NoBitTooEarly i j in let n = h.nodes in
      let m = s.no_bit_too_early i j (omega arith) (omega arith) (sym (asked_same b c h NoBitTooEarly i j) ∙ asked) in omega arith);
}
