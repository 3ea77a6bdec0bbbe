-- Words of slots: lists put one after another, their order, and the tables' words.
use Rattle.std.proofs.Common.{◌≡◌, ◌≢◌, ◌⊎◌, ℕ, suc, ◌≤◌, ◌==◌, ◌&&◌, max, Bool, true, false, List, [], ◌∷◌, ◌++◌, sym, ap, ◌∙◌, subst, refl, inl, inr, arith, eq-eqb, ne_eqb}
use Rattle.std.specs.Prelude.{All, filter, Some}
use Rattle.std.proofs.Math.Bool.{cond}
use Rattle.std.proofs.lemmas.Bool.Decides.{nat_tests}
use Rattle.std.proofs.lemmas.List.Elements.{All-head, All-tail, All-filter, filter_passes}
use mathlib.Core.Logic.{dite}
use native.Mathlib.Decide.{ℕ_discrete}
use Rattle.wl_lattice.specs.declared.MaxWord.{MaxWord}
use Rattle.wl_lattice.specs.declared.FlatWord.{FlatWord}
use Rattle.wl_lattice.specs.declared.FlatWord.TheVariants.{Nothing, Value, Clash as Clash'}
use Rattle.wl_lattice.specs.Words.{max_word, joined_max, joined_flat}
use Rattle.wl_lattice.specs.WordLaws.{flat_laws, max_laws}
use Rattle.wl_record_core.specs.declared.record.Record.{Record}
use Rattle.wl_record_core.specs.declared.record.Record.TheVariants.{Edge, Clash, Silence}
use Rattle.wl_record_core.specs.declared.record.Slot.{Slot}
use Rattle.wl_record_core.specs.declared.record.Slot.TheVariants.{EdgeAt, SilenceAt}
use Rattle.wl_record_core.specs.Slots.{slot_of}
use Rattle.wl_hub.specs.Rule.{joined, share}
use Rattle.wl_hub.specs.Places.{place, is_place, is_edge_at, is_silence_at}
use Rattle.wl_lattice.specs.declared.numbers.TheConstants.{CLASH}
use Rattle.wl_lattice.specs.Numbers.{word_number, joined_numbers}
use Rattle.wl_hub.specs.Words.{edge_share, silence_share, edge_join, silence_join, word_of, IsAtMostAt, joined_words, IsJoinOfTrue, edge_widths, silence_widths}
use Rattle.wl_hub.proofs.Joined.{below_left, below_right, below_trans, below_join}
use Rattle.wl_hub.proofs.Edges.{edge_kind, edge_laws}
use Rattle.wl_hub.proofs.Silences.{silence_kind}
use Rattle.wl_hub.proofs.Apart.{place_apart, is_place_some, some_is_place}

-- ---- lists, one after another
pub edge_join-append : (n s : ℕ) (xs ys : List Record) → edge_join n s (xs ++ ys) ≡ joined_flat (edge_join n s xs) (edge_join n s ys)
edge_join-append n s [] ys = refl
edge_join-append n s (x ∷ xs) ys = ap (joined_flat (edge_share n s x)) (edge_join-append n s xs ys) ∙ sym (flat_laws.associates (edge_share n s x) (edge_join n s xs) (edge_join n s ys))

pub silence_join-append : (n c : ℕ) (xs ys : List Record) → silence_join n c (xs ++ ys) ≡ joined_max (silence_join n c xs) (silence_join n c ys)
silence_join-append n c [] ys = sym (max_laws.neutral (silence_join n c ys) tt)
silence_join-append n c (x ∷ xs) ys = ap (joined_max (silence_share n c x)) (silence_join-append n c xs ys) ∙ sym (max_laws.associates (silence_share n c x) (silence_join n c xs) (silence_join n c ys))

pub silence-append : (n c : ℕ) (xs ys : List Record) → (silence_join n c (xs ++ ys)).word ≡ max (silence_join n c xs).word (silence_join n c ys).word
silence-append n c xs ys = ap (λ (w : MaxWord). w.word) (silence_join-append n c xs ys)

-- ---- the order
number_at_most : (a b : FlatWord) → joined_flat a b ≡ b → (word_number a ≡ 0) ⊎ ((word_number a ≡ word_number b) ⊎ (word_number b ≡ CLASH))
number_at_most Nothing b h = inl refl
number_at_most (Value x) Nothing h = absurd cc
number_at_most (Value x) (Value y) h = dite (ℕ_discrete x y) (λ e. inr (inl (ap suc e))) (λ ne. absurd (let clash = rw (ne_eqb x y ne) at h in cc))
number_at_most (Value x) Clash' h = inr (inr refl)
number_at_most Clash' b h = inr (inr (ap word_number (sym h)))

max_at_most : (a b : MaxWord) → joined_max a b ≡ b → a.word ≤ b.word
max_at_most a b h = let m : max a.word b.word ≡ b.word = ap (λ (w : MaxWord). w.word) h in omega (arith, m)

-- some of the records make a word that is at most that of all
pub word_within : (slot : Slot) (xs ys zs : List Record) → IsAtMostAt slot (word_of slot ys) (word_of slot (xs ++ (ys ++ zs)))
word_within (EdgeAt n s) xs ys zs =
    let x = edge_join n s xs in
    let y = edge_join n s ys in
    let z = edge_join n s zs in
    let is : edge_join n s (xs ++ (ys ++ zs)) ≡ joined_flat x (joined_flat y z) = edge_join-append n s xs (ys ++ zs) ∙ ap (joined_flat x) (edge_join-append n s ys zs) in
    number_at_most y (edge_join n s (xs ++ (ys ++ zs))) (subst (λ (w : FlatWord). joined_flat y w ≡ w) (sym is)
    (below_trans (edge_kind []) (edge_laws []) y (joined_flat y z) (joined_flat x (joined_flat y z)) (below_left (edge_kind []) (edge_laws []) y z) (below_right (edge_kind []) (edge_laws []) x (joined_flat y z))))
word_within (SilenceAt n c) xs ys zs = omega (arith, silence-append n c xs (ys ++ zs), silence-append n c ys zs)

-- what is seen after more gifts and more that was learned
pub word_grows : (slot : Slot) (g e t n : List Record) → IsAtMostAt slot (word_of slot (g ++ t)) (word_of slot ((g ++ e) ++ (t ++ n)))
word_grows (EdgeAt k s) g e t n =
    let x = edge_join k s g in
    let y = edge_join k s e in
    let z = edge_join k s t in
    let w = edge_join k s n in
    let K = edge_kind [] in let L = edge_laws [] in
    let old : edge_join k s (g ++ t) ≡ joined_flat x z = edge_join-append k s g t in
    let new : edge_join k s ((g ++ e) ++ (t ++ n)) ≡ joined_flat (joined_flat x y) (joined_flat z w) = edge_join-append k s (g ++ e) (t ++ n) ∙ (λ i. joined_flat (edge_join-append k s g e i) (edge_join-append k s t n i)) in
    number_at_most (edge_join k s (g ++ t)) (edge_join k s ((g ++ e) ++ (t ++ n))) (subst (λ (p : FlatWord × FlatWord). joined_flat p.0 p.1 ≡ p.1) (λ i. (sym old i, sym new i))
    (below_join K L x z (joined_flat (joined_flat x y) (joined_flat z w))
    (below_trans K L x (joined_flat x y) (joined_flat (joined_flat x y) (joined_flat z w)) (below_left K L x y) (below_left K L (joined_flat x y) (joined_flat z w)))
    (below_trans K L z (joined_flat z w) (joined_flat (joined_flat x y) (joined_flat z w)) (below_left K L z w) (below_right K L (joined_flat x y) (joined_flat z w)))))
word_grows (SilenceAt k c) g e t n = omega (arith, silence-append k c (g ++ e) (t ++ n), silence-append k c g e, silence-append k c t n, silence-append k c g t)

-- ---- joined words
flat_numbers : (a b : FlatWord) → word_number (joined_flat a b) ≡ joined_numbers (word_number a) (word_number b)
flat_numbers Nothing Nothing = refl
flat_numbers Nothing (Value y) = grind (arith, nat_tests)
flat_numbers Nothing Clash' = refl
flat_numbers (Value x) Nothing = grind (arith, nat_tests)
flat_numbers (Value x) (Value y) = grind (arith, nat_tests)
flat_numbers (Value x) Clash' = grind (arith, nat_tests)
flat_numbers Clash' Nothing = refl
flat_numbers Clash' (Value y) = grind (arith, nat_tests)
flat_numbers Clash' Clash' = refl

pub word-append : (slot : Slot) (xs ys : List Record) → word_of slot (xs ++ ys) ≡ joined_words slot (word_of slot xs) (word_of slot ys)
word-append (EdgeAt n s) xs ys = ap word_number (edge_join-append n s xs ys) ∙ flat_numbers (edge_join n s xs) (edge_join n s ys)
word-append (SilenceAt n c) xs ys = ap (λ (w : MaxWord). w.word) (silence_join-append n c xs ys)

-- both lists of two passes
pub word_both : (slot : Slot) (g t h u : List Record) → word_of slot ((g ++ h) ++ (t ++ u)) ≡ joined_words slot (word_of slot (g ++ t)) (word_of slot (h ++ u))
word_both (EdgeAt n s) g t h u =
    ap word_number
    (edge_join-append n s (g ++ h) (t ++ u) ∙ (λ i. joined_flat (edge_join-append n s g h i) (edge_join-append n s t u i))
    ∙ four_flat (edge_join n s g) (edge_join n s h) (edge_join n s t) (edge_join n s u)
    ∙ (λ i. joined_flat (sym (edge_join-append n s g t) i) (sym (edge_join-append n s h u) i)))
    ∙ flat_numbers (edge_join n s (g ++ t)) (edge_join n s (h ++ u))
  where
    four_flat : (a b c d : FlatWord) → joined_flat (joined_flat a b) (joined_flat c d) ≡ joined_flat (joined_flat a c) (joined_flat b d)
    four_flat a b c d =
        flat_laws.associates a b (joined_flat c d)
        ∙ ap (joined_flat a) (sym (flat_laws.associates b c d) ∙ ap (λ (x : FlatWord). joined_flat x d) (flat_laws.commutes b c) ∙ flat_laws.associates c b d)
        ∙ sym (flat_laws.associates a c (joined_flat b d))
word_both (SilenceAt n c) g t h u = omega (arith, silence-append n c (g ++ h) (t ++ u), silence-append n c g h, silence-append n c t u, silence-append n c g t, silence-append n c h u)

-- ---- records of one slot
abbrev pub speaks_of : Slot → Record → Bool
speaks_of (EdgeAt n s) (Edge m q t) = (m == n) && (q == s)
speaks_of (EdgeAt n s) (Clash m q) = (m == n) && (q == s)
speaks_of (EdgeAt n s) (Silence m c u) = false
speaks_of (SilenceAt n c) (Edge m q t) = false
speaks_of (SilenceAt n c) (Clash m q) = false
speaks_of (SilenceAt n c) (Silence m d u) = (m == n) && (d == c)

edge_slot : (m q n s : ℕ) → ((m == n) && (q == s)) ≡ true → EdgeAt m q ≡ EdgeAt n s
edge_slot m q n s h = let a : m ≡ n = grind (arith, nat_tests) in let b : q ≡ s = grind (arith, nat_tests) in λ i. EdgeAt (a i) (b i)

silence_slot : (m q n s : ℕ) → ((m == n) && (q == s)) ≡ true → SilenceAt m q ≡ SilenceAt n s
silence_slot m q n s h = let a : m ≡ n = grind (arith, nat_tests) in let b : q ≡ s = grind (arith, nat_tests) in λ i. SilenceAt (a i) (b i)

pub speaks : (slot : Slot) (r : Record) → speaks_of slot r ≡ true → slot_of r ≡ slot
speaks (EdgeAt n s) (Edge m q t) h = edge_slot m q n s h
speaks (EdgeAt n s) (Clash m q) h = edge_slot m q n s h
speaks (EdgeAt n s) (Silence m c u) h = absurd cc
speaks (SilenceAt n c) (Edge m q t) h = absurd cc
speaks (SilenceAt n c) (Clash m q) h = absurd cc
speaks (SilenceAt n c) (Silence m d u) h = silence_slot m d n c h

edge_silent : (n s : ℕ) (r : Record) → speaks_of (EdgeAt n s) r ≡ false → edge_share n s r ≡ Nothing
edge_silent n s (Edge m q t) h = rw h refl
edge_silent n s (Clash m q) h = rw h refl
edge_silent n s (Silence m c u) h = refl

silence_silent : (n c : ℕ) (r : Record) → speaks_of (SilenceAt n c) r ≡ false → silence_share n c r ≡ max_word 0
silence_silent n c (Edge m q t) h = refl
silence_silent n c (Clash m q) h = refl
silence_silent n c (Silence m d u) h = rw h refl

edge_one : (n s : ℕ) (x : Record) (ys zs : List Record) (b : Bool) → speaks_of (EdgeAt n s) x ≡ b → edge_join n s ys ≡ edge_join n s zs → edge_join n s (cond b (x ∷ ys) ys) ≡ joined_flat (edge_share n s x) (edge_join n s zs)
edge_one n s x ys zs true e h = ap (joined_flat (edge_share n s x)) h
edge_one n s x ys zs false e h = h ∙ sym (ap (λ (w : FlatWord). joined_flat w (edge_join n s zs)) (edge_silent n s x e))

silence_one : (n c : ℕ) (x : Record) (ys zs : List Record) (b : Bool) → speaks_of (SilenceAt n c) x ≡ b → silence_join n c ys ≡ silence_join n c zs → silence_join n c (cond b (x ∷ ys) ys) ≡ joined_max (silence_share n c x) (silence_join n c zs)
silence_one n c x ys zs true e h = ap (joined_max (silence_share n c x)) h
silence_one n c x ys zs false e h = h ∙ sym (ap (λ (w : MaxWord). joined_max w (silence_join n c zs)) (silence_silent n c x e) ∙ max_laws.neutral (silence_join n c zs) tt)

edge_filter : (n s : ℕ) (rs : List Record) → edge_join n s (filter (speaks_of (EdgeAt n s)) rs) ≡ edge_join n s rs
edge_filter n s [] = refl
edge_filter n s (x ∷ xs) = edge_one n s x (filter (speaks_of (EdgeAt n s)) xs) xs (speaks_of (EdgeAt n s) x) refl (edge_filter n s xs)

silence_filter : (n c : ℕ) (rs : List Record) → silence_join n c (filter (speaks_of (SilenceAt n c)) rs) ≡ silence_join n c rs
silence_filter n c [] = refl
silence_filter n c (x ∷ xs) = silence_one n c x (filter (speaks_of (SilenceAt n c)) xs) xs (speaks_of (SilenceAt n c) x) refl (silence_filter n c xs)

-- records of other slots give nothing
pub word_filter : (slot : Slot) (rs : List Record) → word_of slot (filter (speaks_of slot) rs) ≡ word_of slot rs
word_filter (EdgeAt n s) rs = ap word_number (edge_filter n s rs)
word_filter (SilenceAt n c) rs = ap (λ (w : MaxWord). w.word) (silence_filter n c rs)

pub passes_slot : (slot : Slot) (rs : List Record) → All (λ r. slot_of r ≡ slot) (filter (speaks_of slot) rs)
passes_slot slot rs = λ k d low. speaks slot _ (filter_passes (speaks_of slot) rs k d low)

pub join_of_true : (P : Record → Type 0) (slot : Slot) (rs : List Record) (word : ℕ) → All P rs → word ≡ word_of slot rs → IsJoinOfTrue P slot word
join_of_true P slot rs word all is = record {
  records = filter (speaks_of slot) rs;
  of_slot = passes_slot slot rs;
  are_true = All-filter (speaks_of slot) P rs all;
  joins = is ∙ sym (word_filter slot rs);
}

-- ---- the tables' words
same_at : (ws : List ℕ) (n s i : ℕ) → place ws n s ≡ Some i → (m q : ℕ) (b : Bool) → is_place (place ws m q) i ≡ b → b ≡ ((m == n) && (q == s))
same_at ws n s i here m q true e = let same = place_apart ws m q n s i (is_place_some (place ws m q) i e) here in rw (eq-eqb m n same.0, eq-eqb q s same.1) refl
same_at ws n s i here m q false e = dite (ℕ_discrete m n)
    (λ a. dite (ℕ_discrete q s)
    (λ b. absurd (let at : is_place (place ws n s) i ≡ false = subst (λ (k : ℕ × ℕ). is_place (place ws k.0 k.1) i ≡ false) (λ j. (a j, b j)) e in let up = some_is_place (place ws n s) i here in cc))
    (λ ne. rw (eq-eqb m n a, ne_eqb q s ne) refl))
    (λ ne. rw (ne_eqb m n ne) refl)

edge_same : (shape : List (ℕ × ℕ)) (n s i : ℕ) → place (edge_widths shape) n s ≡ Some i → (m q : ℕ) → is_place (place (edge_widths shape) m q) i ≡ ((m == n) && (q == s))
edge_same shape n s i here m q = same_at (edge_widths shape) n s i here m q (is_place (place (edge_widths shape) m q) i) refl

silence_same : (shape : List (ℕ × ℕ)) (n s i : ℕ) → place (silence_widths shape) n s ≡ Some i → (m q : ℕ) → is_place (place (silence_widths shape) m q) i ≡ ((m == n) && (q == s))
silence_same shape n s i here m q = same_at (silence_widths shape) n s i here m q (is_place (place (silence_widths shape) m q) i) refl

-- a word of the table of edges has what the records give to its slot
edge_shares : (shape : List (ℕ × ℕ)) (n s i : ℕ) → place (edge_widths shape) n s ≡ Some i → (r : Record) → share (edge_kind shape) i r ≡ edge_share n s r
edge_shares shape n s i here (Edge m q t) = rw (edge_same shape n s i here m q) refl
edge_shares shape n s i here (Clash m q) = rw (edge_same shape n s i here m q) refl
edge_shares shape n s i here (Silence m c u) = refl

pub edge_table : (shape : List (ℕ × ℕ)) (n s i : ℕ) → place (edge_widths shape) n s ≡ Some i → (rs : List Record) → joined (edge_kind shape) i rs ≡ edge_join n s rs
edge_table shape n s i here [] = refl
edge_table shape n s i here (r ∷ rs) = λ j. joined_flat (edge_shares shape n s i here r j) (edge_table shape n s i here rs j)

silence_shares : (shape : List (ℕ × ℕ)) (n c i : ℕ) → place (silence_widths shape) n c ≡ Some i → (r : Record) → share (silence_kind shape) i r ≡ silence_share n c r
silence_shares shape n c i here (Edge m q t) = refl
silence_shares shape n c i here (Clash m q) = refl
silence_shares shape n c i here (Silence m d u) = rw (silence_same shape n c i here m d) refl

pub silence_table : (shape : List (ℕ × ℕ)) (n c i : ℕ) → place (silence_widths shape) n c ≡ Some i → (rs : List Record) → joined (silence_kind shape) i rs ≡ silence_join n c rs
silence_table shape n c i here [] = refl
silence_table shape n c i here (r ∷ rs) = λ j. joined_max (silence_shares shape n c i here r j) (silence_table shape n c i here rs j)

-- ---- records of one slot and the words of others
flat_right : (x : FlatWord) → joined_flat x Nothing ≡ x
flat_right x = flat_laws.commutes x Nothing

speaks_else : (slot other : Slot) → other ≢ slot → (r : Record) → slot_of r ≡ slot → (b : Bool) → speaks_of other r ≡ b → b ≡ false
speaks_else slot other apart r of_slot true e = absurd (apart (sym (speaks other r e) ∙ of_slot))
speaks_else slot other apart r of_slot false e = refl

edge_quiet : (slot : Slot) (n s : ℕ) → EdgeAt n s ≢ slot → (rs : List Record) → All (λ r. slot_of r ≡ slot) rs → edge_join n s rs ≡ Nothing
edge_quiet slot n s apart [] all = refl
edge_quiet slot n s apart (r ∷ rs) all =
    ap (λ (x : FlatWord). joined_flat x (edge_join n s rs)) (edge_silent n s r (speaks_else slot (EdgeAt n s) apart r (All-head (λ r. slot_of r ≡ slot) r rs all) (speaks_of (EdgeAt n s) r) refl))
    ∙ edge_quiet slot n s apart rs (All-tail (λ r. slot_of r ≡ slot) r rs all)

silence_quiet : (slot : Slot) (n c : ℕ) → SilenceAt n c ≢ slot → (rs : List Record) → All (λ r. slot_of r ≡ slot) rs → silence_join n c rs ≡ max_word 0
silence_quiet slot n c apart [] all = refl
silence_quiet slot n c apart (r ∷ rs) all =
    ap (λ (x : MaxWord). joined_max x (silence_join n c rs)) (silence_silent n c r (speaks_else slot (SilenceAt n c) apart r (All-head (λ r. slot_of r ≡ slot) r rs all) (speaks_of (SilenceAt n c) r) refl))
    ∙ max_laws.neutral (silence_join n c rs) tt
    ∙ silence_quiet slot n c apart rs (All-tail (λ r. slot_of r ≡ slot) r rs all)

-- more records of one slot change no other word
pub word_else : (slot other : Slot) → other ≢ slot → (g e t n : List Record) → All (λ r. slot_of r ≡ slot) e → All (λ r. slot_of r ≡ slot) n → word_of other ((g ++ e) ++ (t ++ n)) ≡ word_of other (g ++ t)
word_else slot (EdgeAt k s) apart g e t n es ns =
    let left : edge_join k s (g ++ e) ≡ edge_join k s g = edge_join-append k s g e ∙ ap (joined_flat (edge_join k s g)) (edge_quiet slot k s apart e es) ∙ flat_right (edge_join k s g) in
    let right : edge_join k s (t ++ n) ≡ edge_join k s t = edge_join-append k s t n ∙ ap (joined_flat (edge_join k s t)) (edge_quiet slot k s apart n ns) ∙ flat_right (edge_join k s t) in
    ap word_number (edge_join-append k s (g ++ e) (t ++ n) ∙ (λ i. joined_flat (left i) (right i)) ∙ sym (edge_join-append k s g t))
word_else slot (SilenceAt k c) apart g e t n es ns =
    let left : (silence_join k c e).word ≡ 0 = ap (λ (w : MaxWord). w.word) (silence_quiet slot k c apart e es) in
    let right : (silence_join k c n).word ≡ 0 = ap (λ (w : MaxWord). w.word) (silence_quiet slot k c apart n ns) in
    omega (arith, left, right, silence-append k c (g ++ e) (t ++ n), silence-append k c g e, silence-append k c t n, silence-append k c g t)

-- the records of a word are those of its slot
edge_here : (shape : List (ℕ × ℕ)) (n s i : ℕ) → place (edge_widths shape) n s ≡ Some i → (r : Record) → is_edge_at shape i r ≡ true → slot_of r ≡ EdgeAt n s
edge_here shape n s i here (Edge m q t) h = edge_slot m q n s (sym (edge_same shape n s i here m q) ∙ h)
edge_here shape n s i here (Clash m q) h = edge_slot m q n s (sym (edge_same shape n s i here m q) ∙ h)
edge_here shape n s i here (Silence m c u) h = absurd cc

silence_here : (shape : List (ℕ × ℕ)) (n c i : ℕ) → place (silence_widths shape) n c ≡ Some i → (r : Record) → is_silence_at shape i r ≡ true → slot_of r ≡ SilenceAt n c
silence_here shape n c i here (Edge m q t) h = absurd cc
silence_here shape n c i here (Clash m q) h = absurd cc
silence_here shape n c i here (Silence m d u) h = silence_slot m d n c (sym (silence_same shape n c i here m d) ∙ h)

pub edges_here : (shape : List (ℕ × ℕ)) (n s i : ℕ) → place (edge_widths shape) n s ≡ Some i → (rs : List Record) → All (λ r. is_edge_at shape i r ≡ true) rs → All (λ r. slot_of r ≡ EdgeAt n s) rs
edges_here shape n s i here rs all = λ k d low. edge_here shape n s i here _ (all k d low)

pub silences_here : (shape : List (ℕ × ℕ)) (n c i : ℕ) → place (silence_widths shape) n c ≡ Some i → (rs : List Record) → All (λ r. is_silence_at shape i r ≡ true) rs → All (λ r. slot_of r ≡ SilenceAt n c) rs
silences_here shape n c i here rs all = λ k d low. silence_here shape n c i here _ (all k d low)
