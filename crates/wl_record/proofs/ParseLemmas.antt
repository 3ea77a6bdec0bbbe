-- Fields and records at the front of some bytes.
use Rattle.std.specs.Prelude.{◌≡◌, ℕ, ◌+◌, ◌^◌, ◌<◌, List, [], ◌∷◌, ◌++◌, length, refl, Option, Some, None, MatchOption}
use Rattle.std.specs.Str.Parse.{digits_value}
use Rattle.std.proofs.Common.{sym, ap, ◌∙◌, subst, arith, append_assoc}
use Rattle.wl_limits.specs.declared.Limits.{Limits}
use Rattle.wl_record_core.specs.declared.record.Record.{Record}
use Rattle.wl_record_core.specs.declared.record.Record.TheVariants.{Edge, Clash, Silence}
use Rattle.wl_record.specs.Grammar.{Fields, letter_of, numbers_of, Spells}
use Rattle.wl_record_core.specs.Limits.{record_nodes, record_edges, tick_end, tick_end-is}
use Rattle.wl_record_core.specs.Within.{IsWithinBy}
use Rattle.wl_record.specs.Parsing.{number_as_read, IsField, FieldsThen, Begins, IsFront}
use Rattle.wl_record.proofs.GrammarLemmas.{digits_split, fields_stop, few_nodes, few_edges}

pub field_once : (bytes : List ℕ) (n m : ℕ) (rest more : List ℕ) → IsField bytes n rest → IsField bytes m more → (n ≡ m) × (rest ≡ more)
field_once bytes n m rest more h g =
    let e : 32 ∷ (h.number ++ rest) ≡ 32 ∷ (g.number ++ more) = sym h.parts ∙ g.parts in
    let tails : h.number ++ rest ≡ g.number ++ more = cc in
    let both = digits_split h.number g.number rest more h.is_number.digits.1 g.is_number.digits.1 h.stops g.stops tails in
    (sym h.is_number.value ∙ (ap (digits_value 10) both.0 ∙ g.is_number.value), both.1)

-- after the first field the others are in what follows it
pub fields_after : (bytes : List ℕ) (n m : ℕ) (ms : List ℕ) (rest more : List ℕ) → IsField bytes n rest → FieldsThen bytes (m ∷ ms) more → FieldsThen rest ms more
fields_after bytes n m ms rest more h g = subst (λ z. FieldsThen z ms more) (sym (field_once bytes n m rest g.0 h g.1).1) g.2

pub fields_once : (bytes : List ℕ) (ns ms : List ℕ) (rest more : List ℕ) → length ns ≡ length ms → FieldsThen bytes ns rest → FieldsThen bytes ms more → (ns ≡ ms) × (rest ≡ more)
fields_once bytes [] [] rest more len h g = (refl, sym h ∙ g)
fields_once bytes [] (m ∷ ms) rest more len h g = absurd (omega (arith, len))
fields_once bytes (n ∷ ns) [] rest more len h g = absurd (omega (arith, len))
fields_once bytes (n ∷ ns) (m ∷ ms) rest more len h g =
    let one = field_once bytes n m h.0 g.0 h.1 g.1 in
    let others = fields_once g.0 ns ms rest more (omega (arith, len)) (subst (λ z. FieldsThen z ns rest) one.1 h.2) g.2 in
    ((λ i. one.0 i ∷ others.0 i), others.1)

-- fields and nothing else
pub fields_alone : (text ns : List ℕ) → Fields text ns → FieldsThen text ns []
fields_alone text [] h = h
fields_alone text (n ∷ ns) h = (h.1, record { number = h.0; is_number = h.2; parts = h.3; stops = fields_stop h.1 ns h.4 }, fields_alone h.1 ns h.4)

-- the text of the fields, before what follows them
pub fields_text : (bytes ns rest : List ℕ) → FieldsThen bytes ns rest → (text : List ℕ) × (bytes ≡ text ++ rest) × Fields text ns
fields_text bytes [] rest h = ([], h, refl)
fields_text bytes (n ∷ ns) rest h =
    let others = fields_text h.0 ns rest h.2 in
    (32 ∷ (h.1.number ++ others.0), h.1.parts ∙ (ap (λ z. 32 ∷ (h.1.number ++ z)) others.1 ∙ ap (λ z. 32 ∷ z) (sym (append_assoc h.1.number others.0 rest))), (h.1.number, others.0, h.1.is_number, refl, others.2))

same_numbers : (r q : Record) → letter_of r ≡ letter_of q → length (numbers_of r) ≡ length (numbers_of q)
same_numbers (Edge a b c) (Edge x y z) l = omega arith
same_numbers (Edge a b c) (Clash x y) l = absurd (omega (arith, l))
same_numbers (Edge a b c) (Silence x y z) l = omega arith
same_numbers (Clash a b) (Edge x y z) l = absurd (omega (arith, l))
same_numbers (Clash a b) (Clash x y) l = omega arith
same_numbers (Clash a b) (Silence x y z) l = absurd (omega (arith, l))
same_numbers (Silence a b c) (Edge x y z) l = omega arith
same_numbers (Silence a b c) (Clash x y) l = absurd (omega (arith, l))
same_numbers (Silence a b c) (Silence x y z) l = omega arith

-- a line that spells a record begins with it and goes no farther
pub spelled_begins : (line : List ℕ) (r : Record) → Spells line r → Begins line r []
spelled_begins line r h = (h.0, h.1, fields_alone h.0 (numbers_of r) h.2)

pub begins_spelled : (bytes rest : List ℕ) (r : Record) → Begins bytes r rest → (line : List ℕ) × (bytes ≡ line ++ rest) × Spells line r
begins_spelled bytes rest r h =
    let text = fields_text h.0 (numbers_of r) rest h.2 in
    (letter_of r ∷ text.0, h.1 ∙ ap (λ z. letter_of r ∷ z) text.1, (text.0, refl, text.2))

pub begins_once : (bytes : List ℕ) (r q : Record) (rest more : List ℕ) → Begins bytes r rest → Begins bytes q more → rest ≡ more
begins_once bytes r q rest more h g =
    let e : letter_of r ∷ h.0 ≡ letter_of q ∷ g.0 = sym h.1 ∙ g.1 in
    let letters : letter_of r ≡ letter_of q = cc in
    let tails : h.0 ≡ g.0 = cc in
    (fields_once g.0 (numbers_of r) (numbers_of q) rest more (same_numbers r q letters) (subst (λ z. FieldsThen z (numbers_of r) rest) tails h.2) g.2).1

-- ---- capped numbers
capped_small : (n m : ℕ) → number_as_read n < m → m < 2 ^ 59 → number_as_read n ≡ n
capped_small n m h small = omega (arith, h, small)

small_capped : (n m : ℕ) → n < m → m < 2 ^ 59 → number_as_read n ≡ n
small_capped n m h small = omega (arith, h, small)

node_limit : (limits : Limits) → record_nodes limits < 2 ^ 59
node_limit limits = omega (arith, few_nodes limits)

edge_limit : (limits : Limits) → record_edges limits + 1 < 2 ^ 59
edge_limit limits = omega (arith, few_edges limits)

tick_limit : tick_end < 2 ^ 59
tick_limit = omega (arith, tick_end-is)

-- ---- a record of each letter
three_found : (limits : Limits) (make : ℕ → ℕ → ℕ → Record) (letter : ℕ) → ((a b k : ℕ) → letter_of (make a b k) ≡ letter) → ((a b k : ℕ) → numbers_of (make a b k) ≡ a ∷ b ∷ k ∷ [])
    → ((a b k : ℕ) → IsWithinBy limits (make (number_as_read a) (number_as_read b) (number_as_read k)) → (number_as_read a ≡ a) × (number_as_read b ≡ b) × (number_as_read k ≡ k))
    → ((a b k : ℕ) → IsWithinBy limits (make a b k) → (number_as_read a ≡ a) × (number_as_read b ≡ b) × (number_as_read k ≡ k))
    → (fields : List ℕ) (rest : List ℕ) (told : Option Record) (x y z : ℕ)
    → ((a b k : ℕ) × FieldsThen fields (a ∷ b ∷ k ∷ []) rest × (x ≡ number_as_read a) × (y ≡ number_as_read b) × (z ≡ number_as_read k))
    → MatchOption told (¬ (IsWithinBy limits (make x y z))) (λ r. (r ≡ make x y z) × IsWithinBy limits r) → IsFront limits letter fields told rest
three_found limits make letter is_letter is_numbers below above fields rest None x y z (a, b, k, f, ex, ey, ez) h = (
  make a b k,
  is_letter a b k,
  subst (λ ns. FieldsThen fields ns rest) (sym (is_numbers a b k)) f,
  λ w.
      let same = above a b k w in
      let e : make a b k ≡ make x y z = (λ i. make (sym same.0 i) (sym same.1 i) (sym same.2 i)) ∙ (λ i. make (sym ex i) (sym ey i) (sym ez i)) in
      h (subst (IsWithinBy limits) e w),
)
three_found limits make letter is_letter is_numbers below above fields rest (Some r) x y z (a, b, k, f, ex, ey, ez) h =
    let e : r ≡ make (number_as_read a) (number_as_read b) (number_as_read k) = h.0 ∙ (λ i. make (ex i) (ey i) (ez i)) in
    let same = below a b k (subst (IsWithinBy limits) e h.1) in
    let is : r ≡ make a b k = e ∙ (λ i. make (same.0 i) (same.1 i) (same.2 i)) in
    (ap letter_of is ∙ is_letter a b k, subst (λ ns. FieldsThen fields ns rest) (sym (ap numbers_of is ∙ is_numbers a b k)) f, h.1)

pub edge_found : (limits : Limits) (fields rest : List ℕ) (told : Option Record) (x y z : ℕ)
    → ((a b k : ℕ) × FieldsThen fields (a ∷ b ∷ k ∷ []) rest × (x ≡ number_as_read a) × (y ≡ number_as_read b) × (z ≡ number_as_read k))
    → MatchOption told (¬ (IsWithinBy limits (Edge x y z))) (λ r. (r ≡ Edge x y z) × IsWithinBy limits r) → IsFront limits 69 fields told rest
edge_found limits fields rest told x y z = three_found limits Edge 69 (λ a b k. refl) (λ a b k. refl)
    (λ a b k w. (capped_small a (record_nodes limits) w.0 (node_limit limits), capped_small b (record_edges limits) w.1 (omega (arith, edge_limit limits)), capped_small k tick_end w.2 tick_limit))
    (λ a b k w. (small_capped a (record_nodes limits) w.0 (node_limit limits), small_capped b (record_edges limits) w.1 (omega (arith, edge_limit limits)), small_capped k tick_end w.2 tick_limit))
    fields rest told x y z

pub silence_found : (limits : Limits) (fields rest : List ℕ) (told : Option Record) (x y z : ℕ)
    → ((a b k : ℕ) × FieldsThen fields (a ∷ b ∷ k ∷ []) rest × (x ≡ number_as_read a) × (y ≡ number_as_read b) × (z ≡ number_as_read k))
    → MatchOption told (¬ (IsWithinBy limits (Silence x y z))) (λ r. (r ≡ Silence x y z) × IsWithinBy limits r) → IsFront limits 83 fields told rest
silence_found limits fields rest told x y z = three_found limits Silence 83 (λ a b k. refl) (λ a b k. refl)
    (λ a b k w. (capped_small a (record_nodes limits) w.0 (node_limit limits), capped_small b (record_edges limits + 1) (omega (arith, w.1)) (edge_limit limits), capped_small k tick_end w.2 tick_limit))
    (λ a b k w. (small_capped a (record_nodes limits) w.0 (node_limit limits), small_capped b (record_edges limits + 1) (omega (arith, w.1)) (edge_limit limits), small_capped k tick_end w.2 tick_limit))
    fields rest told x y z

pub clash_found : (limits : Limits) (fields rest : List ℕ) (told : Option Record) (x y : ℕ)
    → ((a b : ℕ) × FieldsThen fields (a ∷ b ∷ []) rest × (x ≡ number_as_read a) × (y ≡ number_as_read b))
    → MatchOption told (¬ (IsWithinBy limits (Clash x y))) (λ r. (r ≡ Clash x y) × IsWithinBy limits r) → IsFront limits 67 fields told rest
clash_found limits fields rest None x y (a, b, f, ex, ey) h = (
  Clash a b,
  refl,
  f,
  λ w.
      let ea : number_as_read a ≡ a = small_capped a (record_nodes limits) w.0 (node_limit limits) in
      let eb : number_as_read b ≡ b = small_capped b (record_edges limits) w.1 (omega (arith, edge_limit limits)) in
      h (subst (IsWithinBy limits) (λ i. Clash ((sym ea ∙ sym ex) i) ((sym eb ∙ sym ey) i)) w),
)
clash_found limits fields rest (Some r) x y (a, b, f, ex, ey) h =
    let e : r ≡ Clash (number_as_read a) (number_as_read b) = h.0 ∙ (λ i. Clash (ex i) (ey i)) in
    let w = subst (IsWithinBy limits) e h.1 in
    let ea : number_as_read a ≡ a = capped_small a (record_nodes limits) w.0 (node_limit limits) in
    let eb : number_as_read b ≡ b = capped_small b (record_edges limits) w.1 (omega (arith, edge_limit limits)) in
    let is : r ≡ Clash a b = e ∙ (λ i. Clash (ea i) (eb i)) in
    (ap letter_of is, subst (λ ns. FieldsThen fields ns rest) (sym (ap numbers_of is)) f, h.1)

pub edge_none : (fields : List ℕ) → ((a b k : ℕ) (rest : List ℕ) → ¬ (FieldsThen fields (a ∷ b ∷ k ∷ []) rest)) → (r : Record) (rest : List ℕ) → letter_of r ≡ 69 → ¬ (FieldsThen fields (numbers_of r) rest)
edge_none fields h (Edge a b k) rest l f = h a b k rest f
edge_none fields h (Clash a b) rest l f = omega (arith, l)
edge_none fields h (Silence a b k) rest l f = omega (arith, l)

pub clash_none : (fields : List ℕ) → ((a b : ℕ) (rest : List ℕ) → ¬ (FieldsThen fields (a ∷ b ∷ []) rest)) → (r : Record) (rest : List ℕ) → letter_of r ≡ 67 → ¬ (FieldsThen fields (numbers_of r) rest)
clash_none fields h (Edge a b k) rest l f = omega (arith, l)
clash_none fields h (Clash a b) rest l f = h a b rest f
clash_none fields h (Silence a b k) rest l f = omega (arith, l)

pub silence_none : (fields : List ℕ) → ((a b k : ℕ) (rest : List ℕ) → ¬ (FieldsThen fields (a ∷ b ∷ k ∷ []) rest)) → (r : Record) (rest : List ℕ) → letter_of r ≡ 83 → ¬ (FieldsThen fields (numbers_of r) rest)
silence_none fields h (Edge a b k) rest l f = omega (arith, l)
silence_none fields h (Clash a b) rest l f = omega (arith, l)
silence_none fields h (Silence a b k) rest l f = h a b k rest f
