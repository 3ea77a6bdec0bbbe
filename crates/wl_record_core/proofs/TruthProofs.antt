-- Laws of true records.
use Rattle.std.proofs.Common.{◌≡◌, ℕ, true, ◌&&◌, List, refl, sym, ◌∙◌, ap, nat_lt, nat_le, ◌==◌, Option, None, Some, slice_get}
use Rattle.std.specs.Prelude.{◌↔◌}
use Rattle.std.proofs.lemmas.Bool.{ltb-true, lt-ltb, leb-true, le-leb, eqb-true, eq-eqb, and_parts, and_from, false≢true}
use Rattle.std.proofs.lemmas.Option.{same_Some}
use Rattle.wl_record_core.specs.declared.record.Record.{Record}
use Rattle.wl_record_core.specs.declared.record.Record.TheVariants.{Edge, Clash, Silence}
use Rattle.wl_record_core.specs.Limits.{most_nodes, most_edges, tick_end}
use Rattle.wl_record_core.specs.Within.{IsWide}
use Rattle.wl_record_core.specs.Truth.{count_below, IsTrueOf, is_just, is_wide, is_true_of}

just_is : (o : Option ℕ) (t : ℕ) → is_just o t ≡ true → o ≡ Some t
just_is None t h = absurd (false≢true h)
just_is (Some u) t h = ap (λ v. Some v) (eqb-true u t h)

is_just_of : (o : Option ℕ) (t : ℕ) → o ≡ Some t → is_just o t ≡ true
is_just_of o t h = ap (λ v. is_just v t) h ∙ eq-eqb t t refl

within_of : (r : Record) → is_wide r ≡ true → IsWide r
within_of (Edge i s t) h =
    let p = and_parts (nat_lt i most_nodes) (nat_lt s most_edges && nat_lt t tick_end) h in
    let q = and_parts (nat_lt s most_edges) (nat_lt t tick_end) p.1 in
    (ltb-true i most_nodes p.0, ltb-true s most_edges q.0, ltb-true t tick_end q.1)
within_of (Clash i s) h = let p = and_parts (nat_lt i most_nodes) (nat_lt s most_edges) h in (ltb-true i most_nodes p.0, ltb-true s most_edges p.1)
within_of (Silence i n u) h =
    let p = and_parts (nat_lt i most_nodes) (nat_le n most_edges && nat_lt u tick_end) h in
    let q = and_parts (nat_le n most_edges) (nat_lt u tick_end) p.1 in
    (ltb-true i most_nodes p.0, leb-true n most_edges q.0, ltb-true u tick_end q.1)

is_wide_of : (r : Record) → IsWide r → is_wide r ≡ true
is_wide_of (Edge i s t) h = and_from _ _ (lt-ltb i most_nodes h.0) (and_from _ _ (lt-ltb s most_edges h.1) (lt-ltb t tick_end h.2))
is_wide_of (Clash i s) h = and_from _ _ (lt-ltb i most_nodes h.0) (lt-ltb s most_edges h.1)
is_wide_of (Silence i n u) h = and_from _ _ (lt-ltb i most_nodes h.0) (and_from _ _ (le-leb n most_edges h.1) (lt-ltb u tick_end h.2))

truth_of : (nodes : ℕ) (table : ℕ → List ℕ) (r : Record) → is_true_of nodes table r ≡ true → IsTrueOf nodes table r
truth_of nodes table (Edge i s t) h =
    let p = and_parts (nat_lt i nodes) (is_just (slice_get (table i) s) t && is_wide (Edge i s t)) h in
    let q = and_parts (is_just (slice_get (table i) s) t) (is_wide (Edge i s t)) p.1 in
    (ltb-true i nodes p.0, just_is (slice_get (table i) s) t q.0, within_of (Edge i s t) q.1)
truth_of nodes table (Silence i n u) h =
    let p = and_parts (nat_lt i nodes) ((count_below u (table i) == n) && is_wide (Silence i n u)) h in
    let q = and_parts (count_below u (table i) == n) (is_wide (Silence i n u)) p.1 in
    (ltb-true i nodes p.0, eqb-true (count_below u (table i)) n q.0, within_of (Silence i n u) q.1)
truth_of nodes table (Clash i s) h = absurd (false≢true h)

test_of : (nodes : ℕ) (table : ℕ → List ℕ) (r : Record) → IsTrueOf nodes table r → is_true_of nodes table r ≡ true
test_of nodes table (Edge i s t) h =
    and_from _ _ (lt-ltb i nodes h.0) (and_from _ _ (is_just_of (slice_get (table i) s) t h.1) (is_wide_of (Edge i s t) h.2))
test_of nodes table (Silence i n u) h =
    and_from _ _ (lt-ltb i nodes h.0) (and_from _ _ (eq-eqb (count_below u (table i)) n h.1) (is_wide_of (Silence i n u) h.2))
test_of nodes table (Clash i s) h = absurd h

pub truth_is_its_test : (nodes : ℕ) (table : ℕ → List ℕ) (r : Record) → is_true_of nodes table r ≡ true ↔ IsTrueOf nodes table r
truth_is_its_test nodes table r = (truth_of nodes table r, test_of nodes table r)

pub one_tick_a_slot : (nodes : ℕ) (table : ℕ → List ℕ) (i s t u : ℕ) → IsTrueOf nodes table (Edge i s t) → IsTrueOf nodes table (Edge i s u) → t ≡ u
one_tick_a_slot nodes table i s t u h g = same_Some t u (sym h.1 ∙ g.1)
