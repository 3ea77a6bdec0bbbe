-- Members whose keys are in order, and what leaves them as they are.
use Rattle.std.proofs.Common.{◌≡◌, ◌∙◌, refl, sym, ap, subst, ℕ, Ordering, Less, Equal, Greater, nat_cmp, Bool, true, false, not, ◌&&◌, ◌||◌, List, map, Option, Some, None, is_some, inl, inr, ◌⊎◌}
use Rattle.std.proofs.lemmas.Bool.{and_parts, false≢true}
use Rattle.std.proofs.lemmas.Cmp.{nat_list_cmp_total}
use Rattle.std.proofs.lemmas.Map.Lookups.{exact_bytes}
use Rattle.std.proofs.lemmas.Option.{none-some, same_Some}
use Rattle.std.specs.Cmp.Lexicographic.{slice_cmp}
use Rattle.std.specs.Ordering.{is_lt, ordering_reverse}
use Rattle.toml.specs.Data.{Data, string, integer, float, boolean, datetime, array, table, Items, no_items, item, Members, no_members, member, get_member, as_str}
use Rattle.toml.specs.View.{items_of}
use Rattle.wl_units.specs.declared.quantity.Measure.{Measure}
use Rattle.wl_plain.specs.declared.measure.Row.{Row}
use Rattle.wl_plain.specs.declared.measure.Units.{Units}
use Rattle.wl_plain.specs.Asking.{asks_measure, asks_row, needs_tick}
use Rattle.wl_plain.specs.Measures.{converted, measure_at_key, number_or, plain_row, put_row, said_by}
use Rattle.wl_plain.specs.Tables.{data_of, remade_at, with_member}

pub cases_ordering : (o : Ordering) → (o ≡ Less) ⊎ ((o ≡ Equal) ⊎ (o ≡ Greater))
cases_ordering Less = inl refl
cases_ordering Equal = inr (inl refl)
cases_ordering Greater = inr (inr refl)

Less-from : (o : Ordering) → is_lt o ≡ true → o ≡ Less
Less-from Less h = refl
Less-from Equal h = absurd (false≢true h)
Less-from Greater h = absurd (false≢true h)

other_end : (k l : List ℕ) → slice_cmp nat_cmp k l ≡ Greater → slice_cmp nat_cmp l k ≡ Less
other_end k l more = nat_list_cmp_total.antisymm l k ∙ ap ordering_reverse more

-- the key is before each key of the members
abbrev pub is_before : List ℕ → Members → Bool
is_before k no_members = true
is_before k (member l d ms) = is_lt (slice_cmp nat_cmp k l) && is_before k ms

abbrev pub is_ordered : Members → Bool
is_ordered no_members = true
is_ordered (member k d ms) = is_before k ms && is_ordered ms

before_by : (k l : List ℕ) (b : Bool) → slice_cmp nat_cmp k l ≡ Less → b ≡ true → (is_lt (slice_cmp nat_cmp k l) && b) ≡ true
before_by k l b less h = rw less h

before_all : (j k : List ℕ) (ms : Members) → slice_cmp nat_cmp j k ≡ Less → is_before k ms ≡ true → is_before j ms ≡ true
before_all j k no_members less h = refl
before_all j k (member l d ms) less h =
    let (here, more) = and_parts (is_lt (slice_cmp nat_cmp k l)) (is_before k ms) h in
    before_by j l (is_before j ms) (nat_list_cmp_total.trans j k l less (Less-from (slice_cmp nat_cmp k l) here)) (before_all j k ms less more)

before_inserted : (j k : List ℕ) (d : Data) (ms : Members) → slice_cmp nat_cmp j k ≡ Less → is_before j ms ≡ true → is_before j (with_member k d ms) ≡ true
before_inserted j k d no_members less h = before_by j k true less refl
before_inserted j k d (member l e ms) less h =
    let (here, more) = and_parts (is_lt (slice_cmp nat_cmp j l)) (is_before j ms) h in
    elim (cases_ordering (slice_cmp nat_cmp k l)) [
      | inl lower ↦ rw lower (before_by j k (is_before j (member l e ms)) less h)
      | inr other ↦ elim other [
        | inl tie ↦ rw tie h
        | inr higher ↦ rw higher (before_by j l (is_before j (with_member k d ms)) (Less-from (slice_cmp nat_cmp j l) here) (before_inserted j k d ms less more))
      ]
    ]

pub both : (b c : Bool) → b ≡ true → c ≡ true → (b && c) ≡ true
both b c hb hc = rw hb hc

pub ordered_inserted : (k : List ℕ) (d : Data) (ms : Members) → is_ordered ms ≡ true → is_ordered (with_member k d ms) ≡ true
ordered_inserted k d no_members h = refl
ordered_inserted k d (member l e ms) h =
    let (first, more) = and_parts (is_before l ms) (is_ordered ms) h in
    elim (cases_ordering (slice_cmp nat_cmp k l)) [
      | inl lower ↦ ap is_ordered (at_start lower) ∙ both (is_before k (member l e ms)) (is_ordered (member l e ms)) (before_by k l (is_before k ms) lower (before_all k l ms lower first)) h
      | inr other ↦ elim other [
        | inl tie ↦ rw tie h
        | inr higher ↦ rw higher (both (is_before l (with_member k d ms)) (is_ordered (with_member k d ms)) (before_inserted l k d ms (other_end k l higher) first) (ordered_inserted k d ms more))
      ]
    ]
  where
    at_start : slice_cmp nat_cmp k l ≡ Less → with_member k d (member l e ms) ≡ member k d (member l e ms)
    at_start lower = rw lower refl

-- members followed by others
abbrev pub join_members : Members → Members → Members
join_members no_members ms = ms
join_members (member k d ls) ms = member k d (join_members ls ms)

join_none : (ms : Members) → join_members ms no_members ≡ ms
join_none no_members = refl
join_none (member k d ms) = ap (member k d) (join_none ms)

join_after : (a b c : Members) → join_members (join_members a b) c ≡ join_members a (join_members b c)
join_after no_members b c = refl
join_after (member k d a) b c = ap (member k d) (join_after a b c)

before_joined : (l k : List ℕ) (d : Data) (ls ms : Members) → is_before l (join_members ls (member k d ms)) ≡ true → slice_cmp nat_cmp l k ≡ Less
before_joined l k d no_members ms h = Less-from (slice_cmp nat_cmp l k) (and_parts (is_lt (slice_cmp nat_cmp l k)) (is_before l ms) h).0
before_joined l k d (member j e ls) ms h = before_joined l k d ls ms (and_parts (is_lt (slice_cmp nat_cmp l j)) (is_before l (join_members ls (member k d ms))) h).1

last_inserted : (k : List ℕ) (d : Data) (ls ms : Members) → is_ordered (join_members ls (member k d ms)) ≡ true → with_member k d ls ≡ join_members ls (member k d no_members)
last_inserted k d no_members ms h = refl
last_inserted k d (member l e ls) ms h =
    let (first, more) = and_parts (is_before l (join_members ls (member k d ms))) (is_ordered (join_members ls (member k d ms))) h in
    let higher : slice_cmp nat_cmp k l ≡ Greater = nat_list_cmp_total.antisymm k l ∙ ap ordering_reverse (before_joined l k d ls ms first) in
    rw higher (ap (member l e) (last_inserted k d ls ms more))

none_before : (k : List ℕ) (ms : Members) → is_before k ms ≡ true → get_member k ms ≡ None
none_before k no_members h = refl
none_before k (member l d ms) h =
    let (here, more) = and_parts (is_lt (slice_cmp nat_cmp k l)) (is_before k ms) h in
    rw (Less-from (slice_cmp nat_cmp k l) here) (none_before k ms more)

-- a value put again where it is
pub same_inserted : (k : List ℕ) (d : Data) (ms : Members) → is_ordered ms ≡ true → get_member k ms ≡ Some d → with_member k d ms ≡ ms
same_inserted k d no_members h is = absurd (none-some d is)
same_inserted k d (member l e ms) h is =
    let (first, more) = and_parts (is_before l ms) (is_ordered ms) h in
    elim (cases_ordering (slice_cmp nat_cmp k l)) [
      | inl lower ↦ absurd (none-some d (sym (none_before k ms (before_all k l ms lower first)) ∙ sym (at_less lower) ∙ is))
      | inr other ↦ elim other [
        | inl tie ↦ rw tie (ap (λ (x : Data). member l x ms) (sym (same_Some e d (sym (at_tie tie) ∙ is))))
        | inr higher ↦ rw higher (ap (member l e) (same_inserted k d ms more (sym (at_more higher) ∙ is)))
      ]
    ]
  where
    at_less : slice_cmp nat_cmp k l ≡ Less → get_member k (member l e ms) ≡ get_member k ms
    at_less o = rw o refl

    at_tie : slice_cmp nat_cmp k l ≡ Equal → get_member k (member l e ms) ≡ Some e
    at_tie o = rw o refl

    at_more : slice_cmp nat_cmp k l ≡ Greater → get_member k (member l e ms) ≡ get_member k ms
    at_more o = rw o refl

-- ---- tests of each member

abbrev pub each_member : (List ℕ → Data → Bool) → Members → Bool
each_member p no_members = true
each_member p (member k d ms) = p k d && each_member p ms

pub each_inserted : (p : List ℕ → Data → Bool) (k : List ℕ) (d : Data) (ms : Members) → p k d ≡ true → each_member p ms ≡ true → each_member p (with_member k d ms) ≡ true
each_inserted p k d no_members here all = both (p k d) true here refl
each_inserted p k d (member l e ms) here all =
    let (own, more) = and_parts (p l e) (each_member p ms) all in
    elim (cases_ordering (slice_cmp nat_cmp k l)) [
      | inl lower ↦ rw lower (both (p k d) (each_member p (member l e ms)) here all)
      | inr other ↦ elim other [
        | inl tie ↦ rw tie (both (p l d) (each_member p ms) (subst (λ (j : List ℕ). p j d ≡ true) (exact_bytes k l tie) here) more)
        | inr higher ↦ rw higher (both (p l e) (each_member p (with_member k d ms)) own (each_inserted p k d ms here more))
      ]
    ]

-- ---- tables without a text at the key of a measure, and without a clock by its frequency

abbrev pub is_plain_value : Row → List ℕ → Data → Bool
is_plain_value row k d = not (is_some (as_str d) && is_some (measure_at_key row k)) && not (needs_tick row k)

no_measure : (b m c : Bool) → (not (b && m) && not c) ≡ true → b ≡ true → m ≡ false
no_measure true true c h is = absurd (false≢true h)
no_measure true false c h is = refl
no_measure false m c h is = absurd (false≢true is)

same_text : (u : Units) (m : Option Measure) (s : List ℕ) → is_some m ≡ false → number_or (string s) (said_by u m s) ≡ string s
same_text u None s h = refl
same_text u (Some m) s h = absurd (false≢true (sym h))

converted_same : (u : Units) (row : Row) (k : List ℕ) (d : Data) → is_plain_value row k d ≡ true → converted u row k d ≡ d
converted_same u row k (string s) h = same_text u (measure_at_key row k) s (no_measure true (is_some (measure_at_key row k)) (needs_tick row k) h refl)
converted_same u row k (integer z) h = refl
converted_same u row k (float x) h = refl
converted_same u row k (boolean b) h = refl
converted_same u row k (datetime t) h = refl
converted_same u row k (array ds) h = refl
converted_same u row k (table ms) h = refl

row_put : (u : Units) (row : Row) (ms into : Members) → is_ordered (join_members into ms) ≡ true → each_member (is_plain_value row) ms ≡ true
    → put_row u row ms into ≡ join_members into ms
row_put u row no_members into h plain = sym (join_none into)
row_put u row (member k d ms) into h plain =
    let (here, more) = and_parts (is_plain_value row k d) (each_member (is_plain_value row) ms) plain in
    let next = join_members into (member k d no_members) in
    ap (λ (x : Data). put_row u row ms (with_member k x into)) (converted_same u row k d here)
    ∙ ap (put_row u row ms) (last_inserted k d into ms h)
    ∙ row_put u row ms next (ap is_ordered (join_after into (member k d no_members) ms) ∙ h) more
    ∙ join_after into (member k d no_members) ms

pub row_same : (u : Units) (row : Row) (ms : Members) → is_ordered ms ≡ true → each_member (is_plain_value row) ms ≡ true → plain_row u row ms ≡ ms
row_same u row ms h plain = row_put u row ms no_members h plain

asks_none : (s : Bool) (m : Option Measure) (c : Bool) → (not (s && is_some m) && not c) ≡ true → ((s && asks_measure m) || c) ≡ false
asks_none true (Some m) c h = absurd (false≢true h)
asks_none true None true h = absurd (false≢true h)
asks_none true None false h = refl
asks_none false (Some m) true h = absurd (false≢true h)
asks_none false (Some m) false h = refl
asks_none false None true h = absurd (false≢true h)
asks_none false None false h = refl

pub row_asks_none : (row : Row) (ms : Members) → each_member (is_plain_value row) ms ≡ true → asks_row row ms ≡ false
row_asks_none row no_members plain = refl
row_asks_none row (member k d ms) plain =
    let (here, more) = and_parts (is_plain_value row k d) (each_member (is_plain_value row) ms) plain in
    rw (asks_none (is_some (as_str d)) (measure_at_key row k) (needs_tick row k) here) (row_asks_none row ms more)

-- ---- arrays

pub items_again : (ds : Items) → items_of (data_of ds) ≡ ds
items_again no_items = refl
items_again (item d ds) = ap (item d) (items_again ds)

-- an array whose elements stay as they are
pub remade_array : (make : Data → Data) (k : List ℕ) (ms : Members) (ds : Items) → is_ordered ms ≡ true → get_member k ms ≡ Some (array ds) → map make (data_of ds) ≡ data_of ds
    → remade_at make k ms ≡ ms
remade_array make k ms ds h is each =
    rw is (ap (λ (es : List Data). with_member k (array (items_of es)) ms) each ∙ ap (λ (es : Items). with_member k (array es) ms) (items_again ds) ∙ same_inserted k (array ds) ms h is)

pub remade_none : (make : Data → Data) (k : List ℕ) (ms : Members) → get_member k ms ≡ None → remade_at make k ms ≡ ms
remade_none make k ms is = rw is refl
