-- What the lines of a document leave, whatever the order of its keys: the same document with its keys in order.
use Rattle.std.proofs.Common.{◌≡◌, ◌∙◌, refl, sym, ap, subst, ℕ, Ordering, Less, Equal, Greater, nat_cmp, is_eq, Bool, true, false, not, ◌&&◌, List, [], ◌∷◌, Option, Some, None, option_map, if◌then◌else◌, inl, inr}
use Rattle.std.proofs.lemmas.Bool.{and_parts, cases_Bool, false≢true}
use Rattle.std.proofs.lemmas.Cmp.{nat_list_cmp_total}
use Rattle.std.specs.Cmp.Lexicographic.{slice_cmp}
use Rattle.std.specs.List.{list_all}
use Rattle.std.proofs.lemmas.Map.Lookups.{exact_bytes}
use Rattle.std.specs.Ordering.{match_ordering, ordering_reverse}
use Rattle.toml.specs.Data.{Data, string, integer, float, boolean, datetime, array, table, Items, no_items, item, push_item, Members, no_members, member, get_member, same_key}
use Rattle.toml.specs.Tables.{Node, Nodes, no_nodes, node, value, open_array, get_node, insert, close, close_node, array_table, along_dots, along_header, at_key, put}
use Rattle.toml.specs.Text.{is_section, are_tables}
use Rattle.toml.proofs.Fill.{fill, fill_pairs, fill_sections, fill_section, fill_elements}
use Rattle.toml.proofs.NodeLaws.{along_found, get_node-insert, replace-insert}
use Rattle.toml.proofs.ReadValues.{item_join, item_join-none, item_join-push}
use Rattle.wl_plain.specs.Tables.{with_member}
use Rattle.wl_setup.specs.Faults.{keys_in}
use Rattle.wl_print.proofs.Ordered.{cases_ordering, each_inserted, each_member, is_ordered, ordered_inserted}

close-insert : (k : List ℕ) (x : Node) (ns : Nodes) → close (insert k x ns) ≡ with_member k (close_node x) (close ns)
close-insert k x no_nodes = refl
close-insert k x (node l y ns) =
    elim (cases_ordering (slice_cmp nat_cmp k l)) [
      | inl less ↦ rw less refl
      | inr other ↦ elim other [
        | inl tie ↦ rw tie refl
        | inr more ↦ rw more (ap (member l (close_node y)) (close-insert k x ns))
      ]
    ]

tie_same : (k l : List ℕ) → slice_cmp nat_cmp k l ≡ Equal → k ≡ l
tie_same k l h = exact_bytes k l h

-- tests of keys either way
reversed : (o : Ordering) → is_eq o ≡ false → is_eq (ordering_reverse o) ≡ false
reversed Less h = refl
reversed Equal h = h
reversed Greater h = refl

pub other_way : (k l : List ℕ) → same_key k l ≡ false → same_key l k ≡ false
other_way k l h = ap is_eq (nat_list_cmp_total.antisymm l k) ∙ reversed (slice_cmp nat_cmp k l) h

-- another key's node stays
pub get_other : (l k : List ℕ) (x : Node) (ns : Nodes) → same_key l k ≡ false → get_node l (insert k x ns) ≡ get_node l ns
get_other l k x no_nodes h = rw h
get_other l k x (node j y ns) h =
    elim (cases_ordering (slice_cmp nat_cmp k j)) [
      | inl less ↦ rw (less, h)
      | inr other ↦ elim other [
        | inl tie ↦ let apart : same_key l j ≡ false = subst (λ (m : List ℕ). same_key l m ≡ false) (tie_same k j tie) h in rw (tie, apart)
        | inr more ↦ rw (more, get_other l k x ns h)
      ]
    ]

-- a look-up by the order is one by a test of keys
by_key : (o : Ordering) (a b : Option Data) → match_ordering o a b a ≡ (if is_eq o then b else a)
by_key Less a b = refl
by_key Equal a b = refl
by_key Greater a b = refl

abbrev pub at_key_of : List ℕ → List ℕ → Data → Option Data → Option Data
at_key_of l k d o = if same_key l k then Some d else o

pub get_at : (l k : List ℕ) (d : Data) (ms : Members) → get_member l (member k d ms) ≡ at_key_of l k d (get_member l ms)
get_at l k d ms = by_key (slice_cmp nat_cmp l k) (get_member l ms) (Some d)

Equal-from : (o : Ordering) → is_eq o ≡ true → o ≡ Equal
Equal-from Less h = absurd (false≢true h)
Equal-from Equal h = refl
Equal-from Greater h = absurd (false≢true h)

pub same_is : (l k : List ℕ) → same_key l k ≡ true → l ≡ k
same_is l k h = tie_same l k (Equal-from (slice_cmp nat_cmp l k) h)

later_key : (l k j : List ℕ) (d e : Data) (o : Option Data) → slice_cmp nat_cmp k j ≡ Greater → at_key_of l j e (at_key_of l k d o) ≡ at_key_of l k d (at_key_of l j e o)
later_key l k j d e o more =
    elim (cases_Bool (same_key l j)) [
      | inl same ↦
          let is : l ≡ j = tie_same l j (Equal-from (slice_cmp nat_cmp l j) same) in
          let apart : same_key l k ≡ false = ap (λ (m : List ℕ). same_key m k) is ∙ other_way k j (ap is_eq more) in
          rw (same, apart)
      | inr other ↦ rw other refl
    ]

twice_key : (l k : List ℕ) (d e : Data) (o : Option Data) → at_key_of l k d o ≡ at_key_of l k d (at_key_of l k e o)
twice_key l k d e o =
    elim (cases_Bool (same_key l k)) [
      | inl same ↦ rw same refl
      | inr other ↦ rw other refl
    ]

tied : (l k j : List ℕ) (d e : Data) (ms : Members) → k ≡ j → get_member l (member j d ms) ≡ at_key_of l k d (get_member l (member j e ms))
tied l k j d e ms is =
    subst (λ (i : List ℕ). get_member l (member i d ms) ≡ at_key_of l k d (get_member l (member i e ms))) is
    (get_at l k d ms ∙ twice_key l k d e (get_member l ms) ∙ ap (at_key_of l k d) (sym (get_at l k e ms)))

-- the value at a key of some members and one more
pub get_inserted : (l k : List ℕ) (d : Data) (ms : Members) → get_member l (with_member k d ms) ≡ at_key_of l k d (get_member l ms)
get_inserted l k d no_members = get_at l k d no_members
get_inserted l k d (member j e ms) =
    elim (cases_ordering (slice_cmp nat_cmp k j)) [
      | inl less ↦ rw less (get_at l k d (member j e ms))
      | inr other ↦ elim other [
        | inl tie ↦ rw tie (tied l k j d e ms (tie_same k j tie))
        | inr more ↦ rw more (get_at l j e (with_member k d ms) ∙ ap (at_key_of l j e) (get_inserted l k d ms) ∙ later_key l k j d e (get_member l ms) more ∙ ap (at_key_of l k d) (sym (get_at l j e ms)))
      ]
    ]

-- ---- the nodes that lines leave

-- the key is none of the members', and of no earlier one
abbrev pub is_fresh : List ℕ → Members → Bool
is_fresh k no_members = true
is_fresh k (member l d ms) = not (same_key l k) && is_fresh k ms

-- no table has a key twice, and no key holds a table by itself
abbrev mutual
  pub is_proper : Members → Bool
  is_proper no_members = true
  is_proper (member k d ms) = is_fresh k ms && (is_proper_data d && is_proper ms)

  pub is_proper_data : Data → Bool
  is_proper_data (table ms) = false
  is_proper_data (array ds) = is_proper_items ds
  is_proper_data (string s) = true
  is_proper_data (integer z) = true
  is_proper_data (float x) = true
  is_proper_data (boolean b) = true
  is_proper_data (datetime t) = true

  pub is_proper_items : Items → Bool
  is_proper_items no_items = true
  is_proper_items (item (table ms) ds) = is_proper ms && is_proper_items ds
  is_proper_items (item (array es) ds) = is_proper_items ds
  is_proper_items (item (string s) ds) = is_proper_items ds
  is_proper_items (item (integer z) ds) = is_proper_items ds
  is_proper_items (item (float x) ds) = is_proper_items ds
  is_proper_items (item (boolean b) ds) = is_proper_items ds
  is_proper_items (item (datetime t) ds) = is_proper_items ds

-- the members in the order of their keys: first those that are no arrays of tables
abbrev pub with_pairs : Members → Members → Members
with_pairs no_members to = to
with_pairs (member k d ms) to = if is_section d then with_pairs ms to else with_pairs ms (with_member k d to)

abbrev mutual
  pub with_arrays : Members → Members → Members
  with_arrays no_members to = to
  with_arrays (member k d ms) to = if is_section d then with_arrays ms (with_member k (sorted_data d) to) else with_arrays ms to

  pub sorted_data : Data → Data
  sorted_data (array ds) = array (sorted_items ds)
  sorted_data (table ms) = table ms
  sorted_data (string s) = string s
  sorted_data (integer z) = integer z
  sorted_data (float x) = float x
  sorted_data (boolean b) = boolean b
  sorted_data (datetime t) = datetime t

  pub sorted_items : Items → Items
  sorted_items no_items = no_items
  sorted_items (item (table ms) ds) = item (table (with_arrays ms (with_pairs ms no_members))) (sorted_items ds)
  sorted_items (item (array es) ds) = item (array es) (sorted_items ds)
  sorted_items (item (string s) ds) = item (string s) (sorted_items ds)
  sorted_items (item (integer z) ds) = item (integer z) (sorted_items ds)
  sorted_items (item (float x) ds) = item (float x) (sorted_items ds)
  sorted_items (item (boolean b) ds) = item (boolean b) (sorted_items ds)
  sorted_items (item (datetime t) ds) = item (datetime t) (sorted_items ds)

abbrev pub sorted : Members → Members
sorted ms = with_arrays ms (with_pairs ms no_members)

-- no key of the members has a node
abbrev Free : Members → Nodes → Type 0
Free no_members ns = Unit {0}
Free (member k d ms) ns = (get_node k ns ≡ None) × Free ms ns

abbrev FreeArrays : Members → Nodes → Type 0
FreeArrays no_members ns = Unit {0}
FreeArrays (member k d ms) ns = (is_section d ≡ true → get_node k ns ≡ None) × FreeArrays ms ns

pub not_parts : (b c : Bool) → (not b && c) ≡ true → (b ≡ false) × (c ≡ true)
not_parts true c h = absurd (false≢true h)
not_parts false c h = (refl, h)

free_after : (ms : Members) (k : List ℕ) (x : Node) (ns : Nodes) → is_fresh k ms ≡ true → Free ms ns → Free ms (insert k x ns)
free_after no_members k x ns fresh h = tt
free_after (member l d ms) k x ns fresh h =
    let (other, more) = not_parts (same_key l k) (is_fresh k ms) fresh in
    (get_other l k x ns other ∙ h.0, free_after ms k x ns more h.1)

free_arrays_after : (ms : Members) (k : List ℕ) (x : Node) (ns : Nodes) → is_fresh k ms ≡ true → FreeArrays ms ns → FreeArrays ms (insert k x ns)
free_arrays_after no_members k x ns fresh h = tt
free_arrays_after (member l d ms) k x ns fresh h =
    let (other, more) = not_parts (same_key l k) (is_fresh k ms) fresh in
    (λ is. get_other l k x ns other ∙ h.0 is, free_arrays_after ms k x ns more h.1)

-- the nodes with the pairs of the members
abbrev put_pairs : Members → Nodes → Nodes
put_pairs no_members ns = ns
put_pairs (member k d ms) ns = if is_section d then put_pairs ms ns else put_pairs ms (insert k (value d) ns)

put_new : (k : List ℕ) (d : Data) (ns : Nodes) → get_node k ns ≡ None → put ([], k) d ns ≡ Some (insert k (value d) ns)
unfolding along_dots at_key
put_new k d ns none = rw none refl

put_other : (ms : Members) (l : List ℕ) (ns : Nodes) → is_fresh l ms ≡ true → get_node l (put_pairs ms ns) ≡ get_node l ns
put_other no_members l ns fresh = refl
put_other (member k d ms) l ns fresh =
    let (other, more) = not_parts (same_key k l) (is_fresh l ms) fresh in
    elim (cases_Bool (is_section d)) [
      | inl is ↦ rw is (put_other ms l ns more)
      | inr pair ↦ rw pair (put_other ms l (insert k (value d) ns) more ∙ get_other l k (value d) ns (other_way k l other))
    ]

pairs_filled : (ms : Members) (ns : Nodes) → is_proper ms ≡ true → Free ms ns → fill_pairs ms ns ≡ Some (put_pairs ms ns)
pairs_filled no_members ns proper free = refl
pairs_filled (member k d ms) ns proper free =
    let (fresh, rest) = and_parts (is_fresh k ms) (is_proper_data d && is_proper ms) proper in
    let (here, more) = and_parts (is_proper_data d) (is_proper ms) rest in
    elim (cases_Bool (is_section d)) [
      | inl is ↦ rw is (pairs_filled ms ns more free.1)
      | inr pair ↦ rw (pair, put_new k d ns free.0) (pairs_filled ms (insert k (value d) ns) more (free_after ms k (value d) ns fresh free.1))
    ]

pairs_closed : (ms : Members) (ns : Nodes) → close (put_pairs ms ns) ≡ with_pairs ms (close ns)
pairs_closed no_members ns = refl
pairs_closed (member k d ms) ns =
    elim (cases_Bool (is_section d)) [
      | inl is ↦ rw is (pairs_closed ms ns)
      | inr pair ↦ rw pair (pairs_closed ms (insert k (value d) ns) ∙ ap (with_pairs ms) (close-insert k (value d) ns))
    ]

-- the keys of arrays of tables are free yet
arrays_free : (ms : Members) (ns : Nodes) → is_proper ms ≡ true → Free ms ns → FreeArrays ms (put_pairs ms ns)
arrays_free no_members ns proper free = tt
arrays_free (member k d ms) ns proper free =
    let (fresh, rest) = and_parts (is_fresh k ms) (is_proper_data d && is_proper ms) proper in
    let (here, more) = and_parts (is_proper_data d) (is_proper ms) rest in
    elim (cases_Bool (is_section d)) [
      | inl is ↦ rw is (λ _. put_other ms k ns fresh ∙ free.0, arrays_free ms ns more free.1)
      | inr pair ↦ rw pair (λ is. absurd (false≢true is), arrays_free ms (insert k (value d) ns) more (free_after ms k (value d) ns fresh free.1))
    ]

-- a header of an array's first table, and of a later one
header_first : (k : List ℕ) (ns : Nodes) → get_node k ns ≡ None → at_key k array_table ns ≡ Some (insert k (open_array no_items no_nodes) ns)
unfolding at_key
header_first k ns none = rw none refl

header_later : (k : List ℕ) (done : Items) (last ns : Nodes)
    → at_key k array_table (insert k (open_array done last) ns) ≡ Some (insert k (open_array (push_item done (table (close last))) no_nodes) ns)
unfolding at_key
header_later k done last ns =
    let x = open_array done last in
    rw (get_node-insert k x ns) (ap Some (replace-insert k x (open_array (push_item done (table (close last))) no_nodes) ns))

within_last : (k : List ℕ) (done : Items) (last made ns : Nodes) (ms : Members) → fill ms last ≡ Some made
    → along_header (k ∷ []) (fill ms) (insert k (open_array done last) ns) ≡ Some (insert k (open_array done made) ns)
unfolding along_header
within_last k done last made ns ms is =
    let x = open_array done last in
    along_found k [] (fill ms) (insert k x ns) x (get_node-insert k x ns) ∙ rw is (ap Some (replace-insert k x (open_array done made) ns))

-- what arrays of tables leave
abbrev Filled : Members → Nodes → Type 0
Filled ms ns = (n : Nodes) × (fill ms ns ≡ Some n) × (close n ≡ with_arrays ms (with_pairs ms (close ns)))

free_none : (ms : Members) → Free ms no_nodes
free_none no_members = tt
free_none (member k d ms) = (refl, free_none ms)

abbrev ArraysFilled : Members → Nodes → Type 0
ArraysFilled ms ns = (n : Nodes) × (fill_sections ms ns ≡ Some n) × (close n ≡ with_arrays ms (close ns))

abbrev SectionFilled : List ℕ → Data → Nodes → Type 0
SectionFilled k d ns = (x : Node) × (fill_section k d ns ≡ Some (insert k x ns)) × (close_node x ≡ sorted_data d)

abbrev ElementsFilled : List ℕ → Items → Items → Nodes → Nodes → Type 0
ElementsFilled k ds done last ns =
    (done' : Items) × (last' : Nodes) × (fill_elements k ds (insert k (open_array done last) ns) ≡ Some (insert k (open_array done' last') ns))
    × (push_item done' (table (close last')) ≡ item_join (push_item done (table (close last))) (sorted_items ds))

the_section : (b : Bool) (ms : Members) (k : List ℕ) (d : Data) (ns n : Nodes) (x : Node) → is_section d ≡ true → fill_section k d ns ≡ Some (insert k x ns)
    → fill_sections ms (insert k x ns) ≡ Some n → fill_sections (member k d ms) ns ≡ Some n
the_section b ms k d ns n x is one more = rw (is, one) more

array_filled : (k : List ℕ) (ms : Members) (ds : Items) (ns m : Nodes) → get_node k ns ≡ None → fill ms no_nodes ≡ Some m
    → close m ≡ with_arrays ms (with_pairs ms no_members) → ElementsFilled k ds no_items m ns → SectionFilled k (array (item (table ms) ds)) ns
array_filled k ms ds ns m free made closed more =
    let (done, last, filled_more, joined) = more in
    let opened = header_first k ns free in
    let within = within_last k no_items no_nodes m ns ms made in (
      open_array done last,
      rw (opened, within, filled_more) refl,
      ap array (joined ∙ ap (λ (t : Members). item (table t) (sorted_items ds)) closed),
    )

filled_by : (ms : Members) (ns : Nodes) → is_proper ms ≡ true → Free ms ns → ArraysFilled ms (put_pairs ms ns) → Filled ms ns
filled_by ms ns proper free more =
    let (n, made, closed) = more in
    (n, rw (pairs_filled ms ns proper free) made, closed ∙ ap (with_arrays ms) (pairs_closed ms ns))

mutual
  arrays_filled : (ms : Members) (ns : Nodes) → is_proper ms ≡ true → FreeArrays ms ns → ArraysFilled ms ns
  arrays_filled no_members ns proper free = (ns, refl, refl)
  arrays_filled (member k d ms) ns proper free =
      let (fresh, rest) = and_parts (is_fresh k ms) (is_proper_data d && is_proper ms) proper in
      let (here, more) = and_parts (is_proper_data d) (is_proper ms) rest in
      elim (cases_Bool (is_section d)) [
        | inl is ↦
            let (x, one, closed) = section_filled d k ns here (free.0 is) is in
            let (n, made, closed_more) = arrays_filled ms (insert k x ns) more (free_arrays_after ms k x ns fresh free.1) in (
              n,
              the_section true ms k d ns n x is one made,
              closed_more ∙ ap (with_arrays ms) (close-insert k x ns ∙ ap (λ (e : Data). with_member k e (close ns)) closed)
                  ∙ sym (ap (λ (b : Bool). if b then with_arrays ms (with_member k (sorted_data d) (close ns)) else with_arrays ms (close ns)) is),
            )
        | inr pair ↦
            let (n, made, closed) = arrays_filled ms ns more free.1 in
            (n, rw pair made, closed ∙ sym (ap (λ (b : Bool). if b then with_arrays ms (with_member k (sorted_data d) (close ns)) else with_arrays ms (close ns)) pair))
      ]

  section_filled : (d : Data) (k : List ℕ) (ns : Nodes) → is_proper_data d ≡ true → get_node k ns ≡ None → is_section d ≡ true → SectionFilled k d ns
  section_filled (string x) k ns proper free is = absurd (false≢true is)
  section_filled (integer x) k ns proper free is = absurd (false≢true is)
  section_filled (float x) k ns proper free is = absurd (false≢true is)
  section_filled (boolean x) k ns proper free is = absurd (false≢true is)
  section_filled (datetime x) k ns proper free is = absurd (false≢true is)
  section_filled (table ms) k ns proper free is = absurd (false≢true proper)
  section_filled (array no_items) k ns proper free is = absurd (false≢true is)
  section_filled (array (item (string x) ds)) k ns proper free is = absurd (false≢true is)
  section_filled (array (item (integer x) ds)) k ns proper free is = absurd (false≢true is)
  section_filled (array (item (float x) ds)) k ns proper free is = absurd (false≢true is)
  section_filled (array (item (boolean x) ds)) k ns proper free is = absurd (false≢true is)
  section_filled (array (item (datetime x) ds)) k ns proper free is = absurd (false≢true is)
  section_filled (array (item (array es) ds)) k ns proper free is = absurd (false≢true is)
  section_filled (array (item (table ms) ds)) k ns proper free is =
      let (here, more) = and_parts (is_proper ms) (is_proper_items ds) proper in
      let (m, made, closed) = filled_by ms no_nodes here (free_none ms) (arrays_filled ms (put_pairs ms no_nodes) here (arrays_free ms no_nodes here (free_none ms))) in
      array_filled k ms ds ns m free made closed (elements_filled ds k no_items m ns more is)

  elements_filled : (ds : Items) (k : List ℕ) (done : Items) (last ns : Nodes) → is_proper_items ds ≡ true → are_tables ds ≡ true → ElementsFilled k ds done last ns
  elements_filled no_items k done last ns proper all = (done, last, refl, sym (item_join-none (push_item done (table (close last)))))
  elements_filled (item (string x) ds) k done last ns proper all = absurd (false≢true all)
  elements_filled (item (integer x) ds) k done last ns proper all = absurd (false≢true all)
  elements_filled (item (float x) ds) k done last ns proper all = absurd (false≢true all)
  elements_filled (item (boolean x) ds) k done last ns proper all = absurd (false≢true all)
  elements_filled (item (datetime x) ds) k done last ns proper all = absurd (false≢true all)
  elements_filled (item (array es) ds) k done last ns proper all = absurd (false≢true all)
  elements_filled (item (table ms) ds) k done last ns proper all =
      let (here, more) = and_parts (is_proper ms) (is_proper_items ds) proper in
      let (m, made, closed) = filled_by ms no_nodes here (free_none ms) (arrays_filled ms (put_pairs ms no_nodes) here (arrays_free ms no_nodes here (free_none ms))) in
      let next = push_item done (table (close last)) in
      let (done', last', filled_more, joined) = elements_filled ds k next m ns more all in
      let opened = header_later k done last ns in
      let within = within_last k next no_nodes m ns ms made in (
        done',
        last',
        rw (opened, within, filled_more) refl,
        joined ∙ item_join-push next (table (close m)) (sorted_items ds) ∙ ap (λ (t : Members). item_join next (item (table t) (sorted_items ds))) closed,
      )

pub filled : (ms : Members) → is_proper ms ≡ true → Filled ms no_nodes
filled ms proper = filled_by ms no_nodes proper (free_none ms) (arrays_filled ms (put_pairs ms no_nodes) proper (arrays_free ms no_nodes proper (free_none ms)))

-- ---- what is found in members in the order of their keys

-- a value as it is found there
abbrev pub kept : Data → Data
kept d = if is_section d then sorted_data d else d

abbrev at_pairs : List ℕ → Members → Option Data → Option Data
at_pairs l no_members o = o
at_pairs l (member k d ms) o = if is_section d then at_pairs l ms o else at_pairs l ms (at_key_of l k d o)

abbrev at_arrays : List ℕ → Members → Option Data → Option Data
at_arrays l no_members o = o
at_arrays l (member k d ms) o = if is_section d then at_arrays l ms (at_key_of l k (sorted_data d) o) else at_arrays l ms o

get_with_pairs : (ms to : Members) (l : List ℕ) → get_member l (with_pairs ms to) ≡ at_pairs l ms (get_member l to)
get_with_pairs no_members to l = refl
get_with_pairs (member k d ms) to l =
    elim (cases_Bool (is_section d)) [
      | inl is ↦ rw is (get_with_pairs ms to l)
      | inr pair ↦ rw pair (get_with_pairs ms (with_member k d to) l ∙ ap (at_pairs l ms) (get_inserted l k d to))
    ]

get_with_arrays : (ms to : Members) (l : List ℕ) → get_member l (with_arrays ms to) ≡ at_arrays l ms (get_member l to)
get_with_arrays no_members to l = refl
get_with_arrays (member k d ms) to l =
    elim (cases_Bool (is_section d)) [
      | inl is ↦ rw is (get_with_arrays ms (with_member k (sorted_data d) to) l ∙ ap (at_arrays l ms) (get_inserted l k (sorted_data d) to))
      | inr pair ↦ rw pair (get_with_arrays ms to l)
    ]

pairs_past : (ms : Members) (l : List ℕ) (o : Option Data) → is_fresh l ms ≡ true → at_pairs l ms o ≡ o
pairs_past no_members l o fresh = refl
pairs_past (member k d ms) l o fresh =
    let (other, more) = not_parts (same_key k l) (is_fresh l ms) fresh in
    let apart = other_way k l other in
    elim (cases_Bool (is_section d)) [
      | inl is ↦ rw is (pairs_past ms l o more)
      | inr pair ↦ rw (pair, apart) (pairs_past ms l o more)
    ]

arrays_past : (ms : Members) (l : List ℕ) (o : Option Data) → is_fresh l ms ≡ true → at_arrays l ms o ≡ o
arrays_past no_members l o fresh = refl
arrays_past (member k d ms) l o fresh =
    let (other, more) = not_parts (same_key k l) (is_fresh l ms) fresh in
    let apart = other_way k l other in
    elim (cases_Bool (is_section d)) [
      | inl is ↦ rw (is, apart) (arrays_past ms l o more)
      | inr pair ↦ rw pair (arrays_past ms l o more)
    ]

abbrev IsFound : List ℕ → Members → Type 0
IsFound l ms = at_arrays l ms (at_pairs l ms None) ≡ option_map kept (get_member l ms)

found_here : (l k : List ℕ) (d : Data) (ms : Members) → is_fresh k ms ≡ true → same_key l k ≡ true → IsFound l (member k d ms)
found_here l k d ms fresh same =
    let fresh_here : is_fresh l ms ≡ true = ap (λ (j : List ℕ). is_fresh j ms) (tie_same l k (Equal-from (slice_cmp nat_cmp l k) same)) ∙ fresh in
    let found : get_member l (member k d ms) ≡ Some d = get_at l k d ms ∙ rw same refl in
    elim (cases_Bool (is_section d)) [
      | inl is ↦ rw (found, is, same) (arrays_past ms l (Some (sorted_data d)) fresh_here)
      | inr pair ↦ rw (found, pair, same, pairs_past ms l (Some d) fresh_here) (arrays_past ms l (Some d) fresh_here)
    ]

found_later : (l k : List ℕ) (d : Data) (ms : Members) → same_key l k ≡ false → IsFound l ms → IsFound l (member k d ms)
found_later l k d ms other more =
    let found : get_member l (member k d ms) ≡ get_member l ms = get_at l k d ms ∙ rw other refl in
    elim (cases_Bool (is_section d)) [
      | inl is ↦ rw (found, is, other) more
      | inr pair ↦ rw (found, pair, other) more
    ]

is_found : (ms : Members) (l : List ℕ) → is_proper ms ≡ true → IsFound l ms
is_found no_members l proper = refl
is_found (member k d ms) l proper =
    let (fresh, rest) = and_parts (is_fresh k ms) (is_proper_data d && is_proper ms) proper in
    let (here, more) = and_parts (is_proper_data d) (is_proper ms) rest in
    elim (cases_Bool (same_key l k)) [
      | inl same ↦ found_here l k d ms fresh same
      | inr other ↦ found_later l k d ms other (is_found ms l more)
    ]

-- each key holds what it held, with the keys of its tables in order
pub get_sorted : (ms : Members) (l : List ℕ) → is_proper ms ≡ true → get_member l (sorted ms) ≡ option_map kept (get_member l ms)
get_sorted ms l proper = get_with_arrays ms (with_pairs ms no_members) l ∙ ap (at_arrays l ms) (get_with_pairs ms no_members l) ∙ is_found ms l proper

-- ---- keys

keys_inserted : (p : List ℕ → Bool) (k : List ℕ) (d : Data) (ms : Members) → p k ≡ true → list_all p (keys_in ms) ≡ true → list_all p (keys_in (with_member k d ms)) ≡ true
keys_inserted p k d no_members here all = rw here refl
keys_inserted p k d (member l e ms) here all =
    let (own, more) = and_parts (p l) (list_all p (keys_in ms)) all in
    elim (cases_ordering (slice_cmp nat_cmp k l)) [
      | inl less ↦ rw (less, here) all
      | inr other ↦ elim other [
        | inl tie ↦ rw tie all
        | inr more_key ↦ rw (more_key, own) (keys_inserted p k d ms here more)
      ]
    ]

keys_with_pairs : (p : List ℕ → Bool) (ms to : Members) → list_all p (keys_in ms) ≡ true → list_all p (keys_in to) ≡ true → list_all p (keys_in (with_pairs ms to)) ≡ true
keys_with_pairs p no_members to all others = others
keys_with_pairs p (member k d ms) to all others =
    let (own, more) = and_parts (p k) (list_all p (keys_in ms)) all in
    elim (cases_Bool (is_section d)) [
      | inl is ↦ rw is (keys_with_pairs p ms to more others)
      | inr pair ↦ rw pair (keys_with_pairs p ms (with_member k d to) more (keys_inserted p k d to own others))
    ]

keys_with_arrays : (p : List ℕ → Bool) (ms to : Members) → list_all p (keys_in ms) ≡ true → list_all p (keys_in to) ≡ true → list_all p (keys_in (with_arrays ms to)) ≡ true
keys_with_arrays p no_members to all others = others
keys_with_arrays p (member k d ms) to all others =
    let (own, more) = and_parts (p k) (list_all p (keys_in ms)) all in
    elim (cases_Bool (is_section d)) [
      | inl is ↦ rw is (keys_with_arrays p ms (with_member k (sorted_data d) to) more (keys_inserted p k (sorted_data d) to own others))
      | inr pair ↦ rw pair (keys_with_arrays p ms to more others)
    ]

-- a test that each key passes, each passes in order
pub keys_sorted : (p : List ℕ → Bool) (ms : Members) → list_all p (keys_in ms) ≡ true → list_all p (keys_in (sorted ms)) ≡ true
keys_sorted p ms all = keys_with_arrays p ms (with_pairs ms no_members) all (keys_with_pairs p ms no_members all refl)

-- ---- the order of keys, and tests of each member

ordered_with_pairs : (ms to : Members) → is_ordered to ≡ true → is_ordered (with_pairs ms to) ≡ true
ordered_with_pairs no_members to h = h
ordered_with_pairs (member k d ms) to h =
    elim (cases_Bool (is_section d)) [
      | inl is ↦ rw is (ordered_with_pairs ms to h)
      | inr pair ↦ rw pair (ordered_with_pairs ms (with_member k d to) (ordered_inserted k d to h))
    ]

ordered_with_arrays : (ms to : Members) → is_ordered to ≡ true → is_ordered (with_arrays ms to) ≡ true
ordered_with_arrays no_members to h = h
ordered_with_arrays (member k d ms) to h =
    elim (cases_Bool (is_section d)) [
      | inl is ↦ rw is (ordered_with_arrays ms (with_member k (sorted_data d) to) (ordered_inserted k (sorted_data d) to h))
      | inr pair ↦ rw pair (ordered_with_arrays ms to h)
    ]

pub sorted_in_order : (ms : Members) → is_ordered (sorted ms) ≡ true
sorted_in_order ms = ordered_with_arrays ms (with_pairs ms no_members) (ordered_with_pairs ms no_members refl)

module _ (p : List ℕ → Data → Bool) (keeps : (k : List ℕ) (d : Data) → p k d ≡ true → p k (sorted_data d) ≡ true) where
  each_with_pairs : (ms to : Members) → each_member p ms ≡ true → each_member p to ≡ true → each_member p (with_pairs ms to) ≡ true
  each_with_pairs no_members to all others = others
  each_with_pairs (member k d ms) to all others =
      let (own, more) = and_parts (p k d) (each_member p ms) all in
      elim (cases_Bool (is_section d)) [
        | inl is ↦ rw is (each_with_pairs ms to more others)
        | inr pair ↦ rw pair (each_with_pairs ms (with_member k d to) more (each_inserted p k d to own others))
      ]

  each_with_arrays : (ms to : Members) → each_member p ms ≡ true → each_member p to ≡ true → each_member p (with_arrays ms to) ≡ true
  each_with_arrays no_members to all others = others
  each_with_arrays (member k d ms) to all others =
      let (own, more) = and_parts (p k d) (each_member p ms) all in
      elim (cases_Bool (is_section d)) [
        | inl is ↦ rw is (each_with_arrays ms (with_member k (sorted_data d) to) more (each_inserted p k (sorted_data d) to (keeps k d own) others))
        | inr pair ↦ rw pair (each_with_arrays ms to more others)
      ]

  -- a test that each member passes, each passes in order
  pub each_sorted : (ms : Members) → each_member p ms ≡ true → each_member p (sorted ms) ≡ true
  each_sorted ms all = each_with_arrays ms (with_pairs ms no_members) all (each_with_pairs ms no_members all refl)
