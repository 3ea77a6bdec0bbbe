-- A plan that was printed is read as it was.
use Rattle.std.proofs.Common.{◌≡◌, ◌∙◌, refl, sym, ap, ℕ, pos, Bool, true, false, not, ◌&&◌, nat_le, List, [], ◌∷◌, ◌++◌, map, codes, decimal, Option, Some, None, is_some, option_map, Ok, if◌then◌else◌, arith, inl, inr}
use Rattle.std.proofs.Math.Bool.{and-false}
use Rattle.std.proofs.lemmas.Bool.{and_parts, cases_Bool, false≢true}
use Rattle.std.proofs.lemmas.Bool.Decides.{nat_tests}
use Rattle.std.proofs.lemmas.Str.{IsUtf8-string_bytes, is_utf8-from_IsUtf8}
use Rattle.std.specs.Prelude.{String, string_bytes}
use Rattle.std.specs.Str.{is_utf8}
use Rattle.toml.specs.Data.{string, integer, Members, no_members, get_member}
use Rattle.toml.specs.Parse.{parse_document}
use Rattle.wl_segments.specs.declared.SyncRules.{SyncRules}
use Rattle.wl_segments.specs.declared.SyncRules.TheVariants as sync
use Rattle.wl_setup.specs.declared.keys.Key.TheVariants as key
use Rattle.wl_setup.specs.declared.plan_text.DisturbanceText.{DisturbanceText}
use Rattle.wl_setup.specs.declared.plan_text.NodeText.{NodeText}
use Rattle.wl_setup.specs.declared.plan_text.PlanText.{PlanText}
use Rattle.wl_plain.specs.declared.measure.Row.TheVariants.{Top}
use Rattle.wl_plain.specs.Documents.{plain_document}
use Rattle.wl_units.specs.declared.scale.TheConstants.{LONGEST_TICK, LONGEST_UNIT}
use Rattle.wl_setup.specs.Document.{head_fault, plain_fault, plan_text_of, read_form, unless}
use Rattle.wl_setup.specs.Faults.{asks_tick_in, is_of_table, is_value_of, table_fault, top_keys, version_fault}
use Rattle.wl_setup.specs.Keys.{key_text, top_optional, top_required}
use Rattle.wl_setup.specs.Kinds.{number_at, sync_choice_at, tables_at, tick_at, unit_at, value_at}
use Rattle.wl_setup.specs.Limits.{largest_number, largest_number-is}
use Rattle.wl_setup.specs.Names.{has_repeat, names_of, same_name_fault}
use Rattle.wl_setup.specs.Reading.{text_answer}
use Rattle.wl_setup.specs.TablePaths.{controller_faults, controller_tables, disturbance_fault_at, first_in, node_fault_at}
use Rattle.wl_setup.specs.Texts.{disturbance_of, node_text_of, plan_of}
use Rattle.wl_setup.specs.Version.{has_controllers, has_traffic, is_known_version}
use Rattle.wl_print.specs.Printable.{PrintedAfterComment, PrintsBack, has_nodes, is_disturbance, is_node, is_number_of_key, is_printable, is_scale_if}
use Rattle.wl_print.specs.Written.{plan_words, sync_word}
use Rattle.wl_print.proofs.Documents.{read_after, read_document}
use Rattle.wl_print.proofs.Entries.{AllAllowed, AllTaken, Allowed, AreProper, Entry, Taken, all_members, all_there, entries_of, found, no_fault, proper_entries, rows_proper, seen, tables_value, with_entry, with_rows_is, with_tables_is}
use Rattle.wl_print.proofs.NodeBack.{entry_proper, map_back, map_same, node_entries, node_is, node_proper, node_quiet, node_read, quiet, tables_allowed, tables_seen, tables_taken}
use Rattle.wl_print.proofs.PlanPlain.{AllPlain, asks_no_tick, document_same, measure_plain, table_plain, tables_plain}
use Rattle.wl_print.proofs.PlanLines.{plan_lines}
use Rattle.wl_print.proofs.PlanRows.{IsPlan, disturbance_are_rows, disturbance_members, disturbance_rows, measure_of, node_facts, node_members, plan_facts, plan_members, top_are_rows, top_rows}
use Rattle.wl_print.proofs.Readback.{datum, disturbance_back, number_kind, number_seen}
use Rattle.wl_print.proofs.Scales.{tick_back, unit_back}
use Rattle.wl_print.proofs.Sorted.{is_proper, kept, sorted, sorted_in_order}
use Rattle.wl_print.proofs.Tables.{with_rows, with_tables}

node_is_proper : (version : ℕ) (n : NodeText) → is_node version n ≡ true → is_proper (node_members version n) ≡ true
node_is_proper version n h =
    ap is_proper (node_is version n) ∙ proper_entries (node_entries version n) refl (node_proper version n (node_facts version n h))

node_reads : (version : ℕ) → is_known_version version ≡ true → (n : NodeText) → is_node version n ≡ true → node_text_of version (sorted (node_members version n)) ≡ n
node_reads version known n h = ap (λ (t : Members). node_text_of version (sorted t)) (node_is version n) ∙ node_read version n known (node_facts version n h)

node_quiets : (version : ℕ) → is_known_version version ≡ true → (i : ℕ) (n : NodeText) → is_node version n ≡ true → node_fault_at version i (sorted (node_members version n)) ≡ None
node_quiets version known i n h = ap (λ (t : Members). node_fault_at version i (sorted t)) (node_is version n) ∙ node_quiet version i n known (node_facts version n h)

disturbance_is_proper : (known : Bool) (d : DisturbanceText) → is_disturbance known d ≡ true → is_proper (disturbance_members d) ≡ true
disturbance_is_proper known d h =
    ap is_proper (with_rows_is (disturbance_rows d) [])
    ∙ proper_entries (entries_of (disturbance_rows d)) refl (rows_proper (disturbance_rows d) [] (disturbance_are_rows known d h) tt)

disturbance_reads : (known : Bool) (d : DisturbanceText) → is_disturbance known d ≡ true → disturbance_of (sorted (disturbance_members d)) ≡ d
disturbance_reads known d h =
    ap (λ (t : Members). disturbance_of (sorted t)) (with_rows_is (disturbance_rows d) []) ∙ (disturbance_back known d.node d.x d.from d.to h).0

disturbance_quiets : (version i : ℕ) (d : DisturbanceText) → is_disturbance (has_traffic version) d ≡ true → disturbance_fault_at version i (sorted (disturbance_members d)) ≡ None
disturbance_quiets version i d h =
    ap (λ (t : Members). disturbance_fault_at version i (sorted t)) (with_rows_is (disturbance_rows d) [])
    ∙ rw (disturbance_back (has_traffic version) d.node d.x d.from d.to h).1 refl

-- ---- the top table

known_number : (v : ℕ) → is_known_version v ≡ true → is_number_of_key v ≡ true
known_number v h = rw largest_number-is (grind (arith, nat_tests))

sync_seen : (t : Members) (s : SyncRules) → value_at key.Sync t ≡ Some (string (sync_word s)) → sync_choice_at key.Sync t ≡ s
sync_seen t sync.After is = rw is refl
sync_seen t sync.Book is = rw is refl

sync_kind : (s : SyncRules) → is_value_of key.Sync (string (sync_word s)) ≡ true
sync_kind sync.After = refl
sync_kind sync.Book = refl

some_nodes : (version : ℕ) (t : Members) (ns : List NodeText) → has_nodes ns ≡ true → value_at key.Node t ≡ option_map kept (tables_value (node_members version) ns) → Taken t key.Node
some_nodes version t [] some is = absurd (false≢true some)
some_nodes version t (n ∷ ns) some is = tables_taken (node_members version) key.Node (λ d. refl) t n ns is

-- the lengths of a tick and of a unit
tick_read : (t : Members) (n : ℕ) → value_at key.Tick t ≡ Some (string (decimal n ++ codes "fs")) → (nat_le 1 n && nat_le n LONGEST_TICK) ≡ true → tick_at key.Tick t ≡ Some n
tick_read t n is h = rw (is, tick_back n h) refl

tick_seen : (known : Bool) (t : Members) (o : Option ℕ) → value_at key.Tick t ≡ datum (measure_of (codes "fs") o) → is_scale_if known LONGEST_TICK o ≡ true → tick_at key.Tick t ≡ o
tick_seen known t None is h = rw is refl
tick_seen known t (Some n) is h = tick_read t n is (and_parts known (nat_le 1 n && nat_le n LONGEST_TICK) h).1

tick_allowed : (known : Bool) (t : Members) (o : Option ℕ) → value_at key.Tick t ≡ datum (measure_of (codes "fs") o) → is_scale_if known LONGEST_TICK o ≡ true → Allowed t key.Tick
tick_allowed known t None is h = inl is
tick_allowed known t (Some n) is h =
    inr (string (decimal n ++ codes "fs"), is, ap (λ (o : Option ℕ). is_some o) (tick_back n (and_parts known (nat_le 1 n && nat_le n LONGEST_TICK) h).1))

unit_read : (t : Members) (n : ℕ) → value_at key.Unit t ≡ Some (string (decimal n ++ codes "um")) → (nat_le 1 n && nat_le n LONGEST_UNIT) ≡ true → unit_at key.Unit t ≡ Some n
unit_read t n is h = rw (is, unit_back n h) refl

unit_seen : (known : Bool) (t : Members) (o : Option ℕ) → value_at key.Unit t ≡ datum (measure_of (codes "um") o) → is_scale_if known LONGEST_UNIT o ≡ true → unit_at key.Unit t ≡ o
unit_seen known t None is h = rw is refl
unit_seen known t (Some n) is h = unit_read t n is (and_parts known (nat_le 1 n && nat_le n LONGEST_UNIT) h).1

unit_allowed : (known : Bool) (t : Members) (o : Option ℕ) → value_at key.Unit t ≡ datum (measure_of (codes "um") o) → is_scale_if known LONGEST_UNIT o ≡ true → Allowed t key.Unit
unit_allowed known t None is h = inl is
unit_allowed known t (Some n) is h =
    inr (string (decimal n ++ codes "um"), is, ap (λ (o : Option ℕ). is_some o) (unit_back n (and_parts known (nat_le 1 n && nat_le n LONGEST_UNIT) h).1))

scale_none : (known : Bool) (longest : ℕ) (o : Option ℕ) → is_scale_if known longest o ≡ true → known ≡ false → o ≡ None
scale_none known longest None h old = refl
scale_none false longest (Some n) h old = absurd (false≢true h)
scale_none true longest (Some n) h old = absurd (false≢true (sym old))

plan_by : (t : Members) (p : PlanText) → number_at key.Version t ≡ p.version → (number_at key.End t ≡ p.end) × (number_at key.Per t ≡ p.per)
    → map (node_text_of p.version) (tables_at key.Node t) ≡ p.node → map disturbance_of (tables_at key.Disturbance t) ≡ p.disturbance → sync_choice_at key.Sync t ≡ p.sync → (tick_at key.Tick t ≡ p.tick) × (unit_at key.Unit t ≡ p.unit) → plan_of t ≡ p
plan_by t p v e n d s l = rw (v, e.0, e.1, n, d, s, l.0, l.1) refl

version_fine : (t : Members) (v : ℕ) → value_at key.Version t ≡ Some (integer (pos v)) → is_number_of_key v ≡ true → is_known_version v ≡ true → version_fault t ≡ None
version_fine t v is few known = rw (is, few, known) refl

names_fine : (p : PlanText) → not (has_repeat (names_of p)) ≡ true → same_name_fault p ≡ None
names_fine p h = once (has_repeat (names_of p)) refl
  where
    once : (b : Bool) → has_repeat (names_of p) ≡ b → same_name_fault p ≡ None
    once false is = rw is refl
    once true is = absurd (false≢true (sym (ap not is) ∙ h))

no_controllers : (t : Members) → value_at key.Controllers t ≡ None → controller_faults 0 (controller_tables t) ≡ None
no_controllers t is = rw is refl

no_head : (t : Members) → version_fault t ≡ None → table_fault (top_keys (number_at key.Version t) t) t ≡ None → controller_faults 0 (controller_tables t) ≡ None → head_fault t ≡ None
no_head t a b c = rw (a, b, c) refl

no_first : (t : Members) (p : PlanText) → head_fault t ≡ None → first_in (node_fault_at (number_at key.Version t)) (tables_at key.Node t) ≡ None
    → first_in (disturbance_fault_at (number_at key.Version t)) (tables_at key.Disturbance t) ≡ None → plan_of t ≡ p → not (has_repeat (names_of p)) ≡ true → plain_fault t ≡ None
no_first t p a b c is names =
    let same : same_name_fault (plan_of t) ≡ None = ap same_name_fault is ∙ names_fine p names in
    rw (a, b, c, same) refl

-- a document that is its own plain form is read as it is
own_form : (t : Members) → plain_document t ≡ t → read_form t ≡ t
own_form t same =
    elim (cases_Bool (has_controllers (number_at key.Version t))) [
      | inl wide ↦ ap (λ (b : Bool). if b then plain_document t else t) wide ∙ same
      | inr narrow ↦ ap (λ (b : Bool). if b then plain_document t else t) narrow
    ]

no_fault_reads : (t : Members) (p : PlanText) → plain_document t ≡ t → plain_fault t ≡ None → plan_of t ≡ p → plan_text_of t ≡ Ok p
no_fault_reads t p same a b =
    ap (λ (f : Members). unless (option_map (λ q. q.fault) (plain_fault f)) (plan_of f)) (own_form t same) ∙ rw (a, b) refl

module _ (p : PlanText) (h : IsPlan p) where
  abbrev plan_entries : List Entry
  plan_entries =
      entries_of (top_rows p)
      ++ (codes "node", tables_value (node_members p.version) p.node) ∷ (codes "disturbance", tables_value disturbance_members p.disturbance) ∷ []

  plan_is : plan_members p ≡ all_members plan_entries
  plan_is =
      ap (with_rows (top_rows p))
      (with_tables_is (node_members p.version) (codes "node") p.node (with_tables disturbance_members (codes "disturbance") p.disturbance no_members)
      ∙ ap (with_entry (codes "node") (tables_value (node_members p.version) p.node)) (with_tables_is disturbance_members (codes "disturbance") p.disturbance no_members))
      ∙ with_rows_is (top_rows p)
      ((codes "node", tables_value (node_members p.version) p.node) ∷ (codes "disturbance", tables_value disturbance_members p.disturbance) ∷ [])

  plan_proper : AreProper plan_entries
  plan_proper =
      rows_proper (top_rows p) ((codes "node", tables_value (node_members p.version) p.node) ∷ (codes "disturbance", tables_value disturbance_members p.disturbance) ∷ []) (top_are_rows p h)
      (entry_proper (node_members p.version) (is_node p.version) (node_is_proper p.version) (codes "node") p.node ((codes "disturbance", tables_value disturbance_members p.disturbance) ∷ []) h.nodes
      (entry_proper disturbance_members (is_disturbance (has_traffic p.version)) (disturbance_is_proper (has_traffic p.version)) (codes "disturbance") p.disturbance [] h.disturbances tt))

  abbrev plan_table : Members
  plan_table = sorted (all_members plan_entries)

  abbrev wide : Bool
  wide = has_controllers p.version

  plan_sees : (l : List ℕ) → get_member l plan_table ≡ option_map kept (found l plan_entries)
  plan_sees l = seen l plan_entries refl plan_proper

  pub plan_is_read : parse_document (plan_words p) ≡ Some (sorted (plan_members p)) → parse_document (plan_words p) ≡ Some plan_table
  plan_is_read read = read ∙ ap (λ (t : Members). Some (sorted t)) plan_is

  pub plan_is_proper : is_proper (plan_members p) ≡ true
  plan_is_proper = ap is_proper plan_is ∙ proper_entries plan_entries refl plan_proper

  version_number : is_number_of_key p.version ≡ true
  version_number = known_number p.version h.version

  version_read : number_at key.Version plan_table ≡ p.version
  version_read = number_seen key.Version plan_table p.version (plan_sees (codes "version")) version_number

  nodes_read : tables_at key.Node plan_table ≡ map (λ n. sorted (node_members p.version n)) p.node
  nodes_read = tables_seen (node_members p.version) key.Node plan_table p.node (plan_sees (codes "node"))

  disturbances_read : tables_at key.Disturbance plan_table ≡ map (λ d. sorted (disturbance_members d)) p.disturbance
  disturbances_read = tables_seen disturbance_members key.Disturbance plan_table p.disturbance (plan_sees (codes "disturbance"))

  plan_reads : plan_of plan_table ≡ p
  plan_reads =
      plan_by plan_table p version_read
      (number_seen key.End plan_table p.end (plan_sees (codes "end")) h.end, number_seen key.Per plan_table p.per (plan_sees (codes "per")) h.per)
      (ap (map (node_text_of p.version)) nodes_read
      ∙ map_back (node_members p.version) (node_text_of p.version) (λ n. n) (is_node p.version) (node_reads p.version h.version) p.node h.nodes ∙ map_same p.node)
      (ap (map disturbance_of) disturbances_read
      ∙ map_back disturbance_members disturbance_of (λ d. d) (is_disturbance (has_traffic p.version)) (disturbance_reads (has_traffic p.version)) p.disturbance h.disturbances ∙ map_same p.disturbance)
      (sync_seen plan_table p.sync (plan_sees (codes "sync")))
      (tick_seen wide plan_table p.tick (plan_sees (codes "tick")) h.tick, unit_seen wide plan_table p.unit (plan_sees (codes "unit")) h.unit)

  -- the printed plan is its own plain form
  top_plain : AllPlain Top plan_entries
  top_plain = (
    refl,
    (
      refl,
      (
        refl,
        (
          refl,
          (
            measure_plain Top (codes "tick") (codes "fs") p.tick refl refl,
            (
              measure_plain Top (codes "unit") (codes "um") p.unit refl refl,
              (tables_plain (node_members p.version) Top (codes "node") p.node refl, (tables_plain disturbance_members Top (codes "disturbance") p.disturbance refl, tt)),
            ),
          ),
        ),
      ),
    ),
  )

  plan_same : plain_document plan_table ≡ plan_table
  plan_same =
      document_same p h plan_table (sorted_in_order (all_members plan_entries)) (table_plain Top plan_entries top_plain) (plan_sees (codes "controller")) (plan_sees (codes "noise")) (plan_sees (codes "node")) (plan_sees (codes "disturbance"))

  plan_asks_none : asks_tick_in (number_at key.Version plan_table) plan_table ≡ false
  plan_asks_none =
      ap (λ (b : Bool). has_controllers (number_at key.Version plan_table) && b)
      (asks_no_tick p h plan_table (sorted_in_order (all_members plan_entries)) (table_plain Top plan_entries top_plain) (plan_sees (codes "controller")) (plan_sees (codes "noise")) (plan_sees (codes "node")) (plan_sees (codes "disturbance")))
      ∙ and-false (has_controllers (number_at key.Version plan_table))

  top_taken : AllTaken plan_table (key.Version ∷ key.End ∷ key.Per ∷ key.Node ∷ [])
  top_taken = (
    (integer (pos p.version), plan_sees (codes "version"), number_kind largest_number p.version version_number),
    (
      (integer (pos p.end), plan_sees (codes "end"), number_kind largest_number p.end h.end),
      ((integer (pos p.per), plan_sees (codes "per"), number_kind largest_number p.per h.per), (some_nodes p.version plan_table p.node h.some (plan_sees (codes "node")), tt)),
    ),
  )

  top_allowed : (b : Bool) → AllAllowed plan_table (top_optional b)
  top_allowed false = (
    tables_allowed disturbance_members key.Disturbance (λ d. refl) plan_table p.disturbance (plan_sees (codes "disturbance")),
    (inr (string (sync_word p.sync), plan_sees (codes "sync"), sync_kind p.sync), tt),
  )
  top_allowed true = (
    tables_allowed disturbance_members key.Disturbance (λ d. refl) plan_table p.disturbance (plan_sees (codes "disturbance")),
    (
      inr (string (sync_word p.sync), plan_sees (codes "sync"), sync_kind p.sync),
      (
        tick_allowed wide plan_table p.tick (plan_sees (codes "tick")) h.tick,
        (unit_allowed wide plan_table p.unit (plan_sees (codes "unit")) h.unit, (inl (plan_sees (codes "controller")), (inl (plan_sees (codes "noise")), tt))),
      ),
    ),
  )

  top_there : (b : Bool) → (b ≡ false → p.tick ≡ None) → (b ≡ false → p.unit ≡ None)
      → all_there (is_of_table key_text (key.Version ∷ key.End ∷ key.Per ∷ key.Node ∷ []) (top_optional b)) plan_entries ≡ true
  top_there true tick unit = refl
  top_there false tick unit = rw (tick refl, unit refl) refl

  top_fine : table_fault (top_keys (number_at key.Version plan_table) plan_table) plan_table ≡ None
  top_fine =
      ap (λ (b : Bool). table_fault (record { required = top_required b; optional = top_optional (has_controllers (number_at key.Version plan_table)) }) plan_table) plan_asks_none
      ∙ ap (λ (v : ℕ). table_fault (record { required = top_required false; optional = top_optional (has_controllers v) }) plan_table) version_read
      ∙ no_fault (key.Version ∷ key.End ∷ key.Per ∷ key.Node ∷ []) (top_optional wide) plan_entries top_taken (top_allowed wide)
      (top_there wide (scale_none wide LONGEST_TICK p.tick h.tick) (scale_none wide LONGEST_UNIT p.unit h.unit))

  pub plan_has_no_fault : plain_fault plan_table ≡ None
  plan_has_no_fault =
      no_first plan_table p
      (no_head plan_table (version_fine plan_table p.version (plan_sees (codes "version")) version_number h.version) top_fine (no_controllers plan_table (plan_sees (codes "controller"))))
      (ap (λ (v : ℕ). first_in (node_fault_at v) (tables_at key.Node plan_table)) version_read ∙ ap (first_in (node_fault_at p.version)) nodes_read
      ∙ quiet (node_members p.version) (node_fault_at p.version) (is_node p.version) (node_quiets p.version h.version) p.node h.nodes)
      (ap (λ (v : ℕ). first_in (disturbance_fault_at v) (tables_at key.Disturbance plan_table)) version_read ∙ ap (first_in (disturbance_fault_at p.version)) disturbances_read
      ∙ quiet disturbance_members (disturbance_fault_at p.version) (is_disturbance (has_traffic p.version)) (disturbance_quiets p.version) p.disturbance h.disturbances)
      plan_reads h.names

  pub plan_text_reads : plan_text_of plan_table ≡ Ok p
  plan_text_reads = no_fault_reads plan_table p plan_same plan_has_no_fault plan_reads

-- the document of a printed plan is its plan text's
pub printed_document : (p : PlanText) → is_printable p ≡ true → (top : Members) × (parse_document (plan_words p) ≡ Some top) × (plan_text_of top ≡ Ok p)
printed_document p is =
    let h = plan_facts p is in (
      sorted (plan_members p),
      read_document (plan_members p) (plan_words p) (plan_is_proper p h) (plan_lines p is),
      ap (λ (t : Members). plan_text_of (sorted t)) (plan_is p h) ∙ plan_text_reads p h,
    )

-- also after a line of a comment
pub printed_after : PrintedAfterComment
printed_after p cs is all =
    let h = plan_facts p is in (
      sorted (plan_members p),
      read_after (plan_members p) cs (plan_words p) (plan_is_proper p h) (plan_lines p is) all,
      ap (λ (t : Members). plan_text_of (sorted t)) (plan_is p h) ∙ plan_text_reads p h,
    )

read_by : (p : PlanText) (text : List ℕ) (top : Members) → is_utf8 text ≡ true → parse_document text ≡ Some top → plan_text_of top ≡ Ok p → text_answer text ≡ Ok p
read_by p text top utf8 parsed reads = rw (utf8, parsed) reads

-- and so is its text, as a string
pub printed_text : {Z : Type 0} (p : PlanText) (s : String Z) → string_bytes s ≡ plan_words p → PrintsBack p (string_bytes s)
printed_text p s same is =
    let (top, parsed, reads) = printed_document p is in
    read_by p (string_bytes s) top (is_utf8-from_IsUtf8 (string_bytes s) (IsUtf8-string_bytes s)) (ap parse_document same ∙ parsed) reads
