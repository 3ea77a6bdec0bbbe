-- Which faults a document can have.
use Rattle.std.proofs.Common.{◌≡◌, ℕ, true, List, [], ◌∷◌, map, Option, None, Some, IfSome, option_map, option_and_then, suc, Err, refl, inl, inr}
use Rattle.std.specs.List.{AllByRecursion, enumerate_from}
use Rattle.std.proofs.lemmas.Bool.{cases_Bool}
use Rattle.toml.specs.Data.{Members, no_members, member, as_table}
use Rattle.wl_setup.specs.declared.keys.Key.TheVariants as key
use Rattle.wl_setup.specs.declared.fault.SetupFault.{SetupFault}
use Rattle.wl_setup.specs.declared.fault.SetupFault.TheVariants.{Version, Toml}
use Rattle.wl_setup.specs.declared.tables.Wrong.{Wrong}
use Rattle.wl_setup.specs.declared.tables.Wrong.TheVariants as wrong
use Rattle.wl_setup.specs.declared.plan_text.PlanText.{PlanText}
use Rattle.wl_setup.specs.Keys.{TableKeys, controller_keys}
use Rattle.wl_setup.specs.Kinds.{number_at, tables_at}
use Rattle.wl_setup.specs.Faults.{fault_of_controller, first_some, top_keys, required_fault, setup_fault, table_fault, node_keys, rate_keys, frame_keys, disturbance_keys, version_fault}
use Rattle.wl_setup.specs.Version.{is_known_version}
use Rattle.wl_setup.specs.Names.{first_repeat, has_repeat, names_of, same_name_fault}
use Rattle.wl_setup.specs.declared.table_path.PlacedFault.{PlacedFault}
use Rattle.wl_setup.specs.declared.table_path.TablePath.{TablePath}
use Rattle.wl_setup.specs.declared.table_path.TablePath.TheVariants.{Top, Controller, Node, Rate, Frame, Disturbance}
use Rattle.wl_setup.specs.TablePaths.{controller_faults, controller_tables, fault_at, rate_fault_at, frame_fault_at, disturbance_fault_at, first_in, node_fault_at}
use Rattle.wl_setup.specs.Texts.{plan_of}
use Rattle.wl_setup.specs.Document.{document_fault, first_fault, head_fault, is_document_fault, plain_fault, read_form, unless, OnlyDocumentFaults}
use Rattle.wl_setup.specs.Reading.{document_answer}
use Rattle.std.specs.Prelude.{if◌then◌else◌}

-- a fault that a document can have, if any, and one with its place
abbrev pub IsOfDocument : Option SetupFault → Type 0
IsOfDocument o = IfSome o (λ f. is_document_fault f ≡ true)

abbrev pub IsPlaced : Option PlacedFault → Type 0
IsPlaced o = IfSome o (λ f. is_document_fault f.fault ≡ true)

module _ {B : Type 0} (P : B → Type 0) where
  first_some_of : (os : List (Option B)) → AllByRecursion (λ o. IfSome o P) os → IfSome (first_some os) P
  first_some_of [] all = tt
  first_some_of (None ∷ os) all = first_some_of os all.1
  first_some_of (Some x ∷ os) all = all.0

  each_of : {A : Type 0} (f : A → Option B) → ((x : A) → IfSome (f x) P) → (xs : List A) → IfSome (first_some (map f xs)) P
  each_of {A} f each xs = first_some_of (map f xs) (all xs) where
    all : (ys : List A) → AllByRecursion (λ o. IfSome o P) (map f ys)
    all [] = tt
    all (y ∷ ys) = (each y, all ys)

abbrev has : SetupFault → Type 0
has f = is_document_fault f ≡ true

abbrev placed_has : PlacedFault → Type 0
placed_has f = is_document_fault f.fault ≡ true

placed_of : (at : TablePath) (o : Option SetupFault) → IsOfDocument o → IsPlaced (fault_at at o)
placed_of at None own = tt
placed_of at (Some f) own = own

unplaced_of : (o : Option PlacedFault) → IsPlaced o → IsOfDocument (option_map (λ f. f.fault) o)
unplaced_of None own = tt
unplaced_of (Some f) own = own

key_of_document : (o : Option (Wrong × List ℕ)) → IsOfDocument (option_map setup_fault o)
key_of_document None = tt
key_of_document (Some (wrong.Missing, key)) = refl
key_of_document (Some (wrong.Kind, key)) = refl
key_of_document (Some (wrong.Unknown, key)) = refl

table_of_document : (keys : TableKeys) (table : Members) → IsOfDocument (table_fault keys table)
table_of_document keys table = key_of_document _

in_document : (fault : ℕ → Members → Option PlacedFault) → ((n : ℕ) (table : Members) → IsPlaced (fault n table)) → (tables : List Members) → IsPlaced (first_in fault tables)
in_document fault own tables = each_of placed_has (λ r. fault r.0 r.1) (λ r. own r.0 r.1) (enumerate_from 0 tables)

node_of_document : (version i : ℕ) (node : Members) → IsPlaced (node_fault_at version i node)
node_of_document version i node = first_some_of placed_has (
    fault_at (Node i) (table_fault (node_keys version node) node) ∷ first_in (rate_fault_at i) (tables_at key.Rates node) ∷ first_in (frame_fault_at version i) (tables_at key.Frame node) ∷ []
    ) (placed_of (Node i) _ (table_of_document (node_keys version node) node), (in_document (rate_fault_at i) (λ n r. placed_of (Rate i n) _ (table_of_document (rate_keys r) r)) (tables_at key.Rates node), (in_document (frame_fault_at version i) (λ n f. placed_of (Frame i n) _ (table_of_document (frame_keys version f) f)) (tables_at key.Frame node), tt)))

known_of_document : (version : ℕ) → IsOfDocument (if is_known_version version then None else Some Version)
known_of_document version =
    elim (cases_Bool (is_known_version version)) [
      | inl known ↦ rw known tt
      | inr other ↦ rw other refl
    ]

version_of_document : (top : Members) → IsOfDocument (version_fault top)
version_of_document top = first_some_of has (
    required_fault top key.Version ∷ (if is_known_version (number_at key.Version top) then None else Some Version) ∷ []
    ) (key_of_document _, (known_of_document (number_at key.Version top), tt))

names_of_document : (plan : PlanText) → IsOfDocument (same_name_fault plan)
names_of_document plan =
    elim (cases_Bool (has_repeat (names_of plan))) [
      | inl same ↦ rw same refl
      | inr other ↦ rw other tt
    ]

controller_of_document : (o : Option Members) → IsOfDocument (option_and_then (table_fault controller_keys) o)
controller_of_document None = tt
controller_of_document (Some t) = table_of_document controller_keys t

controllers_of_document : (n : ℕ) (ms : Members) → IsPlaced (controller_faults n ms)
controllers_of_document n no_members = tt
controllers_of_document n (member k d ms) = first_some_of placed_has (
    fault_at (Controller n) (fault_of_controller d) ∷ controller_faults (suc n) ms ∷ []
    ) (placed_of (Controller n) _ (controller_of_document (as_table d)), (controllers_of_document (suc n) ms, tt))

head_of_document : (top : Members) → IsPlaced (head_fault top)
head_of_document top =
    let keys = top_keys (number_at key.Version top) top in
    first_some_of placed_has (
    fault_at Top (version_fault top) ∷ fault_at Top (table_fault keys top) ∷ controller_faults 0 (controller_tables top) ∷ []
    ) (placed_of Top _ (version_of_document top), (placed_of Top _ (table_of_document keys top), (controllers_of_document 0 (controller_tables top), tt)))

first_of_document : (top : Members) → IsPlaced (plain_fault top)
first_of_document top =
    let version = number_at key.Version top in
    first_some_of placed_has (
    head_fault top
    ∷ first_in (node_fault_at version) (tables_at key.Node top)
    ∷ first_in (disturbance_fault_at version) (tables_at key.Disturbance top)
    ∷ fault_at (Node (first_repeat [] (names_of (plan_of top)))) (same_name_fault (plan_of top)) ∷ []
    ) (head_of_document top, (in_document (node_fault_at version) (node_of_document version) (tables_at key.Node top), (in_document (disturbance_fault_at version) (λ n d. placed_of (Disturbance n) _ (table_of_document (disturbance_keys version d) d)) (tables_at key.Disturbance top), (placed_of _ _ (names_of_document (plan_of top)), tt))))

document_of_document : (top : Members) → IsOfDocument (document_fault top)
document_of_document top = unplaced_of (first_fault top) (first_of_document (read_form top))

-- the fault of a document is one that documents have
pub only_document_faults : OnlyDocumentFaults
only_document_faults top fault is = rw is at (document_of_document top)

toml_without : (o : Option SetupFault) (plan : PlanText) → IsOfDocument o → unless o plan ≡ Err Toml → ⊥
toml_without None plan own is = cc
toml_without (Some fault) plan own is = let same : fault ≡ Toml = cc in let own_toml = rw same at own in cc

-- Toml is the answer where there is no document, and nowhere else
pub toml_means_none : (o : Option Members) → document_answer o ≡ Err Toml → o ≡ None
toml_means_none None is = refl
toml_means_none (Some top) is = absurd (toml_without (document_fault top) (plan_of (read_form top)) (document_of_document top) is)
