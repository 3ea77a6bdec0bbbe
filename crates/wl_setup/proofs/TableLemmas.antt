-- What is made of an array's tables one by one, and the first fault of a document whose top table has none.
use Rattle.std.proofs.Common.{◌≡◌, ◌≢◌, ℕ, true, false, List, [], ◌∷◌, ◌++◌, map, drop, length, Option, Some, None, Result, Err, refl, sym, subst}
use Rattle.std.proofs.lemmas.Option.{none-some}
use Rattle.std.specs.List.{enumerate_from}
use Rattle.toml.specs.Data.{Members}
use Rattle.toml.specs.View.{view}
use Rattle.toml.specs.declared.value.Value.{Value}
use Rattle.wl_setup.specs.declared.keys.Key.{Key}
use Rattle.wl_setup.specs.declared.keys.Key.TheVariants as key
use Rattle.wl_setup.specs.Keys.{TableKeys, table_keys}
use Rattle.wl_setup.specs.declared.fault.SetupFault.{SetupFault}
use Rattle.wl_setup.specs.declared.fault.SetupFault.TheVariants.{Memory}
use Rattle.wl_setup.specs.declared.table_path.PlacedFault.{PlacedFault}
use Rattle.wl_setup.specs.declared.table_path.TablePath.TheVariants.{Node}
use Rattle.wl_setup.specs.Kinds.{number_at, tables_at}
use Rattle.wl_setup.specs.Faults.{first_some, table_fault}
use Rattle.wl_setup.specs.Names.{first_repeat, names_of, same_name_fault}
use Rattle.wl_setup.specs.Texts.{plan_of}
use Rattle.wl_setup.specs.TablePaths.{disturbance_fault_at, fault_at, first_in, node_fault_at}
use Rattle.wl_setup.specs.Document.{AnswersAt, Passes, first_fault, head_fault, named_plain, named_text_of, plain_fault, read_form, tables_in}
use Rattle.wl_setup.specs.declared.plan_text.PlanText.{PlanText}
use Rattle.wl_setup.specs.Version.{has_controllers}
use Rattle.wl_plain.specs.Documents.{plain_document}

-- the first fault is among the tables from this place on, and what is made of them follows on what was made
abbrev pub AreMade : {T : Type 0} → (ℕ → Members → Option PlacedFault) → (Members → T) → List T → ℕ → List Value → Type 0
AreMade fault make made place values =
    (first_some (map (λ r. fault r.0 r.1) (enumerate_from (length made) (tables_in (map view (drop place values))))) ≡ first_in fault (tables_in (map view values)))
    × (made ++ map make (tables_in (map view (drop place values))) ≡ map make (tables_in (map view values)))

-- an answer that refuses
pub refused_so : {T : Type 0} (o : Option PlacedFault) (value : T) (f : PlacedFault) (answer : Result T PlacedFault) → (f.fault ≢ Memory → o ≡ Some f) → answer ≡ Err f → AnswersAt o value answer
refused_so o value f answer is refused = subst (λ a. AnswersAt o value a) (sym refused) is

next : {A : Type 0} (o : Option A) (os : List (Option A)) (x : Option A) → o ≡ None → first_some os ≡ x → first_some (o ∷ os) ≡ x
next None os x none is = is
next (Some y) os x none is = absurd (none-some y (sym none))

here : {A : Type 0} (o : Option A) (os : List (Option A)) (x : A) → o ≡ Some x → first_some (o ∷ os) ≡ Some x
here o os x is = rw is refl

-- where the top table and the controllers have no fault, the first one is that of the nodes, of the disturbances or of the names
module _ (top : Members) (head : head_fault top ≡ None) where
  abbrev nodes : Option PlacedFault
  nodes = first_in (node_fault_at (number_at key.Version top)) (tables_at key.Node top)

  abbrev disturbances : Option PlacedFault
  disturbances = first_in (disturbance_fault_at (number_at key.Version top)) (tables_at key.Disturbance top)

  inside : (os : List (Option PlacedFault)) (x : Option PlacedFault) → first_some os ≡ x → first_some (head_fault top ∷ os) ≡ x
  inside os x is = next _ _ x head is

  pub of_nodes : (f : PlacedFault) → nodes ≡ Some f → plain_fault top ≡ Some f
  of_nodes f is = inside _ (Some f) (here _ _ f is)

  pub of_disturbances : (f : PlacedFault) → nodes ≡ None → disturbances ≡ Some f → plain_fault top ≡ Some f
  of_disturbances f none is = inside _ (Some f) (next _ _ (Some f) none (here _ _ f is))

  pub of_names : (f : PlacedFault) → nodes ≡ None → disturbances ≡ None
      → fault_at (Node (first_repeat [] (names_of (plan_of top)))) (same_name_fault (plan_of top)) ≡ Some f → plain_fault top ≡ Some f
  of_names f none quiet is = inside _ (Some f) (next _ _ (Some f) none (next _ _ (Some f) quiet (here _ _ f is)))

-- the answer of a document is that of the form in which it is read
pub read_as : (form top : Members) (answer : Result (PlanText × List (List ℕ)) PlacedFault) → read_form top ≡ form
    → AnswersAt (plain_fault form) (named_plain form) answer → AnswersAt (first_fault top) (named_text_of top) answer
read_as form top answer is answers = subst (λ m. AnswersAt (plain_fault m) (named_plain m) answer) (sym is) answers

pub read_wide : (top : Members) → has_controllers (number_at key.Version top) ≡ true → read_form top ≡ plain_document top
read_wide top wide = rw wide refl

pub read_narrow : (top : Members) → has_controllers (number_at key.Version top) ≡ false → read_form top ≡ top
read_narrow top narrow = rw narrow refl

-- the test of a table by keys that are these
pub by_keys : (required optional : List Key) (keys : TableKeys) (t : Members) (answer : Result (Unit {0}) SetupFault) → required ≡ keys.required → optional ≡ keys.optional
    → Passes (table_fault (table_keys required optional) t) answer → Passes (table_fault keys t) answer
by_keys required optional keys t answer same also passes =
    subst (λ os. Passes (table_fault (table_keys keys.required os) t) answer) also (subst (λ rs. Passes (table_fault (table_keys rs optional) t) answer) same passes)
