-- What clap makes of words that name a subcommand is what it makes of them by that subcommand alone.
use Rattle.std.proofs.Common.{◌≡◌, ◌∙◌, ◌++◌, ◌||◌, refl, sym, subst, ap, ap₂, ℕ, Bool, true, false, [], ◌∷◌, List, fold, Option, Some, option_map, unwrap_or, append_assoc, append-nil}
use Rattle.std.specs.List.{list_any}
use Rattle.std.specs.Prelude.{find, is_some}
use Rattle.std.specs.Option.{option_map_or}
use Rattle.std.specs.Str.{bytes_eq}
use Rattle.std.proofs.lemmas.Slice.Eq.{bytes_eq-Decides}
use Rattle.clap.specs.Words.{App, Rule, Shape, Text, fault_of, is_simple_and_free, subcommand_of}
use Rattle.clap.specs.Faults.{built_fault, turn_fault, entered_fault, level_fault, walk_fault, settle_fault, defaults_fault, check_fault}
use Rattle.clap.specs.Kinds.{Kinds, or_else}
use Rattle.clap.specs.Simple.{built, new_shape, label_of, names_of, rows_at, entered}
use Rattle.clap.specs.Walk.{Held, Names, Waiting, Walk, answers_to, finished, idle, nothing_held, settled, walk, walk_from, walked, stop_after}
use Rattle.clap.proofs.OnLiterals.{clap_on_literals}
use Rattle.wl_words.specs.CommandLine.{bare_program, is_task_word, program, task_words, with_word}

-- the command line with the subcommand of this word alone
abbrev pub program_alone : Text → App
program_alone word = with_word bare_program word

-- a walk that has met a subcommand, and has these words for it
abbrev at_name : Held → Waiting → ℕ → Bool → Text → List Text → Walk
at_name h waiting position trailing name words =
    record { held = h; waiting = waiting; position = position; is_trailing = trailing; stopped = Some (name, words) }

module _ (c : List Rule) (names : Names) (h : Held) (waiting : Waiting) (position : ℕ) (trailing : Bool) (name : Text) where
  -- it hands on the words that are left
  stays : (words rest : List Text) → fold (walked c names) (at_name h waiting position trailing name words) rest ≡ at_name h waiting position trailing name (words ++ rest)
  unfolding walked
  stays words [] = ap (at_name h waiting position trailing name) (sym (append-nil words))
  stays words (w ∷ rest) = stays (words ++ w ∷ []) rest ∙ ap (at_name h waiting position trailing name) (append_assoc words (w ∷ []) rest)

module _ (s : Shape) (names : Names) (h : Held) (waiting : Waiting) (position : ℕ) (trailing : Bool) (name : Text) where
  -- and finds no fault in them
  no_faults : (words rest : List Text) → walk_fault s names (at_name h waiting position trailing name words) rest ≡ []
  unfolding walk_fault walked
  no_faults words [] = refl
  no_faults words (w ∷ rest) = no_faults (words ++ w ∷ []) rest

-- the parts of the walk over such words that don't depend on the words that are left
abbrev Meets : App → Text → Shape → Type 0
Meets a word s =
    (walked a.top.rules (names_of a) (walk_from nothing_held) word ≡ at_name nothing_held idle 1 false word [])
    × (find (λ (s : Shape). answers_to word (label_of s)) a.subs ≡ Some s) × (turn_fault a.top (names_of a) (walk_from nothing_held) word ≡ [])

-- the faults after the words, by the walk over them and the subcommand that it entered
abbrev faults_after : Shape → Walk → Bool → Kinds → Kinds
faults_after top w has below =
    or_else below (or_else (settle_fault top.rules top.args_override_self w.held)
    (or_else (defaults_fault (settled top.rules w.held).rows top.rules) (check_fault top (finished top.rules w.held) has)))

module _ (a : App) (word : Text) (rest : List Text) (s : Shape) (m : Meets a word s) where
  met : Walk
  met = at_name nothing_held idle 1 false word rest

  walks_on : walk a.top.rules (names_of a) nothing_held (word ∷ rest) ≡ at_name nothing_held idle 1 false word rest
  walks_on = ap (λ w. fold (walked a.top.rules (names_of a)) w rest) m.0 ∙ stays a.top.rules (names_of a) nothing_held idle 1 false word [] rest

  -- clap enters that subcommand, with the words that are left
  enters_one : entered a (stop_after a.top.rules (names_of a) (word ∷ rest)) ≡ Some (rows_at s rest)
  enters_one = ap (λ (w : Walk). entered a w.stopped) walks_on ∙ ap (option_map (λ (s : Shape). rows_at s rest)) m.1

  -- and finds the faults that are in these, or in what is then missing
  faults_in_one : built_fault a nothing_held (word ∷ rest)
      ≡ faults_after a.top (at_name nothing_held idle 1 false word rest) true (level_fault s [] nothing_held rest false [])
  unfolding walk_fault
  faults_in_one =
      let here = ap₂ or_else m.2 (ap (λ w. walk_fault a.top (names_of a) w rest) m.0 ∙ no_faults a.top (names_of a) nothing_held idle 1 false word [] rest) in
      let after = ap (λ (w : Walk). faults_after a.top w (is_some (entered a w.stopped)) (entered_fault a w.stopped)) walks_on in
      let found = ap (λ (o : Option Shape). faults_after a.top (at_name nothing_held idle 1 false word rest) (is_some (option_map (λ (s : Shape). rows_at s rest) o))
      (option_map_or (λ (s : Shape). level_fault s [] nothing_held rest false []) o [])) m.1 in
      ap₂ or_else here (after ∙ found)

-- two commands with the same subcommand, which the word names, make the same of these words
abbrev Alike : App → App → Text → Shape → Type 0
Alike a b word s = (a.top ≡ b.top) × Meets a word s × Meets b word s

alike_enters : (a b : App) (word : Text) (rest : List Text) (s : Shape) → Alike a b word s
    → entered a (stop_after a.top.rules (names_of a) (word ∷ rest)) ≡ entered b (stop_after b.top.rules (names_of b) (word ∷ rest))
alike_enters a b word rest s h = enters_one a word rest s h.1 ∙ sym (enters_one b word rest s h.2)

alike_faults : (a b : App) (word : Text) (rest : List Text) (s : Shape) → Alike a b word s
    → built_fault a nothing_held (word ∷ rest) ≡ built_fault b nothing_held (word ∷ rest)
alike_faults a b word rest s h =
    faults_in_one a word rest s h.1
    ∙ (ap (λ top. faults_after top (at_name nothing_held idle 1 false word rest) true (level_fault s [] nothing_held rest false [])) h.0
    ∙ sym (faults_in_one b word rest s h.2))

-- the subcommand of a word, with what building adds to it
abbrev built_sub : Text → Shape
built_sub word = unwrap_or (find (λ (s : Shape). answers_to word (label_of s)) (built (program_alone word)).subs) (new_shape word)

abbrev IsAlike : Text → Type 0
IsAlike word = Alike (built (program_alone word)) (built program) word (built_sub word)

-- what is found by a word's subcommand alone
pub record IsAlone (word : Text) : Type 0 where
  pub free : is_simple_and_free (program_alone word) ≡ true
  pub enters : (name : Text) (rest : List Text) → subcommand_of (program_alone word) (name ∷ word ∷ rest) ≡ subcommand_of program (name ∷ word ∷ rest)
  pub faults : (name : Text) (rest : List Text) → fault_of (program_alone word) (name ∷ word ∷ rest) ≡ fault_of program (name ∷ word ∷ rest)

abbrev Every : (Text → Type 0) → List Text → Type 0
Every P [] = Unit {0}
Every P (w ∷ ws) = P w × Every P ws

alone_by : (word : Text) → IsAlike word → is_simple_and_free (program_alone word) ≡ true → IsAlone word
alone_by word h free = record {
  free = free;
  enters = λ name rest. alike_enters (built (program_alone word)) (built program) word rest _ h;
  faults = λ name rest. alike_faults (built (program_alone word)) (built program) word rest _ h;
}

each_alike : Every IsAlike task_words
unfolding clap_on_literals
each_alike = (
  (refl, (refl, refl, refl), (refl, refl, refl)),
  (
    (refl, (refl, refl, refl), (refl, refl, refl)),
    (
      (refl, (refl, refl, refl), (refl, refl, refl)),
      (
        (refl, (refl, refl, refl), (refl, refl, refl)),
        (
          (refl, (refl, refl, refl), (refl, refl, refl)),
          (
            (refl, (refl, refl, refl), (refl, refl, refl)),
            (
              (refl, (refl, refl, refl), (refl, refl, refl)),
              (
                (refl, (refl, refl, refl), (refl, refl, refl)),
                (
                  (refl, (refl, refl, refl), (refl, refl, refl)),
                  (
                    (refl, (refl, refl, refl), (refl, refl, refl)),
                    (
                      (refl, (refl, refl, refl), (refl, refl, refl)),
                      (
                        (refl, (refl, refl, refl), (refl, refl, refl)),
                        (
                          (refl, (refl, refl, refl), (refl, refl, refl)),
                          (
                            (refl, (refl, refl, refl), (refl, refl, refl)),
                            (
                              (refl, (refl, refl, refl), (refl, refl, refl)),
                              ((refl, (refl, refl, refl), (refl, refl, refl)), ((refl, (refl, refl, refl), (refl, refl, refl)), ((refl, (refl, refl, refl), (refl, refl, refl)), tt))),
                            ),
                          ),
                        ),
                      ),
                    ),
                  ),
                ),
              ),
            ),
          ),
        ),
      ),
    ),
  ),
)

each_free : Every (λ word. is_simple_and_free (program_alone word) ≡ true) task_words
unfolding clap_on_literals
each_free = (refl, (refl, (refl, (refl, (refl, (refl, (refl, (refl, (refl, (refl, (refl, (refl, (refl, (refl, (refl, (refl, (refl, (refl, tt))))))))))))))))))

by_first : (P : Text → Type 0) (w : Text) (ws : List Text) (word : Text) (b : Bool) → bytes_eq word w ≡ b → P w
    → (list_any (bytes_eq word) ws ≡ true → P word) → list_any (bytes_eq word) (w ∷ ws) ≡ true → P word
by_first P w ws word true e here there is = subst P (sym ((bytes_eq-Decides word w).0 e)) here
by_first P w ws word false e here there is = there (sym (ap (λ b. b || list_any (bytes_eq word) ws) e) ∙ is)

-- what each word has, a word that names a subcommand has
each_has : (P : Text → Type 0) (words : List Text) → Every P words → (word : Text) → list_any (bytes_eq word) words ≡ true → P word
each_has P [] h word is = let no : false ≡ true = is in cc
each_has P (w ∷ ws) h word is = by_first P w ws word (bytes_eq word w) refl h.0 (each_has P ws h.1 word) is

pub is_alone : (word : Text) → is_task_word word ≡ true → IsAlone word
is_alone word is =
    alone_by word (each_has IsAlike task_words each_alike word is)
    (each_has (λ word. is_simple_and_free (program_alone word) ≡ true) task_words each_free word is)
