-- What clap finds at words, by the whole program or by the subcommand that they name alone.
use Rattle.std.proofs.Common.{◌≡◌, ◌∙◌, ◌<◌, refl, sym, subst, ap, inl, inr, arith, true, [], ◌∷◌, List, length, map}
use Rattle.std.specs.Prelude.{Result, Ok, Err, IfOk, IfErr, slice_index_or}
use Rattle.clap.specs.Words.{App, FailsBy, HasKind, HasMatchesOf, Text, fault_of, is_simple, is_simple_and_free, subcommand_of}
use Rattle.clap.specs.declared.error.Error.{Error}
use Rattle.clap.specs.declared.parser.matches.ArgMatches.{ArgMatches}
use Rattle.clap.proofs.OnLiterals.{clap_on_literals}
use Rattle.clap.proofs.WalkLemmas.{both}
use Rattle.wl_words.specs.CommandLine.{FailsByMemory, MatchesWords, is_task_word, program}
use Rattle.wl_words.proofs.Alone.{is_alone, program_alone}

pub program_is_free : is_simple_and_free program ≡ true
unfolding clap_on_literals
program_is_free = refl

-- the second of some words
abbrev pub IsSecond : Text → List Text → Type 0
IsSecond word words = (name : Text) × (rest : List Text) × (words ≡ name ∷ word ∷ rest)

pub second_is : {X : Type 0} (f : X → Text) (xs : List X) (x : X) → 1 < length xs → ((d : X) → x ≡ slice_index_or xs 1 d) → IsSecond (f x) (map f xs)
second_is f [] x h e = absurd (omega arith)
second_is f (a ∷ []) x h e = absurd (omega arith)
second_is f (a ∷ b ∷ rest) x h e = (f a, map f rest, ap (λ y. f a ∷ f y ∷ map f rest) (sym (e b)))

-- what a command finds that does with these words what the whole program does
found_as : (a : App) (words : List Text) (m : ArgMatches) → is_simple_and_free a ≡ true
    → subcommand_of a words ≡ subcommand_of program words → fault_of a words ≡ fault_of program words
    → HasMatchesOf a words m → (is_simple_and_free a ≡ true → fault_of a words ≡ []) → MatchesWords words m
found_as a words m free rows faults has clean = ((has (both (is_simple a) _ free).0).1 ∙ rows, sym faults ∙ clean free)

pub found_alone : (a : App) (words : List Text) (word : Text) (m : ArgMatches) → a ≡ program_alone word → is_task_word word ≡ true → IsSecond word words
    → HasMatchesOf a words m → (is_simple_and_free a ≡ true → fault_of a words ≡ []) → MatchesWords words m
found_alone a words word m is task second has clean =
    let alone = is_alone word task in
    let shape = second.2 in
    found_as a words m (ap is_simple_and_free is ∙ alone.free)
    (ap (λ (a : App). subcommand_of a words) is
    ∙ (ap (subcommand_of (program_alone word)) shape ∙ (alone.enters second.0 second.1 ∙ sym (ap (subcommand_of program) shape))))
    (ap (λ (a : App). fault_of a words) is
    ∙ (ap (fault_of (program_alone word)) shape ∙ (alone.faults second.0 second.1 ∙ sym (ap (fault_of program) shape))))
    has clean

module _ (a : App) (words : List Text) (is : a ≡ program) where
  pub found_whole : (r : Result ArgMatches Error) → IfOk r (HasMatchesOf a words) → (is_simple_and_free a ≡ true → FailsBy (fault_of a words) r)
      → IfOk r (MatchesWords words)
  found_whole (Ok m) has fails =
      found_as a words m (ap is_simple_and_free is ∙ program_is_free) (ap (λ (a : App). subcommand_of a words) is) (ap (λ (a : App). fault_of a words) is)
      has fails
  found_whole (Err e) has fails = tt

  -- of words without a fault, clap says no error but one of memory
  pub fails_by_memory : (r : Result ArgMatches Error) → (is_simple_and_free a ≡ true → FailsBy (fault_of a words) r) → IfErr r (FailsByMemory words)
  fails_by_memory (Ok m) fails = tt
  fails_by_memory (Err e) fails = λ clean.
      let has : HasKind [] e = subst (λ ks. HasKind ks e) (ap (λ (a : App). fault_of a words) is ∙ clean) (fails (ap is_simple_and_free is ∙ program_is_free)) in
      elim has [
        | inl memory ↦ memory
        | inr none ↦ absurd none
      ]
