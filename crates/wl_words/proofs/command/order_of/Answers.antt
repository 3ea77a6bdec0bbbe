use Rattle.std.proofs.Common.{◌≡◌, ◌∙◌, refl, ap, ap₂, sym, subst, map, codes, string_bytes, if◌then◌else◌, Bool, List, Option, Some, None, true, false}
use Rattle.std.specs.Prelude.{is_some}
use Rattle.clap.specs.Words.{Text}
use Rattle.clap.proofs.TakesLemmas.{passed_up}
use Rattle.wl_lines.specs.declared.formats.Format.{Format}
use Rattle.wl_words.specs.CommandLine.{Enters, FoundTask, are_fitting, asked_words_in, clash_in, entered, file_in, format_in, go_together, has_flag, ranges_in}
use Rattle.wl_words.specs.Asked.{Asks, FindsOrder}
use Rattle.wl_words.specs.declared.command.Order.{Order}
use Rattle.wl_words.proofs.command.order_of.Goals as goal

-- what was found for an order whose options go together, or not
found_fitting : (words : List Text) (order : Order) (fit b : Bool) → fit ≡ b → (go_together (entered words) ≡ true → Asks order words)
    → go_together (entered words) ≡ fit → FindsOrder words (if b then Some order else None)
found_fitting words order fit true e asks same = asks (same ∙ e)
found_fitting words order fit false e asks same = λ t enters. let no : false ≡ true = sym (same ∙ e) ∙ enters.3 in cc

pub returns-in-Some-format_of_subcommand-clause-order : goal.returns-in-Some-format_of_subcommand-clause-order
returns-in-Some-format_of_subcommand-clause-order c =
    let words : List Text = map string_bytes c.args.words.now in
    let rows = c.in_ok-matches.ensures.found.0 in
    let clean = c.in_ok-matches.ensures.found.1 in
    let found = (c.task_in.ensures c.in-Some.task).0 c.in-Some.is in
    let format = ap format_in (sym rows) ∙ (sym c.format_of_subcommand.ensures ∙ c.in-Some-format_of_subcommand.is) in
    let made = c.in_ok-order-in-Some-format_of_subcommand.ensures in
    let input = made.input ∙ ap (file_in (codes "input")) rows in
    let asked = made.asked ∙ ap asked_words_in rows in
    let wrong = c.clash_of_subcommand.ensures ∙ ap clash_in rows in
    let enters : go_together (entered words) ≡ true → Enters c.in-Some.task words = λ together.
    (subst (λ o. FoundTask o c.in-Some.task) rows found, clean, ap is_some format, together) in
    let order = c.in_ok-order-in-Some-format_of_subcommand.order in
    subst (FindsOrder words) (sym c.fitting.ensures) (
    found_fitting words order (are_fitting order.input order.asked.items c.clash_of_subcommand.result) _ refl
    (λ together. (
      subst (λ t. Enters t words) (sym made.task) (enters together),
      input,
      made.output ∙ ap (file_in (codes "output")) rows,
      made.hint ∙ ap (has_flag (codes "hint")) rows,
      made.progress ∙ ap (has_flag (codes "progress")) rows,
      made.ranges ∙ ap ranges_in rows,
      format ∙ ap Some (sym made.format),
      asked,
      made.apply ∙ ap (file_in (codes "apply")) rows,
    ))
    (sym (ap₂ (λ name words. are_fitting name words c.clash_of_subcommand.result) input asked ∙ ap (are_fitting _ _) wrong))
    )

no_format : (o : Option (Option Format)) → o ≡ None → is_some o ≡ true → ⊥
no_format o none some = let no : false ≡ true = sym (ap is_some none) ∙ some in cc

-- a format that there isn't
pub returns-in-Some-clause-order : goal.returns-in-Some-clause-order
returns-in-Some-clause-order c =
    let words : List Text = map string_bytes c.args.words.now in
    let rows = c.in_ok-matches.ensures.found.0 in
    let none = ap format_in (sym rows) ∙ (sym c.format_of_subcommand.ensures ∙ c.in-None-format_of_subcommand.is) in
    λ task enters. no_format _ none enters.2

none_is_some : {A : Type 0} (o : Option A) (x : A) → o ≡ None → o ≡ Some x → ⊥
none_is_some o x none some = let no : None ≡ Some x = sym none ∙ some in cc

pub returns-clause-order : goal.returns-clause-order
returns-clause-order c =
    let words : List Text = map string_bytes c.args.words.now in
    let rows = c.in_ok-matches.ensures.found.0 in
    λ task enters. none_is_some c.task_in.result task c.in-None.is ((c.task_in.ensures task).1 (subst (λ o. FoundTask o task) (sym rows) enters.0))

pub returns-in_err-matches-clause-memory : goal.returns-in_err-matches-clause-memory
returns-in_err-matches-clause-memory c =
    passed_up c.from_residual.result c.in_err-matches.field-0.0 _ c.from_residual.ensures.1
    (λ task enters. c.in_err-matches.ensures.memory enters.1)
