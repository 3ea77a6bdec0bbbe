-- The texts of a topic are those that clap finds at its option.
use Rattle.std.proofs.Common.{◌∙◌, ◌++◌, ap, sym, map, unwrap_or, option_map, []}
use Rattle.std.proofs.lemmas.List.{append-nil}
use Rattle.std.proofs.lemmas.Result.{IfOk-weaker}
use Rattle.clap.specs.Words.{found_of, matched_of, raw_values}
use Rattle.clap.proofs.WalkLemmas.{raw_values-rows}
use Rattle.wl_settings.specs.Topics.{topic_option}
use Rattle.wl_words.specs.CommandLine.{asked_word}
use Rattle.wl_words.proofs.asked.with_topic.Goals as goal

pub returns-in-Some : goal.returns-in-Some
returns-in-Some c =
    let said = c.in-Some.ensures ∙ (ap (λ id. option_map raw_values (matched_of (found_of c.args.matches.now) id)) c.option.ensures
    ∙ raw_values-rows (found_of c.args.matches.now) (topic_option c.args.topic)) in
    IfOk-weaker c.with_texts.result _ _
    (λ all h. h ∙ ap (λ o. c.args.words.items ++ map (asked_word c.args.topic) (unwrap_or o [])) said) c.with_texts.ensures

pub returns-in-None : goal.returns-in-None
returns-in-None c =
    let said = c.in-None.ensures ∙ (ap (λ id. option_map raw_values (matched_of (found_of c.args.matches.now) id)) c.option.ensures
    ∙ raw_values-rows (found_of c.args.matches.now) (topic_option c.args.topic)) in
    sym (append-nil c.args.words.items) ∙ ap (λ o. c.args.words.items ++ map (asked_word c.args.topic) (unwrap_or o [])) said
