use Rattle.std.proofs.Common.{◌∙◌, ap, sym, Some, option_map}
use Rattle.clap.specs.Words.{found_of}
use Rattle.clap.specs.Walk.{byte_or_zero}
use Rattle.clap.proofs.WalkLemmas.{byte_read}
use Rattle.wl_words.proofs.Words.{workers_text}
use Rattle.wl_words.proofs.values.workers_in.Goals as goal

pub returns : goal.returns
returns c =
    ap Some (c.unwrap_or.ensures ∙ byte_read c.in_ok-text.text.now c.parse.result c.parse.ensures.value.0)
    ∙ (ap (option_map byte_or_zero) c.in_ok-text.ensures ∙ sym (workers_text (found_of c.args.matches.now)))

pub returns-in_err-text : goal.returns-in_err-text
returns-in_err-text c =
    c.from_residual.ensures ∙ (ap (option_map byte_or_zero) c.in_err-text.ensures ∙ sym (workers_text (found_of c.args.matches.now)))
