use Rattle.std.proofs.Common.{◌∙◌, ap, sym, Some, option_map}
use Rattle.clap.specs.Words.{found_of}
use Rattle.wl_words.specs.CommandLine.{number_or_zero}
use Rattle.wl_words.proofs.Words.{number_read, number_text}
use Rattle.wl_words.proofs.values.number_in.Goals as goal

pub returns : goal.returns
returns c =
    ap Some (c.unwrap_or.ensures ∙ number_read 64 c.in_ok-text.text.now c.parse.result c.parse.ensures.value.0)
    ∙ (ap (option_map (number_or_zero 64)) c.in_ok-text.ensures ∙ sym (number_text 64 c.args.id.now (found_of c.args.matches.now)))

pub returns-in_err-text : goal.returns-in_err-text
returns-in_err-text c =
    c.from_residual.ensures
    ∙ (ap (option_map (number_or_zero 64)) c.in_err-text.ensures ∙ sym (number_text 64 c.args.id.now (found_of c.args.matches.now)))
