use Rattle.std.proofs.Common.{◌++◌, codes, string_bytes}
use Rattle.std.proofs.lemmas.Result.{IfOk-equal}
use Rattle.std.specs.Fmt.{decimal}
use Rattle.wl_map.specs.Maps.{counts_words, step_words}
use Rattle.wl_map.proofs.Growing.{two_pieces}
use Rattle.wl_map.proofs.axes.push_counts.Goals as goal

pub returns : goal.returns
returns c =
    let o = c.args.options in
    let old = string_bytes c.args.text.now in
    let counts = codes "options --runs " ++ (decimal o.runs ++ (codes " --seed " ++ decimal o.seed)) in
    IfOk-equal c.push_step.result (string_bytes c.push_step.new.text) (string_bytes c.write.new.self ++ step_words o.step) (old ++ counts_words o)
    c.push_step.ensures (two_pieces old counts (step_words o.step) (string_bytes c.write.new.self) c.in_ok-write.ensures.bytes)
